-- How a part of a sum ends.
-- Beckhoff Information System, "ADS Sum Command".
use Rattle.std.specs.Prelude.{◌≡◌, ℕ, ◌+◌, List, [], ◌++◌, length, take, drop, Result, Ok, Err}
use Rattle.std.specs.Int.{w32, to_le_bytes}
use Rattle.spec_formats.specs.Codes.{no_error}
use Rattle.spec_formats.specs.Request.{Request, Read, ReadWrite}
use Rattle.spec_machine.specs.Acts.{Outcome}
use Rattle.return_codes.specs.declared.code.Code.{Code}
use Rattle.return_codes.specs.Code.{number_of}

-- the number of an answer: 0, or that of the code that refuses
abbrev pub code_in : {X : Type 0} → Result X Code → ℕ
code_in (Ok x) = no_error
code_in (Err code) = number_of code

-- a part ended so: the answer has its code, and its bytes were appended
pub record Gives {X : Type 0} (o : Outcome) (answer : Result X Code) (old new : List ℕ) : Type 0 where
  pub code : code_in answer ≡ o.code
  pub bytes : new ≡ old ++ o.bytes

-- the handle that an addition was answered, or 0
abbrev pub handle_in : Result ℕ Code → ℕ
handle_in (Ok handle) = handle
handle_in (Err code) = 0

abbrev pub handle_bytes : Result ℕ Code → List ℕ
handle_bytes (Ok handle) = to_le_bytes w32 handle
handle_bytes (Err code) = []

-- an addition ended so: the answer has its code, and its bytes are those of the handle
pub record GivesHandle (o : Outcome) (answer : Result ℕ Code) : Type 0 where
  pub code : code_in answer ≡ o.code
  pub bytes : o.bytes ≡ handle_bytes answer

-- the most bytes that a part is given
abbrev pub asked_of : Request → ℕ
asked_of (Read group offset len) = len
asked_of (ReadWrite group offset read_len bytes) = read_len
asked_of _ = 0

-- bytes written over those that stand at a place
abbrev pub written_over : ℕ → List ℕ → List ℕ → List ℕ
written_over at bytes text = take at text ++ bytes ++ drop (at + length bytes) text
