-- The payloads of replies that have whole.
use Rattle.std.proofs.Common.{◌≡◌, ℕ, ◌+◌, ◌-◌, ◌≤◌, List, [], ◌++◌, length, take, drop, refl, sym, ◌∙◌, ap}
use Rattle.std.proofs.Common.{arith, append_assoc, length-append, take_at, drop_at, length-take}
use Rattle.std.specs.Prelude.{Result, Ok, Err, ◌==◌}
use Rattle.std.specs.Int.{w32, to_le_bytes}
use Rattle.std.proofs.lemmas.Bool.{cases_Bool}
use Rattle.std.proofs.lemmas.List.{drop-drop, take-append-le}
use Rattle.std.proofs.Common.{inl, inr}
use Rattle.return_codes.specs.declared.code.Code.{Code}
use Rattle.spec_plant.specs.World.{Block}
use Rattle.spec_machine.specs.World.{World}
use Rattle.spec_formats.specs.Codes.{no_error}
use Rattle.spec_formats.specs.Reply.{Read, ReadWrite, written_bytes}
use Rattle.spec_machine.specs.Acts.{Act, Refusal, Allowed, outcome_of}
use Rattle.spec_machine.specs.Answers.{READ, READ_WRITE}
use Rattle.spec_machine.specs.Replies.{reply_payload, reply_in_forms}
use Rattle.sum_commands.specs.Parts.{code_in}
use Rattle.port_device.specs.Answers.{AnswersAct}
use Rattle.session.specs.Plain.{data_payload}
use Rattle.session.proofs.SingleLemmas.{gives-answer}

pub filled-front : (out f1 f2 number le : List ℕ) (start len code : ℕ) → start + 8 ≤ length out → len ≡ length out - (start + 8)
    → number ≡ to_le_bytes w32 code → le ≡ to_le_bytes w32 len
    → f1 ≡ take start out ++ number ++ drop (start + length number) out
    → f2 ≡ take (start + 4) f1 ++ le ++ drop (start + 4 + length le) f1
    → f2 ≡ take start out ++ (to_le_bytes w32 code ++ (to_le_bytes w32 (length out - (start + 8)) ++ drop (start + 8) out))
filled-front out f1 f2 number le start len code there is_len is_number is_le first second =
    let four : length number ≡ 4 = ap length is_number in
    let four' : length le ≡ 4 = ap length is_le in
    let head = take start out ++ number in
    let f1_is : f1 ≡ head ++ drop (start + 4) out = first ∙ ap (λ n. head ++ drop (start + n) out) four in
    let count : length head ≡ start + 4 = omega (arith, length-append (take start out) number, length-take start out, four, there) in
    let front : take (start + 4) f1 ≡ head = ap (take (start + 4)) f1_is ∙ take_at head (drop (start + 4) out) (start + 4) count in
    let after : drop (start + 4) f1 ≡ drop (start + 4) out = ap (drop (start + 4)) f1_is ∙ drop_at head (drop (start + 4) out) (start + 4) count in
    let same : start + 4 + 4 ≡ start + 8 = omega arith in
    let behind : drop (start + 4 + 4) f1 ≡ drop (start + 8) out =
    sym (drop-drop 4 (start + 4) f1) ∙ ap (drop 4) after ∙ drop-drop 4 (start + 4) out ∙ ap (λ n. drop n out) same in
    second ∙ ap (λ n. take (start + 4) f1 ++ le ++ drop (start + 4 + n) f1) four' ∙ ap (λ x. x ++ le ++ drop (start + 4 + 4) f1) front
    ∙ ap (λ x. head ++ le ++ x) behind ∙ append_assoc head le (drop (start + 8) out) ∙ append_assoc (take start out) number (le ++ drop (start + 8) out)
    ∙ ap (λ x. take start out ++ (x ++ (le ++ drop (start + 8) out))) is_number
    ∙ ap (λ x. take start out ++ (to_le_bytes w32 code ++ (x ++ drop (start + 8) out))) (is_le ∙ ap (to_le_bytes w32) is_len)

-- a refusal gives no whole, so its refused form is the one of no whole

read-written : (memory : List Block) (act : Act) → let o = outcome_of memory act in written_bytes (Read o.code o.bytes) ≡ data_payload o.code o.bytes
unfolding written_bytes
read-written memory (Allowed access) = let o = outcome_of memory (Allowed access) in
    append_assoc (to_le_bytes w32 no_error) (to_le_bytes w32 (length o.bytes)) o.bytes
read-written memory (Refusal code) = refused-read code
  where
    refused-read : (code : ℕ) → written_bytes (Read code []) ≡ data_payload code []
    refused-read code = elim (cases_Bool (code == 0)) [ inl t ↦ rw t refl | inr t ↦ rw t refl ]

read_write-written : (memory : List Block) (act : Act) → let o = outcome_of memory act in written_bytes (ReadWrite o.code o.bytes) ≡ data_payload o.code o.bytes
unfolding written_bytes
read_write-written memory (Allowed access) = let o = outcome_of memory (Allowed access) in
    append_assoc (to_le_bytes w32 no_error) (to_le_bytes w32 (length o.bytes)) o.bytes
read_write-written memory (Refusal code) = refused-read code
  where
    refused-read : (code : ℕ) → written_bytes (ReadWrite code []) ≡ data_payload code []
    refused-read code = elim (cases_Bool (code == 0)) [ inl t ↦ rw t refl | inr t ↦ rw t refl ]

pub read-payload : (memory : List Block) (act : Act) → let o = outcome_of memory act in reply_payload READ o ≡ data_payload o.code o.bytes
unfolding reply_in_forms
read-payload memory act = read-written memory act

pub read_write-payload : (memory : List Block) (act : Act) → let o = outcome_of memory act in reply_payload READ_WRITE o ≡ data_payload o.code o.bytes
unfolding reply_in_forms
read_write-payload memory act = read_write-written memory act

-- an answer is no shorter than what stood there
pub answer-grows : (w : World) (act : Act) (answer : Result (Unit {0}) Code) (old new : List ℕ) → AnswersAct w act answer old new → length old ≤ length new
answer-grows w act (Ok done) old new h = omega (arith, ap length h.1, length-append old (outcome_of w.memory act).bytes)
answer-grows w act (Err code) old new h = omega (arith, ap length h.1)

-- whole behind room that is filled in
pub data-filled : (old mid whole new bytes : List ℕ) (start number code : ℕ) → whole ≡ mid ++ bytes → number ≡ code → start ≡ length old
    → length mid ≡ length old + 8 → take (length old) mid ≡ old
    → new ≡ take start whole ++ (to_le_bytes w32 number ++ (to_le_bytes w32 (length whole - (start + 8)) ++ drop (start + 8) whole))
    → new ≡ old ++ data_payload code bytes
data-filled old mid whole new bytes start number code is_data is_number is_start long begins filled =
    let count : length mid ≡ start + 8 = omega (arith, long, is_start) in
    let front : take start whole ≡ old =
    ap (λ n. take n whole) is_start ∙ ap (take (length old)) is_data ∙ take-append-le (length old) mid bytes (omega (arith, long)) ∙ begins in
    let behind : drop (start + 8) whole ≡ bytes = ap (drop (start + 8)) is_data ∙ drop_at mid bytes (start + 8) count in
    let len : length whole - (start + 8) ≡ length bytes = omega (arith, ap length is_data, length-append mid bytes, count) in
    filled ∙ ap (λ x. x ++ (to_le_bytes w32 number ++ (to_le_bytes w32 (length whole - (start + 8)) ++ drop (start + 8) whole))) front
    ∙ ap (λ n. old ++ (to_le_bytes w32 n ++ (to_le_bytes w32 (length whole - (start + 8)) ++ drop (start + 8) whole))) is_number
    ∙ ap (λ n. old ++ (to_le_bytes w32 code ++ (to_le_bytes w32 n ++ drop (start + 8) whole))) len
    ∙ ap (λ x. old ++ (to_le_bytes w32 code ++ (to_le_bytes w32 (length bytes) ++ x))) behind

pub answer-filled : (w : World) (act : Act) (answer : Result (Unit {0}) Code) (old mid whole new : List ℕ) (start number : ℕ)
    → AnswersAct w act answer mid whole → number ≡ code_in answer → start ≡ length old
    → length mid ≡ length old + 8 → take (length old) mid ≡ old
    → new ≡ take start whole ++ (to_le_bytes w32 number ++ (to_le_bytes w32 (length whole - (start + 8)) ++ drop (start + 8) whole))
    → let o = outcome_of w.memory act in new ≡ old ++ data_payload o.code o.bytes
answer-filled w act answer old mid whole new start number answers is_number is_start long begins filled =
    let o = outcome_of w.memory act in
    let g = gives-answer w act answer mid whole answers in
    data-filled old mid whole new o.bytes start number o.code g.bytes (is_number ∙ g.code) is_start long begins filled
