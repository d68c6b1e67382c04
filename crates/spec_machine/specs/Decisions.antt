-- What one AMS packet leads to.
use Rattle.std.specs.Prelude.{ℕ, List, [], ◌∷◌}
use Rattle.spec_machine.specs.Acts.{Act, Refusal}
use Rattle.spec_machine.specs.Sums.{SumForm}

-- one request, or the parts of a sum
pub data ReplyForm : Type 0 where
  Single : ReplyForm
  Sum : SumForm → ReplyForm

-- a packet gets no answer; it ends the connection; it gets an AMS error; or acts are done for it
pub data Decision : Type 0 where
  NoAnswer : Decision
  EndConnection : Decision
  AmsError : ℕ → Decision
  Perform : List Act → ReplyForm → Decision

abbrev pub refuse : ℕ → Decision
refuse code = Perform (Refusal code ∷ []) Single

-- the acts of a decision
abbrev pub acts_in : Decision → List Act
acts_in NoAnswer = []
acts_in EndConnection = []
acts_in (AmsError code) = []
acts_in (Perform acts form) = acts
