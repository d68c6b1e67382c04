-- What the reader of descriptions answers: the verdict on the bytes of a text.
use Rattle.std.specs.Prelude.{◌≡◌, ℕ, List, Result, Ok, Err}
use Rattle.spec_rules.specs.TextVerdict.{TextVerdict, Described, Breaks, NoDocument, text_verdict}
use Rattle.type_layout.specs.Descriptions.{description_of}
use Rattle.type_layout.specs.declared.description.Description as layout
use Rattle.symbol_file.specs.declared.fault.DescFault.{DescFault}
use Rattle.symbol_file.specs.declared.fault.DescFault.TheVariants.{Syntax, Rule}

-- the verdict that the code answers
abbrev pub answer_of : Result layout.Description DescFault → TextVerdict
answer_of (Ok description) = Described (description_of description)
answer_of (Err (Rule number item)) = Breaks number item
answer_of (Err Syntax) = NoDocument

-- the answer is the verdict on the text, for this number of signals
abbrev pub IsVerdict : ℕ → List ℕ → Result layout.Description DescFault → Type 0
IsVerdict signals text answer = answer_of answer ≡ text_verdict signals text
