-- Why a text is no description, or that it is one; no public clause cites this.
use Rattle.std.specs.Prelude.{◌≡◌, ℕ, List, Option, Some, None, Err}
use Rattle.spec_plant.specs.Description.{Description}
use Rattle.spec_rules.specs.TextVerdict.{Described, text_verdict}
use Rattle.symbol_file.specs.declared.fault.DescFault.{DescFault}
use Rattle.symbol_file.specs.Reading.{answer_of}

abbrev pub IsFault : ℕ → List ℕ → Option DescFault → Type 0
IsFault signals bytes None = (d : Description) × (text_verdict signals bytes ≡ Described d)
IsFault signals bytes (Some fault) = answer_of (Err fault) ≡ text_verdict signals bytes
