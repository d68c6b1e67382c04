-- The verdict on a document: its description, or the least broken rule and in it the least item.
use Rattle.std.specs.Prelude.{ℕ, min, List, [], ◌∷◌, Option, Some, None, Result, Ok, Err}
use Rattle.toml.specs.Data.{Members}
use Rattle.spec_plant.specs.Description.{Description}
use Rattle.spec_plant.specs.Listed.{NamedType}
use Rattle.spec_rules.specs.Written.{Document}
use Rattle.spec_rules.specs.Tables.{document_in}
use Rattle.spec_rules.specs.RouteRules.{wrong_schema, wrong_net, wrong_rights}
use Rattle.spec_rules.specs.TypeRules.{wrong_type_name, wrong_part}
use Rattle.spec_rules.specs.SizeRules.{wrong_size}
use Rattle.spec_rules.specs.PortRules.{wrong_port, wrong_upload}
use Rattle.spec_rules.specs.SymbolRules.{wrong_name, wrong_type, wrong_place, wrong_content, wrong_signal}
use Rattle.spec_rules.specs.Described.{types_described, description_of}

-- a broken rule: its number, and the least item at which it is broken
pub record BrokenRule : Type 0 where
  pub number : ℕ
  pub item : ℕ

-- the item, which stands still at the end of 32 bits
abbrev pub broken_at : ℕ → ℕ → BrokenRule
broken_at number place = record { number = number; item = min place 4294967295 }

-- the first of these rules that has a broken item
abbrev pub first_broken : List (ℕ × Option ℕ) → Option BrokenRule
first_broken [] = None
first_broken ((number, None) ∷ rules) = first_broken rules
first_broken ((number, Some place) ∷ rules) = Some (broken_at number place)

-- rules 3 to 15, each with the least item at which it is broken
abbrev pub rules_of : ℕ → Document → List NamedType → List (ℕ × Option ℕ)
rules_of signals d types =
    (3, wrong_schema d.schema)
    ∷ (4, wrong_net d.net d.routes)
    ∷ (5, wrong_rights d.routes)
    ∷ (6, wrong_type_name d.types)
    ∷ (7, wrong_part d.types)
    ∷ (8, wrong_size types)
    ∷ (9, wrong_port d.schema d.ports)
    ∷ (10, wrong_name d.ports)
    ∷ (11, wrong_type types d.ports)
    ∷ (12, wrong_place types d.ports)
    ∷ (13, wrong_content types d.ports)
    ∷ (14, wrong_signal types signals d.ports)
    ∷ (15, wrong_upload types d.ports)
    ∷ []

-- the fault, or the description where there is none
abbrev pub judged : Option BrokenRule → Description → Result Description BrokenRule
judged None description = Ok description
judged (Some fault) description = Err fault

-- the verdict on what a document writes
abbrev pub document_verdict : ℕ → Document → Result Description BrokenRule
document_verdict signals d =
    judged (first_broken (rules_of signals d (types_described d.types))) (description_of d)

-- where the tables are not those of a description, rule 2 is broken
abbrev pub verdict_behind : ℕ → Option Document → Result Description BrokenRule
verdict_behind signals None = Err (broken_at 2 0)
verdict_behind signals (Some d) = document_verdict signals d

-- the verdict on the table of a document, for this number of signals
abbrev pub table_verdict : ℕ → Members → Result Description BrokenRule
table_verdict signals table = verdict_behind signals (document_in table)
