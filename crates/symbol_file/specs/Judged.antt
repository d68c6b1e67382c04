-- For private contracts, and cited by no public clause: rules 3 to 15, in the parts in which they are decided.
use Rattle.std.specs.Prelude.{◌≡◌, ℕ, List, [], ◌∷◌, map, Option, Some, None, Result, Ok, Err}
use Rattle.spec_plant.specs.Listed.{NamedType}
use Rattle.spec_rules.specs.Written as rules
use Rattle.spec_rules.specs.Verdict.{BrokenRule, first_broken, rules_of}
use Rattle.spec_rules.specs.RouteRules.{wrong_schema, wrong_net, wrong_rights}
use Rattle.spec_rules.specs.TypeRules.{wrong_type_name, wrong_part}
use Rattle.spec_rules.specs.PortRules.{wrong_port, wrong_upload}
use Rattle.spec_rules.specs.SymbolRules.{wrong_name, wrong_type, wrong_place, wrong_content, wrong_signal}
use Rattle.spec_rules.specs.Described.{types_described}
use Rattle.description_rules.specs.Faults.{fault_view}
use Rattle.description_rules.specs.KnownTypes.{AreAllKnown}
use Rattle.description_rules.specs.declared.verdict as code
use Rattle.description_rules.specs.declared.known_types.KnownTypes.{KnownTypes}
use Rattle.description_table.specs.Views.{document_view, type_view}
use Rattle.description_table.specs.declared.written.Document.{Document}

-- the least broken rule of a document
abbrev pub fault_of : ℕ → rules.Document → Option BrokenRule
fault_of signals d = first_broken (rules_of signals d (types_described d.types))

-- rules 3 to 7
abbrev pub fault_in_types : rules.Document → Option BrokenRule
fault_in_types d = first_broken (
    (3, wrong_schema d.schema)
    ∷ (4, wrong_net d.net d.routes)
    ∷ (5, wrong_rights d.routes)
    ∷ (6, wrong_type_name d.types)
    ∷ (7, wrong_part d.types)
    ∷ [])

-- rules 9 to 15
abbrev pub fault_in_ports : ℕ → rules.Document → List NamedType → Option BrokenRule
fault_in_ports signals d types = first_broken (
    (9, wrong_port d.schema d.ports)
    ∷ (10, wrong_name d.ports)
    ∷ (11, wrong_type types d.ports)
    ∷ (12, wrong_place types d.ports)
    ∷ (13, wrong_content types d.ports)
    ∷ (14, wrong_signal types signals d.ports)
    ∷ (15, wrong_upload types d.ports)
    ∷ [])

-- no rule is broken, and these are the types
pub record IsRight (signals : ℕ) (d : Document) (known : KnownTypes) : Type 0 where
  pub right : fault_of signals (document_view d) ≡ None
  pub types : AreAllKnown (map type_view d.types.items) known

-- the types of a document that keeps all rules, or the least broken rule
abbrev pub IsJudged : ℕ → Document → Result KnownTypes code.BrokenRule.BrokenRule → Type 0
IsJudged signals d (Ok known) = IsRight signals d known
IsJudged signals d (Err fault) = fault_of signals (document_view d) ≡ Some (fault_view fault)
