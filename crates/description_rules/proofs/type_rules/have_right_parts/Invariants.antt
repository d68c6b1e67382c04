use Rattle.std.proofs.Common.{◌≡◌, map, drop}
use Rattle.std.specs.List.{list_all}
use Rattle.spec_rules.specs.TypeRules.{has_right_parts}
use Rattle.description_table.specs.Views.{type_view}
use Rattle.description_rules.proofs.type_rules.have_right_parts.Given as goal

-- the types before this one have right parts
abbrev pub invariant-loop-kind : goal.invariant-loop-kind
invariant-loop-kind l = list_all has_right_parts (map type_view l.types) ≡ list_all has_right_parts (map type_view (drop l.kind-index l.types))
