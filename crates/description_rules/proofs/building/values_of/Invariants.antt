use Rattle.std.proofs.Common.{◌≡◌, map, take}
use Rattle.type_layout.specs.NamedTypes.{value_of}
use Rattle.description_table.specs.Views.{value_view}
use Rattle.description_rules.proofs.building.values_of.Given as goal

-- the values before this one are built
abbrev pub invariant-loop-value : goal.invariant-loop-value
invariant-loop-value l = map value_of l.built ≡ map value_view (take l.value-index l.values)
