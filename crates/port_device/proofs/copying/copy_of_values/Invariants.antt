use Rattle.std.proofs.Common.{◌≡◌, map, take}
use Rattle.type_layout.specs.NamedTypes.{value_of}
use Rattle.port_device.proofs.copying.copy_of_values.Given as goal

-- those before this one are copied
abbrev pub invariant-loop-value : goal.invariant-loop-value
invariant-loop-value l = map value_of l.copies.items ≡ map value_of (take l.value-index l.values)
