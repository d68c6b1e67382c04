use Rattle.std.proofs.Common.{◌≡◌, map, take}
use Rattle.type_layout.specs.NamedTypes.{named_type_of}
use Rattle.port_device.proofs.copying.copy_of_types.Given as goal

-- those before this one are copied
abbrev pub invariant-loop-named : goal.invariant-loop-named
invariant-loop-named l = map named_type_of l.copies.items ≡ map named_type_of (take l.named-index l.types)
