use Rattle.std.proofs.Common.{◌≡◌, map, take}
use Rattle.type_layout.specs.NamedTypes.{member_of}
use Rattle.port_device.proofs.copying.copy_of_members.Given as goal

-- those before this one are copied
abbrev pub invariant-loop-member : goal.invariant-loop-member
invariant-loop-member l = map member_of l.copies.items ≡ map member_of (take l.member-index l.members)
