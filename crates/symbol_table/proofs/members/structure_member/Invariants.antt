-- The members before this one have other names.
use Rattle.std.proofs.Common.{◌≡◌, map, drop}
use Rattle.type_layout.specs.NamedTypes.{member_of}
use Rattle.symbol_table.proofs.MemberTexts.{text_among}
use Rattle.symbol_table.proofs.members.structure_member.Given as goal

abbrev pub invariant-loop-member : goal.invariant-loop-member
invariant-loop-member l = text_among (map member_of l.member-items) l.name ≡ text_among (drop l.member-index (map member_of l.member-items)) l.name
