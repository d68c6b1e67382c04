use Rattle.std.specs.Prelude.{Some}
use Rattle.spec_formats.specs.Groups.{group_of}
use Rattle.type_layout.specs.Descriptions.{rights_of}
use Rattle.type_layout.specs.declared.port.Area.TheVariants as area
use Rattle.index_groups.specs.declared.groups.Group.TheVariants as value
use Rattle.index_groups.specs.Groups.{group_meant}
use Rattle.port_device.proofs.GroupLemmas.{group_of_data}
use Rattle.port_device.proofs.WriteLemmas.{ends_along}
use Rattle.port_device.proofs.port.Port.write.Goals as goal

pub returns-then-group-eq-PROCESS_BYTES-clause-answer : goal.returns-then-group-eq-PROCESS_BYTES-clause-answer
returns-then-group-eq-PROCESS_BYTES-clause-answer c =
    let x = c.args in
    ends_along x.self.now c.write_range.new.self (group_of x.group) (Some (group_meant (value.Bytes area.Process))) x.offset x.bytes.now (rights_of x.rights)
    x.source.bytes c.write_range.result (group_of_data x.group c.if-group-eq-PROCESS_BYTES.true) c.write_range.ensures.answer
