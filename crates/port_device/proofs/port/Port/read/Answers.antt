use Rattle.std.proofs.Common.{refl}
use Rattle.std.specs.Prelude.{Some}
use Rattle.spec_formats.specs.Groups.{group_of}
use Rattle.spec_formats.specs.Ranges.{range_in}
use Rattle.spec_machine.specs.World.{setup_of}
use Rattle.spec_machine.specs.Reads.{read_group}
use Rattle.type_layout.specs.declared.port.Area.TheVariants as area
use Rattle.index_groups.specs.declared.groups.Group.TheVariants as value
use Rattle.index_groups.specs.Groups.{group_meant}
use Rattle.port_device.specs.Answers.{range_read_act}
use Rattle.port_device.specs.Groups.{without_handles}
use Rattle.port_device.proofs.GroupLemmas.{group_of_data}
use Rattle.port_device.proofs.ReadLemmas.{read_of_group, read_of_range, reads_as}
use Rattle.port_device.proofs.port.Port.read.Goals as goal

pub returns-then-group-eq-PROCESS_BYTES-clause-answer : goal.returns-then-group-eq-PROCESS_BYTES-clause-answer
returns-then-group-eq-PROCESS_BYTES-clause-answer c =
    let x = c.args in
    let group = value.Bytes area.Process in
    reads_as x.self.now c.read_range.result (λ w p. range_read_act p (range_in (Some (group_meant group)) p.sizes x.offset x.len))
    (λ w d p. read_group (setup_of w) d p (without_handles (group_of x.group)) x.offset x.len) x.out.now c.read_range.new.out
    (λ w d p h. read_of_group (setup_of w) d p (group_of x.group) (Some (group_meant group)) x.offset x.len _
    (group_of_data x.group c.if-group-eq-PROCESS_BYTES.true) (read_of_range (setup_of w) d p group x.offset x.len refl))
    c.read_range.ensures.answer
