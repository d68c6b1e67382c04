use Rattle.std.proofs.Common.{ap, sym, ◌∙◌, refl}
use Rattle.std.specs.Prelude.{None, Some}
use Rattle.return_codes.specs.declared.code.Code.TheVariants.{C702}
use Rattle.spec_formats.specs.Groups.{group_of}
use Rattle.spec_machine.specs.Writes.{write_group}
use Rattle.type_layout.specs.Descriptions.{rights_of}
use Rattle.index_groups.specs.Groups.{group_meant}
use Rattle.port_device.specs.Groups.{written_by_port}
use Rattle.port_device.proofs.GroupLemmas.{known, not_written, unknown}
use Rattle.port_device.proofs.WriteLemmas.{ends_along, refused}
use Rattle.port_device.proofs.port.Port.write_apart.Goals as goal

pub returns-in-Some-clause-answer : goal.returns-in-Some-clause-answer
returns-in-Some-clause-answer c =
    let x = c.args in
    let g = c.in-Some.group in
    ends_along x.self.now c.write_range.new.self (group_of x.group) (Some (group_meant g)) x.offset x.bytes.now (rights_of x.rights) x.source.bytes
    c.write_range.result (known c.of.result g g x.group c.in-Some.is refl c.of.ensures) c.write_range.ensures.answer

pub returns-in-None-clause-answer : goal.returns-in-None-clause-answer
returns-in-None-clause-answer c = λ w d k h asker.
    let x = c.args in
    refused w k.port x.self.now _ C702 h
    (ap (λ o. write_group d k (written_by_port o) x.offset x.bytes.now) (sym (unknown c.of.result x.group c.in-None.is c.of.ensures))
    ∙ not_written d k None x.offset x.bytes.now refl)
