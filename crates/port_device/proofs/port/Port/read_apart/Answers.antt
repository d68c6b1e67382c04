use Rattle.std.proofs.Common.{rules, ◌≡◌, [], ◌∷◌, true, refl}
use Rattle.std.specs.Prelude.{Some, None}
use Rattle.return_codes.specs.declared.code.Code.TheVariants.{C702}
use Rattle.spec_formats.specs.Groups.{SymbolVersion, group_of}
use Rattle.spec_formats.specs.Ranges.{range_in}
use Rattle.spec_machine.specs.World.{setup_of}
use Rattle.spec_machine.specs.Reads.{fixed_reply, read_group}
use Rattle.index_groups.specs.declared.groups.Group.TheVariants as value
use Rattle.index_groups.specs.Groups.{group_meant, upload_meant}
use Rattle.port_device.specs.Answers.{range_read_act}
use Rattle.port_device.specs.Groups.{without_handles}
use Rattle.port_device.specs.Uploads.{upload_act}
use Rattle.port_device.proofs.GroupLemmas.{known, unknown}
use Rattle.port_device.proofs.ReadLemmas.{is_ranged, read_of_group, read_of_none, read_of_range, read_of_version, reads_as, refusal_answers}
use Rattle.port_device.proofs.UploadReads.{read_of_upload}
use Rattle.port_device.proofs.port.Port.read_apart.Goals as goal

pub returns-in-Some-Version-clause-answer : goal.returns-in-Some-Version-clause-answer
returns-in-Some-Version-clause-answer c =
    let x = c.args in
    let m = c.in-Some-Version in
    reads_as x.self.now c.read_version.result (λ w p. fixed_reply x.len (w.version ∷ []))
    (λ w d p. read_group (setup_of w) d p (without_handles (group_of x.group)) x.offset x.len) x.out.now c.read_version.new.out
    (λ w d p h. read_of_group (setup_of w) d p (group_of x.group) (Some SymbolVersion) x.offset x.len _
    (known c.of.result m.field-0 value.Version x.group m.is m.field-0-is c.of.ensures) (read_of_version (setup_of w) d p x.offset x.len))
    c.read_version.ensures.answer

pub returns-in-Some-Upload-clause-answer : goal.returns-in-Some-Upload-clause-answer
returns-in-Some-Upload-clause-answer c =
    let x = c.args in
    let m = c.in-Some-Upload in
    reads_as x.self.now c.read_upload.result (λ w p. upload_act (setup_of w) p m.upload x.len)
    (λ w d p. read_group (setup_of w) d p (without_handles (group_of x.group)) x.offset x.len) x.out.now c.read_upload.new.out
    (λ w d p h. read_of_group (setup_of w) d p (group_of x.group) (Some (upload_meant m.upload)) x.offset x.len _
    (known c.of.result m.field-0 (value.Upload m.upload) x.group m.is m.field-0-is c.of.ensures) (read_of_upload (setup_of w) d p m.upload x.offset x.len))
    c.read_upload.ensures.answer

pub returns-in-Some : goal.returns-in-Some
returns-in-Some c =
    let x = c.args in
    let g = c.in-Some.group in
    let ranged : is_ranged g ≡ true = search rules in
    record {
      answer = reads_as x.self.now c.read_range.result (λ w p. range_read_act p (range_in (Some (group_meant g)) p.sizes x.offset x.len))
          (λ w d p. read_group (setup_of w) d p (without_handles (group_of x.group)) x.offset x.len) x.out.now c.read_range.new.out
          (λ w d p h. read_of_group (setup_of w) d p (group_of x.group) (Some (group_meant g)) x.offset x.len _
          (known c.of.result g g x.group c.in-Some.is refl c.of.ensures) (read_of_range (setup_of w) d p g x.offset x.len ranged))
          c.read_range.ensures.answer;
      no_memory = c.read_range.ensures.no_memory;
    }

pub returns-in-None-clause-answer : goal.returns-in-None-clause-answer
returns-in-None-clause-answer c = λ w d p h.
    let x = c.args in
    refusal_answers w (read_group (setup_of w) d p (without_handles (group_of x.group)) x.offset x.len) C702 x.out.now
    (read_of_group (setup_of w) d p (group_of x.group) None x.offset x.len _ (unknown c.of.result x.group c.in-None.is c.of.ensures)
    (read_of_none (setup_of w) d p x.offset x.len))
