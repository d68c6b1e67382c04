use Rattle.std.proofs.Common.{◌∷◌, [], map, ◌≡◌, ◌+◌, ◌≤◌, ◌<◌, length, sym, ◌∙◌, ap, subst, arith}
use Rattle.std.specs.Prelude.{Some, Ok, Err}
use Rattle.return_codes.specs.declared.code.Code.TheVariants.{C702, C704}
use Rattle.return_codes.specs.Code.{number_of}
use Rattle.spec_plant.specs.Description.{size_in}
use Rattle.spec_plant.specs.Description as plant
use Rattle.spec_formats.specs.Ranges.{Bytes, Bit, range_in}
use Rattle.spec_machine.specs.Acts.{Act}
use Rattle.spec_machine.specs.World.{name_at, names_at}
use Rattle.spec_machine.specs.Access.{WholeByte, OneBit}
use Rattle.spec_machine.specs.Reach.{addressed_by_range}
use Rattle.spec_machine.specs.Writes.{may_write, write_act}
use Rattle.index_groups.specs.Access.{range_meant}
use Rattle.index_groups.specs.Groups.{group_meant}
use Rattle.type_layout.specs.Descriptions.{area_of, sizes_of}
use Rattle.port_device.specs.Endings.{EndsAs}
use Rattle.port_device.specs.Holds.{HoldsPort}
use Rattle.port_device.specs.PortMemory.{PortMemory}
use Rattle.port_device.specs.Ports.{memory_in}
use Rattle.port_device.proofs.GroupLemmas.{not_written, reached, range_len, write_is, write_denied}
use Rattle.port_device.proofs.ImageLemmas.{one_element}
use Rattle.port_device.proofs.PortLemmas.{same_sizes}
use Rattle.port_device.proofs.WriteLemmas.{refused}
use Rattle.port_device.proofs.port.Port.write_range.Goals as goal

pub returns-then-not-is_written-clause-answer : goal.returns-then-not-is_written-clause-answer
returns-then-not-is_written-clause-answer c = λ w d k h asker.
    refused w k.port c.args.self.now _ C702 h
    (not_written d k (Some (group_meant c.args.group)) c.args.offset c.args.bytes.now (sym c.is_written.ensures ∙ c.if-not-is_written.true))

pub returns-then-not-may_write-clause-answer : goal.returns-then-not-may_write-clause-answer
returns-then-not-may_write-clause-answer c = λ w d k h asker.
    let may = ap may_write asker.rights_are ∙ sym c.may_write.ensures ∙ c.if-not-may_write.true in
    refused w k.port c.args.self.now _ C704 h
    (write_denied d k (Some (group_meant c.args.group)) c.args.offset c.args.bytes.now (sym c.is_written.ensures ∙ c.if-not-is_written.false) may)

pub write_bytes-requires : goal.write_bytes-requires
write_bytes-requires c =
    let sizes = sizes_of c.self.inside.sizes in
    let at_ = c.in-Ok-Bytes.«at» in
    let area = area_of c.in-Ok-Bytes.area in
    let bytes = c.args.bytes.now in
    let rule = rw c.in-Ok-Bytes.field-0-is at c.in-Ok-Bytes.ensures.rule in
    let e = reached sizes (Some (group_meant c.args.group)) c.args.offset c.short_len.result (length bytes)
    (Ok (Bytes area at_ c.in-Ok-Bytes.field-0-2)) c.short_len.ensures rule in
    let len = range_len (Some (group_meant c.args.group)) sizes c.args.offset (length bytes) (Bytes area at_ c.in-Ok-Bytes.field-0-2) e in
    let within = rw c.in-Ok-Bytes.field-0-is at c.in-Ok-Bytes.ensures.within in
    let ends = within.ends in
    let P : plant.Sizes → Type 0 = λ s. at_ + length bytes ≤ size_in s area in
    let Q : PortMemory → Type 0 = λ x. at_ + length bytes ≤ size_in x.table.sizes area in
    subst Q c.self.view_is (subst P (sym c.self.invariant.sizes_are) (omega (arith, ends, len)))

pub write_bit-requires : goal.write_bit-requires
write_bit-requires c =
    let at_ = c.in-Ok-Bit.«at» in
    let area = area_of c.in-Ok-Bit.area in
    let within = rw c.in-Ok-Bit.field-0-is at c.in-Ok-Bit.ensures.within in
    let P : plant.Sizes → Type 0 = λ s. at_ < size_in s area in
    let Q : PortMemory → Type 0 = λ x. at_ < size_in x.table.sizes area in
    record { within = subst Q c.self.view_is (subst P (sym c.self.invariant.sizes_are) within.byte); bit = within.bit_of_byte }

pub bounds-bytes-0 : goal.bounds-bytes-0
bounds-bytes-0 c =
    let sizes = sizes_of c.self.inside.sizes in
    let bytes = c.args.bytes.now in
    let r = Bit (area_of c.in-Ok-Bit.area) c.in-Ok-Bit.«at» c.in-Ok-Bit.bit in
    let rule = rw c.in-Ok-Bit.field-0-is at c.in-Ok-Bit.ensures.rule in
    let e = reached sizes (Some (group_meant c.args.group)) c.args.offset c.short_len.result (length bytes) (Ok r) c.short_len.ensures rule in
    let len : length bytes ≡ 1 = range_len (Some (group_meant c.args.group)) sizes c.args.offset (length bytes) r e in
    omega (arith, len)

pub returns-in-Ok-Bytes-clause-answer : goal.returns-in-Ok-Bytes-clause-answer
returns-in-Ok-Bytes-clause-answer c = λ w d k h asker.
    let m : PortMemory = memory_in c.self.inside in
    let held : HoldsPort w k.port m = subst (HoldsPort w k.port) (sym c.self.view_is) h in
    let sizes = sizes_of c.self.inside.sizes in
    let g = Some (group_meant c.args.group) in
    let at_ = c.in-Ok-Bytes.«at» in
    let area = area_of c.in-Ok-Bytes.area in
    let bytes = c.args.bytes.now in
    let rule = rw c.in-Ok-Bytes.field-0-is at c.in-Ok-Bytes.ensures.rule in
    let r = Bytes area at_ c.in-Ok-Bytes.field-0-2 in
    let e = reached sizes (Some (group_meant c.args.group)) c.args.offset c.short_len.result (length bytes) (Ok r) c.short_len.ensures rule in
    let len : c.in-Ok-Bytes.field-0-2 ≡ length bytes = range_len g sizes c.args.offset (length bytes) r e in
    let may = ap may_write asker.rights_are ∙ sym c.may_write.ensures ∙ c.if-not-may_write.false in
    let act = write_is d k g c.args.offset bytes (Ok r) (sym c.is_written.ensures ∙ c.if-not-is_written.false) may
    (ap (λ s. range_in g s c.args.offset (length bytes)) (same_sizes w k.port m held ∙ c.self.invariant.sizes_are) ∙ e) in
    let P : Act → Type 0 = λ a. EndsAs w k.port a c.write_bytes.result c.write_bytes.new.self in
    subst P (sym (act ∙ ap (λ n. write_act k bytes (Ok (map WholeByte (names_at k.port area at_ n)))) len)) (c.write_bytes.ensures.answer w k h asker.net_is)

pub returns-in-Ok-Bit-clause-answer : goal.returns-in-Ok-Bit-clause-answer
returns-in-Ok-Bit-clause-answer c = λ w d k h asker.
    let m : PortMemory = memory_in c.self.inside in
    let held : HoldsPort w k.port m = subst (HoldsPort w k.port) (sym c.self.view_is) h in
    let sizes = sizes_of c.self.inside.sizes in
    let g = Some (group_meant c.args.group) in
    let bytes = c.args.bytes.now in
    let rule = rw c.in-Ok-Bit.field-0-is at c.in-Ok-Bit.ensures.rule in
    let r = Bit (area_of c.in-Ok-Bit.area) c.in-Ok-Bit.«at» c.in-Ok-Bit.bit in
    let e = reached sizes (Some (group_meant c.args.group)) c.args.offset c.short_len.result (length bytes) (Ok r) c.short_len.ensures rule in
    let len : length bytes ≡ 1 = range_len g sizes c.args.offset (length bytes) r e in
    let may = ap may_write asker.rights_are ∙ sym c.may_write.ensures ∙ c.if-not-may_write.false in
    let act = write_is d k g c.args.offset bytes (Ok r) (sym c.is_written.ensures ∙ c.if-not-is_written.false) may
    (ap (λ s. range_in g s c.args.offset (length bytes)) (same_sizes w k.port m held ∙ c.self.invariant.sizes_are) ∙ e) in
    let P : Act → Type 0 = λ a. EndsAs w k.port a c.write_bit.result c.write_bit.new.self in
    subst P (sym (act ∙ ap (λ bs. write_act k bs (Ok (OneBit (name_at k.port (area_of c.in-Ok-Bit.area) c.in-Ok-Bit.«at») c.in-Ok-Bit.bit ∷ [])))
    (sym (one_element bytes len)))) (c.write_bit.ensures.answer w k h asker.net_is)

pub returns-in-Ok-Size-clause-answer : goal.returns-in-Ok-Size-clause-answer
returns-in-Ok-Size-clause-answer c = λ w d k h asker.
    let m : PortMemory = memory_in c.self.inside in
    let held : HoldsPort w k.port m = subst (HoldsPort w k.port) (sym c.self.view_is) h in
    let sizes = sizes_of c.self.inside.sizes in
    let g = Some (group_meant c.args.group) in
    let bytes = c.args.bytes.now in
    let q = Ok (range_meant c.in-Ok-Size.field-0) in
    let e = reached sizes (Some (group_meant c.args.group)) c.args.offset c.short_len.result (length bytes) q c.short_len.ensures c.in-Ok-Size.ensures.rule in
    let may = ap may_write asker.rights_are ∙ sym c.may_write.ensures ∙ c.if-not-may_write.false in
    let act = write_is d k g c.args.offset bytes q (sym c.is_written.ensures ∙ c.if-not-is_written.false) may
    (ap (λ s. range_in g s c.args.offset (length bytes)) (same_sizes w k.port m held ∙ c.self.invariant.sizes_are) ∙ e) in
    refused w k.port c.args.self.now _ C702 h
    (act ∙ ap (λ r. write_act k bytes (addressed_by_range k.port (Ok (range_meant r)))) c.in-Ok-Size.field-0-is)

pub returns-in-Err-clause-answer : goal.returns-in-Err-clause-answer
returns-in-Err-clause-answer c = λ w d k h asker.
    let m : PortMemory = memory_in c.self.inside in
    let held : HoldsPort w k.port m = subst (HoldsPort w k.port) (sym c.self.view_is) h in
    let sizes = sizes_of c.self.inside.sizes in
    let g = Some (group_meant c.args.group) in
    let bytes = c.args.bytes.now in
    let q = Err (number_of c.in-Err.code) in
    let e = reached sizes (Some (group_meant c.args.group)) c.args.offset c.short_len.result (length bytes) q c.short_len.ensures c.in-Err.ensures.rule in
    let may = ap may_write asker.rights_are ∙ sym c.may_write.ensures ∙ c.if-not-may_write.false in
    let act = write_is d k g c.args.offset bytes q (sym c.is_written.ensures ∙ c.if-not-is_written.false) may
    (ap (λ s. range_in g s c.args.offset (length bytes)) (same_sizes w k.port m held ∙ c.self.invariant.sizes_are) ∙ e) in
    refused w k.port c.args.self.now _ c.in-Err.code h act
