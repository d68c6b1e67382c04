use Rattle.std.proofs.Common.{sym, ◌∙◌, ap}
use Rattle.std.specs.Prelude.{Ok}
use Rattle.spec_formats.specs.Groups.{process_bytes}
use Rattle.spec_formats.specs.Ranges.{range_of}
use Rattle.type_layout.specs.Descriptions.{area_of}
use Rattle.index_groups.specs.Access.{answer_meant, range_meant}
use Rattle.session.proofs.DataLemmas.{data-answered}
use Rattle.session.proofs.reading.data_in.Goals as goal

pub returns-in-Ok-Bytes : goal.returns-in-Ok-Bytes
returns-in-Ok-Bytes c = λ a kept asks.
    let x = c.args.asked.now in
    let rule = ap (λ s. range_of s process_bytes x.offset x.len) (sym c.sizes.ensures) ∙ sym c.reach.ensures.rule ∙ ap answer_meant c.in-Ok-Bytes.is
    ∙ ap (λ r. Ok (range_meant r)) c.in-Ok-Bytes.field-0-is in
    data-answered a c.args.port.now kept x.group x.offset x.len c.in-Ok-Bytes.«at» c.in-Ok-Bytes.len (area_of c.in-Ok-Bytes.area) c.lent.result.now asks
    c.requires rule (c.lent.ensures.bytes a.world a.asker.port asks.held)
