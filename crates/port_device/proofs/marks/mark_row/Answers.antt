use Rattle.std.proofs.Common.{◌+◌, sym, ◌∙◌, arith}
use Rattle.std.proofs.lemmas.Bool.{false≢true}
use Rattle.type_layout.specs.Descriptions.{area_of, sizes_of}
use Rattle.spec_machine.specs.PortBytes.{start_in}
use Rattle.port_device.proofs.MarkLemmas.{row_guarded}
use Rattle.port_device.proofs.marks.mark_row.Goals as goal

pub returns-then-not-is_guarded-clause-marked : goal.returns-then-not-is_guarded-clause-marked
returns-then-not-is_guarded-clause-marked c = λ guarded i from upto.
    absurd (false≢true (sym c.if-not-is_guarded.true ∙ c.is_guarded.ensures ∙ sym (row_guarded c.args.row.now) ∙ guarded))

pub returns-clause-marked : goal.returns-clause-marked
returns-clause-marked c = λ guarded i from upto.
    let first = start_in (sizes_of c.args.sizes.now) (area_of c.args.row.now.area) in
    let at_is = c.span_of-span.ensures.«at» in
    let len_is = c.span_of-span.ensures.len in
    c.set_marks.ensures.set (first + i) (omega (arith, at_is, from)) (omega (arith, at_is, len_is, upto))
