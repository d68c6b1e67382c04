use Rattle.std.proofs.Common.{Option, Some, None, if◌then◌else◌, sym, ◌∙◌, ap, Bool}
use Rattle.spec_machine.specs.WatchedRanges.{Watched, Own}
use Rattle.notify_table.proofs.record.own_kept.Goals as goal

pub returns-then-is_among-clause-moved : goal.returns-then-is_among-clause-moved
returns-then-is_among-clause-moved c =
    let kept : Bool → Option Watched = λ b. if b then Some (Own c.args.first c.args.len) else None in
    sym (ap kept (sym c.is_among.ensures ∙ c.if-is_among.true))

pub returns-clause-moved : goal.returns-clause-moved
returns-clause-moved c =
    let kept : Bool → Option Watched = λ b. if b then Some (Own c.args.first c.args.len) else None in
    sym (ap kept (sym c.is_among.ensures ∙ c.if-is_among.false))
