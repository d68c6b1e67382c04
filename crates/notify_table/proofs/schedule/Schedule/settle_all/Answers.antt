use Rattle.std.proofs.Common.{◌≤◌, length, sym, ◌∙◌, arith}
use Rattle.std.proofs.lemmas.List.{take_all, drop_all, append-nil}
use Rattle.spec_machine.specs.Watches.{watch_after_reload, watches_after_reload}
use Rattle.notify_table.specs.Reloads.{watched_after}
use Rattle.notify_table.proofs.ScheduleLemmas.{settled}
use Rattle.notify_table.proofs.schedule.Schedule.settle_all.Goals as goal

pub loop-at-preserved : goal.loop-at-preserved
loop-at-preserved c =
    let step = settled (watch_after_reload (watched_after c.args.m.now c.args.ports.now)) c.loop-at.self c.settle-at.new.self c.loop-at.at c.settle-at.result
    (omega arith) c.settle-at.ensures in
    record { within = step.within; left = step.left ∙ c.loop-at.invariant.left }

pub returns : goal.returns
unfolding watches_after_reload
returns c =
    let past : length c.loop-at.self ≤ c.loop-at.at = omega arith in
    sym (append-nil c.loop-at.self)
    ∙ rw (take_all c.loop-at.at c.loop-at.self past, drop_all c.loop-at.at c.loop-at.self past) at c.loop-at.invariant.left
