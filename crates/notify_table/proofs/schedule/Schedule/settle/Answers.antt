use Rattle.std.proofs.Common.{◌≡◌, ◌<◌, length, refl, sym, ap, ◌∙◌, Some, option_map}
use Rattle.std.specs.List.{insert, remove}
use Rattle.std.proofs.lemmas.List.{get_or_default}
use Rattle.spec_machine.specs.WatchedRanges.{Watched}
use Rattle.spec_machine.specs.Watches.{Watch, watch_after_reload}
use Rattle.notify_table.specs.Reloads.{watched_after}
use Rattle.notify_table.specs.Specs.{watched_meant}
use Rattle.notify_table.specs.Table.{handle_of}
use Rattle.notify_table.specs.Turns.{turn_rank}
use Rattle.notify_table.proofs.ScheduleLemmas.{in_turn-set, nth_is, set_is}
use Rattle.notify_table.proofs.schedule.Schedule.settle.Goals as goal

pub invariant_of-self : goal.invariant_of-self
invariant_of-self c =
    in_turn-set c.self.inside.ring.items c.args.at c.put.new.self c.index_mut.result.now (rw c.self.view_is c.requires) c.index_mut.ensures.value
    (ap turn_rank c.put.ensures) (ap handle_of c.put.ensures) c.self.invariant

-- it stands where it stood, and watches its bytes at their new place
pub returns-in-Some : goal.returns-in-Some
returns-in-Some c =
    let within : c.args.at < length c.self.inside.ring.items = rw c.self.view_is c.requires in
    let moves : Watch Watched → Watch Watched = λ v. record v { watched = watched_meant c.in-Some.watched } in
    let moved : watch_after_reload (watched_after c.args.m.now c.args.ports.now) c.index.result.now ≡ Some (moves c.index.result.now) =
    ap (option_map (λ (watched : Watched). let v : Watch Watched = record c.index.result.now { watched = watched } in v)) (sym c.in-Some.ensures.moved) in
    let same : c.index_mut.result.now ≡ c.index.result.now =
    c.index_mut.ensures.value ∙ get_or_default c.self.inside.ring.items c.args.at c.index_mut.result.now c.index.result.now within ∙ sym c.index.ensures in
    rw (← c.self.view_is, nth_is c.self.inside.ring.items c.args.at c.index.result.now within c.index.ensures, moved) (
      set_is c.self.inside.ring.items c.args.at c.put.new.self within
          ∙ ap (insert (remove c.self.inside.ring.items c.args.at) c.args.at) (c.put.ensures ∙ ap moves same),
      refl,
    )
