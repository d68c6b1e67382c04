use Rattle.std.proofs.Common.{sym, ◌∙◌, subst}
use Rattle.spec_machine.specs.Manner.{Manner}
use Rattle.session.specs.Watching.{addition_reach, IsWatched}
use Rattle.session.proofs.MeaningLemmas.{strict-world, wide-world}
use Rattle.session.proofs.watching.watched.Goals as goal

pub returns-then-not-is_wide-clause-watched : goal.returns-then-not-is_wide-clause-watched
returns-then-not-is_wide-clause-watched c = λ a asks.
    let x = c.args.asked.now in
    let P : Manner → Type 0 = λ m.
    IsWatched a.world.plant.ports a.asker.port.number x.len (addition_reach m a.client a.asker.port x.group x.offset x.len) c.watched_plain.result in
    subst P (strict-world a c.args.port.now c.args.handles.now asks (sym c.is_wide.ensures ∙ c.if-not-is_wide.true))
    (c.watched_plain.ensures.watched a asks)

pub returns-clause-watched : goal.returns-clause-watched
returns-clause-watched c = λ a asks.
    let x = c.args.asked.now in
    let P : Manner → Type 0 = λ m.
    IsWatched a.world.plant.ports a.asker.port.number x.len (addition_reach m a.client a.asker.port x.group x.offset x.len) c.watched_wide.result in
    subst P (wide-world a c.args.port.now c.args.handles.now asks (sym c.is_wide.ensures ∙ c.if-not-is_wide.false))
    (c.watched_wide.ensures.watched a asks)
