use Rattle.std.proofs.Common.{sym, subst, List}
use Rattle.std.specs.Prelude.{Result, ℕ}
use Rattle.spec_machine.specs.Access.{Addressed}
use Rattle.session.specs.Watching.{IsWatched}
use Rattle.session.proofs.WatchedReach.{reaches_states, reaches_version, reaches_plain}
use Rattle.session.proofs.watching.watched_wide.Goals as goal

pub returns-then-asked-eq-DEVICE_DATA-clause-watched : goal.returns-then-asked-eq-DEVICE_DATA-clause-watched
returns-then-asked-eq-DEVICE_DATA-clause-watched c = λ a asks.
    let x = c.args.asked.now in
    let P : Result (List Addressed) ℕ → Type 0 = λ r. IsWatched a.world.plant.ports a.asker.port.number x.len r c.watched_states.result in
    subst P (sym (reaches_states a.client a.asker.port x.group x.offset x.len c.if-asked-eq-DEVICE_DATA.true))
    (c.watched_states.ensures.watched a.world.plant.ports a.asker.port asks.held.sound.found)

pub returns-then-asked-eq-SYMBOL_VERSION-clause-watched : goal.returns-then-asked-eq-SYMBOL_VERSION-clause-watched
returns-then-asked-eq-SYMBOL_VERSION-clause-watched c = λ a asks.
    let x = c.args.asked.now in
    let P : Result (List Addressed) ℕ → Type 0 = λ r. IsWatched a.world.plant.ports a.asker.port.number x.len r c.watched_version.result in
    subst P (sym (reaches_version a.client a.asker.port x.group x.offset x.len c.if-asked-eq-DEVICE_DATA.false c.if-asked-eq-SYMBOL_VERSION.true))
    (c.watched_version.ensures.watched a.world.plant.ports a.asker.port asks.held.sound.found)

pub returns-clause-watched : goal.returns-clause-watched
returns-clause-watched c = λ a asks.
    let x = c.args.asked.now in
    let P : Result (List Addressed) ℕ → Type 0 = λ r. IsWatched a.world.plant.ports a.asker.port.number x.len r c.watched_plain.result in
    subst P (sym (reaches_plain a.client a.asker.port x.group x.offset x.len c.if-asked-eq-DEVICE_DATA.false c.if-asked-eq-SYMBOL_VERSION.false))
    (c.watched_plain.ensures.watched a asks)
