use Rattle.std.proofs.Common.{List, length, rules, refl, sym, ap, ◌∙◌, subst}
use Rattle.spec_machine.specs.Ticks.{client_after_tick}
use Rattle.connections.specs.Present.{present}
use Rattle.server_core.specs.declared.device.Device.{Device}
use Rattle.server_core.specs.declared.turned.Turned.{Turned}
use Rattle.server_core.specs.Asked.{EachAsked}
use Rattle.server_core.specs.Columns.{skipped}
use Rattle.server_core.specs.ServerView.{view_of}
use Rattle.server_core.proofs.AskedLemmas.{aligned}
use Rattle.server_core.proofs.TakingLemmas.{on_ok, lent_back}
use Rattle.server_core.proofs.TickLemmas.{tick_follows, tick_served}
use Rattle.server_core.proofs.ticking.tick.Goals as goal

pub step_into-requires : goal.step_into-requires
step_into-requires g c = c.requires.serves.device.few

pub check_all-requires : goal.check_all-requires
check_all-requires g c =
    let v = view_of c.args.server.now in
    let device : Device = (let d = v.device in record d { ports = c.step_into.new.ports; moment = c.later_of-server.result }) in
    let waves = g.S.Sources.waves c.args.signals.now in (
      c.type_bounds.sync-T,
      (
        search rules,
        tick_served v device waves c.args.moment c.args.server.now.clients.sessions.items c.as_mut_slice.result.now c.requires refl
            (record { net = refl; admission = refl; signals = refl; moment = c.later_of-server.ensures; ports = c.step_into.ensures.ports })
            (c.as_mut_slice.ensures.value ∙ c.skip_closing.ensures),
      ),
    )

pub deliver-requires : goal.deliver-requires
deliver-requires g c =
    let v = view_of c.args.server.now in
    let s = c.requires.serves in
    let x = c.requires.state in
    let old = c.skip_closing.new.sessions in
    let list = c.check_all.new.list in
    let kept = c.check_all.auto.list ∙ ap (λ (ts : List Turned). length ts) c.as_mut_slice.ensures.value in
    ap (λ (ts : List Turned). length ts) (lent_back list old.items old.len old.ok.0 kept) ∙ kept
    ∙ ap (λ (ts : List Turned). length ts) c.skip_closing.ensures
    ∙ aligned v.outlets x.state.world.plant c.args.server.now.clients.sessions.items (present x.state.connections) s.outlets.each s.clients

pub returns-clause-follows : goal.returns-clause-follows
returns-clause-follows g c =
    let v = view_of c.args.server.now in
    let ts = c.args.server.now.clients.sessions.items in
    let device : Device = (let d = v.device in record d { ports = c.step_into.new.ports; moment = c.later_of-server.result }) in
    let waves = g.S.Sources.waves c.args.signals.now in
    let old = c.skip_closing.new.sessions in
    let list = c.check_all.new.list in
    let back = lent_back list old.items old.len old.ok.0 (c.check_all.auto.list ∙ ap (λ (ts : List Turned). length ts) c.as_mut_slice.ensures.value) in
    on_ok c.deliver.result (λ delivers. λ x s.
    tick_follows v _ waves (g.S.Sources.waves c.step_into.new.self) x c.args.moment ts _ c.deliver.new.sessions.items s refl
    (record { net = refl; admission = refl; signals = refl; moment = c.later_of-server.ensures; ports = c.step_into.ensures.ports }) c.step_into.ensures.waves
    (λ u held net. subst (λ (us : List Turned). EachAsked u.plant u.plant (client_after_tick device.moment u) (skipped v.outlets ts) us) (sym back)
    (subst (λ (us : List Turned). EachAsked u.plant u.plant (client_after_tick device.moment u) us list) (c.as_mut_slice.ensures.value ∙ c.skip_closing.ensures)
    (c.in_ok-check_all.ensures u held net))) delivers refl refl) c.deliver.ensures
