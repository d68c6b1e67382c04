use Rattle.std.proofs.Common.{ℕ, List, length, refl, sym, ap, ◌∙◌, subst}
use Rattle.spec_machine.specs.Reloads.{world_after_reload, client_reloaded}
use Rattle.type_layout.specs.Descriptions.{description_of}
use Rattle.server_core.specs.declared.turned.Turned.{Turned}
use Rattle.server_core.specs.Asked.{EachAsked}
use Rattle.server_core.specs.Columns.{skipped}
use Rattle.server_core.specs.ServerView.{view_of}
use Rattle.server_core.proofs.TakingLemmas.{lent_back}
use Rattle.server_core.proofs.ReloadLemmas.{can_tell, moved_between, reloaded_device}
use Rattle.server_core.proofs.server.Server.exchange.Goals as goal

pub reload-requires : goal.reload-requires
reload-requires c = record { signals = c.args.self.now.device.signals; is = c.requires.accepted }

pub moves-requires-clause-old : goal.moves-requires-clause-old
moves-requires-clause-old c =
    let s = c.requires.serving.some.serves in
    record { world = c.requires.serving.some.state.state.world; holds = s.device.world.ports }

pub moves-requires-clause-new : goal.moves-requires-clause-new
moves-requires-clause-new c =
    let s = c.requires.serving.some.serves in
    let w = c.requires.serving.some.state.state.world in
    record { world = world_after_reload w (description_of c.args.d.now); holds = c.in_ok-ports.ensures w s.device.world.ports }

pub tell_all-requires : goal.tell_all-requires
tell_all-requires c =
    can_tell (view_of c.args.self.now) c.in_ok-ports.ports c.in_ok-moves.moves c.as_slice.result.now (description_of c.args.d.now)
    c.args.self.now.clients.sessions.items c.as_mut_slice-sessions.result.now c.requires.serving refl c.in_ok-ports.ensures c.in_ok-moves.ensures
    (λ b holds. c.as_slice.ensures.value ∙ c.in_ok-numbers.ensures b holds) (c.as_mut_slice-sessions.ensures.value ∙ c.skip_closing.ensures)

pub returns : goal.returns
returns c =
    let old = c.args.self.now in
    let d = description_of c.args.d.now in
    let es = old.clients.outlets in
    let ts = old.clients.sessions.items in
    let sessions = c.skip_closing.new.sessions in
    let list = c.tell_all.new.list in
    let back = lent_back list sessions.items sessions.len sessions.ok.0
    (c.tell_all.auto.list ∙ ap (λ (us : List Turned). length us) c.as_mut_slice-sessions.ensures.value) in
    record {
      device = λ waves x s.
          reloaded_device old.device _ waves d x
          (record {
            ports = c.in_ok-ports.ensures;
            net = refl;
            routes = c.in_ok-admission.ensures.routes;
            others = c.in_ok-admission.ensures.others ∙ c.others-others.ensures;
            signals = refl;
            moment = refl;
          }) s.device;
      asked = λ waves x s.
          let w = x.state.world in
          let z = world_after_reload w d in
          let moved = moved_between w z old.device.ports c.in_ok-ports.ports c.in_ok-moves.moves c.as_slice.result.now s.device.world.ports
          (c.in_ok-ports.ensures w s.device.world.ports) c.in_ok-moves.ensures
          (λ b holds. c.as_slice.ensures.value ∙ c.in_ok-numbers.ensures b holds) in
          subst (λ (us : List Turned). EachAsked w.plant z.plant (client_reloaded x.state.moment w z) (skipped es ts) us) (sym back)
          (subst (λ (t : ℕ). EachAsked w.plant z.plant (client_reloaded t w z) (skipped es ts) list) s.device.moment
          (subst (λ (us : List Turned). EachAsked w.plant z.plant (client_reloaded old.device.moment w z) us list)
          (c.as_mut_slice-sessions.ensures.value ∙ c.skip_closing.ensures)
          (c.in_ok-tell_all.ensures w z moved s.device.world.address.net_is)));
      version_is = λ waves x s. c.version-version.ensures ∙ (c.in_ok-ports.ensures x.state.world s.device.world.ports).version;
      outlets = refl;
      streams = refl;
      summary = refl;
      notes = refl;
    }
