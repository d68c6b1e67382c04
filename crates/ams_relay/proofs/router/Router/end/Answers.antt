use Rattle.std.proofs.Common.{refl, sym, ap, ◌∙◌}
use Rattle.std.specs.Prelude.{remove}
use Rattle.connections.specs.Outlets.{without_number}
use Rattle.connections.proofs.OutletLemmas.{without_none}
use Rattle.ams_relay.specs.declared.router.Router.{Router}
use Rattle.ams_relay.proofs.EndLemmas.{ends, ended_already}
use Rattle.ams_relay.proofs.router.Router.end.Goals as goal

pub returns-in_default-clause-follows : goal.returns-in_default-clause-follows
returns-in_default-clause-follows c = λ b s h. ended_already c.args.number b c.args.self.now s h c.in_default.ensures.absent

pub returns-in_default-clause-gone : goal.returns-in_default-clause-gone
returns-in_default-clause-gone c = sym (without_none c.args.self.now.outlets c.args.number c.in_default.ensures.absent)

pub returns-clause-follows : goal.returns-clause-follows
returns-clause-follows c = λ b s h.
    let same = c.disown.ensures.same in
    ends c.args.number c.in-Some.place b c.owned_at-owned.result c.args.self.now c.disown.new.self _ s h c.in-Some.ensures.found
    c.owned_at-owned.ensures c.disown.ensures refl refl refl
    (c.end.ensures.gone ∙ ap (λ (r : Router). without_number c.args.number r.outlets) same)
    (c.remove_at.ensures ∙ ap (λ (r : Router). remove r.peers.items c.in-Some.place) same)

pub returns-clause-gone : goal.returns-clause-gone
returns-clause-gone c = c.end.ensures.gone ∙ ap (λ (r : Router). without_number c.args.number r.outlets) c.disown.ensures.same
