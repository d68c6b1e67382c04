use Rattle.std.proofs.Common.{sym, ap, ◌∙◌, subst}
use Rattle.ads_outside.specs.LinkState.{LinkHistory}
use Rattle.spec_local.specs.LinkLog.{machine_after_link_move}
use Rattle.local_link.specs.Link.{LocalView, unblocked, StandsFor}
use Rattle.local_link.proofs.Removed.{opens_anew}
use Rattle.local_link.proofs.Moves.{opened_moment}
use Rattle.local_link.proofs.local.LocalLink.open.Goals as goal

pub returns-clause-opened : goal.returns-clause-opened
unfolding machine_after_link_move
returns-clause-opened g c = record {
  wanting = ap (λ (l : LocalView). l.wanting) c.self.view_is;
  follows = λ s stands.
      let here = subst (λ (l : LocalView). StandsFor l s) (sym c.self.view_is) stands in
      let shut = c.remove.ensures.shut (unblocked s) here.core in
      let moment = c.moment-now.ensures ∙ here.moment in (
        moment,
        record {
          core = opens_anew c.remove.new.self c.step.new.core s here.core.server.outlets.apart
              shut.serves c.gone_connections_are_forgotten.ensures c.in_ok-step.ensures;
          moment = ap (λ (h : LinkHistory). h.moment) c.connect.ensures ∙ moment ∙ sym (opened_moment s);
        },
      );
}
