use Rattle.std.proofs.Common.{sym, ap, ◌∙◌, subst}
use Rattle.ads_outside.specs.declared.event.Event.TheVariants as event
use Rattle.spec_machine.specs.Moves.{state_after_move}
use Rattle.spec_local.specs.LinkLog.{machine_after_link_move}
use Rattle.server_core.specs.CoreState.{after_event}
use Rattle.server_core.specs.Serves.{Serves}
use Rattle.local_link.specs.Link.{LocalView, unblocked, StandsFor}
use Rattle.local_link.proofs.Moves.{piece_moment}
use Rattle.local_link.proofs.local.LocalLink.piece.Goals as goal

pub returns-clause-follows : goal.returns-clause-follows
unfolding machine_after_link_move state_after_move
returns-clause-follows g c = record {
  wanting = ap (λ (l : LocalView). l.wanting) c.self.view_is;
  follows = λ s stands.
      let here = subst (λ (l : LocalView). StandsFor l s) (sym c.self.view_is) stands in
      let core = c.in_ok-step.ensures (unblocked s) here.core tt in (
        tt,
        record {
          core = subst (λ bytes. Serves c.step.new.core (after_event (unblocked s) (event.Piece 1 bytes))) c.in_ok-copy.ensures core;
          moment = here.moment ∙ sym (piece_moment s c.args.bytes.now);
        },
      );
}
