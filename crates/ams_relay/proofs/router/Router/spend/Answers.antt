use Rattle.std.proofs.Common.{sym, ap, ◌∙◌, subst}
use Rattle.std.specs.Prelude.{Bool}
use Rattle.ams_header.specs.Header.{ams_header_of}
use Rattle.ams_relay.specs.Taking.{SpendsAt, number_in}
use Rattle.ams_relay.proofs.SpendLemmas.{none_owned}
use Rattle.ams_relay.proofs.router.Router.spend.Goals as goal

pub returns-in_default-clause-spends : goal.returns-in_default-clause-spends
returns-in_default-clause-spends c = λ b s k h heard swept.
    record {
      none = none_owned c.args.self.now b s h swept c.args.from.number
          (ams_header_of c.args.h.now) (sym (c.owner_near.ensures.entry b s h) ∙ ap number_in c.in_default.is);
      holds = h;
    }

pub returns-then-spend_of-clause-spends : goal.returns-then-spend_of-clause-spends
returns-then-spend_of-clause-spends c = λ b s k h heard swept.
    subst (λ (t : Bool). SpendsAt t c.in-Some.asker.number c.args.from.number (ams_header_of c.args.h.now) c.spend_of.new.self b s) c.if-spend_of.true
    (c.spend_of.ensures.spends b s k h heard swept (sym (c.owner_near.ensures.entry b s h) ∙ ap number_in c.in-Some.is))

pub returns-else-spend_of-clause-spends : goal.returns-else-spend_of-clause-spends
returns-else-spend_of-clause-spends c = λ b s k h heard swept.
    subst (λ (t : Bool). SpendsAt t c.in-Some.asker.number c.args.from.number (ams_header_of c.args.h.now) c.spend_of.new.self b s) c.if-spend_of.false
    (c.spend_of.ensures.spends b s k h heard swept (sym (c.owner_near.ensures.entry b s h) ∙ ap number_in c.in-Some.is))
