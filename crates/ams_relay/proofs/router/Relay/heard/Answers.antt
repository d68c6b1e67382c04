use Rattle.std.proofs.Common.{not, sym, ap, ◌∙◌}
use Rattle.ams_relay.proofs.CarryLemmas.{open_is, open_at, open_absent}
use Rattle.ams_relay.proofs.router.Relay.heard.Goals as goal

pub returns-in_default-clause-absent : goal.returns-in_default-clause-absent
returns-in_default-clause-absent c = λ b s h.
    let es = c.args.self.now.router.outlets in
    sym (open_is es b s.connections c.args.number h.holds.outlets) ∙ sym (open_absent es c.args.number c.in_default.ensures.absent)

pub returns-then-is_closing-clause-absent : goal.returns-then-is_closing-clause-absent
returns-then-is_closing-clause-absent c = λ b s h.
    let es = c.args.self.now.router.outlets in
    sym (open_is es b s.connections c.args.number h.holds.outlets) ∙ sym (open_at es c.args.number c.in-Some.place c.in-Some.ensures.found)
    ∙ ap not (sym c.is_closing.ensures ∙ c.if-is_closing.true)
