use Rattle.std.proofs.Common.{◌∙◌, ap, sym}
use Rattle.client_core.specs.Unanswered.{is_at}
use Rattle.client_core.proofs.UnansweredLemmas.{none_before_first, none_before_more, first_here, nowhere_at}
use Rattle.client_core.proofs.unanswered.place_of.Goals as goal

pub loop-i-init : goal.loop-i-init
loop-i-init c = none_before_first (is_at c.args.timed_out c.args.id) c.args.us.now

pub returns-then-is_at : goal.returns-then-is_at
returns-then-is_at c =
    first_here (is_at c.args.timed_out c.args.id) c.args.us.now c.loop-i.i c.index-us-i.result c.loop-i-test.true
    (ap (λ w. is_at c.args.timed_out c.args.id w) (sym c.index-us-i.is) ∙ sym c.is_at.ensures ∙ c.if-is_at.true) c.loop-i.invariant

pub loop-i-preserved : goal.loop-i-preserved
loop-i-preserved c =
    none_before_more (is_at c.args.timed_out c.args.id) c.args.us.now c.loop-i.i c.index-us-i.result c.loop-i-test.true
    (ap (λ w. is_at c.args.timed_out c.args.id w) (sym c.index-us-i.is) ∙ sym c.is_at.ensures ∙ c.if-is_at.false) c.loop-i.invariant

pub returns : goal.returns
returns c = nowhere_at (is_at c.args.timed_out c.args.id) c.args.us.now c.loop-i.i c.loop-i-test.false c.loop-i.invariant
