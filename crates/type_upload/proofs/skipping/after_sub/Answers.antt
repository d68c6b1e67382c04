use Rattle.std.proofs.Common.{ℕ, List, Some, sym, ap, ◌∙◌}
use Rattle.type_upload.proofs.SubLemmas.{after_sub_in-found, after_sub_in-untested, after_sub_in-with_subs}
use Rattle.type_upload.proofs.ReadLemmas.{rest_is}
use Rattle.type_upload.proofs.skipping.after_sub.Goals as goal

pub returns-in_err-places : goal.returns-in_err-places
returns-in_err-places c = rw c.from_residual.ensures (after_sub_in-untested c.args.bytes.now c.in_err-places.ensures.tested)

pub returns-then-get16-ne0 : goal.returns-then-get16-ne0
returns-then-get16-ne0 c = after_sub_in-with_subs c.args.bytes.now (λ e. c.if-get16-ne0.true (c.get16.ensures ∙ e))

pub returns : goal.returns
returns c = ap (λ (l : List ℕ). Some l) (rest_is c.args.bytes.now c.in_ok-places.places.len c.in_ok-places.ensures.places.len_is)
    ∙ sym (after_sub_in-found c.args.bytes.now (sym c.in_ok-places.ensures.tested) (sym c.get16.ensures ∙ c.if-get16-ne0.false))
