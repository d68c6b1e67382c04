use Rattle.std.proofs.Common.{ℕ, ◌≡◌, ◌<◌, ◌+◌, suc, List, ◌∷◌, ◌++◌, length, get_or, take, drop, refl, sym, ◌∙◌, ap, arith, add-one}
use Rattle.std.proofs.Math.Seq.{split_at}
use Rattle.std.proofs.lemmas.List.{get_or-take, get_or_at, length-take-le, length-append}
use Rattle.std.specs.Fmt.{decimal}
use Rattle.ads_base.proofs.DecimalLemmas.{same_decimal}
use Rattle.ads_base.proofs.decimal.split_decimal.Goals as goal

-- a text split where its stop stands
split_at_stop : (text : List ℕ) (i stop : ℕ) → i < length text → get_or text i 0 ≡ stop → text ≡ take i text ++ stop ∷ drop (i + 1) text
split_at_stop text i stop below e = rw add-one (split_at text i 0 below ∙ ap (λ b. take i text ++ b ∷ drop (suc i) text) e)

pub returns-in_err-n-clause-none : goal.returns-in_err-n-clause-none
returns-in_err-n-clause-none c = λ none n rest small e.
    let text = c.args.text.now in
    let i = c.loop-i.i in
    let split = split_at_stop text i c.args.stop (omega arith) c.if-text-i.true in
    let free : (k : ℕ) → k < length (take i text) → get_or (take i text) k 0 ≡ c.args.stop → ⊥ =
    λ k below at. c.loop-i.invariant k (omega (arith, length-take-le i text (omega arith)))
    (sym (get_or-take i text k 0 (omega (arith, length-take-le i text (omega arith)))) ∙ at) in
    let front = same_decimal c.args.stop n (take i text) (drop (i + 1) text) rest c.requires small free (sym split ∙ e) in
    c.in_err-n.ensures.none refl n small front.0

pub returns-clause-none : goal.returns-clause-none
returns-clause-none c = λ none n rest small e.
    let at = length (decimal n) in
    let whole : length c.args.text.now ≡ at + suc (length rest) = ap length e ∙ (length-append (decimal n) (c.args.stop ∷ rest) ∙ refl) in
    c.loop-i.invariant at (omega (arith, whole)) (ap (λ t. get_or t at 0) e ∙ get_or_at (decimal n) c.args.stop rest 0 at refl)
