-- Sessions whose connection is closing are left out.
use Rattle.std.proofs.Common.{◌≡◌, ℕ, zero, suc, ◌+◌, ◌<◌, List, [], ◌∷◌, ◌++◌, length, take, drop, set, get_or, Bool, refl, sym, ap, ◌∙◌, arith}
use Rattle.std.proofs.lemmas.List.{take_more, take_more_set, drop-set-lt}
use Rattle.std.proofs.lemmas.Grind.{drop_more_same}
use Rattle.connections.specs.Outlets.{Outlets, closing_at}
use Rattle.server_core.specs.declared.turned.Turned.{Turned}
use Rattle.server_core.specs.Columns.{skipped, with_skip}
use Rattle.server_core.proofs.CheckLemmas.{next_is}

pub skipped_length : (es : Outlets) (ts : List Turned) → length (skipped es ts) ≡ length ts
skipped_length es [] = refl
skipped_length [] (t ∷ ts) = ap suc (skipped_length [] ts)
skipped_length (e ∷ es) (t ∷ ts) = ap suc (skipped_length es ts)

skipped_at : (es : Outlets) (ts : List Turned) (i : ℕ) (d e : Turned) → i < length ts
    → get_or (skipped es ts) i d ≡ with_skip (closing_at es i) (get_or ts i e)
skipped_at es [] i d e below = absurd (omega (arith, below))
skipped_at [] (t ∷ ts) zero d e below = refl
skipped_at [] (t ∷ ts) (suc i) d e below = skipped_at [] ts i d e (omega (arith, below))
skipped_at (f ∷ es) (t ∷ ts) zero d e below = refl
skipped_at (f ∷ es) (t ∷ ts) (suc i) d e below = skipped_at es ts i d e (omega (arith, below))

-- one more of them
pub record SkipNext (es : Outlets) (ts us : List Turned) (i : ℕ) : Type 0 where
  pub marked : take (i + 1) us ≡ take (i + 1) (skipped es ts)
  pub left : drop (i + 1) us ≡ drop (i + 1) ts

pub skip_next : (es : Outlets) (ts us : List Turned) (i : ℕ) (a : Turned) (closing : Bool) → i < length us → length us ≡ length ts
    → a ≡ get_or us i a → closing ≡ closing_at es i → take i us ≡ take i (skipped es ts) → drop i us ≡ drop i ts
    → SkipNext es ts (set us i (with_skip closing a)) i
skip_next es ts us i a closing below many read marks so_far left =
    let all = skipped_length es ts in
    let own : a ≡ get_or ts i a = read ∙ next_is i ts us a (omega (arith, below, many)) many left in
    let here : with_skip closing a ≡ get_or (skipped es ts) i a =
    ap (λ b. with_skip b a) marks ∙ ap (with_skip (closing_at es i)) own ∙ sym (skipped_at es ts i a a (omega (arith, below, many))) in
    record {
      marked = take_more_set us i (with_skip closing a) below ∙ ap (λ xs. xs ++ with_skip closing a ∷ []) so_far
          ∙ ap (λ t. take i (skipped es ts) ++ t ∷ []) here ∙ sym (take_more (skipped es ts) i a (omega (arith, below, many, all)));
      left = drop-set-lt (i + 1) us i (with_skip closing a) (omega arith) ∙ drop_more_same us ts i left;
    }
