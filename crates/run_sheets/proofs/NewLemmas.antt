-- Events that open new numbers, from a place on.
use Rattle.std.proofs.Common.{◌≡◌, ℕ, ◌+◌, ◌<◌, ◌≤◌, suc, List, [], ◌∷◌, ◌++◌, drop, length, true, false, refl, ap, sym, ◌∙◌, add-one}
use Rattle.std.proofs.Math.ListN.{drop_of_length-le}
use Rattle.std.proofs.Math.Seq.{drop-cons}
use Rattle.std.specs.List.{slice_index_or}
use Rattle.std.specs.Prelude.{Bool, IsTrue, ◌&&◌}
use Rattle.ads_outside.specs.declared.event.Event.{Event}
use Rattle.ads_outside.specs.Opened.{opened_by, is_new, are_new}

-- the event at a place, and those behind it
at_place : (es : List Event) (i : ℕ) (e : Event) → i < length es → e ≡ slice_index_or es i e → drop i es ≡ e ∷ drop (i + 1) es
at_place es i e within here = rw add-one (drop-cons es i e within ∙ ap (λ x. x ∷ drop (suc i) es) (sym here))

both : (a b : Bool) → IsTrue a → IsTrue b → IsTrue (a && b)
both true b x y = y
both false b x y = x

first_then_rest : (e : Event) (es : List Event) (opened : List ℕ) → IsTrue (is_new e opened)
    → IsTrue (are_new es (opened ++ opened_by e)) → IsTrue (are_new (e ∷ es) opened)
unfolding are_new
first_then_rest e es opened here rest = both (is_new e opened) (are_new es (opened ++ opened_by e)) here rest

pub new_from : (es : List Event) (i : ℕ) (e : Event) (opened more : List ℕ) → i < length es
    → e ≡ slice_index_or es i e → IsTrue (is_new e opened) → more ≡ opened ++ opened_by e
    → IsTrue (are_new (drop (i + 1) es) more) → IsTrue (are_new (drop i es) opened)
new_from es i e opened more within here new is rest =
    rw (at_place es i e within here) (first_then_rest e (drop (i + 1) es) opened new (ap (λ (o : List ℕ). are_new (drop (i + 1) es) o) (sym is) ∙ rest))

none_left : (opened : List ℕ) → IsTrue (are_new [] opened)
unfolding are_new
none_left opened = refl

pub nothing_left : (es : List Event) (i : ℕ) (opened : List ℕ) → length es ≤ i → IsTrue (are_new (drop i es) opened)
nothing_left es i opened past = rw (drop_of_length-le es past) (none_left opened)
