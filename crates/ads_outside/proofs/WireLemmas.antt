-- A wire in memory: the events that are left open new numbers, whatever was given.
use Rattle.std.proofs.Common.{◌≡◌, ℕ, ◌+◌, suc, List, [], ◌∷◌, ◌++◌, drop, true, false, refl, ap, ◌∙◌, add-one, append-nil}
use Rattle.std.proofs.Math.Seq.{drop-cons}
use Rattle.std.proofs.lemmas.Option.{slice_get_within, get_or_from_slice_get}
use Rattle.std.specs.Prelude.{Bool, Some, IsTrue, ◌&&◌, slice_get}
use Rattle.std.proofs.lemmas.Grind.{flat_map-append}
use Rattle.ads_outside.specs.declared.event.Event.{Event}
use Rattle.ads_outside.specs.declared.moves.Move.{Move}
use Rattle.ads_outside.specs.declared.moves.Move.TheVariants as move
use Rattle.ads_outside.specs.Opened.{opened_by, opened_by_move, opened_in, is_new, are_new}

pub opened_in-more : (log : List Move) (m : Move) → opened_in (log ++ m ∷ []) ≡ opened_in log ++ opened_by_move m
opened_in-more log m = flat_map-append opened_by_move log (m ∷ []) ∙ ap (λ o. opened_in log ++ o) (append-nil (opened_by_move m))

-- a move that opens nothing
pub same_opened : (log : List Move) (m : Move) → opened_by_move m ≡ [] → opened_in (log ++ m ∷ []) ≡ opened_in log
same_opened log m none = opened_in-more log m ∙ ap (λ o. opened_in log ++ o) none ∙ append-nil (opened_in log)

pub still_new : (es : List Event) (log : List Move) (m : Move) → opened_by_move m ≡ []
    → IsTrue (are_new es (opened_in log)) → IsTrue (are_new es (opened_in (log ++ m ∷ [])))
still_new es log m none new = ap (are_new es) (same_opened log m none) ∙ new

-- the event at a place, and those behind it
at_place : (es : List Event) (i : ℕ) (e : Event) → slice_get es i ≡ Some e → drop i es ≡ e ∷ drop (i + 1) es
at_place es i e found =
    let within = slice_get_within es i e found in
    let here = get_or_from_slice_get es i e e found in
    rw add-one (drop-cons es i e within ∙ ap (λ x. x ∷ drop (suc i) es) here)

and_first : (a b : Bool) → IsTrue (a && b) → IsTrue a
and_first true b e = refl
and_first false b e = e

and_second : (a b : Bool) → IsTrue (a && b) → IsTrue b
and_second true b e = e
and_second false b e = cc

first_is_new : (e : Event) (es : List Event) (opened : List ℕ) → IsTrue (are_new (e ∷ es) opened) → IsTrue (is_new e opened)
unfolding are_new
first_is_new e es opened new = and_first (is_new e opened) (are_new es (opened ++ opened_by e)) new

others_are_new : (e : Event) (es : List Event) (opened : List ℕ) → IsTrue (are_new (e ∷ es) opened) → IsTrue (are_new es (opened ++ opened_by e))
unfolding are_new
others_are_new e es opened new = and_second (is_new e opened) (are_new es (opened ++ opened_by e)) new

pub given_is_new : (es : List Event) (i : ℕ) (e : Event) (opened : List ℕ)
    → slice_get es i ≡ Some e → IsTrue (are_new (drop i es) opened) → IsTrue (is_new e opened)
given_is_new es i e opened found new = first_is_new e (drop (i + 1) es) opened (rw (at_place es i e found) at new)

pub left_are_new : (es : List Event) (i : ℕ) (e : Event) (log : List Move) → slice_get es i ≡ Some e
    → IsTrue (are_new (drop i es) (opened_in log)) → IsTrue (are_new (drop (i + 1) es) (opened_in (log ++ move.Event e ∷ [])))
left_are_new es i e log found new =
    ap (are_new (drop (i + 1) es)) (opened_in-more log (move.Event e)) ∙ others_are_new e (drop (i + 1) es) (opened_in log) (rw (at_place es i e found) at new)
