-- How loops go through the requests without an answer.
use Rattle.std.proofs.Common.{◌≡◌, ℕ, zero, suc, ◌+◌, ◌-◌, ◌<◌, ◌≤◌, List, [], ◌∷◌, ◌++◌, length, take, drop}
use Rattle.std.proofs.Common.{get_or, set, Bool, true, false, refl, sym, ap, ◌∙◌, arith, add-one, append_assoc}
use Rattle.std.specs.Prelude.{map, find, ◌==◌, Option, Some, None, if◌then◌else◌}
use Rattle.std.proofs.Math.Seq.{drop-cons, drop-length}
use Rattle.std.proofs.lemmas.Bool.{and_parts, eqb-true}
use Rattle.std.proofs.lemmas.List.{take_more, take_all, drop_all, get_or_default, append-nil}
use Rattle.spec_client.specs.Unanswered.{Unanswered, is_timed_out, is_timed_out_at, least_id, free_id, has_outstanding, id_after, next_timeout, without_first}
use Rattle.client_core.specs.Unanswered.{least_with, FirstAt, IsNowhere, TakesTimeout}

pub least_id_drop : (us : List Unanswered) (i : ℕ) (u : Unanswered) → i < length us
    → least_id (drop i us) ≡ least_with (get_or us i u) (least_id (drop (i + 1) us))
unfolding least_id
least_id_drop us i u within = rw (add-one, drop-cons us i u) refl

pub free_id_passes : (left : ℕ) (us : List Unanswered) (id : ℕ) → has_outstanding id us ≡ true → free_id (suc left) us id ≡ free_id left us (id_after id)
unfolding free_id
free_id_passes left us id e = rw e refl

pub free_id_stays : (left : ℕ) (us : List Unanswered) (id : ℕ) → has_outstanding id us ≡ false → free_id left us id ≡ id
unfolding free_id
free_id_stays zero us id e = refl
free_id_stays (suc left) us id e = rw e refl

pub free_id_ends : (us : List Unanswered) (id : ℕ) → free_id 0 us id ≡ id
unfolding free_id
free_id_ends us id = refl

-- as far as a loop that changes each element has come
pub changed_more : {X : Type 0} (f : X → X) (xs : List X) (i : ℕ) (x : X) → i < length xs
    → set (map f (take i xs) ++ drop i xs) i (f (get_or (map f (take i xs) ++ drop i xs) i x)) ≡ map f (take (suc i) xs) ++ drop (suc i) xs
changed_more f [] i x within = absurd (omega arith)
changed_more f (y ∷ ys) zero x within = refl
changed_more f (y ∷ ys) (suc i) x within = ap (λ zs. f y ∷ zs) (changed_more f ys i x (omega arith))

-- none of the first requests passes
pub record NoneBefore (test : Unanswered → Bool) (us : List Unanswered) (i : ℕ) : Type 0 where
  pub found : find test us ≡ find test (drop i us)
  pub others : without_first test us ≡ take i us ++ without_first test (drop i us)

pub none_before_first : (test : Unanswered → Bool) (us : List Unanswered) → NoneBefore test us 0
none_before_first test us = record { found = refl; others = refl }

pub none_before_more : (test : Unanswered → Bool) (us : List Unanswered) (i : ℕ) (u : Unanswered) → i < length us → test (get_or us i u) ≡ false
    → NoneBefore test us i → NoneBefore test us (i + 1)
unfolding without_first
none_before_more test us i u within fails before =
    let rest : drop i us ≡ get_or us i u ∷ drop (i + 1) us = rw add-one (drop-cons us i u within) in
    let more : take (i + 1) us ≡ take i us ++ get_or us i u ∷ [] = take_more us i u within in
    record {
      found = before.found ∙ rw (rest, fails) refl;
      others = before.others ∙ rw (rest, fails, more, append_assoc) refl;
    }

pub first_here : (test : Unanswered → Bool) (us : List Unanswered) (i : ℕ) (u : Unanswered) → i < length us → test (get_or us i u) ≡ true
    → NoneBefore test us i → FirstAt test us i
unfolding without_first
first_here test us i u within passes before =
    let rest : drop i us ≡ get_or us i u ∷ drop (i + 1) us = rw add-one (drop-cons us i u within) in
    record {
      within = within;
      found = λ v. before.found ∙ rw (rest, passes) (ap (λ w. Some w) (get_or_default us i u v within));
      passes = λ v. ap (λ w. test w) (get_or_default us i v u within) ∙ passes;
      others = before.others ∙ rw (rest, passes) refl;
    }

-- steps of the loops
pub least_id_end : (us : List Unanswered) → None ≡ least_id (drop (length us) us)
unfolding least_id
least_id_end us = rw drop-length refl

pub least_id_step : (us : List Unanswered) (i : ℕ) (u : Unanswered) (rest : Option ℕ) → 0 < i → i ≤ length us → u ≡ get_or us (i - 1) u
    → rest ≡ least_id (drop i us) → least_with u rest ≡ least_id (drop (i - 1) us)
least_id_step us zero u rest some within is e = absurd (omega arith)
least_id_step us (suc j) u rest some within is e =
    let below : j < length us = omega arith in
    let same : suc j - 1 ≡ j = omega arith in
    let at : u ≡ get_or us j u = is ∙ ap (λ n. get_or us n u) same in
    let next : rest ≡ least_id (drop (j + 1) us) = e ∙ rw add-one refl in
    ap (λ v. least_with v rest) at ∙ ap (λ r. least_with (get_or us j u) r) next ∙ sym (least_id_drop us j u below) ∙ ap (λ n. least_id (drop n us)) (sym same)

pub free_id_step : (left : ℕ) (us : List Unanswered) (id next : ℕ) → 0 < left → next ≡ id_after id → has_outstanding id us ≡ true
    → free_id (left - 1) us next ≡ free_id left us id
free_id_step zero us id next some e has = absurd (omega arith)
free_id_step (suc left) us id next some e has =
    let same : suc left - 1 ≡ left = omega arith in
    rw (same, e) (sym (free_id_passes left us id has))

pub free_id_end : (left : ℕ) (us : List Unanswered) (id : ℕ) → left ≤ 0 → free_id left us id ≡ id
free_id_end zero us id e = free_id_ends us id
free_id_end (suc left) us id e = absurd (omega arith)

pub pass_step : {X : Type 0} (f : X → X) (init us : List X) (i : ℕ) (x v : X) → i < length init → us ≡ map f (take i init) ++ drop i init
    → v ≡ f (get_or us i x) → set us i v ≡ map f (take (i + 1) init) ++ drop (i + 1) init
pass_step f init us i x v within e is = rw (is, e, add-one) (changed_more f init i x within)

pub pass_end : {X : Type 0} (f : X → X) (init us : List X) (i : ℕ) → length init ≤ i → us ≡ map f (take i init) ++ drop i init → us ≡ map f init
pass_end f init us i all e = e ∙ rw (take_all i init all, drop_all i init all) (append-nil (map f init))

pub nowhere_at : (test : Unanswered → Bool) (us : List Unanswered) (i : ℕ) → length us ≤ i → NoneBefore test us i → IsNowhere test us
unfolding without_first
nowhere_at test us i all before = record {
  found = before.found ∙ rw (drop_all i us all) refl;
  others = before.others ∙ rw (drop_all i us all, take_all i us all) (append-nil us);
}

-- the timeout that is told next
pub took_none : (us : List Unanswered) → least_id us ≡ None → TakesTimeout us us None
took_none us e = (rw e refl, refl)

pub took_nowhere : (us : List Unanswered) (id : ℕ) → least_id us ≡ Some id → IsNowhere (is_timed_out_at id) us → TakesTimeout us us None
took_nowhere us id e n = (rw e n.found, refl)

pub took_timeout : (us rest : List Unanswered) (id i : ℕ) (u : Unanswered) → least_id us ≡ Some id → FirstAt (is_timed_out_at id) us i
    → u ≡ get_or us i u → rest ≡ take i us ++ drop (suc i) us → TakesTimeout us rest (Some u)
took_timeout us rest id i u e first is left =
    let passes : is_timed_out_at id u ≡ true = ap (λ w. is_timed_out_at id w) is ∙ first.passes u in
    let same : u.id ≡ id = eqb-true u.id id (and_parts (is_timed_out u) (u.id == id) passes).1 in
    let others : take i us ++ drop (suc i) us ≡ without_first (is_timed_out_at id) us = rw (← add-one) (sym first.others) in
    (rw e (first.found u ∙ ap (λ w. Some w) (sym is)), left ∙ others ∙ ap (λ k. without_first (is_timed_out_at k) us) (sym same))
