-- A schedule while its notifications change.
use Rattle.std.proofs.Common.{◌≡◌, ℕ, zero, suc, ◌+◌, ◌-◌, ◌<◌, ◌≤◌, max, Bool, true, false, cond, nat_le, List}
use Rattle.std.proofs.Common.{[], ◌∷◌, ◌++◌, length, map, take, drop, get_or, set, Option, Some, None, refl, sym, ap}
use Rattle.std.proofs.Common.{◌∙◌, subst, arith, inl, inr}
use Rattle.std.specs.List.{All, filter, filter_map, insert, remove, position, position_or_len}
use Rattle.std.specs.List.Sorted.{IsNonDecreasing, IsNonDecreasingBy}
use Rattle.std.proofs.lemmas.Bool.{cases_lt, le-leb, lt-leb, lt-ltb}
use Rattle.std.proofs.lemmas.List.{length-map, get_or-map, append_assoc, take_at, drop_at, length-take-le, map-set, take-map}
use Rattle.std.proofs.lemmas.List.{length-append, length-set, set_split, get_or_default}
use Rattle.std.proofs.Math.Seq.{drop-cons}
use Rattle.std.proofs.lemmas.List.Elements.{All-get_or, All-set, filter_agree}
use Rattle.std.proofs.lemmas.List.Edits.{get_or-remove_below, get_or-remove_above, length-remove, length-insert}
use Rattle.spec_machine.specs.WatchedRanges.{Watched}
use Rattle.spec_machine.specs.Watches.{Watch, is_due, is_due_after, is_sent, after_check}
use Rattle.notify_table.specs.Table.{handle_of}
use Rattle.notify_table.specs.Turns.{AreInTurn, HasHandle, moment_after, next_moment, is_turn_due, turn_rank}
use Rattle.notify_table.specs.Schedules.{no_watch, nth_watch, IsSettled}
use Rattle.notify_table.proofs.Filtered.{All-remove}

-- where the first passes, it is the first that does
pub first_passes : {X : Type 0} (p : X → Bool) (xs : List X) (x : X) → 0 < length xs → x ≡ get_or xs 0 x → p x ≡ true
    → position p xs ≡ Some 0
first_passes p [] x some is passes = absurd (omega (arith, some))
first_passes p (y ∷ ys) x some is passes =
    let first : p y ≡ true = subst (λ z. p z ≡ true) is passes in
    let at_first : position_or_len p (y ∷ ys) ≡ 0 = rw first refl in
    rw (at_first, lt-ltb 0 (length (y ∷ ys)) (omega arith)) refl

-- those of which one is taken out are in turn
pub in_turn-remove : (ws : List (Watch Watched)) (i : ℕ) → i < length ws → AreInTurn ws → AreInTurn (remove ws i)
in_turn-remove ws i within in_turn = record {
  handles = All-remove HasHandle ws i in_turn.handles;
  rise = λ j k d before below.
      let shorter = length-remove ws i within in
      elim (cases_lt j i) [
        | inl j_below ↦ elim (cases_lt k i) [
          | inl k_below ↦ rw (get_or-remove_below ws i d j j_below within, get_or-remove_below ws i d k k_below within)
              (in_turn.rise j k d before (omega arith))
          | inr k_above ↦ rw (get_or-remove_below ws i d j j_below within, get_or-remove_above ws i d k k_above within)
              (in_turn.rise j (k + 1) d (omega arith) (omega arith))
        ]
        | inr j_above ↦
            let k_above : i ≤ k = omega arith in
            rw (get_or-remove_above ws i d j j_above within, get_or-remove_above ws i d k k_above within)
            (in_turn.rise (j + 1) (k + 1) d (omega arith) (omega arith))
      ];
}

-- numbers do not fall along the list of them
pub rises_mapped : {X : Type 0} (f : X → ℕ) (xs : List X) → IsNonDecreasingBy f xs → IsNonDecreasing (map f xs)
rises_mapped f [] rise i j d le below = absurd (omega (arith, below))
rises_mapped f (x ∷ xs) rise i j d le below =
    let long = length-map (x ∷ xs) f in
    rw (get_or-map f (x ∷ xs) i x d (omega (arith, long, below, le)), get_or-map f (x ∷ xs) j x d (omega (arith, long, below)))
    (rise i j x le (omega (arith, long, below)))

pub rises_unmapped : {X : Type 0} (f : X → ℕ) (xs : List X) → IsNonDecreasing (map f xs) → IsNonDecreasingBy f xs
rises_unmapped f xs rise i j d le below =
    let long = length-map xs f in
    let step = rise i j (f d) le (omega (arith, long, below)) in
    rw (get_or-map f xs i d (f d) (omega (arith, below, le)), get_or-map f xs j d (f d) below) at step

-- what changes nothing that a function sees
pub map-set_kept : {X Y : Type 0} (f : X → Y) (xs : List X) (i : ℕ) (y d : X) → f y ≡ f (get_or xs i d) → i < length xs
    → map f (set xs i y) ≡ map f xs
map-set_kept f xs i y d same within =
    map-set f xs i y ∙ kept (map f xs) i (f y) (f d) (same ∙ sym (get_or-map f xs i d (f d) within)) (omega (arith, within, length-map xs f))
  where
    kept : {Z : Type 0} (zs : List Z) (k : ℕ) (z e : Z) → z ≡ get_or zs k e → k < length zs → set zs k z ≡ zs
    kept [] k z e is below = absurd (omega arith)
    kept (w ∷ ws) zero z e is below = rw is refl
    kept (w ∷ ws) (suc k) z e is below = ap (λ us. w ∷ us) (kept ws k z e is (omega arith))

-- an element takes the place of another
pub set_is : {X : Type 0} (xs : List X) (i : ℕ) (y : X) → i < length xs → set xs i y ≡ insert (remove xs i) i y
set_is xs i y within =
    let long : length (take i xs) ≡ i = length-take-le i xs (omega arith) in
    set_split xs i y within
    ∙ rw (take_at (take i xs) (drop (suc i) xs) i long, drop_at (take i xs) (drop (suc i) xs) i long) refl

-- one that changes and keeps its rank stays where it stands
pub in_turn-set : (ws : List (Watch Watched)) (i : ℕ) (w v : Watch Watched) → i < length ws → v ≡ get_or ws i v → turn_rank w ≡ turn_rank v
    → w.handle ≡ v.handle → AreInTurn ws → AreInTurn (set ws i w)
in_turn-set ws i w v within v_is rank handle in_turn = record {
  handles = All-set HasHandle ws i w (rw handle (subst HasHandle (sym v_is) (All-get_or HasHandle ws i v within in_turn.handles))) in_turn.handles;
  rise = rises_unmapped turn_rank (set ws i w)
      (rw (map-set_kept turn_rank ws i w v (rank ∙ ap turn_rank v_is) within) (rises_mapped turn_rank ws in_turn.rise));
}

-- the notification at a place
pub nth_is : (ws : List (Watch Watched)) (i : ℕ) (w : Watch Watched) → i < length ws → w ≡ get_or ws i w → nth_watch ws i ≡ w
nth_is ws i w within w_is = get_or_default ws i no_watch w within ∙ sym w_is

-- a check changes no handle
pub handle-checked : (now : ℕ) (bytes : List ℕ) (w : Watch Watched) → (after_check now bytes w).handle ≡ w.handle
handle-checked now bytes w = by_sent (is_sent bytes w)
  where
    by_sent : (sent : Bool) → (cond sent (record w { last = Some now; sent = bytes }) (record w { last = Some now })).handle ≡ w.handle
    by_sent true = refl
    by_sent false = refl

pub HasHandle-checked : (now : ℕ) (bytes : List ℕ) (ws : List (Watch Watched)) (i : ℕ) (w : Watch Watched) → i < length ws → w ≡ get_or ws i w
    → AreInTurn ws → HasHandle (after_check now bytes w)
HasHandle-checked now bytes ws i w within w_is in_turn =
    rw (handle-checked now bytes w) (subst HasHandle (sym w_is) (All-get_or HasHandle ws i w within in_turn.handles))

-- a notification is due where its moment has come
due_as_moment : (now cycle : ℕ) (last : Option ℕ) → is_due_after now cycle last ≡ nat_le (moment_after last cycle) now
due_as_moment now cycle None = sym (le-leb 0 now (omega arith))
due_as_moment now cycle (Some last) =
    elim (cases_lt now (last + max cycle 1)) [
      | inl before ↦ lt-leb (max cycle 1) _ (omega arith) ∙ sym (lt-leb (last + max cycle 1) now before)
      | inr reached ↦ le-leb (max cycle 1) _ (omega arith) ∙ sym (le-leb (last + max cycle 1) now reached)
    ]

pub due_as_turn : (now : ℕ) (w : Watch Watched) → is_due now w ≡ is_turn_due now w
due_as_turn now w = due_as_moment now w.cycle w.last

pub due_watches : (now : ℕ) (ws : List (Watch Watched)) → filter (λ (w : Watch Watched). is_due now w) ws ≡ filter (is_turn_due now) ws
due_watches now [] = refl
due_watches now (w ∷ ws) = rw (due_as_turn now w, due_watches now ws) refl

-- a step through the notifications after a reload
pub record IsStep (g : Watch Watched → Option (Watch Watched)) (old new : List (Watch Watched)) (place next : ℕ) : Type 0 where
  pub within : next ≤ length new
  pub left : take next new ++ filter_map g (drop next new) ≡ take place old ++ filter_map g (drop place old)
  pub less : length new - next < length old - place

pub settled : (g : Watch Watched → Option (Watch Watched)) (old new : List (Watch Watched)) (place next : ℕ) → place < length old
    → IsSettled (g (nth_watch old place)) old new place next → IsStep g old new place next
settled g old new place next within step = by_answer (g (nth_watch old place)) refl step
  where
    front : length (take place old) ≡ place
    front = length-take-le place old (omega (arith, within))

    same_front : take place (remove old place) ≡ take place old
    same_front = take_at (take place old) (drop (suc place) old) place front

    same_back : drop place (remove old place) ≡ drop (suc place) old
    same_back = drop_at (take place old) (drop (suc place) old) place front

    shorter : length (remove old place) + 1 ≡ length old
    shorter = length-remove old place within

    cell : drop place old ≡ nth_watch old place ∷ drop (suc place) old
    cell = drop-cons old place no_watch within

    by_answer : (o : Option (Watch Watched)) → g (nth_watch old place) ≡ o → IsSettled o old new place next → IsStep g old new place next
    by_answer None ended (new_is, next_is) = record {
      within = rw (new_is, next_is) (omega (arith, shorter, within));
      left = rw (new_is, next_is, same_front, same_back, cell, ended) refl;
      less = rw (new_is, next_is) (omega (arith, shorter, within));
    }
    by_answer (Some w) moved (new_is, next_is) =
        let parts : new ≡ (take place old ++ w ∷ []) ++ drop (suc place) old =
        new_is ∙ rw (same_front, same_back, append_assoc (take place old) (w ∷ []) (drop (suc place) old)) refl in
        let long : length (take place old ++ w ∷ []) ≡ place + 1 = omega (arith, length-append (take place old) (w ∷ []), front) in
        let total = ap length new_is ∙ length-insert (remove old place) place w (omega (arith, shorter, within)) in
        record {
          within = omega (arith, total, next_is, shorter);
          left = rw (
            next_is,
            parts,
            take_at (take place old ++ w ∷ []) (drop (suc place) old) (place + 1) long,
            drop_at (take place old ++ w ∷ []) (drop (suc place) old) (place + 1) long,
            cell,
            moved,
          )
              (append_assoc (take place old) (w ∷ []) (filter_map g (drop (suc place) old)));
          less = omega (arith, total, next_is, shorter, within);
        }
