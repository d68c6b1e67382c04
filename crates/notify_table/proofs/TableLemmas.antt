-- The notifications of a connection by rising handle, while those of its schedule change.
use Rattle.std.proofs.Common.{◌≡◌, ◌≢◌, ℕ, suc, ◌+◌, ◌-◌, ◌<◌, ◌≤◌, max, Bool, true, false, not, ◌&&◌, ◌||◌, cond}
use Rattle.std.proofs.Common.{nat_eq, nat_lt, nat_le, List, [], ◌∷◌, ◌++◌, length, map, get_or, Option, Some, None}
use Rattle.std.proofs.Common.{if◌then◌else◌, ◌==◌, option_map, IsSome, IsSomeAnd, IsTrue, refl, sym, ap, ◌∙◌, arith, inl, inr, subst}
use Rattle.std.specs.List.{All, filter, filter_map, find, list_any, insert, remove, position, position_or_len}
use Rattle.std.specs.List.Sorted.{IsPermutation, IsNonDecreasing, IsStrictlyIncreasing}
use Rattle.std.proofs.lemmas.Bool.{cases_Bool, cases_eq, eq-eqb, ne_eqb, eqb-true, ltb-false, lt-leb}
use Rattle.std.proofs.lemmas.List.{length-map}
use Rattle.std.proofs.lemmas.List.Edits.{length-insert, length-remove}
use Rattle.std.proofs.lemmas.List.Elements.{All-head, All-tail, All-get_or, All-filter, All-weaker, All-map}
use Rattle.std.proofs.lemmas.List.Elements.{filter_passes, filter_agree}
use Rattle.std.proofs.lemmas.List.Quantifiers.{position-Some}
use Rattle.std.proofs.lemmas.List.Sums.{fails_before_first, length-filter, count_by-le-length}
use Rattle.spec_formats.specs.Ranges.{Range, Bytes, Bit, Size}
use Rattle.spec_machine.specs.WatchedRanges.{Watched, InArea, Own}
use Rattle.spec_machine.specs.Watches.{Watch, is_due, is_due_after, is_sent, after_check, watch_after_reload}
use Rattle.spec_machine.specs.Watches.{watches_after_reload}
use Rattle.notify_table.specs.Table.{handle_of, watched_len, IsWatchable, IsTable, is_numbered, is_live, is_full}
use Rattle.notify_table.specs.Table.{watch_of_handle, due_handles, table_after, checked_where, Added, Deleted, Checked}
use Rattle.notify_table.specs.Table.{Reloaded, WatchTable}
use Rattle.notify_table.specs.Schedules.{nth_watch, no_watch, watch_in, OncePer}
use Rattle.notify_table.specs.Numbered.{by_number, HasNumber, AreGranted, table_from, IsLive, end_of_handle}
use Rattle.notify_table.specs.Reloads.{end_of, range_after, watched_after, value_of_area, bytes_at, bit_at}
use Rattle.symbol_table.specs.declared.kept.KeptPlace.{KeptPlace}
use Rattle.symbol_table.specs.Moves.{moved_span}
use Rattle.type_layout.specs.declared.port.Area.{Area}
use Rattle.notify_table.proofs.Filtered.{All-insert, All-remove, insert-remove, filter_none, filter_all, filter_one}
use Rattle.notify_table.proofs.Filtered.{filter-insert_no, filter-insert_yes, filter-remove_no, OncePer-others}
use Rattle.notify_table.proofs.Filtered.{OncePer-remove, OncePer-insert}
use Rattle.notify_table.proofs.NumberedLemmas.{by_number-nil, by_number-same, by_number-upto, by_number-filter}
use Rattle.notify_table.proofs.NumberedLemmas.{by_number-one, by_number-map, by_number-permuted, length-by_number}
use Rattle.notify_table.proofs.NumberedLemmas.{by_number-rises, All-by_number, filter-map, filter-filter}
use Rattle.notify_table.proofs.NumberedLemmas.{filter-filter_map, by_number-filter_map, length-filter_map-le}
use Rattle.notify_table.proofs.NumberedLemmas.{All-filter_map}

-- where no place was found, none passes
none_at : {X : Type 0} (p : X → Bool) (xs : List X) → position p xs ≡ None → All (λ x. p x ≡ false) xs
none_at p xs missing =
    elim (cases_Bool (nat_lt (position_or_len p xs) (length xs))) [
      | inl there ↦ absurd (let found = rw there at missing in cc)
      | inr past ↦ λ k d below. fails_before_first p xs k d (let far = ltb-false _ _ past in omega arith)
    ]

find-none : {X : Type 0} (p : X → Bool) (xs : List X) → filter p xs ≡ [] → find p xs ≡ None
find-none p [] empty = refl
find-none p (x ∷ xs) empty =
    elim (cases_Bool (p x)) [
      | inl passes ↦ absurd (let there = rw passes at empty in cc)
      | inr fails ↦ rw fails (find-none p xs (rw fails at empty))
    ]

find-one : {X : Type 0} (p : X → Bool) (xs : List X) (y : X) → filter p xs ≡ y ∷ [] → find p xs ≡ Some y
find-one p [] y one = absurd (cc)
find-one p (x ∷ xs) y one =
    elim (cases_Bool (p x)) [
      | inl passes ↦ rw passes (let there = rw passes at one in cc)
      | inr fails ↦ rw fails (find-one p xs y (rw fails at one))
    ]

-- an element that passes two tests is among those that pass the first
list_any-both : {X : Type 0} (p q : X → Bool) (xs : List X) → list_any (λ x. p x && q x) xs ≡ list_any q (filter p xs)
list_any-both p q [] = refl
list_any-both p q (x ∷ xs) =
    let rest = list_any-both p q xs in
    elim (cases_Bool (p x)) [
      | inl passes ↦ rw (passes, rest) refl
      | inr fails ↦ rw fails rest
    ]

-- the notification with a handle stands at a place of the schedule
pub record IsFound (watches : List (Watch Watched)) (granted handle place : ℕ) : Type 0 where
  pub within : place < length watches
  pub numbered : (nth_watch watches place).handle ≡ handle
  pub others : All (λ (w : Watch Watched). w.handle ≢ handle) (remove watches place)
  pub alone : filter (is_numbered handle) watches ≡ nth_watch watches place ∷ []
  pub listed : filter (is_numbered handle) (by_number handle_of granted watches) ≡ nth_watch watches place ∷ []
  pub live : watch_of_handle handle (table_from watches granted) ≡ Some (nth_watch watches place)

pub found_at : (ws : List (Watch Watched)) (n h i : ℕ) → AreGranted ws n → i < length ws → (nth_watch ws i).handle ≡ h → IsFound ws n h i
found_at ws n h i granted within same =
    let apart : All (λ (w : Watch Watched). w.handle ≢ h) (remove ws i) =
    λ k d below e. OncePer-others handle_of ws i no_watch granted.once within k d below (e ∙ sym same) in
    let one : filter (is_numbered h) ws ≡ nth_watch ws i ∷ [] =
    filter_one (is_numbered h) ws i no_watch within (eq-eqb _ _ same) (λ k d below. ne_eqb _ _ (apart k d below)) in
    let all : filter (is_numbered h) (by_number handle_of n ws) ≡ nth_watch ws i ∷ [] =
    by_number-filter handle_of (is_numbered h) n ws ∙ ap (by_number handle_of n) one
    ∙ by_number-one handle_of n (nth_watch ws i) (All-get_or (HasNumber handle_of n) ws i no_watch within granted.within) in
    record {
      within = within;
      numbered = same;
      others = apart;
      alone = one;
      listed = all;
      live = find-one (is_numbered h) (by_number handle_of n ws) (nth_watch ws i) all;
    }

pub found : (ws : List (Watch Watched)) (n h i : ℕ) → AreGranted ws n → position (is_numbered h) ws ≡ Some i → IsFound ws n h i
found ws n h i granted at_place =
    let there = position-Some (is_numbered h) ws i no_watch at_place in
    found_at ws n h i granted there.0 (eqb-true _ _ there.1)

module _ (ws : List (Watch Watched)) (n h : ℕ) where
  missing_listed : position (is_numbered h) ws ≡ None → filter (is_numbered h) (by_number handle_of n ws) ≡ []
  missing_listed missing =
      by_number-filter handle_of (is_numbered h) n ws
      ∙ ap (by_number handle_of n) (filter_none (is_numbered h) ws (none_at (is_numbered h) ws missing))
      ∙ by_number-nil handle_of n

  pub missing : position (is_numbered h) ws ≡ None → watch_of_handle h (table_from ws n) ≡ None
  missing at_none = find-none (is_numbered h) (by_number handle_of n ws) (missing_listed at_none)

  -- no notification of any port
  pub missing_live : (port : ℕ) → position (is_numbered h) ws ≡ None → is_live port h (table_from ws n) ≡ false
  missing_live port at_none =
      list_any-both (is_numbered h) (λ (w : Watch Watched). nat_eq w.port port) (by_number handle_of n ws)
      ∙ rw (missing_listed at_none) refl

  pub found_live : (i port : ℕ) → IsFound ws n h i → is_live port h (table_from ws n) ≡ nat_eq (nth_watch ws i).port port
  found_live i port f =
      list_any-both (is_numbered h) (λ (w : Watch Watched). nat_eq w.port port) (by_number handle_of n ws)
      ∙ rw f.listed (or_false (nat_eq (nth_watch ws i).port port))
    where
      or_false : (b : Bool) → (b || false) ≡ b
      or_false true = refl
      or_false false = refl

  -- one is deleted
  pub removed_granted : (i : ℕ) → AreGranted ws n → IsFound ws n h i → AreGranted (remove ws i) n
  removed_granted i granted f = record {
    within = All-remove (HasNumber handle_of n) ws i granted.within;
    once = OncePer-remove handle_of ws i no_watch granted.once f.within;
    few = let fewer = length-remove ws i f.within in let most = granted.few in omega arith;
    watched = All-remove IsWatchable ws i granted.watched;
  }

  removed_filter : (i : ℕ) → IsFound ws n h i → filter (λ w. not (is_numbered h w)) ws ≡ remove ws i
  removed_filter i f =
      let p : Watch Watched → Bool = λ w. not (is_numbered h w) in
      sym (ap (filter p) (insert-remove ws i no_watch f.within))
      ∙ filter-insert_no p (remove ws i) i (nth_watch ws i) (ap not (eq-eqb _ _ f.numbered))
      ∙ filter_all p (remove ws i) (λ k d below. ap not (ne_eqb _ _ (f.others k d below)))

  pub removed_table : (i : ℕ) → IsFound ws n h i → table_from (remove ws i) n ≡ table_after (table_from ws n) (Deleted h)
  removed_table i f =
      let same : by_number handle_of n (remove ws i) ≡ filter (λ w. not (is_numbered h w)) (by_number handle_of n ws) =
      ap (by_number handle_of n) (sym (removed_filter i f)) ∙ sym (by_number-filter handle_of (λ w. not (is_numbered h w)) n ws) in
      ap (λ (l : List (Watch Watched)). let t : WatchTable = record { watches = l; additions = n } in t) same

-- how many are live
pub full_table : (ws : List (Watch Watched)) (n : ℕ) → AreGranted ws n
    → is_full (table_from ws n) ≡ (nat_le 512 (length ws) || nat_le 4294967295 n)
full_table ws n granted =
    ap (λ k. nat_le 512 k || nat_le 4294967295 n) (length-by_number handle_of n ws granted.within)

-- one is added with the next handle
module _ (ws : List (Watch Watched)) (n place : ℕ) (w : Watch Watched) where
  pub added_granted : AreGranted ws n → w.handle ≡ n + 1 → length (by_number handle_of n ws) < 512 → place ≤ length ws → IsWatchable w
      → AreGranted (insert ws place w) (n + 1)
  added_granted granted next room within can = record {
    within = All-insert (HasNumber handle_of (n + 1)) ws place w
        (All-weaker (HasNumber handle_of n) (HasNumber handle_of (n + 1)) (λ v h. (h.0, omega (arith, h.1))) ws granted.within)
        (omega arith, omega arith);
    once = OncePer-insert handle_of ws place w granted.once (λ k d below e. let most = (granted.within k d below).1 in omega arith);
    few = omega (arith, length-insert ws place w within, length-by_number handle_of n ws granted.within);
    watched = All-insert IsWatchable ws place w granted.watched can;
  }

  pub added_table : AreGranted ws n → w.handle ≡ n + 1 → table_from (insert ws place w) (n + 1) ≡ table_after (table_from ws n) (Added w)
  added_table granted next =
      let older : by_number handle_of n (insert ws place w) ≡ by_number handle_of n ws =
      by_number-upto handle_of n (insert ws place w) ws
      (λ j most. filter-insert_no (is_numbered j) ws place w (ne_eqb _ _ (λ e. omega arith))) in
      let last : filter (is_numbered (suc n)) (insert ws place w) ≡ w ∷ [] =
      filter-insert_yes (is_numbered (suc n)) ws place w (eq-eqb _ _ (omega arith))
      (λ k d below. ne_eqb _ _ (λ e. let most = (granted.within k d below).1 in omega arith)) in
      let next_is : n + 1 ≡ suc n = omega arith in
      let same : by_number handle_of (n + 1) (insert ws place w) ≡ by_number handle_of n ws ++ w ∷ [] =
      rw next_is (rw (older, last) refl) in
      ap (λ (l : List (Watch Watched)). let t : WatchTable = record { watches = l; additions = n + 1 } in t) same

-- all pass a test and are left by a change that changes none that passes
map_same : {X : Type 0} (f : X → X) (xs : List X) → All (λ x. f x ≡ x) xs → map f xs ≡ xs
map_same f [] same = refl
map_same f (x ∷ xs) same =
    let head : f x ≡ x = All-head (λ y. f y ≡ y) x xs same in
    let rest = map_same f xs (All-tail (λ y. f y ≡ y) x xs same) in
    cc

-- a check keeps the handle
handle-after_check : (now : ℕ) (bytes : List ℕ) (w : Watch Watched) → (after_check now bytes w).handle ≡ w.handle
handle-after_check now bytes w = by_sent (is_sent bytes w)
  where
    by_sent : (sent : Bool) → (cond sent (record w { last = Some now; sent = bytes }) (record w { last = Some now })).handle ≡ w.handle
    by_sent true = refl
    by_sent false = refl

watched-after_check : (now : ℕ) (bytes : List ℕ) (w : Watch Watched) → (after_check now bytes w).watched ≡ w.watched
watched-after_check now bytes w = by_sent (is_sent bytes w)
  where
    by_sent : (sent : Bool) → (cond sent (record w { last = Some now; sent = bytes }) (record w { last = Some now })).watched ≡ w.watched
    by_sent true = refl
    by_sent false = refl

handle-checked_where : (h now : ℕ) (bytes : List ℕ) (w : Watch Watched) → (checked_where h now bytes w).handle ≡ w.handle
handle-checked_where h now bytes w =
    elim (cases_Bool (is_numbered h w)) [
      | inl numbered ↦ elim (cases_Bool (is_due now w)) [
        | inl due ↦ rw (numbered, due) (handle-after_check now bytes w)
        | inr early ↦ rw (numbered, early) refl
      ]
      | inr other ↦ rw other refl
    ]

-- after its check a notification is not due
not_due-checked : (h now : ℕ) (bytes : List ℕ) (w : Watch Watched) → is_numbered h w ≡ true → is_due now (checked_where h now bytes w) ≡ false
not_due-checked h now bytes w numbered =
    elim (cases_Bool (is_due now w)) [
      | inl due ↦ rw (numbered, due) (by_sent (is_sent bytes w))
      | inr early ↦ rw (numbered, early) early
    ]
  where
    past : is_due_after now w.cycle (Some now) ≡ false
    past = lt-leb (max w.cycle 1) (now - now) (omega arith)

    by_sent : (sent : Bool) → is_due now (cond sent (record w { last = Some now; sent = bytes }) (record w { last = Some now })) ≡ false
    by_sent true = past
    by_sent false = past

pub others_due : (h now : ℕ) (bytes : List ℕ) (ws : List (Watch Watched))
    → map handle_of (filter (λ (w : Watch Watched). is_due now w) (map (checked_where h now bytes) ws))
    ≡ filter (λ k. not (nat_eq k h)) (map handle_of (filter (λ (w : Watch Watched). is_due now w) ws))
others_due h now bytes [] = refl
others_due h now bytes (w ∷ ws) =
    let rest = others_due h now bytes ws in
    elim (cases_Bool (is_numbered h w)) [
      | inl numbered ↦ rw (not_due-checked h now bytes w numbered)
          (elim (cases_Bool (is_due now w)) [
            | inl due ↦ rw (due, numbered) rest
            | inr early ↦ rw early rest
          ])
      | inr other ↦
          let as_it_was : checked_where h now bytes w ≡ w = rw other refl in
          rw as_it_was (elim (cases_Bool (is_due now w)) [
            | inl due ↦ rw (due, other, rest) refl
            | inr early ↦ rw early rest
          ])
    ]

-- one is checked, and stands elsewhere in the schedule
module _ (ws : List (Watch Watched)) (n h now : ℕ) (bytes : List ℕ) (i place : ℕ) where
  checked_handle : IsFound ws n h i → (after_check now bytes (nth_watch ws i)).handle ≡ h
  checked_handle f = handle-after_check now bytes (nth_watch ws i) ∙ f.numbered

  pub checked_granted : place ≤ length (remove ws i) → AreGranted ws n → IsFound ws n h i
      → AreGranted (insert (remove ws i) place (after_check now bytes (nth_watch ws i))) n
  checked_granted placed granted f =
      let w : Watch Watched = after_check now bytes (nth_watch ws i) in
      let same : w.handle ≡ h = checked_handle f in
      let in_range : HasNumber handle_of n (nth_watch ws i) = All-get_or (HasNumber handle_of n) ws i no_watch f.within granted.within in
      let can : IsWatchable (nth_watch ws i) = All-get_or IsWatchable ws i no_watch f.within granted.watched in
      record {
        within = All-insert (HasNumber handle_of n) (remove ws i) place w (All-remove (HasNumber handle_of n) ws i granted.within)
            (rw (handle-after_check now bytes (nth_watch ws i)) in_range);
        once = OncePer-insert handle_of (remove ws i) place w (OncePer-remove handle_of ws i no_watch granted.once f.within)
            (λ k d below e. f.others k d below (e ∙ same));
        few = omega (arith, length-insert (remove ws i) place w placed, length-remove ws i f.within, granted.few);
        watched = All-insert IsWatchable (remove ws i) place w (All-remove IsWatchable ws i granted.watched)
            (rw (watched-after_check now bytes (nth_watch ws i)) can);
      }

  checked_numbered : IsFound ws n h i → is_due now (nth_watch ws i) ≡ true → (j : ℕ)
      → filter (is_numbered j) (insert (remove ws i) place (after_check now bytes (nth_watch ws i)))
      ≡ filter (is_numbered j) (map (checked_where h now bytes) ws)
  checked_numbered f due j =
      let w : Watch Watched = after_check now bytes (nth_watch ws i) in
      let mapped : filter (is_numbered j) (map (checked_where h now bytes) ws) ≡ map (checked_where h now bytes) (filter (is_numbered j) ws) =
      filter-map (is_numbered j) (checked_where h now bytes) ws
      ∙ ap (map (checked_where h now bytes)) (filter_agree (λ v. is_numbered j (checked_where h now bytes v)) (is_numbered j)
      (λ v. ap (λ k. nat_eq k j) (handle-checked_where h now bytes v)) ws) in
      elim (cases_eq j h) [
        | inl same ↦
            let put : filter (is_numbered j) (insert (remove ws i) place w) ≡ w ∷ [] =
            filter-insert_yes (is_numbered j) (remove ws i) place w (eq-eqb _ _ (checked_handle f ∙ sym same))
            (λ k d below. ne_eqb _ _ (λ e. f.others k d below (e ∙ same))) in
            let alone : filter (is_numbered j) ws ≡ nth_watch ws i ∷ [] = rw same f.alone in
            let here : checked_where h now bytes (nth_watch ws i) ≡ w = rw (eq-eqb _ _ f.numbered, due) refl in
            put ∙ sym (mapped ∙ rw (alone, here) refl)
        | inr other ↦
            let put : filter (is_numbered j) (insert (remove ws i) place w) ≡ filter (is_numbered j) ws =
            filter-insert_no (is_numbered j) (remove ws i) place w (ne_eqb _ _ (λ e. other (sym e ∙ checked_handle f)))
            ∙ filter-remove_no (is_numbered j) ws i no_watch f.within (ne_eqb _ _ (λ e. other (sym e ∙ f.numbered))) in
            let left : map (checked_where h now bytes) (filter (is_numbered j) ws) ≡ filter (is_numbered j) ws =
            map_same (checked_where h now bytes) (filter (is_numbered j) ws)
            (λ k d below. let number = eqb-true _ _ (filter_passes (is_numbered j) ws k d below) in
            rw (ne_eqb (get_or (filter (is_numbered j) ws) k d).handle h (λ e. other (sym number ∙ e))) refl) in
            put ∙ sym (mapped ∙ left)
      ]

  pub checked_table : IsFound ws n h i → is_due now (nth_watch ws i) ≡ true
      → table_from (insert (remove ws i) place (after_check now bytes (nth_watch ws i))) n ≡ table_after (table_from ws n) (Checked h now bytes)
  checked_table f due =
      let same : by_number handle_of n (insert (remove ws i) place (after_check now bytes (nth_watch ws i))) ≡ map (checked_where h now bytes)
      (by_number handle_of n ws) =
      by_number-same handle_of n _ (map (checked_where h now bytes) ws) (checked_numbered f due)
      ∙ sym (by_number-map handle_of handle_of (checked_where h now bytes) (handle-checked_where h now bytes) n ws) in
      ap (λ (l : List (Watch Watched)). let t : WatchTable = record { watches = l; additions = n } in t) same

-- the handles of those that pass a test, once they are in order
pub handles_sorted : (p : Watch Watched → Bool) (ws : List (Watch Watched)) (n : ℕ) (hs : List ℕ) → AreGranted ws n
    → IsPermutation (map handle_of (filter p ws)) hs → IsNonDecreasing hs → hs ≡ map handle_of (filter p (by_number handle_of n ws))
handles_sorted p ws n hs granted permuted rises =
    by_number-permuted handle_of n (filter p ws) hs permuted rises (All-filter p (HasNumber handle_of n) ws granted.within)
    ∙ ap (map handle_of) (sym (by_number-filter handle_of p n ws))

pub due_count : (now : ℕ) (ws : List (Watch Watched)) (n : ℕ) → AreGranted ws n
    → length (due_handles now (table_from ws n)) ≡ length (map handle_of (filter (λ (w : Watch Watched). is_due now w) ws))
due_count now ws n granted =
    let due : Watch Watched → Bool = λ w. is_due now w in
    length-map (filter due (by_number handle_of n ws)) handle_of
    ∙ ap length (by_number-filter handle_of due n ws)
    ∙ length-by_number handle_of n (filter due ws) (All-filter due (HasNumber handle_of n) ws granted.within)
    ∙ sym (length-map (filter due ws) handle_of)

-- what may be checked is found
module _ (ws : List (Watch Watched)) (n h now : ℕ) (bytes : List ℕ) (t : WatchTable) where
  pub checkable : (i : ℕ) → table_from ws n ≡ t → IsFound ws n h i
      → IsSomeAnd (watch_of_handle h t) (λ (w : Watch Watched). IsTrue (is_due now w) × (length bytes ≡ watched_len w.watched))
      → (is_due now (nth_watch ws i) ≡ true) × (length bytes ≡ watched_len (nth_watch ws i).watched)
  checkable i view f asked =
      let live : watch_of_handle h t ≡ Some (nth_watch ws i) = ap (watch_of_handle h) (sym view) ∙ f.live in
      subst (λ (o : Option (Watch Watched)). IsSomeAnd o (λ w. IsTrue (is_due now w) × (length bytes ≡ watched_len w.watched))) live asked

  pub not_missing : table_from ws n ≡ t → position (is_numbered h) ws ≡ None
      → IsSomeAnd (watch_of_handle h t) (λ (w : Watch Watched). IsTrue (is_due now w) × (length bytes ≡ watched_len w.watched)) → ⊥
  not_missing view at_none asked =
      let live : watch_of_handle h t ≡ None = ap (watch_of_handle h) (sym view) ∙ missing ws n h at_none in
      let none = subst (λ (o : Option (Watch Watched)). IsSomeAnd o (λ w. IsTrue (is_due now w) × (length bytes ≡ watched_len w.watched))) live asked in
      none

-- each listed notification is the live one with its handle
listed_once : (ws : List (Watch Watched)) (n : ℕ) → AreGranted ws n → OncePer handle_of (by_number handle_of n ws)
listed_once ws n granted k =
    let p : Watch Watched → Bool = is_numbered k in
    let listed = length-filter p (by_number handle_of n ws) in
    let same = ap length (by_number-filter handle_of p n ws)
    ∙ length-by_number handle_of n (filter p ws) (All-filter p (HasNumber handle_of n) ws granted.within) in
    omega (arith, listed, same, length-filter p ws, granted.once k)

pub live_listed : (ws : List (Watch Watched)) (n : ℕ) → AreGranted ws n
    → All (λ (w : Watch Watched). watch_of_handle w.handle (table_from ws n) ≡ Some w) (by_number handle_of n ws)
live_listed ws n granted k d below =
    let vs : List (Watch Watched) = by_number handle_of n ws in
    let w : Watch Watched = get_or vs k d in
    let apart = OncePer-others handle_of vs k d (listed_once ws n granted) below in
    find-one (is_numbered w.handle) vs w
    (filter_one (is_numbered w.handle) vs k d below (eq-eqb w.handle w.handle refl) (λ j e under. ne_eqb _ _ (apart j e under)))

module _ (t : WatchTable) where
  pub all_live : (vs : List (Watch Watched)) → All (λ (w : Watch Watched). watch_of_handle w.handle t ≡ Some w) vs → All (IsLive t) (map handle_of vs)
  all_live vs live =
      All-map (IsLive t) handle_of vs (λ k d below. subst IsSome (sym (live k d below)) refl)

  pub told_list : (vs : List (Watch Watched)) → All (λ (w : Watch Watched). watch_of_handle w.handle t ≡ Some w) vs
      → map (end_of_handle t) (map handle_of vs) ≡ map end_of vs
  told_list [] live = refl
  told_list (w ∷ vs) live =
      let head = All-head (λ (v : Watch Watched). watch_of_handle v.handle t ≡ Some v) w vs live in
      let here : end_of_handle t w.handle ≡ end_of w = ap (λ o. end_of (watch_in o)) head in
      let rest = told_list vs (All-tail (λ (v : Watch Watched). watch_of_handle v.handle t ≡ Some v) w vs live) in
      cc

-- what goes on keeps its handle
kept_handle : (moves : ℕ → Watched → Option Watched) (w v : Watch Watched) → watch_after_reload moves w ≡ Some v → v.handle ≡ w.handle
kept_handle moves w v = by_answer (moves w.port w.watched)
  where
    by_answer : (o : Option Watched) → option_map (λ (watched : Watched). let u : Watch Watched = record w { watched = watched } in u) o ≡ Some v → v.handle
        ≡ w.handle
    by_answer None gone = absurd (cc)
    by_answer (Some there) same = let e : (let u : Watch Watched = record w { watched = there } in u) ≡ v = cc in sym (ap handle_of e)

-- and watches as many bytes
module _ (kept : List KeptPlace) (numbers : List ℕ) (port : ℕ) where
  in_area_len : (o : Option Range) (n : ℕ) (there : Watched) → ((range : Range) → o ≡ Some range → watched_len (InArea range) ≡ n)
      → option_map InArea o ≡ Some there → watched_len there ≡ n
  in_area_len None n there len gone = absurd (cc)
  in_area_len (Some range) n there len same = let e : InArea range ≡ there = cc in ap watched_len (sym e) ∙ len range refl

  bytes_len : (len : ℕ) (o : Option (Area × ℕ)) (range : Range) → option_map (bytes_at len) o ≡ Some range → watched_len (InArea range) ≡ len
  bytes_len len None range gone = absurd (cc)
  bytes_len len (Some first) range same = let e : bytes_at len first ≡ range = cc in sym (ap (λ r. watched_len (InArea r)) e)

  bit_len : (bit : ℕ) (o : Option (Area × ℕ)) (range : Range) → option_map (bit_at bit) o ≡ Some range → watched_len (InArea range) ≡ 1
  bit_len bit None range gone = absurd (cc)
  bit_len bit (Some byte) range same = let e : bit_at bit byte ≡ range = cc in sym (ap (λ r. watched_len (InArea r)) e)

  own_len : (b : Bool) (first len : ℕ) (there : Watched) → (if b then Some (Own first len) else None) ≡ Some there → watched_len there ≡ len
  own_len true first len there same = let e : Own first len ≡ there = cc in ap watched_len (sym e)
  own_len false first len there gone = absurd (cc)

  kept_len : (r there : Watched) → watched_after kept numbers port r ≡ Some there → watched_len there ≡ watched_len r
  kept_len (InArea (Bytes area offset len)) there =
      in_area_len (range_after kept port (Bytes area offset len)) len there (bytes_len len (moved_span kept port (value_of_area area) offset len))
  kept_len (InArea (Bit area offset bit)) there =
      in_area_len (range_after kept port (Bit area offset bit)) 1 there (bit_len bit (moved_span kept port (value_of_area area) offset 1))
  kept_len (InArea (Size area)) there = λ gone. absurd (cc)
  kept_len (Own first len) there = own_len (list_any (λ n. n == port) numbers) first len there

kept_watchable : (kept : List KeptPlace) (numbers : List ℕ) (w v : Watch Watched) → watch_after_reload (watched_after kept numbers) w ≡ Some v → IsWatchable w
    → IsWatchable v
kept_watchable kept numbers w v = by_answer (watched_after kept numbers w.port w.watched) (λ there. kept_len kept numbers w.port w.watched there)
  where
    by_answer : (o : Option Watched) → ((there : Watched) → o ≡ Some there → watched_len there ≡ watched_len w.watched)
        → option_map (λ (watched : Watched). let u : Watch Watched = record w { watched = watched } in u) o ≡ Some v → IsWatchable w → IsWatchable v
    by_answer None same_len gone can = absurd (cc)
    by_answer (Some there) same_len same can =
        let e : (let u : Watch Watched = record w { watched = there } in u) ≡ v = cc in
        let len : watched_len v.watched ≡ watched_len w.watched = ap (λ (u : Watch Watched). watched_len u.watched) (sym e) ∙ same_len there refl in
        (omega (arith, len, can.0), omega (arith, len, can.1))

-- a reload
module _ (kept : List KeptPlace) (numbers : List ℕ) (ws : List (Watch Watched)) (n : ℕ) where
  pub reloaded_granted : AreGranted ws n → AreGranted (watches_after_reload (watched_after kept numbers) ws) n
  unfolding watches_after_reload
  reloaded_granted granted =
      let g : Watch Watched → Option (Watch Watched) = watch_after_reload (watched_after kept numbers) in
      record {
        within = All-filter_map g (HasNumber handle_of n) (λ w v e h. rw (kept_handle (watched_after kept numbers) w v e) h) ws granted.within;
        once = λ k.
            let p : Watch Watched → Bool = is_numbered k in
            let fewer = length-filter_map-le g (filter p ws) in
            let same = ap length (filter-filter_map handle_of g (kept_handle (watched_after kept numbers)) k ws) in
            omega (arith, same, fewer, length-filter p ws, length-filter p (filter_map g ws), granted.once k);
        few = omega (arith, length-filter_map-le g ws, granted.few);
        watched = All-filter_map g IsWatchable (kept_watchable kept numbers) ws granted.watched;
      }

  pub reloaded_table : table_from (watches_after_reload (watched_after kept numbers) ws) n
      ≡ table_after (table_from ws n) (Reloaded (watched_after kept numbers))
  unfolding watches_after_reload
  reloaded_table =
      ap (λ (l : List (Watch Watched)). let t : WatchTable = record { watches = l; additions = n } in t)
      (sym (by_number-filter_map handle_of (watch_after_reload (watched_after kept numbers)) (kept_handle (watched_after kept numbers)) n ws))

-- what holds of every table
pub table_holds : (ws : List (Watch Watched)) (n : ℕ) → AreGranted ws n → IsTable (table_from ws n)
table_holds ws n granted = record {
  rise = by_number-rises handle_of n ws granted.once;
  granted = All-by_number handle_of n (HasNumber handle_of n) ws granted.within;
  few = omega (arith, length-by_number handle_of n ws granted.within, granted.few);
  watched = All-by_number handle_of n IsWatchable ws granted.watched;
}

-- the handles of those that pass a test rise
pub handles_rise : (p : Watch Watched → Bool) (ws : List (Watch Watched)) (n : ℕ) → AreGranted ws n
    → IsStrictlyIncreasing (map handle_of (filter p (by_number handle_of n ws)))
handles_rise p ws n granted =
    subst (λ (vs : List (Watch Watched)). IsStrictlyIncreasing (map handle_of vs)) (sym (by_number-filter handle_of p n ws))
    (by_number-rises handle_of n (filter p ws) (λ k.
    let q : Watch Watched → Bool = is_numbered k in
    let same = ap length (filter-filter q p ws) in
    omega (arith, length-filter q (filter p ws), length-filter q ws, same, count_by-le-length p (filter q ws), length-filter p (filter q ws), granted.once k)))
