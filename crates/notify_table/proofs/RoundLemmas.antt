-- The checks of a round.
use Rattle.std.proofs.Common.{◌≡◌, ℕ, zero, suc, ◌+◌, ◌-◌, ◌<◌, ◌≤◌, max, List, [], ◌∷◌, ◌++◌, length, map, take, drop}
use Rattle.std.proofs.Common.{Bool, true, false, cond, nat_eq, IsTrue, IsSomeAnd, IfSome, get_or, set, Some, Option, refl, sym, ap, ◌∙◌, subst, arith, inl, inr}
use Rattle.std.specs.List.{All, filter, insert, remove}
use Rattle.std.specs.List.Sorted.{IsNonDecreasing, IsNonDecreasingBy, IsPermutation, IsStrictlyIncreasing}
use Rattle.std.proofs.lemmas.Bool.{cases_eq, cases_lt}
use Rattle.std.proofs.lemmas.List.{length-map, length-set, length-drop, length-take-le, length-append, get_or-map, get_or-take, get_or-drop, get_or_default}
use Rattle.std.proofs.lemmas.List.{get_or_append_left, get_or-append_right, map-append, take-map, drop-set-lt, take_more_set}
use Rattle.std.proofs.lemmas.List.{append-nil, take-append-drop}
use Rattle.std.proofs.lemmas.List.Elements.{All-get_or, All-push, All-set, All-nil, All-head, All-tail, filter-append}
use Rattle.std.proofs.lemmas.List.Sums.{length-filter}
use Rattle.std.proofs.lemmas.List.Sorted.{All-permutation, IsNonDecreasingBy-from_all_adjacent, IsPermutation-append_comm, IsPermutation-refl}
use Rattle.std.proofs.lemmas.List.Sorted.{length_permutation, sum_by-IsPermutation}
use Rattle.std.proofs.lemmas.List.Edits.{length-remove}
use Rattle.spec_machine.specs.WatchedRanges.{Watched}
use Rattle.spec_machine.specs.Watches.{Watch, is_due, is_sent, after_check}
use Rattle.notify_table.specs.declared.spec.Spec.{Spec}
use Rattle.notify_table.specs.declared.round.Round.TheInside.{Inside}
use Rattle.notify_table.specs.Specs.{new_watch, before_checks}
use Rattle.notify_table.specs.Table.{WatchTable, IsWatchable, Checked, due_handles, handle_of, is_numbered, table_after, watched_len}
use Rattle.notify_table.specs.Turns.{AreInTurn, HasHandle, turn_rank, is_turn_due, next_moment}
use Rattle.notify_table.specs.Schedules.{no_watch, nth_watch}
use Rattle.notify_table.specs.Rounds.{RoundState, HasNext, next_handle, next_watch, round_after}
use Rattle.notify_table.specs.InPlace.{checked_rank, IsCheckedAt, RiseUpTo, RiseTogether, IsBehind, GoRound, AreInRound, IsRound, round_of}
use Rattle.notify_table.specs.Numbered.{AreGranted, HasNumber, table_from}
use Rattle.notify_table.proofs.NumberedLemmas.{by_number-same}
use Rattle.notify_table.proofs.TableLemmas.{IsFound, found_at, handles_sorted, checked_granted, checked_table}
use Rattle.notify_table.proofs.ScheduleLemmas.{due_watches, nth_is, set_is, map-set_kept, rises_unmapped, handle-checked}

-- ---- the order

step_rises : (now : ℕ) (a b : Watch Watched) → a.handle < b.handle → a.cycle ≤ b.cycle → checked_rank now a ≤ checked_rank now b
step_rises now a b handle cycle = omega arith

-- those that rise together do so once they are checked
rises_between : (now : ℕ) (ws : List (Watch Watched)) (i j : ℕ) (d : Watch Watched) → RiseTogether ws → i ≤ j → j < length ws
    → checked_rank now (get_or ws i d) ≤ checked_rank now (get_or ws j d)
rises_between now ws i zero d rises le below =
    let same : i ≡ zero = omega arith in
    rw same (omega arith)
rises_between now ws i (suc j) d rises le below =
    elim (cases_eq i (suc j)) [
      | inl same ↦ rw same (omega arith)
      | inr other ↦
          let next : j + 1 ≡ suc j = omega arith in
          let step = rw next at (rises j d (omega arith)) in
          let last = step_rises now (get_or ws j d) (get_or ws (suc j) d) step.0 step.1 in
          let before = rises_between now ws i j d rises (omega arith) (omega arith) in
          omega (arith, last, before)
    ]

-- one more rises
pub one_more_rises : (ws : List (Watch Watched)) (i handle cycle : ℕ) (next : Watch Watched) → RiseUpTo ws i → 0 < i → i < length ws
    → ((d : Watch Watched) → handle ≡ (get_or ws (i - 1) d).handle) → ((d : Watch Watched) → cycle ≡ (get_or ws (i - 1) d).cycle)
    → next ≡ get_or ws i next → handle < next.handle → cycle ≤ next.cycle → RiseUpTo ws (i + 1)
one_more_rises ws i handle cycle next rises some within handle_is cycle_is next_is more longer k d below =
    elim (cases_eq (k + 1) i) [
      | inl same ↦
          let before : k ≡ i - 1 = omega (arith, same) in
          let high : get_or ws (k + 1) d ≡ next = rw same (get_or_default ws i d next within ∙ sym next_is) in
          rw (high, before, ← handle_is d, ← cycle_is d) (more, longer)
      | inr other ↦ rises k d (omega (arith, other, below))
    ]

-- the first so many rise together
pub risen : (ws : List (Watch Watched)) (i due : ℕ) → due ≤ length ws → due ≤ i → RiseUpTo ws i → RiseTogether (take due ws)
risen ws i due within reached rises k d below =
    let long = length-take-le due ws within in
    rw (get_or-take due ws k d (omega (arith, long, below)), get_or-take due ws (k + 1) d (omega (arith, long, below)))
    (rises k d (omega (arith, long, below, reached)))

-- the first so many go behind the others
pub rounds : (now due : ℕ) (ws : List (Watch Watched)) → AreInTurn ws → due ≤ length ws → RiseTogether (take due ws) → IsBehind now due ws → GoRound now due ws
rounds now due ws in_turn within rises behind i j d le below =
    let rest_len = length-drop due ws in
    let take_len = length-take-le due ws within in
    let rest_map = length-map (drop due ws) turn_rank in
    let front_map = length-map (take due ws) (checked_rank now) in
    let total = length-append rest front in
    elim (cases_lt j (length rest)) [
      | inl j_rest ↦
          rw (at_rest i (omega arith), at_rest j j_rest)
          (in_turn.rise (due + i) (due + j) no_watch (omega arith) (omega (arith, rest_len, rest_map, j_rest)))
      | inr j_front ↦
          let there : j - length rest < length (take due ws) = omega (arith, total, front_map, below) in
          elim (cases_lt i (length rest)) [
            | inl i_rest ↦
                let first : 0 < length (take due ws) = omega (arith, there) in
                let some : due < length ws = omega (arith, rest_len, rest_map, i_rest) in
                let last = in_turn.rise (due + i) (length ws - 1) no_watch (omega (arith, rest_len, rest_map, i_rest)) (omega (arith, some)) in
                let over = behind no_watch some in
                let zeroth : get_or (take due ws) 0 no_watch ≡ get_or ws 0 no_watch = get_or-take due ws 0 no_watch (omega (arith, first, take_len)) in
                let more = rw zeroth at (rises_between now (take due ws) 0 (j - length rest) no_watch rises (omega arith) there) in
                rw (at_rest i i_rest, at_front j j_front there) (omega (arith, last, over, more))
            | inr i_front ↦
                rw (at_front i i_front (omega (arith, there, le)), at_front j j_front there)
                (rises_between now (take due ws) (i - length rest) (j - length rest) no_watch rises (omega arith) there)
          ]
    ]
  where
    front : List ℕ
    front = map (checked_rank now) (take due ws)

    rest : List ℕ
    rest = map turn_rank (drop due ws)

    at_rest : (k : ℕ) → k < length rest → get_or (rest ++ front) k d ≡ turn_rank (get_or ws (due + k) no_watch)
    at_rest k k_rest =
        get_or_append_left rest front d k k_rest
        ∙ (get_or-map turn_rank (drop due ws) k no_watch d (omega (arith, length-map (drop due ws) turn_rank, k_rest))
        ∙ ap turn_rank (get_or-drop due ws k no_watch))

    at_front : (k : ℕ) → length rest ≤ k → k - length rest < length (take due ws)
        → get_or (rest ++ front) k d ≡ checked_rank now (get_or (take due ws) (k - length rest) no_watch)
    at_front k k_front there =
        get_or-append_right rest front (length rest) k d refl k_front
        ∙ get_or-map (checked_rank now) (take due ws) (k - length rest) no_watch d there

-- their handles rise
pub round_handles_rise : (ws : List (Watch Watched)) → RiseTogether ws → IsStrictlyIncreasing (map handle_of ws)
round_handles_rise ws rises k below =
    let long = length-map ws handle_of in
    rw (
      get_or-map handle_of ws k no_watch 0 (omega (arith, long, below)),
      get_or-map handle_of ws (k + 1) no_watch 0 (omega (arith, long, below)),
    ) (rises k no_watch (omega (arith, long, below))).0

-- ---- one check

-- what changes nothing that a function sees, among the first so many
map-set_same : {X Y : Type 0} (f : X → Y) (xs : List X) (n i : ℕ) (y d : X) → f y ≡ f (get_or xs i d) → i < length xs
    → map f (take n (set xs i y)) ≡ map f (take n xs)
map-set_same f xs n i y d same within =
    sym (take-map f n (set xs i y)) ∙ (ap (take n) (map-set_kept f xs i y d same within) ∙ take-map f n xs)

-- the notification that is next is changed
pub checked_in_round : (ws : List (Watch Watched)) (now due made : ℕ) (w v : Watch Watched) → AreInRound ws now due made → made < due
    → v ≡ get_or ws made v → w.handle ≡ v.handle → w.cycle ≡ v.cycle → IsCheckedAt now w → AreInRound (set ws made w) now due (made + 1)
checked_in_round ws now due made w v round next v_is handle cycle checked =
    let within : made < length ws = omega (arith, round.within) in
    let same_rank : checked_rank now w ≡ checked_rank now (get_or ws made v) = rw (← v_is, handle, cycle) refl in
    record {
      within = omega (arith, length-set ws made w, round.within);
      handles = All-set HasHandle ws made w (rw handle (subst HasHandle (sym v_is) (All-get_or HasHandle ws made v within round.handles))) round.handles;
      round = rw (drop-set-lt due ws made w next, map-set_same (checked_rank now) ws due made w v same_rank within) round.round;
      checked = rw (take_more_set ws made w within) (All-push (IsCheckedAt now) (take made ws) w round.checked checked);
    }

-- and no handle
pub same_handles : (ws : List (Watch Watched)) (n i : ℕ) (w v : Watch Watched) → w.handle ≡ v.handle → v ≡ get_or ws i v → i < length ws
    → map handle_of (take n (set ws i w)) ≡ map handle_of (take n ws)
same_handles ws n i w v handle v_is within = map-set_same handle_of ws n i w v (handle ∙ ap handle_of v_is) within

-- ---- after all checks

-- two lists of which one is empty are joined in either order
short_swap : {X : Type 0} (xs ys : List X) → length xs + length ys ≤ 1 → ys ++ xs ≡ xs ++ ys
short_swap [] ys short = append-nil ys
short_swap (x ∷ xs) [] short = sym (append-nil (x ∷ xs))
short_swap (x ∷ xs) (y ∷ ys) short = absurd (omega (arith, short))

-- the first k go behind the others
module _ (ws : List (Watch Watched)) (n k : ℕ) where
  abbrev turned : List (Watch Watched)
  turned = drop k ws ++ take k ws

  turned_permuted : IsPermutation ws turned
  turned_permuted = subst (λ vs. IsPermutation vs turned) (take-append-drop k ws) (IsPermutation-append_comm (take k ws) (drop k ws))

  turned_filter : AreGranted ws n → (j : ℕ) → filter (is_numbered j) turned ≡ filter (is_numbered j) ws
  turned_filter granted j =
      let p : Watch Watched → Bool = is_numbered j in
      let whole : filter p ws ≡ filter p (take k ws) ++ filter p (drop k ws) =
      ap (filter p) (sym (take-append-drop k ws)) ∙ filter-append p (take k ws) (drop k ws) in
      let lengths = ap length whole ∙ length-append (filter p (take k ws)) (filter p (drop k ws)) in
      filter-append p (drop k ws) (take k ws)
      ∙ (short_swap (filter p (take k ws)) (filter p (drop k ws)) (omega (arith, lengths, length-filter p ws, granted.once j))
      ∙ sym whole)

  pub turned_granted : AreGranted ws n → AreGranted turned n
  turned_granted granted = record {
    within = All-permutation (HasNumber handle_of n) ws turned turned_permuted granted.within;
    once = λ j. omega (arith, sum_by-IsPermutation (λ (w : Watch Watched). cond {A = ℕ} (nat_eq w.handle j) 1 0) ws turned turned_permuted, granted.once j);
    few = omega (arith, length_permutation ws turned turned_permuted, granted.few);
    watched = All-permutation IsWatchable ws turned turned_permuted granted.watched;
  }

  pub turned_table : AreGranted ws n → table_from turned n ≡ table_from ws n
  turned_table granted =
      ap (λ (l : List (Watch Watched)). let t : WatchTable = record { watches = l; additions = n } in t)
      (by_number-same handle_of n turned ws (turned_filter granted))

-- those of a round all of whose checks were made are in turn
checked_same : (now : ℕ) (ws : List (Watch Watched)) → All (IsCheckedAt now) ws → map (checked_rank now) ws ≡ map turn_rank ws
checked_same now [] all = refl
checked_same now (w ∷ ws) all =
    let next = All-head (IsCheckedAt now) w ws all in
    let here : checked_rank now w ≡ turn_rank w = omega (arith, next) in
    let rest = checked_same now ws (All-tail (IsCheckedAt now) w ws all) in
    cc

pub round_in_turn : (ws us : List (Watch Watched)) (now due : ℕ) → AreInRound ws now due due → us ≡ drop due ws ++ take due ws → AreInTurn us
round_in_turn ws us now due round us_is =
    let permuted : IsPermutation ws (drop due ws ++ take due ws) =
    subst (λ vs. IsPermutation vs (drop due ws ++ take due ws)) (take-append-drop due ws) (IsPermutation-append_comm (take due ws) (drop due ws)) in
    let order : IsNonDecreasing (map turn_rank (drop due ws) ++ map turn_rank (take due ws)) =
    subst (λ front. IsNonDecreasing (map turn_rank (drop due ws) ++ front)) (checked_same now (take due ws) round.checked) round.round in
    rw us_is (record {
      handles = All-permutation HasHandle ws _ permuted round.handles;
      rise = rises_unmapped turn_rank (drop due ws ++ take due ws) (rw (map-append turn_rank (drop due ws) (take due ws)) order);
    })

-- ---- before the first check

pub round_opened : (ws : List (Watch Watched)) (now due : ℕ) → AreInTurn ws → due ≤ length ws → GoRound now due ws → AreInRound ws now due 0
round_opened ws now due in_turn within round = record {
  within = within;
  handles = in_turn.handles;
  round = round;
  checked = All-nil (IsCheckedAt now);
}

-- the first handles are those that are due, where they rise
pub round_handles : (ws : List (Watch Watched)) (n now due : ℕ) → AreGranted ws n → take due ws ≡ filter (is_turn_due now) ws
    → IsStrictlyIncreasing (map handle_of (take due ws)) → map handle_of (take due ws) ≡ due_handles now (table_from ws n)
round_handles ws n now due granted front rises =
    let due_of : Watch Watched → Bool = λ w. is_due now w in
    let hs : List ℕ = map handle_of (take due ws) in
    let same : map handle_of (filter due_of ws) ≡ hs = ap (map handle_of) (due_watches now ws ∙ sym front) in
    handles_sorted due_of ws n hs granted
    (subst (λ l. IsPermutation l hs) (sym same) (IsPermutation-refl hs)) (strictly hs rises)
  where
    strictly : (hs : List ℕ) → IsStrictlyIncreasing hs → IsNonDecreasing hs
    strictly hs rise = IsNonDecreasingBy-from_all_adjacent (λ x. x) hs
        (λ k d below. let step = rise k below in
        rw (get_or_default hs k d 0 (omega (arith, below)), get_or_default hs (k + 1) d 0 below) (omega (arith, step)))

-- ---- the notification that is next

-- from when on a check is due again
next_after_check : (now : ℕ) (bytes : List ℕ) (v : Watch Watched) → next_moment (after_check now bytes v) ≡ now + max v.cycle 1
next_after_check now bytes v = by_sent (is_sent bytes v)
  where
    by_sent : (sent : Bool) → next_moment (cond sent (record v { last = Some now; sent = bytes }) (record v { last = Some now })) ≡ now + max v.cycle 1
    by_sent true = refl
    by_sent false = refl

cycle-checked : (now : ℕ) (bytes : List ℕ) (v : Watch Watched) → (after_check now bytes v).cycle ≡ v.cycle
cycle-checked now bytes v = by_sent (is_sent bytes v)
  where
    by_sent : (sent : Bool) → (cond sent (record v { last = Some now; sent = bytes }) (record v { last = Some now })).cycle ≡ v.cycle
    by_sent true = refl
    by_sent false = refl

module _ (r : Inside) (w : Watch Watched) (round : IsRound r) (next : HasNext (round_of r)) (w_is : w ≡ get_or r.ring.items r.made w) where
  abbrev ws : List (Watch Watched)
  ws = r.ring.items

  before_due : r.made < r.due
  before_due = omega (arith, next, length-map (take r.due ws) handle_of, length-take-le r.due ws round.turns.within)

  within_all : r.made < length ws
  within_all = let due = before_due in omega (arith, due, round.turns.within)

  nth : nth_watch ws r.made ≡ w
  nth = nth_is ws r.made w within_all w_is

  pub next_numbered : w.handle ≡ next_handle (round_of r)
  next_numbered =
      let long = length-take-le r.due ws round.turns.within in
      sym (get_or-map handle_of (take r.due ws) r.made w 0 (omega (arith, long, before_due))
      ∙ ap handle_of (get_or-take r.due ws r.made w before_due ∙ sym w_is))

  next_found : IsFound ws r.granted (next_handle (round_of r)) r.made
  next_found = found_at ws r.granted (next_handle (round_of r)) r.made round.granted within_all (ap handle_of nth ∙ next_numbered)

  pub next_live : next_watch (round_of r) ≡ Some w
  next_live = next_found.live ∙ ap (λ (v : Watch Watched). let o : Option (Watch Watched) = Some v in o) nth

  pub next_spec : (spec : Spec) → new_watch w.handle spec ≡ before_checks w
      → IsSomeAnd (next_watch (round_of r)) (λ v. new_watch (next_handle (round_of r)) spec ≡ before_checks v)
  next_spec spec is =
      subst (λ (o : Option (Watch Watched)). IsSomeAnd o (λ v. new_watch (next_handle (round_of r)) spec ≡ before_checks v)) (sym next_live)
      (subst (λ h. new_watch h spec ≡ before_checks w) next_numbered is)

  -- where its bytes are these
  module _ (bytes : List ℕ)
      (asked : IsSomeAnd (next_watch (round_of r)) (λ v. IsTrue (is_due r.moment v) × (length bytes ≡ watched_len v.watched))) where
    next_asked : (is_due r.moment w ≡ true) × (length bytes ≡ watched_len w.watched)
    next_asked = subst (λ (o : Option (Watch Watched)). IsSomeAnd o (λ v. IsTrue (is_due r.moment v) × (length bytes ≡ watched_len v.watched))) next_live asked

    pub next_len : length bytes ≡ watched_len w.watched
    next_len = next_asked.1

    pub next_sent : (sent : Bool) → sent ≡ is_sent bytes w → IfSome (next_watch (round_of r)) (λ v. sent ≡ is_sent bytes v)
    next_sent sent is = subst (λ (o : Option (Watch Watched)). IfSome o (λ v. sent ≡ is_sent bytes v)) (sym next_live) is

    abbrev after : Watch Watched
    after = after_check r.moment bytes w

    left_watches : set ws r.made after ≡ insert (remove ws r.made) r.made (after_check r.moment bytes (nth_watch ws r.made))
    left_watches =
        set_is ws r.made after within_all
        ∙ ap (λ (v : Watch Watched). insert (remove ws r.made) r.made (after_check r.moment bytes v)) (sym nth)

    pub next_turns : AreInRound (set ws r.made after) r.moment r.due (r.made + 1)
    next_turns =
        checked_in_round ws r.moment r.due r.made after w round.turns before_due w_is (handle-checked r.moment bytes w) (cycle-checked r.moment bytes w)
        (next_after_check r.moment bytes w ∙ ap (λ n. r.moment + max n 1) (sym (cycle-checked r.moment bytes w)))

    pub next_granted : AreGranted (set ws r.made after) r.granted
    next_granted =
        rw left_watches (checked_granted ws r.granted (next_handle (round_of r)) r.moment bytes r.made r.made
        (omega (arith, length-remove ws r.made next_found.within, next_found.within)) round.granted next_found)

    next_table : table_from (set ws r.made after) r.granted ≡ table_after (table_from ws r.granted) (Checked (next_handle (round_of r)) r.moment bytes)
    next_table =
        ap (λ (l : List (Watch Watched)). table_from l r.granted) left_watches
        ∙ checked_table ws r.granted (next_handle (round_of r)) r.moment bytes r.made r.made next_found
        (ap (λ (v : Watch Watched). is_due r.moment v) nth ∙ next_asked.0)

    pub next_round : (let s : RoundState = record {
      table = table_from (set ws r.made after) r.granted;
      handles = map handle_of (take r.due (set ws r.made after));
      moment = r.moment;
      made = r.made + 1;
    } in s) ≡ round_after bytes (round_of r)
    next_round =
        ap (λ (x : WatchTable). let s : RoundState = record {
          table = x;
          handles = map handle_of (take r.due (set ws r.made after));
          moment = r.moment;
          made = r.made + 1;
        } in s) next_table
        ∙ ap (λ (hs : List ℕ). let s : RoundState = record {
          table = table_after (table_from ws r.granted) (Checked (next_handle (round_of r)) r.moment bytes);
          handles = hs;
          moment = r.moment;
          made = r.made + 1;
        } in s) (same_handles ws r.due r.made after w (handle-checked r.moment bytes w) w_is within_all)

-- where all checks were made, each of the first so many was checked
pub all_made : (r : Inside) (s : RoundState) → round_of r ≡ s → IsRound r → s.made ≡ length s.handles
    → AreInRound r.ring.items r.moment r.due r.due
all_made r s view round made =
    let as_made = ap (λ (x : RoundState). x.made) view in
    let handles = ap (λ (x : RoundState). length x.handles) view in
    let all : r.made ≡ r.due =
    omega (
      arith,
      as_made,
      handles,
      made,
      length-map (take r.due r.ring.items) handle_of,
      length-take-le r.due r.ring.items round.turns.within,
    ) in
    subst (λ n. AreInRound r.ring.items r.moment r.due n) all round.turns
