-- Notifications that are due stand in front of the others.
use Rattle.std.proofs.Common.{◌≡◌, ℕ, ◌+◌, ◌<◌, ◌≤◌, ◌++◌, [], ◌∷◌, map, List, length, take, drop, get_or, false, sym}
use Rattle.std.proofs.Common.{ap, ◌∙◌, arith, true, inl, inr, ◌-◌, nat_lt}
use Rattle.std.specs.List.{All, filter, insert}
use Rattle.std.specs.List.Sorted.{IsPartitionedBy, IsPartitionPoint}
use Rattle.std.proofs.lemmas.Bool.{cases_lt, lt-leb, le-leb, leb-true, leb-false, ltb-true}
use Rattle.std.proofs.lemmas.List.{append-nil, get_or_default, map_more, get_or-drop, get_or-take, length-drop, length-take-le}
use Rattle.std.proofs.lemmas.List.{length-append, drop_all}
use Rattle.std.proofs.lemmas.List.Elements.{All-get_or, All-push}
use Rattle.std.proofs.lemmas.List.Sorted.{IsNonDecreasingBy-insert, IsNonDecreasingBy-push}
use Rattle.notify_table.proofs.Filtered.{All-insert, filter_none, filter_behind}
use Rattle.spec_machine.specs.WatchedRanges.{Watched}
use Rattle.spec_machine.specs.Watches.{Watch}
use Rattle.notify_table.specs.Table.{handle_of}
use Rattle.notify_table.specs.Turns.{AreInTurn, AllDue, HasHandle, is_turn_due, turn_rank, IsPlaceOf}

-- one that stands behind another that is not due is not due
none_due_behind : (now : ℕ) (ws : List (Watch Watched)) (i : ℕ) (d : Watch Watched) → AreInTurn ws → i < length ws
    → is_turn_due now (get_or ws i d) ≡ false → All (λ (w : Watch Watched). is_turn_due now w ≡ false) (drop i ws)
none_due_behind now ws i d in_turn within not_due k e below =
    let there : i + k < length ws = omega (arith, length-drop i ws) in
    let rank = in_turn.rise i (i + k) d (omega arith) there in
    let handle = All-get_or HasHandle ws (i + k) d there in_turn.handles in
    let later = leb-false _ _ not_due in
    let same : get_or ws (i + k) d ≡ get_or ws (i + k) e = get_or_default ws (i + k) d e there in
    rw (get_or-drop i ws k e, ← same) (lt-leb _ _ (omega arith))

-- where the first i ws are due and the next is not, these are all that are
pub due_before : (now : ℕ) (ws : List (Watch Watched)) (i : ℕ) (d : Watch Watched) → AreInTurn ws → i < length ws
    → AllDue now (take i ws) → is_turn_due now (get_or ws i d) ≡ false
    → filter (is_turn_due now) ws ≡ take i ws
due_before now ws i d in_turn within due not_due =
    filter_behind (is_turn_due now) ws i due
    ∙ ap (λ ys. take i ws ++ ys) (filter_none (is_turn_due now) (drop i ws) (none_due_behind now ws i d in_turn within not_due))
    ∙ append-nil (take i ws)

-- as many are due
pub due_at_least : (now : ℕ) (ws : List (Watch Watched)) (i : ℕ) → i ≤ length ws → AllDue now (take i ws)
    → i ≤ length (filter (is_turn_due now) ws)
due_at_least now ws i within due =
    rw (filter_behind (is_turn_due now) ws i due)
    (omega (arith, length-append (take i ws) (filter (is_turn_due now) (drop i ws)), length-take-le i ws within))

-- where all are due
pub due_all : (now : ℕ) (ws : List (Watch Watched)) (i : ℕ) → length ws ≤ i → AllDue now (take i ws)
    → filter (is_turn_due now) ws ≡ take i ws
due_all now ws i past due =
    filter_behind (is_turn_due now) ws i due
    ∙ rw (drop_all i ws past) (append-nil (take i ws))

-- one before another that is due is due
pub due_parted : (now : ℕ) (ws : List (Watch Watched)) → AreInTurn ws → IsPartitionedBy (is_turn_due now) ws
due_parted now ws in_turn i j d before within due =
    let rank = in_turn.rise i j d before within in
    let handle = All-get_or HasHandle ws j d within in_turn.handles in
    let now_due = leb-true _ _ due in
    le-leb _ _ (omega arith)

-- those that are due stand before this place
module _ (now : ℕ) (ws : List (Watch Watched)) (i : ℕ) (d : Watch Watched) (in_turn : AreInTurn ws) (within : i ≤ length ws) where
  pub due_front : IsPartitionPoint (λ (w : Watch Watched). is_turn_due now w ≡ true) (λ (w : Watch Watched). is_turn_due now w ≡ false) ws i
      → take i ws ≡ filter (is_turn_due now) ws
  due_front point = elim (cases_lt i (length ws)) [
    | inl inside ↦ sym (due_before now ws i d in_turn inside due (point.1 i d (omega arith) inside))
    | inr past ↦ sym (due_all now ws i past due)
  ]
    where
      due : AllDue now (take i ws)
      due k e below =
          let short = length-take-le i ws within in
          let first : k < i = omega (arith, short, below) in
          rw (get_or-take i ws k e first) (point.0 k e (omega arith) first)

  -- and so many are they
  pub due_until : IsPartitionPoint (λ (w : Watch Watched). is_turn_due now w ≡ true) (λ (w : Watch Watched). is_turn_due now w ≡ false) ws i
      → i ≡ length (filter (is_turn_due now) ws)
  due_until point = sym (length-take-le i ws within) ∙ ap (λ (us : List (Watch Watched)). length us) (due_front point)

-- the handle of one more
pub handles_more : (ws : List (Watch Watched)) (i : ℕ) (d : Watch Watched) (handles : List ℕ) → i < length ws
    → handles ≡ map handle_of (take i ws)
    → handles ++ handle_of (get_or ws i d) ∷ [] ≡ map handle_of (take (i + 1) ws)
handles_more ws i d handles within so_far =
    rw so_far (sym (map_more handle_of ws i d within))

-- what is of a later rank than the last comes behind all
pub behind_last : (r : ℕ) (ws : List (Watch Watched)) (n : ℕ) (last : Watch Watched) → AreInTurn ws → n ≡ length ws → last ≡ get_or ws (n - 1) last
    → nat_lt (turn_rank last) r ≡ true → IsPlaceOf r ws (length ws)
behind_last r ws n last in_turn is_len is_last later = record {
  within = omega arith;
  before = λ k d below.
      let end : n - 1 < length ws = omega (arith, is_len, below) in
      let rise = in_turn.rise k (n - 1) last (omega (arith, is_len, below)) end in
      let same : get_or ws k d ≡ get_or ws k last = get_or_default ws k d last below in
      let rank : turn_rank (get_or ws (n - 1) last) ≡ turn_rank last = ap turn_rank (sym is_last) in
      let less = ltb-true _ _ later in
      rw same (omega (arith, rise, rank, less));
  behind = λ k d from below. absurd (omega (arith, from, below));
}

-- what comes behind all may stand there
pub in_turn_behind : (w : Watch Watched) (ws : List (Watch Watched)) → HasHandle w → AreInTurn ws → IsPlaceOf (turn_rank w) ws (length ws)
    → AreInTurn (ws ++ w ∷ [])
in_turn_behind w ws handle in_turn place = record {
  handles = All-push HasHandle ws w in_turn.handles handle;
  rise = IsNonDecreasingBy-push turn_rank ws w in_turn.rise (λ d some. place.before (length ws - 1) d (omega (arith, some)));
}

-- and so at any place that is its own
pub in_turn-insert : (w : Watch Watched) (ws : List (Watch Watched)) (i : ℕ) → HasHandle w → AreInTurn ws → IsPlaceOf (turn_rank w) ws i
    → AreInTurn (insert ws i w)
in_turn-insert w ws i handle in_turn place = record {
  handles = All-insert HasHandle ws i w in_turn.handles handle;
  rise = IsNonDecreasingBy-insert turn_rank ws i w in_turn.rise place.within place.before place.behind;
}
