-- For callers: what is due is live, and may be checked.
use Rattle.std.proofs.Common.{◌≡◌, ℕ, suc, ◌+◌, ◌<◌, true, false, nat_eq, List, [], ◌∷◌, length, map, Option, Some}
use Rattle.std.proofs.Common.{None, option_map, IsSomeAnd, IsTrue, refl, sym, ap, ◌∙◌, arith, inl, inr}
use Rattle.std.specs.List.{All, filter, find, list_any}
use Rattle.std.specs.List.Sorted.{IsStrictlyIncreasing}
use Rattle.std.proofs.lemmas.Bool.{cases_Bool, cases_eq, eq-eqb, ne_eqb, eqb-true, false≢true}
use Rattle.std.proofs.lemmas.List.{length-map, get_or-map}
use Rattle.std.proofs.lemmas.List.Elements.{All-head, All-tail, All-cons, All-nil, All-weaker}
use Rattle.spec_machine.specs.WatchedRanges.{Watched}
use Rattle.spec_machine.specs.Watches.{Watch, is_due}
use Rattle.notify_table.specs.Table.{WatchTable, IsTable, handle_of, is_numbered, due_handles, watch_of_handle}
use Rattle.notify_table.specs.Table.{watched_len}
use Rattle.std.specs.Option.{option_map_or}
use Rattle.notify_table.specs.declared.spec.Spec.{Spec}
use Rattle.notify_table.specs.Specs.{watched_meant, new_watch, before_checks}

pub rises_tail : (x : ℕ) (xs : List ℕ) → IsStrictlyIncreasing (x ∷ xs) → IsStrictlyIncreasing xs
rises_tail x xs rises k below =
    let step = rises (suc k) (omega arith) in
    let next : suc k + 1 ≡ suc (k + 1) = omega arith in
    rw next at step

pub above_first : (x : ℕ) (xs : List ℕ) → IsStrictlyIncreasing (x ∷ xs) → All (λ y. x < y) xs
above_first x [] rises = All-nil (λ y. x < y)
above_first x (y ∷ ys) rises =
    let step : x < y = rises 0 (omega arith) in
    All-cons (λ z. x < z) y ys step
    (All-weaker (λ z. y < z) (λ z. x < z) (λ z h. omega arith) ys (above_first y ys (rises_tail x (y ∷ ys) rises)))

none_due : (now handle : ℕ) (ws : List (Watch Watched)) → All (λ (w : Watch Watched). handle < w.handle) ws
    → list_any (λ h. nat_eq h handle) (map handle_of (filter (λ (w : Watch Watched). is_due now w) ws)) ≡ false
none_due now handle [] above = refl
none_due now handle (w ∷ ws) above =
    let rest = none_due now handle ws (All-tail (λ (v : Watch Watched). handle < v.handle) w ws above) in
    let more = All-head (λ (v : Watch Watched). handle < v.handle) w ws above in
    elim (cases_Bool (is_due now w)) [
      | inl due ↦ rw (due, ne_eqb w.handle handle (omega arith)) rest
      | inr early ↦ rw early rest
    ]

due_among : (now handle : ℕ) (ws : List (Watch Watched)) → IsStrictlyIncreasing (map handle_of ws)
    → list_any (λ h. nat_eq h handle) (map handle_of (filter (λ (w : Watch Watched). is_due now w) ws)) ≡ true
    → IsSomeAnd (find (is_numbered handle) ws) (λ (w : Watch Watched). IsTrue (is_due now w))
due_among now handle [] rises listed = absurd (false≢true listed)
due_among now handle (w ∷ ws) rises listed =
    elim (cases_eq w.handle handle) [
      | inl same ↦ rw (eq-eqb w.handle handle same) (elim (cases_Bool (is_due now w)) [
        | inl due ↦ due
        | inr early ↦
            let others : All (λ (v : Watch Watched). handle < v.handle) ws = λ k d below.
            let more = above_first w.handle (map handle_of ws) rises k (handle_of d) (omega (arith, length-map ws handle_of)) in
            let at_place = get_or-map handle_of ws k d (handle_of d) below in
            omega (arith, more, at_place, same) in
            absurd (false≢true (sym (none_due now handle ws others) ∙ rw early at listed))
      ])
      | inr other ↦
          rw (ne_eqb w.handle handle other)
          (due_among now handle ws (rises_tail w.handle (map handle_of ws) rises) (elim (cases_Bool (is_due now w)) [
            | inl due ↦ rw (due, ne_eqb w.handle handle other) at listed
            | inr early ↦ rw early at listed
          ]))
    ]

-- a handle among those that are due is that of a live notification whose check is due
pub due_is_live : (now handle : ℕ) (t : WatchTable) → IsTable t → list_any (λ h. nat_eq h handle) (due_handles now t) ≡ true
    → IsSomeAnd (watch_of_handle handle t) (λ (w : Watch Watched). IsTrue (is_due now w))
due_is_live now handle t table listed = due_among now handle t.watches table.rise listed

-- and may be checked with one byte, where it was added for one
pub checkable_byte : (now handle byte : ℕ) (t : WatchTable) (spec : Option Spec) → IsTable t
    → list_any (λ h. nat_eq h handle) (due_handles now t) ≡ true
    → option_map (new_watch handle) spec ≡ option_map before_checks (watch_of_handle handle t)
    → option_map_or (λ (s : Spec). nat_eq (watched_len (watched_meant s.watched)) 1) spec false ≡ true
    → IsSomeAnd (watch_of_handle handle t) (λ (w : Watch Watched). IsTrue (is_due now w) × (length (byte ∷ []) ≡ watched_len w.watched))
checkable_byte now handle byte t spec table listed asked one =
    by_watch (watch_of_handle handle t) spec (due_is_live now handle t table listed) asked one
  where
    by_watch : (o : Option (Watch Watched)) (s : Option Spec) → IsSomeAnd o (λ (w : Watch Watched). IsTrue (is_due now w))
        → option_map (new_watch handle) s ≡ option_map before_checks o
        → option_map_or (λ (s : Spec). nat_eq (watched_len (watched_meant s.watched)) 1) s false ≡ true
        → IsSomeAnd o (λ (w : Watch Watched). IsTrue (is_due now w) × (length (byte ∷ []) ≡ watched_len w.watched))
    by_watch None s dead same len = dead
    by_watch (Some w) None due same len = absurd (false≢true len)
    by_watch (Some w) (Some s) due same len =
        let e : new_watch handle s ≡ before_checks w = cc in
        let watched : watched_meant s.watched ≡ w.watched = ap (λ (v : Watch Watched). v.watched) e in
        (due, sym (eqb-true _ _ len) ∙ ap watched_len watched)
