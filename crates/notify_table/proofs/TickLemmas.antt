-- For callers: the checks of a tick, one after another, are the tick of the machine.
use Rattle.std.proofs.Common.{◌≡◌, ℕ, zero, suc, ◌+◌, ◌<◌, Bool, true, false, ◌||◌, cond, nat_eq, List, [], ◌∷◌, ◌++◌}
use Rattle.std.proofs.Common.{length, map, take, get_or, refl, sym, ap, ◌∙◌, arith, inl, inr}
use Rattle.std.specs.List.{All, filter, find, list_any}
use Rattle.std.specs.List.Sorted.{IsStrictlyIncreasing}
use Rattle.std.proofs.lemmas.Bool.{cases_Bool, cases_eq, or_right, eq-eqb, ne_eqb}
use Rattle.std.proofs.lemmas.List.{map-id, length-take-le, get_or-take, get_or_default}
use Rattle.std.proofs.lemmas.List.Elements.{All-head, All-tail}
use Rattle.std.proofs.lemmas.List.Folds.{list_any-append, list_any_none}
use Rattle.spec_machine.specs.WatchedRanges.{Watched}
use Rattle.spec_machine.specs.Watches.{Watch, is_due, is_sent, checked_watch}
use Rattle.notify_table.specs.Table.{WatchTable, handle_of, is_numbered, due_handles, checked_where}

or_false : (b : Bool) → (b || false) ≡ b
or_false true = refl
or_false false = refl

module _ (now : ℕ) (found : Watch Watched → List ℕ) where
  -- a notification after the checks of those with these handles, where each finds its bytes
  abbrev pub checked_among : List ℕ → Watch Watched → Watch Watched
  checked_among handles w = cond (list_any (λ h. nat_eq h w.handle) handles) (checked_watch now (found w) w) w

  handle-checked_watch : (bytes : List ℕ) (w : Watch Watched) → (checked_watch now bytes w).handle ≡ w.handle
  handle-checked_watch bytes w =
      elim (cases_Bool (is_due now w)) [
        | inl due ↦ elim (cases_Bool (is_sent bytes w)) [
          | inl sent ↦ rw (due, sent) refl
          | inr same ↦ rw (due, same) refl
        ]
        | inr early ↦ rw early refl
      ]

  handle-checked_among : (handles : List ℕ) (w : Watch Watched) → (checked_among handles w).handle ≡ w.handle
  handle-checked_among handles w =
      elim (cases_Bool (list_any (λ h. nat_eq h w.handle) handles)) [
        | inl among ↦ rw among (handle-checked_watch (found w) w)
        | inr other ↦ rw other refl
      ]

  -- before the first check
  pub checked_none : (ws : List (Watch Watched)) → map (checked_among []) ws ≡ ws
  checked_none ws = map-id ws

  -- one more check
  pub checked_one_more : (handle : ℕ) (bytes : List ℕ) (handles : List ℕ) (ws : List (Watch Watched))
      → list_any (λ h. nat_eq h handle) handles ≡ false → All (λ (w : Watch Watched). w.handle ≡ handle → bytes ≡ found w) ws
      → map (checked_where handle now bytes) (map (checked_among handles) ws) ≡ map (checked_among (handles ++ handle ∷ [])) ws
  checked_one_more handle bytes handles [] new finds = refl
  checked_one_more handle bytes handles (w ∷ ws) new finds =
      let rest = checked_one_more handle bytes handles ws new (All-tail (λ (v : Watch Watched). v.handle ≡ handle → bytes ≡ found v) w ws finds) in
      let here : checked_where handle now bytes (checked_among handles w) ≡ checked_among (handles ++ handle ∷ []) w =
      elim (cases_eq w.handle handle) [
        | inl same ↦
            let bytes_are = All-head (λ (v : Watch Watched). v.handle ≡ handle → bytes ≡ found v) w ws finds same in
            let before : list_any (λ h. nat_eq h w.handle) handles ≡ false = rw same new in
            rw (
              list_any-append (λ h. nat_eq h w.handle) handles (handle ∷ []),
              before,
              eq-eqb w.handle handle same,
              eq-eqb handle w.handle
                  (sym same),
              bytes_are,
            ) refl
        | inr other ↦
            let kept : is_numbered handle (checked_among handles w) ≡ false =
            ne_eqb _ _ (λ e. other (sym (handle-checked_among handles w) ∙ e)) in
            rw (kept, list_any-append (λ h. nat_eq h w.handle) handles (handle ∷ []), ne_eqb handle w.handle (λ e. other (sym e)))
            (ap (λ b. cond b (checked_watch now (found w) w) w) (sym (or_false (list_any (λ h. nat_eq h w.handle) handles))))
      ] in
      cc

  -- one that was not checked yet is as it was
  pub found_among : (handle : ℕ) (handles : List ℕ) (ws : List (Watch Watched)) → list_any (λ h. nat_eq h handle) handles ≡ false
      → find (is_numbered handle) (map (checked_among handles) ws) ≡ find (is_numbered handle) ws
  found_among handle handles [] new = refl
  found_among handle handles (w ∷ ws) new =
      elim (cases_eq w.handle handle) [
        | inl same ↦
            let before : list_any (λ h. nat_eq h w.handle) handles ≡ false = rw same new in
            rw (before, eq-eqb w.handle handle same) refl
        | inr other ↦
            let kept : is_numbered handle (checked_among handles w) ≡ false =
            ne_eqb _ _ (λ e. other (sym (handle-checked_among handles w) ∙ e)) in
            rw (kept, ne_eqb w.handle handle other) (found_among handle handles ws new)
      ]

  -- a due notification is among those that are due
  due_listed : (w : Watch Watched) (ws : List (Watch Watched)) (handles : List ℕ)
      → ((v : ℕ) → list_any (λ h. nat_eq h v) (map handle_of (filter (λ (u : Watch Watched). is_due now u) (w ∷ ws))) ≡ true → list_any
      (λ h. nat_eq h v) handles ≡ true)
      → checked_among handles w ≡ checked_watch now (found w) w
  due_listed w ws handles covers =
      elim (cases_Bool (is_due now w)) [
        | inl due ↦
            let among = covers w.handle (rw (due, eq-eqb w.handle w.handle refl) refl) in
            rw among refl
        | inr early ↦ elim (cases_Bool (list_any (λ h. nat_eq h w.handle) handles)) [
          | inl among ↦ rw among refl
          | inr other ↦ rw (other, early) refl
        ]
      ]

  checked_covered : (ws : List (Watch Watched)) (handles : List ℕ)
      → ((v : ℕ) → list_any (λ h. nat_eq h v) (map handle_of (filter (λ (u : Watch Watched). is_due now u) ws)) ≡ true → list_any (λ h. nat_eq h v)
      handles ≡ true)
      → map (checked_among handles) ws ≡ map (λ (w : Watch Watched). checked_watch now (found w) w) ws
  checked_covered [] handles covers = refl
  checked_covered (w ∷ ws) handles covers =
      let here = due_listed w ws handles covers in
      let rest = checked_covered ws handles (λ v listed. covers v (elim (cases_Bool (is_due now w)) [
        | inl due ↦ rw (due, listed) (or_right (nat_eq w.handle v) true refl)
        | inr early ↦ rw early listed
      ])) in
      cc

  -- all that are due are checked
  pub checked_all : (t : WatchTable) → map (checked_among (due_handles now t)) t.watches ≡ map (λ (w : Watch Watched). checked_watch now (found w) w) t.watches
  checked_all t = checked_covered t.watches (due_handles now t) (λ v listed. listed)

-- a handle is below those behind it
below_later : (handles : List ℕ) (k i : ℕ) → IsStrictlyIncreasing handles → k < i → i < length handles → get_or handles k 0 < get_or handles i 0
below_later handles k zero rises before within = absurd (omega arith)
below_later handles k (suc i) rises before within =
    let next : i + 1 ≡ suc i = omega arith in
    let step = rw next at (rises i (omega arith)) in
    elim (cases_eq k i) [
      | inl same ↦ rw same step
      | inr other ↦
          let earlier = below_later handles k i rises (omega arith) (omega arith) in
          omega (arith, earlier, step)
    ]

-- of rising handles none stands before its place
pub not_before : (handles : List ℕ) (i : ℕ) → IsStrictlyIncreasing handles → i < length handles
    → list_any (λ h. nat_eq h (get_or handles i 0)) (take i handles) ≡ false
not_before handles i rises within =
    list_any_none (λ h. nat_eq h (get_or handles i 0)) (take i handles)
    (λ k d below.
    let short = length-take-le i handles (omega arith) in
    let earlier : k < i = omega (arith, short) in
    let here : get_or (take i handles) k d ≡ get_or handles k 0 =
    get_or-take i handles k d earlier ∙ get_or_default handles k d 0 (omega arith) in
    let less = below_later handles k i rises earlier within in
    rw here (ne_eqb _ _ (λ e. omega (arith, e, less))))
