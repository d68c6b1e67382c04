-- What is kept of a list of handles, after each event, and where a handle is found in it.
use Rattle.std.proofs.Common.{◌≡◌, ◌≢◌, ℕ, ◌+◌, ◌-◌, ◌<◌, List, [], ◌∷◌, ◌++◌, map, length, true, false, cond}
use Rattle.std.proofs.Common.{refl, sym, ◌∙◌, ap, subst, inl, inr, arith, ◌==◌, get_or}
use Rattle.std.specs.Prelude.{Result, IfOk, Contains, ok_or, Option, Some, None, filter, option_map}
use Rattle.std.proofs.lemmas.Bool.{cases_Bool, cases_lt, eqb-true, eqb-false, eq-eqb, ne_eqb}
use Rattle.symbol_table.specs.declared.kept.KeptPlace.{KeptPlace}
use Rattle.symbol_table.specs.declared.place.Place.{Place}
use Rattle.symbol_table.specs.Moves.{moved_place}
use Rattle.spec_machine.specs.Handles.{HandleStatus, Never, Released, Outdated, Live, Handle, handle_in}
use Rattle.spec_machine.specs.Handles.{status_of_handle, with_released, status_after_reload, live_or_outdated}
use Rattle.spec_machine.specs.Handles.{handle_after_reload, is_live, live_count}
use Rattle.sym_handles.specs.Kept.{KeptHandle, moved_handle, without}
use Rattle.sym_handles.specs.History.{kept_before, kept_from}
use Rattle.sym_handles.specs.Found.{kept_handle, IsHandleAt}
use Rattle.return_codes.specs.declared.code.Code.{Code}
use Rattle.return_codes.specs.declared.code.Code.TheVariants.{C711}
use Rattle.sym_handles.specs.Records.{live_among}

-- a grant is kept behind all others

kept_before-append : (n port : ℕ) (s : HandleStatus Place) (xs ys : List KeptHandle) → kept_before n port s (xs ++ ys) ≡ kept_before n port s xs ++ ys
kept_before-append n port Never xs ys = refl
kept_before-append n port Released xs ys = refl
kept_before-append n port Outdated xs ys = refl
kept_before-append n port (Live p) xs ys = refl

abbrev new_handle : ℕ → ℕ → Place → List KeptHandle
new_handle n port p = record { number = n; port = port; place = Some p } ∷ []

pub kept_from-granted : (hs : List (Handle Place)) (n port : ℕ) (p : Place)
    → kept_from n (hs ++ record { port = port; status = Live p } ∷ []) ≡ kept_from n hs ++ record { number = n + length hs; port = port; place = Some p } ∷ []
kept_from-granted [] n port p = let e : n ≡ n + 0 = omega arith in ap (λ (k : ℕ). new_handle k port p) e
kept_from-granted (h ∷ hs) n port p =
    let e : n + 1 + length hs ≡ n + length (h ∷ hs) = omega arith in
    ap (kept_before n h.port h.status) (kept_from-granted hs (n + 1) port p)
    ∙ kept_before-append n h.port h.status (kept_from (n + 1) hs) (new_handle (n + 1 + length hs) port p)
    ∙ ap (λ (k : ℕ). kept_from n (h ∷ hs) ++ new_handle k port p) e

-- a reload moves each that is kept

kept_before-moved : (kept : List KeptPlace) (n port : ℕ) (s : HandleStatus Place) (xs : List KeptHandle)
    → kept_before n port (status_after_reload (moved_place kept port) s) (map (moved_handle kept) xs) ≡ map (moved_handle kept) (kept_before n port s xs)
kept_before-moved kept n port Never xs = refl
kept_before-moved kept n port Released xs = refl
kept_before-moved kept n port Outdated xs = refl
kept_before-moved kept n port (Live p) xs = go (moved_place kept port p)
  where
    go : (o : Option Place)
        → kept_before n port (live_or_outdated o) (map (moved_handle kept) xs) ≡ record { number = n; port = port; place = o } ∷ map (moved_handle kept) xs
    go None = refl
    go (Some q) = refl

pub kept_from-moved : (kept : List KeptPlace) (hs : List (Handle Place)) (n : ℕ)
    → kept_from n (map (handle_after_reload (moved_place kept)) hs) ≡ map (moved_handle kept) (kept_from n hs)
kept_from-moved kept [] n = refl
kept_from-moved kept (h ∷ hs) n =
    ap (kept_before n h.port (status_after_reload (moved_place kept h.port) h.status)) (kept_from-moved kept hs (n + 1))
    ∙ kept_before-moved kept n h.port h.status (kept_from (n + 1) hs)

-- a release takes one out

without_this : (n port : ℕ) (s : HandleStatus Place) (xs : List KeptHandle) → without n (kept_before n port s xs) ≡ without n xs
without_this n port Never xs = refl
without_this n port Released xs = refl
without_this n port Outdated xs = let t = eq-eqb n n refl in rw t refl
without_this n port (Live p) xs = let t = eq-eqb n n refl in rw t refl

without_other : (k n port : ℕ) (s : HandleStatus Place) (xs : List KeptHandle)
    → n ≢ k → without k (kept_before n port s xs) ≡ kept_before n port s (without k xs)
without_other k n port Never xs ne = refl
without_other k n port Released xs ne = refl
without_other k n port Outdated xs ne = let t = ne_eqb n k ne in rw t refl
without_other k n port (Live p) xs ne = let t = ne_eqb n k ne in rw t refl

-- all numbers are above
without_below : (hs : List (Handle Place)) (k n : ℕ) → k < n → without k (kept_from n hs) ≡ kept_from n hs
without_below [] k n low = refl
without_below (h ∷ hs) k n low =
    let ne : n ≢ k = λ e. omega (arith, e, low) in
    without_other k n h.port h.status (kept_from (n + 1) hs) ne ∙ ap (kept_before n h.port h.status) (without_below hs k (n + 1) (omega (arith, low)))

with_released-zero : (hs : List (Handle Place)) → with_released hs 0 ≡ hs
unfolding with_released
with_released-zero [] = refl
with_released-zero (h ∷ hs) = ap (λ (ks : List (Handle Place)). h ∷ ks) (with_released-zero hs)

kept_from-released_at : (hs : List (Handle Place)) (n m : ℕ) → 0 < n → kept_from (m + 1) (with_released hs n) ≡ without (n + m) (kept_from (m + 1) hs)
unfolding with_released
kept_from-released_at [] n m some = refl
kept_from-released_at (h ∷ hs) n m some =
    elim (cases_Bool (n == 1)) [
      | inl t ↦
          let one = eqb-true n 1 t in
          let at_m : m + 1 ≡ n + m = omega (arith, one) in
          let this = without_this (m + 1) h.port h.status (kept_from (m + 1 + 1) hs) ∙ without_below hs (m + 1) (m + 1 + 1) (omega arith) in
          let gone = subst (λ (k : ℕ). without k (kept_from (m + 1) (h ∷ hs)) ≡ kept_from (m + 1 + 1) hs) at_m this in
          rw t (sym gone)
      | inr f ↦
          let more = eqb-false n 1 f in
          let ne : m + 1 ≢ n + m = λ e. more (omega (arith, e)) in
          let below : 0 < n - 1 = omega (arith, some, more) in
          let same : n - 1 + (m + 1) ≡ n + m = omega (arith, some) in
          let rest = kept_from-released_at hs (n - 1) (m + 1) below ∙ ap (λ (k : ℕ). without k (kept_from (m + 1 + 1) hs)) same in
          rw f (ap (kept_before (m + 1) h.port h.status) rest ∙ sym (without_other (n + m) (m + 1) h.port h.status (kept_from (m + 1 + 1) hs) ne))
    ]

pub kept_from-released : (hs : List (Handle Place)) (n : ℕ) → kept_from 1 (with_released hs n) ≡ without n (kept_from 1 hs)
kept_from-released hs n =
    elim (cases_lt 0 n) [
      | inl some ↦
          let e : n + 0 ≡ n = omega arith in
          kept_from-released_at hs n 0 some ∙ ap (λ (k : ℕ). without k (kept_from 1 hs)) e
      | inr none ↦
          let e : n ≡ 0 = omega (arith, none) in
          ap (λ (k : ℕ). kept_from 1 (with_released hs k)) e ∙ ap (kept_from 1) (with_released-zero hs) ∙ sym (without_below hs n 1 (omega (arith, e)))
    ]

-- the live ones are kept

live_before : (n port : ℕ) (s : HandleStatus Place) (h : Handle Place) (xs : List (Handle Place)) (ys : List KeptHandle) → length xs ≡ live_among ys
    → length (cond (is_live s) (h ∷ xs) xs) ≡ live_among (kept_before n port s ys)
live_before n port Never h xs ys e = e
live_before n port Released h xs ys e = e
live_before n port Outdated h xs ys e = omega (arith, e)
live_before n port (Live p) h xs ys e = omega (arith, e)

pub live_count-kept : (hs : List (Handle Place)) (n : ℕ) → live_count hs ≡ live_among (kept_from n hs)
live_count-kept [] n = refl
live_count-kept (h ∷ hs) n =
    live_before n h.port h.status h (filter (λ (k : Handle Place). is_live k.status) hs) (kept_from (n + 1) hs) (live_count-kept hs (n + 1))

-- The place that is kept of a handle by its status: none where it is not kept, and no place where it is outdated.
abbrev pub place_kept : HandleStatus Place → Option (Option Place)
place_kept Never = None
place_kept Released = None
place_kept Outdated = Some None
place_kept (Live p) = Some (Some p)

abbrev pub place_found : Option KeptHandle → Option (Option Place)
place_found o = option_map (λ (h : KeptHandle). h.place) o

found_other : (k port n other : ℕ) (s : HandleStatus Place) (xs : List KeptHandle)
    → n ≢ k → kept_handle k port (kept_before n other s xs) ≡ kept_handle k port xs
found_other k port n other Never xs ne = refl
found_other k port n other Released xs ne = refl
found_other k port n other Outdated xs ne = let t = ne_eqb n k ne in rw t refl
found_other k port n other (Live p) xs ne = let t = ne_eqb n k ne in rw t refl

found_this : (n port other : ℕ) (s : HandleStatus Place) (xs : List KeptHandle) → kept_handle n port xs ≡ None
    → place_kept (cond (other == port) s Never) ≡ place_found (kept_handle n port (kept_before n other s xs))
found_this n port other s xs none =
    elim (cases_Bool (other == port)) [ inl t ↦ rw t (here t s) | inr f ↦ rw f (not_here f s) ]
  where
    itself : (n == n) ≡ true
    itself = eq-eqb n n refl

    here : (other == port) ≡ true → (s : HandleStatus Place) → place_kept s ≡ place_found (kept_handle n port (kept_before n other s xs))
    here t Never = rw none refl
    here t Released = rw none refl
    here t Outdated = rw itself (rw t refl)
    here t (Live p) = rw itself (rw t refl)

    not_here : (other == port) ≡ false → (s : HandleStatus Place) → None ≡ place_found (kept_handle n port (kept_before n other s xs))
    not_here f Never = rw none refl
    not_here f Released = rw none refl
    not_here f Outdated = rw itself (rw f (rw none refl))
    not_here f (Live p) = rw itself (rw f (rw none refl))

found_below : (hs : List (Handle Place)) (k port n : ℕ) → k < n → kept_handle k port (kept_from n hs) ≡ None
found_below [] k port n low = refl
found_below (h ∷ hs) k port n low =
    let ne : n ≢ k = λ e. omega (arith, e, low) in
    found_other k port n h.port h.status (kept_from (n + 1) hs) ne ∙ found_below hs k port (n + 1) (omega (arith, low))

handle_in-zero : (hs : List (Handle Place)) → handle_in hs 0 ≡ None
unfolding handle_in
handle_in-zero [] = refl
handle_in-zero (h ∷ hs) = handle_in-zero hs

found_at : (hs : List (Handle Place)) (n m port : ℕ) → 0 < n
    → place_kept (status_of_handle port (handle_in hs n)) ≡ place_found (kept_handle (n + m) port (kept_from (m + 1) hs))
unfolding handle_in
found_at [] n m port some = refl
found_at (h ∷ hs) n m port some =
    elim (cases_Bool (n == 1)) [
      | inl t ↦
          let one = eqb-true n 1 t in
          let at_m : m + 1 ≡ n + m = omega (arith, one) in
          let this = found_this (m + 1) port h.port h.status (kept_from (m + 1 + 1) hs) (found_below hs (m + 1) port (m + 1 + 1) (omega arith)) in
          rw t (subst (λ (k : ℕ). place_kept (cond (h.port == port) h.status Never) ≡ place_found (kept_handle k port (kept_from (m + 1) (h ∷ hs)))) at_m this)
      | inr f ↦
          let more = eqb-false n 1 f in
          let ne : m + 1 ≢ n + m = λ e. more (omega (arith, e)) in
          let below : 0 < n - 1 = omega (arith, some, more) in
          let same : n - 1 + (m + 1) ≡ n + m = omega (arith, some) in
          let rest = found_at hs (n - 1) (m + 1) port below ∙ ap (λ (k : ℕ). place_found (kept_handle k port (kept_from (m + 1 + 1) hs))) same in
          rw f (rest ∙ ap place_found (sym (found_other (n + m) port (m + 1) h.port h.status (kept_from (m + 1 + 1) hs) ne)))
    ]

-- the handle that is found is that of the list
pub place_found-kept : (hs : List (Handle Place)) (n port : ℕ)
    → place_kept (status_of_handle port (handle_in hs n)) ≡ place_found (kept_handle n port (kept_from 1 hs))
place_found-kept hs n port =
    elim (cases_lt 0 n) [
      | inl some ↦
          let e : n + 0 ≡ n = omega arith in
          found_at hs n 0 port some ∙ ap (λ (k : ℕ). place_found (kept_handle k port (kept_from 1 hs))) e
      | inr none ↦
          let e : n ≡ 0 = omega (arith, none) in
          let zero : handle_in hs n ≡ None = ap (handle_in hs) e ∙ handle_in-zero hs in
          ap (λ (o : Option (Handle Place)). place_kept (status_of_handle port o)) zero ∙ ap place_found (sym (found_below hs n port 1 (omega (arith, e))))
    ]

abbrev new : ℕ → ℕ → Option Place → KeptHandle
new number port place = record { number = number; port = port; place = place }

-- a look-up that succeeds gives the place of a handle that is kept
pub place_contained : (hs : List KeptHandle) (handle port i : ℕ) (o : Option Place) (answer : Result Place Code)
    → IsHandleAt hs handle port i → ((d : KeptHandle) → o ≡ (get_or hs i d).place)
    → answer ≡ ok_or o C711 → IfOk answer (λ (p : Place). Contains hs (record { number = handle; port = port; place = Some p }))
place_contained hs handle port i None answer is_at same e = rw e tt
place_contained hs handle port i (Some p) answer is_at same e = rw e (i, is_at.inside, whole)
  where
    whole : get_or hs i (new handle port (Some p)) ≡ new handle port (Some p)
    whole =
        let h = new handle port (Some p) in
        ap (λ (n : ℕ). new n (get_or hs i h).port (get_or hs i h).place) (is_at.number h)
        ∙ ap (λ (n : ℕ). new handle n (get_or hs i h).place) (is_at.port h) ∙ ap (new handle port) (sym (same h))
