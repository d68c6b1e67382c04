-- Tables whose rows have the numbers from 1 on.
use Rattle.std.proofs.Common.{◌≡◌, ◌⊎◌, ℕ, zero, suc, ◌+◌, ◌≤◌, ◌<◌, List, [], ◌∷◌, ◌++◌, length, true, refl, sym, ap, inl, inr, arith, ◌∙◌}
use Rattle.std.specs.Prelude.{is_some, ◌==◌, nat_lt, map, slice_get, option_map, get_or, Option, Some, None, IfSome, MatchOption, Result, Ok, Err, OnOk, OnErr}
use Rattle.std.specs.Borrow.{Bor}
use Rattle.std.proofs.lemmas.Option.{slice_get_read, slice_get_past}
use Rattle.std.proofs.lemmas.Bool.{cases_Bool, cases_lt, false≢true, eqb-true, ne_eqb, eq-eqb}
use Rattle.spec_samples.specs.Row.{Row}
use Rattle.sample_store.specs.declared.row.Row as code
use Rattle.sample_store.specs.Views.{row_kept}
use Rattle.spec_samples.specs.Rows.{row_numbered, rows_after_put}
use Rattle.spec_samples.specs.Laws.{AreCountedFrom}
use Rattle.spec_samples.proofs.CountLemmas.{put_last, put_there, counted-last}

-- a put of a number that is there or the next one
pub counted_after_put : (rows : List Row) (put : Row) → AreCountedFrom 1 rows → 0 < put.number → put.number ≤ length rows + 1
    → AreCountedFrom 1 (rows_after_put rows put)
counted_after_put rows put counted some most = elim (cases_lt (length rows) put.number) [
  | inl more ↦
      let next : put.number ≡ 1 + length rows = omega (arith, more, most) in
      rw (put_last 1 rows put counted next) (counted-last 1 rows put counted next)
  | inr there ↦ rw (put_there 1 rows put counted (omega (arith, some)) (omega (arith, there))) counted
]

-- no rows have the numbers from 1 on
pub none_counted : AreCountedFrom 1 []
unfolding AreCountedFrom
none_counted = tt

-- so have those behind a put, also where it was not done
pub counted_behind : {A B : Type 0} (answer : Result A B) (old new : List code.Row) (put : Row)
    → OnOk answer (map row_kept new ≡ rows_after_put (map row_kept old) put) → OnErr answer (new ≡ old)
    → AreCountedFrom 1 (map row_kept old) → 0 < put.number → put.number ≤ length (map row_kept old) + 1 → AreCountedFrom 1 (map row_kept new)
counted_behind (Ok u) old new put done kept counted some most = rw done (counted_after_put (map row_kept old) put counted some most)
counted_behind (Err e) old new put done kept counted some most = rw kept counted

-- a put adds a row, or its number is there and nothing changes
grows_or_there : (rows : List Row) (put : Row) → (length (rows_after_put rows put) ≡ length rows + 1)
    ⊎ ((rows_after_put rows put ≡ rows) × (is_some (row_numbered put.number rows) ≡ true))
unfolding rows_after_put
grows_or_there [] put = inl refl
grows_or_there (r ∷ rs) put = elim (cases_Bool (nat_lt r.number put.number)) [
  | inl less ↦ elim (grows_or_there rs put) [
    | inl more ↦ inl (rw less (omega (arith, more)))
    | inr there ↦ inr (rw less (ap (λ (l : List Row). r ∷ l) there.0), later r.number there.1)
  ]
  | inr not_less ↦ elim (cases_Bool (r.number == put.number)) [
    | inl same ↦ inr (rw (not_less, same) refl, rw same refl)
    | inr other ↦ inl (rw (not_less, other) (omega arith))
  ]
]
  where
    later : (n : ℕ) → is_some (row_numbered put.number rs) ≡ true → is_some (row_numbered put.number (r ∷ rs)) ≡ true
    later n e = elim (cases_Bool (r.number == put.number)) [ inl same ↦ rw same refl | inr other ↦ rw other e ]

-- a number that is there is one of theirs
there_below : (n k : ℕ) (rows : List Row) → AreCountedFrom n rows → is_some (row_numbered k rows) ≡ true → k < n + length rows
unfolding AreCountedFrom
there_below n k [] counted e = absurd (false≢true e)
there_below n k (r ∷ rs) counted e = elim (cases_Bool (r.number == k)) [
  | inl same ↦ let is = eqb-true r.number k same in let here = counted.0 in omega (arith, is, here)
  | inr other ↦
      let rest : is_some (row_numbered k rs) ≡ true = rw other at e in
      let below = there_below (n + 1) k rs (counted.1) rest in
      omega (arith, below)
]

-- where the rows then have the numbers from 1 on, a put of a number one more than there are rows adds a row
pub next_grows : (rows : List Row) (put : Row) → put.number ≡ length rows + 1 → AreCountedFrom 1 (rows_after_put rows put)
    → length (rows_after_put rows put) ≡ length rows + 1
next_grows rows put next counted = elim (grows_or_there rows put) [
  | inl more ↦ more
  | inr there ↦
      let below = there_below 1 put.number rows (rw there.0 at counted) there.1 in
      absurd (omega (arith, next, below))
]

-- a number that is less than theirs is not there
pub numbered-below : (k n : ℕ) (rows : List Row) → AreCountedFrom n rows → k < n → row_numbered k rows ≡ None
unfolding AreCountedFrom
numbered-below k n [] counted below = refl
numbered-below k n (r ∷ rs) counted below =
    let here = counted.0 in
    rw (ne_eqb r.number k (λ same. omega (arith, same, here, below))) (numbered-below k (n + 1) rs counted.1 (omega (arith, below)))

-- the row of a number stands at its place
pub numbered-at : (at n : ℕ) (rows : List code.Row) → AreCountedFrom n (map row_kept rows)
    → option_map row_kept (slice_get rows at) ≡ row_numbered (n + at) (map row_kept rows)
unfolding AreCountedFrom
numbered-at at n [] counted = refl
numbered-at zero n (r ∷ rs) counted =
    let here : r.number ≡ n + 0 = let is = counted.0 in omega (arith, is) in
    rw (eq-eqb r.number (n + 0) here) refl
numbered-at (suc at) n (r ∷ rs) counted =
    let here = counted.0 in
    let other = ne_eqb r.number (n + suc at) (λ same. omega (arith, same, here)) in
    let next : n + 1 + at ≡ n + suc at = omega arith in
    rw other (numbered-at at (n + 1) rs counted.1 ∙ ap (λ k. row_numbered k (map row_kept rs)) next)

-- a look-up at a place gives the row that stands there
pub row_looked_up : (rows : List code.Row) (at : ℕ) (P : Bor code.Row → Type 0) (r : Option (Bor code.Row))
    → MatchOption r (length rows ≤ at) (λ x. (at < length rows) × P x) → IfSome r (λ x. x.now ≡ get_or rows at x.now)
    → option_map (λ (x : Bor code.Row). row_kept x.now) r ≡ option_map row_kept (slice_get rows at)
row_looked_up rows at P None past value = ap (option_map row_kept) (sym (slice_get_past rows at past))
row_looked_up rows at P (Some x) there value = ap (option_map row_kept) (sym (slice_get_read rows (length rows) at x.now refl there.0 value))
