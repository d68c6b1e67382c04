-- A row that is put at its place.
use Rattle.std.proofs.Common.{◌≡◌, ℕ, ◌+◌, ◌≤◌, suc, List, [], ◌∷◌, map, length, true, Option, Some, None, option_map}
use Rattle.std.proofs.Common.{refl, sym, ap, ◌∙◌, inl, inr, add-one, arith}
use Rattle.std.specs.Prelude.{nat_lt, ◌==◌, insert}
use Rattle.std.specs.Option.{option_map_or}
use Rattle.std.proofs.lemmas.Bool.{cases_Bool, lt-ltb}
use Rattle.spec_samples.specs.Row as samples
use Rattle.spec_samples.specs.Laws.{AreCountedFrom}
use Rattle.spec_samples.specs.Rows.{rows_after_put}
use Rattle.sample_store.specs.declared.row.Row.{Row}
use Rattle.sample_store.specs.Views.{row_kept}
use Rattle.sample_store.specs.Places.{place_from}

place_later : (at n : ℕ) (rows : List Row) → place_from (suc at) n rows ≡ option_map suc (place_from at n rows)
place_later at n [] = refl
place_later at n (r ∷ rs) = elim (cases_Bool (nat_lt r.number n)) [
  | inl less ↦ rw (less, add-one, add-one) (place_later (suc at) n rs)
  | inr more ↦ elim (cases_Bool (r.number == n)) [
    | inl same ↦ rw (more, same) refl
    | inr other ↦ rw (more, other) refl
  ]
]

-- the rows with one put at a place
abbrev put_in : List Row → Row → Option ℕ → List samples.Row
put_in rows new place = option_map_or (λ i. map row_kept (insert rows i new)) place (map row_kept rows)

put_behind : (r new : Row) (rs : List Row) (place : Option ℕ) → put_in (r ∷ rs) new (option_map suc place) ≡ row_kept r ∷ put_in rs new place
put_behind r new rs None = refl
put_behind r new rs (Some i) = refl

-- the rows after a put
pub rows_after_put-place : (rows : List Row) (new : Row) → rows_after_put (map row_kept rows) (row_kept new) ≡ put_in rows new (place_from 0 new.number rows)
unfolding rows_after_put
rows_after_put-place [] new = refl
rows_after_put-place (r ∷ rs) new = elim (cases_Bool (nat_lt r.number new.number)) [
  | inl less ↦
      let behind = put_behind r new rs (place_from 0 new.number rs) in
      let later : place_from 1 new.number rs ≡ option_map suc (place_from 0 new.number rs) = place_later 0 new.number rs in
      rw (less, later) (ap (λ l. row_kept r ∷ l) (rows_after_put-place rs new) ∙ sym behind)
  | inr more ↦ elim (cases_Bool (r.number == new.number)) [
    | inl same ↦ rw (more, same) refl
    | inr other ↦ rw (more, other) refl
  ]
]

-- where the number is there
pub put_none : (rows : List Row) (row : Row) → None ≡ place_from 0 row.number rows → map row_kept rows ≡ rows_after_put (map row_kept rows) (row_kept row)
put_none rows row none = sym (rows_after_put-place rows row ∙ ap (put_in rows row) (sym none))

-- where it is new, a copy goes to its place
pub put_some : (rows new : List Row) (row copy : Row) (at : ℕ)
    → Some at ≡ place_from 0 row.number rows → row_kept copy ≡ row_kept row → new ≡ insert rows at copy
    → map row_kept new ≡ rows_after_put (map row_kept rows) (row_kept row)
put_some rows new row copy at place same is =
    let number : copy.number ≡ row.number = ap (λ r. r.number) same in
    ap (map row_kept) is
    ∙ (ap (put_in rows copy) (place ∙ ap (λ n. place_from 0 n rows) (sym number))
    ∙ (sym (rows_after_put-place rows copy) ∙ ap (rows_after_put (map row_kept rows)) same))

-- a number that is greater than theirs goes behind all
pub place_behind : (at n k : ℕ) (rows : List Row) → AreCountedFrom n (map row_kept rows) → n + length rows ≤ k → place_from at k rows ≡ Some (at + length rows)
unfolding AreCountedFrom
place_behind at n k [] counted most = ap Some (omega arith)
place_behind at n k (r ∷ rs) counted most =
    let here = counted.0 in
    let less : nat_lt r.number k ≡ true = lt-ltb r.number k (omega (arith, here, most)) in
    rw less (place_behind (at + 1) (n + 1) k rs counted.1 (omega (arith, most)) ∙ ap Some (omega arith))
