-- The total of a name is its count and its last row.
use Rattle.std.proofs.Common.{◌≡◌, ℕ, ◌+◌, List, [], ◌∷◌, length, map, Option, Some, None, option_map, refl, sym, ap, ◌∙◌, inl, inr, arith}
use Rattle.std.specs.Prelude.{bytes_eq}
use Rattle.std.specs.List.{last_or}
use Rattle.std.proofs.lemmas.Bool.{cases_Bool}
use Rattle.spec_samples.specs.Row as samples
use Rattle.spec_samples.specs.Totals.{rows_named, last_row, total_with_last, total_of}
use Rattle.sample_store.specs.declared.row.Row.{Row}
use Rattle.sample_store.specs.declared.total.Total.{Total}
use Rattle.sample_store.specs.Views.{row_kept, total_told}
use Rattle.sample_store.specs.Places.{count_from, last_from}

count_is : (count : ℕ) (name : List ℕ) (rows : List Row) → count_from count name rows ≡ count + length (rows_named name (map row_kept rows))
count_is count name [] = omega arith
count_is count name (r ∷ rs) = elim (cases_Bool (bytes_eq r.name name)) [
  | inl same ↦ let more = count_is (count + 1) name rs in rw (same) (more ∙ omega arith)
  | inr other ↦ rw (other) (count_is count name rs)
]

last_is : (last : Option samples.Row) (name : List ℕ) (rows : List Row) → last_from last name rows ≡ last_or last (rows_named name (map row_kept rows))
last_is last name [] = refl
last_is last name (r ∷ rs) = elim (cases_Bool (bytes_eq r.name name)) [
  | inl same ↦ rw (same) (last_is (Some (row_kept r)) name rs)
  | inr other ↦ rw (other) (last_is last name rs)
]

last_row-is : (rows : List samples.Row) → last_or None rows ≡ last_row rows
unfolding last_row
last_row-is [] = refl
last_row-is (r ∷ []) = refl
last_row-is (r ∷ (s ∷ rs)) = last_row-is (s ∷ rs)

total_parts : (name : List ℕ) (rows : List Row)
    → total_of name (map row_kept rows) ≡ option_map (total_with_last (count_from 0 name rows)) (last_from None name rows)
unfolding total_of
total_parts name rows =
    let named = rows_named name (map row_kept rows) in
    let count : count_from 0 name rows ≡ length named = count_is 0 name rows ∙ omega arith in
    let last : last_from None name rows ≡ last_row named = last_is None name rows ∙ last_row-is named in
    rw (count, last) refl

-- no row has the name
pub total_none : (name : List ℕ) (rows : List Row) → None ≡ last_from None name rows → None ≡ total_of name (map row_kept rows)
total_none name rows none = sym (total_parts name rows ∙ ap (option_map (total_with_last (count_from 0 name rows))) (sym none))

-- a row has it
pub total_some : (name : List ℕ) (rows : List Row) (last : samples.Row) (total : Total) → Some last ≡ last_from None name rows
    → total.count ≡ count_from 0 name rows → total.time ≡ last.time → total.bytes ≡ last.bytes → Some (total_told total) ≡ total_of name (map row_kept rows)
total_some name rows last total some count time bytes =
    let made : total_told total ≡ total_with_last (count_from 0 name rows) last = rw (count, time, bytes) refl in
    sym (total_parts name rows ∙ (ap (option_map (total_with_last (count_from 0 name rows))) (sym some) ∙ ap (λ t. Some t) (sym made)))
