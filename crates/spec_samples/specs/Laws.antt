-- What rows and totals are: laws over every list of puts.
use Rattle.std.specs.Prelude.{◌≡◌, ℕ, ◌+◌, ◌≤◌, List, [], ◌∷◌, ◌++◌, length, Some, is_some, true, if◌then◌else◌, bytes_eq}
use Rattle.spec_samples.specs.Row.{Row}
use Rattle.spec_samples.specs.Rows.{row_numbered, rows_after_put, rows_after, rows_of, ArePuts}
use Rattle.spec_samples.specs.Totals.{total_of, total_after_row}

-- A put of a number that is there changes nothing.
abbrev pub PutAgainChangesNothing : Type 0
PutAgainChangesNothing = (puts : List Row) (put : Row)
    → is_some (row_numbered put.number (rows_of puts)) ≡ true → rows_after_put (rows_of puts) put ≡ rows_of puts

-- The row of each number is the first put of it.
abbrev pub KeepsFirstPuts : Type 0
KeepsFirstPuts = (puts : List Row) (n : ℕ) → row_numbered n (rows_of puts) ≡ row_numbered n puts

-- each number is at least this one, and greater than those before it
unfoldable pub RiseFrom : ℕ → List Row → Type 0
RiseFrom low [] = Unit {0}
RiseFrom low (r ∷ rs) = (low ≤ r.number) × RiseFrom (r.number + 1) rs

-- The rows stand by rising number, and no number stands twice.
abbrev pub RowsRise : Type 0
RowsRise = (puts : List Row) → RiseFrom 0 (rows_of puts)

-- Puts after puts are one list of puts.
abbrev pub PutsGoOn : Type 0
PutsGoOn = (rows first second : List Row)
    → rows_after rows (first ++ second) ≡ rows_after (rows_after rows first) second

-- these rows have the numbers from a first one on
unfoldable pub AreCountedFrom : ℕ → List Row → Type 0
AreCountedFrom n [] = Unit {0}
AreCountedFrom n (r ∷ rs) = (r.number ≡ n) × AreCountedFrom (n + 1) rs

-- Where each put is of a number that is there or of the next one, the rows have the numbers from 1 on.
abbrev pub RowsAreCounted : Type 0
RowsAreCounted = (puts : List Row) → ArePuts 0 puts → AreCountedFrom 1 (rows_of puts)

-- A put of the number behind all others stands last, and its name's total counts it; no other total changes.
pub record AddsLast (old : List Row) (put : Row) : Type 0 where
  pub rows : rows_after_put old put ≡ old ++ put ∷ []
  pub total : (name : List ℕ) → total_of name (rows_after_put old put)
      ≡ (if bytes_eq put.name name then Some (total_after_row (total_of name old) put) else total_of name old)

abbrev pub NewestIsLast : Type 0
NewestIsLast = (first : ℕ) (rows : List Row) (put : Row) → AreCountedFrom first rows
    → put.number ≡ first + length rows → AddsLast rows put
