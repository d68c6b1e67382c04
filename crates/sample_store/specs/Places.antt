-- Where a row goes, and what is found of a name; no public clause cites this.
use Rattle.std.specs.Prelude.{ℕ, ◌+◌, List, [], ◌∷◌, nat_lt, ◌==◌, if◌then◌else◌, bytes_eq, Option, Some, None}
use Rattle.spec_samples.specs.Row as samples
use Rattle.sample_store.specs.declared.row.Row.{Row}
use Rattle.sample_store.specs.Views.{row_kept}

-- the place of a new number, where these rows begin at a place; none for a number that is there
abbrev pub place_from : ℕ → ℕ → List Row → Option ℕ
place_from at n [] = Some at
place_from at n (r ∷ rs) =
    if nat_lt r.number n then place_from (at + 1) n rs else if r.number == n then None else Some at

-- the rows of a name behind so many others
abbrev pub count_from : ℕ → List ℕ → List Row → ℕ
count_from count name [] = count
count_from count name (r ∷ rs) = count_from (if bytes_eq r.name name then count + 1 else count) name rs

-- the last row of a name; behind another
abbrev pub last_from : Option samples.Row → List ℕ → List Row → Option samples.Row
last_from last name [] = last
last_from last name (r ∷ rs) = last_from (if bytes_eq r.name name then Some (row_kept r) else last) name rs
