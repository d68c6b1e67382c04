-- What is told of all rows of one name.
use Rattle.std.specs.Prelude.{ℕ, ◌+◌, List, [], ◌∷◌, length, filter, Option, Some, None, option_map, bytes_eq}
use Rattle.spec_samples.specs.Row.{Row}

-- the number of the rows of a name, with the moment and the bytes of the row of the greatest number
pub record Total : Type 0 where
  pub count : ℕ
  pub time : ℕ
  pub bytes : List ℕ

-- the rows of a name
abbrev pub rows_named : List ℕ → List Row → List Row
rows_named name rows = filter (λ (r : Row). bytes_eq r.name name) rows

-- the last of these rows: that of the greatest number, where they stand by rising number
unfoldable pub last_row : List Row → Option Row
last_row [] = None
last_row (r ∷ []) = Some r
last_row (r ∷ (s ∷ rs)) = last_row (s ∷ rs)

abbrev pub total_with_last : ℕ → Row → Total
total_with_last count r = record { count = count; time = r.time; bytes = r.bytes }

-- the total of a name; none where no row has it
unfoldable pub total_of : List ℕ → List Row → Option Total
total_of name rows =
    option_map (total_with_last (length (rows_named name rows))) (last_row (rows_named name rows))

-- a total that counts one row more, which is the last
abbrev pub total_after_row : Option Total → Row → Total
total_after_row None r = total_with_last 1 r
total_after_row (Some t) r = total_with_last (t.count + 1) r
