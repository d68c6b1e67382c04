-- Worked tables of samples.
use Rattle.std.specs.Prelude.{◌≡◌, refl, ℕ, List, [], ◌∷◌, Some, None, codes}
use Rattle.spec_samples.specs.Row.{Row}
use Rattle.spec_samples.specs.Rows.{rows_after_put, rows_after, rows_of}
use Rattle.spec_samples.specs.Totals.{last_row, total_of}

abbrev row : ℕ → List ℕ → ℕ → ℕ → Row
row number name time byte = record { number = number; name = name; time = time; bytes = byte ∷ [] }

-- a repeated row changes nothing, whatever it holds
repeated : rows_of (row 1 (codes "Main.wave") 100 3 ∷ row 2 (codes "Main.wave") 200 1 ∷ row 1 (codes "Main.x") 300 9 ∷ row 3 (codes "Main.x") 400 4 ∷ [])
    ≡ row 1 (codes "Main.wave") 100 3 ∷ row 2 (codes "Main.wave") 200 1 ∷ row 3 (codes "Main.x") 400 4 ∷ []
unfolding rows_after rows_after_put
repeated = refl

-- rows stand by their numbers, whatever the order of the puts
by_number : rows_of (row 3 [] 1 0 ∷ row 1 [] 2 0 ∷ row 2 [] 3 0 ∷ row 2 [] 4 0 ∷ []) ≡ row 1 [] 2 0 ∷ row 2 [] 3 0 ∷ row 3 [] 1 0 ∷ []
unfolding rows_after rows_after_put
by_number = refl

abbrev table : List Row
table = rows_of (row 1 (codes "a") 100 3 ∷ row 2 (codes "b") 200 1 ∷ row 3 (codes "a") 300 4 ∷ row 2 (codes "a") 400 7 ∷ [])

two_of_a : total_of (codes "a") table ≡ Some (record { count = 2; time = 300; bytes = 4 ∷ [] })
unfolding rows_after rows_after_put last_row total_of
two_of_a = refl

one_of_b : total_of (codes "b") table ≡ Some (record { count = 1; time = 200; bytes = 1 ∷ [] })
unfolding rows_after rows_after_put last_row total_of
one_of_b = refl

-- names are told apart by the case of their letters
none_of_big_a : total_of (codes "A") table ≡ None
unfolding rows_after rows_after_put last_row total_of
none_of_big_a = refl
