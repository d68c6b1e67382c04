-- For private contracts, and cited by no public clause: places by which symbols are sorted.
use Rattle.std.specs.Prelude.{ℕ, ◌+◌, List, [], ◌∷◌, map}
use Rattle.spec_plant.specs.World.{area_number}
use Rattle.symbol_table.specs.Tables.{TableSymbol}

-- a symbol's area, its offset and its number
abbrev pub place_key : TableSymbol → ℕ → ℕ × ℕ × ℕ
place_key s number = (area_number s.area, s.offset, number)

-- the places of some symbols, where the first has this number
abbrev pub places_from : ℕ → List TableSymbol → List (ℕ × ℕ × ℕ)
places_from number [] = []
places_from number (s ∷ symbols) = place_key s number ∷ places_from (number + 1) symbols

abbrev pub numbers_of : List (ℕ × ℕ × ℕ) → List ℕ
numbers_of = map (λ (p : ℕ × ℕ × ℕ). p.2)
