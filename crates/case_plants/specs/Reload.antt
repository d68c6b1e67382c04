-- The reload of the cases: port 851 keeps three symbols.
use Rattle.std.specs.Prelude.{ℕ, List, [], ◌∷◌}
use Rattle.type_layout.specs.declared.port.Area.{Area}
use Rattle.type_layout.specs.declared.port.Area.TheVariants.{Memory, Process}
use Rattle.symbol_table.specs.declared.place.Place.{Place}
use Rattle.symbol_table.specs.declared.kept.KeptPlace.{KeptPlace}

-- a place, and the entry of a symbol of port 851
abbrev pub placed : ℕ → Area → ℕ → ℕ → Place
placed symbol area at_byte len = record { symbol = symbol; area = area; «at» = at_byte; len = len }

abbrev pub kept_at : Place → Place → KeptPlace
kept_at from to = record { port = 851; from = from; to = to }

abbrev pub reload : List KeptPlace
reload = kept_at (placed 2 Process 0 4) (placed 5 Memory 100 4)
    ∷ kept_at (placed 3 Process 4 8) (placed 0 Process 0 8)
    ∷ kept_at (placed 4 Process 8 0) (placed 1 Process 8 0) ∷ []
