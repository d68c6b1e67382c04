-- For private contracts, and cited by no public clause: the names of a port's symbols in order.
use Rattle.std.specs.Prelude.{◌≡◌, ℕ, ◌+◌, List, [], ◌∷◌, length, slice_get, Some}
use Rattle.std.specs.List.{All, Contains}
use Rattle.name_paths.specs.Name.{lower_identifiers}
use Rattle.symbol_table.specs.Tables.{TableSymbol}
use Rattle.symbol_table.specs.NameKeys.{NameKey}

-- the key of a name, where its symbol has this number
abbrev pub name_key : List ℕ → ℕ → NameKey
name_key name number = record { identifiers = lower_identifiers name; symbol = number }

-- the keys of some symbols, where the first has this number
abbrev pub keys_from : ℕ → List TableSymbol → List NameKey
keys_from number [] = []
keys_from number (s ∷ symbols) = name_key s.name number ∷ keys_from (number + 1) symbols

-- a key of one of these symbols
pub record IsKeyAmong (symbols : List TableSymbol) (key : NameKey) : Type 0 where
  pub owner : TableSymbol
  pub there : slice_get symbols key.symbol ≡ Some owner
  pub name : key.identifiers ≡ lower_identifiers owner.name

-- each symbol has its key, and each key is that of a symbol
pub record AreKeysOf (symbols : List TableSymbol) (keys : List NameKey) : Type 0 where
  pub count : length keys ≡ length symbols
  pub each : All (IsKeyAmong symbols) keys
  pub whole : (n : ℕ) (s : TableSymbol) → slice_get symbols n ≡ Some s → Contains keys (name_key s.name n)
