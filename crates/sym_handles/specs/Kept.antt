-- What is kept of a client's handles, as contracts see it.
use Rattle.std.specs.Prelude.{ℕ, ◌+◌, List, [], ◌∷◌, ◌++◌, filter, not, ◌==◌, Option, Some, option_and_then}
use Rattle.std.specs.Option.{ForSome}
use Rattle.symbol_table.specs.declared.kept.KeptPlace.{KeptPlace}
use Rattle.symbol_table.specs.declared.place.Place.{Place}
use Rattle.symbol_table.specs.Moves.{moved_place, IsInOldWorld}

-- a handle that is not released: its number and its port, and its place, which an outdated one has not
pub record KeptHandle : Type 0 where
  pub number : ℕ
  pub port : ℕ
  pub place : Option Place

-- how many handles were granted, and those that are not released, by rising number
pub record Kept : Type 0 where
  pub granted : ℕ
  pub handles : List KeptHandle

-- one more, of the next number
abbrev pub with_granted : ℕ → Place → Kept → Kept
with_granted port place kept = record {
  granted = kept.granted + 1;
  handles = kept.handles ++ record { number = kept.granted + 1; port = port; place = Some place } ∷ [];
}

-- all but the handle of this number
abbrev pub without : ℕ → List KeptHandle → List KeptHandle
without number hs = filter (λ (h : KeptHandle). not (h.number == number)) hs

-- the place of a live handle lies in the old world of a reload
abbrev pub HasPlaceInOldWorld : List KeptPlace → KeptHandle → Type 0
HasPlaceInOldWorld kept h = ForSome h.place (IsInOldWorld kept h.port)

-- a handle after a reload, which is outdated where its place is not kept
abbrev pub moved_handle : List KeptPlace → KeptHandle → KeptHandle
moved_handle kept h = record h { place = option_and_then (moved_place kept h.port) h.place }
