-- The handle of a number and a port among those that are kept. Private: no public clause cites this file.
use Rattle.std.specs.Prelude.{◌≡◌, ℕ, ◌<◌, List, length, slice_index_or, Bool, ◌&&◌, ◌==◌, find, Option, Some, None, Result, Ok, Err}
use Rattle.return_codes.specs.declared.code.Code.{Code}
use Rattle.return_codes.specs.declared.code.Code.TheVariants.{C710, C711}
use Rattle.symbol_table.specs.declared.place.Place.{Place}
use Rattle.sym_handles.specs.Kept.{KeptHandle}

abbrev pub is_handle : ℕ → ℕ → KeptHandle → Bool
is_handle handle port h = (h.number == handle) && (h.port == port)

abbrev pub kept_handle : ℕ → ℕ → List KeptHandle → Option KeptHandle
kept_handle handle port hs = find (is_handle handle port) hs

-- where it stands
pub record IsHandleAt (hs : List KeptHandle) (handle at_port i : ℕ) : Type 0 where
  pub inside : i < length hs
  pub found : (d : KeptHandle) → kept_handle handle at_port hs ≡ Some (slice_index_or hs i d)
  pub port : (d : KeptHandle) → (slice_index_or hs i d).port ≡ at_port
  pub number : (d : KeptHandle) → (slice_index_or hs i d).number ≡ handle

-- the place of a kept handle, or the code that refuses it
abbrev pub place_or_code : Option Place → Result Place Code
place_or_code None = Err C711
place_or_code (Some place) = Ok place

abbrev pub look_among : Option KeptHandle → Result Place Code
look_among None = Err C710
look_among (Some h) = place_or_code h.place
