-- The numbers so far.
use Rattle.std.proofs.Common.{◌≡◌, take}
use Rattle.symbol_table.specs.PlaceKeys.{numbers_of}
use Rattle.symbol_table.proofs.by_place.numbers_of.Given as goal

abbrev pub invariant-loop-place : goal.invariant-loop-place
invariant-loop-place l = l.numbers.items ≡ numbers_of (take l.place-index l.places)
