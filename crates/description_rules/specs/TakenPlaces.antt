-- For private contracts, and cited by no public clause: the bytes of symbols among those that are taken.
use Rattle.std.specs.Prelude.{◌≡◌, ◌+◌, ◌*◌, ◌^◌, ◌<◌, List, Bool, true, ◌&&◌}
use Rattle.std.specs.List.{list_all}
use Rattle.spec_plant.specs.Listed.{NamedType}
use Rattle.spec_plant.specs.Description.{Sizes}
use Rattle.spec_plant.specs.World.{area_number}
use Rattle.description_table.specs.Views.{symbol_view}
use Rattle.description_table.specs.declared.written.WrittenSymbol.{WrittenSymbol}
use Rattle.description_rules.specs.Placed.{SymbolPlace, place_of, are_apart_places}
use Rattle.description_rules.specs.Taken.{AreInOrder, are_apart_ranges}
use Rattle.description_rules.specs.declared.taken.ByteRange.{ByteRange}

-- a symbol as the code borrows it
abbrev pub symbol_place : List NamedType → Sizes → WrittenSymbol → SymbolPlace
symbol_place types sizes s = place_of types sizes (symbol_view s)

-- the bytes of a symbol among those of all areas, each of which has room for 64 bits
abbrev pub range_of : SymbolPlace → ByteRange
range_of p = record {
  start = area_number p.area * 2 ^ 64 + p.offset;
  end = area_number p.area * 2 ^ 64 + p.offset + p.size;
}

-- what holds of the answer, whether a symbol is rightly placed and apart from those before: where it is, its bytes are taken
pub record TakesPlace (place : SymbolPlace) (old new : List ByteRange) (right : Bool) : Type 0 where
  pub answer : right ≡ (place.right && list_all (λ r. are_apart_ranges r (range_of place)) old)
  pub order : right ≡ true → AreInOrder new
  pub taken : right ≡ true → (q : ByteRange → Bool) → list_all q new ≡ (list_all q old && q (range_of place))

-- the ranges are those of symbols
pub record StandFor (places : List SymbolPlace) (ranges : List ByteRange) : Type 0 where
  pub order : AreInOrder ranges
  pub same : (s : SymbolPlace) → s.offset + s.size < 2 ^ 64
      → list_all (λ r. are_apart_ranges r (range_of s)) ranges ≡ list_all (λ e. are_apart_places e s) places
