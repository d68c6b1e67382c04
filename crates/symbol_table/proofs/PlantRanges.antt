-- The symbols of a range, as those of the plant's port.
use Rattle.std.proofs.Common.{◌≡◌, ℕ, List, map, get_or, true, ◌∙◌, ap}
use Rattle.std.specs.Prelude.{option_map}
use Rattle.std.proofs.lemmas.Option.{slice_get-map}
use Rattle.spec_plant.specs.Listed.{NamedType}
use Rattle.spec_plant.specs.Description.{Area, Symbol, Port}
use Rattle.spec_plant.specs.World.{plant_symbol}
use Rattle.spec_plant.specs.Covering as plant
use Rattle.symbol_table.specs.Tables.{table_symbol}
use Rattle.symbol_table.specs.Tiles.{covers}
use Rattle.symbol_table.specs.Ranges.{HasByteIn, AreInRange, StandsIn, AllStandIn}
use Rattle.symbol_table.proofs.PlacesInOrder.{mapped_at}

stands : (types : List NamedType) (symbols : List Symbol) (area : Area) (at len n : ℕ)
    → HasByteIn (map (table_symbol types) symbols) area at len n → StandsIn (map (plant_symbol types) symbols) area at len n
stands types symbols area at len n h =
    let found = mapped_at (table_symbol types) symbols n h.owner h.there in
    record {
      owner = plant_symbol types found.0;
      there = slice_get-map (plant_symbol types) symbols n ∙ ap (option_map (plant_symbol types)) found.1;
      byte = h.byte;
      from = h.from;
      upto = h.upto;
      covered = ap (covers area h.byte) found.2 ∙ h.covered;
    }

pub stand_in : (types : List NamedType) (symbols : List Symbol) (area : Area) (at len : ℕ) (numbers : List ℕ)
    → AreInRange (map (table_symbol types) symbols) area at len numbers
    → AllStandIn (map (plant_symbol types) symbols) area at len numbers
stand_in types symbols area at len numbers are = record {
  each = λ k d below. stands types symbols area at len (get_or numbers k d) (are.each k d below);
  whole = λ byte n s from upto there covered.
      let found = mapped_at (plant_symbol types) symbols n s there in
      let covered_ : covers area byte (table_symbol types found.0) ≡ true = ap (plant.covers area byte) found.2 ∙ covered in
      are.whole byte n (table_symbol types found.0) from upto
      (slice_get-map (table_symbol types) symbols n ∙ ap (option_map (table_symbol types)) found.1) covered_;
}
