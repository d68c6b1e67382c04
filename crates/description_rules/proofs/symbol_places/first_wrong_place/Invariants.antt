use Rattle.std.proofs.Common.{◌≡◌, [], map, take}
use Rattle.spec_rules.specs.Places.{first_wrong}
use Rattle.spec_rules.specs.Described.{sizes_described}
use Rattle.type_layout.specs.NamedTypes.{types_of}
use Rattle.description_table.specs.Views.{port_view}
use Rattle.description_rules.specs.Placed.{is_right_behind}
use Rattle.description_rules.specs.TakenPlaces.{StandFor, symbol_place}
use Rattle.description_rules.proofs.FirstLemmas.{first_from}
use Rattle.description_rules.proofs.symbol_places.first_wrong_place.Given as goal

-- the symbols before this one are right, and their bytes taken
abbrev pub invariant-loop-i : goal.invariant-loop-i
invariant-loop-i l = record {
  first : first_wrong is_right_behind [] (map (symbol_place (types_of l.known.types) (sizes_described (port_view l.port))) l.symbols)
      ≡ first_from is_right_behind (symbol_place (types_of l.known.types) (sizes_described (port_view l.port))) l.symbols l.i;
  stand : StandFor (map (symbol_place (types_of l.known.types) (sizes_described (port_view l.port))) (take l.i l.symbols)) l.taken.items;
}
