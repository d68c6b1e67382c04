use Rattle.std.proofs.Common.{◌≡◌, [], ap, ◌∙◌, map, subst, Option, ℕ}
use Rattle.std.specs.Result.{IfOk}
use Rattle.spec_rules.specs.Places.{first_wrong}
use Rattle.spec_rules.specs.SymbolRules.{is_right_place}
use Rattle.spec_rules.specs.Described.{sizes_described}
use Rattle.type_layout.specs.NamedTypes.{types_of}
use Rattle.description_rules.specs.Placed.{is_right_behind}
use Rattle.description_rules.specs.TakenPlaces.{symbol_place}
use Rattle.description_table.specs.Views.{port_view, symbol_view}
use Rattle.description_rules.proofs.PlaceLemmas.{first_wrong-places}
use Rattle.description_rules.proofs.TakenPlaceLemmas.{symbol_places-written}
use Rattle.description_rules.proofs.symbol_places.wrong_place_in.Goals as goal

pub returns : goal.returns
returns c =
    let types = types_of c.args.known.now.types in
    let port = port_view c.args.port.now in
    let symbols = c.args.port.now.symbols.items in
    let same : first_wrong is_right_behind [] (map (symbol_place types (sizes_described port)) c.as_slice.result.now)
    ≡ first_wrong (is_right_place types port) [] (map symbol_view symbols) =
    ap (λ xs. first_wrong is_right_behind [] (map (symbol_place types (sizes_described port)) xs)) c.as_slice.ensures.value
    ∙ ap (first_wrong is_right_behind []) (symbol_places-written types (sizes_described port) symbols)
    ∙ first_wrong-places types port (map symbol_view symbols) in
    subst (λ (wrong : Option ℕ). IfOk c.first_wrong_place.result (λ place. place ≡ wrong)) same c.first_wrong_place.ensures
