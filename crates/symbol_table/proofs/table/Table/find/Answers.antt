-- The one symbol whose name the path begins with, and the part behind its name.
use Rattle.std.proofs.Common.{◌≡◌, List, map, length, ◌∙◌, ap, subst, arith}
use Rattle.std.specs.Prelude.{Some, slice_get, option_map}
use Rattle.std.proofs.lemmas.Option.{slice_get-map, slice_get_within}
use Rattle.std.proofs.lemmas.List.Splits.{length-slice_split}
use Rattle.spec_plant.specs.Description.{Port}
use Rattle.spec_plant.specs.Listed.{NamedType}
use Rattle.name_paths.specs.Name.{is_full_stop}
use Rattle.type_layout.specs.NamedTypes.{types_of}
use Rattle.symbol_table.specs.Tables.{TableSymbol, SymbolTable, table_of, table_symbol, IsTableOf}
use Rattle.symbol_table.specs.NameKeys.{NameKey}
use Rattle.symbol_table.specs.NamesInOrder.{AreKeysOf}
use Rattle.symbol_table.proofs.Matching.{prefix_free, match_found, match_none}
use Rattle.symbol_table.proofs.FoundParts.{finds_in}
use Rattle.symbol_table.proofs.table.Table.find.Goals as goal

-- the keys are those of the port's symbols
keys_of_port : (types : List NamedType) (port : Port) (table : SymbolTable) (symbols : List TableSymbol) (keys : List NameKey)
    → symbols ≡ table.symbols → AreKeysOf symbols keys → IsTableOf types port table
    → AreKeysOf (map (table_symbol types) port.symbols) keys
keys_of_port types port table symbols keys same are is_of =
    let P : List TableSymbol → Type 0 = λ all. AreKeysOf all keys in
    subst P (same ∙ ap (λ (t : SymbolTable). t.symbols) is_of.same) are

pub search-requires : goal.search-requires
search-requires g c =
    let types = types_of c.args.types.now in
    let port = c.requires.port in
    let are = keys_of_port types port c.args.self.now _ c.self.inside.by_name
    (ap (λ (t : SymbolTable). t.symbols) c.self.view_is) c.self.invariant.keys_are c.requires.is_of in
    prefix_free types port.symbols c.self.inside.by_name are c.requires.is_of.placed.names

pub steps_behind-requires : goal.steps_behind-requires
steps_behind-requires g c =
    let types = types_of c.args.types.now in
    let port = c.requires.port in
    let are = keys_of_port types port c.args.self.now _ c.self.inside.by_name
    (ap (λ (t : SymbolTable). t.symbols) c.self.view_is) c.self.invariant.keys_are c.requires.is_of in
    let found = match_found types port.symbols c.self.inside.by_name are c.requires.is_of.placed.names c.args.path.now
    (c.in-Some.number, c.in-Some.count) c.in-Some.ensures.found in
    let count = found.2 in
    let some = length-slice_split is_full_stop (found.0).name in
    omega (arith, count, some)

pub part-requires-clause-there : goal.part-requires-clause-there
part-requires-clause-there g c =
    let types = types_of c.args.types.now in
    let port = c.requires.port in
    let are = keys_of_port types port c.args.self.now _ c.self.inside.by_name
    (ap (λ (t : SymbolTable). t.symbols) c.self.view_is) c.self.invariant.keys_are c.requires.is_of in
    let found = match_found types port.symbols c.self.inside.by_name are c.requires.is_of.placed.names c.args.path.now
    (c.in-Some.number, c.in-Some.count) c.in-Some.ensures.found in
    let seen : slice_get (table_of types port).symbols c.in-Some.number ≡ Some (table_symbol types found.0) =
    slice_get-map (table_symbol types) port.symbols c.in-Some.number ∙ ap (option_map (table_symbol types)) found.1 in
    let below = slice_get_within (table_of types port).symbols c.in-Some.number (table_symbol types found.0) seen in
    let count = ap (λ (t : SymbolTable). length t.symbols) c.requires.is_of.same in
    omega (arith, below, count)

pub returns-in-None-clause-found : goal.returns-in-None-clause-found
returns-in-None-clause-found g c = λ port is_of.
    let types = types_of c.args.types.now in
    let are = keys_of_port types port c.args.self.now _ c.self.inside.by_name
    (ap (λ (t : SymbolTable). t.symbols) c.self.view_is) c.self.invariant.keys_are is_of in
    let none = match_none types port.symbols c.self.inside.by_name are is_of.placed.names c.args.path.now c.in-None.ensures.none in
    rw none tt

pub returns-in-Some-clause-found : goal.returns-in-Some-clause-found
returns-in-Some-clause-found g c = λ port is_of.
    let types = types_of c.args.types.now in
    let are = keys_of_port types port c.args.self.now _ c.self.inside.by_name
    (ap (λ (t : SymbolTable). t.symbols) c.self.view_is) c.self.invariant.keys_are is_of in
    let found = match_found types port.symbols c.self.inside.by_name are is_of.placed.names c.args.path.now
    (c.in-Some.number, c.in-Some.count) c.in-Some.ensures.found in
    let seen : slice_get c.args.self.now.symbols c.in-Some.number ≡ Some (table_symbol types found.0)
    = ap (λ (t : SymbolTable). slice_get t.symbols c.in-Some.number) is_of.same
    ∙ slice_get-map (table_symbol types) port.symbols c.in-Some.number ∙ ap (option_map (table_symbol types)) found.1 in
    let told = c.part.ensures (table_symbol types found.0) seen in
    finds_in types port.symbols c.args.path.now c.in-Some.number c.in-Some.count
    found.0 c.part.result found.1 found.2 found.3 (rw c.steps_behind.ensures at told)
