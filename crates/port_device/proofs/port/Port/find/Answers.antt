use Rattle.std.proofs.Common.{List, map, sym, ◌∙◌, ap, subst}
use Rattle.std.specs.Prelude.{Option, None}
use Rattle.name_paths.specs.Path.{steps_of}
use Rattle.spec_plant.specs.Listed.{NamedType}
use Rattle.spec_plant.specs.Finding as plant
use Rattle.spec_plant.specs.Finding.{found_of}
use Rattle.spec_plant.specs.World.{plant_symbol}
use Rattle.type_layout.specs.NamedTypes.{types_of}
use Rattle.symbol_table.specs.FoundPlaces.{Finds}
use Rattle.symbol_table.specs.Tables.{IsTableOf}
use Rattle.port_device.specs.PortMemory.{PortMemory}
use Rattle.port_device.specs.Ports.{memory_in}
use Rattle.port_device.proofs.NameLemmas.{found_by_path, found_by_none, placed_where_found}
use Rattle.port_device.proofs.port.Port.find.Goals as goal

pub returns-in-Some-clause-found : goal.returns-in-Some-clause-found
returns-in-Some-clause-found c = λ port table.
    let m : PortMemory = memory_in c.self.inside in
    let symbols = map (plant_symbol m.types) port.symbols in
    let T : PortMemory → Type 0 = λ x. IsTableOf x.types port x.table in
    let Q : PortMemory
    → Type 0 = λ x. Finds x.types (map (plant_symbol x.types) port.symbols) (found_of (map (plant_symbol x.types) port.symbols) c.args.name.now)
    c.find_in.result in
    let P : Option plant.Found → Type 0 = λ o. Finds m.types symbols o c.find_in.result in
    let W : List NamedType → Type 0 = λ ts. IsTableOf ts port m.table
    → Finds ts (map (plant_symbol ts) port.symbols) (plant.found_of_steps (map (plant_symbol ts) port.symbols) c.in-Some.path) c.find_in.result in
    let finds = subst W (ap types_of c.deref.ensures) (c.find_in.ensures port) in
    let e = ap steps_of (sym c.without_nul.ensures) ∙ sym c.read.ensures ∙ c.in-Some.is in
    subst Q c.self.view_is (subst P (found_by_path symbols c.args.name.now _ e) (finds (subst T (sym c.self.view_is) table)))

pub returns-in-Some-clause-placed : goal.returns-in-Some-clause-placed
returns-in-Some-clause-placed c =
    let T : PortMemory → Type 0 = λ x. IsTableOf x.types c.self.invariant.port x.table in
    let table = subst T c.self.view_is c.self.invariant.table in
    placed_where_found c.args.self.now c.self.invariant.port c.args.name.now c.find_in.result table
    (returns-in-Some-clause-found c c.self.invariant.port table)

pub returns-in-None-clause-found : goal.returns-in-None-clause-found
returns-in-None-clause-found c = λ port table.
    let symbols = map (plant_symbol c.args.self.now.types) port.symbols in
    let P : Option plant.Found → Type 0 = λ o. Finds c.args.self.now.types symbols o None in
    let e = ap steps_of (sym c.without_nul.ensures) ∙ sym c.read.ensures ∙ c.in-None.is in
    subst P (found_by_none symbols c.args.name.now e) tt
