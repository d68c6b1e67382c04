-- The symbols of an accepted description are sized.
use Rattle.std.proofs.Common.{◌≡◌, ◌<◌, ℕ, zero, suc, List, [], ◌∷◌, true, length, get_or, arith}
use Rattle.std.specs.List.{list_all}
use Rattle.std.proofs.lemmas.Bool.{and_parts}
use Rattle.spec_plant.specs.Listed.{NamedType}
use Rattle.spec_plant.specs.Description.{Symbol, Port, Description}
use Rattle.spec_plant.specs.Accepted.{is_port}
use Rattle.spec_plant.specs.AcceptedTypes.{AreTypes, IsSized}
use Rattle.symbol_table.specs.Tables.{is_typed}
use Rattle.symbol_table.proofs.PlacedSymbols.{typed_placed, typed-sized, port_is_placed}
use Rattle.stored_values.specs.StoredBodies.{IsAcceptedForSome, AreSized, AreSizedPorts}

symbols_sized : (types : List NamedType) (symbols : List Symbol) → list_all (is_typed types) symbols ≡ true
    → (k : ℕ) (d : Symbol) → k < length symbols → IsSized types (get_or symbols k d).shape
symbols_sized types [] h k d within = absurd (omega (arith, within))
symbols_sized types (s ∷ symbols) h zero d within = typed-sized types s (and_parts (is_typed types s) (list_all (is_typed types) symbols) h).0
symbols_sized types (s ∷ symbols) h (suc k) d within =
    symbols_sized types symbols (and_parts (is_typed types s) (list_all (is_typed types) symbols) h).1 k d (omega (arith, within))

ports_sized : (types : List NamedType) (signals : ℕ) (ports : List Port) → AreTypes types
    → list_all (is_port types signals) ports ≡ true → (k : ℕ) (d : Port) → k < length ports → AreSized types (get_or ports k d).symbols
ports_sized types signals [] are h k d within = absurd (omega (arith, within))
ports_sized types signals (p ∷ ports) are h zero d within =
    let placed = port_is_placed types signals p are (and_parts (is_port types signals p) (list_all (is_port types signals) ports) h).0 in
    λ i e inside. symbols_sized types p.symbols (typed_placed types p.sizes p.symbols placed.each) i e inside
ports_sized types signals (p ∷ ports) are h (suc k) d within =
    ports_sized types signals ports are (and_parts (is_port types signals p) (list_all (is_port types signals) ports) h).1 k d (omega (arith, within))

pub accepted_sized : (d : Description) → IsAcceptedForSome d → AreSizedPorts d.types d.ports
accepted_sized d some = λ k p within. ports_sized d.types some.signals d.ports some.accepted.types some.accepted.each_port k p within
