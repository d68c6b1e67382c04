-- The persistent symbols of the ports that hold a world are few: the numbers of ports differ, and no port has many symbols.
use Rattle.std.proofs.Common.{◌≡◌, ◌≢◌, ℕ, ◌*◌, ◌<◌, ◌≤◌, ◌^◌, List, [], ◌∷◌, map, length, true, false, sym, ap, inl, inr, arith}
use Rattle.std.specs.Prelude.{flat_map, ◌==◌}
use Rattle.std.specs.List.{All, list_any, IsDistinct, AllByRecursion}
use Rattle.std.proofs.lemmas.Bool.{cases_Bool, ne_eqb, eqb-true}
use Rattle.std.proofs.lemmas.List.{length-map, length-append}
use Rattle.std.proofs.lemmas.List.Elements.{All-tail}
use Rattle.std.proofs.lemmas.Map.Steps.{length-le_from_distinct_below}
use Rattle.spec_plant.specs.Description.{Port}
use Rattle.spec_plant.specs.World.{PlantPort}
use Rattle.spec_plant.specs.Sound.{Each}
use Rattle.spec_machine.specs.World.{World}
use Rattle.symbol_table.specs.Tables.{TableSymbol, SymbolTable, table_symbol, IsTableOf}
use Rattle.port_device.specs.PortMemory.{PortMemory, PortsMemory}
use Rattle.port_device.specs.Holds.{HoldEach, HoldsPorts}
use Rattle.port_device.specs.PersistentRows.{symbol_entries, port_entries, ports_entries, HasNumber}
use Rattle.port_device.proofs.KeptLemmas.{held-two_numbers}
use Rattle.port_device.proofs.MovedEntries.{HaveTwoNumbers}

symbols-few : (m : PortMemory) (ss : List TableSymbol) → length (flat_map (symbol_entries m) ss) ≤ length ss
unfolding symbol_entries
symbols-few m [] = omega arith
symbols-few m (s ∷ ss) =
    let rest = symbols-few m ss in
    elim (cases_Bool s.persistent) [
      | inl t ↦ rw t (omega (arith, rest))
      | inr f ↦ rw f (omega (arith, rest))
    ]

-- of a port, by its table
pub table-few : (m : PortMemory) (port : Port) → IsTableOf m.types port m.table → length (port_entries m) ≤ 10000
unfolding port_entries
table-few m port is_of =
    let few = symbols-few m m.table.symbols in
    let same : length m.table.symbols ≡ length (map (table_symbol m.types) port.symbols) = ap (λ (t : SymbolTable). length t.symbols) is_of.same in
    let all = length-map port.symbols (table_symbol m.types) in
    let count = is_of.placed.count in
    omega (arith, few, same, all, count)

each-few : (w : World) (ps : List PlantPort) (ms : List PortMemory) → HoldEach w ps ms → length (ports_entries ms) ≤ 10000 * length ms
each-few w [] [] h = omega arith
each-few w [] (m ∷ ms) h = absurd h
each-few w (p ∷ ps) [] h = absurd h
each-few w (p ∷ ps) (m ∷ ms) h =
    let own = table-few m (h.0).port (h.0).table in
    let rest = each-few w ps ms (h.1) in
    let all = length-append (port_entries m) (ports_entries ms) in
    omega (arith, own, rest, all)

abbrev number_of : PortMemory → ℕ
number_of m = m.number

others : (k : ℕ) (ms : List PortMemory) → Each (λ (x : PortMemory). x.number ≢ k) ms → AllByRecursion (λ y. (k == y) ≡ false) (map number_of ms)
others k [] e = tt
others k (m ∷ ms) e = (ne_eqb k m.number (λ same. e.0 (sym same)), others k ms (e.1))

distinct : (ms : List PortMemory) → HaveTwoNumbers ms → IsDistinct (λ x y. x == y) (map number_of ms)
unfolding IsDistinct
distinct [] e = tt
distinct (m ∷ ms) e = (others m.number ms (e.0), distinct ms (e.1))

below : (ms : List PortMemory) → All HasNumber ms → (q : ℕ) → list_any (λ y. q == y) (map number_of ms) ≡ true → q < 65536
below [] all q e = cc
below (m ∷ ms) all q e =
    elim (cases_Bool (q == m.number)) [
      | inl t ↦ let same = eqb-true q m.number t in let own = all 0 m (omega arith) in omega (arith, same, own)
      | inr f ↦ below ms (All-tail HasNumber m ms all) q (rw f at e)
    ]

-- so a body text can count them
pub few-entries : (w : World) (m : PortsMemory) → HoldsPorts w m → All HasNumber m.ports → length (ports_entries m.ports) < 2 ^ 32
few-entries w m h all =
    let few = each-few w w.plant.ports m.ports h.each in
    let two = held-two_numbers w w.plant.ports m.ports h.each h.apart in
    let ports = length-le_from_distinct_below (map number_of m.ports) 65536 (distinct m.ports two) (below m.ports all) in
    let same = length-map m.ports number_of in
    omega (arith, few, ports, same)
