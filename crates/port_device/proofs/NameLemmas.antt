-- Names of requests, and the places of what they lead to.
use Rattle.std.proofs.Common.{◌≡◌, ◌≢◌, ℕ, zero, suc, ◌+◌, List, [], ◌∷◌, map, length, get_or, take, true, refl, sym, ◌∙◌, ap, subst, arith}
use Rattle.std.specs.Prelude.{Option, Some, None, Ok, Err, slice_get, option_map, option_and_then, IfSome, ◌==◌, if◌then◌else◌}
use Rattle.name_paths.specs.Path.{Step, steps_of}
use Rattle.std.proofs.lemmas.Option.{slice_get-map}
use Rattle.return_codes.specs.declared.code.Code.TheVariants.{C710}
use Rattle.type_layout.specs.Descriptions.{area_of}
use Rattle.spec_plant.specs.Listed.{NamedType}
use Rattle.spec_plant.specs.Description.{Area, Symbol, Port}
use Rattle.spec_plant.specs.World.{PlantPort, PlantSymbol, plant_symbol, symbol_size}
use Rattle.spec_plant.specs.Finding as plant
use Rattle.spec_plant.specs.Finding.{found_of, without_nul}
use Rattle.spec_plant.proofs.FoundLemmas.{found_lie_in_symbols}
use Rattle.spec_machine.specs.World.{World}
use Rattle.spec_machine.specs.ByName.{place_of}
use Rattle.spec_machine.specs.NumberedPlaces.{is_same_place}
use Rattle.spec_machine.proofs.Find.{test_other}
use Rattle.spec_machine.proofs.PlacesMoved.{found_places_are_same}
use Rattle.symbol_table.specs.declared.found.Found.{Found}
use Rattle.symbol_table.specs.FoundPlaces.{IsFound, Finds}
use Rattle.symbol_table.specs.Tables.{SymbolTable, table_symbol, IsTableOf}
use Rattle.symbol_table.proofs.PlacesInOrder.{mapped_at}
use Rattle.port_device.specs.PortMemory.{PortMemory}
use Rattle.port_device.specs.Holds.{HoldsPort}
use Rattle.port_device.specs.Answers.{IsNamed, IsPlaceOf, FindsPlace}

-- what is found is the place by name
found_is_named : (w : World) (p : PlantPort) (m : PortMemory) (name : List ℕ) (led : plant.Found) (found : Found) → HoldsPort w p m
    → found_of p.symbols name ≡ Some led → IsFound m.types p.symbols led found → IsNamed w p found.place (place_of led)
found_is_named w p m name led found h e is_found =
    let n = found.place.symbol in
    let same = found_places_are_same w.plant p p.number n name led h.sound.found e is_found.symbol in
    let A : Area → Type 0 = λ a. is_same_place w.plant.ports p.number (place_of led)
    (record { symbol = n; area = a; first = led.symbol.offset + led.part.first; len = (place_of led).len }) ≡ true in
    let F : ℕ → Type 0 = λ o. is_same_place w.plant.ports p.number (place_of led)
    (record { symbol = n; area = area_of found.place.area; first = o; len = (place_of led).len }) ≡ true in
    let L : ℕ → Type 0 = λ l. is_same_place w.plant.ports p.number (place_of led)
    (record { symbol = n; area = area_of found.place.area; first = found.place.«at»; len = l }) ≡ true in
    subst L (sym is_found.len) (subst F (sym is_found.offset) (subst A (sym is_found.area) same))

pub finds_place : (w : World) (p : PlantPort) (m : PortMemory) (name : List ℕ) → HoldsPort w p m → (o : Option plant.Found) (found : Found)
    → found_of p.symbols name ≡ o → Finds m.types p.symbols o (Some found) → FindsPlace w p o (Ok found.place)
finds_place w p m name h None found e is_found = is_found
finds_place w p m name h (Some led) found e is_found = found_is_named w p m name led found h e is_found

pub finds_nothing : (w : World) (p : PlantPort) (types : List NamedType) (symbols : List PlantSymbol) (o : Option plant.Found) → Finds types symbols o None
    → FindsPlace w p o (Err C710)
finds_nothing w p types symbols None is_found = refl
finds_nothing w p types symbols (Some led) is_found = is_found

-- what is found lies in a symbol of the table
found_placed : (types : List NamedType) (symbols : List Symbol) (name : List ℕ) (sizes : SymbolTable) (o : Option plant.Found) (found : Found)
    → found_of (map (plant_symbol types) symbols) name ≡ o → Finds types (map (plant_symbol types) symbols) o (Some found)
    → sizes.symbols ≡ map (table_symbol types) symbols → IsPlaceOf sizes found.place
found_placed types symbols name table None found e is_found same = absurd is_found
found_placed types symbols name table (Some led) found e is_found same =
    let own = mapped_at (plant_symbol types) symbols found.place.symbol led.symbol is_found.symbol in
    let lies = (found_lie_in_symbols (map (plant_symbol types) symbols) name led e).ends in
    let size : symbol_size led.symbol ≡ symbol_size (plant_symbol types own.0) = ap (λ (s : PlantSymbol). symbol_size s) (sym own.2) in
    let offset : led.symbol.offset ≡ (plant_symbol types own.0).offset = ap (λ (s : PlantSymbol). s.offset) (sym own.2) in
    let at_ = is_found.offset in
    let len = is_found.len in
    record {
      symbol = table_symbol types own.0;
      there = ap (λ ss. slice_get ss found.place.symbol) same ∙ slice_get-map (table_symbol types) symbols found.place.symbol
          ∙ ap (option_map (table_symbol types)) own.1;
      area = is_found.area ∙ ap (λ (s : PlantSymbol). s.area) (sym own.2);
      begins = omega (arith, at_, offset);
      ends = omega (arith, at_, offset, len, size, lies);
    }

place_is_placed : (m : PortMemory) (port : Port) (name : List ℕ) (found : Found) → IsTableOf m.types port m.table
    → Finds m.types (map (plant_symbol m.types) port.symbols) (found_of (map (plant_symbol m.types) port.symbols) name) (Some found)
    → IsPlaceOf m.table found.place
place_is_placed m port name found table is_found =
    found_placed m.types port.symbols name m.table (found_of (map (plant_symbol m.types) port.symbols) name) found refl is_found
    (ap (λ (t : SymbolTable). t.symbols) table.same)

-- where something is found, it is bytes of a symbol of the table
pub placed_where_found : (m : PortMemory) (port : Port) (name : List ℕ) (o : Option Found) → IsTableOf m.types port m.table
    → Finds m.types (map (plant_symbol m.types) port.symbols) (found_of (map (plant_symbol m.types) port.symbols) name) o
    → IfSome o (λ (found : Found). IsPlaceOf m.table found.place)
placed_where_found m port name None table is_found = tt
placed_where_found m port name (Some found) table is_found = place_is_placed m port name found table is_found

-- a name that ends in NUL, and one that does not

pub nul_dropped : (name : List ℕ) (n : ℕ) → length name ≡ n + 1 → get_or name n 0 ≡ 0 → without_nul name ≡ take n name
nul_dropped [] n len e = absurd (omega (arith, len))
nul_dropped (c ∷ []) zero len e = ap (λ b. if b then [] else c ∷ []) (test_is c e)
  where
    test_is : (x : ℕ) → x ≡ 0 → (x == 0) ≡ true
    test_is x u = rw u refl
nul_dropped (c ∷ []) (suc n) len e = absurd (omega (arith, len))
nul_dropped (c ∷ d ∷ cs) zero len e = absurd (omega (arith, len))
nul_dropped (c ∷ d ∷ cs) (suc n) len e = ap (λ xs. c ∷ xs) (nul_dropped (d ∷ cs) n (omega (arith, len)) e)

pub no_nul : (name : List ℕ) (n : ℕ) → length name ≡ n + 1 → get_or name n 0 ≢ 0 → without_nul name ≡ name
no_nul [] n len e = absurd (omega (arith, len))
no_nul (c ∷ []) zero len e = ap (λ b. if b then [] else c ∷ []) (test_other c 0 e)
no_nul (c ∷ []) (suc n) len e = absurd (omega (arith, len))
no_nul (c ∷ d ∷ cs) zero len e = absurd (omega (arith, len))
no_nul (c ∷ d ∷ cs) (suc n) len e = ap (λ xs. c ∷ xs) (no_nul (d ∷ cs) n (omega (arith, len)) e)

pub no_name : (name : List ℕ) → length name ≡ 0 → without_nul name ≡ name
no_name [] e = refl
no_name (c ∷ cs) e = absurd (omega (arith, e))

pub found_by_path : (symbols : List PlantSymbol) (name : List ℕ) (path : List Step) → steps_of (without_nul name) ≡ Some path
    → plant.found_of_steps symbols path ≡ found_of symbols name
unfolding found_of
found_by_path symbols name path e = sym (ap (option_and_then (plant.found_of_steps symbols)) e)

pub found_by_none : (symbols : List PlantSymbol) (name : List ℕ) → steps_of (without_nul name) ≡ None → None ≡ found_of symbols name
unfolding found_of
found_by_none symbols name e = sym (ap (option_and_then (plant.found_of_steps symbols)) e)

-- what is said of the port's symbols is said of the plant's
pub finds_at_port : (w : World) (p : PlantPort) (m : PortMemory) (name : List ℕ) (r : Option Found) → (h : HoldsPort w p m)
    → Finds m.types (map (plant_symbol m.types) h.port.symbols) (found_of (map (plant_symbol m.types) h.port.symbols) name) r
    → Finds m.types p.symbols (found_of p.symbols name) r
finds_at_port w p m name r h finds =
    let P : List PlantSymbol → Type 0 = λ ss. Finds m.types ss (found_of ss name) r in
    subst P (sym (ap (λ (q : PlantPort). q.symbols) h.plant)) finds
