-- The entries between the ports of two worlds are those of the symbols that are kept.
use Rattle.std.proofs.Common.{◌≡◌, ◌≢◌, ℕ, ◌+◌, List, [], ◌∷◌, map, length, true, refl, sym, ◌∙◌, ap, subst, inl, inr, arith}
use Rattle.std.specs.Prelude.{Bool, Option, Some, None, slice_get, option_map, find, ◌==◌, nat_lt, All}
use Rattle.std.specs.List.{position, position_or_len}
use Rattle.std.proofs.lemmas.Bool.{cases_Bool, eqb-true, ltb-false}
use Rattle.std.proofs.lemmas.List.Elements.{All-nil, All-cons}
use Rattle.std.proofs.lemmas.List.Folds.{find_at}
use Rattle.std.proofs.lemmas.Option.{slice_get-map, slice_get_past}
use Rattle.name_paths.specs.Identifier.{lower}
use Rattle.spec_plant.specs.Listed.{NamedType}
use Rattle.spec_plant.specs.Description.{Symbol}
use Rattle.spec_plant.specs.Trees.{tree_of}
use Rattle.spec_plant.specs.World.{PlantPort, PlantSymbol, plant_symbol, lower_name}
use Rattle.spec_plant.specs.SameTypes.{is_same_type}
use Rattle.spec_plant.specs.Named.{port_numbered, symbol_named, NotNumbered, AreNumberedApart}
use Rattle.spec_plant.specs.Sound.{Each}
use Rattle.spec_plant.proofs.BlockLemmas.{same_bytes}
use Rattle.spec_machine.specs.World.{World}
use Rattle.spec_machine.specs.NumberedPlaces.{KeptSymbol, whole_place, IsEntryOf}
use Rattle.symbol_table.specs.Tables.{TableSymbol, SymbolTable, table_symbol, is_called, number_called}
use Rattle.symbol_table.proofs.PlacesInOrder.{mapped_at}
use Rattle.symbol_table.proofs.PlacedSymbols.{apart_placed}
use Rattle.port_device.specs.PortMemory.{PortMemory, PortsMemory, memory_numbered}
use Rattle.port_device.specs.Holds.{HoldsPort, HoldEach, HoldsPorts, HoldsFound}
use Rattle.port_device.specs.Reloaded.{symbol_called}
use Rattle.port_device.specs.Moved.{whole_symbol, HasTypes}
use Rattle.port_device.proofs.PortsLemmas.{same_number, found_is_held}
use Rattle.port_device.proofs.ReloadLemmas.{found-number}
use Rattle.port_device.proofs.ReloadedImage.{has_name, called-map, named-map}
use Rattle.port_device.proofs.MovedEntries.{IsEntryFrom, HaveTwoNumbers, LieApart}

-- symbols of a table and of its plant

-- a symbol of a table is this one of the plant
pub record IsOfPlant (types : List NamedType) (s : TableSymbol) (x : PlantSymbol) : Type 0 where
  pub name : lower_name x ≡ lower s.name
  pub type : x.type ≡ tree_of types s.shape
  pub whole : (n : ℕ) → whole_place n x ≡ whole_symbol n s

of_plant : (types : List NamedType) (y : Symbol) → IsOfPlant types (table_symbol types y) (plant_symbol types y)
of_plant types y = record { name = refl; type = refl; whole = λ n. refl }

pub record IsPlantSymbolAt (p : PlantPort) (types : List NamedType) (n : ℕ) (s : TableSymbol) : Type 0 where
  pub symbol : PlantSymbol
  pub there : slice_get p.symbols n ≡ Some symbol
  pub is : IsOfPlant types s symbol

pub plant-symbol : (w : World) (p : PlantPort) (m : PortMemory) (n : ℕ) (s : TableSymbol) → HoldsPort w p m → slice_get m.table.symbols n ≡ Some s
    → IsPlantSymbolAt p m.types n s
plant-symbol w p m n s h e =
    let there : slice_get (map (table_symbol m.types) h.port.symbols) n ≡ Some s = ap (λ (t : SymbolTable). slice_get t.symbols n) (sym h.table.same) ∙ e in
    let found = mapped_at (table_symbol m.types) h.port.symbols n s there in
    let y : Symbol = found.0 in
    record {
      symbol = plant_symbol m.types y;
      there = ap (λ (q : PlantPort). slice_get q.symbols n) h.plant ∙ slice_get-map (plant_symbol m.types) h.port.symbols n
          ∙ ap (option_map (plant_symbol m.types)) found.1;
      is = subst (λ (t : TableSymbol). IsOfPlant m.types t (plant_symbol m.types y)) found.2 (of_plant m.types y);
    }

pub record IsTableSymbolAt (m : PortMemory) (n : ℕ) (x : PlantSymbol) : Type 0 where
  pub symbol : TableSymbol
  pub there : slice_get m.table.symbols n ≡ Some symbol
  pub is : IsOfPlant m.types symbol x

pub table-symbol : (w : World) (p : PlantPort) (m : PortMemory) (n : ℕ) (x : PlantSymbol) → HoldsPort w p m → slice_get p.symbols n ≡ Some x
    → IsTableSymbolAt m n x
table-symbol w p m n x h e =
    let there : slice_get (map (plant_symbol m.types) h.port.symbols) n ≡ Some x = ap (λ (q : PlantPort). slice_get q.symbols n) (sym h.plant) ∙ e in
    let found = mapped_at (plant_symbol m.types) h.port.symbols n x there in
    let y : Symbol = found.0 in
    record {
      symbol = table_symbol m.types y;
      there = ap (λ (t : SymbolTable). slice_get t.symbols n) h.table.same ∙ slice_get-map (table_symbol m.types) h.port.symbols n
          ∙ ap (option_map (table_symbol m.types)) found.1;
      is = subst (λ (z : PlantSymbol). IsOfPlant m.types (table_symbol m.types y) z) found.2 (of_plant m.types y);
    }

-- a symbol that is found by its name in the plant has a number in the table

pub record IsNumbered (m : PortMemory) (name : List ℕ) (x : PlantSymbol) : Type 0 where
  pub number : ℕ
  pub symbol : TableSymbol
  pub called : number_called name m.table.symbols ≡ Some number
  pub there : slice_get m.table.symbols number ≡ Some symbol
  pub is : IsOfPlant m.types symbol x

pub position-found : {X : Type 0} (test : X → Bool) (xs : List X) (x : X) → find test xs ≡ Some x
    → (position test xs ≡ Some (position_or_len test xs)) × (slice_get xs (position_or_len test xs) ≡ Some x)
position-found {X} test xs x e =
    let there : slice_get xs (position_or_len test xs) ≡ Some x = sym (find_at test xs) ∙ e in
    elim (cases_Bool (nat_lt (position_or_len test xs) (length xs))) [
      | inl t ↦ (rw t refl, there)
      | inr t ↦
          let past : slice_get xs (position_or_len test xs) ≡ None =
          slice_get_past xs (position_or_len test xs) (ltb-false (position_or_len test xs) (length xs) t) in
          let never : None ≡ Some x = sym past ∙ there in
          cc
    ]

pub named-number : (w : World) (p : PlantPort) (m : PortMemory) (name : List ℕ) (x : PlantSymbol) → HoldsPort w p m
    → symbol_named (lower name) p.symbols ≡ Some x → IsNumbered m name x
named-number w p m name x h e =
    let in_plant : option_map (plant_symbol m.types) (find (has_name name) h.port.symbols) ≡ Some x
    = sym (named-map m.types name h.port.symbols) ∙ ap (λ (q : PlantPort). symbol_named (lower name) q.symbols) (sym h.plant) ∙ e in
    by_symbol (find (has_name name) h.port.symbols) refl in_plant
  where
    by_symbol : (o : Option Symbol) → find (has_name name) h.port.symbols ≡ o → option_map (plant_symbol m.types) o ≡ Some x → IsNumbered m name x
    by_symbol None f g = cc
    by_symbol (Some y) f g =
        let same : plant_symbol m.types y ≡ x = cc in
        let in_table : symbol_called name m.table.symbols ≡ Some (table_symbol m.types y)
        = ap (λ (t : SymbolTable). symbol_called name t.symbols) h.table.same
        ∙ called-map m.types name h.port.symbols ∙ ap (option_map (table_symbol m.types)) f in
        let at_ = position-found (is_called name) m.table.symbols (table_symbol m.types y) in_table in
        record {
          number = position_or_len (is_called name) m.table.symbols;
          symbol = table_symbol m.types y;
          called = (at_).0;
          there = (at_).1;
          is = subst (λ (z : PlantSymbol). IsOfPlant m.types (table_symbol m.types y) z) same (of_plant m.types y);
        }

-- what is found passes the test
find-passes : {X : Type 0} (test : X → Bool) (xs : List X) (x : X) → find test xs ≡ Some x → test x ≡ true
find-passes {X} test [] x e = cc
find-passes {X} test (y ∷ ys) x e =
    elim (cases_Bool (test y)) [
      | inl t ↦ let f : Some y ≡ Some x = rw t at e in let same : y ≡ x = cc in sym (ap test same) ∙ t
      | inr t ↦ let f : find test ys ≡ Some x = rw t at e in find-passes test ys x f
    ]

-- each entry is that of a kept symbol

pub entry-of_plants : (w v : World) (p q : PlantPort) (m now : PortMemory) (e : KeptSymbol) → HoldsPort w p m → HoldsPort v q now
    → port_numbered m.number w.plant.ports ≡ Some p → port_numbered m.number v.plant.ports ≡ Some q
    → IsEntryFrom m.types now m.number 0 m.table.symbols e → IsEntryOf w.plant v.plant e
entry-of_plants w v p q m now e h k old new from_ =
    let i = from_.entry in
    let number : 0 + from_.place ≡ from_.place = omega arith in
    let own = plant-symbol w p m from_.place from_.symbol h from_.symbol_there in
    let twin = plant-symbol v q now i.number i.twin k i.there in
    let name = same_bytes (lower i.twin.name) (lower from_.symbol.name)
    (find-passes (is_called from_.symbol.name) now.table.symbols i.twin
    (found-number (is_called from_.symbol.name) now.table.symbols i.number i.called ∙ i.there)) in
    let type = ap (λ t. is_same_type t twin.symbol.type) own.is.type ∙ ap (is_same_type (tree_of m.types from_.symbol.shape)) twin.is.type ∙ i.one_type in
    let whole : e ≡ record { port = m.number; before = whole_symbol from_.place from_.symbol; after = whole_symbol i.number i.twin }
    = i.is ∙ ap (λ n. record { port = m.number; before = whole_symbol n from_.symbol; after = whole_symbol i.number i.twin }) number in
    let told : IsEntryOf w.plant v.plant
    (record { port = m.number; before = whole_symbol from_.place from_.symbol; after = whole_symbol i.number i.twin }) = record {
      was_port = p;
      was_port_found = old;
      is_port = q;
      is_port_found = new;
      was = own.symbol;
      was_there = own.there;
      is = twin.symbol;
      is_there = twin.there;
      same_name = own.is.name ∙ sym name ∙ sym twin.is.name;
      same_type = type;
      before_is = sym (own.is.whole from_.place);
      after_is = sym (twin.is.whole i.number);
    } in
    subst (IsEntryOf w.plant v.plant) (sym whole) told

-- the ports that were found

pub memory-number : (k : ℕ) (ms : List PortMemory) (m : PortMemory) → memory_numbered k ms ≡ Some m → m.number ≡ k
memory-number k [] m e = cc
memory-number k (x ∷ ms) m e =
    elim (cases_Bool (x.number == k)) [
      | inl t ↦ let f : Some x ≡ Some m = rw t at e in let same : x ≡ m = cc in sym (ap (λ (y : PortMemory). y.number) same) ∙ eqb-true x.number k t
      | inr t ↦ let f : memory_numbered k ms ≡ Some m = rw t at e in memory-number k ms m f
    ]

-- the port of the plant that a found one holds
pub record IsHeldAs (w : World) (k : ℕ) (m : PortMemory) : Type 0 where
  pub port : PlantPort
  pub found : port_numbered k w.plant.ports ≡ Some port
  pub holds : HoldsPort w port m

pub held-as : (w : World) (ports : PortsMemory) (k : ℕ) (m : PortMemory) → HoldsPorts w ports → memory_numbered k ports.ports ≡ Some m → IsHeldAs w k m
held-as w ports k m h e =
    let P : Option PortMemory → Type 0 = λ o. HoldsFound w (port_numbered k w.plant.ports) o in
    by_port (port_numbered k w.plant.ports) refl (subst P e (found_is_held w ports k h))
  where
    by_port : (o : Option PlantPort) → port_numbered k w.plant.ports ≡ o → HoldsFound w o (Some m) → IsHeldAs w k m
    by_port None f g = absurd g
    by_port (Some p) f g = record { port = p; found = f; holds = g }

-- the memory of a port of the plant
pub record HasMemory (w : World) (ms : List PortMemory) (k : ℕ) (p : PlantPort) : Type 0 where
  pub memory : PortMemory
  pub found : memory_numbered k ms ≡ Some memory
  pub holds : HoldsPort w p memory

pub has-memory : (w : World) (ports : PortsMemory) (k : ℕ) (p : PlantPort) → HoldsPorts w ports → port_numbered k w.plant.ports ≡ Some p
    → HasMemory w ports.ports k p
has-memory w ports k p h e =
    let P : Option PlantPort → Type 0 = λ o. HoldsFound w o (memory_numbered k ports.ports) in
    by_memory (memory_numbered k ports.ports) refl (subst P e (found_is_held w ports k h))
  where
    by_memory : (o : Option PortMemory) → memory_numbered k ports.ports ≡ o → HoldsFound w (Some p) o → HasMemory w ports.ports k p
    by_memory None f g = absurd g
    by_memory (Some m) f g = record { memory = m; found = f; holds = g }

-- a held port has the types of its plant, its symbols lie apart, and its number is no other's

pub held-types : (w : World) (ps : List PlantPort) (ms : List PortMemory) → HoldEach w ps ms → All (HasTypes w.plant.types) ms
held-types w [] [] h = All-nil (HasTypes w.plant.types)
held-types w [] (m ∷ ms) h = absurd h
held-types w (p ∷ ps) [] h = absurd h
held-types w (p ∷ ps) (m ∷ ms) h = All-cons (HasTypes w.plant.types) m ms (h.0).types (held-types w ps ms (h.1))

pub held-apart : (w : World) (ps : List PlantPort) (ms : List PortMemory) → HoldEach w ps ms → Each LieApart ms
held-apart w [] [] h = tt
held-apart w [] (m ∷ ms) h = absurd h
held-apart w (p ∷ ps) [] h = absurd h
held-apart w (p ∷ ps) (m ∷ ms) h =
    let P : SymbolTable → Type 0 = λ t. LieApart (record m { table = t }) in (
      subst P (sym (h.0).table.same) (apart_placed m.types (h.0).port.symbols (h.0).table.placed.apart),
      held-apart w ps ms (h.1),
    )

not_numbered : (w : World) (k : ℕ) (ps : List PlantPort) (ms : List PortMemory) → HoldEach w ps ms → NotNumbered k ps
    → Each (λ (x : PortMemory). x.number ≢ k) ms
not_numbered w k [] [] h e = tt
not_numbered w k [] (m ∷ ms) h e = absurd h
not_numbered w k (p ∷ ps) [] h e = absurd h
not_numbered w k (p ∷ ps) (m ∷ ms) h e = (λ q. e.0 (sym (same_number w p m (h.0)) ∙ q), not_numbered w k ps ms (h.1) (e.1))

pub held-two_numbers : (w : World) (ps : List PlantPort) (ms : List PortMemory) → HoldEach w ps ms → AreNumberedApart ps → HaveTwoNumbers ms
held-two_numbers w [] [] h e = tt
held-two_numbers w [] (m ∷ ms) h e = absurd h
held-two_numbers w (p ∷ ps) [] h e = absurd h
held-two_numbers w (p ∷ ps) (m ∷ ms) h e =
    (not_numbered w m.number ps ms (h.1) (subst (λ k. NotNumbered k ps) (sym (same_number w p m (h.0))) (e.0)), held-two_numbers w ps ms (h.1) (e.1))
