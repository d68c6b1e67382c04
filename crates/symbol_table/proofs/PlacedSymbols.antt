-- The symbols of a port of an accepted description, as the table keeps them.
use Rattle.std.proofs.Common.{◌≡◌, ℕ, ◌+◌, ◌≤◌, true, List, [], ◌∷◌, map, length, refl, sym, ◌∙◌, ap, subst}
use Rattle.std.specs.Prelude.{Bool, Some, slice_get, nat_lt, nat_le, ◌&&◌}
use Rattle.std.specs.List.{list_all}
use Rattle.std.proofs.lemmas.Bool.{and_parts, leb-true, lt-ltb}
use Rattle.spec_plant.specs.Listed.{NamedType}
use Rattle.spec_plant.specs.Description.{Symbol, Port, Sizes, size_in, Description}
use Rattle.spec_plant.specs.Trees.{tree_of}
use Rattle.spec_plant.specs.Sizes.{type_size}
use Rattle.spec_plant.specs.AcceptedTypes.{AreTypes, IsSized, LIMIT, all_pairs, is_shape, is_small_shape}
use Rattle.spec_plant.specs.Accepted.{size_of_symbol, are_apart, are_two_names, is_symbol, is_port, IsAccepted}
use Rattle.name_paths.specs.Name.{is_symbol_name}
use Rattle.spec_plant.proofs.TypeLemmas.{list_all-get, shape-elem}
use Rattle.symbol_table.specs.Tables.{TableSymbol, SymbolTable, table_symbol, table_of, is_typed, is_placed, IsPlaced, IsTableWith}
use Rattle.symbol_table.specs.PlaceOrders.{has_bytes, is_within, lie_apart}
use Rattle.symbol_table.proofs.PlacesInOrder.{mapped_at}
use Rattle.symbol_table.proofs.PositiveSizes.{size-positive}

pub typed_placed : (types : List NamedType) (sizes : Sizes) (symbols : List Symbol)
    → list_all (is_placed types sizes) symbols ≡ true → list_all (is_typed types) symbols ≡ true
typed_placed types sizes [] h = refl
typed_placed types sizes (s ∷ symbols) h =
    let parts = and_parts (is_placed types sizes s) (list_all (is_placed types sizes) symbols) h in
    let head = (and_parts (is_typed types s) _ parts.0).0 in
    rw (head, typed_placed types sizes symbols parts.1) refl

typed-shape : (types : List NamedType) (s : Symbol) → is_typed types s ≡ true → is_shape types s.shape ≡ true
typed-shape types s h = (and_parts (is_shape types s.shape) (is_small_shape s.shape) ((and_parts (is_shape types s.shape && is_small_shape s.shape) _ h).0)).0

pub typed-sized : (types : List NamedType) (s : Symbol) → is_typed types s ≡ true → IsSized types s.shape
typed-sized types s h =
    let outer = and_parts (is_shape types s.shape && is_small_shape s.shape) (nat_le (size_of_symbol types s) LIMIT) h in
    let inner = and_parts (is_shape types s.shape) (is_small_shape s.shape) outer.0 in
    record { named = shape-elem types s.shape inner.0; few_elements = inner.1; few_bytes = leb-true (size_of_symbol types s) LIMIT outer.1 }

pub bytes_placed : (types : List NamedType) (symbols : List Symbol) → AreTypes types
    → list_all (is_typed types) symbols ≡ true → list_all has_bytes (map (table_symbol types) symbols) ≡ true
bytes_placed types [] a h = refl
bytes_placed types (s ∷ symbols) a h =
    let parts = and_parts (is_typed types s) (list_all (is_typed types) symbols) h in
    let some : nat_lt 0 (size_of_symbol types s) ≡ true = lt-ltb 0 (size_of_symbol types s) (size-positive types s.shape a (typed-shape types s parts.0)) in
    rw (some, bytes_placed types symbols a parts.1) refl

pub within_placed : (types : List NamedType) (sizes : Sizes) (symbols : List Symbol)
    → list_all (is_placed types sizes) symbols ≡ true → list_all (is_within sizes) (map (table_symbol types) symbols) ≡ true
within_placed types sizes [] h = refl
within_placed types sizes (s ∷ symbols) h =
    let parts = and_parts (is_placed types sizes s) (list_all (is_placed types sizes) symbols) h in
    let head = (and_parts (is_typed types s) (nat_le (s.offset + size_of_symbol types s) (size_in sizes s.area)) parts.0).1 in
    rw (head, within_placed types sizes symbols parts.1) refl

list_all-map : {X Y : Type 0} (f : X → Y) (test : Y → Bool) (xs : List X) → list_all test (map f xs) ≡ list_all (λ x. test (f x)) xs
list_all-map f test [] = refl
list_all-map f test (x ∷ xs) = ap (λ b. test (f x) && b) (list_all-map f test xs)

all_pairs-map : {X Y : Type 0} (f : X → Y) (test : Y → Y → Bool) (xs : List X) → all_pairs test (map f xs) ≡ all_pairs (λ x y. test (f x) (f y)) xs
all_pairs-map f test [] = refl
all_pairs-map f test (x ∷ xs) = rw (list_all-map f (test (f x)) xs, all_pairs-map f test xs) refl

pub apart_placed : (types : List NamedType) (symbols : List Symbol)
    → all_pairs (are_apart types) symbols ≡ true → all_pairs lie_apart (map (table_symbol types) symbols) ≡ true
apart_placed types symbols h = all_pairs-map (table_symbol types) lie_apart symbols ∙ h

-- what is known of a symbol of the table
pub record IsSoundSymbol (types : List NamedType) (table : SymbolTable) (s : TableSymbol) : Type 0 where
  pub sized : IsSized types s.shape
  pub size_is : s.size ≡ type_size (tree_of types s.shape)
  pub within : s.offset + s.size ≤ size_in table.sizes s.area

sound_of : (types : List NamedType) (port : Port) (n : ℕ) (s : TableSymbol) → IsPlaced types port
    → slice_get (map (table_symbol types) port.symbols) n ≡ Some s → IsSoundSymbol types (table_of types port) s
sound_of types port n s placed e =
    let found = mapped_at (table_symbol types) port.symbols n s e in
    let is_it = list_all-get (is_placed types port.sizes) port.symbols n found.0 placed.each found.1 in
    let parts = and_parts (is_typed types found.0) (nat_le ((found.0).offset + size_of_symbol types (found.0)) (size_in port.sizes (found.0).area)) is_it in
    subst (IsSoundSymbol types (table_of types port)) found.2 (record {
      sized = typed-sized types found.0 parts.0;
      size_is = refl;
      within = leb-true ((found.0).offset + size_of_symbol types (found.0)) (size_in port.sizes (found.0).area) parts.1;
    })

pub sound_symbol : (types : List NamedType) (table : SymbolTable) (n : ℕ) (s : TableSymbol)
    → IsTableWith types table → slice_get table.symbols n ≡ Some s → IsSoundSymbol types table s
sound_symbol types table n s with_ e =
    let same = with_.is_of.same in
    let there : slice_get (table_of types with_.port).symbols n ≡ Some s = ap (λ (t : SymbolTable). slice_get t.symbols n) (sym same) ∙ e in
    let P : SymbolTable → Type 0 = λ t. IsSoundSymbol types t s in
    subst P (sym same) (sound_of types with_.port n s with_.is_of.placed there)

-- a port of an accepted description is one whose table can be built

symbol-placed : (types : List NamedType) (sizes : Sizes) (signals : ℕ) (s : Symbol) → is_symbol types sizes signals s ≡ true → is_placed types sizes s ≡ true
symbol-placed types sizes signals s h =
    let place = and_parts _ _ ((and_parts _ _ ((and_parts _ _ ((and_parts _ _ ((and_parts _ _ h).0)).0)).0)).0) in
    let name = and_parts (is_symbol_name s.name) (is_typed types s) place.0 in
    rw (name.1, place.1) refl

symbols-placed : (types : List NamedType) (sizes : Sizes) (signals : ℕ) (symbols : List Symbol)
    → list_all (is_symbol types sizes signals) symbols ≡ true → list_all (is_placed types sizes) symbols ≡ true
symbols-placed types sizes signals [] h = refl
symbols-placed types sizes signals (s ∷ symbols) h =
    let parts = and_parts (is_symbol types sizes signals s) (list_all (is_symbol types sizes signals) symbols) h in
    rw (symbol-placed types sizes signals s parts.0, symbols-placed types sizes signals symbols parts.1) refl

pub port_is_placed : (types : List NamedType) (signals : ℕ) (port : Port) → AreTypes types → is_port types signals port ≡ true → IsPlaced types port
port_is_placed types signals port a h =
    let pairs = and_parts _ _ ((and_parts _ _ h).0) in
    let both = and_parts (all_pairs are_two_names port.symbols) (all_pairs (are_apart types) port.symbols) pairs.1 in
    let symbols = and_parts (nat_le (length port.symbols) 10000) (list_all (is_symbol types port.sizes signals) port.symbols) ((and_parts _ _ pairs.0).1) in
    record {
      types = a;
      count = leb-true (length port.symbols) 10000 symbols.0;
      each = symbols-placed types port.sizes signals port.symbols symbols.1;
      names = both.0;
      apart = both.1;
    }

pub accepted_is_placed : (d : Description) (signals i : ℕ) (port : Port) → IsAccepted d signals → slice_get d.ports i ≡ Some port → IsPlaced d.types port
accepted_is_placed d signals i port accepted e =
    port_is_placed d.types signals port accepted.types (list_all-get (is_port d.types signals) d.ports i port accepted.each_port e)
