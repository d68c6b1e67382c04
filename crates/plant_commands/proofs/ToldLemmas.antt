-- An accepted description can be told of.
use Rattle.std.proofs.Common.{◌≡◌, ℕ, ◌<◌, ◌≤◌, true, false, Bool, List, length, refl, sym, ◌∙◌, subst}
use Rattle.std.specs.Prelude.{Option, Some, None, slice_get, All, nat_le, nat_lt, ◌&&◌}
use Rattle.std.specs.Option.{option_map_or}
use Rattle.std.specs.List.{list_all, slice_index_or}
use Rattle.std.proofs.lemmas.Bool.{and_parts, leb-true, false≢true}
use Rattle.std.proofs.lemmas.Option.{slice_get_within}
use Rattle.std.proofs.lemmas.List.{length-map}
use Rattle.std.proofs.lemmas.List.Folds.{list_all-map}
use Rattle.std.proofs.lemmas.List.Sums.{AllPass-from_list_all}
use Rattle.spec_plant.specs.Listed.{NamedType, Elem, Plain, Text, Struct, Enum, Shape, One, Array}
use Rattle.spec_plant.specs.Description.{Sizes}
use Rattle.spec_plant.specs.AcceptedTypes.{all_pairs, is_elem, is_shape, are_bounds}
use Rattle.spec_plant.specs.Accepted.{IsAccepted, are_facts, are_two_names, are_apart, is_symbol, is_port}
use Rattle.type_layout.specs.Shapes.{shape_of}
use Rattle.type_layout.specs.Spelled.{IsThere, NamesThere}
use Rattle.type_layout.specs.NamedTypes.{types_of}
use Rattle.type_layout.specs.Descriptions.{sizes_of, symbol_of, symbols_of, port_of, description_of}
use Rattle.type_layout.specs.declared.port.PortDesc.{PortDesc}
use Rattle.type_layout.specs.declared.port.SymbolDesc.{SymbolDesc}
use Rattle.type_layout.specs.declared.description.Description.{Description}
use Rattle.plant_commands.specs.Told.{CanBeTold}

found : (test : NamedType → Bool) (types : List NamedType) (place : ℕ) (o : Option NamedType) → slice_get types place ≡ o → option_map_or test o false ≡ true
    → place < length types
found test types place None is e = absurd (false≢true e)
found test types place (Some t) is e = slice_get_within types place t is

elem_there : (types : List NamedType) (elem : Elem) → is_elem types elem ≡ true → IsThere types elem
elem_there types (Plain kind) e = tt
elem_there types (Text n) e = tt
elem_there types (Struct place) e = found _ types place (slice_get types place) refl e
elem_there types (Enum place) e = found _ types place (slice_get types place) refl e

names_there : (types : List NamedType) (shape : Shape) → is_shape types shape ≡ true → NamesThere types shape
names_there types (One elem) e = elem_there types elem e
names_there types (Array bounds elem) e = elem_there types elem (and_parts (are_bounds bounds) (is_elem types elem) e).1

second_of_seven : (a b c d e f g : Bool) → (a && b && c && d && e && f && g) ≡ true → b ≡ true
second_of_seven a b c d e f g h =
    let six = (and_parts (a && b && c && d && e && f) g h).0 in
    let five = (and_parts (a && b && c && d && e) f six).0 in
    let four = (and_parts (a && b && c && d) e five).0 in
    let three = (and_parts (a && b && c) d four).0 in
    (and_parts a b (and_parts (a && b) c three).0).1

first_of_three : (a b c : Bool) → (a && b && c) ≡ true → a ≡ true
first_of_three a b c h = (and_parts a b (and_parts (a && b) c h).0).0

symbol_there : (types : List NamedType) (sizes : Sizes) (signals : ℕ) (s : SymbolDesc) → is_symbol types sizes signals (symbol_of s) ≡ true
    → NamesThere types (shape_of s.kind)
symbol_there types sizes signals s e = names_there types (shape_of s.kind) (first_of_three _ _ _ (second_of_seven _ _ _ _ _ _ _ e))

symbols_there : (types : List NamedType) (sizes : Sizes) (signals : ℕ) (ss : List SymbolDesc)
    → list_all (is_symbol types sizes signals) (symbols_of ss) ≡ true → All (λ (s : SymbolDesc). NamesThere types (shape_of s.kind)) ss
symbols_there types sizes signals ss e =
    let each = AllPass-from_list_all (λ s. is_symbol types sizes signals (symbol_of s)) ss
    (sym (list_all-map (is_symbol types sizes signals) symbol_of ss) ∙ e) in
    λ k d below. symbol_there types sizes signals (slice_index_or ss k d) (each k d below)

-- the last four of six tests
record LastFour (c d e f : Bool) : Type 0 where
  third : c ≡ true
  fourth : d ≡ true
  fifth : e ≡ true
  sixth : f ≡ true

last_four : (a b c d e f : Bool) → (a && b && c && d && e && f) ≡ true → LastFour c d e f
last_four a b c d e f h =
    let five = and_parts (a && b && c && d && e) f h in
    let four = and_parts (a && b && c && d) e five.0 in
    let three = and_parts (a && b && c) d four.0 in
    record { third = (and_parts (a && b) c three.0).1; fourth = three.1; fifth = four.1; sixth = five.1 }

port_told : (types : List NamedType) (signals : ℕ) (p : PortDesc) → is_port types signals (port_of p) ≡ true → CanBeTold types p
port_told types signals p h =
    let number = nat_lt 0 (port_of p).number && nat_le (port_of p).number 65535 in
    let apart = all_pairs are_two_names (symbols_of p.symbols) && all_pairs (are_apart types) (symbols_of p.symbols) in
    let parts = last_four number (are_facts (port_of p).facts) _ _ apart _ h in
    let symbols = and_parts (nat_le (length (symbols_of p.symbols)) 10000) (list_all (is_symbol types (sizes_of p.sizes) signals) (symbols_of p.symbols))
    parts.fourth in
    record {
      names = symbols_there types (sizes_of p.sizes) signals p.symbols symbols.1;
      image = leb-true _ _ parts.third;
      symbols = subst (λ n. n ≤ 10000) (length-map p.symbols symbol_of) (leb-true (length (symbols_of p.symbols)) 10000 symbols.0);
      upload = leb-true _ _ parts.sixth;
    }

pub each_told : (signals : ℕ) (d : Description) → IsAccepted (description_of d) signals → All (CanBeTold (types_of d.types)) d.ports
each_told signals d accepted =
    let types = types_of d.types in
    let each = AllPass-from_list_all (λ p. is_port types signals (port_of p)) d.ports
    (sym (list_all-map (is_port types signals) port_of d.ports) ∙ accepted.each_port) in
    λ k x below. port_told types signals (slice_index_or d.ports k x) (each k x below)
