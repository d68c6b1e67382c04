-- Places by number are moved as places by name.
use Rattle.std.proofs.Common.{◌≡◌, ℕ, ◌+◌, ◌≤◌, List, [], ◌∷◌, Bool, true, false, refl, sym, ◌∙◌, ap, subst, inl, inr, arith}
use Rattle.std.specs.Prelude.{Option, Some, None, slice_get, bytes_eq, ◌==◌, ◌&&◌, nat_le, is_some}
use Rattle.std.specs.Option.{option_map_or}
use Rattle.std.proofs.lemmas.Bool.{cases_Bool, and_parts, eqb-true, eq-eqb, leb-true, le-leb, false≢true}
use Rattle.std.proofs.lemmas.Slice.Eq.{bytes_eq-Decides}
use Rattle.spec_plant.specs.World.{Plant, PlantPort, PlantSymbol, SymbolPart, symbol_size, lower_name, is_same_area}
use Rattle.spec_plant.specs.Named.{port_numbered, symbol_named}
use Rattle.spec_plant.specs.Sound.{Each, IsSoundSymbol, IsSoundPlant}
use Rattle.spec_plant.proofs.BlockLemmas.{same_bytes, same_area-true, same_area-refl}
use Rattle.spec_plant.proofs.FoundLemmas.{found_lie_in_symbols}
use Rattle.spec_plant.proofs.SoundLemmas.{each-get, port_sound, port_number}
use Rattle.spec_plant.proofs.SameSizes.{same_type-size}
use Rattle.spec_machine.specs.World.{names_at, symbol_names}
use Rattle.spec_machine.specs.Client.{Place, kept_place}
use Rattle.spec_machine.specs.ByName.{place_of}
use Rattle.spec_machine.specs.Reloads.{is_kept_symbol, is_kept}
use Rattle.spec_machine.specs.HandleLaws.{AgreeingPlaces}
use Rattle.spec_machine.specs.NumberedPlaces.{numbered_place_of, FoundPlacesAreSame, NumberedPlace, is_place_in, is_place_at, is_same_place}
use Rattle.spec_machine.specs.NumberedPlaces.{SamePlacesHaveSameBytes, KeptSymbol, IsEntryOf}
use Rattle.spec_machine.specs.NumberedPlaces.{is_entry_of_symbol, entry_of_symbol, part_of_entry, moved_place, PlacesMoveAlike}
use Rattle.spec_machine.proofs.AreaNames.{spans_give_names}
use Rattle.spec_machine.proofs.Reloaded.{part-kept}

-- the symbol of a place by number
record IsPlaceOf (ports : List PlantPort) (port : ℕ) (place : Place) (q : NumberedPlace) : Type 0 where
  at_port : PlantPort
  port_found : port_numbered port ports ≡ Some at_port
  symbol : PlantSymbol
  there : slice_get at_port.symbols q.symbol ≡ Some symbol
  named : lower_name symbol ≡ place.symbol
  same_area : q.area ≡ symbol.area
  first_is : q.first ≡ symbol.offset + place.first
  len_is : q.len ≡ place.len
  ends : place.first + place.len ≤ symbol_size symbol

place_parts : (ports : List PlantPort) (port : ℕ) (place : Place) (q : NumberedPlace) → is_same_place ports port place q ≡ true → IsPlaceOf ports port place q
place_parts ports port place q t = go (port_numbered port ports) refl t
  where
    in_symbol : (p : PlantPort) → port_numbered port ports ≡ Some p → (s : PlantSymbol) → slice_get p.symbols q.symbol ≡ Some s → is_place_in place q s ≡ true
        → IsPlaceOf ports port place q
    in_symbol p e s g u =
        let p4 = and_parts (bytes_eq (lower_name s) place.symbol && is_same_area q.area s.area && (q.first == s.offset + place.first) && (q.len == place.len))
        (nat_le (place.first + place.len) (symbol_size s)) u in
        let p3 = and_parts (bytes_eq (lower_name s) place.symbol && is_same_area q.area s.area && (q.first == s.offset + place.first)) (q.len == place.len)
        (p4.0) in
        let p2 = and_parts (bytes_eq (lower_name s) place.symbol && is_same_area q.area s.area) (q.first == s.offset + place.first) (p3.0) in
        let p1 = and_parts (bytes_eq (lower_name s) place.symbol) (is_same_area q.area s.area) (p2.0) in
        record {
          at_port = p;
          port_found = e;
          symbol = s;
          there = g;
          named = same_bytes (lower_name s) place.symbol (p1.0);
          same_area = same_area-true q.area s.area (p1.1);
          first_is = eqb-true q.first (s.offset + place.first) (p2.1);
          len_is = eqb-true q.len place.len (p3.1);
          ends = leb-true (place.first + place.len) (symbol_size s) (p4.1);
        }

    at_symbol : (p : PlantPort) → port_numbered port ports ≡ Some p → (x : Option PlantSymbol) → slice_get p.symbols q.symbol ≡ x
        → option_map_or (is_place_in place q) x false ≡ true → IsPlaceOf ports port place q
    at_symbol p e None g u = absurd (false≢true u)
    at_symbol p e (Some s) g u = in_symbol p e s g u

    go : (o : Option PlantPort) → port_numbered port ports ≡ o → option_map_or (is_place_at place q) o false ≡ true → IsPlaceOf ports port place q
    go None e u = absurd (false≢true u)
    go (Some p) e u = at_symbol p e (slice_get p.symbols q.symbol) refl u

place_from : (ports : List PlantPort) (port : ℕ) (place : Place) (q : NumberedPlace) → IsPlaceOf ports port place q → is_same_place ports port place q ≡ true
place_from ports port place q i =
    let s = i.symbol in
    let named : bytes_eq (lower_name s) place.symbol ≡ true = let d = bytes_eq-Decides (lower_name s) place.symbol in d.1 i.named in
    let same : is_same_area q.area s.area ≡ true = ap (λ a. is_same_area a s.area) i.same_area ∙ same_area-refl s.area in
    let first = eq-eqb q.first (s.offset + place.first) i.first_is in
    let len = eq-eqb q.len place.len i.len_is in
    let ends = le-leb (place.first + place.len) (symbol_size s) i.ends in
    let all : is_place_in place q s ≡ true = rw (named, same, first, len, ends) refl in
    ap (λ o. option_map_or (is_place_at place q) o false) i.port_found ∙ ap (λ o. option_map_or (is_place_in place q) o false) i.there ∙ all

pub found_places_are_same : FoundPlacesAreSame
found_places_are_same plant p port n name f found led g =
    let l = (found_lie_in_symbols p.symbols name f led).ends in
    place_from plant.ports port (place_of f) (numbered_place_of n f) (record {
      at_port = p;
      port_found = found;
      symbol = f.symbol;
      there = g;
      named = refl;
      same_area = refl;
      first_is = refl;
      len_is = refl;
      ends = l;
    })

pub same_places_have_same_bytes : SamePlacesHaveSameBytes
same_places_have_same_bytes plant p port len place q sound found t h =
    let i = place_parts plant.ports port place q t in
    let same_port : i.at_port ≡ p = some_is i.at_port p (sym i.port_found ∙ found) in
    let port_is = port_sound plant.ports plant.ports port i.at_port sound i.port_found in
    let ends = i.ends in
    let names = spans_give_names i.at_port q.symbol i.symbol place.first len port_is.bytes i.there (omega (arith, h, ends)) in
    ap (λ n. symbol_names n place.symbol place.first len) (sym (port_number port plant.ports i.at_port i.port_found))
    ∙ ap (λ name. symbol_names (i.at_port).number name place.first len) (sym i.named) ∙ sym names
    ∙ ap (λ a. names_at i.at_port a (i.symbol.offset + place.first) len) (sym i.same_area) ∙ ap (λ n. names_at i.at_port q.area n len) (sym i.first_is)
    ∙ ap (λ x. names_at x q.area q.first len) same_port
  where
    some_is : (x y : PlantPort) → Some x ≡ Some y → x ≡ y
    some_is x y e = cc

-- the entry that is found is one of the list, and that of the symbol
pub record IsFoundEntry (old new : Plant) (port symbol : ℕ) (e : KeptSymbol) : Type 0 where
  pub same_port : e.port ≡ port
  pub same_symbol : e.before.symbol ≡ symbol
  pub entry : IsEntryOf old new e

pub found_entry : (old new : Plant) (port symbol : ℕ) (kept : List KeptSymbol) → Each (IsEntryOf old new) kept → (e : KeptSymbol)
    → entry_of_symbol kept port symbol ≡ Some e → IsFoundEntry old new port symbol e
found_entry old new port symbol [] each e f = cc
found_entry old new port symbol (x ∷ xs) each e f =
    elim (cases_Bool (is_entry_of_symbol port symbol x)) [
      | inl t ↦
          let g : Some x ≡ Some e = rw t at f in
          let same : x ≡ e = cc in
          let p = and_parts (x.port == port) (x.before.symbol == symbol) t in
          let own : IsFoundEntry old new port symbol x
          = record { same_port = eqb-true x.port port (p.0); same_symbol = eqb-true x.before.symbol symbol (p.1); entry = each.0 } in
          subst (IsFoundEntry old new port symbol) same own
      | inr t ↦ let g : entry_of_symbol xs port symbol ≡ Some e = rw t at f in found_entry old new port symbol xs (each.1) e g
    ]

-- the symbols of an entry are kept
pub entry_is_kept : (old new : Plant) (e : KeptSymbol) → IsSoundPlant old → IsSoundPlant new → (i : IsEntryOf old new e)
    → is_kept old new e.port (SymbolPart (lower_name i.was)) ≡ true
entry_is_kept old new e so sn i =
    let p = port_sound old.ports old.ports e.port i.was_port so i.was_port_found in
    let q = port_sound new.ports new.ports e.port i.is_port sn i.is_port_found in
    let was = each-get (IsSoundSymbol i.was_port) i.was_port.symbols e.before.symbol i.was p.symbols i.was_there in
    let is_ = each-get (IsSoundSymbol i.is_port) i.is_port.symbols e.after.symbol i.is q.symbols i.is_there in
    part-kept old new e.port (SymbolPart (lower_name i.was)) (Some i.was_port) (Some i.is_port) i.was_port_found i.is_port_found
    ∙ ap (λ x. is_kept_symbol x (symbol_named (lower_name i.was) i.is_port.symbols)) was.found
    ∙ ap (λ name. is_kept_symbol (Some i.was) (symbol_named name i.is_port.symbols)) i.same_name
    ∙ ap (is_kept_symbol (Some i.was)) is_.found ∙ i.same_type

-- a place within a kept symbol, after the reload
moved_is : (old new : Plant) (port : ℕ) (place : Place) (q : NumberedPlace) (e : KeptSymbol) → IsPlaceOf old.ports port place q
    → IsFoundEntry old new port q.symbol e → IsPlaceOf new.ports port place (part_of_entry q e)
moved_is old new port place q e i f =
    let x = f.entry in
    let port_is : i.at_port ≡ x.was_port
    = port_of i.at_port x.was_port (sym i.port_found ∙ ap (λ n. port_numbered n old.ports) (sym f.same_port) ∙ x.was_port_found) in
    let symbol_is : i.symbol ≡ x.was
    = symbol_of i.symbol x.was (sym i.there ∙ ap (λ (p : PlantPort). slice_get p.symbols q.symbol) port_is
    ∙ ap (slice_get x.was_port.symbols) (sym f.same_symbol) ∙ x.was_there) in
    let size = same_type-size x.was.type x.is.type x.same_type in
    let size_was : symbol_size i.symbol ≡ symbol_size x.was = ap (λ (s : PlantSymbol). symbol_size s) symbol_is in
    let offset_was : i.symbol.offset ≡ x.was.offset = ap (λ (s : PlantSymbol). s.offset) symbol_is in
    let before : e.before.first ≡ x.was.offset = ap (λ (n : NumberedPlace). n.first) x.before_is in
    let after : e.after.first ≡ x.is.offset = ap (λ (n : NumberedPlace). n.first) x.after_is in
    let first = i.first_is in
    let ends = i.ends in
    record {
      at_port = x.is_port;
      port_found = ap (λ n. port_numbered n new.ports) (sym f.same_port) ∙ x.is_port_found;
      symbol = x.is;
      there = x.is_there;
      named = sym x.same_name ∙ ap (λ (s : PlantSymbol). lower_name s) (sym symbol_is) ∙ i.named;
      same_area = ap (λ (n : NumberedPlace). n.area) x.after_is;
      first_is = omega (arith, first, offset_was, before, after);
      len_is = i.len_is;
      ends = omega (arith, ends, size, size_was);
    }
  where
    port_of : (a b : PlantPort) → Some a ≡ Some b → a ≡ b
    port_of a b u = cc

    symbol_of : (a b : PlantSymbol) → Some a ≡ Some b → a ≡ b
    symbol_of a b u = cc

pub places_move_alike : PlacesMoveAlike
places_move_alike old new kept so sn are port place q t =
    go (is_kept old new port (SymbolPart place.symbol)) refl (entry_of_symbol kept port q.symbol) refl
  where
    i : IsPlaceOf old.ports port place q
    i = place_parts old.ports port place q t

    kept_named : is_kept old new port (SymbolPart (lower_name i.symbol)) ≡ is_kept old new port (SymbolPart place.symbol)
    kept_named = ap (λ name. is_kept old new port (SymbolPart name)) i.named

    port_of : (a b : PlantPort) → Some a ≡ Some b → a ≡ b
    port_of a b u = cc

    symbol_of : (a b : PlantSymbol) → Some a ≡ Some b → a ≡ b
    symbol_of a b u = cc

    same_symbol : (e : KeptSymbol) → (f : IsFoundEntry old new port q.symbol e) → lower_name f.entry.was ≡ place.symbol
    same_symbol e f =
        let x = f.entry in
        let port_is : i.at_port ≡ x.was_port
        = port_of i.at_port x.was_port (sym i.port_found ∙ ap (λ n. port_numbered n old.ports) (sym f.same_port) ∙ x.was_port_found) in
        let symbol_is : i.symbol ≡ x.was
        = symbol_of i.symbol x.was (sym i.there ∙ ap (λ (p : PlantPort). slice_get p.symbols q.symbol) port_is
        ∙ ap (slice_get x.was_port.symbols) (sym f.same_symbol) ∙ x.was_there) in
        ap (λ (s : PlantSymbol). lower_name s) (sym symbol_is) ∙ i.named

    entry_kept : (e : KeptSymbol) → entry_of_symbol kept port q.symbol ≡ Some e → is_kept old new port (SymbolPart place.symbol) ≡ true
    entry_kept e g =
        let f = found_entry old new port q.symbol kept are.each e g in
        ap (λ name. is_kept old new port (SymbolPart name)) (sym (same_symbol e f))
        ∙ ap (λ n. is_kept old new n (SymbolPart (lower_name f.entry.was))) (sym f.same_port) ∙ entry_is_kept old new e so sn f.entry

    go : (b : Bool) → is_kept old new port (SymbolPart place.symbol) ≡ b → (o : Option KeptSymbol) → entry_of_symbol kept port q.symbol ≡ o
        → AgreeingPlaces (is_same_place new.ports) port (kept_place (is_kept old new) port place) (moved_place kept port q)
    go true e (Some x) g =
        rw (e, g) (place_from new.ports port place (part_of_entry q x)
        (moved_is old new port place q x i (found_entry old new port q.symbol kept are.each x g)))
    go true e None g =
        absurd (false≢true (sym (ap (λ (o : Option KeptSymbol). is_some o) g) ∙ are.all port i.at_port q.symbol i.symbol i.port_found i.there (kept_named ∙ e)))
    go false e (Some x) g = absurd (false≢true (sym e ∙ entry_kept x g))
    go false e None g = rw (e, g) tt
