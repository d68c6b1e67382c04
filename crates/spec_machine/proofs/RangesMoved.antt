-- What is watched is moved as the names of its bytes.
use Rattle.std.proofs.Common.{◌≡◌, ℕ, zero, suc, ◌+◌, ◌-◌, ◌<◌, ◌≤◌, List, [], ◌∷◌, map, Bool, true, false, refl, sym, ◌∙◌, ap, subst, inl, inr, arith}
use Rattle.std.specs.Prelude.{Option, Some, None, slice_get, ◌==◌, ◌&&◌, nat_le, nat_lt, is_some}
use Rattle.std.specs.List.{list_all, list_any}
use Rattle.std.specs.Option.{option_map_or}
use Rattle.std.proofs.lemmas.Bool.{cases_Bool, and_parts, and_from, eqb-true, eq-eqb, leb-true, ltb-true, le-leb, lt-ltb, false≢true}
use Rattle.spec_plant.specs.Description.{Area, size_in}
use Rattle.spec_plant.specs.World.{Plant, PlantPort, PlantSymbol, Part, SymbolPart, AreaPart, StatePart, ByteName, symbol_size, lower_name, is_same_area}
use Rattle.spec_plant.specs.World.{is_same_part}
use Rattle.spec_plant.specs.Named.{port_numbered, symbol_named}
use Rattle.spec_plant.specs.Sound.{Each, IsSoundSymbol, IsSoundPort, IsSoundPlant}
use Rattle.spec_plant.proofs.BlockLemmas.{same_area-true, same_area-refl, same_part-true, same_part-refl, tells_names_apart}
use Rattle.spec_plant.proofs.SoundLemmas.{each-get, port_sound, port_number}
use Rattle.spec_plant.proofs.CoveringLemmas.{stands_at}
use Rattle.spec_plant.proofs.SameSizes.{same_type-size}
use Rattle.spec_formats.specs.Ranges.{Bytes, Bit, Size}
use Rattle.spec_machine.specs.World.{numbers_from, name_at, names_at, symbol_names, own_name, own_names, OWN_SIZE}
use Rattle.spec_machine.specs.Access.{Addressed, WholeByte, OneBit}
use Rattle.spec_machine.specs.Client.{Kept, is_in_part, are_kept, kept_bytes}
use Rattle.spec_machine.specs.Reloads.{is_kept, is_kept_part}
use Rattle.spec_machine.specs.HandleLaws.{AgreeingPlaces}
use Rattle.spec_machine.specs.AreaNames.{is_covered}
use Rattle.spec_machine.specs.NumberedPlaces.{NumberedPlace, KeptSymbol, IsEntryOf, is_entry_of_symbol, entry_of_symbol, AreKeptSymbols}
use Rattle.spec_machine.specs.WatchedRanges.{is_same_addressed, are_same_addressed, is_range_at, is_watched_at, is_same_watched, has_bytes, entry_of_bytes}
use Rattle.spec_machine.specs.WatchedRanges.{bytes_of_entry}
use Rattle.spec_machine.specs.WatchedRanges.{Watched, InArea, Own, bit_of_entry, moved_watched, numbers_of, WatchedMoveAlike}
use Rattle.spec_machine.proofs.AreaNames.{tiles_give_names, spans_give_names}
use Rattle.spec_machine.proofs.Reloaded.{IsCoveredBy, covered_by, part-kept}
use Rattle.spec_machine.proofs.WritableBytes.{run-nth}
use Rattle.spec_machine.proofs.PlacesMoved.{entry_is_kept, found_entry}

-- what is watched, by a test of equality

same_addressed-true : (a b : Addressed) → is_same_addressed a b ≡ true → a ≡ b
same_addressed-true (WholeByte n) (WholeByte m) t = let d = tells_names_apart n m in ap (λ x. WholeByte x) (d.0 t)
same_addressed-true (OneBit n bit) (OneBit m other) t =
    let p = and_parts _ (bit == other) t in
    let d = tells_names_apart n m in
    ap (λ x. OneBit x bit) (d.0 (p.0)) ∙ ap (λ x. OneBit m x) (eqb-true bit other (p.1))
same_addressed-true (WholeByte n) (OneBit m other) t = absurd (false≢true t)
same_addressed-true (OneBit n bit) (WholeByte m) t = absurd (false≢true t)

same_addressed-refl : (a : Addressed) → is_same_addressed a a ≡ true
same_addressed-refl (WholeByte n) = let d = tells_names_apart n n in d.1 refl
same_addressed-refl (OneBit n bit) = let d = tells_names_apart n n in and_from _ (bit == bit) (d.1 refl) (eq-eqb bit bit refl)

pub are_same-true : (as_ bs : List Addressed) → are_same_addressed as_ bs ≡ true → as_ ≡ bs
are_same-true [] [] t = refl
are_same-true [] (b ∷ bs) t = absurd (false≢true t)
are_same-true (a ∷ as_) [] t = absurd (false≢true t)
are_same-true (a ∷ as_) (b ∷ bs) t =
    let p = and_parts (is_same_addressed a b) (are_same_addressed as_ bs) t in
    ap (λ x. x ∷ as_) (same_addressed-true a b (p.0)) ∙ ap (λ xs. b ∷ xs) (are_same-true as_ bs (p.1))

pub are_same-refl : (as_ : List Addressed) → are_same_addressed as_ as_ ≡ true
are_same-refl [] = refl
are_same-refl (a ∷ as_) = and_from (is_same_addressed a a) (are_same_addressed as_ as_) (same_addressed-refl a) (are_same-refl as_)

-- bytes of a kept symbol are kept

all_in_part : (port : ℕ) (name : List ℕ) (ks : List ℕ)
    → list_all (is_in_part port (SymbolPart name)) (map WholeByte (map (λ k. record { port = port; part = SymbolPart name; index = k }) ks)) ≡ true
all_in_part port name [] = refl
all_in_part port name (k ∷ ks) =
    let p = eq-eqb port port refl in
    let q = same_part-refl (SymbolPart name) in
    rw (p, q) (all_in_part port name ks)

all_own : (port : ℕ) (ks : List ℕ) → list_all (is_in_part port StatePart) (map WholeByte (map (own_name port) ks)) ≡ true
all_own port [] = refl
all_own port (k ∷ ks) = let p = eq-eqb port port refl in rw p (all_own port ks)

symbol_kept : (kept : Kept) (port : ℕ) (name : List ℕ) (first len : ℕ) → kept port (SymbolPart name) ≡ true → 0 < len
    → are_kept kept (map WholeByte (symbol_names port name first len)) ≡ true
unfolding numbers_from
symbol_kept kept port name first zero t h = absurd (omega (arith, h))
symbol_kept kept port name first (suc len) t h = and_from (kept port (SymbolPart name)) _ t (all_in_part port name (numbers_from (first + 1) len))

-- the symbol of an entry has all these bytes
record HasBytes (port : ℕ) (area : Area) (first len : ℕ) (e : KeptSymbol) : Type 0 where
  same_port : e.port ≡ port
  same_area : e.before.area ≡ area
  begins : e.before.first ≤ first
  ends : first + len ≤ e.before.first + e.before.len

bytes_parts : (port : ℕ) (area : Area) (first len : ℕ) (e : KeptSymbol) → has_bytes port area first len e ≡ true → HasBytes port area first len e
bytes_parts port area first len e t =
    let p = and_parts ((e.port == port) && is_same_area e.before.area area && nat_le e.before.first first)
    (nat_le (first + len) (e.before.first + e.before.len)) t in
    let q = and_parts ((e.port == port) && is_same_area e.before.area area) (nat_le e.before.first first) (p.0) in
    let r = and_parts (e.port == port) (is_same_area e.before.area area) (q.0) in
    record {
      same_port = eqb-true e.port port (r.0);
      same_area = same_area-true e.before.area area (r.1);
      begins = leb-true e.before.first first (q.1);
      ends = leb-true (first + len) (e.before.first + e.before.len) (p.1);
    }

bytes_from : (port : ℕ) (area : Area) (first len : ℕ) (e : KeptSymbol) → HasBytes port area first len e → has_bytes port area first len e ≡ true
bytes_from port area first len e h =
    let same = eq-eqb e.port port h.same_port in
    let areas : is_same_area e.before.area area ≡ true = ap (λ a. is_same_area a area) h.same_area ∙ same_area-refl area in
    let low = le-leb e.before.first first h.begins in
    let high = le-leb (first + len) (e.before.first + e.before.len) h.ends in
    rw (same, areas, low, high) refl

found_bytes : (old new : Plant) (port : ℕ) (area : Area) (first len : ℕ) (kept : List KeptSymbol) → Each (IsEntryOf old new) kept → (e : KeptSymbol)
    → entry_of_bytes kept port area first len ≡ Some e
    → IsEntryOf old new e × HasBytes port area first len e
found_bytes old new port area first len [] each e f = cc
found_bytes old new port area first len (x ∷ xs) each e f =
    elim (cases_Bool (has_bytes port area first len x)) [
      | inl t ↦
          let g : Some x ≡ Some e = rw t at f in
          let same : x ≡ e = cc in
          let P : KeptSymbol → Type 0 = λ y. IsEntryOf old new y × HasBytes port area first len y in
          subst P same (each.0, bytes_parts port area first len x t)
      | inr t ↦ let g : entry_of_bytes xs port area first len ≡ Some e = rw t at f in found_bytes old new port area first len xs (each.1) e g
    ]

bytes_found : (port symbol : ℕ) (area : Area) (first len : ℕ) (kept : List KeptSymbol) (e : KeptSymbol) → entry_of_symbol kept port symbol ≡ Some e
    → has_bytes port area first len e ≡ true
    → is_some (entry_of_bytes kept port area first len) ≡ true
bytes_found port symbol area first len [] e f h = cc
bytes_found port symbol area first len (x ∷ xs) e f h =
    elim (cases_Bool (has_bytes port area first len x)) [
      | inl t ↦ rw t refl
      | inr t ↦ elim (cases_Bool (is_entry_of_symbol port symbol x)) [
        | inl u ↦
            let g : Some x ≡ Some e = rw u at f in
            let same : x ≡ e = cc in
            absurd (false≢true (sym t ∙ ap (has_bytes port area first len) same ∙ h))
        | inr u ↦ let g : entry_of_symbol xs port symbol ≡ Some e = rw u at f in rw t (bytes_found port symbol area first len xs e g h)
      ]
    ]

-- the names of bytes of an entry's symbol, before and after
record IsMoved (old new : Plant) (port : ℕ) (p : PlantPort) (area : Area) (first len : ℕ) (e : KeptSymbol) : Type 0 where
  at_port : PlantPort
  port_found : port_numbered port new.ports ≡ Some at_port
  within : e.after.first + (first - e.before.first) + len ≤ size_in at_port.sizes e.after.area
  names : names_at p area first len ≡ names_at at_port e.after.area (e.after.first + (first - e.before.first)) len
  kept : 0 < len → are_kept (is_kept old new) (map WholeByte (names_at p area first len)) ≡ true

moved : (old new : Plant) (port : ℕ) (p : PlantPort) (area : Area) (first len : ℕ) (e : KeptSymbol) → IsSoundPlant old → IsSoundPlant new
    → port_numbered port old.ports ≡ Some p
    → IsEntryOf old new e → HasBytes port area first len e → IsMoved old new port p area first len e
moved old new port p area first len e so sn found x h =
    let was : PlantSymbol = x.was in
    let is_ : PlantSymbol = x.is in
    let k : ℕ = first - was.offset in
    let before : e.before.first ≡ was.offset = ap (λ (n : NumberedPlace). n.first) x.before_is in
    let len_before : e.before.len ≡ symbol_size was = ap (λ (n : NumberedPlace). n.len) x.before_is in
    let area_before : was.area ≡ area = ap (λ (n : NumberedPlace). n.area) (sym x.before_is) ∙ h.same_area in
    let after : e.after.first ≡ is_.offset = ap (λ (n : NumberedPlace). n.first) x.after_is in
    let area_after : is_.area ≡ e.after.area = ap (λ (n : NumberedPlace). n.area) (sym x.after_is) in
    let size = same_type-size was.type is_.type x.same_type in
    let begins = h.begins in
    let ends = h.ends in
    let port_is : x.was_port ≡ p = port_of x.was_port p (sym x.was_port_found ∙ ap (λ n. port_numbered n old.ports) h.same_port ∙ found) in
    let old_port = port_sound old.ports old.ports e.port x.was_port so x.was_port_found in
    let new_port = port_sound new.ports new.ports e.port x.is_port sn x.is_port_found in
    let own = each-get (IsSoundSymbol x.is_port) x.is_port.symbols e.after.symbol is_ new_port.symbols x.is_there in
    let within = own.within in
    let number_was : x.was_port.number ≡ port = port_number e.port old.ports x.was_port x.was_port_found ∙ h.same_port in
    let number_is : x.is_port.number ≡ port = port_number e.port new.ports x.is_port x.is_port_found ∙ h.same_port in
    let span_was = spans_give_names x.was_port e.before.symbol was k len old_port.bytes x.was_there (omega (arith, begins, ends, before, len_before)) in
    let span_is = spans_give_names x.is_port e.after.symbol is_ k len new_port.bytes x.is_there (omega (arith, begins, ends, before, len_before, size)) in
    let back : was.offset + k ≡ first = omega (arith, begins, before) in
    let there : is_.offset + k ≡ e.after.first + (first - e.before.first) = omega (arith, after, before, begins) in
    let names_was : names_at p area first len ≡ symbol_names port (lower_name was) k len
    = ap (λ (q : PlantPort). names_at q area first len) (sym port_is) ∙ ap (λ a. names_at x.was_port a first len) (sym area_before)
    ∙ ap (λ n. names_at x.was_port was.area n len) (sym back) ∙ span_was ∙ ap (λ n. symbol_names n (lower_name was) k len) number_was in
    let names_is : names_at x.is_port e.after.area (e.after.first + (first - e.before.first)) len ≡ symbol_names port (lower_name is_) k len
    = ap (λ a. names_at x.is_port a (e.after.first + (first - e.before.first)) len) (sym area_after)
    ∙ ap (λ n. names_at x.is_port is_.area n len) (sym there) ∙ span_is ∙ ap (λ n. symbol_names n (lower_name is_) k len) number_is in
    let is_kept_here : is_kept old new port (SymbolPart (lower_name was)) ≡ true = ap (λ n. is_kept old new n (SymbolPart (lower_name was))) (sym h.same_port)
    ∙ entry_is_kept old new e so sn x in
    record {
      at_port = x.is_port;
      port_found = ap (λ n. port_numbered n new.ports) (sym h.same_port) ∙ x.is_port_found;
      within = subst (λ a. e.after.first + (first - e.before.first) + len ≤ size_in x.is_port.sizes a) area_after
          (omega (arith, within, ends, begins, before, len_before, after, size));
      names = names_was ∙ ap (λ name. symbol_names port name k len) x.same_name ∙ sym names_is;
      kept = λ some. ap (λ ns. are_kept (is_kept old new) (map WholeByte ns)) names_was
          ∙ symbol_kept (is_kept old new) port (lower_name was) k len is_kept_here some;
    }
  where
    port_of : (a b : PlantPort) → Some a ≡ Some b → a ≡ b
    port_of a b u = cc

-- bytes that are kept are all of one symbol, which has an entry

never_gap : (old new : Plant) (port : ℕ) (area : Area) (o x : Option PlantPort) → is_kept_part (AreaPart area) o x ≡ true → ⊥
never_gap old new port area None x t = false≢true t
never_gap old new port area (Some p) None t = false≢true t
never_gap old new port area (Some p) (Some q) t = false≢true t

same_symbol : (p : PlantPort) (n m : ℕ) (s t : PlantSymbol) → Each (IsSoundSymbol p) p.symbols → slice_get p.symbols n ≡ Some s
    → slice_get p.symbols m ≡ Some t → lower_name s ≡ lower_name t → s ≡ t
same_symbol p n m s t sound g k e =
    let one = each-get (IsSoundSymbol p) p.symbols n s sound g in
    let other = each-get (IsSoundSymbol p) p.symbols m t sound k in
    let both : Some s ≡ Some t = sym one.found ∙ ap (λ name. symbol_named name p.symbols) e ∙ other.found in
    cc

part_of_addressed : (port : ℕ) (part : Part) (n : ByteName) → is_in_part port part (WholeByte n) ≡ true → part ≡ n.part
part_of_addressed port part n t = same_part-true part n.part ((and_parts (n.port == port) (is_same_part part n.part) t).1)

kept_has_entry : (old new : Plant) (kept : List KeptSymbol) (port : ℕ) (p : PlantPort) (area : Area) (first len : ℕ) → IsSoundPlant old
    → AreKeptSymbols old new kept → port_numbered port old.ports ≡ Some p
    → 0 < len → are_kept (is_kept old new) (map WholeByte (names_at p area first len)) ≡ true → is_some (entry_of_bytes kept port area first len) ≡ true
unfolding names_at numbers_from is_kept
kept_has_entry old new kept port p area first zero so are found some t = absurd (omega (arith, some))
kept_has_entry old new kept port p area first (suc len) so are found some t =
    let head = name_at p area first in
    let both = and_parts (is_kept old new head.port head.part)
    (list_all (is_in_part head.port head.part) (map WholeByte (map (name_at p area) (numbers_from (first + 1) len)))) t in
    elim (cases_Bool (is_covered p area first)) [
      | inr c ↦
          let gap = (tiles_give_names p area first sound.bytes).gap c in
          absurd (never_gap old new p.number area (port_numbered p.number old.ports) (port_numbered p.number new.ports)
          (ap (λ (n : ByteName). is_kept old new n.port n.part) (sym gap) ∙ both.0))
      | inl c ↦ in_symbol (covered_by area first p.symbols c) both.0 both.1
    ]
  where
    sound : IsSoundPort old.ports p
    sound = port_sound old.ports old.ports port p so found

    number : p.number ≡ port
    number = port_number port old.ports p found

    no_area : (name : List ℕ) → SymbolPart name ≡ AreaPart area → ⊥
    no_area name e = cc

    name_is : (x y : List ℕ) → SymbolPart x ≡ SymbolPart y → x ≡ y
    name_is x y e = cc

    port_of : (a b : PlantPort) → Some a ≡ Some b → a ≡ b
    port_of a b u = cc

    symbol_of : (a b : PlantSymbol) → Some a ≡ Some b → a ≡ b
    symbol_of a b u = cc

    last_byte : (i : ℕ) (n : ℕ) (s : PlantSymbol) → slice_get p.symbols n ≡ Some s → SymbolPart (lower_name s) ≡ (name_at p area i).part
        → i < s.offset + symbol_size s
    last_byte i n s g e =
        elim (cases_Bool (is_covered p area i)) [
          | inr c ↦ absurd (no_area (lower_name s) (e ∙ ap (λ (x : ByteName). x.part) ((tiles_give_names p area i sound.bytes).gap c)))
          | inl c ↦
              let d = covered_by area i p.symbols c in
              let named = (tiles_give_names p area i sound.bytes).symbol d.place d.symbol d.there d.stands in
              let same = same_symbol p n d.place s d.symbol sound.symbols g d.there (name_is (lower_name s) (lower_name d.symbol) (e
              ∙ ap (λ (x : ByteName). x.part) named)) in
              subst (λ (x : PlantSymbol). i < x.offset + symbol_size x) (sym same) (stands_at d.symbol area i d.stands).ends
        ]

    up_to : (n : ℕ) (place : ℕ) (s : PlantSymbol) → slice_get p.symbols place ≡ Some s → first < s.offset + symbol_size s
        → list_all (is_in_part p.number (SymbolPart (lower_name s))) (map WholeByte (map (name_at p area) (numbers_from (first + 1) n))) ≡ true
        → first + suc n ≤ s.offset + symbol_size s
    up_to zero place s g u rest = omega (arith, u)
    up_to (suc n) place s g u rest =
        let part = part_of_addressed p.number (SymbolPart (lower_name s)) (name_at p area (first + suc n))
        (run-nth (is_in_part p.number (SymbolPart (lower_name s))) (name_at p area) (first + 1) (suc n) (first + suc n) rest (omega arith) (omega arith)) in
        let last = last_byte (first + suc n) place s g part in
        omega (arith, last)

    has_entry : (n : ℕ) (s : PlantSymbol) → slice_get p.symbols n ≡ Some s → s.area ≡ area → s.offset ≤ first → first + suc len ≤ s.offset + symbol_size s
        → (o : Option KeptSymbol) → entry_of_symbol kept port n ≡ o → is_some (entry_of_symbol kept port n) ≡ true
        → is_some (entry_of_bytes kept port area first (suc len)) ≡ true
    has_entry n s g a low high None f h = absurd (false≢true (sym (ap (λ (o : Option KeptSymbol). is_some o) f) ∙ h))
    has_entry n s g a low high (Some e) f h =
        let i = found_entry old new port n kept are.each e f in
        let x = i.entry in
        let port_is : x.was_port ≡ p = port_of x.was_port p (sym x.was_port_found ∙ ap (λ m. port_numbered m old.ports) i.same_port ∙ found) in
        let symbol_is : x.was ≡ s
        = symbol_of x.was s (sym x.was_there ∙ ap (slice_get x.was_port.symbols) i.same_symbol ∙ ap (λ (q : PlantPort). slice_get q.symbols n) port_is
        ∙ g) in
        let before : e.before.first ≡ s.offset = ap (λ (m : NumberedPlace). m.first) x.before_is ∙ ap (λ (t : PlantSymbol). t.offset) symbol_is in
        let size : e.before.len ≡ symbol_size s = ap (λ (m : NumberedPlace). m.len) x.before_is ∙ ap (λ (t : PlantSymbol). symbol_size t) symbol_is in
        let area_is : e.before.area ≡ area = ap (λ (m : NumberedPlace). m.area) x.before_is ∙ ap (λ (t : PlantSymbol). t.area) symbol_is ∙ a in
        bytes_found port n area first (suc len) kept e f (bytes_from port area first (suc len) e (record {
          same_port = i.same_port;
          same_area = area_is;
          begins = omega (arith, before, low);
          ends = omega (arith, before, size, high);
        }))

    in_symbol : (c : IsCoveredBy area first p.symbols) → is_kept old new (name_at p area first).port (name_at p area first).part ≡ true
        → list_all (is_in_part (name_at p area first).port (name_at p area first).part)
        (map WholeByte (map (name_at p area) (numbers_from (first + 1) len))) ≡ true
        → is_some (entry_of_bytes kept port area first (suc len)) ≡ true
    in_symbol c k l =
        let s = c.symbol in
        let at_ = stands_at s area first c.stands in
        let named = (tiles_give_names p area first sound.bytes).symbol c.place s c.there c.stands in
        let kept_s : is_kept old new port (SymbolPart (lower_name s)) ≡ true
        = ap (λ n. is_kept old new n (SymbolPart (lower_name s))) (sym number) ∙ ap (λ (n : ByteName). is_kept old new n.port n.part) (sym named) ∙ k in
        let rest : list_all (is_in_part p.number (SymbolPart (lower_name s))) (map WholeByte (map (name_at p area) (numbers_from (first + 1) len))) ≡ true
        = ap (λ (n : ByteName). list_all (is_in_part n.port n.part) (map WholeByte (map (name_at p area) (numbers_from (first + 1) len)))) (sym named) ∙ l in
        has_entry c.place s c.there at_.same_area at_.begins (up_to len c.place s c.there at_.ends rest) (entry_of_symbol kept port c.place) refl
        (are.all port p c.place s found c.there kept_s)

-- the law, for bytes and for a bit

-- what is watched at a port
record IsWatchedOf (ports : List PlantPort) (port : ℕ) (named : List Addressed) (watched : Watched) : Type 0 where
  at_port : PlantPort
  port_found : port_numbered port ports ≡ Some at_port
  is_watched : is_watched_at named watched at_port ≡ true

watched_parts : (ports : List PlantPort) (port : ℕ) (named : List Addressed) (watched : Watched) → is_same_watched ports port named watched ≡ true
    → IsWatchedOf ports port named watched
watched_parts ports port named watched t = go (port_numbered port ports) refl t
  where
    go : (o : Option PlantPort) → port_numbered port ports ≡ o → option_map_or (is_watched_at named watched) o false ≡ true
        → IsWatchedOf ports port named watched
    go None e u = absurd (false≢true u)
    go (Some p) e u = record { at_port = p; port_found = e; is_watched = u }

watched_from : (ports : List PlantPort) (port : ℕ) (named : List Addressed) (watched : Watched) (p : PlantPort) → port_numbered port ports ≡ Some p
    → is_watched_at named watched p ≡ true → is_same_watched ports port named watched ≡ true
watched_from ports port named watched p e t = ap (λ o. option_map_or (is_watched_at named watched) o false) e ∙ t

bytes_of_range : (watched : List Addressed) (area : Area) (offset len : ℕ) (p : PlantPort) → is_range_at watched (Bytes area offset len) p ≡ true
    → (0 < len) × (watched ≡ map WholeByte (names_at p area offset len))
bytes_of_range watched area offset len p t =
    let names : List Addressed = map WholeByte (names_at p area offset len) in
    let outer = and_parts (nat_lt 0 len && nat_le (offset + len) (size_in p.sizes area)) (are_same_addressed watched names) t in
    let inner = and_parts (nat_lt 0 len) (nat_le (offset + len) (size_in p.sizes area)) (outer.0) in
    (ltb-true 0 len (inner.0), are_same-true watched names (outer.1))

bit_of_range : (watched : List Addressed) (area : Area) (offset bit : ℕ) (p : PlantPort) → is_range_at watched (Bit area offset bit) p ≡ true
    → watched ≡ OneBit (name_at p area offset) bit ∷ []
bit_of_range watched area offset bit p t =
    let names : List Addressed = OneBit (name_at p area offset) bit ∷ [] in
    are_same-true watched names ((and_parts (nat_lt offset (size_in p.sizes area)) (are_same_addressed watched names) t).1)

bytes_alike : (old new : Plant) (kept : List KeptSymbol) (numbers : List ℕ) → IsSoundPlant old → IsSoundPlant new → AreKeptSymbols old new kept
    → (port : ℕ) (watched : List Addressed) (area : Area) (offset len : ℕ)
    → is_same_watched old.ports port watched (InArea (Bytes area offset len)) ≡ true
    → AgreeingPlaces (is_same_watched new.ports) port (kept_bytes (is_kept old new) port watched)
    (moved_watched kept numbers port (InArea (Bytes area offset len)))
bytes_alike old new kept numbers so sn are port watched area offset len t = go (entry_of_bytes kept port area offset len) refl
    (are_kept (is_kept old new) watched) refl
  where
    i : IsWatchedOf old.ports port watched (InArea (Bytes area offset len))
    i = watched_parts old.ports port watched (InArea (Bytes area offset len)) t

    some : 0 < len
    some = (bytes_of_range watched area offset len i.at_port i.is_watched).0

    names : watched ≡ map WholeByte (names_at i.at_port area offset len)
    names = (bytes_of_range watched area offset len i.at_port i.is_watched).1

    kept_watched : are_kept (is_kept old new) watched ≡ are_kept (is_kept old new) (map WholeByte (names_at i.at_port area offset len))
    kept_watched = ap (are_kept (is_kept old new)) names

    moved_to : (e : KeptSymbol) → entry_of_bytes kept port area offset len ≡ Some e → IsMoved old new port i.at_port area offset len e
    moved_to e f = let both =
        found_bytes old new port area offset len kept are.each e f in moved old new port i.at_port area offset len e so sn i.port_found both.0 both.1

    there : (e : KeptSymbol) → IsMoved old new port i.at_port area offset len e
        → is_same_watched new.ports port watched (InArea (bytes_of_entry offset len e)) ≡ true
    there e m =
        let first : ℕ = e.after.first + (offset - e.before.first) in
        let watched_is : watched ≡ map WholeByte (names_at m.at_port e.after.area first len) = names ∙ ap (map WholeByte) m.names in
        let same : are_same_addressed watched (map WholeByte (names_at m.at_port e.after.area first len)) ≡ true
        = ap (are_same_addressed watched) (sym watched_is) ∙ are_same-refl watched in
        let a = lt-ltb 0 len some in
        let b = le-leb (first + len) (size_in m.at_port.sizes e.after.area) m.within in
        watched_from new.ports port watched (InArea (bytes_of_entry offset len e)) m.at_port m.port_found
        (and_from (nat_lt 0 len && nat_le (first + len) (size_in m.at_port.sizes e.after.area)) _ (and_from (nat_lt 0 len) _ a b) same)

    go : (o : Option KeptSymbol) → entry_of_bytes kept port area offset len ≡ o → (k : Bool) → are_kept (is_kept old new) watched ≡ k
        → AgreeingPlaces (is_same_watched new.ports) port (kept_bytes (is_kept old new) port watched)
        (moved_watched kept numbers port (InArea (Bytes area offset len)))
    go (Some e) f true g = rw (g, f) (there e (moved_to e f))
    go (Some e) f false g = absurd (false≢true (sym g ∙ kept_watched ∙ (moved_to e f).kept some))
    go None f true g =
        absurd (false≢true (sym (ap (λ (o : Option KeptSymbol). is_some o) f)
        ∙ kept_has_entry old new kept port i.at_port area offset len so are i.port_found some (sym kept_watched ∙ g)))
    go None f false g = rw (g, f) tt

single : (p : PlantPort) (area : Area) (offset : ℕ) → names_at p area offset 1 ≡ name_at p area offset ∷ []
unfolding names_at numbers_from
single p area offset = refl

bit_alike : (old new : Plant) (kept : List KeptSymbol) (numbers : List ℕ) → IsSoundPlant old → IsSoundPlant new → AreKeptSymbols old new kept
    → (port : ℕ) (watched : List Addressed) (area : Area) (offset bit : ℕ)
    → is_same_watched old.ports port watched (InArea (Bit area offset bit)) ≡ true
    → AgreeingPlaces (is_same_watched new.ports) port (kept_bytes (is_kept old new) port watched)
    (moved_watched kept numbers port (InArea (Bit area offset bit)))
bit_alike old new kept numbers so sn are port watched area offset bit t = go (entry_of_bytes kept port area offset 1) refl
    (are_kept (is_kept old new) watched) refl
  where
    i : IsWatchedOf old.ports port watched (InArea (Bit area offset bit))
    i = watched_parts old.ports port watched (InArea (Bit area offset bit)) t

    some : 0 < 1
    some = omega arith

    names : watched ≡ OneBit (name_at i.at_port area offset) bit ∷ []
    names = bit_of_range watched area offset bit i.at_port i.is_watched

    kept_watched : are_kept (is_kept old new) watched ≡ are_kept (is_kept old new) (map WholeByte (names_at i.at_port area offset 1))
    kept_watched = ap (are_kept (is_kept old new)) names ∙ sym (ap (λ ns. are_kept (is_kept old new) (map WholeByte ns)) (single i.at_port area offset))

    moved_to : (e : KeptSymbol) → entry_of_bytes kept port area offset 1 ≡ Some e → IsMoved old new port i.at_port area offset 1 e
    moved_to e f = let both =
        found_bytes old new port area offset 1 kept are.each e f in moved old new port i.at_port area offset 1 e so sn i.port_found both.0 both.1

    first_of : ByteName → List ByteName → ByteName
    first_of n [] = n
    first_of n (m ∷ ms) = m

    there : (e : KeptSymbol) → IsMoved old new port i.at_port area offset 1 e
        → is_same_watched new.ports port watched (InArea (bit_of_entry offset bit e)) ≡ true
    there e m =
        let first : ℕ = e.after.first + (offset - e.before.first) in
        let head : name_at i.at_port area offset ≡ name_at m.at_port e.after.area first
        = ap (first_of (name_at i.at_port area offset)) (sym (single i.at_port area offset) ∙ m.names ∙ single m.at_port e.after.area first) in
        let watched_is : watched ≡ OneBit (name_at m.at_port e.after.area first) bit ∷ [] = names ∙ ap (λ n. OneBit n bit ∷ []) head in
        let same : are_same_addressed watched (OneBit (name_at m.at_port e.after.area first) bit ∷ []) ≡ true
        = ap (are_same_addressed watched) (sym watched_is) ∙ are_same-refl watched in
        let within = m.within in
        let a = lt-ltb first (size_in m.at_port.sizes e.after.area) (omega (arith, within)) in
        watched_from new.ports port watched (InArea (bit_of_entry offset bit e)) m.at_port m.port_found
        (and_from (nat_lt first (size_in m.at_port.sizes e.after.area)) _ a same)

    go : (o : Option KeptSymbol) → entry_of_bytes kept port area offset 1 ≡ o → (k : Bool) → are_kept (is_kept old new) watched ≡ k
        → AgreeingPlaces (is_same_watched new.ports) port (kept_bytes (is_kept old new) port watched)
        (moved_watched kept numbers port (InArea (Bit area offset bit)))
    go (Some e) f true g = rw (g, f) (there e (moved_to e f))
    go (Some e) f false g = absurd (false≢true (sym g ∙ kept_watched ∙ (moved_to e f).kept some))
    go None f true g =
        absurd (false≢true (sym (ap (λ (o : Option KeptSymbol). is_some o) f)
        ∙ kept_has_entry old new kept port i.at_port area offset 1 so are i.port_found some (sym kept_watched ∙ g)))
    go None f false g = rw (g, f) tt

-- a port's own bytes

own_kept : (kept : Kept) (port first len : ℕ) → kept port StatePart ≡ true → 0 < len → are_kept kept (map WholeByte (own_names port first len)) ≡ true
unfolding own_names numbers_from
own_kept kept port first zero t h = absurd (omega (arith, h))
own_kept kept port first (suc len) t h = and_from (kept port StatePart) _ t (all_own port (numbers_from (first + 1) len))

own_not_kept : (kept : Kept) (port first len : ℕ) → kept port StatePart ≡ false → are_kept kept (map WholeByte (own_names port first len)) ≡ false
unfolding own_names numbers_from
own_not_kept kept port first zero t = refl
own_not_kept kept port first (suc len) t = rw t refl

-- a number is among those of ports exactly where a port is found by it
number_there : (port : ℕ) (ps : List PlantPort) → list_any (λ n. n == port) (numbers_of ps) ≡ is_some (port_numbered port ps)
number_there port [] = refl
number_there port (p ∷ ps) =
    elim (cases_Bool (p.number == port)) [
      | inl t ↦ rw t refl
      | inr t ↦ rw t (number_there port ps)
    ]

own_parts : (named : List Addressed) (first len : ℕ) (p : PlantPort) → is_watched_at named (Own first len) p ≡ true
    → (0 < len) × (first + len ≤ OWN_SIZE) × (named ≡ map WholeByte (own_names p.number first len))
own_parts named first len p t =
    let names : List Addressed = map WholeByte (own_names p.number first len) in
    let outer = and_parts (nat_lt 0 len && nat_le (first + len) OWN_SIZE) (are_same_addressed named names) t in
    let inner = and_parts (nat_lt 0 len) (nat_le (first + len) OWN_SIZE) (outer.0) in
    (ltb-true 0 len (inner.0), leb-true (first + len) OWN_SIZE (inner.1), are_same-true named names (outer.1))

own_alike : (old new : Plant) (kept : List KeptSymbol) (port : ℕ) (named : List Addressed) (first len : ℕ)
    → is_same_watched old.ports port named (Own first len) ≡ true
    → AgreeingPlaces (is_same_watched new.ports) port (kept_bytes (is_kept old new) port named)
    (moved_watched kept (numbers_of new.ports) port (Own first len))
own_alike old new kept port named first len t = go (port_numbered port new.ports) refl
  where
    i : IsWatchedOf old.ports port named (Own first len)
    i = watched_parts old.ports port named (Own first len) t

    p : PlantPort
    p = i.at_port

    parts : (0 < len) × (first + len ≤ OWN_SIZE) × (named ≡ map WholeByte (own_names p.number first len))
    parts = own_parts named first len p i.is_watched

    names : named ≡ map WholeByte (own_names port first len)
    names = parts.2 ∙ ap (λ n. map WholeByte (own_names n first len)) (port_number port old.ports p i.port_found)

    there : (o : Option PlantPort) → port_numbered port new.ports ≡ o → list_any (λ n. n == port) (numbers_of new.ports) ≡ is_some o
    there o e = number_there port new.ports ∙ ap (λ (x : Option PlantPort). is_some x) e

    state : (o : Option PlantPort) → port_numbered port new.ports ≡ o → is_kept old new port StatePart ≡ is_kept_part StatePart (Some p) o
    state o e = part-kept old new port StatePart (Some p) o i.port_found e

    go : (o : Option PlantPort) → port_numbered port new.ports ≡ o
        → AgreeingPlaces (is_same_watched new.ports) port (kept_bytes (is_kept old new) port named)
        (moved_watched kept (numbers_of new.ports) port (Own first len))
    go None e =
        let f = there None e in
        let g = ap (are_kept (is_kept old new)) names ∙ own_not_kept (is_kept old new) port first len (state None e) in
        rw (f, g) tt
    go (Some q) e =
        let f = there (Some q) e in
        let g = ap (are_kept (is_kept old new)) names ∙ own_kept (is_kept old new) port first len (state (Some q) e) (parts.0) in
        let names_new : named ≡ map WholeByte (own_names q.number first len)
        = names ∙ ap (λ n. map WholeByte (own_names n first len)) (sym (port_number port new.ports q e)) in
        let same : are_same_addressed named (map WholeByte (own_names q.number first len)) ≡ true
        = ap (are_same_addressed named) (sym names_new) ∙ are_same-refl named in
        let is_it : is_watched_at named (Own first len) q ≡ true
        = and_from (nat_lt 0 len && nat_le (first + len) OWN_SIZE) _
        (and_from (nat_lt 0 len) _ (lt-ltb 0 len (parts.0)) (le-leb (first + len) OWN_SIZE (parts.1))) same in
        rw (f, g) (watched_from new.ports port named (Own first len) q e is_it)

pub watched_move_alike : WatchedMoveAlike
watched_move_alike old new kept so sn are port named (InArea (Bytes area offset len)) t =
    bytes_alike old new kept (numbers_of new.ports) so sn are port named area offset len t
watched_move_alike old new kept so sn are port named (InArea (Bit area offset bit)) t =
    bit_alike old new kept (numbers_of new.ports) so sn are port named area offset bit t
watched_move_alike old new kept so sn are port named (InArea (Size area)) t =
    let i = watched_parts old.ports port named (InArea (Size area)) t in absurd (false≢true i.is_watched)
watched_move_alike old new kept so sn are port named (Own first len) t = own_alike old new kept port named first len t
