-- An accepted description is sound.
use Rattle.std.proofs.Common.{◌≡◌, ◌⊎◌, ℕ, zero, suc, subst, ◌<◌, ◌≤◌, List, [], ◌∷◌, map, length, Bool, true, false, refl, sym, ◌∙◌, ap, inl, inr, arith}
use Rattle.std.specs.Prelude.{◌+◌, nat_lt, nat_le, Some, slice_get, ◌==◌, ◌||◌, not, bytes_eq}
use Rattle.std.specs.List.{list_all, starts_with, slice_split, onto_first}
use Rattle.std.specs.Char.{to_ascii_lowercase}
use Rattle.std.proofs.lemmas.Bool.{cases_Bool, and_parts, eqb-true, eq-eqb, ne_eqb, ltb-false, leb-true, false≢true}
use Rattle.std.proofs.lemmas.Slice.Eq.{bytes_eq-Decides}
use Rattle.name_paths.specs.Identifier.{lower}
use Rattle.name_paths.specs.Name.{is_full_stop, lower_identifiers}
use Rattle.spec_plant.specs.Listed.{NamedType}
use Rattle.spec_plant.specs.Description.{Symbol, Port, Sizes, size_in}
use Rattle.spec_plant.specs.World.{PlantPort, PlantSymbol, plant_symbol, plant_port, lower_name, is_same_area}
use Rattle.spec_plant.specs.AcceptedTypes.{all_pairs}
use Rattle.spec_plant.specs.Accepted.{is_port, is_symbol, are_two_names, are_apart, size_of_symbol, begins_with_value}
use Rattle.spec_plant.specs.Covering.{covers}
use Rattle.spec_plant.specs.Named.{port_numbered, symbol_named, NotNamed, AreNamedApart, NotNumbered, AreNumberedApart}
use Rattle.spec_plant.specs.Sound.{Each, IsSoundSymbol, HaveNoByteInCommon, AreApart, IsSoundPort, AcceptedAreSound, AcceptedAreNumberedApart}
use Rattle.spec_plant.proofs.BlockLemmas.{same_bytes, same_area-refl}
use Rattle.spec_plant.proofs.CoveringLemmas.{stands_at}

-- what holds of each of a list holds of the one at a place
pub each-get : {X : Type 0} (P : X → Type 0) (xs : List X) (n : ℕ) (x : X) → Each P xs → slice_get xs n ≡ Some x → P x
each-get P [] n x e g = cc
each-get P (y ∷ ys) zero x e g = let same : y ≡ x = cc in subst P same (e.0)
each-get P (y ∷ ys) (suc n) x e g = each-get P ys n x (e.1) g

-- the case of letters leaves full stops where they are
lower-stop : (c : ℕ) → is_full_stop (to_ascii_lowercase c) ≡ is_full_stop c
lower-stop c =
    elim (cases_Bool (nat_lt c 65)) [
      | inl t ↦ rw t refl
      | inr t ↦
          elim (cases_Bool (nat_lt c 91)) [
            | inl u ↦
                let l = ltb-false c 65 t in
                let a : (c + 32 == 46) ≡ false = ne_eqb (c + 32) 46 (λ e. omega (arith, l, e)) in
                let b : (c == 46) ≡ false = ne_eqb c 46 (λ e. omega (arith, l, e)) in
                rw (t, u, a, b) refl
            | inr u ↦ rw (t, u) refl
          ]
    ]

-- names that are the same in lower case have the same identifiers
lower-split : (name : List ℕ) → map lower (slice_split is_full_stop name) ≡ slice_split is_full_stop (lower name)
lower-split [] = refl
lower-split (c ∷ cs) =
    let s = lower-stop c in
    elim (cases_Bool (is_full_stop c)) [
      | inl t ↦ let u = s ∙ t in rw (t, u) (ap (λ ps. [] ∷ ps) (lower-split cs))
      | inr t ↦ let u = s ∙ t in rw (t, u) (onto (slice_split is_full_stop cs) ∙ ap (onto_first (to_ascii_lowercase c)) (lower-split cs))
    ]
  where
    onto : (ps : List (List ℕ)) → map lower (onto_first c ps) ≡ onto_first (to_ascii_lowercase c) (map lower ps)
    onto [] = refl
    onto (p ∷ ps) = refl

bytes_itself : (a : List ℕ) → bytes_eq a a ≡ true
bytes_itself a = let d = bytes_eq-Decides a a in d.1 refl

starts_itself : (xs : List (List ℕ)) → starts_with bytes_eq xs xs ≡ true
starts_itself [] = refl
starts_itself (x ∷ xs) = let t = bytes_itself x in rw t (starts_itself xs)

-- two names of which neither begins with the other differ in lower case
names_differ : (a b : Symbol) → are_two_names a b ≡ true → bytes_eq (lower a.name) (lower b.name) ≡ false
names_differ a b e =
    elim (cases_Bool (bytes_eq (lower a.name) (lower b.name))) [
      | inr t ↦ t
      | inl t ↦
          let same : lower_identifiers a.name ≡ lower_identifiers b.name = lower-split a.name
          ∙ ap (slice_split is_full_stop) (same_bytes (lower a.name) (lower b.name) t) ∙ sym (lower-split b.name) in
          let begins : starts_with bytes_eq (lower_identifiers a.name) (lower_identifiers b.name) ≡ true
          = ap (λ xs. starts_with bytes_eq xs (lower_identifiers b.name)) same ∙ starts_itself (lower_identifiers b.name) in
          let not_begins
          = and_parts (not (starts_with bytes_eq (lower_identifiers a.name) (lower_identifiers b.name)))
          (not (starts_with bytes_eq (lower_identifiers b.name) (lower_identifiers a.name))) e in
          absurd (false≢true (sym (ap not begins) ∙ not_begins.0))
    ]

-- each symbol is found by its name
abbrev Found : List PlantSymbol → PlantSymbol → Type 0
Found symbols x = symbol_named (lower_name x) symbols ≡ Some x

behind-found : (types : List NamedType) (h : Symbol) (ys : List PlantSymbol) (ss : List Symbol) → list_all (are_two_names h) ss ≡ true
    → Each (Found ys) (map (plant_symbol types) ss) → Each (Found (plant_symbol types h ∷ ys)) (map (plant_symbol types) ss)
behind-found types h ys [] a e = tt
behind-found types h ys (s ∷ ss) a e =
    let p = and_parts (are_two_names h s) (list_all (are_two_names h) ss) a in
    let t = names_differ h s (p.0) in
    (rw t (e.0), behind-found types h ys ss (p.1) (e.1))

symbols-found : (types : List NamedType) (ss : List Symbol) → all_pairs are_two_names ss ≡ true
    → Each (Found (map (plant_symbol types) ss)) (map (plant_symbol types) ss)
symbols-found types [] a = tt
symbols-found types (s ∷ ss) a =
    let p = and_parts (list_all (are_two_names s) ss) (all_pairs are_two_names ss) a in
    let t = bytes_itself (lower s.name) in
    (rw t refl, behind-found types s (map (plant_symbol types) ss) ss (p.0) (symbols-found types ss (p.1)))

-- the names of symbols differ in lower case
not_named : (types : List NamedType) (h : Symbol) (ss : List Symbol) → list_all (are_two_names h) ss ≡ true
    → NotNamed (lower h.name) (map (plant_symbol types) ss)
not_named types h [] a = tt
not_named types h (s ∷ ss) a =
    let p = and_parts (are_two_names h s) (list_all (are_two_names h) ss) a in
    let differ = names_differ h s (p.0) in
    (λ e. false≢true (sym differ ∙ ap (λ x. bytes_eq (lower h.name) x) e ∙ bytes_itself (lower h.name)), not_named types h ss (p.1))

named_apart : (types : List NamedType) (ss : List Symbol) → all_pairs are_two_names ss ≡ true → AreNamedApart (map (plant_symbol types) ss)
named_apart types [] a = tt
named_apart types (s ∷ ss) a =
    let p = and_parts (list_all (are_two_names s) ss) (all_pairs are_two_names ss) a in
    (not_named types s ss (p.0), named_apart types ss (p.1))

-- no byte belongs to two symbols
none_in_common : (types : List NamedType) (s t : Symbol) → are_apart types s t ≡ true → HaveNoByteInCommon (plant_symbol types s) (plant_symbol types t)
none_in_common types s t a area offset e =
    elim (cases_Bool (covers area offset (plant_symbol types t))) [
      | inr f ↦ f
      | inl f ↦
          let one = stands_at (plant_symbol types s) area offset e in
          let other = stands_at (plant_symbol types t) area offset f in
          let same : is_same_area s.area t.area ≡ true = rw (one.same_area, other.same_area) (same_area-refl area) in
          absurd (apart same one.begins one.ends other.begins other.ends)
    ]
  where
    orders : (x y : Bool) → (false || x || y) ≡ true → (x ≡ true) ⊎ (y ≡ true)
    orders true y q = inl refl
    orders false y q = inr q

    apart : is_same_area s.area t.area ≡ true → s.offset ≤ offset → offset < s.offset + size_of_symbol types s → t.offset ≤ offset
        → offset < t.offset + size_of_symbol types t → ⊥
    apart same b1 e1 b2 e2 =
        let told : (false || nat_le (s.offset + size_of_symbol types s) t.offset || nat_le (t.offset + size_of_symbol types t) s.offset) ≡ true
        = rw same at a in
        elim (orders (nat_le (s.offset + size_of_symbol types s) t.offset) (nat_le (t.offset + size_of_symbol types t) s.offset) told) [
          | inl l ↦ let m = leb-true (s.offset + size_of_symbol types s) t.offset l in omega (arith, m, e1, b2)
          | inr l ↦ let m = leb-true (t.offset + size_of_symbol types t) s.offset l in omega (arith, m, e2, b1)
        ]

none_with : (types : List NamedType) (h : Symbol) (ss : List Symbol) → list_all (are_apart types h) ss ≡ true
    → Each (HaveNoByteInCommon (plant_symbol types h)) (map (plant_symbol types) ss)
none_with types h [] a = tt
none_with types h (s ∷ ss) a =
    let p = and_parts (are_apart types h s) (list_all (are_apart types h) ss) a in
    (none_in_common types h s (p.0), none_with types h ss (p.1))

bytes_apart : (types : List NamedType) (ss : List Symbol) → all_pairs (are_apart types) ss ≡ true → AreApart (map (plant_symbol types) ss)
bytes_apart types [] a = tt
bytes_apart types (s ∷ ss) a =
    let p = and_parts (list_all (are_apart types s) ss) (all_pairs (are_apart types) ss) a in
    (none_with types s ss (p.0), bytes_apart types ss (p.1))

-- a symbol by itself: it lies in its area, and has its initial bytes
symbol-sound : (types : List NamedType) (sizes : Sizes) (signals : ℕ) (s : Symbol) → is_symbol types sizes signals s ≡ true
    → (s.offset + size_of_symbol types s ≤ size_in sizes s.area) × (length s.initial ≡ size_of_symbol types s)
symbol-sound types sizes signals s e =
    let up_to_initial = and_parts _ _ ((and_parts _ _ ((and_parts _ _ ((and_parts _ _ e).0)).0)).0) in
    let up_to_place = and_parts _ _ (up_to_initial.0) in
    let place = leb-true (s.offset + size_of_symbol types s) (size_in sizes s.area) (up_to_place.1) in
    let initial = and_parts (length s.initial == size_of_symbol types s) (begins_with_value types s.shape s.initial) (up_to_initial.1) in
    (place, eqb-true (length s.initial) (size_of_symbol types s) (initial.0))

symbols-sound : (types : List NamedType) (signals : ℕ) (p : PlantPort) (ss : List Symbol) → list_all (is_symbol types p.sizes signals) ss ≡ true
    → Each (Found p.symbols) (map (plant_symbol types) ss) → Each (IsSoundSymbol p) (map (plant_symbol types) ss)
symbols-sound types signals p [] a f = tt
symbols-sound types signals p (s ∷ ss) a f =
    let q = and_parts (is_symbol types p.sizes signals s) (list_all (is_symbol types p.sizes signals) ss) a in
    let own = symbol-sound types p.sizes signals s (q.0) in
    (record { found = f.0; initial = own.1; within = own.0 }, symbols-sound types signals p ss (q.1) (f.1))

-- each port is found by its number
abbrev PortFound : List PlantPort → PlantPort → Type 0
PortFound ports x = port_numbered x.number ports ≡ Some x

abbrev are_two_numbers : ℕ → ℕ → Bool
are_two_numbers m n = not (m == n)

port_behind : (types : List NamedType) (h : Port) (ys : List PlantPort) (ps : List Port)
    → list_all (are_two_numbers h.number) (map (λ (p : Port). p.number) ps) ≡ true → Each (PortFound ys) (map (plant_port types) ps)
    → Each (PortFound (plant_port types h ∷ ys)) (map (plant_port types) ps)
port_behind types h ys [] a e = tt
port_behind types h ys (p ∷ ps) a e =
    let q = and_parts (are_two_numbers h.number p.number) (list_all (are_two_numbers h.number) (map (λ (x : Port). x.number) ps)) a in
    let t : (h.number == p.number) ≡ false = denied (h.number == p.number) (q.0) in
    (rw t (e.0), port_behind types h ys ps (q.1) (e.1))
  where
    denied : (b : Bool) → not b ≡ true → b ≡ false
    denied false e = refl
    denied true e = absurd (false≢true e)

ports-found : (types : List NamedType) (ps : List Port)
    → all_pairs are_two_numbers (map (λ (p : Port). p.number) ps) ≡ true → Each (PortFound (map (plant_port types) ps)) (map (plant_port types) ps)
ports-found types [] a = tt
ports-found types (p ∷ ps) a =
    let q = and_parts (list_all (are_two_numbers p.number) (map (λ (x : Port). x.number) ps)) (all_pairs are_two_numbers (map (λ (x : Port). x.number) ps)) a in
    let t = eq-eqb p.number p.number refl in
    (rw t refl, port_behind types p (map (plant_port types) ps) ps (q.0) (ports-found types ps (q.1)))

-- a port by itself: its symbols are right, and no two of them have a name or a byte in common
record PortParts (types : List NamedType) (signals : ℕ) (p : Port) : Type 0 where
  each : list_all (is_symbol types p.sizes signals) p.symbols ≡ true
  names : all_pairs are_two_names p.symbols ≡ true
  apart : all_pairs (are_apart types) p.symbols ≡ true

port_parts : (types : List NamedType) (signals : ℕ) (p : Port) → is_port types signals p ≡ true → PortParts types signals p
port_parts types signals p e =
    let up_to_pairs = and_parts _ _ ((and_parts _ _ e).0) in
    let up_to_symbols = and_parts _ _ (up_to_pairs.0) in
    let symbols = and_parts (nat_le (length p.symbols) 10000) (list_all (is_symbol types p.sizes signals) p.symbols) (up_to_symbols.1) in
    let pairs = and_parts (all_pairs are_two_names p.symbols) (all_pairs (are_apart types) p.symbols) (up_to_pairs.1) in
    record { each = symbols.1; names = pairs.0; apart = pairs.1 }

ports-sound : (types : List NamedType) (signals : ℕ) (all : List PlantPort) (ps : List Port) → list_all (is_port types signals) ps ≡ true
    → Each (PortFound all) (map (plant_port types) ps) → Each (IsSoundPort all) (map (plant_port types) ps)
ports-sound types signals all [] a f = tt
ports-sound types signals all (p ∷ ps) a f =
    let q = and_parts (is_port types signals p) (list_all (is_port types signals) ps) a in
    let own = port_parts types signals p (q.0) in (
      record {
        found = f.0;
        symbols = symbols-sound types signals (plant_port types p) p.symbols own.each (symbols-found types p.symbols own.names);
        names = named_apart types p.symbols own.names;
        bytes = bytes_apart types p.symbols own.apart;
      },
      ports-sound types signals all ps (q.1) (f.1),
    )

pub accepted_are_sound : AcceptedAreSound
accepted_are_sound d signals a = ports-sound d.types signals (map (plant_port d.types) d.ports) d.ports a.each_port (ports-found d.types d.ports a.numbers)

not_numbered : (types : List NamedType) (h : Port) (ps : List Port)
    → list_all (are_two_numbers h.number) (map (λ (p : Port). p.number) ps) ≡ true → NotNumbered h.number (map (plant_port types) ps)
not_numbered types h [] a = tt
not_numbered types h (p ∷ ps) a =
    let q = and_parts (are_two_numbers h.number p.number) (list_all (are_two_numbers h.number) (map (λ (x : Port). x.number) ps)) a in
    (λ e. denied (h.number == p.number) (q.0) (eq-eqb h.number p.number (sym e)), not_numbered types h ps (q.1))
  where
    denied : (b : Bool) → not b ≡ true → b ≡ true → ⊥
    denied false e f = false≢true f
    denied true e f = false≢true e

numbered_apart : (types : List NamedType) (ps : List Port)
    → all_pairs are_two_numbers (map (λ (p : Port). p.number) ps) ≡ true → AreNumberedApart (map (plant_port types) ps)
numbered_apart types [] a = tt
numbered_apart types (p ∷ ps) a =
    let q = and_parts (list_all (are_two_numbers p.number) (map (λ (x : Port). x.number) ps)) (all_pairs are_two_numbers (map (λ (x : Port). x.number) ps)) a in
    (not_numbered types p ps (q.0), numbered_apart types ps (q.1))

pub accepted_are_numbered_apart : AcceptedAreNumberedApart
accepted_are_numbered_apart d signals a = numbered_apart d.types d.ports a.numbers

-- what is found is sound, and has the number or the name that it was sought by

pub port_sound : (ps all : List PlantPort) (n : ℕ) (p : PlantPort) → Each (IsSoundPort all) ps → port_numbered n ps ≡ Some p → IsSoundPort all p
port_sound [] all n p e f = cc
port_sound (q ∷ qs) all n p e f =
    elim (cases_Bool (q.number == n)) [
      | inl t ↦ let g : Some q ≡ Some p = rw t at f in let h : q ≡ p = cc in subst (IsSoundPort all) h (e.0)
      | inr t ↦ let g : port_numbered n qs ≡ Some p = rw t at f in port_sound qs all n p (e.1) g
    ]

pub symbol_sound : (p : PlantPort) (ss : List PlantSymbol) (name : List ℕ) (s : PlantSymbol) → Each (IsSoundSymbol p) ss → symbol_named name ss ≡ Some s
    → IsSoundSymbol p s
symbol_sound p [] name s e f = cc
symbol_sound p (x ∷ xs) name s e f =
    elim (cases_Bool (bytes_eq (lower_name x) name)) [
      | inl t ↦ let g : Some x ≡ Some s = rw t at f in let h : x ≡ s = cc in subst (IsSoundSymbol p) h (e.0)
      | inr t ↦ let g : symbol_named name xs ≡ Some s = rw t at f in symbol_sound p xs name s (e.1) g
    ]

pub port_number : (n : ℕ) (ps : List PlantPort) (p : PlantPort) → port_numbered n ps ≡ Some p → p.number ≡ n
port_number n [] p e = cc
port_number n (q ∷ qs) p e =
    elim (cases_Bool (q.number == n)) [
      | inl t ↦ let f : Some q ≡ Some p = rw t at e in let g : q ≡ p = cc in sym (ap (λ (x : PlantPort). x.number) g) ∙ eqb-true q.number n t
      | inr t ↦ let f : port_numbered n qs ≡ Some p = rw t at e in port_number n qs p f
    ]

-- a symbol that was found by its name: where it stands in the list
pub record IsNamedAt (ss : List PlantSymbol) (name : List ℕ) (s : PlantSymbol) : Type 0 where
  pub place : ℕ
  pub there : slice_get ss place ≡ Some s
  pub named : lower_name s ≡ name

pub symbol_at : (name : List ℕ) (ss : List PlantSymbol) (s : PlantSymbol) → symbol_named name ss ≡ Some s → IsNamedAt ss name s
symbol_at name [] s e = cc
symbol_at name (x ∷ xs) s e =
    elim (cases_Bool (bytes_eq (lower_name x) name)) [
      | inl t ↦
          let f : Some x ≡ Some s = rw t at e in
          let g : x ≡ s = cc in
          record { place = zero; there = f; named = sym (ap (λ (y : PlantSymbol). lower_name y) g) ∙ same_bytes (lower_name x) name t }
      | inr t ↦
          let f : symbol_named name xs ≡ Some s = rw t at e in
          let rest = symbol_at name xs s f in
          record { place = suc rest.place; there = rest.there; named = rest.named }
    ]
