-- A description that begins otherwise than a sound one is sound.
use Rattle.std.proofs.Common.{◌≡◌, ◌≢◌, ℕ, zero, suc, ◌+◌, ◌≤◌, List, [], ◌∷◌, map, length, true, false, refl, sym, ◌∙◌, ap, subst, inl, inr}
use Rattle.std.specs.Prelude.{Some, slice_get, ◌==◌, bytes_eq}
use Rattle.std.specs.List.{AllZip}
use Rattle.std.proofs.lemmas.Bool.{cases_Bool, eqb-true, eq-eqb}
use Rattle.std.proofs.lemmas.Slice.Eq.{bytes_eq-Decides}
use Rattle.name_paths.specs.Identifier.{lower}
use Rattle.spec_plant.specs.Listed.{NamedType}
use Rattle.spec_plant.specs.Description.{Symbol, Port, Description, size_in}
use Rattle.spec_plant.specs.World.{PlantPort, PlantSymbol, plant_symbol, plant_port, plant_of, lower_name, symbol_size}
use Rattle.spec_plant.specs.Named.{port_numbered, symbol_named, NotNamed, AreNamedApart, NotNumbered, AreNumberedApart}
use Rattle.spec_plant.specs.Sound.{Each, IsSoundSymbol, HaveNoByteInCommon, AreApart, IsSoundPort, IsSoundPlant}
use Rattle.spec_plant.proofs.SoundLemmas.{accepted_are_sound, accepted_are_numbered_apart}
use Rattle.spec_persistent.specs.Otherwise.{SymbolBeginsOtherwise, PortBeginsOtherwise}
use Rattle.spec_persistent.specs.Laws.{BegunIsSound, BegunIsNumberedApart}

-- the one beside the one at a place
pub beside : {X Y : Type 0} (P : X → Y → Type 0) (xs : List X) (ys : List Y) (n : ℕ) (y : Y) → AllZip P xs ys → slice_get ys n ≡ Some y
    → (x : X) × (slice_get xs n ≡ Some x) × P x y
beside P [] [] n y e g = cc
beside P [] (z ∷ ys) n y e g = absurd e
beside P (x ∷ xs) [] n y e g = absurd e
beside P (x ∷ xs) (z ∷ ys) zero y e g = let same : z ≡ y = cc in (x, refl, subst (P x) same (e.0))
beside P (x ∷ xs) (z ∷ ys) (suc n) y e g = beside P xs ys n y (e.1) g

-- where names differ, each symbol is found by its own

abbrev Found : List PlantSymbol → PlantSymbol → Type 0
Found symbols x = symbol_named (lower_name x) symbols ≡ Some x

other_name : (a b : List ℕ) → b ≢ a → bytes_eq a b ≡ false
other_name a b n =
    elim (cases_Bool (bytes_eq a b)) [
      | inr t ↦ t
      | inl t ↦ let d = bytes_eq-Decides a b in absurd (n (sym (d.0 t)))
    ]

own_name : (a : List ℕ) → bytes_eq a a ≡ true
own_name a = let d = bytes_eq-Decides a a in d.1 refl

found-behind : (h : PlantSymbol) (ys ss : List PlantSymbol) → NotNamed (lower_name h) ss → Each (Found ys) ss → Each (Found (h ∷ ys)) ss
found-behind h ys [] n e = tt
found-behind h ys (s ∷ ss) n e =
    let t = other_name (lower_name h) (lower_name s) (n.0) in
    (rw t (e.0), found-behind h ys ss (n.1) (e.1))

found-by_name : (ss : List PlantSymbol) → AreNamedApart ss → Each (Found ss) ss
found-by_name [] a = tt
found-by_name (s ∷ ss) a =
    let t = own_name (lower_name s) in
    (rw t refl, found-behind s ss ss (a.0) (found-by_name ss (a.1)))

-- and each port by its number

abbrev PortFound : List PlantPort → PlantPort → Type 0
PortFound ports x = port_numbered x.number ports ≡ Some x

other_number : (m n : ℕ) → n ≢ m → (m == n) ≡ false
other_number m n d =
    elim (cases_Bool (m == n)) [
      | inr t ↦ t
      | inl t ↦ absurd (d (sym (eqb-true m n t)))
    ]

port-behind : (h : PlantPort) (ys ps : List PlantPort) → NotNumbered h.number ps → Each (PortFound ys) ps → Each (PortFound (h ∷ ys)) ps
port-behind h ys [] n e = tt
port-behind h ys (p ∷ ps) n e =
    let t = other_number h.number p.number (n.0) in
    (rw t (e.0), port-behind h ys ps (n.1) (e.1))

found-by_number : (ps : List PlantPort) → AreNumberedApart ps → Each (PortFound ps) ps
found-by_number [] a = tt
found-by_number (p ∷ ps) a =
    let t = eq-eqb p.number p.number refl in
    (rw t refl, port-behind p ps ps (a.0) (found-by_number ps (a.1)))

-- symbols that begin otherwise have the same names and places

not_named : (types : List NamedType) (name : List ℕ) (ss ts : List Symbol) → AllZip SymbolBeginsOtherwise ss ts
    → NotNamed name (map (plant_symbol types) ss) → NotNamed name (map (plant_symbol types) ts)
not_named types name [] [] e n = tt
not_named types name [] (t ∷ ts) e n = absurd e
not_named types name (s ∷ ss) [] e n = absurd e
not_named types name (s ∷ ss) (t ∷ ts) e n =
    (subst (λ (x : Symbol). lower x.name ≢ name) (sym (e.0).same) (n.0), not_named types name ss ts (e.1) (n.1))

named_apart : (types : List NamedType) (ss ts : List Symbol) → AllZip SymbolBeginsOtherwise ss ts
    → AreNamedApart (map (plant_symbol types) ss) → AreNamedApart (map (plant_symbol types) ts)
named_apart types [] [] e a = tt
named_apart types [] (t ∷ ts) e a = absurd e
named_apart types (s ∷ ss) [] e a = absurd e
named_apart types (s ∷ ss) (t ∷ ts) e a =
    let rest = map (plant_symbol types) ts in
    let own : NotNamed (lower s.name) rest = not_named types (lower s.name) ss ts (e.1) (a.0) in
    (subst (λ (x : Symbol). NotNamed (lower x.name) rest) (sym (e.0).same) own, named_apart types ss ts (e.1) (a.1))

none_with : (types : List NamedType) (h : Symbol) (ss ts : List Symbol) → AllZip SymbolBeginsOtherwise ss ts
    → Each (HaveNoByteInCommon (plant_symbol types h)) (map (plant_symbol types) ss)
    → Each (HaveNoByteInCommon (plant_symbol types h)) (map (plant_symbol types) ts)
none_with types h [] [] e a = tt
none_with types h [] (t ∷ ts) e a = absurd e
none_with types h (s ∷ ss) [] e a = absurd e
none_with types h (s ∷ ss) (t ∷ ts) e a =
    let P : Symbol → Type 0 = λ x. HaveNoByteInCommon (plant_symbol types h) (plant_symbol types x) in
    (subst P (sym (e.0).same) (a.0), none_with types h ss ts (e.1) (a.1))

bytes_apart : (types : List NamedType) (ss ts : List Symbol) → AllZip SymbolBeginsOtherwise ss ts
    → AreApart (map (plant_symbol types) ss) → AreApart (map (plant_symbol types) ts)
bytes_apart types [] [] e a = tt
bytes_apart types [] (t ∷ ts) e a = absurd e
bytes_apart types (s ∷ ss) [] e a = absurd e
bytes_apart types (s ∷ ss) (t ∷ ts) e a =
    let P : Symbol → Type 0 = λ x. Each (HaveNoByteInCommon (plant_symbol types x)) (map (plant_symbol types) ts) in
    (subst P (sym (e.0).same) (none_with types s ss ts (e.1) (a.0)), bytes_apart types ss ts (e.1) (a.1))

-- they lie in their areas, and begin with as many bytes as they have
symbols-sound : (types : List NamedType) (p q : PlantPort) (ss ts : List Symbol) → p.sizes ≡ q.sizes → AllZip SymbolBeginsOtherwise ss ts
    → Each (Found q.symbols) (map (plant_symbol types) ts) → Each (IsSoundSymbol p) (map (plant_symbol types) ss)
    → Each (IsSoundSymbol q) (map (plant_symbol types) ts)
symbols-sound types p q [] [] same e f sound = tt
symbols-sound types p q [] (t ∷ ts) same e f sound = absurd e
symbols-sound types p q (s ∷ ss) [] same e f sound = absurd e
symbols-sound types p q (s ∷ ss) (t ∷ ts) same e f sound =
    let b = e.0 in
    let Lies : Symbol → Type 0 = λ x. x.offset + symbol_size (plant_symbol types x) ≤ size_in q.sizes x.area in
    let Fills : Symbol → Type 0 = λ x. length x.initial ≡ symbol_size (plant_symbol types x) in
    let lies = subst (λ z. s.offset + symbol_size (plant_symbol types s) ≤ size_in z s.area) same (sound.0).within in (
      record { found = f.0; initial = subst Fills (sym b.same) (b.as_long ∙ (sound.0).initial); within = subst Lies (sym b.same) lies },
      symbols-sound types p q ss ts same (e.1) (f.1) (sound.1),
    )

-- a port that begins otherwise than a sound one, and is found by its number
pub port-sound : (types : List NamedType) (ports others : List PlantPort) (first p : Port) → PortBeginsOtherwise first p
    → port_numbered p.number others ≡ Some (plant_port types p)
    → IsSoundPort ports (plant_port types first) → IsSoundPort others (plant_port types p)
port-sound types ports others first p o found sound = subst P (sym o.same) sound_with found
  where
    P : Port → Type 0
    P x = port_numbered x.number others ≡ Some (plant_port types x) → IsSoundPort others (plant_port types x)

    new : Port
    new = record first { symbols = o.symbols }

    names : AreNamedApart (map (plant_symbol types) o.symbols)
    names = named_apart types first.symbols o.symbols o.each sound.names

    sound_with : P new
    sound_with f = record {
      found = f;
      symbols = symbols-sound types (plant_port types first) (plant_port types new) first.symbols o.symbols refl o.each
          (found-by_name (map (plant_symbol types) o.symbols) names) sound.symbols;
      names = names;
      bytes = bytes_apart types first.symbols o.symbols o.each sound.bytes;
    }

-- ports that begin otherwise have the same numbers

not_numbered : (types : List NamedType) (number : ℕ) (ps qs : List Port) → AllZip PortBeginsOtherwise ps qs
    → NotNumbered number (map (plant_port types) ps) → NotNumbered number (map (plant_port types) qs)
not_numbered types number [] [] e n = tt
not_numbered types number [] (q ∷ qs) e n = absurd e
not_numbered types number (p ∷ ps) [] e n = absurd e
not_numbered types number (p ∷ ps) (q ∷ qs) e n =
    (subst (λ (x : Port). x.number ≢ number) (sym (e.0).same) (n.0), not_numbered types number ps qs (e.1) (n.1))

numbered_apart : (types : List NamedType) (ps qs : List Port) → AllZip PortBeginsOtherwise ps qs
    → AreNumberedApart (map (plant_port types) ps) → AreNumberedApart (map (plant_port types) qs)
numbered_apart types [] [] e a = tt
numbered_apart types [] (q ∷ qs) e a = absurd e
numbered_apart types (p ∷ ps) [] e a = absurd e
numbered_apart types (p ∷ ps) (q ∷ qs) e a =
    let rest = map (plant_port types) qs in
    let own : NotNumbered p.number rest = not_numbered types p.number ps qs (e.1) (a.0) in
    (subst (λ (x : Port). NotNumbered x.number rest) (sym (e.0).same) own, numbered_apart types ps qs (e.1) (a.1))

ports-sound : (types : List NamedType) (all others : List PlantPort) (ps qs : List Port) → AllZip PortBeginsOtherwise ps qs
    → Each (PortFound others) (map (plant_port types) qs) → Each (IsSoundPort all) (map (plant_port types) ps)
    → Each (IsSoundPort others) (map (plant_port types) qs)
ports-sound types all others [] [] e f sound = tt
ports-sound types all others [] (q ∷ qs) e f sound = absurd e
ports-sound types all others (p ∷ ps) [] e f sound = absurd e
ports-sound types all others (p ∷ ps) (q ∷ qs) e f sound =
    (port-sound types all others p q (e.0) (f.0) (sound.0), ports-sound types all others ps qs (e.1) (f.1) (sound.1))

-- what a device may begin with

pub begun_is_numbered_apart : BegunIsNumberedApart
begun_is_numbered_apart d signals b =
    let o = b.otherwise in
    let apart = accepted_are_numbered_apart b.first signals b.accepted in
    subst (λ (x : Description). AreNumberedApart (plant_of x).ports) (sym o.same) (numbered_apart b.first.types b.first.ports o.ports o.each apart)

pub begun_is_sound : BegunIsSound
begun_is_sound d signals b =
    let o = b.otherwise in
    let types = b.first.types in
    let ports = map (plant_port types) o.ports in
    let apart : AreNumberedApart ports = numbered_apart types b.first.ports o.ports o.each (accepted_are_numbered_apart b.first signals b.accepted) in
    let sound = ports-sound types (plant_of b.first).ports ports b.first.ports o.ports o.each (found-by_number ports apart)
    (accepted_are_sound b.first signals b.accepted) in
    subst (λ (x : Description). IsSoundPlant (plant_of x)) (sym o.same) sound
