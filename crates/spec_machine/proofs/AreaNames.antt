-- Which names the bytes of an area have.
use Rattle.std.proofs.Common.{◌≡◌, ◌≢◌, ℕ, zero, suc, ◌≤◌, List, [], ◌∷◌, map, true, false, refl, sym, ◌∙◌, ap, inl, inr, arith}
use Rattle.std.specs.Prelude.{◌+◌, ◌-◌, Some, slice_get}
use Rattle.std.specs.List.{list_any}
use Rattle.std.proofs.lemmas.Bool.{cases_Bool, false≢true}
use Rattle.spec_plant.specs.Description.{Area}
use Rattle.spec_plant.specs.World.{ByteName, SymbolPart, AreaPart, StatePart, PlantSymbol, PlantPort, lower_name, symbol_size}
use Rattle.spec_plant.specs.Covering.{covers}
use Rattle.spec_plant.specs.Named.{NotNamed, AreNamedApart}
use Rattle.spec_plant.specs.Sound.{HaveNoByteInCommon, AreApart}
use Rattle.spec_plant.proofs.SoundLemmas.{each-get}
use Rattle.spec_plant.proofs.CoveringLemmas.{stands_at, covers_from}
use Rattle.spec_machine.specs.World.{numbers_from, name_among, name_at, names_at, symbol_names}
use Rattle.spec_machine.specs.AreaNames.{name_in_symbol, name_in_gap, TilesGiveNames, SpansGiveNames, IsOneByte, NamesAreOneToOne, NamesAreOfAreas}

-- the symbol that stands at an offset gives the name of the byte
pub among-symbol : (port : ℕ) (area : Area) (offset : ℕ) (ss : List PlantSymbol) (n : ℕ) (s : PlantSymbol) → AreApart ss → slice_get ss n ≡ Some s
    → covers area offset s ≡ true
    → name_among port area offset ss ≡ name_in_symbol port s (offset - s.offset)
among-symbol port area offset [] n s a g c = cc
among-symbol port area offset (x ∷ xs) zero s a g c =
    let same : x ≡ s = cc in
    let t : covers area offset x ≡ true = ap (covers area offset) same ∙ c in
    rw t (ap (λ (y : PlantSymbol). name_in_symbol port y (offset - y.offset)) same)
among-symbol port area offset (x ∷ xs) (suc n) s a g c =
    elim (cases_Bool (covers area offset x)) [
      | inl t ↦ absurd (false≢true (sym (each-get (HaveNoByteInCommon x) xs n s (a.0) g area offset t) ∙ c))
      | inr t ↦ rw t (among-symbol port area offset xs n s (a.1) g c)
    ]

-- where none stands, the area does
pub among-gap : (port : ℕ) (area : Area) (offset : ℕ) (ss : List PlantSymbol) → list_any (covers area offset) ss ≡ false
    → name_among port area offset ss ≡ name_in_gap port area offset
among-gap port area offset [] e = refl
among-gap port area offset (x ∷ xs) e =
    elim (cases_Bool (covers area offset x)) [
      | inl t ↦ let f = rw t at e in absurd (false≢true (sym f))
      | inr t ↦ let f = rw t at e in rw t (among-gap port area offset xs f)
    ]

pub tiles_give_names : TilesGiveNames
unfolding name_at
tiles_give_names p area offset a = record {
  symbol = λ n s g c. among-symbol p.number area offset p.symbols n s a g c;
  gap = λ e. among-gap p.number area offset p.symbols e;
}

span : (p : PlantPort) (n : ℕ) (s : PlantSymbol) → AreApart p.symbols → slice_get p.symbols n ≡ Some s → (first len : ℕ) → first + len ≤ symbol_size s
    → map (name_at p s.area) (numbers_from (s.offset + first) len) ≡ symbol_names p.number (lower_name s) first len
unfolding numbers_from name_at
span p n s a g first zero h = refl
span p n s a g first (suc len) h =
    let c = covers_from s s.area (s.offset + first) (record { same_area = refl; begins = omega arith; ends = omega (arith, h) }) in
    let index : s.offset + first - s.offset ≡ first = omega arith in
    let next : (s.offset + first) + 1 ≡ s.offset + (first + 1) = omega arith in
    let head = among-symbol p.number s.area (s.offset + first) p.symbols n s a g c ∙ ap (name_in_symbol p.number s) index in
    let rest = ap (λ i. map (name_at p s.area) (numbers_from i len)) next ∙ span p n s a g (first + 1) len (omega (arith, h)) in
    rw (head, rest) refl

pub spans_give_names : SpansGiveNames
unfolding names_at
spans_give_names p n s first len a g h = span p n s a g first len h

-- no byte has the name of a symbol that is not among these
name_among-not : (port : ℕ) (area : Area) (offset : ℕ) (name : List ℕ) (ss : List PlantSymbol) → NotNamed name ss
    → (name_among port area offset ss).part ≢ SymbolPart name
name_among-not port area offset name [] n e = cc
name_among-not port area offset name (s ∷ ss) n e =
    elim (cases_Bool (covers area offset s)) [
      | inl t ↦ let f = rw t at e in n.0 (symbol_is (lower_name s) name f)
      | inr t ↦ let f = rw t at e in name_among-not port area offset name ss (n.1) f
    ]
  where
    symbol_is : (x y : List ℕ) → SymbolPart x ≡ SymbolPart y → x ≡ y
    symbol_is x y q = cc

part_of_name : (n m : ByteName) → n ≡ m → n.part ≡ m.part
part_of_name n m e = ap (λ (x : ByteName). x.part) e

index_of_name : (n m : ByteName) → n ≡ m → n.index ≡ m.index
index_of_name n m e = ap (λ (x : ByteName). x.index) e

area_is : (a b : Area) → AreaPart a ≡ AreaPart b → a ≡ b
area_is a b e = cc

among-one : (port : ℕ) (a b : Area) (i j : ℕ) (ss : List PlantSymbol) → AreNamedApart ss → name_among port a i ss ≡ name_among port b j ss → IsOneByte a b i j
among-one port a b i j [] n e = record {
  same_area = area_is a b (part_of_name (name_in_gap port a i) (name_in_gap port b j) e);
  same_offset = index_of_name (name_in_gap port a i) (name_in_gap port b j) e;
}
among-one port a b i j (s ∷ ss) n e =
    elim (cases_Bool (covers a i s)) [
      | inl t ↦ elim (cases_Bool (covers b j s)) [
        | inl u ↦
            let f = index_of_name _ _ (rw (t, u) at e) in
            let one = stands_at s a i t in
            let other = stands_at s b j u in
            let l = one.begins in
            let k = other.begins in
            record { same_area = sym one.same_area ∙ other.same_area; same_offset = omega (arith, f, l, k) }
        | inr u ↦ let f = rw (t, u) at e in absurd (name_among-not port b j (lower_name s) ss (n.0) (sym (part_of_name _ _ f)))
      ]
      | inr t ↦ elim (cases_Bool (covers b j s)) [
        | inl u ↦ let f = rw (t, u) at e in absurd (name_among-not port a i (lower_name s) ss (n.0) (part_of_name _ _ f))
        | inr u ↦ let f = rw (t, u) at e in among-one port a b i j ss (n.1) f
      ]
    ]

pub names_are_one_to_one : NamesAreOneToOne
unfolding name_at
names_are_one_to_one p a b i j n e = among-one p.number a b i j p.symbols n e

among-area : (port : ℕ) (a : Area) (i : ℕ) (ss : List PlantSymbol) → ((name_among port a i ss).port ≡ port) × ((name_among port a i ss).part ≢ StatePart)
among-area port a i [] = (refl, λ e. cc)
among-area port a i (s ∷ ss) =
    elim (cases_Bool (covers a i s)) [
      | inl t ↦ rw t (refl, λ e. no_symbol (lower_name s) e)
      | inr t ↦ rw t (among-area port a i ss)
    ]
  where
    no_symbol : (name : List ℕ) → SymbolPart name ≢ StatePart
    no_symbol name e = cc

pub names_are_of_areas : NamesAreOfAreas
unfolding name_at
names_are_of_areas p a i = let both = among-area p.number a i p.symbols in record { port = both.0; part = both.1 }
