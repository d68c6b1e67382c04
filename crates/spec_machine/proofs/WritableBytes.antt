-- Which bytes a machine may write, told by the symbols at which they stand.
use Rattle.std.proofs.Common.{◌≡◌, ℕ, zero, suc, ◌+◌, ◌<◌, ◌≤◌, List, map, Bool, true, false, refl, sym, ◌∙◌, ap, subst, inl, inr, arith}
use Rattle.std.specs.Prelude.{Some, slice_get, ◌==◌, ◌&&◌}
use Rattle.std.specs.List.{list_all}
use Rattle.std.proofs.lemmas.Bool.{cases_Bool, and_parts, and_from, eqb-true, eqb-false}
use Rattle.spec_plant.specs.Description.{Area}
use Rattle.spec_plant.specs.World.{PlantPort, PlantSymbol, SymbolPart, ByteName, lower_name}
use Rattle.spec_plant.specs.Covering.{covers}
use Rattle.spec_plant.specs.Sound.{IsSoundSymbol, IsSoundPort}
use Rattle.spec_plant.proofs.SoundLemmas.{each-get}
use Rattle.spec_machine.specs.World.{numbers_from, name_at, names_at}
use Rattle.spec_machine.specs.Access.{Addressed, WholeByte, addressed_name}
use Rattle.spec_machine.specs.Writes.{is_writable_symbol, is_writable_part}
use Rattle.spec_machine.specs.AreaNames.{is_covered}
use Rattle.spec_machine.specs.WritableBytes.{MayWriteSymbolsAt, WritesBySymbols, WritesInSymbol}
use Rattle.spec_machine.proofs.AreaNames.{tiles_give_names}
use Rattle.spec_machine.proofs.Reloaded.{covered_by}

-- a test of all bytes in a row is one of each
pub run-nth : (test : Addressed → Bool) (f : ℕ → ByteName) (first n i : ℕ) → list_all test (map WholeByte (map f (numbers_from first n))) ≡ true → first ≤ i
    → i < first + n → test (WholeByte (f i)) ≡ true
unfolding numbers_from
run-nth test f first zero i t l u = absurd (omega (arith, l, u))
run-nth test f first (suc n) i t l u =
    let p = and_parts (test (WholeByte (f first))) (list_all test (map WholeByte (map f (numbers_from (first + 1) n)))) t in
    elim (cases_Bool (first == i)) [
      | inl e ↦ let same = eqb-true first i e in subst (λ k. test (WholeByte (f k)) ≡ true) same (p.0)
      | inr e ↦ run-nth test f (first + 1) n i (p.1) (above first i l e) (omega (arith, u))
    ]
  where
    above : (a b : ℕ) → a ≤ b → (a == b) ≡ false → a + 1 ≤ b
    above a b h e = let ne = eqb-false a b e in omega (arith, h, ne)

pub run-all : (test : Addressed → Bool) (f : ℕ → ByteName) (first n : ℕ) → ((i : ℕ) → first ≤ i → i < first + n → test (WholeByte (f i)) ≡ true)
    → list_all test (map WholeByte (map f (numbers_from first n))) ≡ true
unfolding numbers_from
run-all test f first zero h = refl
run-all test f first (suc n) h =
    and_from (test (WholeByte (f first))) _ (h first (omega arith) (omega arith))
    (run-all test f (first + 1) n (λ i l u. h i (omega (arith, l)) (omega (arith, u))))

-- the part of a byte may be written exactly where the symbols that stand there may
part-from : (net : List ℕ) (ports : List PlantPort) (p : PlantPort) (area : Area) (i : ℕ) → IsSoundPort ports p → MayWriteSymbolsAt net p area i 1
    → is_writable_part net p (name_at p area i).part ≡ true
part-from net ports p area i sound h =
    let named = tiles_give_names p area i sound.bytes in
    elim (cases_Bool (is_covered p area i)) [
      | inr c ↦ ap (λ (n : ByteName). is_writable_part net p n.part) (named.gap c)
      | inl c ↦
          let d = covered_by area i p.symbols c in
          let own = each-get (IsSoundSymbol p) p.symbols d.place d.symbol sound.symbols d.there in
          ap (λ (n : ByteName). is_writable_part net p n.part) (named.symbol d.place d.symbol d.there d.stands)
          ∙ ap (is_writable_symbol net) own.found ∙ h d.place d.symbol i d.there (omega arith) (omega arith) d.stands
    ]

part-true : (net : List ℕ) (ports : List PlantPort) (p : PlantPort) (area : Area) (i n : ℕ) (s : PlantSymbol) → IsSoundPort ports p
    → slice_get p.symbols n ≡ Some s → covers area i s ≡ true → is_writable_part net p (name_at p area i).part ≡ true
    → is_writable_symbol net (Some s) ≡ true
part-true net ports p area i n s sound g c t =
    let named = (tiles_give_names p area i sound.bytes).symbol n s g c in
    let own = each-get (IsSoundSymbol p) p.symbols n s sound.symbols g in
    sym (ap (λ (x : ByteName). is_writable_part net p x.part) named ∙ ap (is_writable_symbol net) own.found) ∙ t

narrowed : (net : List ℕ) (p : PlantPort) (area : Area) (offset len i : ℕ) → offset ≤ i → i < offset + len → MayWriteSymbolsAt net p area offset len
    → MayWriteSymbolsAt net p area i 1
narrowed net p area offset len i l u h n s k g a b c = h n s k g (omega (arith, l, a)) (omega (arith, u, b)) c

pub writes_by_symbols : WritesBySymbols
unfolding names_at
writes_by_symbols net ports p area offset sound =
    let test : Addressed → Bool = λ a. is_writable_part net p (addressed_name a).part in
    record {
      bytes = λ len. (
        λ t n s i g l u c. part-true net ports p area i n s sound g c (run-nth test (name_at p area) offset len i t l u),
        λ h. run-all test (name_at p area) offset len (λ i l u. part-from net ports p area i sound (narrowed net p area offset len i l u h)),
      );
      bit = λ k. (
        λ t n s i g l u c.
            let same : offset ≡ i = omega (arith, l, u) in
            part-true net ports p area i n s sound g c (ap (λ j. is_writable_part net p (name_at p area j).part) (sym same)
            ∙ (and_parts (is_writable_part net p (name_at p area offset).part) true t).0),
        λ h. and_from (is_writable_part net p (name_at p area offset).part) true (part-from net ports p area offset sound h) refl,
      );
    }

all_of_symbol : (net : List ℕ) (p : PlantPort) (port : ℕ) (name : List ℕ) (b : Bool) → is_writable_part net p (SymbolPart name) ≡ b → (n first : ℕ) → 0 < n
    → list_all (λ a. is_writable_part net p (addressed_name a).part)
    (map WholeByte (map (λ k. record { port = port; part = SymbolPart name; index = k }) (numbers_from first n))) ≡ b
unfolding numbers_from
all_of_symbol net p port name b e zero first h = absurd (omega (arith, h))
all_of_symbol net p port name false e (suc n) first h =
    ap (λ x. x && list_all (λ a. is_writable_part net p (addressed_name a).part)
    (map WholeByte (map (λ k. record { port = port; part = SymbolPart name; index = k }) (numbers_from (first + 1) n)))) e
all_of_symbol net p port name true e (suc n) first h = and_from (is_writable_part net p (SymbolPart name)) _ e (rest n (first + 1))
  where
    rest : (m k : ℕ)
        → list_all (λ a. is_writable_part net p (addressed_name a).part)
        (map WholeByte (map (λ i. record { port = port; part = SymbolPart name; index = i }) (numbers_from k m))) ≡ true
    rest m k = run-all (λ a. is_writable_part net p (addressed_name a).part) (λ i. record { port = port; part = SymbolPart name; index = i }) k m (λ i l u. e)

pub writes_in_symbol : WritesInSymbol
writes_in_symbol net ports p n s first len sound g h =
    let own = each-get (IsSoundSymbol p) p.symbols n s sound.symbols g in
    all_of_symbol net p p.number (lower_name s) (is_writable_symbol net (Some s)) (ap (is_writable_symbol net) own.found) len first h
