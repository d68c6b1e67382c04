-- The entries of symbols that a reload keeps: what each is, and that no symbol and no byte is in two.
use Rattle.std.proofs.Common.{◌≡◌, ◌≢◌, ◌⊎◌, ℕ, suc, ◌+◌, ◌<◌, ◌≤◌, List, [], ◌∷◌, ◌++◌, true, false, refl, sym, ◌∙◌, ap, subst, inl, inr, arith}
use Rattle.std.specs.Prelude.{Bool, Option, Some, None, slice_get, ◌||◌, nat_le, All, AllPairs}
use Rattle.std.specs.List.{list_all}
use Rattle.std.proofs.lemmas.Bool.{cases_Bool, and_parts, leb-true}
use Rattle.std.proofs.lemmas.List.Elements.{All-nil, All-cons}
use Rattle.std.proofs.lemmas.List.Kept.{AllPairs-cons}
use Rattle.spec_plant.specs.Listed.{NamedType}
use Rattle.spec_plant.specs.World.{is_same_area}
use Rattle.spec_plant.specs.AcceptedTypes.{all_pairs}
use Rattle.spec_plant.specs.Sound.{Each}
use Rattle.spec_plant.proofs.BlockLemmas.{same_area-refl}
use Rattle.spec_plant.proofs.TypeLemmas.{list_all-get}
use Rattle.spec_machine.specs.NumberedPlaces.{NumberedPlace, KeptSymbol}
use Rattle.symbol_table.specs.Tables.{TableSymbol, number_called}
use Rattle.symbol_table.specs.PlaceOrders.{lie_apart}
use Rattle.symbol_table.specs.Moves.{IsSameSymbol, Overlap, IsKeptPlace, AreKept}
use Rattle.symbol_table.specs.declared.kept.KeptPlace.{KeptPlace}
use Rattle.type_layout.specs.Descriptions.{area_of}
use Rattle.port_device.specs.KeptSymbols.{kept_symbol_of, kept_symbols_of}
use Rattle.port_device.specs.PortMemory.{PortMemory, memory_numbered}
use Rattle.port_device.specs.Reloaded.{are_of_one_type}
use Rattle.port_device.specs.Moved.{whole_symbol, entry_with, entry_at, entry_of, with_entry, entries_from, entries_of, entries_between}

-- lists of which each has a property

pub each-map : {X : Type 0} (P Q : X → Type 0) → ((x : X) → P x → Q x) → (xs : List X) → Each P xs → Each Q xs
each-map P Q f [] e = tt
each-map P Q f (x ∷ xs) e = (f x (e.0), each-map P Q f xs (e.1))

pub each-append : {X : Type 0} (P : X → Type 0) (xs ys : List X) → Each P xs → Each P ys → Each P (xs ++ ys)
each-append P [] ys e f = f
each-append P (x ∷ xs) ys e f = (e.0, each-append P xs ys (e.1) f)

-- the entry of one symbol

pub record IsEntry (before : List NamedType) (now : PortMemory) (port n : ℕ) (s : TableSymbol) (e : KeptSymbol) : Type 0 where
  pub number : ℕ
  pub twin : TableSymbol
  pub called : number_called s.name now.table.symbols ≡ Some number
  pub there : slice_get now.table.symbols number ≡ Some twin
  pub one_type : are_of_one_type before now.types s twin ≡ true
  pub is : e ≡ record { port = port; before = whole_symbol n s; after = whole_symbol number twin }

pub entry-is : (before : List NamedType) (now : PortMemory) (port n : ℕ) (s : TableSymbol) (e : KeptSymbol) → entry_of before now port n s ≡ Some e
    → IsEntry before now port n s e
entry-is before now port n s e h = by_number (number_called s.name now.table.symbols) refl h
  where
    by_symbol : (k : ℕ) (o : Option TableSymbol) → number_called s.name now.table.symbols ≡ Some k → slice_get now.table.symbols k ≡ o
        → entry_with before now port n s k o ≡ Some e → IsEntry before now port n s e
    by_symbol k None c t f = cc
    by_symbol k (Some x) c t f =
        elim (cases_Bool (are_of_one_type before now.types s x)) [
          | inl same ↦
              let g : Some (record { port = port; before = whole_symbol n s; after = whole_symbol k x }) ≡ Some e = rw same at f in
              let is_it : e ≡ record { port = port; before = whole_symbol n s; after = whole_symbol k x } = cc in
              record { number = k; twin = x; called = c; there = t; one_type = same; is = is_it }
          | inr other ↦ let g : None ≡ Some e = rw other at f in cc
        ]

    by_number : (o : Option ℕ) → number_called s.name now.table.symbols ≡ o → entry_at before now port n s o ≡ Some e → IsEntry before now port n s e
    by_number None c f = cc
    by_number (Some k) c f = by_symbol k (slice_get now.table.symbols k) c refl f

-- the entry of one of these symbols, of which the first has this number
pub record IsEntryFrom (before : List NamedType) (now : PortMemory) (port n : ℕ) (ss : List TableSymbol) (e : KeptSymbol) : Type 0 where
  pub place : ℕ
  pub symbol : TableSymbol
  pub symbol_there : slice_get ss place ≡ Some symbol
  pub entry : IsEntry before now port (n + place) symbol e

behind_first : (before : List NamedType) (now : PortMemory) (port n : ℕ) (s : TableSymbol) (ss : List TableSymbol) (e : KeptSymbol)
    → IsEntryFrom before now port (n + 1) ss e → IsEntryFrom before now port n (s ∷ ss) e
behind_first before now port n s ss e from_ =
    let number : (n + 1) + from_.place ≡ n + suc from_.place = omega arith in
    record {
      place = suc from_.place;
      symbol = from_.symbol;
      symbol_there = from_.symbol_there;
      entry = subst (λ k. IsEntry before now port k from_.symbol e) number from_.entry;
    }

pub entries-are : (before : List NamedType) (now : PortMemory) (port n : ℕ) (ss : List TableSymbol)
    → Each (IsEntryFrom before now port n ss) (entries_from before now port n ss)
entries-are before now port n [] = tt
entries-are before now port n (s ∷ ss) =
    first (entry_of before now port n s) refl (each-map (IsEntryFrom before now port (n + 1) ss) (IsEntryFrom before now port n (s ∷ ss))
    (behind_first before now port n s ss) (entries_from before now port (n + 1) ss) (entries-are before now port (n + 1) ss))
  where
    first : (o : Option KeptSymbol) → entry_of before now port n s ≡ o
        → Each (IsEntryFrom before now port n (s ∷ ss)) (entries_from before now port (n + 1) ss)
        → Each (IsEntryFrom before now port n (s ∷ ss)) (with_entry o (entries_from before now port (n + 1) ss))
    first None e rest = rest
    first (Some x) e rest =
        let number : n ≡ n + 0 = omega arith in (
          record {
            place = 0;
            symbol = s;
            symbol_there = refl;
            entry = subst (λ k. IsEntry before now port k s x) number (entry-is before now port n s x e);
          },
          rest,
        )

-- no symbol and no byte of the old ports is in two

pub record LiesAt (p : NumberedPlace) (byte : ℕ) : Type 0 where
  pub begins : p.first ≤ byte
  pub ends : byte < p.first + p.len

pub record ShareNothing (e f : KeptSymbol) : Type 0 where
  pub symbols : e.port ≡ f.port → e.before.symbol ≡ f.before.symbol → ⊥
  pub bytes : e.port ≡ f.port → e.before.area ≡ f.before.area → (byte : ℕ) → LiesAt e.before byte → LiesAt f.before byte → ⊥

abbrev pub ShareNothingInPairs : List KeptSymbol → Type 0
ShareNothingInPairs [] = Unit {0}
ShareNothingInPairs (e ∷ es) = Each (ShareNothing e) es × ShareNothingInPairs es

pairs-append : (xs ys : List KeptSymbol) → ShareNothingInPairs xs → ShareNothingInPairs ys → Each (λ x. Each (ShareNothing x) ys) xs
    → ShareNothingInPairs (xs ++ ys)
pairs-append [] ys p q r = q
pairs-append (x ∷ xs) ys p q r = (each-append (ShareNothing x) xs ys (p.0) (r.0), pairs-append xs ys (p.1) q (r.1))

one_of : (x y : Bool) → (false || x || y) ≡ true → (x ≡ true) ⊎ (y ≡ true)
one_of true y q = inl refl
one_of false y q = inr q

bytes_apart : (s t : TableSymbol) (byte : ℕ) → lie_apart s t ≡ true → s.area ≡ t.area → s.offset ≤ byte → byte < s.offset + s.size → t.offset ≤ byte
    → byte < t.offset + t.size → ⊥
bytes_apart s t byte apart area b1 e1 b2 e2 =
    let same : is_same_area s.area t.area ≡ true = ap (is_same_area s.area) (sym area) ∙ same_area-refl s.area in
    let told : (false || nat_le (s.offset + s.size) t.offset || nat_le (t.offset + t.size) s.offset) ≡ true = rw same at apart in
    elim (one_of (nat_le (s.offset + s.size) t.offset) (nat_le (t.offset + t.size) s.offset) told) [
      | inl l ↦ let m = leb-true (s.offset + s.size) t.offset l in omega (arith, m, e1, b2)
      | inr l ↦ let m = leb-true (t.offset + t.size) s.offset l in omega (arith, m, e2, b1)
    ]

-- an entry tells its symbol's place
pub before-is : (before : List NamedType) (now : PortMemory) (port n : ℕ) (s : TableSymbol) (e : KeptSymbol) → IsEntry before now port n s e
    → e.before ≡ whole_symbol n s
before-is before now port n s e i = ap (λ (x : KeptSymbol). x.before) i.is

two_entries : (before : List NamedType) (now : PortMemory) (port n : ℕ) (s : TableSymbol) (ss : List TableSymbol) (e f : KeptSymbol)
    → list_all (lie_apart s) ss ≡ true
    → IsEntry before now port n s e → IsEntryFrom before now port (n + 1) ss f → ShareNothing e f
two_entries before now port n s ss e f apart i j =
    let mine = before-is before now port n s e i in
    let other = before-is before now port ((n + 1) + j.place) j.symbol f j.entry in
    record {
      symbols = λ p q.
          let a = ap (λ (x : NumberedPlace). x.symbol) mine in
          let b = ap (λ (x : NumberedPlace). x.symbol) other in
          omega (arith, a, b, q);
      bytes = λ p q byte u v.
          let area = sym (ap (λ (x : NumberedPlace). x.area) mine) ∙ q ∙ ap (λ (x : NumberedPlace). x.area) other in
          let mine_at : LiesAt (whole_symbol n s) byte = subst (λ x. LiesAt x byte) mine u in
          let other_at : LiesAt (whole_symbol ((n + 1) + j.place) j.symbol) byte = subst (λ x. LiesAt x byte) other v in
          bytes_apart s j.symbol byte (list_all-get (lie_apart s) ss j.place j.symbol apart j.symbol_there) area mine_at.begins mine_at.ends other_at.begins
          other_at.ends;
    }

entries-apart : (before : List NamedType) (now : PortMemory) (port n : ℕ) (ss : List TableSymbol) → all_pairs lie_apart ss ≡ true
    → ShareNothingInPairs (entries_from before now port n ss)
entries-apart before now port n [] apart = tt
entries-apart before now port n (s ∷ ss) apart =
    let parts = and_parts (list_all (lie_apart s) ss) (all_pairs lie_apart ss) apart in
    first (entry_of before now port n s) refl (parts.0) (entries-apart before now port (n + 1) ss (parts.1))
  where
    first : (o : Option KeptSymbol) → entry_of before now port n s ≡ o → list_all (lie_apart s) ss ≡ true
        → ShareNothingInPairs (entries_from before now port (n + 1) ss)
        → ShareNothingInPairs (with_entry o (entries_from before now port (n + 1) ss))
    first None e a rest = rest
    first (Some x) e a rest = (
      each-map (IsEntryFrom before now port (n + 1) ss) (ShareNothing x) (λ f j. two_entries before now port n s ss x f a (entry-is before now port n s x e) j)
          (entries_from before now port (n + 1) ss)
          (entries-are before now port (n + 1) ss),
      rest,
    )

-- entries of one port, and of the ports behind it

port_entries : (m : PortMemory) (o : Option PortMemory) → Each (λ (e : KeptSymbol). e.port ≡ m.number) (entries_of m o)
port_entries m None = tt
port_entries m (Some now) =
    each-map (IsEntryFrom m.types now m.number 0 m.table.symbols) (λ (e : KeptSymbol). e.port ≡ m.number) (λ e j. ap (λ (x : KeptSymbol). x.port) j.entry.is)
    (entries_from m.types now m.number 0 m.table.symbols)
    (entries-are m.types now m.number 0 m.table.symbols)

-- no two of these ports have one number
abbrev pub HaveTwoNumbers : List PortMemory → Type 0
HaveTwoNumbers [] = Unit {0}
HaveTwoNumbers (m ∷ ms) = Each (λ (x : PortMemory). x.number ≢ m.number) ms × HaveTwoNumbers ms

-- no two symbols of a port share a byte
abbrev pub LieApart : PortMemory → Type 0
LieApart m = all_pairs lie_apart m.table.symbols ≡ true

others : (k : ℕ) (ms new : List PortMemory) → Each (λ (x : PortMemory). x.number ≢ k) ms → Each (λ (e : KeptSymbol). e.port ≢ k) (entries_between ms new)
others k [] new e = tt
others k (m ∷ ms) new e =
    each-append (λ (x : KeptSymbol). x.port ≢ k) (entries_of m (memory_numbered m.number new)) (entries_between ms new)
    (each-map (λ (x : KeptSymbol). x.port ≡ m.number) (λ (x : KeptSymbol). x.port ≢ k) (λ x same is. e.0 (sym same ∙ is))
    (entries_of m (memory_numbered m.number new)) (port_entries m (memory_numbered m.number new)))
    (others k ms new (e.1))

pub between-apart : (ms new : List PortMemory) → HaveTwoNumbers ms → Each LieApart ms → ShareNothingInPairs (entries_between ms new)
between-apart [] new numbers apart = tt
between-apart (m ∷ ms) new numbers apart =
    pairs-append (entries_of m (memory_numbered m.number new)) (entries_between ms new)
    (own (memory_numbered m.number new)) (between-apart ms new (numbers.1) (apart.1))
    (each-map (λ (x : KeptSymbol). x.port ≡ m.number) (λ x. Each (ShareNothing x) (entries_between ms new)) (λ x mine.
    each-map (λ (y : KeptSymbol). y.port ≢ m.number) (ShareNothing x) (λ y other. elsewhere x y mine other) (entries_between ms new)
    (others m.number ms new (numbers.0)))
    (entries_of m (memory_numbered m.number new)) (port_entries m (memory_numbered m.number new)))
  where
    own : (o : Option PortMemory) → ShareNothingInPairs (entries_of m o)
    own None = tt
    own (Some now) = entries-apart m.types now m.number 0 m.table.symbols (apart.0)

    elsewhere : (x y : KeptSymbol) → x.port ≡ m.number → y.port ≢ m.number → ShareNothing x y
    elsewhere x y mine other = record { symbols = λ p q. absurd (other (sym p ∙ mine)); bytes = λ p q byte u v. absurd (other (sym p ∙ mine)) }

-- as a list of moves asks it

pairs-of : (R : KeptPlace → KeptPlace → Type 0) → ((e f : KeptPlace) → ShareNothing (kept_symbol_of e) (kept_symbol_of f) → R e f) → (kept : List KeptPlace)
    → ShareNothingInPairs (kept_symbols_of kept) → AllPairs R kept
pairs-of R f [] p = λ i j d h k. absurd (omega (arith, h, k))
pairs-of R f (e ∷ kept) p = AllPairs-cons R e kept (each_of kept (p.0)) (pairs-of R f kept (p.1))
  where
    each_of : (xs : List KeptPlace) → Each (ShareNothing (kept_symbol_of e)) (kept_symbols_of xs) → All (R e) xs
    each_of [] q = All-nil (R e)
    each_of (x ∷ xs) q = All-cons (R e) x xs (f e x (q.0)) (each_of xs (q.1))

pub are-kept : (kept : List KeptPlace) → All IsKeptPlace kept → ShareNothingInPairs (kept_symbols_of kept) → AreKept kept
are-kept kept fit p = record {
  each = fit;
  symbols = pairs-of (λ e f. IsSameSymbol e f → ⊥) (λ e f s same. s.symbols (same.0) (same.1)) kept p;
  bytes = pairs-of (λ e f. Overlap e f → ⊥) (λ e f s both. s.bytes (both.0) (ap area_of (both.1)) (both.2) (at_ e (both.2) (both.3)) (at_ f (both.2) (both.4)))
      kept p;
}
  where
    at_ : (e : KeptPlace) (byte : ℕ) → (e.from.«at» ≤ byte) × (byte < e.from.«at» + e.from.len) → LiesAt (kept_symbol_of e).before byte
    at_ e byte h = record { begins = h.0; ends = h.1 }
