-- Each symbol that is kept has an entry, and each entry is that of a kept symbol.
use Rattle.std.proofs.Common.{◌≡◌, ℕ, zero, suc, ◌+◌, List, [], ◌∷◌, ◌++◌, length, true, refl, sym, ◌∙◌, ap, subst, inl, inr, arith}
use Rattle.std.specs.Prelude.{Bool, Option, Some, None, IsSome, slice_get, find, All, ◌==◌}
use Rattle.std.proofs.lemmas.Bool.{cases_Bool, and_from, eq-eqb, false≢true}
use Rattle.spec_plant.specs.Listed.{NamedType}
use Rattle.spec_plant.specs.Trees.{tree_of}
use Rattle.spec_plant.specs.World.{PlantPort, PlantSymbol, SymbolPart, lower_name}
use Rattle.spec_plant.specs.SameTypes.{is_same_type}
use Rattle.spec_plant.specs.Named.{port_numbered, symbol_named}
use Rattle.spec_plant.specs.Sound.{Each, IsSoundSymbol}
use Rattle.spec_plant.proofs.SoundLemmas.{each-get}
use Rattle.spec_machine.specs.World.{World}
use Rattle.spec_machine.specs.Reloads.{is_kept_symbol, is_kept}
use Rattle.spec_machine.specs.NumberedPlaces.{KeptSymbol, IsEntryOf, is_entry_of_symbol, entry_of_symbol, AreKeptSymbols}
use Rattle.spec_machine.proofs.Reloaded.{part-kept}
use Rattle.symbol_table.specs.Tables.{TableSymbol}
use Rattle.spec_plant.specs.AcceptedTypes.{AreTypes}
use Rattle.type_layout.specs.SameShapes.{ArePartners}
use Rattle.port_device.specs.Reloaded.{AreCompared}
use Rattle.port_device.specs.PortMemory.{PortMemory, PortsMemory, memory_numbered}
use Rattle.port_device.specs.Holds.{HoldsPort, HoldEach, HoldsPorts}
use Rattle.port_device.specs.Moved.{whole_symbol, entry_of, with_entry, entries_from, entries_of, entries_between, HasTypes}
use Rattle.port_device.proofs.PortsLemmas.{same_number}
use Rattle.port_device.proofs.EntryLemmas.{entry-some}
use Rattle.port_device.proofs.MovedEntries.{IsEntryFrom, entries-are, each-map, each-append}
use Rattle.port_device.proofs.KeptLemmas.{table-symbol, named-number, entry-of_plants, memory-number, held-as, HasMemory, has-memory, held-types}

-- each entry

each_of_port : (w v : World) (new : PortsMemory) (p : PlantPort) (m : PortMemory) → HoldsPorts v new → HoldsPort w p m
    → Each (IsEntryOf w.plant v.plant) (entries_of m (memory_numbered m.number new.ports))
each_of_port w v new p m k h = by_port (memory_numbered m.number new.ports) refl
  where
    by_port : (o : Option PortMemory) → memory_numbered m.number new.ports ≡ o → Each (IsEntryOf w.plant v.plant) (entries_of m o)
    by_port None e = tt
    by_port (Some now) e =
        let held = held-as v new m.number now k e in
        let found = ap (λ n. port_numbered n w.plant.ports) (same_number w p m h) ∙ h.sound.found in
        each-map (IsEntryFrom m.types now m.number 0 m.table.symbols) (IsEntryOf w.plant v.plant) (λ x from_.
        entry-of_plants w v p held.port m now x h held.holds found held.found from_) (entries_from m.types now m.number 0 m.table.symbols)
        (entries-are m.types now m.number 0 m.table.symbols)

each_between : (w v : World) (new : PortsMemory) (ps : List PlantPort) (ms : List PortMemory) → HoldsPorts v new → HoldEach w ps ms
    → Each (IsEntryOf w.plant v.plant) (entries_between ms new.ports)
each_between w v new [] [] k h = tt
each_between w v new [] (m ∷ ms) k h = absurd h
each_between w v new (p ∷ ps) [] k h = absurd h
each_between w v new (p ∷ ps) (m ∷ ms) k h =
    each-append (IsEntryOf w.plant v.plant) (entries_of m (memory_numbered m.number new.ports)) (entries_between ms new.ports)
    (each_of_port w v new p m k (h.0)) (each_between w v new ps ms k (h.1))

-- the entry of a symbol is found

found-left : {X : Type 0} (test : X → Bool) (xs ys : List X) → IsSome (find test xs) → IsSome (find test (xs ++ ys))
found-left test [] ys h = absurd (false≢true h)
found-left test (x ∷ xs) ys h =
    elim (cases_Bool (test x)) [
      | inl t ↦ rw t refl
      | inr t ↦ rw t (found-left test xs ys (rw t at h))
    ]

found-right : {X : Type 0} (test : X → Bool) (xs ys : List X) → IsSome (find test ys) → IsSome (find test (xs ++ ys))
found-right test [] ys h = h
found-right test (x ∷ xs) ys h =
    elim (cases_Bool (test x)) [
      | inl t ↦ rw t refl
      | inr t ↦ rw t (found-right test xs ys h)
    ]

entry-found : (before : List NamedType) (now : PortMemory) (port n i : ℕ) (ss : List TableSymbol) (s : TableSymbol) (e : KeptSymbol) (test : KeptSymbol → Bool)
    → slice_get ss i ≡ Some s → entry_of before now port (n + i) s ≡ Some e → test e ≡ true → IsSome (find test (entries_from before now port n ss))
entry-found before now port n i [] s e test g f t = cc
entry-found before now port n zero (x ∷ ss) s e test g f t =
    let same : x ≡ s = cc in
    let number : n + 0 ≡ n = omega arith in
    let here : entry_of before now port n x ≡ Some e = ap (entry_of before now port n) same ∙ ap (λ k. entry_of before now port k s) (sym number) ∙ f in
    let P : Option KeptSymbol → Type 0 = λ o. IsSome (find test (with_entry o (entries_from before now port (n + 1) ss))) in
    let head : IsSome (find test (e ∷ entries_from before now port (n + 1) ss)) = rw t refl in
    subst P (sym here) head
entry-found before now port n (suc i) (x ∷ ss) s e test g f t =
    let number : (n + 1) + i ≡ n + suc i = omega arith in
    behind (entry_of before now port n x)
    (entry-found before now port (n + 1) i ss s e test g (ap (λ k. entry_of before now port k s) number ∙ f) t)
  where
    behind : (o : Option KeptSymbol) → IsSome (find test (entries_from before now port (n + 1) ss))
        → IsSome (find test (with_entry o (entries_from before now port (n + 1) ss)))
    behind None h = h
    behind (Some y) h = found-right test (y ∷ []) (entries_from before now port (n + 1) ss) h

port-found : (k : ℕ) (ms new : List PortMemory) (m : PortMemory) (test : KeptSymbol → Bool) → memory_numbered k ms ≡ Some m
    → IsSome (find test (entries_of m (memory_numbered m.number new))) → IsSome (find test (entries_between ms new))
port-found k [] new m test e h = cc
port-found k (x ∷ ms) new m test e h =
    elim (cases_Bool (x.number == k)) [
      | inl t ↦
          let f : Some x ≡ Some m = rw t at e in
          let same : x ≡ m = cc in
          let P : PortMemory → Type 0 = λ y. IsSome (find test (entries_of y (memory_numbered y.number new))) in
          found-left test (entries_of x (memory_numbered x.number new)) (entries_between ms new) (subst P (sym same) h)
      | inr t ↦
          let f : memory_numbered k ms ≡ Some m = rw t at e in
          found-right test (entries_of x (memory_numbered x.number new)) (entries_between ms new) (port-found k ms new m test f h)
    ]

-- a kept symbol of a port that is in both
symbol_kept : (w v : World) (old new : PortsMemory) (port n : ℕ) (p q : PlantPort) (m now : PortMemory) (x y : PlantSymbol)
    → HoldsPort w p m → HoldsPort v q now
    → memory_numbered port old.ports ≡ Some m → memory_numbered port new.ports ≡ Some now → slice_get p.symbols n ≡ Some x
    → symbol_named (lower_name x) q.symbols ≡ Some y → is_same_type x.type y.type ≡ true
    → IsSome (entry_of_symbol (entries_between old.ports new.ports) port n)
symbol_kept w v old new port n p q m now x y h k found found_now there named same =
    let s = table-symbol w p m n x h there in
    let number = memory-number port old.ports m found in
    let t = named-number v q now (s.symbol).name y k (ap (λ name. symbol_named name q.symbols) (sym s.is.name) ∙ named) in
    let type = ap (λ a. is_same_type a (tree_of now.types (t.symbol).shape)) (sym s.is.type) ∙ ap (is_same_type x.type) (sym t.is.type) ∙ same in
    let entry = entry-some m.types now m.number n s.symbol t.number t.symbol true t.called t.there type in
    let place : 0 + n ≡ n = omega arith in
    let e : KeptSymbol = record { port = m.number; before = whole_symbol n s.symbol; after = whole_symbol t.number t.symbol } in
    let mine : is_entry_of_symbol port n e ≡ true = and_from (m.number == port) (n == n) (eq-eqb m.number port number) (eq-eqb n n refl) in
    let own : IsSome (find (is_entry_of_symbol port n) (entries_from m.types now m.number 0 m.table.symbols))
    = entry-found m.types now m.number 0 n m.table.symbols s.symbol e (is_entry_of_symbol port n) s.there
    (ap (λ i. entry_of m.types now m.number i s.symbol) place ∙ entry) mine in
    let P : Option PortMemory → Type 0 = λ o. IsSome (find (is_entry_of_symbol port n) (entries_of m o)) in
    let there_now : memory_numbered m.number new.ports ≡ Some now = ap (λ i. memory_numbered i new.ports) number ∙ found_now in
    port-found port old.ports new.ports m (is_entry_of_symbol port n) found (subst P (sym there_now) own)

kept_in : (w v : World) (old new : PortsMemory) (port n : ℕ) (p : PlantPort) (x : PlantSymbol) → HoldsPorts w old → HoldsPorts v new
    → port_numbered port w.plant.ports ≡ Some p → slice_get p.symbols n ≡ Some x
    → is_kept w.plant v.plant port (SymbolPart (lower_name x)) ≡ true
    → IsSome (entry_of_symbol (entries_between old.ports new.ports) port n)
kept_in w v old new port n p x h k found there kept = by_port (port_numbered port v.plant.ports) refl
  where
    was : HasMemory w old.ports port p
    was = has-memory w old port p h found

    own : symbol_named (lower_name x) p.symbols ≡ Some x
    own = (each-get (IsSoundSymbol p) p.symbols n x was.holds.sound.symbols there).found

    by_symbol : (q : PlantPort) → port_numbered port v.plant.ports ≡ Some q → (o : Option PlantSymbol) → symbol_named (lower_name x) q.symbols ≡ o
        → is_kept_symbol (Some x) o ≡ true → IsSome (entry_of_symbol (entries_between old.ports new.ports) port n)
    by_symbol q f None named same = absurd (false≢true same)
    by_symbol q f (Some y) named same =
        let now = has-memory v new port q k f in
        symbol_kept w v old new port n p q was.memory now.memory x y was.holds now.holds was.found now.found there named same

    by_port : (o : Option PlantPort) → port_numbered port v.plant.ports ≡ o → IsSome (entry_of_symbol (entries_between old.ports new.ports) port n)
    by_port None f =
        absurd (false≢true (sym (part-kept w.plant v.plant port (SymbolPart (lower_name x)) (Some p) None found f) ∙ kept))
    by_port (Some q) f =
        let both = sym (part-kept w.plant v.plant port (SymbolPart (lower_name x)) (Some p) (Some q) found f) ∙ kept in
        by_symbol q f (symbol_named (lower_name x) q.symbols) refl
        (ap (λ o. is_kept_symbol o (symbol_named (lower_name x) q.symbols)) (sym own) ∙ both)

pub entries-are_kept : (w v : World) (old new : PortsMemory) → HoldsPorts w old → HoldsPorts v new
    → AreKeptSymbols w.plant v.plant (entries_between old.ports new.ports)
entries-are_kept w v old new h k = record {
  each = each_between w v new w.plant.ports old.ports k h.each;
  all = λ port p n x found there kept. kept_in w v old new port n p x h k found there kept;
}

-- what was compared is told of the ports of two worlds
pub entries-told : (w v : World) (old new : PortsMemory) (same : List (Option ℕ)) (ms : List PortMemory) (kept : List KeptSymbol)
    → AreTypes old.types → AreTypes new.types → ArePartners old.types new.types (length old.types) same → ms ≡ old.ports
    → ((before types : List NamedType) → AreCompared before types same → All (HasTypes before) ms → All (HasTypes types) new.ports
    → kept ≡ entries_between ms new.ports)
    → HoldsPorts w old → HoldsPorts v new → kept ≡ entries_between old.ports new.ports
entries-told w v old new same ms kept a b partners is told h k =
    let P : List PortMemory → Type 0 = λ xs. (before types : List NamedType) → AreCompared before types same → All (HasTypes before) xs
    → All (HasTypes types) new.ports → kept ≡ entries_between xs new.ports in
    let compared : AreCompared old.types new.types same = record { old_types = a; new_types = b; partners = partners } in
    let Q : List NamedType → Type 0 = λ types. All (HasTypes types) old.ports in
    let R : List NamedType → Type 0 = λ types. All (HasTypes types) new.ports in
    subst P is told old.types new.types compared (subst Q (sym h.types) (held-types w w.plant.ports old.ports h.each))
    (subst R (sym k.types) (held-types v v.plant.ports new.ports k.each))
