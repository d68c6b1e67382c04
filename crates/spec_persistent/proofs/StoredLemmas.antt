-- An accepted description may begin as it is, and with stored bytes.
use Rattle.std.proofs.Common.{◌≡◌, ℕ, List, [], ◌∷◌, map, length, Bool, true, false, refl, sym, ◌∙◌, ap, subst, inl, inr}
use Rattle.std.specs.Prelude.{Option, Some, None, find, if◌then◌else◌, ◌==◌}
use Rattle.std.specs.List.{AllZip}
use Rattle.std.proofs.lemmas.Bool.{cases_Bool, and_parts, eqb-true, false≢true}
use Rattle.spec_plant.specs.Listed.{NamedType}
use Rattle.spec_plant.specs.Description.{Symbol, Port}
use Rattle.spec_plant.specs.Trees.{tree_of}
use Rattle.spec_plant.specs.Sizes.{type_size}
use Rattle.spec_plant.specs.World.{PlantPort, plant_symbol, plant_port, plant_of}
use Rattle.spec_plant.specs.Sound.{Each, IsSoundSymbol, IsSoundPort}
use Rattle.spec_plant.proofs.SoundLemmas.{accepted_are_sound}
use Rattle.spec_store.specs.BodyText.{StoredEntry}
use Rattle.spec_persistent.specs.Stored.{is_stored_for, with_initial, symbol_with_stored, port_with_stored}
use Rattle.spec_persistent.specs.Otherwise.{SymbolBeginsOtherwise, PortBeginsOtherwise}
use Rattle.spec_persistent.specs.Laws.{AcceptedMayBegin, StoredMayBegin}

-- what is found passes the test
find-passes : {X : Type 0} (test : X → Bool) (xs : List X) (x : X) → find test xs ≡ Some x → test x ≡ true
find-passes test [] x e = cc
find-passes test (y ∷ ys) x e =
    elim (cases_Bool (test y)) [
      | inl t ↦ let found : Some y ≡ Some x = rw t at e in let same : y ≡ x = cc in ap test (sym same) ∙ t
      | inr f ↦ let behind : find test ys ≡ Some x = rw f at e in find-passes test ys x behind
    ]

itself : {X : Type 0} (P : X → X → Type 0) → ((x : X) → P x x) → (xs : List X) → AllZip P xs xs
itself P own [] = tt
itself P own (x ∷ xs) = (own x, itself P own xs)

symbol-itself : (s : Symbol) → SymbolBeginsOtherwise s s
symbol-itself s = record { bytes = s.initial; same = refl; as_long = refl; not_persistent = λ e. refl }

port-itself : (p : Port) → PortBeginsOtherwise p p
port-itself p = record { symbols = p.symbols; same = refl; each = itself SymbolBeginsOtherwise symbol-itself p.symbols }

pub accepted_may_begin : AcceptedMayBegin
accepted_may_begin d signals a =
    record { first = d; accepted = a; otherwise = record { ports = d.ports; same = refl; each = itself PortBeginsOtherwise port-itself d.ports } }

-- an entry that is of a symbol has as many bytes
stored-long : (types : List NamedType) (port : ℕ) (s : Symbol) (e : StoredEntry) → is_stored_for types port s e ≡ true
    → length e.bytes ≡ type_size (tree_of types s.shape)
stored-long types port s e t =
    eqb-true (length e.bytes) (type_size (tree_of types s.shape)) ((and_parts _ (length e.bytes == type_size (tree_of types s.shape)) t).1)

with_found : (types : List NamedType) (port : ℕ) (entries : List StoredEntry) (s : Symbol) → s.persistent ≡ true
    → length s.initial ≡ type_size (tree_of types s.shape)
    → (o : Option StoredEntry) → find (is_stored_for types port s) entries ≡ o → SymbolBeginsOtherwise s (with_initial s o)
with_found types port entries s p long None e = symbol-itself s
with_found types port entries s p long (Some x) e = record {
  bytes = x.bytes;
  same = refl;
  as_long = stored-long types port s x (find-passes (is_stored_for types port s) entries x e) ∙ sym long;
  not_persistent = λ n. absurd (false≢true (sym n ∙ p));
}

symbol-stored : (types : List NamedType) (port : ℕ) (entries : List StoredEntry) (s : Symbol) → length s.initial ≡ type_size (tree_of types s.shape)
    → SymbolBeginsOtherwise s (symbol_with_stored entries types port s)
symbol-stored types port entries s long =
    let found = find (is_stored_for types port s) entries in
    let P : Bool → Type 0 = λ b. SymbolBeginsOtherwise s (if b then with_initial s found else s) in
    elim (cases_Bool s.persistent) [
      | inl t ↦ subst P (sym t) (with_found types port entries s t long found refl)
      | inr f ↦ subst P (sym f) (symbol-itself s)
    ]

symbols-stored : (types : List NamedType) (port : ℕ) (entries : List StoredEntry) (p : PlantPort) (ss : List Symbol)
    → Each (IsSoundSymbol p) (map (plant_symbol types) ss)
    → AllZip SymbolBeginsOtherwise ss (map (symbol_with_stored entries types port) ss)
symbols-stored types port entries p [] sound = tt
symbols-stored types port entries p (s ∷ ss) sound =
    (symbol-stored types port entries s (sound.0).initial, symbols-stored types port entries p ss (sound.1))

ports-stored : (types : List NamedType) (entries : List StoredEntry) (all : List PlantPort) (ps : List Port)
    → Each (IsSoundPort all) (map (plant_port types) ps) → AllZip PortBeginsOtherwise ps (map (port_with_stored entries types) ps)
ports-stored types entries all [] sound = tt
ports-stored types entries all (p ∷ ps) sound = (
  record {
    symbols = map (symbol_with_stored entries types p.number) p.symbols;
    same = refl;
    each = symbols-stored types p.number entries (plant_port types p) p.symbols (sound.0).symbols;
  },
  ports-stored types entries all ps (sound.1),
)

pub stored_may_begin : StoredMayBegin
stored_may_begin entries d signals a = record {
  first = d;
  accepted = a;
  otherwise = record {
    ports = map (port_with_stored entries d.types) d.ports;
    same = refl;
    each = ports-stored d.types entries (plant_of d).ports d.ports (accepted_are_sound d signals a);
  };
}
