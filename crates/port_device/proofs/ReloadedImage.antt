-- What the symbols of a table put after a reload is the reloaded image of their port.
use Rattle.std.proofs.Common.{◌≡◌, ℕ, zero, suc, ◌+◌, ◌<◌, List, [], ◌∷◌, map, length, take, drop, true, false, refl, sym, ◌∙◌, ap, subst, inl, inr, arith}
use Rattle.std.specs.Prelude.{Bool, Option, Some, None, slice_get, option_map, find, bytes_eq, if◌then◌else◌}
use Rattle.std.proofs.lemmas.Bool.{cases_Bool}
use Rattle.name_paths.specs.Identifier.{lower}
use Rattle.spec_plant.specs.Listed.{NamedType}
use Rattle.spec_plant.specs.Description.{Symbol, Port}
use Rattle.spec_plant.specs.Trees.{tree_of}
use Rattle.spec_plant.specs.World.{PlantPort, PlantSymbol, plant_symbol, plant_port, symbol_size, lower_name}
use Rattle.spec_plant.specs.SameTypes.{is_same_type}
use Rattle.spec_plant.specs.Named.{symbol_named}
use Rattle.spec_plant.specs.Sound.{Each, IsSoundSymbol, IsSoundPort}
use Rattle.spec_plant.specs.Accepted.{image_size}
use Rattle.spec_plant.proofs.SameSizes.{same_type-size}
use Rattle.spec_plant.proofs.SoundLemmas.{symbol_sound}
use Rattle.spec_machine.specs.Reloads.{is_kept_symbol}
use Rattle.spec_machine.specs.PortBytes.{start_in, image_byte, image_bytes}
use Rattle.spec_machine.specs.PortLaws.{IsFirstImage, IsReloadedImage}
use Rattle.symbol_table.specs.Tables.{SymbolTable, table_symbol, IsTableOf}
use Rattle.port_device.specs.PortMemory.{PortMemory}
use Rattle.port_device.specs.PlacedBytes.{placed_symbol, with_all_bytes}
use Rattle.port_device.specs.Reloaded.{symbol_called, bytes_behind, reloaded_bytes}
use Rattle.port_device.proofs.PutLemmas.{dropped}
use Rattle.port_device.proofs.FilledLemmas.{placed, Fills, IsFilled, filled_over, placed-table}
use Rattle.port_device.proofs.ReloadLemmas.{length-image_bytes}

-- what a symbol of a plant begins with, where this was the one of its name

abbrev bytes_of_plant : PlantPort → List ℕ → PlantSymbol → Option PlantSymbol → List ℕ
bytes_of_plant was old t None = t.initial
bytes_of_plant was old t (Some s) = if is_same_type s.type t.type then image_bytes was.sizes old s.area s.offset (symbol_size s) else t.initial

abbrev plant_bytes : PlantPort → List ℕ → PlantSymbol → List ℕ
plant_bytes was old t = bytes_of_plant was old t (symbol_named (lower_name t) was.symbols)

-- a symbol is found by its name in the table, in the plant and in the description alike

abbrev pub has_name : List ℕ → Symbol → Bool
has_name name s = bytes_eq (lower s.name) (lower name)

pub called-map : (types : List NamedType) (name : List ℕ) (ss : List Symbol)
    → symbol_called name (map (table_symbol types) ss) ≡ option_map (table_symbol types) (find (has_name name) ss)
called-map types name [] = refl
called-map types name (s ∷ ss) =
    elim (cases_Bool (has_name name s)) [
      | inl t ↦ rw t refl
      | inr t ↦ rw t (called-map types name ss)
    ]

pub named-map : (types : List NamedType) (name : List ℕ) (ss : List Symbol)
    → symbol_named (lower name) (map (plant_symbol types) ss) ≡ option_map (plant_symbol types) (find (has_name name) ss)
named-map types name [] = refl
named-map types name (s ∷ ss) =
    elim (cases_Bool (has_name name s)) [
      | inl t ↦ rw t refl
      | inr t ↦ rw t (named-map types name ss)
    ]

-- the table and the plant tell the same bytes

same_behind : (types : List NamedType) (m : PortMemory) (was : Port) (s : Symbol) (o : Option Symbol) → m.table.sizes ≡ was.sizes
    → bytes_behind types m (table_symbol types s) (option_map (table_symbol m.types) o)
    ≡ bytes_of_plant (plant_port m.types was) m.bytes.image (plant_symbol types s) (option_map (plant_symbol m.types) o)
same_behind types m was s None sizes = refl
same_behind types m was s (Some x) sizes =
    ap (λ z. if is_same_type (tree_of m.types x.shape) (tree_of types s.shape)
    then image_bytes z m.bytes.image x.area x.offset (symbol_size (plant_symbol m.types x)) else s.initial) sizes

same_bytes_behind : (types : List NamedType) (m : PortMemory) (was : Port) → IsTableOf m.types was m.table → (s : Symbol)
    → reloaded_bytes types m (table_symbol types s) ≡ plant_bytes (plant_port m.types was) m.bytes.image (plant_symbol types s)
same_bytes_behind types m was is_of s =
    let symbols = ap (λ (t : SymbolTable). symbol_called s.name t.symbols) is_of.same ∙ called-map m.types s.name was.symbols in
    ap (bytes_behind types m (table_symbol types s)) symbols
    ∙ same_behind types m was s (find (has_name s.name) was.symbols) (ap (λ (t : SymbolTable). t.sizes) is_of.same)
    ∙ sym (ap (bytes_of_plant (plant_port m.types was) m.bytes.image (plant_symbol types s)) (named-map m.types s.name was.symbols))

-- each symbol begins with as many bytes as it has

fills_symbol : (ports : List PlantPort) (was p : PlantPort) (old : List ℕ) (t : PlantSymbol) (o : Option PlantSymbol) → IsSoundPort ports was
    → length old ≡ image_size was.sizes → IsSoundSymbol p t → symbol_named (lower_name t) was.symbols ≡ o
    → length (bytes_of_plant was old t o) ≡ symbol_size t
fills_symbol ports was p old t None sound long own e = own.initial
fills_symbol ports was p old t (Some s) sound long own e =
    elim (cases_Bool (is_same_type s.type t.type)) [
      | inr f ↦ ap (λ b. length (if b then image_bytes was.sizes old s.area s.offset (symbol_size s) else t.initial)) f ∙ own.initial
      | inl f ↦
          let within = (symbol_sound was was.symbols (lower_name t) s sound.symbols e).within in
          ap (λ b. length (if b then image_bytes was.sizes old s.area s.offset (symbol_size s) else t.initial)) f
          ∙ length-image_bytes was.sizes old s.area s.offset (symbol_size s) long within ∙ same_type-size s.type t.type f
    ]

fill_symbols : (ports : List PlantPort) (was p : PlantPort) (old : List ℕ) (ts : List PlantSymbol) → IsSoundPort ports was
    → length old ≡ image_size was.sizes → Each (IsSoundSymbol p) ts → Each (Fills (plant_bytes was old)) ts
fill_symbols ports was p old [] sound long own = tt
fill_symbols ports was p old (t ∷ ts) sound long own = (
  fills_symbol ports was p old t (symbol_named (lower_name t) was.symbols) sound long (own.0) refl,
  fill_symbols ports was p old ts sound long (own.1),
)

-- a byte of some of an area

taken : (xs : List ℕ) (len k : ℕ) → k < len → slice_get (take len xs) k ≡ slice_get xs k
taken [] zero k u = refl
taken [] (suc len) k u = refl
taken (x ∷ xs) zero k u = absurd (omega (arith, u))
taken (x ∷ xs) (suc len) zero u = refl
taken (x ∷ xs) (suc len) (suc k) u = taken xs len k (omega (arith, u))

kept_byte : (was : PlantPort) (old : List ℕ) (s : PlantSymbol) (k : ℕ) → k < symbol_size s
    → slice_get (image_bytes was.sizes old s.area s.offset (symbol_size s)) k ≡ image_byte was.sizes old s.area (s.offset + k)
kept_byte was old s k u =
    let at_ : ℕ = start_in was.sizes s.area + s.offset in
    let place : at_ + k ≡ start_in was.sizes s.area + (s.offset + k) = omega arith in
    taken (drop at_ old) (symbol_size s) k u ∙ dropped old at_ k ∙ ap (slice_get old) place

kept_bytes_are : (was : PlantPort) (old : List ℕ) (s t : PlantSymbol) → symbol_named (lower_name t) was.symbols ≡ Some s → is_same_type s.type t.type ≡ true
    → plant_bytes was old t ≡ image_bytes was.sizes old s.area s.offset (symbol_size s)
kept_bytes_are was old s t e f =
    ap (bytes_of_plant was old t) e ∙ ap (λ b. if b then image_bytes was.sizes old s.area s.offset (symbol_size s) else t.initial) f

first_bytes_are : (was : PlantPort) (old : List ℕ) (t : PlantSymbol) (o : Option PlantSymbol) → is_kept_symbol o (Some t) ≡ false
    → bytes_of_plant was old t o ≡ t.initial
first_bytes_are was old t None e = refl
first_bytes_are was old t (Some s) e = ap (λ b. if b then image_bytes was.sizes old s.area s.offset (symbol_size s) else t.initial) e

reloaded_plant : (before ports : List PlantPort) (was p : PlantPort) (old image : List ℕ) → IsSoundPort before was → IsSoundPort ports p
    → length old ≡ image_size was.sizes → IsFilled p (plant_bytes was old) image → IsReloadedImage was old p image
reloaded_plant before ports was p old image sound new long are = record {
  long = are.long;
  kept = λ n s t k g e f u.
      let size = same_type-size s.type t.type f in
      are.symbols n t k g u ∙ ap (λ xs. slice_get xs k) (kept_bytes_are was old s t e f) ∙ kept_byte was old s k (omega (arith, size, u));
  first = λ n t k g e u.
      are.symbols n t k g u ∙ ap (λ xs. slice_get xs k) (first_bytes_are was old t (symbol_named (lower_name t) was.symbols) e);
  gaps = are.gaps;
}

-- over a first image, as a table tells it
pub reloaded_image : (before ports : List PlantPort) (types : List NamedType) (was port : Port) (m : PortMemory) (table : SymbolTable) (image : List ℕ)
    → IsSoundPort before (plant_port m.types was) → IsSoundPort ports (plant_port types port)
    → IsTableOf m.types was m.table → IsTableOf types port table → length m.bytes.image ≡ image_size m.table.sizes → IsFirstImage (plant_port types port) image
    → IsReloadedImage (plant_port m.types was) m.bytes.image (plant_port types port)
    (with_all_bytes table.sizes image (map (placed_symbol (reloaded_bytes types m)) table.symbols))
reloaded_image before ports types was port m table image sound new is_of table_is long first =
    let p : PlantPort = plant_port types port in
    let f : PlantSymbol → List ℕ = plant_bytes (plant_port m.types was) m.bytes.image in
    let old_long = long ∙ ap (λ (t : SymbolTable). image_size t.sizes) is_of.same in
    let are = filled_over ports p f image new (fill_symbols before (plant_port m.types was) p m.bytes.image p.symbols sound old_long new.symbols)
    first.long first.gaps in
    let same : with_all_bytes p.sizes image (map (placed f) p.symbols)
    ≡ with_all_bytes table.sizes image (map (placed_symbol (reloaded_bytes types m)) table.symbols)
    = sym (ap (with_all_bytes port.sizes image) (placed-table types (reloaded_bytes types m) f port.symbols (same_bytes_behind types m was is_of)))
    ∙ sym (ap (λ (t : SymbolTable). with_all_bytes t.sizes image (map (placed_symbol (reloaded_bytes types m)) t.symbols)) table_is.same) in
    subst (IsReloadedImage (plant_port m.types was) m.bytes.image p) same
    (reloaded_plant before ports (plant_port m.types was) p m.bytes.image (with_all_bytes p.sizes image (map (placed f) p.symbols)) sound new old_long are)
