-- An image of zeros into which each symbol of a sound port put as many bytes as it has.
use Rattle.std.proofs.Common.{◌≡◌, ℕ, zero, suc, ◌+◌, ◌<◌, List, [], ◌∷◌, map, length, replicate, false, refl, sym, ◌∙◌, ap, arith}
use Rattle.std.specs.Prelude.{Some, slice_get, option_map}
use Rattle.std.specs.List.{list_any}
use Rattle.std.proofs.lemmas.Option.{slice_get-map}
use Rattle.spec_plant.specs.Listed.{NamedType}
use Rattle.spec_plant.specs.Description.{Area, Symbol, size_in}
use Rattle.spec_plant.specs.World.{PlantPort, PlantSymbol, plant_symbol, symbol_size}
use Rattle.spec_plant.specs.Accepted.{image_size}
use Rattle.spec_plant.specs.Covering.{covers, is_byte_of}
use Rattle.spec_plant.specs.Sound.{Each, IsSoundSymbol, IsSoundPort, HaveNoByteInCommon, AreApart}
use Rattle.spec_plant.proofs.SoundLemmas.{each-get}
use Rattle.spec_machine.specs.AreaNames.{is_covered}
use Rattle.spec_machine.specs.PortBytes.{start_in, image_byte}
use Rattle.spec_machine.proofs.ImageLemmas.{area_within}
use Rattle.symbol_table.specs.Tables.{TableSymbol, table_symbol}
use Rattle.port_device.specs.PlacedBytes.{PlacedBytes, placed_symbol, with_all_bytes, is_put_at, FitsArea, PutNoByteTwice, ArePutApart}
use Rattle.port_device.proofs.PutLemmas.{all_put}

-- bytes of a symbol, at its place
abbrev pub placed : (PlantSymbol → List ℕ) → PlantSymbol → PlacedBytes
placed f s = record { area = s.area; offset = s.offset; bytes = f s }

-- as many bytes as the symbol has
abbrev pub Fills : (PlantSymbol → List ℕ) → PlantSymbol → Type 0
Fills f s = length (f s) ≡ symbol_size s

-- each symbol has its bytes, and gaps are zeros
pub record IsFilled (p : PlantPort) (f : PlantSymbol → List ℕ) (image : List ℕ) : Type 0 where
  pub long : length image ≡ image_size p.sizes
  pub symbols : (n : ℕ) (s : PlantSymbol) (k : ℕ) → slice_get p.symbols n ≡ Some s → k < symbol_size s
      → image_byte p.sizes image s.area (s.offset + k) ≡ slice_get (f s) k
  pub gaps : (area : Area) (offset : ℕ) → offset < size_in p.sizes area → is_covered p area offset ≡ false
      → image_byte p.sizes image area offset ≡ Some 0

put-covers : (f : PlantSymbol → List ℕ) (s : PlantSymbol) (area : Area) (offset : ℕ) → Fills f s
    → is_put_at area offset (placed f s) ≡ covers area offset s
put-covers f s area offset e = ap (λ n. is_byte_of s.area s.offset n area offset) e

all_fit : (p : PlantPort) (f : PlantSymbol → List ℕ) (ss : List PlantSymbol) → Each (IsSoundSymbol p) ss → Each (Fills f) ss
    → Each (FitsArea p.sizes) (map (placed f) ss)
all_fit p f [] sound fills = tt
all_fit p f (s ∷ ss) sound fills =
    let within = (sound.0).within in
    let same = fills.0 in
    (omega (arith, within, same), all_fit p f ss (sound.1) (fills.1))

none_twice : (f : PlantSymbol → List ℕ) (s : PlantSymbol) (ss : List PlantSymbol) → Fills f s → Each (Fills f) ss → Each (HaveNoByteInCommon s) ss
    → Each (PutNoByteTwice (placed f s)) (map (placed f) ss)
none_twice f s [] own fills apart = tt
none_twice f s (t ∷ ss) own fills apart = (
  λ area offset put. put-covers f t area offset (fills.0) ∙ apart.0 area offset (sym (put-covers f s area offset own) ∙ put),
  none_twice f s ss own (fills.1) (apart.1),
)

put_apart : (f : PlantSymbol → List ℕ) (ss : List PlantSymbol) → Each (Fills f) ss → AreApart ss → ArePutApart (map (placed f) ss)
put_apart f [] fills apart = tt
put_apart f (s ∷ ss) fills apart = (none_twice f s ss (fills.0) (fills.1) (apart.0), put_apart f ss (fills.1) (apart.1))

none-put : (f : PlantSymbol → List ℕ) (ss : List PlantSymbol) (area : Area) (offset : ℕ) → Each (Fills f) ss
    → list_any (is_put_at area offset) (map (placed f) ss) ≡ list_any (covers area offset) ss
none-put f [] area offset fills = refl
none-put f (s ∷ ss) area offset fills =
    let head = put-covers f s area offset (fills.0) in
    let rest = none-put f ss area offset (fills.1) in
    rw (head, rest) refl

zeros : (n i : ℕ) → i < n → slice_get {X = ℕ} (replicate n 0) i ≡ Some 0
zeros zero i h = absurd (omega (arith, h))
zeros (suc n) zero h = refl
zeros (suc n) (suc i) h = zeros n i (omega (arith, h))

zero-count : (n : ℕ) → length {A = ℕ} (replicate n 0) ≡ n
zero-count zero = refl
zero-count (suc n) = ap (λ k. suc k) (zero-count n)

-- over an image whose gaps are zeros
pub filled_over : (ports : List PlantPort) (p : PlantPort) (f : PlantSymbol → List ℕ) (image : List ℕ) → IsSoundPort ports p → Each (Fills f) p.symbols
    → length image ≡ image_size p.sizes
    → ((area : Area) (offset : ℕ) → offset < size_in p.sizes area → is_covered p area offset ≡ false → image_byte p.sizes image area offset ≡ Some 0)
    → IsFilled p f (with_all_bytes p.sizes image (map (placed f) p.symbols))
filled_over ports p f image sound fills long gaps =
    let put = all_put p.sizes (map (placed f) p.symbols) image long (all_fit p f p.symbols sound.symbols fills) (put_apart f p.symbols fills sound.bytes) in
    record {
      long = put.long ∙ long;
      symbols = λ n s k g u.
          let same : length (f s) ≡ symbol_size s = each-get (Fills f) p.symbols n s fills g in
          put.each n (placed f s) k (slice_get-map (placed f) p.symbols n ∙ ap (option_map (placed f)) g) (omega (arith, same, u));
      gaps = λ area offset u c. put.rest area offset u (none-put f p.symbols area offset fills ∙ c) ∙ gaps area offset u c;
    }

pub filled : (ports : List PlantPort) (p : PlantPort) (f : PlantSymbol → List ℕ) → IsSoundPort ports p → Each (Fills f) p.symbols
    → IsFilled p f (with_all_bytes p.sizes (replicate (image_size p.sizes) 0) (map (placed f) p.symbols))
filled ports p f sound fills =
    filled_over ports p f (replicate (image_size p.sizes) 0) sound fills (zero-count (image_size p.sizes)) (λ area offset u c.
    let whole = area_within p.sizes area in zeros (image_size p.sizes) (start_in p.sizes area + offset) (omega (arith, whole, u)))

-- symbols of a table, and of its plant's port, that have the same bytes
pub placed-table : (types : List NamedType) (g : TableSymbol → List ℕ) (f : PlantSymbol → List ℕ) (ss : List Symbol)
    → ((s : Symbol) → g (table_symbol types s) ≡ f (plant_symbol types s))
    → map (placed_symbol g) (map (table_symbol types) ss) ≡ map (placed f) (map (plant_symbol types) ss)
placed-table types g f [] same = refl
placed-table types g f (s ∷ ss) same =
    ap (λ bytes. record { area = s.area; offset = s.offset; bytes = bytes } ∷ map (placed_symbol g) (map (table_symbol types) ss)) (same s)
    ∙ ap (λ rest. placed f (plant_symbol types s) ∷ rest) (placed-table types g f ss same)
