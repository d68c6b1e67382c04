-- The bytes of a port in a new world, and after a reload.
use Rattle.std.proofs.Common.{◌≡◌, ℕ, zero, suc, ◌+◌, ◌-◌, ◌<◌, List, [], ◌∷◌, length, replicate, true, false, refl, sym, ◌∙◌, ap, inl, inr, arith}
use Rattle.std.specs.Prelude.{Option, Some, None, slice_get, option_map}
use Rattle.std.specs.List.{list_any}
use Rattle.std.proofs.lemmas.Bool.{cases_Bool, false≢true}
use Rattle.spec_plant.specs.Description.{Area, size_in}
use Rattle.spec_plant.specs.World.{Block, Part, SymbolPart, AreaPart, StatePart, ByteName, PlantSymbol, PlantPort, Plant, lower_name, symbol_size, is_block_of}
use Rattle.spec_plant.specs.World.{block_of, byte_at, with_nth_byte}
use Rattle.spec_plant.specs.SameTypes.{is_same_type}
use Rattle.spec_plant.specs.Covering.{covers}
use Rattle.spec_plant.specs.Named.{port_numbered, symbol_named}
use Rattle.spec_plant.specs.Sound.{AreApart, IsSoundSymbol, IsSoundPort, IsSoundPlant}
use Rattle.spec_plant.proofs.BlockLemmas.{is_block-true, nth-same, nth-other}
use Rattle.spec_plant.proofs.SoundLemmas.{each-get, port_sound, symbol_sound, port_number, symbol_at}
use Rattle.spec_plant.proofs.CoveringLemmas.{stands_at, covers_from}
use Rattle.spec_plant.proofs.SameSizes.{same_type-size}
use Rattle.spec_machine.specs.World.{name_at, own_name, own_bytes, VERSION_AT, RUN, first_memory}
use Rattle.spec_machine.specs.Client.{Kept}
use Rattle.spec_machine.specs.Reloads.{is_kept_symbol, is_kept_part, is_kept, kept_block_bytes, memory_after_reload}
use Rattle.spec_machine.specs.AreaNames.{name_in_symbol, name_in_gap, is_covered}
use Rattle.spec_machine.specs.PortBytes.{PortBytes, image_byte, Holds}
use Rattle.spec_machine.specs.PortLaws.{IsFirstImage, IsReloadedImage, BeginsWithFirstImage, ReloadsImage, ReloadsNewPort}
use Rattle.spec_machine.proofs.AreaNames.{tiles_give_names}
use Rattle.spec_machine.proofs.FirstMemory.{first-symbol, first-own, first-area}

-- the symbol that stands at a byte
pub record IsCoveredBy (area : Area) (offset : ℕ) (symbols : List PlantSymbol) : Type 0 where
  pub place : ℕ
  pub symbol : PlantSymbol
  pub there : slice_get symbols place ≡ Some symbol
  pub stands : covers area offset symbol ≡ true

pub covered_by : (area : Area) (offset : ℕ) (symbols : List PlantSymbol) → list_any (covers area offset) symbols ≡ true → IsCoveredBy area offset symbols
covered_by area offset [] e = absurd (false≢true e)
covered_by area offset (s ∷ symbols) e =
    elim (cases_Bool (covers area offset s)) [
      | inl t ↦ record { place = zero; symbol = s; there = refl; stands = t }
      | inr t ↦
          let f = rw t at e in
          let rest = covered_by area offset symbols f in
          record { place = suc rest.place; symbol = rest.symbol; there = rest.there; stands = rest.stands }
    ]

-- what stands under the names of a port's symbols and gaps
record StandByTiles (memory : List Block) (p : PlantPort) (image : List ℕ) : Type 0 where
  symbols : (n : ℕ) (s : PlantSymbol) (k : ℕ) → slice_get p.symbols n ≡ Some s → k < symbol_size s
      → byte_at memory (name_in_symbol p.number s k) ≡ image_byte p.sizes image s.area (s.offset + k)
  gaps : (area : Area) (offset : ℕ) → offset < size_in p.sizes area → is_covered p area offset ≡ false
      → byte_at memory (name_in_gap p.number area offset) ≡ image_byte p.sizes image area offset

by_tiles : (memory : List Block) (p : PlantPort) (image : List ℕ) → AreApart p.symbols → StandByTiles memory p image → (area : Area) (offset : ℕ)
    → offset < size_in p.sizes area
    → byte_at memory (name_at p area offset) ≡ image_byte p.sizes image area offset
by_tiles memory p image apart s area offset u =
    let named = tiles_give_names p area offset apart in
    elim (cases_Bool (is_covered p area offset)) [
      | inr t ↦ ap (byte_at memory) (named.gap t) ∙ s.gaps area offset u t
      | inl t ↦
          let c = covered_by area offset p.symbols t in
          let x = c.symbol in
          let at_ = stands_at x area offset c.stands in
          let low = at_.begins in
          let high = at_.ends in
          let k : ℕ = offset - x.offset in
          let back : x.offset + k ≡ offset = omega (arith, low) in
          ap (byte_at memory) (named.symbol c.place x c.there c.stands) ∙ s.symbols c.place x k c.there (omega (arith, low, high))
          ∙ ap (image_byte p.sizes image x.area) back ∙ ap (λ a. image_byte p.sizes image a offset) at_.same_area
    ]

zeros : (n i : ℕ) → i < n → slice_get {X = ℕ} (replicate n 0) i ≡ Some 0
zeros zero i h = absurd (omega (arith, h))
zeros (suc n) zero h = refl
zeros (suc n) (suc i) h = zeros n i (omega (arith, h))

-- in a new world

first_symbol : (version : ℕ) (plant : Plant) (p : PlantPort) (n : ℕ) (s : PlantSymbol) (k : ℕ) → IsSoundPlant plant
    → port_numbered p.number plant.ports ≡ Some p
    → slice_get p.symbols n ≡ Some s
    → byte_at (first_memory version plant) (name_in_symbol p.number s k) ≡ slice_get s.initial k
unfolding byte_at
first_symbol version plant p n s k sound found g =
    let port = port_sound plant.ports plant.ports p.number p sound found in
    let own = each-get (IsSoundSymbol p) p.symbols n s port.symbols g in
    ap (λ xs. slice_get xs k) (first-symbol version p.number (lower_name s) p s plant.ports found own.found)

first_gap : (version : ℕ) (plant : Plant) (p : PlantPort) (area : Area) (offset : ℕ) → port_numbered p.number plant.ports ≡ Some p
    → offset < size_in p.sizes area
    → byte_at (first_memory version plant) (name_in_gap p.number area offset) ≡ Some 0
unfolding byte_at
first_gap version plant p area offset found u = ap (λ xs. slice_get xs offset) (first-area version p.number area p plant.ports found)
    ∙ zeros (size_in p.sizes area) offset u

first_own : (version : ℕ) (plant : Plant) (p : PlantPort) (k : ℕ) → port_numbered p.number plant.ports ≡ Some p
    → byte_at (first_memory version plant) (own_name p.number k) ≡ slice_get (own_bytes RUN 0 version) k
unfolding byte_at
first_own version plant p k found = ap (λ xs. slice_get xs k) (first-own version p.number p plant.ports found)

first_tiles : (version : ℕ) (plant : Plant) (p : PlantPort) (image : List ℕ) → IsSoundPlant plant → port_numbered p.number plant.ports ≡ Some p
    → IsFirstImage p image
    → StandByTiles (first_memory version plant) p image
first_tiles version plant p image sound found f = record {
  symbols = λ n s k g u. first_symbol version plant p n s k sound found g ∙ sym (f.symbols n s k g u);
  gaps = λ area offset u c. first_gap version plant p area offset found u ∙ sym (f.gaps area offset u c);
}

pub begins_with_first_image : BeginsWithFirstImage
begins_with_first_image version plant p image sound found f =
    let port = port_sound plant.ports plant.ports p.number p sound found in
    record {
      long = f.long;
      areas = by_tiles (first_memory version plant) p image port.bytes (first_tiles version plant p image sound found f);
      own = λ k u. first_own version plant p k found;
    }

-- after a reload

reloaded-kept : (kept : Kept) (old : List Block) (port : ℕ) (part : Part) (new : List Block) → kept port part ≡ true → 0 < length (block_of new port part)
    → block_of (memory_after_reload kept old new) port part ≡ kept_block_bytes part (block_of old port part) (block_of new port part)
unfolding memory_after_reload
reloaded-kept kept old port part [] t h = absurd (omega (arith, h))
reloaded-kept kept old port part (b ∷ bs) t h =
    elim (cases_Bool (is_block_of port part b)) [
      | inl u ↦
          let i = is_block-true port part b u in
          let same : kept b.port b.part ≡ true = ap (λ n. kept n b.part) i.same_port ∙ ap (kept port) i.same_part ∙ t in
          let found : block_of old b.port b.part ≡ block_of old port part = ap (λ n. block_of old n b.part) i.same_port ∙ ap (block_of old port) i.same_part in
          rw (same, u) (ap (λ q. kept_block_bytes q (block_of old b.port b.part) b.bytes) i.same_part ∙ ap (λ xs. kept_block_bytes part xs b.bytes) found)
      | inr u ↦
          let g = rw u at h in
          let rest = reloaded-kept kept old port part bs t g in
          elim (cases_Bool (kept b.port b.part)) [
            | inl v ↦ rw (v, u) rest
            | inr v ↦ rw (v, u) rest
          ]
    ]

reloaded-new : (kept : Kept) (old : List Block) (port : ℕ) (part : Part) (new : List Block) → kept port part ≡ false
    → block_of (memory_after_reload kept old new) port part ≡ block_of new port part
unfolding memory_after_reload
reloaded-new kept old port part [] t = refl
reloaded-new kept old port part (b ∷ bs) t =
    elim (cases_Bool (is_block_of port part b)) [
      | inl u ↦
          let i = is_block-true port part b u in
          let same : kept b.port b.part ≡ false = ap (λ n. kept n b.part) i.same_port ∙ ap (kept port) i.same_part ∙ t in
          rw (same, u) refl
      | inr u ↦
          let rest = reloaded-new kept old port part bs t in
          elim (cases_Bool (kept b.port b.part)) [
            | inl v ↦ rw (v, u) rest
            | inr v ↦ rw (v, u) rest
          ]
    ]

-- a byte of a symbol that is kept, and of a part that is not
symbol-kept : (kept : Kept) (old new : List Block) (port : ℕ) (name : List ℕ) (k : ℕ) → kept port (SymbolPart name) ≡ true
    → 0 < length (block_of new port (SymbolPart name))
    → byte_at (memory_after_reload kept old new) (record { port = port; part = SymbolPart name; index = k })
    ≡ byte_at old (record { port = port; part = SymbolPart name; index = k })
unfolding byte_at
symbol-kept kept old new port name k t h = ap (λ xs. slice_get xs k) (reloaded-kept kept old port (SymbolPart name) new t h)

byte-new : (kept : Kept) (old new : List Block) (n : ByteName) → kept n.port n.part ≡ false → byte_at (memory_after_reload kept old new) n ≡ byte_at new n
unfolding byte_at
byte-new kept old new n t = ap (λ xs. slice_get xs n.index) (reloaded-new kept old n.port n.part new t)

pub part-kept : (old new : Plant) (port : ℕ) (part : Part) (o x : Option PlantPort) → port_numbered port old.ports ≡ o → port_numbered port new.ports ≡ x
    → is_kept old new port part ≡ is_kept_part part o x
unfolding is_kept
part-kept old new port part o x e f = ap (λ q. is_kept_part part q (port_numbered port new.ports)) e ∙ ap (is_kept_part part o) f

-- a symbol's byte in the old world is one of the image
old_byte : (memory : List Block) (was : PlantPort) (b : PortBytes) (ports : List PlantPort) (port : ℕ) (name : List ℕ) (s : PlantSymbol) (k : ℕ)
    → IsSoundPort ports was → was.number ≡ port → symbol_named name was.symbols ≡ Some s
    → k < symbol_size s → Holds memory was b
    → byte_at memory (record { port = port; part = SymbolPart name; index = k }) ≡ image_byte was.sizes b.image s.area (s.offset + k)
old_byte memory was b ports port name s k sound same found u h =
    let at_ = symbol_at name was.symbols s found in
    let own = symbol_sound was was.symbols name s sound.symbols found in
    let within = own.within in
    let stands = covers_from s s.area (s.offset + k) (record { same_area = refl; begins = omega arith; ends = omega (arith, u) }) in
    let named = (tiles_give_names was s.area (s.offset + k) sound.bytes).symbol at_.place s at_.there stands in
    let index : s.offset + k - s.offset ≡ k = omega arith in
    let is_it : name_at was s.area (s.offset + k) ≡ record { port = port; part = SymbolPart name; index = k }
    = named ∙ ap (name_in_symbol was.number s) index ∙ ap (λ n. name_in_symbol n s k) same ∙ ap (λ x. name_with port (SymbolPart x) k) at_.named in
    ap (byte_at memory) (sym is_it) ∙ h.areas s.area (s.offset + k) (omega (arith, u, within))
  where
    name_with : ℕ → Part → ℕ → ByteName
    name_with n part i = record { port = n; part = part; index = i }

symbol_reloaded : (version : ℕ) (old new : Plant) (memory : List Block) (was p : PlantPort) (b : PortBytes) (image : List ℕ) → IsSoundPlant old
    → IsSoundPlant new
    → port_numbered p.number old.ports ≡ Some was → port_numbered p.number new.ports ≡ Some p → Holds memory was b → IsReloadedImage was b.image p image
    → (n : ℕ) (t : PlantSymbol) (k : ℕ) → slice_get p.symbols n ≡ Some t → k < symbol_size t
    → byte_at (memory_after_reload (is_kept old new) memory (first_memory version new)) (name_in_symbol p.number t k)
    ≡ image_byte p.sizes image t.area (t.offset + k)
symbol_reloaded version old new memory was p b image so sn eo en h r n t k g u = go (symbol_named (lower_name t) was.symbols) refl
  where
    name : ByteName
    name = name_in_symbol p.number t k

    port : IsSoundPort new.ports p
    port = port_sound new.ports new.ports p.number p sn en

    own : IsSoundSymbol p t
    own = each-get (IsSoundSymbol p) p.symbols n t port.symbols g

    kept_is : (o : Option PlantSymbol) → symbol_named (lower_name t) was.symbols ≡ o
        → is_kept old new p.number (SymbolPart (lower_name t)) ≡ is_kept_symbol o (Some t)
    kept_is o e = part-kept old new p.number (SymbolPart (lower_name t)) (Some was) (Some p) eo en
        ∙ ap (λ x. is_kept_symbol x (symbol_named (lower_name t) p.symbols)) e ∙ ap (is_kept_symbol o) own.found

    fresh : (o : Option PlantSymbol) → symbol_named (lower_name t) was.symbols ≡ o → is_kept_symbol o (Some t) ≡ false
        → byte_at (memory_after_reload (is_kept old new) memory (first_memory version new)) name ≡ image_byte p.sizes image t.area (t.offset + k)
    fresh o e f =
        byte-new (is_kept old new) memory (first_memory version new) name (kept_is o e ∙ f) ∙ first_symbol version new p n t k sn en g
        ∙ sym (r.first n t k g (ap (λ x. is_kept_symbol x (Some t)) e ∙ f) u)

    some : 0 < length (block_of (first_memory version new) p.number (SymbolPart (lower_name t)))
    some = let l = ap length (first-symbol version p.number (lower_name t) p t new.ports en own.found) ∙ own.initial in omega (arith, l, u)

    go : (o : Option PlantSymbol) → symbol_named (lower_name t) was.symbols ≡ o
        → byte_at (memory_after_reload (is_kept old new) memory (first_memory version new)) name ≡ image_byte p.sizes image t.area (t.offset + k)
    go None e = fresh None e refl
    go (Some s) e =
        elim (cases_Bool (is_same_type s.type t.type)) [
          | inr f ↦ fresh (Some s) e f
          | inl f ↦
              let size = same_type-size s.type t.type f in
              let was_sound = port_sound old.ports old.ports p.number was so eo in
              symbol-kept (is_kept old new) memory (first_memory version new) p.number (lower_name t) k (kept_is (Some s) e ∙ f) some
              ∙ old_byte memory was b old.ports p.number (lower_name t) s k was_sound (port_number p.number old.ports was eo) e (omega (arith, size, u)) h
              ∙ sym (r.kept n s t k g e f u)
        ]

gap_reloaded : (version : ℕ) (old new : Plant) (memory : List Block) (p : PlantPort) (area : Area) (offset : ℕ) (o : Option PlantPort)
    → port_numbered p.number old.ports ≡ o
    → port_numbered p.number new.ports ≡ Some p → offset < size_in p.sizes area
    → byte_at (memory_after_reload (is_kept old new) memory (first_memory version new)) (name_in_gap p.number area offset) ≡ Some 0
gap_reloaded version old new memory p area offset o eo en u =
    byte-new (is_kept old new) memory (first_memory version new) (name_in_gap p.number area offset) (part-kept old new p.number (AreaPart area) o (Some p) eo en
    ∙ never o) ∙ first_gap version new p area offset en u
  where
    never : (x : Option PlantPort) → is_kept_part (AreaPart area) x (Some p) ≡ false
    never None = refl
    never (Some q) = refl

-- the own bytes of a port that was there: its state words, and the new version
own_reloaded : (version : ℕ) (old new : Plant) (memory : List Block) (was p : PlantPort) (b : PortBytes) → port_numbered p.number old.ports ≡ Some was
    → port_numbered p.number new.ports ≡ Some p → was.number ≡ p.number → Holds memory was b → (k : ℕ) → k < 5
    → byte_at (memory_after_reload (is_kept old new) memory (first_memory version new)) (own_name p.number k) ≡ slice_get (own_bytes b.ads b.device version) k
unfolding byte_at
own_reloaded version old new memory was p b eo en number h k u =
    let first = first-own version p.number p new.ports en in
    let some : 0 < length (block_of (first_memory version new) p.number StatePart) = let l = ap length first in omega (arith, l) in
    let kept = reloaded-kept (is_kept old new) memory p.number StatePart (first_memory version new)
    (part-kept old new p.number StatePart (Some was) (Some p) eo en) some in
    ap (λ xs. slice_get xs k) (kept ∙ ap (kept_block_bytes StatePart words) first) ∙ word k u
  where
    words : List ℕ
    words = block_of memory p.number StatePart

    old_word : (i : ℕ) → i < 5 → slice_get words i ≡ slice_get (own_bytes b.ads b.device b.version) i
    old_word i v = ap (λ n. slice_get (block_of memory n StatePart) i) (sym number) ∙ h.own i v

    -- each but the version is as before
    same : (i : ℕ) → i < 4 → slice_get (with_nth_byte words VERSION_AT (λ was. version)) i ≡ slice_get (own_bytes b.ads b.device b.version) i
    same i v = nth-other VERSION_AT i (λ was. version) words (λ e. omega (arith, e, v)) ∙ old_word i (omega (arith, v))

    word : (i : ℕ) → i < 5 → slice_get (with_nth_byte words VERSION_AT (λ was. version)) i ≡ slice_get (own_bytes b.ads b.device version) i
    word zero v = same 0 (omega arith)
    word (suc zero) v = same 1 (omega arith)
    word (suc (suc zero)) v = same 2 (omega arith)
    word (suc (suc (suc zero))) v = same 3 (omega arith)
    word (suc (suc (suc (suc zero)))) v = nth-same VERSION_AT (λ was. version) words ∙ ap (option_map (λ was. version)) (old_word 4 (omega arith))
    word (suc (suc (suc (suc (suc i))))) v = absurd (omega (arith, v))

pub reloads_image : ReloadsImage
reloads_image version old new memory was p b image so sn eo en h r =
    let port = port_sound new.ports new.ports p.number p sn en in
    let after : List Block = memory_after_reload (is_kept old new) memory (first_memory version new) in
    let number = port_number p.number old.ports was eo in
    record {
      long = r.long;
      areas = by_tiles after p image port.bytes (record {
        symbols = symbol_reloaded version old new memory was p b image so sn eo en h r;
        gaps = λ area offset u c. gap_reloaded version old new memory p area offset (Some was) eo en u ∙ sym (r.gaps area offset u c);
      });
      own = own_reloaded version old new memory was p b eo en number h;
    }

pub reloads_new_port : ReloadsNewPort
reloads_new_port version old new memory p image sn eo en f =
    let port = port_sound new.ports new.ports p.number p sn en in
    let after : List Block = memory_after_reload (is_kept old new) memory (first_memory version new) in
    let fresh : (n : ByteName) → is_kept old new n.port n.part ≡ false
    → byte_at after n ≡ byte_at (first_memory version new) n = λ n t. byte-new (is_kept old new) memory (first_memory version new) n t in
    let tiles = first_tiles version new p image sn en f in
    record {
      long = f.long;
      areas = by_tiles after p image port.bytes (record {
        symbols = λ n s k g u. fresh (name_in_symbol p.number s k) (part-kept old new p.number (SymbolPart (lower_name s)) None (Some p) eo en)
            ∙ tiles.symbols n s k g u;
        gaps = λ area offset u c. fresh (name_in_gap p.number area offset) (part-kept old new p.number (AreaPart area) None (Some p) eo en)
            ∙ tiles.gaps area offset u c;
      });
      own = λ k u. fresh (own_name p.number k) (part-kept old new p.number StatePart None (Some p) eo en) ∙ first_own version new p k en;
    }
