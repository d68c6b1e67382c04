-- The bytes of each part stay as many as they are.
use Rattle.std.proofs.Common.{◌≡◌, ℕ, List, [], ◌∷◌, ◌++◌, map, length, Bool, true, cond, refl, sym, ◌∙◌, ap, inl, inr}
use Rattle.std.specs.Prelude.{Option, Some, None, flat_map, get_or}
use Rattle.std.proofs.lemmas.Bool.{cases_Bool, false≢true}
use Rattle.spec_plant.specs.Description.{Area, Inputs, Outputs, Memory, Process}
use Rattle.spec_plant.specs.World.{Block, Part, SymbolPart, AreaPart, StatePart, PlantSymbol, PlantPort, Plant, symbol_size, is_block_of, block_of}
use Rattle.spec_plant.proofs.BlockLemmas.{with_byte-length, nth-length}
use Rattle.spec_plant.proofs.SameSizes.{same_type-size}
use Rattle.spec_machine.specs.World.{port_numbered, first_symbol_block, first_area_block, first_state_block, first_blocks, first_memory, FIRST_VERSION}
use Rattle.spec_machine.specs.World.{VERSION_AT}
use Rattle.spec_machine.specs.Access.{Put, addressed_name, byte_after, memory_after_put, memory_after_puts}
use Rattle.spec_machine.specs.Acts.{Act, Refusal, Allowed, memory_after, memory_after_acts}
use Rattle.spec_machine.specs.Client.{Kept}
use Rattle.spec_machine.specs.Writes.{symbol_named}
use Rattle.spec_machine.specs.Reloads.{is_kept_symbol, is_kept_part, is_kept, kept_block_bytes, memory_after_reload}
use Rattle.spec_laws.specs.Soundness.{IsSoundPlant}
use Rattle.spec_laws.proofs.Memory.{is_block-true}
use Rattle.spec_laws.proofs.FirstMemory.{first-symbol, first-own, port_sound, symbol_sound}

-- two memories have equal blocks but for the bytes in them
pub record Alike (m w : List Block) : Type 0 where
  pub same : (port : ℕ) (part : Part) → length (block_of m port part) ≡ length (block_of w port part)

pub alike_itself : (m : List Block) → Alike m m
alike_itself m = record { same = λ port part. refl }

pub alike_then : (m w v : List Block) → Alike m w → Alike w v → Alike m v
alike_then m w v a b = record { same = λ port part. a.same port part ∙ b.same port part }

pub puts-alike : (ps : List Put) (m : List Block) → Alike (memory_after_puts m ps) m
unfolding memory_after_puts
puts-alike [] m = alike_itself m
puts-alike (p ∷ ps) m =
    alike_then (memory_after_puts (memory_after_put m p) ps) (memory_after_put m p) m (puts-alike ps (memory_after_put m p))
    (record { same = λ port part. with_byte-length m (addressed_name p.place) (byte_after p.place p.value) port part })

pub acts-alike : (acts : List Act) (m : List Block) → Alike (memory_after_acts m acts) m
unfolding memory_after_acts
acts-alike [] m = alike_itself m
acts-alike (a ∷ rest) m = alike_then (memory_after_acts (memory_after m a) rest) (memory_after m a) m (acts-alike rest (memory_after m a)) (one a)
  where
    one : (x : Act) → Alike (memory_after m x) m
    one (Refusal code) = alike_itself m
    one (Allowed x) = puts-alike x.writes m

-- reloads: what is kept is taken from the old memory

kept_block-length : (part : Part) (old first : List ℕ) → length (kept_block_bytes part old first) ≡ length old
kept_block-length (SymbolPart name) old first = refl
kept_block-length (AreaPart a) old first = refl
kept_block-length StatePart old first = nth-length VERSION_AT (λ was. get_or first VERSION_AT 0) old

reloaded-length : (kept : Kept) (m : List Block) (port : ℕ) (part : Part) (new : List Block)
    → (kept port part ≡ true → length (block_of m port part) ≡ length (block_of new port part))
    → length (block_of (memory_after_reload kept m new) port part) ≡ length (block_of new port part)
unfolding memory_after_reload
reloaded-length kept m port part [] h = refl
reloaded-length kept m port part (b ∷ bs) h =
    elim (cases_Bool (is_block_of port part b)) [
      | inl u ↦
          let i = is_block-true port part b u in
          let same : kept b.port b.part ≡ kept port part = ap (λ n. kept n b.part) i.same_port ∙ ap (kept port) i.same_part in
          elim (cases_Bool (kept b.port b.part)) [
            | inl t ↦
                let g = h (sym same ∙ t) in
                let found : length (block_of m b.port b.part) ≡ length b.bytes = ap (λ n. length (block_of m n b.part)) i.same_port
                ∙ ap (λ x. length (block_of m port x)) i.same_part ∙ g ∙ ap (λ (x : Bool). length (cond x b.bytes (block_of bs port part))) u in
                rw (t, u) (kept_block-length b.part (block_of m b.port b.part) b.bytes ∙ found)
            | inr t ↦ rw (t, u) refl
          ]
      | inr u ↦
          let g = rw u at h in
          let rest = reloaded-length kept m port part bs g in
          elim (cases_Bool (kept b.port b.part)) [
            | inl t ↦ rw (t, u) rest
            | inr t ↦ rw (t, u) rest
          ]
    ]

-- a symbol that is kept, in both plants
pub record KeptSymbol (old new : Plant) (n : ℕ) (name : List ℕ) : Type 0 where
  pub before : PlantPort
  pub before_found : port_numbered n old.ports ≡ Some before
  pub was : PlantSymbol
  pub was_found : symbol_named name before.symbols ≡ Some was
  pub after : PlantPort
  pub after_found : port_numbered n new.ports ≡ Some after
  pub is : PlantSymbol
  pub is_found : symbol_named name after.symbols ≡ Some is
  pub size : symbol_size was ≡ symbol_size is

pub kept_symbol : (old new : Plant) (n : ℕ) (name : List ℕ) → is_kept old new n (SymbolPart name) ≡ true → KeptSymbol old new n name
unfolding is_kept
kept_symbol old new n name t = go (port_numbered n old.ports) refl (port_numbered n new.ports) refl t
  where
    both : (p q : PlantPort) → port_numbered n old.ports ≡ Some p → port_numbered n new.ports ≡ Some q → (x y : Option PlantSymbol)
        → symbol_named name p.symbols ≡ x → symbol_named name q.symbols ≡ y → is_kept_symbol x y ≡ true → KeptSymbol old new n name
    both p q ep eq None y ex ey u = absurd (false≢true u)
    both p q ep eq (Some a) None ex ey u = absurd (false≢true u)
    both p q ep eq (Some a) (Some b) ex ey u =
        record {
          before = p;
          before_found = ep;
          was = a;
          was_found = ex;
          after = q;
          after_found = eq;
          is = b;
          is_found = ey;
          size = same_type-size a.type b.type u;
        }

    go : (o : Option PlantPort) → port_numbered n old.ports ≡ o → (x : Option PlantPort)
        → port_numbered n new.ports ≡ x → is_kept_part (SymbolPart name) o x ≡ true → KeptSymbol old new n name
    go None eo x ex u = absurd (false≢true u)
    go (Some p) eo None ex u = absurd (false≢true u)
    go (Some p) eo (Some q) ex u = both p q eo ex (symbol_named name p.symbols) (symbol_named name q.symbols) refl refl u

-- state words that are kept: the port is in both plants
pub record KeptPort (old new : Plant) (n : ℕ) : Type 0 where
  pub before : PlantPort
  pub before_found : port_numbered n old.ports ≡ Some before
  pub after : PlantPort
  pub after_found : port_numbered n new.ports ≡ Some after

pub kept_port : (old new : Plant) (n : ℕ) → is_kept old new n StatePart ≡ true → KeptPort old new n
unfolding is_kept
kept_port old new n t = go (port_numbered n old.ports) refl (port_numbered n new.ports) refl t
  where
    go : (o : Option PlantPort) → port_numbered n old.ports ≡ o → (x : Option PlantPort)
        → port_numbered n new.ports ≡ x → is_kept_part StatePart o x ≡ true → KeptPort old new n
    go None eo x ex u = absurd (false≢true u)
    go (Some p) eo None ex u = absurd (false≢true u)
    go (Some p) eo (Some q) ex u = record { before = p; before_found = eo; after = q; after_found = ex }

pub no_area_kept : (old new : Plant) (n : ℕ) (a : Area) → is_kept old new n (AreaPart a) ≡ true → ⊥
unfolding is_kept
no_area_kept old new n a t = go (port_numbered n old.ports) (port_numbered n new.ports) t
  where
    go : (o x : Option PlantPort) → is_kept_part (AreaPart a) o x ≡ true → ⊥
    go None x u = false≢true u
    go (Some p) None u = false≢true u
    go (Some p) (Some q) u = false≢true u

-- the bytes of a kept part are as many in both plants
pub kept-length : (v : ℕ) (old new : Plant) → IsSoundPlant old → IsSoundPlant new → (n : ℕ) (part : Part)
    → is_kept old new n part ≡ true → length (block_of (first_memory FIRST_VERSION old) n part) ≡ length (block_of (first_memory v new) n part)
kept-length v old new so sn n (AreaPart a) t = absurd (no_area_kept old new n a t)
kept-length v old new so sn n StatePart t = let k = kept_port old new n t in
    first-own FIRST_VERSION n k.before old.ports k.before_found ∙ sym (first-own v n k.after new.ports k.after_found)
kept-length v old new so sn n (SymbolPart name) t =
    let k = kept_symbol old new n name t in
    let p = port_sound old.ports old.ports n k.before so k.before_found in
    let q = port_sound new.ports new.ports n k.after sn k.after_found in
    let was = symbol_sound k.before k.before.symbols name k.was p.symbols k.was_found in
    let is = symbol_sound k.after k.after.symbols name k.is q.symbols k.is_found in
    ap length (first-symbol FIRST_VERSION n name k.before k.was old.ports k.before_found k.was_found) ∙ was.initial ∙ k.size
    ∙ sym is.initial ∙ sym (ap length (first-symbol v n name k.after k.is new.ports k.after_found k.is_found))

-- the first memories of a plant are alike, whatever the version

blocks-more : (port : ℕ) (part : Part) (xs m w : List Block) → length (block_of m port part) ≡ length (block_of w port part)
    → length (block_of (xs ++ m) port part) ≡ length (block_of (xs ++ w) port part)
blocks-more port part [] m w e = e
blocks-more port part (x ∷ xs) m w e =
    elim (cases_Bool (is_block_of port part x)) [
      | inl t ↦ rw t refl
      | inr t ↦ rw t (blocks-more port part xs m w e)
    ]

of_version : (v u : ℕ) (port : ℕ) (part : Part) (ps : List PlantPort)
    → length (block_of (flat_map (first_blocks v) ps) port part) ≡ length (block_of (flat_map (first_blocks u) ps) port part)
of_version v u port part [] = refl
of_version v u port part (p ∷ ps) =
    let rest = blocks-more port part (other_blocks p) (flat_map (first_blocks v) ps) (flat_map (first_blocks u) ps) (of_version v u port part ps) in
    elim (cases_Bool (is_block_of port part (first_state_block v p))) [
      | inl t ↦ rw t refl
      | inr t ↦ rw t rest
    ]
  where
    other_blocks : PlantPort → List Block
    other_blocks p = map (first_symbol_block p) p.symbols ++ map (first_area_block p) (Inputs ∷ Outputs ∷ Memory ∷ Process ∷ [])

pub first-alike : (v u : ℕ) (plant : Plant) → Alike (first_memory v plant) (first_memory u plant)
first-alike v u plant = record { same = λ port part. of_version v u port part plant.ports }

pub reload-alike : (v : ℕ) (old new : Plant) → IsSoundPlant old → IsSoundPlant new → (m : List Block)
    → Alike m (first_memory FIRST_VERSION old) → Alike (memory_after_reload (is_kept old new) m (first_memory v new)) (first_memory FIRST_VERSION new)
reload-alike v old new so sn m a =
    alike_then (memory_after_reload (is_kept old new) m (first_memory v new)) (first_memory v new) (first_memory FIRST_VERSION new)
    (record {
      same = λ port part. reloaded-length (is_kept old new) m port part (first_memory v new) (λ t. a.same port part ∙ kept-length v old new so sn port part t);
    }) (first-alike v FIRST_VERSION new)
