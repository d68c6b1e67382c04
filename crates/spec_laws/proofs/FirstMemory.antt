-- The bytes that a description begins with: how many stand in each part of a port.
use Rattle.std.proofs.Common.{◌≡◌, ℕ, ◌+◌, ◌-◌, ◌<◌, List, [], ◌∷◌, length, ◌∙◌, ap, inl, inr, arith}
use Rattle.std.specs.Prelude.{Some, ◌&&◌, flat_map, nat_le, nat_lt}
use Rattle.std.proofs.lemmas.Bool.{cases_Bool, and_parts, leb-true, ltb-true}
use Rattle.std.proofs.lemmas.List.{length-replicate}
use Rattle.spec_plant.specs.Description.{Area, size_in}
use Rattle.spec_plant.specs.World.{SymbolPart, AreaPart, StatePart, ByteName, PlantSymbol, PlantPort, Plant, lower_name, symbol_size, is_same_area, block_of}
pub use Rattle.spec_plant.proofs.BlockLemmas.{there_by_length}
pub use Rattle.spec_plant.proofs.SoundLemmas.{port_sound, symbol_sound, port_number}
use Rattle.spec_machine.specs.World.{port_numbered, covers, name_among, name_at, first_blocks, first_memory, FIRST_VERSION, OWN_SIZE}
use Rattle.spec_machine.specs.Writes.{symbol_named}
pub use Rattle.spec_machine.proofs.FirstMemory.{first-symbol}
use Rattle.spec_machine.proofs.FirstMemory.{first-own as own_first, first-area as area_first}
use Rattle.spec_laws.specs.Soundness.{Each, IsSoundSymbol, IsSoundPlant}

-- a port's own bytes are five
pub first-own : (v n : ℕ) (p : PlantPort) (ps : List PlantPort) → port_numbered n ps ≡ Some p
    → length (block_of (flat_map (first_blocks v) ps) n StatePart) ≡ OWN_SIZE
first-own v n p ps e = ap length (own_first v n p ps e)

-- an area's block is as long as the area
pub first-area : (v n : ℕ) (a : Area) (p : PlantPort) (ps : List PlantPort) → port_numbered n ps ≡ Some p
    → length (block_of (flat_map (first_blocks v) ps) n (AreaPart a)) ≡ size_in p.sizes a
first-area v n a p ps e = ap length (area_first v n a p ps e) ∙ length-replicate (size_in p.sizes a) 0

-- a name that a plant has: its byte is within its part
abbrev pub IsNamed : Plant → ByteName → Type 0
IsNamed plant n = n.index < length (block_of (first_memory FIRST_VERSION plant) n.port n.part)

-- the bytes of a symbol of the plant have names of it
pub symbol-named : (plant : Plant) → IsSoundPlant plant → (n : ℕ) (p : PlantPort) (name : List ℕ) (s : PlantSymbol)
    → port_numbered n plant.ports ≡ Some p → symbol_named name p.symbols ≡ Some s
    → (i : ℕ) → i < symbol_size s → IsNamed plant (record { port = n; part = SymbolPart name; index = i })
symbol-named plant sound n p name s e f i h =
    let port = port_sound plant.ports plant.ports n p sound e in
    let symbol = symbol_sound p p.symbols name s port.symbols f in
    let len = ap length (first-symbol FIRST_VERSION n name p s plant.ports e f) ∙ symbol.initial in
    omega (arith, len, h)

-- the name of each byte of an area is one of the plant
among-named : (plant : Plant) → IsSoundPlant plant → (p : PlantPort) → port_numbered p.number plant.ports ≡ Some p → (a : Area) (i : ℕ)
    → i < size_in p.sizes a → (ss : List PlantSymbol) → Each (IsSoundSymbol p) ss → IsNamed plant (name_among p.number a i ss)
among-named plant sound p e a i h [] s = let l = first-area FIRST_VERSION p.number a p plant.ports e in omega (arith, l, h)
among-named plant sound p e a i h (x ∷ xs) s =
    elim (cases_Bool (covers a i x)) [
      | inr t ↦ rw t (among-named plant sound p e a i h xs (s.1))
      | inl t ↦
          let u = and_parts (is_same_area x.area a && nat_le x.offset i) (nat_lt i (x.offset + symbol_size x)) t in
          let v = and_parts (is_same_area x.area a) (nat_le x.offset i) (u.0) in
          let low = leb-true x.offset i (v.1) in
          let high = ltb-true i (x.offset + symbol_size x) (u.1) in
          rw t (symbol-named plant sound p.number p (lower_name x) x e s.0.found (i - x.offset) (omega (arith, low, high)))
    ]

pub area-named : (plant : Plant) → IsSoundPlant plant → (p : PlantPort) → port_numbered p.number plant.ports ≡ Some p
    → (a : Area) (i : ℕ) → i < size_in p.sizes a → IsNamed plant (name_at p a i)
unfolding name_at
area-named plant sound p e a i h =
    let port = port_sound plant.ports plant.ports p.number p sound e in
    among-named plant sound p e a i h p.symbols port.symbols
