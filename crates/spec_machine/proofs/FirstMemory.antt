-- The bytes that a description begins with.
use Rattle.std.proofs.Common.{◌≡◌, ◌≢◌, ℕ, List, [], ◌∷◌, ◌++◌, map, replicate, refl, sym, ◌∙◌, ap, subst, inl, inr, append_assoc}
use Rattle.std.specs.Prelude.{Some, ◌==◌, flat_map, bytes_eq}
use Rattle.std.proofs.lemmas.Bool.{cases_Bool, eqb-true, eq-eqb, ne_eqb, false≢true}
use Rattle.spec_plant.specs.Description.{Area, Inputs, Outputs, Memory, Process, size_in}
use Rattle.spec_plant.specs.World.{Block, Part, SymbolPart, AreaPart, StatePart, PlantSymbol, PlantPort, lower_name, block_of}
use Rattle.spec_plant.specs.Named.{port_numbered, symbol_named}
use Rattle.spec_plant.specs.Sound.{Each}
use Rattle.spec_machine.specs.World.{first_area_block, first_symbol_block, first_blocks, own_bytes, RUN}

abbrev area_blocks : PlantPort → List Block
area_blocks p = map (first_area_block p) (Inputs ∷ Outputs ∷ Memory ∷ Process ∷ [])

-- blocks of another port are passed over
skip_port : (n : ℕ) (part : Part) (port : ℕ) → port ≢ n → (bs rest : List Block)
    → Each (λ (b : Block). b.port ≡ port) bs → block_of (bs ++ rest) n part ≡ block_of rest n part
skip_port n part port ne [] rest e = refl
skip_port n part port ne (b ∷ bs) rest e =
    let t = ne_eqb b.port n (λ q. ne (sym (e.0) ∙ q)) in
    rw t (skip_port n part port ne bs rest (e.1))

symbol_blocks-port : (p : PlantPort) (ss : List PlantSymbol) (rest : List Block)
    → Each (λ (b : Block). b.port ≡ p.number) rest → Each (λ (b : Block). b.port ≡ p.number) (map (first_symbol_block p) ss ++ rest)
symbol_blocks-port p [] rest e = e
symbol_blocks-port p (s ∷ ss) rest e = (refl, symbol_blocks-port p ss rest e)

first_blocks-port : (v : ℕ) (p : PlantPort) → Each (λ (b : Block). b.port ≡ p.number) (first_blocks v p)
first_blocks-port v p = (refl, symbol_blocks-port p p.symbols (area_blocks p) (refl, (refl, (refl, (refl, tt)))))

-- the blocks of a port among those of all
of_port : (v n : ℕ) (part : Part) (p : PlantPort) (ps : List PlantPort) → port_numbered n ps ≡ Some p
    → (rest : List Block) × (block_of (flat_map (first_blocks v) ps) n part ≡ block_of (first_blocks v p ++ rest) n part) × (p.number ≡ n)
of_port v n part p [] e = cc
of_port v n part p (q ∷ qs) e =
    elim (cases_Bool (q.number == n)) [
      | inl t ↦
          let f : Some q ≡ Some p = rw t at e in
          let g : q ≡ p = cc in (
            flat_map (first_blocks v) qs,
            ap (λ (x : PlantPort). block_of (first_blocks v x ++ flat_map (first_blocks v) qs) n part) g,
            sym
                (ap (λ (x : PlantPort). x.number) g) ∙ eqb-true q.number n t,
          )
      | inr t ↦
          let f : port_numbered n qs ≡ Some p = rw t at e in
          let r = of_port v n part p qs f in
          let ne : q.number ≢ n = λ s. false≢true (sym t ∙ eq-eqb q.number n s) in
          (r.0, skip_port n part q.number ne (first_blocks v q) (flat_map (first_blocks v) qs) (first_blocks-port v q) ∙ r.1, r.2)
    ]

symbol-at : (p : PlantPort) (name : List ℕ) (s : PlantSymbol) (ss : List PlantSymbol) (rest : List Block) → symbol_named name ss ≡ Some s
    → block_of (map (first_symbol_block p) ss ++ rest) p.number (SymbolPart name) ≡ s.initial
symbol-at p name s [] rest e = cc
symbol-at p name s (x ∷ xs) rest e =
    let same = eq-eqb p.number p.number refl in
    elim (cases_Bool (bytes_eq (lower_name x) name)) [
      | inl t ↦ let f : Some x ≡ Some s = rw t at e in let g : x ≡ s = cc in rw (same, t) (ap (λ (y : PlantSymbol). y.initial) g)
      | inr t ↦ let f : symbol_named name xs ≡ Some s = rw t at e in rw (same, t) (symbol-at p name s xs rest f)
    ]

-- a symbol begins with its initial bytes
pub first-symbol : (v n : ℕ) (name : List ℕ) (p : PlantPort) (s : PlantSymbol) (ps : List PlantPort) → port_numbered n ps ≡ Some p
    → symbol_named name p.symbols ≡ Some s → block_of (flat_map (first_blocks v) ps) n (SymbolPart name) ≡ s.initial
first-symbol v n name p s ps e f =
    let r = of_port v n (SymbolPart name) p ps e in
    let same = eq-eqb p.number p.number refl in
    let P : ℕ → Type 0 = λ m. block_of (first_blocks v p ++ r.0) m (SymbolPart name) ≡ s.initial in
    r.1 ∙ subst P (r.2) (rw (same, append_assoc (map (first_symbol_block p) p.symbols) (area_blocks p) (r.0))
    (symbol-at p name s p.symbols (area_blocks p ++ r.0) f))

-- the own bytes are those of a port that runs, with the version
pub first-own : (v n : ℕ) (p : PlantPort) (ps : List PlantPort) → port_numbered n ps ≡ Some p
    → block_of (flat_map (first_blocks v) ps) n StatePart ≡ own_bytes RUN 0 v
first-own v n p ps e =
    let r = of_port v n StatePart p ps e in
    let same = eq-eqb p.number n (r.2) in
    r.1 ∙ rw same refl

skip_symbols : (p : PlantPort) (a : Area) (ss : List PlantSymbol) (rest : List Block)
    → block_of (map (first_symbol_block p) ss ++ rest) p.number (AreaPart a) ≡ block_of rest p.number (AreaPart a)
skip_symbols p a [] rest = refl
skip_symbols p a (s ∷ ss) rest = let same = eq-eqb p.number p.number refl in rw same (skip_symbols p a ss rest)

area-at : (p : PlantPort) (a : Area) (rest : List Block) → block_of (area_blocks p ++ rest) p.number (AreaPart a) ≡ replicate (size_in p.sizes a) 0
area-at p Inputs rest = let same = eq-eqb p.number p.number refl in rw same refl
area-at p Outputs rest = let same = eq-eqb p.number p.number refl in rw same refl
area-at p Memory rest = let same = eq-eqb p.number p.number refl in rw same refl
area-at p Process rest = let same = eq-eqb p.number p.number refl in rw same refl

-- an area's block is zeros
pub first-area : (v n : ℕ) (a : Area) (p : PlantPort) (ps : List PlantPort) → port_numbered n ps ≡ Some p
    → block_of (flat_map (first_blocks v) ps) n (AreaPart a) ≡ replicate (size_in p.sizes a) 0
first-area v n a p ps e =
    let r = of_port v n (AreaPart a) p ps e in
    let same = eq-eqb p.number p.number refl in
    let P : ℕ → Type 0 = λ m. block_of (first_blocks v p ++ r.0) m (AreaPart a) ≡ replicate (size_in p.sizes a) 0 in
    r.1 ∙ subst P (r.2)
    (rw (same, append_assoc (map (first_symbol_block p) p.symbols) (area_blocks p) (r.0), skip_symbols p a p.symbols (area_blocks p ++ r.0))
    (area-at p a (r.0)))
