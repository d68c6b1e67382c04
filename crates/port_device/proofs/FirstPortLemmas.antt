-- What an accepted description says of its ports, and that the ports that were built hold its world.
use Rattle.std.proofs.Common.{◌≡◌, ℕ, zero, suc, ◌≤◌, List, [], ◌∷◌, ◌++◌, length, map, replicate, Bool, true, refl, sym, ◌∙◌, ap, subst, arith}
use Rattle.std.specs.Prelude.{option_map, All, nat_le, ◌&&◌, Some}
use Rattle.std.specs.List.{list_all}
use Rattle.std.proofs.lemmas.Bool.{and_parts, leb-true, eq-eqb}
use Rattle.std.proofs.lemmas.Option.{slice_get-map}
use Rattle.std.proofs.lemmas.List.{length-map}
use Rattle.spec_plant.specs.Listed.{NamedType}
use Rattle.spec_plant.specs.Description.{Symbol, Port}
use Rattle.spec_plant.specs.World.{PlantPort, PlantSymbol, plant_symbol, plant_port, plant_of}
use Rattle.spec_plant.specs.Accepted.{is_port, are_facts, image_size, IMAGE_LIMIT}
use Rattle.spec_plant.specs.AcceptedTypes.{AreTypes}
use Rattle.spec_plant.specs.Named.{port_numbered}
use Rattle.spec_plant.specs.Sound.{Each, IsSoundSymbol, IsSoundPort}
use Rattle.spec_plant.proofs.SoundLemmas.{each-get, accepted_are_sound}
use Rattle.spec_plant.proofs.TypeLemmas.{list_all-get}
use Rattle.spec_persistent.proofs.OtherwiseLemmas.{port-sound}
use Rattle.spec_machine.specs.Manner.{Manner}
use Rattle.spec_machine.specs.PortLaws.{IsFirstImage}
use Rattle.symbol_table.specs.Rows.{symbol_of_row, symbols_of_rows}
use Rattle.symbol_table.specs.Tables.{TableSymbol, SymbolTable, table_symbol, table_of, IsPlaced, IsTableOf}
use Rattle.symbol_table.specs.declared.row.SymbolRow.{SymbolRow}
use Rattle.symbol_table.proofs.PlacedSymbols.{accepted_is_placed}
use Rattle.spec_plant.specs.Entries.{upload_size}
use Rattle.port_device.specs.PortMemory.{PortMemory}
use Rattle.port_device.specs.Uploads.{described, has_short_texts}
use Rattle.port_device.specs.PlacedBytes.{with_all_bytes, placed_symbol}
use Rattle.port_device.specs.FirstPorts.{IsOfAccepted, FitsSymbol, FitsRow, IsFirstPort, AreFirstPorts}
use Rattle.port_device.proofs.AcceptedPorts.{port_texts, port_upload}
use Rattle.port_device.proofs.OtherwiseLemmas.{placed-otherwise, texts-otherwise, upload-otherwise}
use Rattle.port_device.proofs.UploadLengths.{described_symbols}
use Rattle.port_device.proofs.FilledLemmas.{filled, Fills, placed, placed-table}

-- the bytes that a symbol begins with
abbrev pub first_bytes : TableSymbol → List ℕ
first_bytes s = s.initial

abbrev pub plant_first_bytes : PlantSymbol → List ℕ
plant_first_bytes s = s.initial

pub of_accepted-port : (types : List NamedType) (port : Port) (a : IsOfAccepted types port) → is_port types a.signals a.before ≡ true
of_accepted-port types port a =
    let P : List NamedType → Type 0 = λ ts. is_port ts a.signals a.before ≡ true in
    subst P a.types_are (list_all-get (is_port a.description.types a.signals) a.description.ports a.place a.before a.accepted.each_port a.there)

pub of_accepted-types : (types : List NamedType) (port : Port) → IsOfAccepted types port → AreTypes types
of_accepted-types types port a = subst AreTypes a.types_are a.accepted.types

pub of_accepted-placed : (types : List NamedType) (port : Port) → IsOfAccepted types port → IsPlaced types port
of_accepted-placed types port a =
    placed-otherwise types a.before port a.otherwise
    (subst (λ ts. IsPlaced ts a.before) a.types_are (accepted_is_placed a.description a.signals a.place a.before a.accepted a.there))

before-sound : (types : List NamedType) (port : Port) (a : IsOfAccepted types port)
    → IsSoundPort (plant_of a.description).ports (plant_port types a.before)
before-sound types port a =
    let d = a.description in
    let P : List NamedType → Type 0 = λ ts. IsSoundPort (plant_of d).ports (plant_port ts a.before) in
    let there = slice_get-map (plant_port d.types) d.ports a.place ∙ ap (option_map (plant_port d.types)) a.there in
    let ports = (plant_of d).ports in
    subst P a.types_are (each-get (IsSoundPort ports) ports a.place (plant_port d.types a.before) (accepted_are_sound d a.signals a.accepted) there)

-- it is sound, alone as among the others
pub of_accepted-sound : (types : List NamedType) (port : Port) (a : IsOfAccepted types port)
    → IsSoundPort (plant_port types port ∷ []) (plant_port types port)
of_accepted-sound types port a =
    let p = plant_port types port in
    let t = eq-eqb port.number port.number refl in
    let alone : port_numbered port.number (p ∷ []) ≡ Some p = rw t refl in
    port-sound types (plant_of a.description).ports (p ∷ []) a.before port a.otherwise alone (before-sound types port a)

-- the image is not too long
size_part : (a b c x y z : Bool) → (((((a && b) && c) && x) && y) && z) ≡ true → c ≡ true
size_part a b c x y z q =
    let q1 = and_parts ((((a && b) && c) && x) && y) z q in
    let q2 = and_parts (((a && b) && c) && x) y (q1.0) in
    let q3 = and_parts ((a && b) && c) x (q2.0) in
    (and_parts (a && b) c (q3.0)).1

pub of_accepted-few : (types : List NamedType) (port : Port) → IsOfAccepted types port → image_size port.sizes ≤ IMAGE_LIMIT
of_accepted-few types port a =
    let first = a.before in
    let few = nat_le (image_size first.sizes) IMAGE_LIMIT in
    subst (λ (x : Port). image_size x.sizes ≤ IMAGE_LIMIT) (sym a.otherwise.same)
    (leb-true (image_size first.sizes) IMAGE_LIMIT (size_part _ (are_facts first.facts) few _ _ _ (of_accepted-port types port a)))

-- initial bytes lie in their areas

each_all : {X : Type 0} (P : X → Type 0) (xs : List X) → Each P xs → All P xs
each_all P [] e k d u = absurd (omega (arith, u))
each_all P (x ∷ xs) e zero d u = e.0
each_all P (x ∷ xs) e (suc k) d u = each_all P xs (e.1) k d (omega (arith, u))

symbols-fit : (p : PlantPort) (types : List NamedType) (rows : List SymbolRow) (ss : List Symbol) → symbols_of_rows rows ≡ map (table_symbol types) ss
    → Each (IsSoundSymbol p) (map (plant_symbol types) ss) → Each (FitsRow p.sizes) rows
symbols-fit p types [] ss e sound = tt
symbols-fit p types (r ∷ rows) [] e sound = cc
symbols-fit p types (r ∷ rows) (s ∷ ss) e sound =
    let same : symbol_of_row r ≡ table_symbol types s = cc in
    let rest : symbols_of_rows rows ≡ map (table_symbol types) ss = cc in
    let within = (sound.0).within in
    let long = (sound.0).initial in
    let fits : FitsSymbol p.sizes (table_symbol types s) = omega (arith, within, long) in
    (subst (FitsSymbol p.sizes) (sym same) fits, symbols-fit p types rows ss rest (sound.1))

pub of_accepted-fit : (types : List NamedType) (port : Port) (rows : List SymbolRow) → IsOfAccepted types port
    → symbols_of_rows rows ≡ (table_of types port).symbols
    → All (FitsRow port.sizes) rows
of_accepted-fit types port rows a e =
    each_all (FitsRow port.sizes) rows (symbols-fit (plant_port types port) types rows port.symbols e (of_accepted-sound types port a).symbols)

-- the first image

each-fills : (p : PlantPort) (ss : List PlantSymbol) → Each (IsSoundSymbol p) ss → Each (Fills plant_first_bytes) ss
each-fills p [] e = tt
each-fills p (s ∷ ss) e = ((e.0).initial, each-fills p ss (e.1))

pub of_accepted-image : (types : List NamedType) (port : Port) → IsOfAccepted types port
    → IsFirstImage (plant_port types port)
    (with_all_bytes port.sizes (replicate (image_size port.sizes) 0) (map (placed_symbol first_bytes) (table_of types port).symbols))
of_accepted-image types port a =
    let p = plant_port types port in
    let sound = of_accepted-sound types port a in
    let f = filled (p ∷ []) p plant_first_bytes sound (each-fills p p.symbols sound.symbols) in
    let same = placed-table types first_bytes plant_first_bytes port.symbols (λ s. refl) in
    let image : IsFirstImage p (with_all_bytes port.sizes (replicate (image_size port.sizes) 0) (map (placed plant_first_bytes) p.symbols))
    = record { long = f.long; symbols = f.symbols; gaps = f.gaps } in
    subst (λ bs. IsFirstImage p (with_all_bytes port.sizes (replicate (image_size port.sizes) 0) bs)) (sym same) image

-- one more port
pub first_ports-more : (types : List NamedType) (version : ℕ) (manner : Manner) (ps : List Port) (ms : List PortMemory) (p : Port) (m : PortMemory)
    → AreFirstPorts types version manner ps ms
    → IsFirstPort types p version manner m → AreFirstPorts types version manner (ps ++ p ∷ []) (ms ++ m ∷ [])
first_ports-more types version manner [] [] p m h first = (first, tt)
first_ports-more types version manner [] (n ∷ ms) p m h first = absurd h
first_ports-more types version manner (q ∷ ps) [] p m h first = absurd h
first_ports-more types version manner (q ∷ ps) (n ∷ ms) p m h first = (h.0, first_ports-more types version manner ps ms p m (h.1) first)

-- the table that was built of a port
pub of_accepted-table : (types given : List NamedType) (port : Port) (table : SymbolTable) → IsOfAccepted types port → given ≡ types
    → table ≡ table_of given port
    → IsTableOf types port table
of_accepted-table types given port table a same e =
    record { placed = of_accepted-placed types port a; same = e ∙ ap (λ ts. table_of ts port) same }

pub of_accepted-fits : (types : List NamedType) (port : Port) (table : SymbolTable) (rows : List SymbolRow) → IsOfAccepted types port
    → IsTableOf types port table
    → symbols_of_rows rows ≡ table.symbols → All (FitsRow port.sizes) rows
of_accepted-fits types port table rows a t e = of_accepted-fit types port rows a (e ∙ ap (λ (x : SymbolTable). x.symbols) t.same)

pub of_accepted-upload : (types : List NamedType) (port : Port) (table : SymbolTable) → IsOfAccepted types port → IsTableOf types port table
    → upload_size types (described table) ≤ 2000000
of_accepted-upload types port table a t =
    let few = port_upload types a.signals a.before (of_accepted-port types port a) in
    let same = upload-otherwise types a.before port a.otherwise in
    subst (λ ss. upload_size types ss ≤ 2000000) (sym (described_symbols types port table t.same)) (subst (λ n. n ≤ 2000000) (sym same) few)

pub of_accepted-texts : (types : List NamedType) (port : Port) (table : SymbolTable) → IsOfAccepted types port → IsTableOf types port table
    → list_all has_short_texts table.symbols ≡ true
of_accepted-texts types port table a t =
    let P : SymbolTable → Type 0 = λ x. list_all has_short_texts x.symbols ≡ true in
    subst P (sym t.same) (texts-otherwise types a.before port a.otherwise (port_texts types a.signals a.before (of_accepted-port types port a)))

pub of_accepted-sizes : (types : List NamedType) (port : Port) (table : SymbolTable) → IsTableOf types port table → table.sizes ≡ port.sizes
of_accepted-sizes types port table t = ap (λ (x : SymbolTable). x.sizes) t.same

pub of_accepted-first : (types : List NamedType) (port : Port) (table : SymbolTable) (rows : List SymbolRow) (image : List ℕ) → IsOfAccepted types port
    → IsTableOf types port table → symbols_of_rows rows ≡ table.symbols
    → image ≡ with_all_bytes port.sizes (replicate (image_size port.sizes) 0) (map (placed_symbol (λ (s : TableSymbol). s.initial)) (symbols_of_rows rows))
    → IsFirstImage (plant_port types port) image
of_accepted-first types port table rows image a t e i =
    let symbols = e ∙ ap (λ (x : SymbolTable). x.symbols) t.same in
    let filled_ : List TableSymbol → List ℕ = λ ss. with_all_bytes port.sizes (replicate (image_size port.sizes) 0) (map (placed_symbol first_bytes) ss) in
    subst (IsFirstImage (plant_port types port)) (sym (i ∙ ap filled_ symbols)) (of_accepted-image types port a)

-- there are few symbols
pub few_rows : (types : List NamedType) (port : Port) (table : SymbolTable) (rows : List SymbolRow) → IsTableOf types port table
    → symbols_of_rows rows ≡ table.symbols
    → length rows ≤ 10000
few_rows types port table rows t e =
    let one = length-map rows symbol_of_row in
    let all = length-map port.symbols (table_symbol types) in
    let same : length (symbols_of_rows rows) ≡ length (map (table_symbol types) port.symbols) = ap length (e ∙ ap (λ (x : SymbolTable). x.symbols) t.same) in
    let count = t.placed.count in
    omega (arith, one, all, same, count)
