-- The entries of the persistent symbols that ports keep are those of the world that they hold.
use Rattle.std.proofs.Common.{◌≡◌, ℕ, zero, suc, ◌+◌, ◌<◌, ◌^◌, List, [], ◌∷◌, ◌++◌, map, length, true, refl, sym}
use Rattle.std.proofs.Common.{◌∙◌, ap, subst, inl, inr, arith, append_assoc}
use Rattle.std.specs.Prelude.{Some, Result, Ok, Err, OnOk, flat_map, count_by, slice_get, option_map, if◌then◌else◌}
use Rattle.std.specs.Int.{w32, to_le_bytes}
use Rattle.std.specs.List.{list_all, All}
use Rattle.std.proofs.lemmas.Bool.{cases_Bool}
use Rattle.std.proofs.lemmas.List.{length-append, flat_map_more}
use Rattle.std.proofs.lemmas.List.Sums.{sum_by-cons}
use Rattle.std.proofs.lemmas.Grind.{flat_map-append}
use Rattle.std.proofs.lemmas.List.Elements.{All-append}
use Rattle.std.proofs.lemmas.Option.{slice_get-map}
use Rattle.ads_base.specs.declared.no_memory.NoMemory.{NoMemory}
use Rattle.spec_plant.specs.Listed.{NamedType}
use Rattle.spec_plant.specs.Description.{Symbol}
use Rattle.spec_plant.specs.World.{PlantPort, PlantSymbol, Block, plant_symbol, plant_port, symbol_size, lower_name}
use Rattle.spec_plant.specs.Sound.{IsSoundSymbol, IsSoundPort}
use Rattle.spec_plant.proofs.SoundLemmas.{each-get}
use Rattle.spec_formats.proofs.Appends.{two_parts}
use Rattle.spec_machine.specs.World.{World, names_at, symbol_names}
use Rattle.spec_machine.specs.Access.{WholeByte, values_at}
use Rattle.spec_machine.specs.PortBytes.{PortBytes, image_bytes}
use Rattle.spec_machine.specs.PortBytes as bytes
use Rattle.spec_machine.proofs.AreaNames.{spans_give_names}
use Rattle.spec_machine.proofs.PortBytesLemmas.{reads_image}
use Rattle.spec_store.specs.BodyText.{StoredEntry, FitsEntry, entry_bytes, body_text}
use Rattle.spec_persistent.specs.Persistent.{value_of_symbol, entry_of_symbol, persistent_symbols, entries_of_port, entries_of_ports}
use Rattle.type_layout.specs.Forms.{form_of}
use Rattle.symbol_table.specs.Tables.{SymbolTable, table_symbol, IsTableWith}
use Rattle.symbol_table.specs.Rows.{symbols_of_rows, IsSizedRow}
use Rattle.symbol_table.specs.declared.row.SymbolRow.{SymbolRow}
use Rattle.port_device.specs.PortMemory.{PortMemory, PortsMemory}
use Rattle.port_device.specs.Holds.{HoldsPort, HoldEach, HoldsPorts}
use Rattle.port_device.specs.PersistentRows.{entry_with, stored_entry, symbol_entries}
use Rattle.port_device.specs.PersistentRows.{row_entries, rows_entries, port_entries, ports_entries, IsStoredRow}
use Rattle.port_device.specs.Uploads.{has_short_texts}
use Rattle.port_device.proofs.EntryRows.{entry_rows}
use Rattle.port_device.proofs.MarkLemmas.{rows_within}

-- the rows of a port and its symbols

flat_map-rows : (m : PortMemory) (rows : List SymbolRow) → rows_entries m rows ≡ flat_map (symbol_entries m) (symbols_of_rows rows)
flat_map-rows m [] = refl
flat_map-rows m (r ∷ rows) = ap (λ es. row_entries m r ++ es) (flat_map-rows m rows)

pub rows_are_port : (m : PortMemory) (rows : List SymbolRow) → symbols_of_rows rows ≡ m.table.symbols → rows_entries m rows ≡ port_entries m
unfolding port_entries
rows_are_port m rows e = flat_map-rows m rows ∙ ap (λ ss. flat_map (symbol_entries m) ss) e

one-or-none : (m : PortMemory) (r : SymbolRow) → length (row_entries m r) ≡ (if r.persistent then 1 else 0)
unfolding symbol_entries
one-or-none m r =
    elim (cases_Bool r.persistent) [
      | inl t ↦ rw t refl
      | inr f ↦ rw f refl
    ]

pub rows-count : (m : PortMemory) (rows : List SymbolRow) → length (rows_entries m rows) ≡ count_by (λ (r : SymbolRow). r.persistent) rows
rows-count m [] = refl
rows-count m (r ∷ rows) =
    let one : SymbolRow → ℕ = λ x. if x.persistent then 1 else 0 in
    length-append (row_entries m r) (rows_entries m rows) ∙ ap (λ k. k + length (rows_entries m rows)) (one-or-none m r)
    ∙ ap (λ k. one r + k) (rows-count m rows) ∙ sym (sum_by-cons one r rows)

-- written parts

-- one more in a loop
pub text-more : {X : Type 0} (f : X → List StoredEntry) (before : List X) (x : X) (start old new : List ℕ)
    → old ≡ start ++ flat_map entry_bytes (flat_map f before) → new ≡ old ++ flat_map entry_bytes (f x)
    → new ≡ start ++ flat_map entry_bytes (flat_map f (before ++ x ∷ []))
text-more f before x start old new was next =
    let joined : flat_map entry_bytes (flat_map f before) ++ flat_map entry_bytes (f x) ≡ flat_map entry_bytes (flat_map f (before ++ x ∷ []))
    = sym (flat_map-append entry_bytes (flat_map f before) (f x)) ∙ ap (flat_map entry_bytes) (flat_map_more f [] before x) in
    next ∙ ap (λ bs. bs ++ flat_map entry_bytes (f x)) was ∙ append_assoc start (flat_map entry_bytes (flat_map f before)) (flat_map entry_bytes (f x))
    ∙ ap (λ bs. start ++ bs) joined

pub fit-more : {X : Type 0} (f : X → List StoredEntry) (before : List X) (x : X) → All FitsEntry (flat_map f before) → All FitsEntry (f x)
    → All FitsEntry (flat_map f (before ++ x ∷ []))
fit-more f before x was own = subst (All FitsEntry) (flat_map_more f [] before x) (All-append FitsEntry (flat_map f before) (f x) was own)

-- the entries behind their number
pub body-text : (r : Result (Unit {0}) NoMemory) (es : List StoredEntry) (count : ℕ) (old mid new : List ℕ) → (length es < 2 ^ 32 → count ≡ length es)
    → mid ≡ old ++ to_le_bytes w32 count → OnOk r (new ≡ mid ++ flat_map entry_bytes es) → OnOk r (length es < 2 ^ 32 → new ≡ old ++ body_text es)
body-text (Ok done) es count old mid new counted first rest = λ few.
    two_parts old (to_le_bytes w32 (length es)) (flat_map entry_bytes es) mid new (first ∙ ap (λ n. old ++ to_le_bytes w32 n) (counted few)) rest
body-text (Err no_memory) es count old mid new counted first rest = rest

-- what was written of rows is of their port
pub as-port : (r : Result (Unit {0}) NoMemory) (xs ys : List StoredEntry) (old new : List ℕ) → xs ≡ ys → OnOk r (new ≡ old ++ flat_map entry_bytes xs)
    → OnOk r (new ≡ old ++ flat_map entry_bytes ys)
as-port (Ok done) xs ys old new e h = h ∙ ap (λ es. old ++ flat_map entry_bytes es) e
as-port (Err no_memory) xs ys old new e h = h

pub fit-port : (r : Result (Unit {0}) NoMemory) (xs ys : List StoredEntry) → xs ≡ ys → OnOk r (All FitsEntry xs) → OnOk r (All FitsEntry ys)
fit-port (Ok done) xs ys e h = subst (All FitsEntry) e h
fit-port (Err no_memory) xs ys e h = h

-- each row is one of which an entry can tell
pub stored-rows : (m : PortMemory) (rows : List SymbolRow) → symbols_of_rows rows ≡ m.table.symbols → IsTableWith m.types m.table
    → list_all has_short_texts m.table.symbols ≡ true → All (IsSizedRow m.types) rows → All (IsStoredRow m) rows
stored-rows m rows same with_ texts sized k d below =
    let entry = entry_rows m.types m.table rows same with_ texts sized k d below in
    record { sized = entry.sized; short_name = entry.short_name; within = rows_within m.types m.table rows with_ same k d below }

-- a symbol of a port has the bytes that stand under its names
value-held : (memory : List Block) (ports : List PlantPort) (p : PlantPort) (b : PortBytes) (n : ℕ) (s : PlantSymbol) → IsSoundPort ports p
    → bytes.Holds memory p b → slice_get p.symbols n ≡ Some s
    → image_bytes p.sizes b.image s.area s.offset (symbol_size s) ≡ value_of_symbol memory p.number s
value-held memory ports p b n s sound holds there =
    let size = symbol_size s in
    let within = (each-get (IsSoundSymbol p) p.symbols n s sound.symbols there).within in
    let names : names_at p s.area (s.offset + 0) size ≡ symbol_names p.number (lower_name s) 0 size
    = spans_give_names p n s 0 size sound.bytes there (omega arith) in
    let read : values_at memory (map WholeByte (names_at p s.area (s.offset + 0) size)) ≡ image_bytes p.sizes b.image s.area (s.offset + 0) size
    = reads_image memory p b s.area (s.offset + 0) size holds (omega (arith, within)) in
    let plain : s.offset + 0 ≡ s.offset = omega arith in
    sym (ap (λ k. image_bytes p.sizes b.image s.area k size) plain) ∙ sym read ∙ ap (λ ns. values_at memory (map WholeByte ns)) names

entries-same : (m : PortMemory) (memory : List Block) (number : ℕ) (types : List NamedType) (ss : List Symbol)
    → ((n : ℕ) (s : Symbol) → slice_get ss n ≡ Some s → stored_entry m (table_symbol types s) ≡ entry_of_symbol memory number (plant_symbol types s))
    → flat_map (symbol_entries m) (map (table_symbol types) ss) ≡ map (entry_of_symbol memory number) (persistent_symbols (map (plant_symbol types) ss))
unfolding symbol_entries
entries-same m memory number types [] same = refl
entries-same m memory number types (s ∷ ss) same =
    let rest = entries-same m memory number types ss (λ n x e. same (suc n) x e) in
    elim (cases_Bool s.persistent) [
      | inl t ↦ rw t (ap (λ e. e ∷ flat_map (symbol_entries m) (map (table_symbol types) ss)) (same zero s refl)
          ∙ ap (λ es. entry_of_symbol memory number (plant_symbol types s) ∷ es) rest)
      | inr f ↦ rw f rest
    ]

pub port-held : (w : World) (p : PlantPort) (m : PortMemory) → HoldsPort w p m → port_entries m ≡ entries_of_port w.memory p
unfolding port_entries
port-held w p m h =
    let q = plant_port m.types h.port in
    let sound : IsSoundPort w.plant.ports q = subst (IsSoundPort w.plant.ports) h.plant h.sound in
    let holds : bytes.Holds w.memory q m.bytes = subst (λ x. bytes.Holds w.memory x m.bytes) h.plant h.holds in
    let same : flat_map (symbol_entries m) (map (table_symbol m.types) h.port.symbols) ≡ entries_of_port w.memory q
    = entries-same m w.memory h.port.number m.types h.port.symbols (λ n s e. entry-held q sound holds n s e) in
    ap (λ (t : SymbolTable). flat_map (symbol_entries m) t.symbols) h.table.same ∙ same ∙ ap (entries_of_port w.memory) (sym h.plant)
  where
    entry-held : (q : PlantPort) → IsSoundPort w.plant.ports (plant_port m.types h.port) → bytes.Holds w.memory (plant_port m.types h.port) m.bytes
        → (n : ℕ) (s : Symbol) → slice_get h.port.symbols n ≡ Some s
        → stored_entry m (table_symbol m.types s) ≡ entry_of_symbol w.memory h.port.number (plant_symbol m.types s)
    entry-held q sound holds n s e =
        let x = plant_symbol m.types s in
        let there : slice_get (map (plant_symbol m.types) h.port.symbols) n ≡ Some x
        = slice_get-map (plant_symbol m.types) h.port.symbols n ∙ ap (option_map (plant_symbol m.types)) e in
        let value = value-held w.memory w.plant.ports (plant_port m.types h.port) m.bytes n x sound holds there in
        let sizes = ap (λ (t : SymbolTable). t.sizes) h.table.same in
        let mine : image_bytes m.table.sizes m.bytes.image s.area s.offset (symbol_size x) ≡ value_of_symbol w.memory h.port.number x
        = ap (λ z. image_bytes z m.bytes.image s.area s.offset (symbol_size x)) sizes ∙ value in
        let E : ℕ → List ℕ → StoredEntry = λ k bs. entry_with k s.name (form_of x.type) bs in
        ap (λ k. E k (image_bytes m.table.sizes m.bytes.image s.area s.offset (symbol_size x))) h.number ∙ ap (E h.port.number) mine

each-held : (w : World) (ps : List PlantPort) (ms : List PortMemory) → HoldEach w ps ms → ports_entries ms ≡ entries_of_ports w.memory ps
each-held w [] [] h = refl
each-held w [] (m ∷ ms) h = absurd h
each-held w (p ∷ ps) [] h = absurd h
each-held w (p ∷ ps) (m ∷ ms) h =
    ap (λ es. es ++ ports_entries ms) (port-held w p m (h.0)) ∙ ap (λ es. entries_of_port w.memory p ++ es) (each-held w ps ms (h.1))

pub ports-held : (w : World) (m : PortsMemory) → HoldsPorts w m → ports_entries m.ports ≡ entries_of_ports w.memory w.plant.ports
ports-held w m h = each-held w w.plant.ports m.ports h.each
