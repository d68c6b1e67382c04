-- The entry of what a path leads to.
use Rattle.std.proofs.Common.{◌≡◌, ℕ, ◌≤◌, List, [], ◌++◌, length, map, true, refl, sym, ◌∙◌, ap, subst, arith}
use Rattle.std.specs.Prelude.{Option, Some, None, Result, Ok, Err, IfOk, slice_get, option_map}
use Rattle.std.specs.List.{list_all}
use Rattle.std.proofs.lemmas.Option.{slice_get-map}
use Rattle.ads_base.specs.declared.no_memory.NoMemory.{NoMemory}
use Rattle.return_codes.specs.declared.code.Code.{Code}
use Rattle.name_paths.specs.Path.{Step}
use Rattle.spec_plant.specs.Listed.{NamedType}
use Rattle.spec_plant.specs.Description.{Port}
use Rattle.spec_plant.specs.Spelling.{type_text}
use Rattle.spec_plant.specs.Trees.{tree_of}
use Rattle.spec_plant.specs.World.{PlantPort, PlantSymbol, plant_symbol}
use Rattle.spec_plant.specs.Finding as plant
use Rattle.spec_plant.specs.Finding.{found_of_steps}
use Rattle.spec_formats.specs.SymbolEntry.{SymbolEntry, entry_bytes}
use Rattle.spec_formats.proofs.EntryLemmas.{same_entry}
use Rattle.spec_machine.specs.Manner.{Manner}
use Rattle.spec_machine.specs.World.{World}
use Rattle.spec_machine.specs.ByName.{if_found}
use Rattle.spec_machine.specs.Entries.{group_of_area, type_id_in, symbol_flags, entry_of_part}
use Rattle.spec_machine.specs.Reads.{fixed_reply}
use Rattle.symbol_info.specs.declared.entry.Entry.{Entry}
use Rattle.symbol_info.specs.Entry.{entry_meant, HasShortTexts}
use Rattle.symbol_table.specs.declared.found.Found.{Found}
use Rattle.symbol_table.specs.FoundPlaces.{Finds, IsFound, PutsName}
use Rattle.symbol_table.specs.Tables.{TableSymbol, SymbolTable, table_symbol, IsTableOf}
use Rattle.symbol_table.proofs.PlacesInOrder.{mapped_at}
use Rattle.type_layout.specs.Descriptions.{area_of}
use Rattle.type_layout.specs.Shapes.{shape_of_ref}
use Rattle.port_device.specs.PortMemory.{PortMemory}
use Rattle.port_device.specs.Holds.{HoldsPort}
use Rattle.port_device.specs.Answers.{AnswersAct, path_entry_act}
use Rattle.port_device.specs.Rows.{entry_at}
use Rattle.port_device.specs.Uploads.{has_short_texts}
use Rattle.port_device.proofs.AskLemmas.{same_group}
use Rattle.port_device.proofs.PartTexts.{found_short}
use Rattle.port_device.proofs.ReadLemmas.{answers_along}

-- what was written of what was found: its name, the text of its type, and an entry with these
pub record IsWritten (x : Manner) (types : List NamedType) (table : SymbolTable) (path : List Step) (found : Found)
    (name kind : List ℕ) (e : Entry) : Type 0 where
  pub name_is : PutsName types table path found.place.symbol [] name
  pub kind_is : kind ≡ type_text (tree_of types (shape_of_ref found.kind))
  pub entry_is : (s : TableSymbol) → slice_get table.symbols found.place.symbol ≡ Some s
      → entry_meant e ≡ entry_at x types s found.place (shape_of_ref found.kind) name kind found.comment.now

-- the calls that wrote them, each with its own view of the types and of what stood before
pub is_written : (x : Manner) (types named said told : List NamedType) (table : SymbolTable)
    (path : List Step) (found : Found) (start name before kind shown spelled : List ℕ) (e : Entry)
    → named ≡ types → said ≡ types → told ≡ types → start ≡ [] → before ≡ [] → shown ≡ name → spelled ≡ kind
    → PutsName named table path found.place.symbol start name → kind ≡ before ++ type_text (tree_of said (shape_of_ref found.kind))
    → ((s : TableSymbol) → slice_get table.symbols found.place.symbol ≡ Some s
    → entry_meant e ≡ entry_at x told s found.place (shape_of_ref found.kind) shown spelled found.comment.now)
    → IsWritten x types table path found name kind e
is_written x types named said told table path found start name before kind shown spelled e en es et is_start is_before en_ ek puts wrote tells = record {
  name_is = subst (λ ts. PutsName ts table path found.place.symbol [] name) en
      (subst (λ (old : List ℕ). PutsName named table path found.place.symbol old name) is_start puts);
  kind_is = wrote ∙ ap (λ (old : List ℕ). old ++ type_text (tree_of said (shape_of_ref found.kind))) is_before
      ∙ ap (λ ts. type_text (tree_of ts (shape_of_ref found.kind))) es;
  entry_is = λ s there. tells s there
      ∙ ap (λ ts. entry_at x ts s found.place (shape_of_ref found.kind) shown spelled found.comment.now) et
      ∙ ap (λ (t : List ℕ). entry_at x types s found.place (shape_of_ref found.kind) t spelled found.comment.now) en_
      ∙ ap (λ (t : List ℕ). entry_at x types s found.place (shape_of_ref found.kind) name t found.comment.now) ek;
}

part_told : (x : Manner) (types : List NamedType) (table : SymbolTable) (port : Port) (path : List Step) (found : Found)
    (name kind : List ℕ) (e : Entry) (led : plant.Found)
    → IsTableOf types port table → IsWritten x types table path found name kind e → found_of_steps (map (plant_symbol types) port.symbols) path ≡ Some led
    → IsFound types (map (plant_symbol types) port.symbols) led found → entry_meant e ≡ entry_of_part x led
unfolding entry_of_part
part_told x types table port path found name kind e led is_of written leads is_found =
    let n = found.place.symbol in
    let own = mapped_at (plant_symbol types) port.symbols n led.symbol is_found.symbol in
    let s = table_symbol types own.0 in
    let there : slice_get table.symbols n ≡ Some s
    = ap (λ (t : SymbolTable). slice_get t.symbols n) is_of.same
    ∙ slice_get-map (table_symbol types) port.symbols n ∙ ap (option_map (table_symbol types)) own.1 in
    written.entry_is s there
    ∙ same_entry _ _ _ _ _ _ _ _ (entry_of_part x led) (same_group (area_of found.place.area) ∙ ap group_of_area is_found.area) is_found.offset is_found.len
    (ap (type_id_in x) is_found.type) (ap symbol_flags own.2) (written.name_is port led is_of leads is_found.symbol)
    (written.kind_is ∙ ap type_text is_found.type) is_found.comment

-- the entry is that of what the path leads to
record TellsEntry (x : Manner) (symbols : List PlantSymbol) (path : List Step) (e : Entry) : Type 0 where
  led : plant.Found
  leads : found_of_steps symbols path ≡ Some led
  tells : entry_meant e ≡ entry_of_part x led

told : (x : Manner) (types : List NamedType) (table : SymbolTable) (port : Port) (path : List Step) (found : Found) (name kind : List ℕ) (e : Entry)
    → IsTableOf types port table → IsWritten x types table path found name kind e → (o : Option plant.Found)
    → found_of_steps (map (plant_symbol types) port.symbols) path ≡ o → Finds types (map (plant_symbol types) port.symbols) o (Some found)
    → TellsEntry x (map (plant_symbol types) port.symbols) path e
told x types table port path found name kind e is_of written None leads finds = absurd finds
told x types table port path found name kind e is_of written (Some led) leads finds =
    record { led = led; leads = leads; tells = part_told x types table port path found name kind e led is_of written leads finds }

short : (x : Manner) (led : plant.Found) (e : Entry) → entry_meant e ≡ entry_of_part x led → length (entry_of_part x led).name ≤ 5287
    → length (entry_of_part x led).type_name ≤ 400 → length (entry_of_part x led).comment ≤ 255 → HasShortTexts e
short x led e tells name kind comment = record {
  name = omega (arith, ap (λ (y : SymbolEntry). length y.name) tells, name);
  kind = omega (arith, ap (λ (y : SymbolEntry). length y.type_name) tells, kind);
  comment = omega (arith, ap (λ (y : SymbolEntry). length y.comment) tells, comment);
}

found_entry_short : (x : Manner) (types : List NamedType) (table : SymbolTable) (port : Port) (path : List Step) (e : Entry) → IsTableOf types port table
    → list_all has_short_texts table.symbols ≡ true → TellsEntry x (map (plant_symbol types) port.symbols) path e → HasShortTexts e
unfolding entry_of_part
found_entry_short x types table port path e is_of texts t =
    let s = found_short types table port is_of texts path t.led t.leads in
    short x t.led e t.tells s.name s.type s.comment

-- such an entry can be written
pub written_short : (x : Manner) (types : List NamedType) (table : SymbolTable) (port : Port) (path : List Step) (found : Found)
    (name kind : List ℕ) (e : Entry)
    → IsTableOf types port table → list_all has_short_texts table.symbols ≡ true
    → Finds types (map (plant_symbol types) port.symbols) (found_of_steps (map (plant_symbol types) port.symbols) path) (Some found)
    → IsWritten x types table path found name kind e → HasShortTexts e
written_short x types table port path found name kind e is_of texts finds written =
    found_entry_short x types table port path e is_of texts (told x types table port path found name kind e is_of written _ refl finds)

-- and it is what is answered
pub entry_answers : (w : World) (p : PlantPort) (m : PortMemory) (path : List Step) (found : Found) (name kind : List ℕ) (e : Entry) (len : ℕ)
    (answer : Result (Unit {0}) Code) (old new : List ℕ) → (h : HoldsPort w p m)
    → Finds m.types (map (plant_symbol m.types) h.port.symbols) (found_of_steps (map (plant_symbol m.types) h.port.symbols) path) (Some found)
    → IsWritten w.profile.manner m.types m.table path found name kind e → AnswersAct w (fixed_reply len (entry_bytes (entry_meant e))) answer old new
    → AnswersAct w (path_entry_act w.profile.manner p path len) answer old new
entry_answers w p m path found name kind e len answer old new h finds written given =
    let symbols = map (plant_symbol m.types) h.port.symbols in
    let t = told w.profile.manner m.types m.table h.port path found name kind e h.table written (found_of_steps symbols path) refl finds in
    let same : path_entry_act w.profile.manner p path len ≡ fixed_reply len (entry_bytes (entry_meant e)) =
    ap (λ (q : PlantPort). path_entry_act w.profile.manner q path len) h.plant
    ∙ ap (λ o. if_found o (λ f. fixed_reply len (entry_bytes (entry_of_part w.profile.manner f)))) t.leads
    ∙ ap (λ x. fixed_reply len (entry_bytes x)) (sym t.tells) in
    answers_along w (fixed_reply len (entry_bytes (entry_meant e))) (path_entry_act w.profile.manner p path len) answer old new same given

-- answers that are passed on
pub entry_passed : (m : PortMemory) (r : Result (Result (Unit {0}) Code) NoMemory) (e : Entry) (path : List Step) (found : Found) (name kind : List ℕ) (len : ℕ)
    (old new : List ℕ) → ((port : Port) → IsTableOf m.types port m.table
    → Finds m.types (map (plant_symbol m.types) port.symbols) (found_of_steps (map (plant_symbol m.types) port.symbols) path) (Some found))
    → IsWritten m.manner m.types m.table path found name kind e
    → IfOk r (λ answer. (w : World) → AnswersAct w (fixed_reply len (entry_bytes (entry_meant e))) answer old new)
    → IfOk r (λ answer. (w : World) (p : PlantPort) → HoldsPort w p m → AnswersAct w (path_entry_act w.profile.manner p path len) answer old new)
entry_passed m (Ok answer) e path found name kind len old new finds written given = λ w p h.
    entry_answers w p m path found name kind e len answer old new h (finds h.port h.table)
    (subst (λ x. IsWritten x m.types m.table path found name kind e) h.manner written) (given w)
entry_passed m (Err no_memory) e path found name kind len old new finds written given = given
