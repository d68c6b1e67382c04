-- Which act a read of an upload is, and what is answered to it.
use Rattle.std.proofs.Common.{◌≡◌, ℕ, ◌<◌, ◌≤◌, List, [], ◌∷◌, ◌++◌, length, map, true, false, refl, sym, ◌∙◌, ap, arith}
use Rattle.std.specs.Prelude.{Some, Ok, Err, nat_lt, flat_map, if◌then◌else◌}
use Rattle.std.specs.Int.{w32, to_le_bytes}
use Rattle.std.proofs.lemmas.Bool.{lt-ltb, ltb-true}
use Rattle.std.proofs.lemmas.List.{append-nil, length-map}
use Rattle.return_codes.specs.declared.code.Code.{Code}
use Rattle.return_codes.specs.declared.code.Code.TheVariants.{C705}
use Rattle.return_codes.specs.Code.{number_of}
use Rattle.spec_plant.specs.Description.{Symbol}
use Rattle.spec_plant.specs.Listed.{NamedType}
use Rattle.spec_plant.specs.World.{plant_symbol}
use Rattle.spec_formats.specs.Codes.{invalid_size}
use Rattle.spec_formats.specs.SymbolEntry.{upload_bytes}
use Rattle.spec_machine.specs.Acts.{Refusal, fixed_data}
use Rattle.spec_machine.specs.Entries.{entry_of_symbol, symbol_upload_of, upload_info_of, upload_info_with_types_of}
use Rattle.spec_plant.specs.World.{PlantPort}
use Rattle.spec_machine.specs.Manner.{Manner}
use Rattle.spec_plant.specs.Entries.{upload_size}
use Rattle.spec_machine.specs.World.{World, Setup}
use Rattle.spec_machine.specs.Client as client
use Rattle.spec_machine.specs.Reads.{fixed_reply, read_group}
use Rattle.port_device.specs.Groups.{without_handles}
use Rattle.symbol_table.specs.Tables.{SymbolTable, table_symbol}
use Rattle.port_device.specs.PortMemory.{PortMemory}
use Rattle.port_device.specs.Holds.{HoldsPort}
use Rattle.port_device.specs.Answers.{AnswersAct}
use Rattle.port_device.specs.Uploads.{upload_act, described, symbols_upload, types_upload}
use Rattle.port_device.proofs.GroupLemmas.{is_false}
use Rattle.port_device.proofs.ReadLemmas.{answers_along}
use Rattle.spec_laws.proofs.Modest.{length-upload}
use Rattle.port_device.proofs.UploadLengths.{described_symbols}
use Rattle.index_groups.specs.declared.groups.UploadGroup.{UploadGroup}
use Rattle.index_groups.specs.declared.groups.UploadGroup.TheVariants.{Symbols, Info, Types, InfoWithTypes}
use Rattle.index_groups.specs.Groups.{upload_meant}

pub read_of_upload : (d : Setup) (c : client.Client) (p : PlantPort) (u : UploadGroup) (offset len : ℕ)
    → read_group d c p (without_handles (Some (upload_meant u))) offset len ≡ upload_act d p u len
unfolding read_group
read_of_upload d c p Symbols offset len = refl
read_of_upload d c p Info offset len = refl
read_of_upload d c p Types offset len = refl
read_of_upload d c p InfoWithTypes offset len = refl

-- what has more bytes than were asked for is refused, and else given

pub fixed_refused : (w : World) (len size : ℕ) (bytes out : List ℕ) → size ≡ length bytes → len < size → AnswersAct w (fixed_reply len bytes) (Err C705) out out
fixed_refused w len size bytes out e h =
    let short : nat_lt len (length bytes) ≡ true = lt-ltb len (length bytes) (omega (arith, e, h)) in
    answers_along w (Refusal invalid_size) (fixed_reply len bytes) (Err C705) out out
    (ap (λ b. if b then Refusal invalid_size else fixed_data bytes) short) (refl, refl)

pub fixed_given : (w : World) (len size : ℕ) (bytes put old new : List ℕ) → size ≡ length bytes → size ≤ len → put ≡ bytes → new ≡ old ++ put
    → AnswersAct w (fixed_reply len bytes) (Ok tt) old new
fixed_given w len size bytes put old new e h same there =
    let enough : nat_lt len (length bytes) ≡ false = is_false (nat_lt len (length bytes)) (λ t. omega (arith, ltb-true len (length bytes) t, e, h)) in
    answers_along w (fixed_data bytes) (fixed_reply len bytes) (Ok tt) old new
    (ap (λ b. if b then Refusal invalid_size else fixed_data bytes) enough)
    (refl, there ∙ ap (λ bs. old ++ bs) (same ∙ sym (append-nil bytes)))

-- the upload of a port's table is that of the plant's port
pub upload_at_port : (w : World) (p : PlantPort) (m : PortMemory) → HoldsPort w p m → (x : Manner) → symbols_upload x m.types m.table ≡ symbol_upload_of x p
upload_at_port w p m h x =
    ap (λ (ss : List Symbol). upload_bytes (map (entry_of_symbol x) (map (plant_symbol m.types) ss))) (described_symbols m.types h.port m.table h.table.same)
    ∙ sym (ap (λ (q : PlantPort). upload_bytes (map (entry_of_symbol x) q.symbols)) h.plant)

-- its length is that of its symbols' entries
pub size_at_port : (w : World) (p : PlantPort) (m : PortMemory) → HoldsPort w p m → (x : Manner) (size : ℕ) → size ≡ upload_size m.types (described m.table)
    → size ≡ length (symbol_upload_of x p)
size_at_port w p m h x size e = e ∙ sym (length-upload x m.types (described m.table)) ∙ ap length (upload_at_port w p m h x)

-- so many symbols has the plant's port
pub count_at_port : (w : World) (p : PlantPort) (m : PortMemory) → HoldsPort w p m → length m.table.symbols ≡ length p.symbols
count_at_port w p m h =
    ap (λ (t : SymbolTable). length t.symbols) h.table.same ∙ length-map h.port.symbols (table_symbol m.types)
    ∙ sym (length-map h.port.symbols (plant_symbol m.types)) ∙ sym (ap (λ (q : PlantPort). length q.symbols) h.plant)

-- numbers of 4 bytes
abbrev pub four_bytes : List ℕ → List ℕ
four_bytes numbers = flat_map (to_le_bytes w32) numbers

pub sizes_put : (w : World) (p : PlantPort) (m : PortMemory) (count size : ℕ) → HoldsPort w p m → count ≡ length m.table.symbols
    → size ≡ upload_size m.types (described m.table) → four_bytes (count ∷ size ∷ []) ≡ upload_info_of w.profile.manner p
sizes_put w p m count size h ec es =
    let counts = ec ∙ count_at_port w p m h in
    let sizes = size_at_port w p m h w.profile.manner size es in
    ap (λ n. four_bytes (n ∷ size ∷ [])) counts ∙ ap (λ n. four_bytes (length p.symbols ∷ n ∷ [])) sizes

pub all_sizes_put : (w : World) (p : PlantPort) (m : PortMemory) (count size named bytes : ℕ) → HoldsPort w p m → count ≡ length m.table.symbols
    → size ≡ upload_size m.types (described m.table) → named ≡ length m.types → bytes ≡ length (types_upload m.types)
    → four_bytes (count ∷ size ∷ named ∷ bytes ∷ 0 ∷ 0 ∷ []) ≡ upload_info_with_types_of w.profile.manner w.plant p
all_sizes_put w p m count size named bytes h ec es en eb =
    let counts = ec ∙ count_at_port w p m h in
    let sizes = size_at_port w p m h w.profile.manner size es in
    let types = en ∙ ap (λ (ts : List NamedType). length ts) h.types in
    let own = eb ∙ ap (λ (ts : List NamedType). length (types_upload ts)) h.types in
    ap (λ n. four_bytes (n ∷ size ∷ named ∷ bytes ∷ 0 ∷ 0 ∷ [])) counts
    ∙ ap (λ n. four_bytes (length p.symbols ∷ n ∷ named ∷ bytes ∷ 0 ∷ 0 ∷ [])) sizes
    ∙ ap (λ n. four_bytes (length p.symbols ∷ length (symbol_upload_of w.profile.manner p) ∷ n ∷ bytes ∷ 0 ∷ 0 ∷ [])) types
    ∙ ap (λ n. four_bytes (length p.symbols ∷ length (symbol_upload_of w.profile.manner p) ∷ length w.plant.types ∷ n ∷ 0 ∷ 0 ∷ [])) own
