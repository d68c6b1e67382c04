-- What is answered to a name: a value, or an info.
use Rattle.std.proofs.Common.{◌≡◌, ℕ, ◌+◌, List, ◌++◌, map, true, false, refl, sym, ◌∙◌, ap}
use Rattle.std.specs.Prelude.{Bool, Option, Some, None, Result, Ok, Err, IfOk, nat_lt, if◌then◌else◌}
use Rattle.ads_base.specs.declared.no_memory.NoMemory.{NoMemory}
use Rattle.std.specs.Int.{w32, to_le_bytes}
use Rattle.std.proofs.lemmas.Bool.{false≢true}
use Rattle.return_codes.specs.declared.code.Code.{Code}
use Rattle.return_codes.specs.declared.code.Code.TheVariants.{C705, C710}
use Rattle.return_codes.specs.Code.{number_of}
use Rattle.type_layout.specs.Descriptions.{area_of}
use Rattle.index_groups.specs.Groups.{byte_number, group_meant}
use Rattle.spec_plant.specs.Listed.{NamedType}
use Rattle.spec_plant.specs.Description.{Area, Inputs, Outputs, Memory, Process}
use Rattle.spec_plant.specs.World.{PlantPort}
use Rattle.spec_plant.specs.Finding as plant
use Rattle.spec_plant.specs.Finding.{found_of}
use Rattle.spec_formats.specs.Codes.{invalid_group, invalid_size}
use Rattle.spec_formats.specs.Groups.{ValueByName, InfoByName, ExtendedInfoByName}
use Rattle.spec_machine.specs.World.{World, Setup, setup_of}
use Rattle.spec_machine.specs.Access.{Addressed, WholeByte}
use Rattle.spec_machine.specs.Client as client
use Rattle.spec_machine.specs.Client.{names_of_place}
use Rattle.spec_machine.specs.Acts.{Act, Refusal, fixed_data, reading}
use Rattle.spec_machine.specs.ByName.{place_of, value_act, info_of, if_found, read_write_group}
use Rattle.spec_machine.specs.Entries.{group_of_area, entry_of_part}
use Rattle.spec_formats.specs.SymbolEntry.{entry_bytes}
use Rattle.name_paths.specs.Path.{Step, steps_of}
use Rattle.spec_machine.specs.Reads.{fixed_reply, read_act}
use Rattle.symbol_table.specs.declared.found.Found.{Found}
use Rattle.symbol_table.specs.declared.place.Place.{Place}
use Rattle.symbol_table.specs.FoundPlaces.{Finds}
use Rattle.index_groups.specs.declared.groups.Group as code
use Rattle.index_groups.specs.declared.groups.Group.TheVariants as value
use Rattle.index_groups.specs.declared.groups.HandleGroup.TheVariants as handle
use Rattle.index_groups.specs.declared.groups.UploadGroup.TheVariants as upload
use Rattle.index_groups.specs.declared.groups.SumGroup.TheVariants as sum
use Rattle.port_device.specs.PortMemory.{PortMemory}
use Rattle.port_device.specs.Groups.{without_handles}
use Rattle.port_device.specs.Holds.{HoldsPort}
use Rattle.port_device.specs.Answers.{AnswersAct, IsNamed, FindsPlace, place_read_act, path_entry_act}
use Rattle.port_device.proofs.NameLemmas.{found_by_path, found_by_none}
use Rattle.port_device.proofs.ReadLemmas.{answers_along, refusal_answers}

-- the groups of what a name leads to
abbrev pub is_name : code.Group → Bool
is_name (value.Name which) = true
is_name group = false

pub asked_otherwise : (s : Setup) (c : client.Client) (p : PlantPort) (g : code.Group) (len : ℕ) (name : List ℕ) → is_name g ≡ false
    → read_write_group s c p (without_handles (Some (group_meant g))) len name ≡ Refusal invalid_group
unfolding read_write_group
asked_otherwise s c p (value.Bytes area) len name h = refl
asked_otherwise s c p (value.Bit area) len name h = refl
asked_otherwise s c p (value.Size area) len name h = refl
asked_otherwise s c p (value.Handle handle.ByName) len name h = refl
asked_otherwise s c p (value.Handle handle.Value) len name h = refl
asked_otherwise s c p (value.Handle handle.Release) len name h = refl
asked_otherwise s c p (value.Name which) len name h = absurd (false≢true (sym h))
asked_otherwise s c p value.Version len name h = refl
asked_otherwise s c p (value.Upload upload.Symbols) len name h = refl
asked_otherwise s c p (value.Upload upload.Info) len name h = refl
asked_otherwise s c p (value.Upload upload.Types) len name h = refl
asked_otherwise s c p (value.Upload upload.InfoWithTypes) len name h = refl
asked_otherwise s c p (value.Sum sum.Read) len name h = refl
asked_otherwise s c p (value.Sum sum.Write) len name h = refl
asked_otherwise s c p (value.Sum sum.ReadWrite) len name h = refl

pub asked_nothing : (s : Setup) (c : client.Client) (p : PlantPort) (len : ℕ) (name : List ℕ) → read_write_group s c p None len name ≡ Refusal invalid_group
unfolding read_write_group
asked_nothing s c p len name = refl

-- a value

chosen : (b : Bool) (places : List Addressed) → (if b then Refusal invalid_size else reading places) ≡ read_act (if b then Err invalid_size else Ok places)
chosen true places = refl
chosen false places = refl

pub named_value : (w : World) (c : client.Client) (p : PlantPort) (len : ℕ) (name : List ℕ) (place : Place) (answer : Result (Unit {0}) Code) (old new : List ℕ)
    (o : Option plant.Found) → found_of p.symbols name ≡ o → FindsPlace w p o (Ok place)
    → ((named : client.Place) → IsNamed w p place named → AnswersAct w (place_read_act p named len) answer old new)
    → AnswersAct w (read_write_group (setup_of w) c p (Some ValueByName) len name) answer old new
unfolding read_write_group
named_value w c p len name place answer old new None e finds read = absurd finds
named_value w c p len name place answer old new (Some led) e finds read =
    let named = place_of led in
    answers_along w (place_read_act p named len) (if_found (found_of p.symbols name) (λ f. value_act p len (place_of f))) answer old new
    (ap (λ x. if_found x (λ f. value_act p len (place_of f))) e ∙ chosen (nat_lt named.len len) (map WholeByte (names_of_place p.number named len)))
    (read named finds)

pub unknown_value : (w : World) (c : client.Client) (p : PlantPort) (len : ℕ) (name : List ℕ) (code : Code) (out : List ℕ) (o : Option plant.Found)
    → found_of p.symbols name ≡ o → FindsPlace w p o (Err code)
    → AnswersAct w (read_write_group (setup_of w) c p (Some ValueByName) len name) (Err code) out out
unfolding read_write_group
unknown_value w c p len name code out None e finds =
    refusal_answers w (if_found (found_of p.symbols name) (λ f. value_act p len (place_of f))) code out
    (ap (λ x. if_found x (λ f. value_act p len (place_of f))) e ∙ ap (λ x. Refusal (number_of x)) (sym finds))
unknown_value w c p len name code out (Some led) e finds = absurd finds

-- an info

pub info_short : (w : World) (c : client.Client) (p : PlantPort) (len : ℕ) (name out : List ℕ) → nat_lt len 12 ≡ true
    → AnswersAct w (read_write_group (setup_of w) c p (Some InfoByName) len name) (Err C705) out out
unfolding read_write_group
info_short w c p len name out h =
    refusal_answers w (if nat_lt len 12 then Refusal invalid_size else if_found (found_of p.symbols name) (λ f. fixed_data (info_of f))) C705 out
    (ap (λ b. if b then Refusal invalid_size else if_found (found_of p.symbols name) (λ f. fixed_data (info_of f))) h)

pub info_unknown : (w : World) (c : client.Client) (p : PlantPort) (types : List NamedType) (len : ℕ) (name out : List ℕ) (o : Option plant.Found)
    → nat_lt len 12 ≡ false → found_of p.symbols name ≡ o → Finds types p.symbols o None
    → AnswersAct w (read_write_group (setup_of w) c p (Some InfoByName) len name) (Err C710) out out
unfolding read_write_group
info_unknown w c p types len name out None h e finds =
    refusal_answers w (if nat_lt len 12 then Refusal invalid_size else if_found (found_of p.symbols name) (λ f. fixed_data (info_of f))) C710 out
    (ap (λ b. if b then Refusal invalid_size else if_found (found_of p.symbols name) (λ f. fixed_data (info_of f))) h
    ∙ ap (λ x. if_found x (λ f. fixed_data (info_of f))) e)
info_unknown w c p types len name out (Some led) h e finds = absurd finds

pub same_group : (area : Area) → byte_number area ≡ group_of_area area
same_group Inputs = refl
same_group Outputs = refl
same_group Memory = refl
same_group Process = refl

abbrev pub info_at : Place → List ℕ
info_at place = to_le_bytes w32 (byte_number (area_of place.area)) ++ to_le_bytes w32 place.«at» ++ to_le_bytes w32 place.len

pub info_found : (w : World) (c : client.Client) (p : PlantPort) (types : List NamedType) (len : ℕ) (name old new : List ℕ) (found : Found)
    (o : Option plant.Found) → nat_lt len 12 ≡ false → found_of p.symbols name ≡ o → Finds types p.symbols o (Some found) → new ≡ old ++ info_at found.place
    → AnswersAct w (read_write_group (setup_of w) c p (Some InfoByName) len name) (Ok tt) old new
unfolding read_write_group
info_found w c p types len name old new found None h e finds put = absurd finds
info_found w c p types len name old new found (Some led) h e finds put =
    let same : info_at found.place ≡ info_of led =
    ap (λ n. to_le_bytes w32 n ++ to_le_bytes w32 found.place.«at» ++ to_le_bytes w32 found.place.len) (same_group (area_of found.place.area))
    ∙ ap (λ a. to_le_bytes w32 (group_of_area a) ++ to_le_bytes w32 found.place.«at» ++ to_le_bytes w32 found.place.len) finds.area
    ∙ ap (λ n. to_le_bytes w32 (group_of_area led.symbol.area) ++ to_le_bytes w32 n ++ to_le_bytes w32 found.place.len) finds.offset
    ∙ ap (λ n. to_le_bytes w32 (group_of_area led.symbol.area) ++ to_le_bytes w32 (led.symbol.offset + led.part.first) ++ to_le_bytes w32 n) finds.len in
    answers_along w (fixed_data (info_of led))
    (if nat_lt len 12 then Refusal invalid_size else if_found (found_of p.symbols name) (λ f. fixed_data (info_of f)))
    (Ok tt) old new
    (ap (λ b. if b then Refusal invalid_size else if_found (found_of p.symbols name) (λ f. fixed_data (info_of f))) h
    ∙ ap (λ x. if_found x (λ f. fixed_data (info_of f))) e)
    (refl, put ∙ ap (λ bs. old ++ bs) same)

-- an entry

pub entry_asked : (s : Setup) (c : client.Client) (p : PlantPort) (path : List Step) (len : ℕ) (name : List ℕ) → steps_of (plant.without_nul name) ≡ Some path
    → read_write_group s c p (Some ExtendedInfoByName) len name ≡ path_entry_act s.profile.manner p path len
unfolding read_write_group
entry_asked s c p path len name e =
    sym (ap (λ o. if_found o (λ f. fixed_reply len (entry_bytes (entry_of_part s.profile.manner f)))) (found_by_path p.symbols name path e))

pub entry_unknown : (w : World) (c : client.Client) (p : PlantPort) (len : ℕ) (name out : List ℕ) → steps_of (plant.without_nul name) ≡ None
    → AnswersAct w (read_write_group (setup_of w) c p (Some ExtendedInfoByName) len name) (Err C710) out out
unfolding read_write_group
entry_unknown w c p len name out e =
    refusal_answers w (if_found (found_of p.symbols name) (λ f. fixed_reply len (entry_bytes (entry_of_part w.profile.manner f)))) C710 out
    (sym (ap (λ o. if_found o (λ f. fixed_reply len (entry_bytes (entry_of_part w.profile.manner f)))) (found_by_none p.symbols name e)))

-- answers that are passed on

pub value_passed : (m : PortMemory) (place : Place) (len : ℕ) (name : List ℕ) (r : Result (Result (Unit {0}) Code) NoMemory) (old new : List ℕ)
    → ((w : World) (p : PlantPort) → HoldsPort w p m → FindsPlace w p (found_of p.symbols name) (Ok place))
    → IfOk r (λ answer. (w : World) (p : PlantPort) (named : client.Place) → HoldsPort w p m → IsNamed w p place named
    → AnswersAct w (place_read_act p named len) answer old new)
    → IfOk r (λ answer. (w : World) (c : client.Client) (p : PlantPort) → HoldsPort w p m
    → AnswersAct w (read_write_group (setup_of w) c p (Some ValueByName) len name) answer old new)
value_passed m place len name (Ok answer) old new finds h = λ w c p held.
    named_value w c p len name place answer old new (found_of p.symbols name) refl (finds w p held) (λ named t. h w p named held t)
value_passed m place len name (Err no_memory) old new finds h = h
