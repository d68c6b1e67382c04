-- A request adds a notification whose handle is one more than the additions so far.
use Rattle.std.proofs.Common.{◌≡◌, ℕ, ◌+◌, List, [], length, Bool, true, false, cond, refl}
use Rattle.std.specs.Prelude.{Option, Some, None, Result, Ok, Err, nat_lt, nat_le, ◌==◌, ◌||◌}
use Rattle.std.specs.Int.{w32, to_le_bytes}
use Rattle.spec_plant.specs.World.{PlantPort}
use Rattle.spec_plant.specs.Trees.{TypeTree}
use Rattle.spec_plant.specs.Finding.{Found, found_of}
use Rattle.spec_formats.specs.Codes.{invalid_size, invalid_group, symbol_not_found, watch_too_big, mode_not_supported, no_more_notifications}
use Rattle.spec_formats.specs.Groups.{Group, AreaSize, HandleByName, ValueByName, ReleaseHandle, InfoByName}
use Rattle.spec_formats.specs.Groups.{SymbolVersion, ExtendedInfoByName, SymbolUpload, UploadInfo, TypeUpload}
use Rattle.spec_formats.specs.Groups.{UploadInfoWithTypes}
use Rattle.spec_formats.specs.Request.{Request, ReadDeviceInfo, Read, Write, ReadState, WriteControl}
use Rattle.spec_formats.specs.Request.{AddDeviceNotification, DeleteDeviceNotification, DeviceNotification}
use Rattle.spec_formats.specs.Request.{ReadWrite}
use Rattle.spec_formats.specs.SymbolEntry.{entry_bytes}
use Rattle.spec_machine.specs.World.{Setup}
use Rattle.spec_machine.specs.Access.{Addressed, Put}
use Rattle.spec_machine.specs.Watches.{Watch, Mode}
use Rattle.spec_machine.specs.Client.{Client, Effect, NoEffect, Grants, Releases, Adds, Deletes}
use Rattle.spec_machine.specs.Acts.{Act, Refusal, Allowed, fixed_data, reading, writing, changing}
use Rattle.spec_machine.specs.Answers.{answered_group}
use Rattle.spec_machine.specs.Entries.{entry_of_part}
use Rattle.spec_machine.specs.Reach.{reach_of}
use Rattle.spec_machine.specs.Reads.{fixed_reply, read_act, read_group}
use Rattle.spec_machine.specs.Writes.{Asker, write_act, write_group, control_act}
use Rattle.spec_machine.specs.ByName.{MAX_NUMBER, place_of, grant_act, value_act, info_of, if_found, read_write_group}
use Rattle.spec_machine.specs.Meanings.{up_to_nul, meant_by}
use Rattle.spec_machine.specs.TypesByText.{tree_of_text}
use Rattle.spec_machine.specs.MoreActs.{if_type, states_reach, version_reach}
use Rattle.spec_machine.proofs.MoreActs.{act-cases}
use Rattle.spec_machine.specs.Requests.{MAX_WATCHED, MAX_WATCHES, next_watch, add_watch, add_reached, add_of_reach, plain_act, act_of}

abbrev pub NextEffect : Client → Effect → Type 0
NextEffect c NoEffect = Unit {0}
NextEffect c (Grants port place) = Unit {0}
NextEffect c (Releases handle) = Unit {0}
NextEffect c (Adds w) = w.handle ≡ c.additions + 1
NextEffect c (Deletes handle) = Unit {0}

abbrev NextActOf : Client → Act → Type 0
NextActOf c (Refusal code) = Unit {0}
NextActOf c (Allowed a) = NextEffect c a.effect

pub record NextAct (c : Client) (a : Act) : Type 0 where
  pub next : NextActOf c a

next_if : (c : Client) (b : Bool) (x y : Act) → NextAct c x → NextAct c y → NextAct c (cond b x y)
next_if c true x y p q = p
next_if c false x y p q = q

next_refusal : (c : Client) (code : ℕ) → NextAct c (Refusal code)
next_refusal c code = record { next = tt }

next_fixed : (c : Client) (bytes : List ℕ) → NextAct c (fixed_data bytes)
next_fixed c bytes = record { next = tt }

next_reading : (c : Client) (places : List Addressed) → NextAct c (reading places)
next_reading c places = record { next = tt }

next_writing : (c : Client) (puts : List Put) → NextAct c (writing puts)
next_writing c puts = record { next = tt }

next_changing : (c : Client) (bytes : List ℕ) (x : Effect) → NextEffect c x → NextAct c (changing bytes x)
next_changing c bytes x h = record { next = h }

read-next : (c : Client) (r : Result (List Addressed) ℕ) → NextAct c (read_act r)
read-next c (Err code) = next_refusal c code
read-next c (Ok places) = next_reading c places

read_group-next : (d : Setup) (c : Client) (p : PlantPort) (g : Option Group) (offset len : ℕ) → NextAct c (read_group d c p g offset len)
unfolding read_group
read_group-next d c p (Some (AreaSize a)) offset len = search (next_if, next_refusal, next_fixed)
read_group-next d c p (Some SymbolVersion) offset len = search (next_if, next_refusal, next_fixed)
read_group-next d c p (Some SymbolUpload) offset len = search (next_if, next_refusal, next_fixed)
read_group-next d c p (Some UploadInfo) offset len = search (next_if, next_refusal, next_fixed)
read_group-next d c p (Some TypeUpload) offset len = search (next_if, next_refusal, next_fixed)
read_group-next d c p (Some UploadInfoWithTypes) offset len = search (next_if, next_refusal, next_fixed)
read_group-next d c p g offset len = read-next c (reach_of c p g offset len)

write-next : (c : Client) (k : Asker) (bytes : List ℕ) (r : Result (List Addressed) ℕ) → NextAct c (write_act k bytes r)
write-next c k bytes (Err code) = next_refusal c code
write-next c k bytes (Ok places) = search (next_if, next_refusal, next_writing)

write_group-next : (c : Client) (k : Asker) (g : Option Group) (offset : ℕ) (bytes : List ℕ) → NextAct c (write_group c k g offset bytes)
unfolding write_group
write_group-next c k None offset bytes = next_refusal c _
write_group-next c k (Some ReleaseHandle) offset bytes = next_if c _ _ _ (next_refusal c _) (next_if c _ _ _ (next_changing c [] _ tt) (next_refusal c _))
write_group-next c k (Some g) offset bytes = let w = write-next c k bytes in search (next_if, next_refusal, w)

if_found-next : (c : Client) (o : Option Found) (act : Found → Act) → ((f : Found) → NextAct c (act f)) → NextAct c (if_found o act)
if_found-next c None act h = next_refusal c symbol_not_found
if_found-next c (Some f) act h = h f

read_write-next : (d : Setup) (c : Client) (p : PlantPort) (g : Option Group) (len : ℕ) (name : List ℕ) → NextAct c (read_write_group d c p g len name)
unfolding read_write_group
read_write-next d c p (Some HandleByName) len name =
    let inside = if_found-next c (found_of p.symbols name) (λ f. grant_act c p (place_of f))
    (λ f. next_if c _ _ _ (next_refusal c _) (next_changing c _ (Grants p.number (place_of f)) tt)) in
    next_if c (nat_lt len 4) (Refusal invalid_size) (if_found (found_of p.symbols name) (λ f. grant_act c p (place_of f))) (next_refusal c invalid_size) inside
read_write-next d c p (Some ValueByName) len name =
    if_found-next c (found_of p.symbols name) (λ f. value_act p len (place_of f)) (λ f. next_if c _ _ _ (next_refusal c _) (next_reading c _))
read_write-next d c p (Some InfoByName) len name =
    let inside = if_found-next c (found_of p.symbols name) (λ f. fixed_data (info_of f)) (λ f. next_fixed c (info_of f)) in
    next_if c (nat_lt len 12) (Refusal invalid_size) (if_found (found_of p.symbols name) (λ f. fixed_data (info_of f))) (next_refusal c invalid_size) inside
read_write-next d c p (Some ExtendedInfoByName) len name =
    if_found-next c (found_of p.symbols name) (λ f. fixed_reply len (entry_bytes (entry_of_part d.profile.manner f)))
    (λ f. search (next_if, next_refusal, next_fixed))
read_write-next d c p g len name = next_refusal c invalid_group

add_reached-next : (c : Client) (k : Asker) (mode : Mode) (len cycle : ℕ) (r : Result (List Addressed) ℕ) → NextAct c (add_reached c k mode len cycle r)
add_reached-next c k mode len cycle (Err code) = next_refusal c code
add_reached-next c k mode len cycle (Ok places) =
    let w : Watch (List Addressed) = next_watch c k mode cycle places in
    let added = next_if c (nat_le MAX_WATCHES (length c.watches) || nat_le MAX_NUMBER c.additions)
    (Refusal no_more_notifications) (changing (to_le_bytes w32 w.handle) (Adds w))
    (next_refusal c no_more_notifications) (next_changing c (to_le_bytes w32 w.handle) (Adds w) refl) in
    next_if c (len == 0) (Refusal invalid_size) (add_watch c w) (next_refusal c invalid_size) added

add-next : (c : Client) (k : Asker) (len cycle : ℕ) (mode : Option Mode) (r : Result (List Addressed) ℕ) → NextAct c (add_of_reach c k len cycle mode r)
add-next c k len cycle None r = next_refusal c mode_not_supported
add-next c k len cycle (Some mode) r =
    next_if c (nat_lt MAX_WATCHED len) (Refusal watch_too_big) (add_reached c k mode len cycle r)
    (next_refusal c watch_too_big) (add_reached-next c k mode len cycle r)

control-next : (c : Client) (k : Asker) (ads device : ℕ) → NextAct c (control_act k ads device)
unfolding control_act
control-next c k ads device = next_if c _ _ _ (next_refusal c _) (next_if c _ _ _ (next_writing c _) (next_refusal c _))

plain-next : (d : Setup) (c : Client) (k : Asker) (r : Request) → NextAct c (plain_act d c k r)
unfolding plain_act
plain-next d c k ReadDeviceInfo = next_fixed c _
plain-next d c k (Read group offset len) = read_group-next d c k.port (answered_group _ group) offset len
plain-next d c k (Write group offset bytes) = write_group-next c k (answered_group _ group) offset bytes
plain-next d c k ReadState = next_reading c _
plain-next d c k (WriteControl ads device bytes) = control-next c k ads device
plain-next d c k (AddDeviceNotification group offset len mode delay cycle) = add-next c k len cycle _ (reach_of c k.port (answered_group _ group) offset len)
plain-next d c k (DeleteDeviceNotification handle) = next_if c _ _ _ (next_changing c [] (Deletes handle) tt) (next_refusal c _)
plain-next d c k (DeviceNotification bytes) = next_fixed c _
plain-next d c k (ReadWrite group offset len bytes) = read_write-next d c k.port (answered_group _ group) len bytes

type-next : (c : Client) (len : ℕ) (o : Option TypeTree) → NextAct c (if_type o len)
type-next c len None = next_refusal c symbol_not_found
type-next c len (Some tree) = search (next_if, next_refusal, next_fixed)

pub act-next : (d : Setup) (c : Client) (k : Asker) (r : Request) → NextAct c (act_of d c k r)
act-next d c k r =
    act-cases d c k (NextAct c)
    (record {
      states = λ offset len. read-next c (states_reach k.port.number offset len);
      watched_states = λ offset len cycle mode. add-next c k len cycle mode (states_reach k.port.number offset len);
      watched_version = λ len cycle mode. add-next c k len cycle mode (version_reach k.port.number len);
      types = λ len bytes. type-next c len (tree_of_text d.plant.types (up_to_nul bytes));
    })
    r (plain-next d c k (meant_by d.profile c k.port r))
