-- What a request grants lies within a symbol, and what it watches are names of the plant. Here, and only here, all
-- requests are walked through.
use Rattle.std.proofs.Common.{◌≡◌, ℕ, zero, suc, ◌+◌, ◌-◌, ◌<◌, ◌≤◌, List, [], ◌∷◌, map, length, Bool, true, false, cond, refl, subst, arith, inl, inr}
use Rattle.std.specs.Prelude.{Option, Some, None, Result, Ok, Err, nat_lt, nat_le, ◌==◌, ◌/◌, ◌||◌, find, option_map, option_and_then}
use Rattle.std.proofs.lemmas.Bool.{cases_Bool, ltb-false, leb-false, eqb-true}
use Rattle.name_paths.specs.Path.{Step, steps_of}
use Rattle.spec_plant.specs.Description.{Area, size_in}
use Rattle.spec_plant.specs.Parts.{TypePart, part_behind}
use Rattle.spec_plant.specs.World.{Plant, PlantPort, PlantSymbol, lower_name, symbol_size, ByteName}
use Rattle.spec_plant.specs.Trees.{TypeTree}
use Rattle.spec_formats.specs.TypeEntry.{type_upload_bytes}
use Rattle.spec_plant.specs.Finding.{Found, whole_of, is_named_by, steps_behind_name, found_in_symbol, found_of_steps, without_nul, found_of}
use Rattle.spec_plant.proofs.PartLemmas.{part_behind-end}
use Rattle.spec_formats.specs.Codes.{invalid_size, invalid_group, symbol_not_found}
use Rattle.spec_formats.specs.Groups.{Group, AreaBytes, AreaBit, AreaSize, HandleByName, ValueByName}
use Rattle.spec_formats.specs.Groups.{ValueByHandle, ReleaseHandle, InfoByName, SymbolVersion}
use Rattle.spec_formats.specs.Groups.{ExtendedInfoByName, SymbolUpload, UploadInfo, TypeUpload}
use Rattle.spec_formats.specs.Groups.{UploadInfoWithTypes}
use Rattle.spec_formats.specs.Ranges.{greatest_len, byte_range, bit_range, range_in}
use Rattle.spec_formats.specs.Request.{Request, ReadDeviceInfo, Read, Write, ReadState, WriteControl}
use Rattle.spec_formats.specs.Request.{AddDeviceNotification, DeleteDeviceNotification, DeviceNotification}
use Rattle.spec_formats.specs.Request.{ReadWrite}
use Rattle.spec_machine.proofs.Emptied.{or_false}
use Rattle.spec_machine.specs.World.{Setup, port_numbered, numbers_from, name_at, names_at, own_name, own_names, OWN_SIZE, VERSION_AT, FIRST_VERSION}
use Rattle.spec_machine.specs.Access.{Addressed, WholeByte, addressed_name, Put}
use Rattle.spec_machine.specs.Handles.{HandleStatus, Never, Released, Outdated, Live, Handle, handle_in, kept_status}
use Rattle.spec_machine.specs.Watches.{Watch, Mode}
use Rattle.spec_machine.specs.Client.{Place, Client, Effect, NoEffect, Grants, Releases, Adds, Deletes}
use Rattle.spec_machine.specs.Acts.{Act, Refusal, Allowed, fixed_data, reading, writing, changing}
use Rattle.spec_machine.specs.Answers.{answered_group}
use Rattle.spec_machine.specs.Reach.{addressed_by_range, addressed_in_place, addressed_by_status, reach_of}
use Rattle.spec_machine.specs.Reads.{fixed_reply, type_upload_reply, read_act, read_group}
use Rattle.spec_machine.specs.Writes.{Asker, write_act, release_act, write_group, control_act}
use Rattle.spec_machine.specs.ByName.{place_of, grant_act, value_act, info_of, if_found, read_write_group}
use Rattle.std.specs.Int.{w32, to_le_bytes}
use Rattle.spec_formats.specs.Codes.{no_more_notifications}
use Rattle.spec_formats.specs.SymbolEntry.{entry_bytes}
use Rattle.spec_machine.specs.Entries.{entry_of_part}
use Rattle.spec_machine.specs.ByName.{MAX_NUMBER}
use Rattle.spec_machine.specs.Meanings.{up_to_nul, meant_by}
use Rattle.spec_machine.specs.TypesByText.{tree_of_text, entry_by_type}
use Rattle.spec_machine.specs.MoreActs.{if_type, states_reach, version_reach}
use Rattle.spec_machine.proofs.MoreActs.{act-cases}
use Rattle.spec_machine.specs.Requests.{MAX_WATCHES, next_watch, add_watch, add_reached, add_of_reach, plain_act, act_of}
use Rattle.spec_laws.specs.Soundness.{Each, IsSoundSymbol, IsSoundPlant}
use Rattle.spec_laws.specs.Reachable.{IsPlaced, IsPlacedStatus, IsPlacedHandle}
use Rattle.spec_laws.proofs.FirstMemory.{IsNamed, first-own, port_sound, symbol-named, area-named}

-- a port of the plant that is asked
pub record IsAsked (plant : Plant) (p : PlantPort) : Type 0 where
  pub sound : IsSoundPlant plant
  pub found : port_numbered p.number plant.ports ≡ Some p

-- names of the plant
abbrev pub AreNamed : Plant → List Addressed → Type 0
AreNamed plant places = Each (IsNamed plant) (map addressed_name places)

names-fine : (R : ByteName → Type 0) (f : ℕ → ByteName) (n first : ℕ) → ((i : ℕ) → first ≤ i → i < first + n → R (f i))
    → Each R (map addressed_name (map WholeByte (map f (numbers_from first n))))
unfolding numbers_from
names-fine R f zero first h = tt
names-fine R f (suc n) first h = (h first (omega arith) (omega arith), names-fine R f n (first + 1) (λ i l u. h i (omega (arith, l)) (omega (arith, u))))

-- what an access reaches, as a record, so that `_` is found for a reach
pub record FineReach (plant : Plant) (r : Result (List Addressed) ℕ) : Type 0 where
  pub named : (places : List Addressed) → r ≡ Ok places → AreNamed plant places

fine_err : (plant : Plant) (code : ℕ) → FineReach plant (Err code)
fine_err plant code = record { named = λ places e. absurd (wrong places e) }
  where
    err : Result (List Addressed) ℕ
    err = Err code

    wrong : (places : List Addressed) → err ≡ Ok places → ⊥
    wrong places e = cc

fine_ok : (plant : Plant) (places : List Addressed) → AreNamed plant places → FineReach plant (Ok places)
fine_ok plant places h = record { named = λ other e. subst (AreNamed plant) (same other e) h }
  where
    ok : List Addressed → Result (List Addressed) ℕ
    ok places = Ok places

    same : (other : List Addressed) → ok places ≡ ok other → places ≡ other
    same other e = cc

fine_if : (plant : Plant) (b : Bool) (x y : Result (List Addressed) ℕ) → FineReach plant x → FineReach plant y → FineReach plant (cond b x y)
fine_if plant true x y p q = p
fine_if plant false x y p q = q

bytes-fine : (plant : Plant) (p : PlantPort) → IsAsked plant p → (a : Area) (offset len : ℕ)
    → FineReach plant (addressed_by_range p (byte_range a (size_in p.sizes a) offset len))
unfolding byte_range names_at
bytes-fine plant p k a offset len =
    elim (cases_Bool (nat_lt (size_in p.sizes a) offset)) [
      | inl t ↦ rw t (fine_err plant _)
      | inr t ↦ rw t (elim (cases_Bool (nat_lt (size_in p.sizes a) (offset + len) || nat_lt greatest_len len)) [
        | inl u ↦ rw u (fine_err plant _)
        | inr u ↦
            let l = ltb-false (size_in p.sizes a) (offset + len) (or_false (nat_lt (size_in p.sizes a) (offset + len)) (nat_lt greatest_len len) u).0 in
            rw u (fine_ok plant _
            (names-fine (IsNamed plant) (name_at p a) len offset (λ i low high. area-named plant k.sound p k.found a i (omega (arith, l, high)))))
      ])
    ]

bit-fine : (plant : Plant) (p : PlantPort) → IsAsked plant p → (a : Area) (offset len : ℕ)
    → FineReach plant (addressed_by_range p (bit_range a (size_in p.sizes a) offset len))
unfolding bit_range
bit-fine plant p k a offset len =
    elim (cases_Bool (nat_le (size_in p.sizes a) (offset / 8))) [
      | inl t ↦ rw t (fine_err plant _)
      | inr t ↦ rw t (elim (cases_Bool (len == 1)) [
        | inl u ↦ rw u (fine_ok plant _ (area-named plant k.sound p k.found a (offset / 8) (leb-false (size_in p.sizes a) (offset / 8) t), tt))
        | inr u ↦ rw u (fine_err plant _)
      ])
    ]

place-fine : (plant : Plant) (port : ℕ) (place : Place) → IsSoundPlant plant
    → IsPlaced plant port place → (len : ℕ) → FineReach plant (addressed_in_place port place len)
place-fine plant port place sound i len =
    elim (cases_Bool (nat_lt place.len len)) [
      | inl t ↦ rw t (fine_err plant _)
      | inr t ↦
          let l = ltb-false place.len len t in
          let e = i.ends in
          rw t (fine_ok plant _
          (names-fine (IsNamed plant) (λ n. record { port = port; part = Rattle.spec_plant.specs.World.SymbolPart place.symbol; index = n }) len place.first
          (λ n low high. symbol-named plant sound port i.asked place.symbol i.symbol i.port_found i.symbol_found n (omega (arith, l, e, high)))))
    ]

status-fine : (plant : Plant) (port : ℕ) → IsSoundPlant plant → (s : HandleStatus Place)
    → IsPlacedStatus plant port s → (len : ℕ) → FineReach plant (addressed_by_status port s len)
status-fine plant port sound Never h len = fine_err plant _
status-fine plant port sound Released h len = fine_err plant _
status-fine plant port sound Outdated h len = fine_err plant _
status-fine plant port sound (Live place) h len = place-fine plant port place sound h len

-- the status of a handle that is placed
pub kept-placed : (plant : Plant) (hs : List (Handle Place)) (n port : ℕ) → Each (IsPlacedHandle plant) hs → IsPlacedStatus plant port (kept_status hs n port)
unfolding handle_in
kept-placed plant [] n port e = tt
kept-placed plant (h ∷ hs) n port e =
    elim (cases_Bool (n == 1)) [
      | inl t ↦ rw t (elim (cases_Bool (h.port == port)) [
        | inl u ↦ rw u (subst (λ m. IsPlacedStatus plant m h.status) (eqb-true h.port port u) (e.0))
        | inr u ↦ rw u tt
      ])
      | inr t ↦ rw t (kept-placed plant hs (n - 1) port (e.1))
    ]

pub reach-fine : (plant : Plant) (c : Client) (p : PlantPort) → IsAsked plant p → Each (IsPlacedHandle plant) c.handles
    → (g : Option Group) (offset len : ℕ) → FineReach plant (reach_of c p g offset len)
unfolding reach_of range_in
reach-fine plant c p k e (Some (AreaBytes a)) offset len = bytes-fine plant p k a offset len
reach-fine plant c p k e (Some (AreaBit a)) offset len = bit-fine plant p k a offset len
reach-fine plant c p k e (Some ValueByHandle) offset len =
    status-fine plant p.number k.sound (kept_status c.handles offset p.number) (kept-placed plant c.handles offset p.number e) len
reach-fine plant c p k e g offset len = fine_err plant _

-- a name leads to a place within a symbol of the port

pub found-placed : (plant : Plant) (p : PlantPort) → IsAsked plant p → (name : List ℕ) (f : Found)
    → found_of p.symbols name ≡ Some f → IsPlaced plant p.number (place_of f)
unfolding found_of
found-placed plant p k name f e = steps_go (steps_of (without_nul name)) e
  where
    sound : Each (IsSoundSymbol p) p.symbols
    sound = (port_sound plant.ports plant.ports p.number p k.sound k.found).symbols

    placed : (s : PlantSymbol) → IsSoundSymbol p s → (steps : List Step) (o : Option TypePart) → part_behind (whole_of s) steps ≡ o
        → (all : List Step) → option_map (λ part. record { symbol = s; steps = all; part = part }) o ≡ Some f → IsPlaced plant p.number (place_of f)
    placed s h steps None q all g = cc
    placed s h steps (Some y) q all g =
        let here : Found = record { symbol = s; steps = all; part = y } in
        let same : here ≡ f = cc in
        let ends = part_behind-end (whole_of s) steps y q in
        let l = ends.1 in
        subst (λ (x : Found). IsPlaced plant p.number (place_of x)) same
        (record { asked = p; port_found = k.found; symbol = s; symbol_found = h.found; ends = omega (arith, l) })

    -- the symbol that is found is one of the port's
    among : (test : PlantSymbol → Bool) (ss : List PlantSymbol) (s : PlantSymbol) → Each (IsSoundSymbol p) ss → find test ss ≡ Some s → IsSoundSymbol p s
    among test [] s h q = cc
    among test (x ∷ xs) s h q =
        elim (cases_Bool (test x)) [
          | inl t ↦ let g : Some x ≡ Some s = rw t at q in let same : x ≡ s = cc in subst (IsSoundSymbol p) same (h.0)
          | inr t ↦ let g : find test xs ≡ Some s = rw t at q in among test xs s (h.1) g
        ]

    symbol_go : (steps : List Step) (o : Option PlantSymbol) → find (is_named_by steps) p.symbols ≡ o
        → option_and_then (found_in_symbol steps) o ≡ Some f → IsPlaced plant p.number (place_of f)
    symbol_go steps None q g = cc
    symbol_go steps (Some s) q g =
        placed s (among (is_named_by steps) p.symbols s sound q) (steps_behind_name steps s)
        (part_behind (whole_of s) (steps_behind_name steps s)) refl (steps_behind_name steps s) g

    steps_go : (o : Option (List Step)) → option_and_then (found_of_steps p.symbols) o ≡ Some f → IsPlaced plant p.number (place_of f)
    steps_go None g = cc
    steps_go (Some steps) g = symbol_go steps (find (is_named_by steps) p.symbols) refl g

-- an act grants within a symbol, and adds over names of the plant

abbrev pub FineEffect : Plant → Effect → Type 0
FineEffect plant NoEffect = Unit {0}
FineEffect plant (Grants port place) = IsPlaced plant port place
FineEffect plant (Releases handle) = Unit {0}
FineEffect plant (Adds w) = AreNamed plant w.watched
FineEffect plant (Deletes handle) = Unit {0}

abbrev FineActOf : Plant → Act → Type 0
FineActOf plant (Refusal code) = Unit {0}
FineActOf plant (Allowed a) = FineEffect plant a.effect

-- as a record, so that `_` is found for an act
pub record FineAct (plant : Plant) (a : Act) : Type 0 where
  pub fine : FineActOf plant a

act_if : (plant : Plant) (b : Bool) (x y : Act) → FineAct plant x → FineAct plant y → FineAct plant (cond b x y)
act_if plant true x y p q = p
act_if plant false x y p q = q

act_refusal : (plant : Plant) (code : ℕ) → FineAct plant (Refusal code)
act_refusal plant code = record { fine = tt }

act_fixed : (plant : Plant) (bytes : List ℕ) → FineAct plant (fixed_data bytes)
act_fixed plant bytes = record { fine = tt }

act_reading : (plant : Plant) (places : List Addressed) → FineAct plant (reading places)
act_reading plant places = record { fine = tt }

act_writing : (plant : Plant) (puts : List Put) → FineAct plant (writing puts)
act_writing plant puts = record { fine = tt }

act_changing : (plant : Plant) (bytes : List ℕ) (x : Effect) → FineEffect plant x → FineAct plant (changing bytes x)
act_changing plant bytes x h = record { fine = h }

fixed-fine : (plant : Plant) (len : ℕ) (bytes : List ℕ) → FineAct plant (fixed_reply len bytes)
fixed-fine plant len bytes = search (act_if, act_refusal, act_fixed)

upload-fine : (plant : Plant) (len : ℕ) (bytes : List ℕ) → FineAct plant (type_upload_reply len bytes)
upload-fine plant len bytes = search (act_if, act_refusal, act_fixed)

read-fine : (plant : Plant) (r : Result (List Addressed) ℕ) → FineAct plant (read_act r)
read-fine plant (Err code) = act_refusal plant code
read-fine plant (Ok places) = act_reading plant places

read_group-fine : (plant : Plant) (d : Setup) (c : Client) (p : PlantPort) (g : Option Group) (offset len : ℕ) → FineAct plant (read_group d c p g offset len)
unfolding read_group
read_group-fine plant d c p (Some (AreaSize a)) offset len = search (act_if, act_refusal, act_fixed)
read_group-fine plant d c p (Some SymbolVersion) offset len = search (act_if, act_refusal, act_fixed)
read_group-fine plant d c p (Some SymbolUpload) offset len = search (act_if, act_refusal, act_fixed)
read_group-fine plant d c p (Some UploadInfo) offset len = search (act_if, act_refusal, act_fixed)
read_group-fine plant d c p (Some TypeUpload) offset len = search (act_if, act_refusal, act_fixed)
read_group-fine plant d c p (Some UploadInfoWithTypes) offset len = search (act_if, act_refusal, act_fixed)
read_group-fine plant d c p g offset len = read-fine plant (reach_of c p g offset len)

write-fine : (plant : Plant) (k : Asker) (bytes : List ℕ) (r : Result (List Addressed) ℕ) → FineAct plant (write_act k bytes r)
write-fine plant k bytes (Err code) = act_refusal plant code
write-fine plant k bytes (Ok places) = search (act_if, act_refusal, act_writing)

release-fine : (plant : Plant) (c : Client) (p : PlantPort) (bytes : List ℕ) → FineAct plant (release_act c p bytes)
release-fine plant c p bytes = act_if plant _ _ _ (act_refusal plant _) (act_if plant _ _ _ (act_changing plant [] _ tt) (act_refusal plant _))

write_group-fine : (plant : Plant) (c : Client) (k : Asker) (g : Option Group) (offset : ℕ) (bytes : List ℕ) → FineAct plant (write_group c k g offset bytes)
unfolding write_group
write_group-fine plant c k None offset bytes = act_refusal plant _
write_group-fine plant c k (Some ReleaseHandle) offset bytes = release-fine plant c k.port bytes
write_group-fine plant c k (Some g) offset bytes =
    let w = write-fine plant k bytes in search (act_if, act_refusal, w)

control-fine : (plant : Plant) (k : Asker) (ads device : ℕ) → FineAct plant (control_act k ads device)
unfolding control_act
control-fine plant k ads device = act_if plant _ _ _ (act_refusal plant _) (act_if plant _ _ _ (act_writing plant _) (act_refusal plant _))

grant-fine : (plant : Plant) (c : Client) (p : PlantPort) (place : Place) → IsPlaced plant p.number place → FineAct plant (grant_act c p place)
grant-fine plant c p place h = act_if plant _ _ _ (act_refusal plant _) (act_changing plant _ (Grants p.number place) h)

if_found-fine : (plant : Plant) (o : Option Found) (act : Found → Act) → ((f : Found) → o ≡ Some f → FineAct plant (act f)) → FineAct plant (if_found o act)
if_found-fine plant None act h = act_refusal plant symbol_not_found
if_found-fine plant (Some f) act h = h f refl

read_write-fine : (plant : Plant) (d : Setup) (c : Client) (p : PlantPort) → IsAsked plant p
    → (g : Option Group) (len : ℕ) (name : List ℕ) → FineAct plant (read_write_group d c p g len name)
unfolding read_write_group
read_write-fine plant d c p k (Some HandleByName) len name =
    let inside = if_found-fine plant (found_of p.symbols name) (λ f. grant_act c p (place_of f))
    (λ f e. grant-fine plant c p (place_of f) (found-placed plant p k name f e)) in
    act_if plant (nat_lt len 4) (Refusal invalid_size)
    (if_found (found_of p.symbols name) (λ f. grant_act c p (place_of f))) (act_refusal plant invalid_size) inside
read_write-fine plant d c p k (Some ValueByName) len name =
    if_found-fine plant (found_of p.symbols name) (λ f. value_act p len (place_of f)) (λ f e. act_if plant _ _ _ (act_refusal plant _) (act_reading plant _))
read_write-fine plant d c p k (Some InfoByName) len name =
    let inside = if_found-fine plant (found_of p.symbols name) (λ f. fixed_data (info_of f)) (λ f e. act_fixed plant (info_of f)) in
    act_if plant (nat_lt len 12) (Refusal invalid_size)
    (if_found (found_of p.symbols name) (λ f. fixed_data (info_of f))) (act_refusal plant invalid_size) inside
read_write-fine plant d c p k (Some ExtendedInfoByName) len name =
    if_found-fine plant (found_of p.symbols name) (λ f. fixed_reply len (entry_bytes (entry_of_part d.profile.manner f)))
    (λ f e. search (act_if, act_refusal, act_fixed))
read_write-fine plant d c p k g len name = act_refusal plant invalid_group

watch-fine : (plant : Plant) (c : Client) (w : Watch (List Addressed)) → AreNamed plant w.watched → FineAct plant (add_watch c w)
watch-fine plant c w h =
    act_if plant (nat_le MAX_WATCHES (length c.watches) || nat_le MAX_NUMBER c.additions)
    (Refusal no_more_notifications) (changing (to_le_bytes w32 w.handle) (Adds w))
    (act_refusal plant no_more_notifications) (act_changing plant (to_le_bytes w32 w.handle) (Adds w) h)

add_reached-fine : (plant : Plant) (c : Client) (k : Asker) (mode : Mode) (len cycle : ℕ) (r : Result (List Addressed) ℕ)
    → FineReach plant r → FineAct plant (add_reached c k mode len cycle r)
add_reached-fine plant c k mode len cycle (Err code) h = act_refusal plant code
add_reached-fine plant c k mode len cycle (Ok places) h =
    let w : Watch (List Addressed) = next_watch c k mode cycle places in
    act_if plant (len == 0) (Refusal invalid_size) (add_watch c w) (act_refusal plant invalid_size) (watch-fine plant c w (h.named places refl))

add-fine : (plant : Plant) (c : Client) (k : Asker) (len cycle : ℕ) (mode : Option Mode) (r : Result (List Addressed) ℕ)
    → FineReach plant r → FineAct plant (add_of_reach c k len cycle mode r)
add-fine plant c k len cycle None r h = act_refusal plant _
add-fine plant c k len cycle (Some mode) r h = act_if plant _ _ _ (act_refusal plant _) (add_reached-fine plant c k mode len cycle r h)

plain-fine : (plant : Plant) (d : Setup) (c : Client) (k : Asker) → IsAsked plant k.port
    → Each (IsPlacedHandle plant) c.handles → (r : Request) → FineAct plant (plain_act d c k r)
unfolding plain_act
plain-fine plant d c k i e ReadDeviceInfo = act_fixed plant _
plain-fine plant d c k i e (Read group offset len) = read_group-fine plant d c k.port (answered_group _ group) offset len
plain-fine plant d c k i e (Write group offset bytes) = write_group-fine plant c k (answered_group _ group) offset bytes
plain-fine plant d c k i e ReadState = act_reading plant _
plain-fine plant d c k i e (WriteControl ads device bytes) = control-fine plant k ads device
plain-fine plant d c k i e (AddDeviceNotification group offset len mode delay cycle) =
    add-fine plant c k len cycle _ (reach_of c k.port (answered_group _ group) offset len) (reach-fine plant c k.port i e (answered_group _ group) offset len)
plain-fine plant d c k i e (DeleteDeviceNotification handle) = act_if plant _ _ _ (act_changing plant [] (Deletes handle) tt) (act_refusal plant _)
plain-fine plant d c k i e (DeviceNotification bytes) = act_fixed plant _
plain-fine plant d c k i e (ReadWrite group offset len bytes) = read_write-fine plant d c k.port i (answered_group _ group) len bytes

type-fine : (plant : Plant) (len : ℕ) (o : Option TypeTree) → FineAct plant (if_type o len)
type-fine plant len None = act_refusal plant symbol_not_found
type-fine plant len (Some tree) = upload-fine plant len (type_upload_bytes (entry_by_type tree ∷ []))

-- a port's own bytes have names of the plant

own-fine : (plant : Plant) (p : PlantPort) → IsAsked plant p → (first len : ℕ) → first + len ≤ OWN_SIZE
    → FineReach plant (Ok (map WholeByte (own_names p.number first len)))
unfolding own_names
own-fine plant p i first len u =
    let long = first-own FIRST_VERSION p.number p plant.ports i.found in
    fine_ok plant _ (names-fine (IsNamed plant) (own_name p.number) len first (λ k low high. omega (arith, long, u, high)))

states-fine : (plant : Plant) (p : PlantPort) → IsAsked plant p → (offset len : ℕ) → FineReach plant (states_reach p.number offset len)
states-fine plant p i offset len =
    elim (cases_Bool (nat_lt VERSION_AT offset)) [
      | inl t ↦ rw t (fine_err plant _)
      | inr t ↦ elim (cases_Bool (nat_lt VERSION_AT (offset + len))) [
        | inl u ↦ rw (t, u) (fine_err plant _)
        | inr u ↦ let l = ltb-false VERSION_AT (offset + len) u in rw (t, u) (own-fine plant p i offset len (omega (arith, l)))
      ]
    ]

version-fine : (plant : Plant) (p : PlantPort) → IsAsked plant p → (len : ℕ) → FineReach plant (version_reach p.number len)
version-fine plant p i len =
    fine_if plant (len == 1) (Ok (map WholeByte (own_names p.number VERSION_AT 1))) (Err invalid_size)
    (own-fine plant p i VERSION_AT 1 (omega arith)) (fine_err plant _)

pub act-fine : (plant : Plant) (d : Setup) (c : Client) (k : Asker) → IsAsked plant k.port
    → Each (IsPlacedHandle plant) c.handles → (r : Request) → FineAct plant (act_of d c k r)
act-fine plant d c k i e r =
    act-cases d c k (FineAct plant)
    (record {
      states = λ offset len. read-fine plant (states_reach k.port.number offset len);
      watched_states = λ offset len cycle mode. add-fine plant c k len cycle mode (states_reach k.port.number offset len)
          (states-fine plant k.port i offset len);
      watched_version = λ len cycle mode. add-fine plant c k len cycle mode (version_reach k.port.number len) (version-fine plant k.port i len);
      types = λ len bytes. type-fine plant len (tree_of_text d.plant.types (up_to_nul bytes));
    })
    r (plain-fine plant d c k i e (meant_by d.profile c k.port r))
