-- Which act a single ReadWrite is, what it answers and what it leaves.
use Rattle.std.proofs.Common.{◌≡◌, ℕ, ◌+◌, ◌<◌, ◌≤◌, ◌↔◌, List, [], ◌∷◌, ◌++◌, length, map, true, false, refl, inl, inr, sym, ◌∙◌, ap, subst, arith}
use Rattle.std.specs.Prelude.{Bool, Option, Some, None, option_and_then, Result, Ok, Err, IfOk, OnOk, OnErr, IsErr, is_err, nat_lt, nat_le, ◌||◌, if◌then◌else◌}
use Rattle.std.specs.Int.{w32, to_le_bytes}
use Rattle.std.proofs.lemmas.Bool.{false≢true, ltb-true, lt-ltb, leb-true, le-leb, or_cases}
use Rattle.std.proofs.Math.Bool.{or-true}
use Rattle.std.proofs.lemmas.List.{append-nil}
use Rattle.ads_base.specs.declared.no_memory.NoMemory.{NoMemory}
use Rattle.return_codes.specs.declared.code.Code.{Code}
use Rattle.return_codes.specs.declared.code.Code.TheVariants.{C700, C705}
use Rattle.return_codes.specs.Code.{number_of}
use Rattle.spec_plant.specs.Finding.{Found, found_of}
use Rattle.spec_plant.specs.World.{Plant, PlantPort}
use Rattle.spec_plant.specs.Trees.{TypeTree}
use Rattle.spec_formats.specs.TypeEntry.{type_upload_bytes}
use Rattle.spec_formats.specs.Ranges.{greatest_len}
use Rattle.spec_formats.specs.Codes.{general_device_error, invalid_size}
use Rattle.spec_formats.specs.Groups.{Group, HandleByName, ValueByName, InfoByName, ExtendedInfoByName, group_of}
use Rattle.spec_formats.specs.SymbolEntry.{entry_bytes}
use Rattle.spec_machine.specs.Entries.{entry_of_part}
use Rattle.spec_machine.specs.Reads.{fixed_reply}
use Rattle.spec_formats.specs.Request.{ReadWrite}
use Rattle.spec_laws.proofs.ShortActs.{no_more_than_asked}
use Rattle.spec_machine.specs.World.{World, Setup, setup_of}
use Rattle.spec_machine.specs.Meanings.{up_to_nul}
use Rattle.spec_machine.specs.TypesByText.{tree_of_text, entry_by_type}
use Rattle.spec_machine.specs.MoreActs.{if_type, type_act}
use Rattle.spec_machine.specs.Access.{Put, WholeByte, memory_after_puts}
use Rattle.spec_machine.specs.Acts.{Act, Refusal, Allowed, fixed_data, reading, changing, outcome_of}
use Rattle.spec_machine.specs.Answers.{if_answered, answered_group, READ_WRITE}
use Rattle.spec_machine.specs.ByName.{MAX_LIVE, MAX_NUMBER, place_of, value_act, info_of, grant_act, if_found, read_write_group}
use Rattle.spec_machine.specs.Client as client
use Rattle.spec_machine.specs.Client.{names_of_place, NoEffect, Grants, client_after}
use Rattle.spec_machine.specs.Handles.{Grant, live_count}
use Rattle.spec_machine.specs.HandleLaws.{handles_of}
use Rattle.spec_machine.specs.Requests.{plain_act}
use Rattle.symbol_table.specs.declared.place.Place.{Place}
use Rattle.sym_handles.specs.declared.handles.Full.{Full}
use Rattle.sym_handles.specs.Kept.{Kept}
use Rattle.sym_handles.specs.History.{History, Represents, IsFull}
use Rattle.session.proofs.Tests.{is_false}
use Rattle.port_device.specs.Answers.{AnswersAct, FindsPlace}
use Rattle.port_device.specs.Groups.{without_handles}
use Rattle.port_device.specs.Holds.{HoldsPort}
use Rattle.port_device.specs.PortMemory.{PortMemory}
use Rattle.session.specs.Asking.{Asking, act_asked, after_act, plain_asked}
use Rattle.session.specs.Asks.{Asks, SomeAsks}
use Rattle.session.specs.Grants.{IsPlaceNamed, handle_act}
use Rattle.session.specs.HandleGroups.{is_handle_by_name}
use Rattle.session.specs.StandsFor.{KeptFor, is_place_of}
use Rattle.session.proofs.HandleChanges.{grant-agrees, same-count, same-length}
use Rattle.session.proofs.LookLemmas.{port-number}
use Rattle.session.proofs.ReadLemmas.{answered-len}

-- which act it is

handle-group : (d : Setup) (c : client.Client) (p : PlantPort) (g : Option Group) (len : ℕ) (name : List ℕ) → is_handle_by_name g ≡ true
    → read_write_group d c p (option_and_then (if_answered READ_WRITE) g) len name ≡ read_write_group d c p (Some HandleByName) len name
handle-group d c p (Some HandleByName) len name is = refl
handle-group d c p g len name is = absurd (false≢true is)

port-group : (d : Setup) (c : client.Client) (p : PlantPort) (g : Option Group) (len : ℕ) (name : List ℕ) → is_handle_by_name g ≡ false
    → read_write_group d c p (option_and_then (if_answered READ_WRITE) g) len name ≡ read_write_group d c p (without_handles g) len name
unfolding read_write_group
port-group d c p (Some HandleByName) len name is = absurd (false≢true (sym is))
port-group d c p g len name is = refl

pub asks-handle : (a : Asking) (group offset len : ℕ) (bytes : List ℕ) → is_handle_by_name (group_of group) ≡ true
    → plain_asked a (ReadWrite group offset len bytes) ≡ handle_act a len bytes
unfolding plain_act answered_group
asks-handle a group offset len bytes is = handle-group (setup_of a.world) a.client a.asker.port (group_of group) len bytes is

pub asks-port : (a : Asking) (group offset len : ℕ) (bytes : List ℕ) → is_handle_by_name (group_of group) ≡ false
    → plain_asked a (ReadWrite group offset len bytes) ≡ read_write_group (setup_of a.world) a.client a.asker.port (without_handles (group_of group)) len bytes
unfolding plain_act answered_group
asks-port a group offset len bytes is = port-group (setup_of a.world) a.client a.asker.port (group_of group) len bytes is

pub read_write-asked : (m : PortMemory) (kept : Kept) (group offset len : ℕ) (bytes : List ℕ)
    (r : Result (Result (Unit {0}) Code) NoMemory) (old new : List ℕ) → SomeAsks m kept
    → IfOk r (λ answer. (a : Asking) → Asks a m kept → AnswersAct a.world (act_asked a (ReadWrite group offset len bytes)) answer old new)
    → OnOk r (length new ≤ length old + len)
read_write-asked m kept group offset len bytes (Err no_memory) old new some said = tt
read_write-asked m kept group offset len bytes (Ok answer) old new some said =
    let a = some.asking in
    let short = (no_more_than_asked (setup_of a.world) a.client a.asker a.world.memory).read_write group offset len bytes in
    answered-len (outcome_of a.world.memory (act_asked a (ReadWrite group offset len bytes))) answer old new len (said a some.asks) short

-- what leaves all as it was

-- an act that writes nothing and has no effect
abbrev pub IsIdle : Act → Type 0
IsIdle (Refusal code) = Unit {0}
IsIdle (Allowed access) = (access.writes ≡ []) × (access.effect ≡ NoEffect)

pub idle-leaves : (a : Asking) (act : Act) (m : PortMemory) (kept : Kept) → IsIdle act → Asks a m kept → Asks (after_act a act) m kept
unfolding memory_after_puts client_after
idle-leaves a (Refusal code) m kept idle asks = record { held = asks.held; handles = asks.handles }
idle-leaves a (Allowed access) m kept idle asks =
    let H : List Put → Type 0 = λ puts. HoldsPort (let w = a.world in record w { memory = memory_after_puts w.memory puts }) a.asker.port m in
    let K : client.Effect → Type 0 = λ e. KeptFor a.world.plant.ports (client_after a.client e).handles kept in
    record { held = subst H (sym idle.0) asks.held; handles = subst K (sym idle.1) asks.handles }

pub leaves-along : (a : Asking) (act other : Act) (m : PortMemory) (kept : Kept) → other ≡ act → Asks (after_act a act) m kept → Asks (after_act a other) m kept
leaves-along a act other m kept same asks = let P : Act → Type 0 = λ x. Asks (after_act a x) m kept in subst P (sym same) asks

-- a grant

abbrev live_full : client.Client → Bool
live_full c = nat_le MAX_LIVE (live_count c.handles)

abbrev number_full : client.Client → Bool
number_full c = nat_le MAX_NUMBER (length c.handles)

grant-if : (c : client.Client) (p : PlantPort) (named : client.Place) (b : Bool) → (live_full c || number_full c) ≡ b
    → grant_act c p named ≡ (if b then Refusal general_device_error else changing (to_le_bytes w32 (length c.handles + 1)) (Grants p.number named))
grant-if c p named b is = ap (λ x. if x then Refusal general_device_error else changing (to_le_bytes w32 (length c.handles + 1)) (Grants p.number named)) is

full-is : (ports : List PlantPort) (c : client.Client) (kept : Kept) (k : KeptFor ports c.handles kept)
    → IsFull k.history → (live_full c || number_full c) ≡ true
full-is ports c kept k (inl many) =
    let same = same-count (is_place_of ports) c.handles (handles_of k.history) k.agree in
    let t : live_full c ≡ true = le-leb MAX_LIVE (live_count c.handles) (omega (arith, same, many)) in
    ap (λ b. b || number_full c) t
full-is ports c kept k (inr long) =
    let same = same-length (is_place_of ports) c.handles (handles_of k.history) k.agree in
    let t : number_full c ≡ true = le-leb MAX_NUMBER (length c.handles) (omega (arith, same, long)) in
    ap (λ b. live_full c || b) t ∙ or-true (live_full c)

not-full-is : (ports : List PlantPort) (c : client.Client) (kept : Kept) (k : KeptFor ports c.handles kept)
    → (IsFull k.history → ⊥) → (live_full c || number_full c) ≡ false
not-full-is ports c kept k not_full = is_false (live_full c || number_full c) (λ t. elim (or_cases (live_full c) (number_full c) t) [
  | inl many ↦
      let same = same-count (is_place_of ports) c.handles (handles_of k.history) k.agree in
      let le : MAX_LIVE ≤ live_count c.handles = leb-true MAX_LIVE (live_count c.handles) many in
      not_full (inl (omega (arith, same, le)))
  | inr long ↦
      let same = same-length (is_place_of ports) c.handles (handles_of k.history) k.agree in
      let le : MAX_NUMBER ≤ length c.handles = leb-true MAX_NUMBER (length c.handles) long in
      not_full (inr (omega (arith, same, le)))
])

pub full-act : (a : Asking) (m : PortMemory) (kept : Kept) (named : client.Place) → Asks a m kept
    → ((history : History) → Represents kept history → IsFull history) → grant_act a.client a.asker.port named ≡ Refusal (number_of C700)
full-act a m kept named asks full =
    let k = asks.handles in
    grant-if a.client a.asker.port named true (full-is a.world.plant.ports a.client kept k (full k.history k.represented))

-- the act of a grant, where the n-th handle is the next
pub granted-act : (a : Asking) (m : PortMemory) (kept : Kept) (named : client.Place) → Asks a m kept
    → ((history : History) → Represents kept history → IsFull history → ⊥)
    → grant_act a.client a.asker.port named ≡ changing (to_le_bytes w32 (kept.granted + 1)) (Grants a.asker.port.number named)
granted-act a m kept named asks not_full =
    let k = asks.handles in
    let same = same-length (is_place_of a.world.plant.ports) a.client.handles (handles_of k.history) k.agree in
    let count : length a.client.handles ≡ kept.granted = same ∙ sym k.represented.granted in
    grant-if a.client a.asker.port named false (not-full-is a.world.plant.ports a.client kept k (not_full k.history k.represented))
    ∙ ap (λ n. changing (to_le_bytes w32 (n + 1)) (Grants a.asker.port.number named)) count

pub grant-answers : (a : Asking) (m : PortMemory) (kept : Kept) (named : client.Place) (handle : ℕ) (old new : List ℕ) → Asks a m kept
    → ((history : History) → Represents kept history → IsFull history → ⊥) → handle ≡ kept.granted + 1 → new ≡ old ++ to_le_bytes w32 handle
    → AnswersAct a.world (grant_act a.client a.asker.port named) (Ok tt) old new
grant-answers a m kept named handle old new asks not_full is put =
    let P : Act → Type 0 = λ x. AnswersAct a.world x (Ok tt) old new in
    subst P (sym (granted-act a m kept named asks not_full))
    (refl, put ∙ ap (λ n. old ++ to_le_bytes w32 n) is ∙ ap (λ x. old ++ x) (sym (append-nil (to_le_bytes w32 (kept.granted + 1)))))

pub grant-leaves : (a : Asking) (m : PortMemory) (kept kept' : Kept) (number : ℕ) (place : Place) (named : client.Place) → Asks a m kept → number ≡ m.number
    → ((history : History) → Represents kept history → IsFull history → ⊥) → IsPlaceNamed a place named
    → ((history : History) → Represents kept history → Represents kept' (history ++ Grant number place ∷ []))
    → Asks (after_act a (grant_act a.client a.asker.port named)) m kept'
unfolding memory_after_puts client_after
grant-leaves a m kept kept' number place named asks is not_full is_named granted =
    let k = asks.handles in
    let p = a.asker.port in
    let same : number ≡ p.number = is ∙ port-number a.world p m asks.held in
    let act = changing (to_le_bytes w32 (kept.granted + 1)) (Grants p.number named) in
    let R : ℕ → Type 0 = λ n. Represents kept' (k.history ++ Grant n place ∷ []) in
    leaves-along a act (grant_act a.client p named) m kept' (granted-act a m kept named asks not_full)
    (record {
      held = asks.held;
      handles = record {
        history = k.history ++ Grant p.number place ∷ [];
        represented = subst R same (granted k.history k.represented);
        agree = grant-agrees (is_place_of a.world.plant.ports) a.client.handles k.history p.number named place k.agree is_named;
      };
    })

-- a handle for a name

pub short-handle : (a : Asking) (len : ℕ) (name : List ℕ) → len < 4 → handle_act a len name ≡ Refusal (number_of C705)
unfolding read_write_group
short-handle a len name short =
    ap (λ b. if b then Refusal invalid_size else if_found (found_of a.asker.port.symbols name) (λ f. grant_act a.client a.asker.port (place_of f)))
    (lt-ltb len 4 short)

long-handle : (a : Asking) (len : ℕ) (name : List ℕ) → 4 ≤ len
    → handle_act a len name ≡ if_found (found_of a.asker.port.symbols name) (λ f. grant_act a.client a.asker.port (place_of f))
unfolding read_write_group
long-handle a len name long =
    ap (λ b. if b then Refusal invalid_size else if_found (found_of a.asker.port.symbols name) (λ f. grant_act a.client a.asker.port (place_of f)))
    (is_false (nat_lt len 4) (λ t. omega (arith, ltb-true len 4 t, long)))

nothing-found : (w : World) (p : PlantPort) (o : Option Found) (code : Code) (act : Found → Act)
    → FindsPlace w p o (Err code) → if_found o act ≡ Refusal (number_of code)
nothing-found w p None code act is = ap (λ c. Refusal (number_of c)) (sym is)
nothing-found w p (Some f) code act is = absurd is

pub lost-handle : (a : Asking) (len : ℕ) (name : List ℕ) (code : Code) → 4 ≤ len
    → FindsPlace a.world a.asker.port (found_of a.asker.port.symbols name) (Err code)
    → handle_act a len name ≡ Refusal (number_of code)
lost-handle a len name code long finds =
    long-handle a len name long ∙ nothing-found a.world a.asker.port (found_of a.asker.port.symbols name) code _ finds

-- what is found is a place by name, and its grant is the act
pub record FindsNamed (a : Asking) (len : ℕ) (name : List ℕ) (place : Place) : Type 0 where
  pub named : client.Place
  pub is_named : IsPlaceNamed a place named
  pub act : handle_act a len name ≡ grant_act a.client a.asker.port named

something-found : (a : Asking) (len : ℕ) (name : List ℕ) (place : Place) (o : Option Found) → FindsPlace a.world a.asker.port o (Ok place)
    → handle_act a len name ≡ if_found o (λ f. grant_act a.client a.asker.port (place_of f)) → FindsNamed a len name place
something-found a len name place None finds is = absurd finds
something-found a len name place (Some f) finds is = record { named = place_of f; is_named = finds; act = is }

pub found-handle : (a : Asking) (len : ℕ) (name : List ℕ) (place : Place) → 4 ≤ len
    → FindsPlace a.world a.asker.port (found_of a.asker.port.symbols name) (Ok place)
    → FindsNamed a len name place
found-handle a len name place long finds = something-found a len name place (found_of a.asker.port.symbols name) finds (long-handle a len name long)

-- what is answered to the grant of a place is answered to the handle of its name

pub handle-answers : (m : PortMemory) (kept : Kept) (len : ℕ) (name : List ℕ) (place : Place) (r : Result (Result (Unit {0}) Code) NoMemory) (old new : List ℕ)
    → ((a : Asking) → Asks a m kept → FindsNamed a len name place)
    → IfOk r (λ answer. (a : Asking) (named : client.Place) → Asks a m kept → IsPlaceNamed a place named
    → AnswersAct a.world (grant_act a.client a.asker.port named) answer old new)
    → IfOk r (λ answer. (a : Asking) → Asks a m kept → AnswersAct a.world (handle_act a len name) answer old new)
handle-answers m kept len name place (Err no_memory) old new finds said = tt
handle-answers m kept len name place (Ok answer) old new finds said = λ a asks.
    let f = finds a asks in
    let P : Act → Type 0 = λ x. AnswersAct a.world x answer old new in
    subst P (sym f.act) (said a f.named asks f.is_named)

pub handle-leaves : (m : PortMemory) (kept kept' : Kept) (len : ℕ) (name : List ℕ) (place : Place) (r : Result (Result (Unit {0}) Code) NoMemory)
    → ((a : Asking) → Asks a m kept → FindsNamed a len name place)
    → OnOk r ((a : Asking) (named : client.Place) → Asks a m kept → IsPlaceNamed a place named
    → Asks (after_act a (grant_act a.client a.asker.port named)) m kept')
    → OnOk r ((a : Asking) → Asks a m kept → Asks (after_act a (handle_act a len name)) m kept')
handle-leaves m kept kept' len name place (Err no_memory) finds said = tt
handle-leaves m kept kept' len name place (Ok answer) finds said = λ a asks.
    let f = finds a asks in
    leaves-along a (grant_act a.client a.asker.port f.named) (handle_act a len name) m kept' f.act (said a f.named asks f.is_named)

-- a ReadWrite that the port answers leaves all as it was

info-idle : (len : ℕ) (bytes : List ℕ) → IsIdle (fixed_reply len bytes)
info-idle len bytes = go (nat_lt len (length bytes))
  where
    go : (b : Bool) → IsIdle (if b then Refusal invalid_size else fixed_data bytes)
    go true = tt
    go false = (refl, refl)

value-idle : (p : PlantPort) (len : ℕ) (place : client.Place) → IsIdle (value_act p len place)
value-idle p len place = go (nat_lt place.len len)
  where
    go : (b : Bool) → IsIdle (if b then Refusal invalid_size else reading (map WholeByte (names_of_place p.number place len)))
    go true = tt
    go false = (refl, refl)

found-idle : (o : Option Found) (act : Found → Act) → ((f : Found) → IsIdle (act f)) → IsIdle (if_found o act)
found-idle None act idle = tt
found-idle (Some f) act idle = idle f

least-idle : (b : Bool) (act : Act) → IsIdle act → IsIdle (if b then Refusal invalid_size else act)
least-idle true act idle = tt
least-idle false act idle = idle

pub port-idle : (d : Setup) (c : client.Client) (p : PlantPort) (g : Option Group) (len : ℕ) (name : List ℕ)
    → IsIdle (read_write_group d c p (without_handles g) len name)
unfolding read_write_group
port-idle d c p (Some ValueByName) len name = found-idle (found_of p.symbols name) _ (λ f. value-idle p len (place_of f))
port-idle d c p (Some InfoByName) len name =
    least-idle (nat_lt len 12) _ (found-idle (found_of p.symbols name) (λ f. fixed_data (info_of f)) (λ f. (refl, refl)))
port-idle d c p (Some ExtendedInfoByName) len name =
    found-idle (found_of p.symbols name) _ (λ f. info-idle len (entry_bytes (entry_of_part d.profile.manner f)))
port-idle d c p g len name = tt

type-idle : (len : ℕ) (o : Option TypeTree) → IsIdle (if_type o len)
type-idle len None = tt
type-idle len (Some tree) =
    let bytes = type_upload_bytes (entry_by_type tree ∷ []) in
    least-idle (nat_lt greatest_len (length bytes)) (fixed_reply len bytes) (info-idle len bytes)

-- an entry of a type leaves all as it was
pub type_act-idle : (plant : Plant) (len : ℕ) (text : List ℕ) → IsIdle (type_act plant len text)
type_act-idle plant len text = type-idle len (tree_of_text plant.types (up_to_nul text))

pub port-leaves : (m : PortMemory) (kept : Kept) (group offset len : ℕ) (bytes : List ℕ) (r : Result (Result (Unit {0}) Code) NoMemory)
    → is_handle_by_name (group_of group) ≡ false
    → OnOk r ((a : Asking) → Asks a m kept → Asks (after_act a (plain_asked a (ReadWrite group offset len bytes))) m kept)
port-leaves m kept group offset len bytes (Err no_memory) is = tt
port-leaves m kept group offset len bytes (Ok answer) is = λ a asks.
    let act = read_write_group (setup_of a.world) a.client a.asker.port (without_handles (group_of group)) len bytes in
    leaves-along a act (plain_asked a (ReadWrite group offset len bytes)) m kept (asks-port a group offset len bytes is)
    (idle-leaves a act m kept (port-idle (setup_of a.world) a.client a.asker.port (group_of group) len bytes) asks)

-- the handle of a name, as the request
pub asked-leaves : (m : PortMemory) (kept kept' : Kept) (group offset len : ℕ) (bytes : List ℕ) (r : Result (Result (Unit {0}) Code) NoMemory)
    → is_handle_by_name (group_of group) ≡ true
    → OnOk r ((a : Asking) → Asks a m kept → Asks (after_act a (handle_act a len bytes)) m kept')
    → OnOk r ((a : Asking) → Asks a m kept → Asks (after_act a (plain_asked a (ReadWrite group offset len bytes))) m kept')
asked-leaves m kept kept' group offset len bytes (Err no_memory) is said = tt
asked-leaves m kept kept' group offset len bytes (Ok answer) is said = λ a asks.
    leaves-along a (handle_act a len bytes) (plain_asked a (ReadWrite group offset len bytes)) m kept' (asks-handle a group offset len bytes is) (said a asks)

-- a refusal answers nothing, and leaves all as it was

pub refused-answers : (w : World) (act : Act) (code : Code) (out : List ℕ) → act ≡ Refusal (number_of code) → AnswersAct w act (Err code) out out
refused-answers w act code out is = let P : Act → Type 0 = λ x. AnswersAct w x (Err code) out out in subst P (sym is) (refl, refl)

pub refused-leaves : (a : Asking) (act : Act) (code : ℕ) (m : PortMemory) (kept : Kept) → act ≡ Refusal code → Asks a m kept → Asks (after_act a act) m kept
refused-leaves a act code m kept is asks = leaves-along a (Refusal code) act m kept is (idle-leaves a (Refusal code) m kept tt asks)

-- whether no more can be granted, as the answer says

pub said-full : (answer : Result ℕ Full) (full : Full) (kept : Kept) → answer ≡ Err full
    → ((history : History) → Represents kept history → (IsErr answer ↔ IsFull history)) → (history : History) → Represents kept history → IsFull history
said-full answer full kept is said history r = (said history r).0 (ap is_err is)

pub said-not-full : (answer : Result ℕ Full) (handle : ℕ) (kept : Kept) → answer ≡ Ok handle
    → ((history : History) → Represents kept history → (IsErr answer ↔ IsFull history)) → (history : History) → Represents kept history → IsFull history → ⊥
said-not-full answer handle kept is said history r full = false≢true (sym (ap is_err is) ∙ (said history r).1 full)

-- what is said of a grant that was given

pub given : (P : ℕ → Type 0) (answer : Result ℕ Full) (handle : ℕ) → answer ≡ Ok handle → IfOk answer P → P handle
given P answer handle is said = let Q : Result ℕ Full → Type 0 = λ r. IfOk r P in subst Q is said

pub not-given : (P : Type 0) (answer : Result ℕ Full) (full : Full) → answer ≡ Err full → OnErr answer P → P
not-given P answer full is said = let Q : Result ℕ Full → Type 0 = λ r. OnErr r P in subst Q is said

-- a grant that was refused leaves all as it was
pub full-leaves : (a : Asking) (m : PortMemory) (kept kept' : Kept) (named : client.Place) → Asks a m kept → kept' ≡ kept
    → ((history : History) → Represents kept history → IsFull history) → Asks (after_act a (grant_act a.client a.asker.port named)) m kept'
full-leaves a m kept kept' named asks same full =
    let P : Kept → Type 0 = λ k. Asks (after_act a (grant_act a.client a.asker.port named)) m k in
    subst P (sym same) (refused-leaves a (grant_act a.client a.asker.port named) _ m kept (full-act a m kept named asks full) asks)
