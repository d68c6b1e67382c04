-- A handle that a reload keeps reads what it read.
use Rattle.std.proofs.Common.{◌≡◌, ℕ, zero, suc, ◌+◌, ◌<◌, ◌≤◌, List, [], ◌∷◌, map, length, true, false, refl, sym, ◌∙◌, ap, subst, inl, inr, arith}
use Rattle.std.specs.Prelude.{Option, Some, Result, Ok, Err, min, ◌-◌, ◌==◌, nat_lt, slice_get, unwrap_or, option_map}
use Rattle.std.proofs.lemmas.Bool.{cases_Bool, false≢true, eqb-true, ltb-false}
use Rattle.ads_outside.specs.declared.event.Event.TheVariants as event
use Rattle.ads_outside.specs.declared.moves.Move.TheVariants as move
use Rattle.spec_plant.specs.Description.{Description}
use Rattle.spec_plant.specs.World.{Block, Part, SymbolPart, ByteName, Plant, PlantPort, plant_of, is_block_of, block_of, byte_at}
use Rattle.spec_plant.proofs.BlockLemmas.{is_block-true}
use Rattle.spec_plant.proofs.SoundLemmas.{accepted_are_sound}
use Rattle.spec_formats.specs.Groups.{ValueByHandle, value_by_handle, group_in, group_of}
use Rattle.spec_formats.specs.Request.{Read}
use Rattle.spec_machine.specs.Manner.{Manner, Strict, Wide}
use Rattle.spec_machine.specs.Profile.{Profile, strict}
use Rattle.spec_machine.specs.Meanings.{len_by_status, read_len_in}
use Rattle.spec_machine.specs.Device.{ClientOutcome, DescriptionFault}
use Rattle.spec_machine.specs.Connection.{Connection, connection_of, is_deaf}
use Rattle.spec_machine.specs.MachineState.{MachineState}
use Rattle.spec_machine.specs.Piece.{with_client}
use Rattle.spec_machine.specs.Moves.{state_after_move}
use Rattle.spec_machine.specs.Events.{connection_after_reload, after_reload, state_after_event}
use Rattle.spec_machine.specs.World.{World, Setup, setup_of, numbers_from, first_memory}
use Rattle.spec_machine.specs.Access.{WholeByte, values_at}
use Rattle.spec_machine.specs.Handles.{HandleStatus, Never, Released, Outdated, Live, Handle, handle_in, kept_status}
use Rattle.spec_machine.specs.Handles.{is_live, status_after_reload, handle_after_reload, handles_after}
use Rattle.spec_machine.specs.Client.{Place, Client, Kept, kept_place, client_after_reload}
use Rattle.spec_machine.specs.Acts.{Outcome, outcome_of}
use Rattle.spec_machine.specs.Answers.{answered_group}
use Rattle.spec_machine.specs.Reach.{addressed_in_place, addressed_by_status, reach_of}
use Rattle.spec_machine.specs.Reads.{read_act, read_group}
use Rattle.spec_machine.specs.Requests.{plain_act, act_of}
use Rattle.spec_machine.specs.SumLaws.{Party, single_outcome}
use Rattle.spec_machine.specs.Writes.{Asker}
use Rattle.spec_machine.specs.Reloads.{is_kept, kept_block_bytes, next_version, memory_after_reload, world_after_reload, client_reloaded}
use Rattle.spec_machine.specs.AdsDevice.{reloading}
use Rattle.spec_machine.proofs.MoreActs.{more_read-none}
use Rattle.spec_machine.proofs.Find.{connection_of-map}
use Rattle.spec_machine.proofs.Growth.{connection_after_reload-grows}
use Rattle.spec_laws.specs.Soundness.{Each, IsSoundPlant}
use Rattle.spec_laws.specs.Reachable.{IsPlaced, IsPlacedStatus, ConnectionFits}
use Rattle.spec_laws.proofs.Alike.{kept-length}
use Rattle.spec_laws.proofs.EveryState.{every_state_fits}
use Rattle.spec_laws.proofs.Exchanges.{produce_all-client}
use Rattle.spec_laws.proofs.FineActs.{kept-placed}
use Rattle.spec_laws.proofs.FirstMemory.{symbol-named}
use Rattle.spec_server.specs.Server.{read_description, server_device, server_after_in}
use Rattle.spec_server.proofs.ServerProofs.{reads_descriptions}
use Rattle.spec_promises.specs.KeptHandles.{ReadsAsBefore, ServerKeepsHandles, EachKeepsHandles}
use Rattle.spec_promises.proofs.Seen.{Whole, every_state_whole, found_among}
use Rattle.spec_promises.proofs.Lives.{after_one}

-- the bytes of a part that is kept, and that has some
reloaded : (kept : Kept) (old : List Block) (port : ℕ) (part : Part) (new : List Block) → kept port part ≡ true → 0 < length (block_of new port part)
    → block_of (memory_after_reload kept old new) port part ≡ kept_block_bytes part (block_of old port part) (block_of new port part)
unfolding memory_after_reload
reloaded kept old port part [] t h = absurd (omega (arith, h))
reloaded kept old port part (b ∷ bs) t h =
    elim (cases_Bool (is_block_of port part b)) [
      | inl u ↦
          let i = is_block-true port part b u in
          let same : kept b.port b.part ≡ true = ap (λ n. kept n b.part) i.same_port ∙ ap (kept port) i.same_part ∙ t in
          let found : block_of old b.port b.part ≡ block_of old port part = ap (λ n. block_of old n b.part) i.same_port ∙ ap (block_of old port) i.same_part in
          rw (same, u) (ap (λ q. kept_block_bytes q (block_of old b.port b.part) b.bytes) i.same_part ∙ ap (λ xs. kept_block_bytes part xs b.bytes) found)
      | inr u ↦
          let g = rw u at h in
          let rest = reloaded kept old port part bs t g in
          elim (cases_Bool (kept b.port b.part)) [
            | inl v ↦ rw (v, u) rest
            | inr v ↦ rw (v, u) rest
          ]
    ]

abbrev symbol_byte : ℕ → List ℕ → ℕ → ByteName
symbol_byte port symbol k = record { port = port; part = SymbolPart symbol; index = k }

values-kept : (kept : Kept) (old new : List Block) (port : ℕ) (symbol : List ℕ) → kept port (SymbolPart symbol) ≡ true
    → (n first : ℕ) → ((i : ℕ) → first ≤ i → i < first + n → i < length (block_of new port (SymbolPart symbol)))
    → values_at (memory_after_reload kept old new) (map WholeByte (map (symbol_byte port symbol) (numbers_from first n))) ≡ values_at old
    (map WholeByte (map (symbol_byte port symbol) (numbers_from first n)))
unfolding numbers_from byte_at
values-kept kept old new port symbol t zero first h = refl
values-kept kept old new port symbol t (suc n) first h =
    let l = h first (omega arith) (omega arith) in
    let block = reloaded kept old port (SymbolPart symbol) new t (omega (arith, l)) in
    let head = ap (λ (xs : List ℕ). unwrap_or (slice_get xs first) 0) block in
    let rest = values-kept kept old new port symbol t n (first + 1) (λ i low high. h i (omega (arith, low)) (omega (arith, high))) in
    rw (head, rest) refl

-- the status of a handle after a reload
status-after : (moves : ℕ → Place → Option Place) (hs : List (Handle Place)) (h port : ℕ)
    → kept_status (map (handle_after_reload moves) hs) h port ≡ status_after_reload (moves port) (kept_status hs h port)
unfolding handle_in
status-after moves [] h port = refl
status-after moves (x ∷ xs) h port =
    elim (cases_Bool (h == 1)) [
      | inl t ↦ rw t (elim (cases_Bool (x.port == port)) [
        | inl u ↦ rw u (ap (λ n. status_after_reload (moves n) x.status) (eqb-true x.port port u))
        | inr u ↦ rw u refl
      ])
      | inr t ↦ rw t (status-after moves xs (h - 1) port)
    ]

-- a status that is live before and after
record StaysLive (kept : Kept) (port : ℕ) (before : HandleStatus Place) : Type 0 where
  place : Place
  live : before ≡ Live place
  is_kept : kept port (SymbolPart place.symbol) ≡ true
  later : status_after_reload (kept_place kept port) before ≡ Live place

stays-live : (kept : Kept) (port : ℕ) (s : HandleStatus Place) → is_live s ≡ true → is_live (status_after_reload (kept_place kept port) s) ≡ true
    → StaysLive kept port s
stays-live kept port Never e f = absurd (false≢true e)
stays-live kept port Released e f = absurd (false≢true e)
stays-live kept port Outdated e f = absurd (false≢true e)
stays-live kept port (Live place) e f =
    elim (cases_Bool (kept port (SymbolPart place.symbol))) [
      | inl t ↦ record { place = place; live = refl; is_kept = t; later = rw t refl }
      | inr t ↦ let g : false ≡ true = rw t at f in absurd (false≢true g)
    ]

-- what is read by a live handle
abbrev read_of_place : List Block → ℕ → Place → ℕ → Outcome
read_of_place memory port place len = outcome_of memory (read_act (addressed_in_place port place len))

-- how many bytes of a place are read, where so many are asked
abbrev len_of_place : Manner → Place → ℕ → ℕ
len_of_place Strict place len = len
len_of_place Wide place len = min len place.len

meant-len : (x : Manner) (c : Client) (p : PlantPort) (handle len : ℕ) (place : Place) → kept_status c.handles handle p.number ≡ Live place
    → read_len_in x c p (Some ValueByHandle) handle len ≡ len_of_place x place len
meant-len Strict c p handle len place live = refl
meant-len Wide c p handle len place live = ap (λ s. len_by_status s len) live

reads-place : (d : Setup) (k : Asker) (p : Party) (handle len : ℕ) (place : Place) → kept_status p.client.handles handle k.port.number ≡ Live place
    → single_outcome d k p (Read value_by_handle handle len) ≡ read_of_place p.memory k.port.number place (len_of_place d.profile.manner place len)
unfolding act_of plain_act answered_group group_of group_in read_group reach_of
reads-place d k p handle len place live =
    let meant = read_len_in d.profile.manner p.client k.port (Some ValueByHandle) handle len in
    let plain = read_act (addressed_by_status k.port.number (kept_status p.client.handles handle k.port.number) meant) in
    ap (λ o. outcome_of p.memory (unwrap_or o plain)) (more_read-none d.profile.manner k.port.number value_by_handle handle len refl)
    ∙ ap (λ s. outcome_of p.memory (read_act (addressed_by_status k.port.number s meant))) live
    ∙ ap (read_of_place p.memory k.port.number place) (meant-len d.profile.manner p.client k.port handle len place live)

place-kept : (version : ℕ) (old new : Plant) (m : List Block) → IsSoundPlant old → IsSoundPlant new → (port : ℕ) (place : Place) → IsPlaced old port place
    → is_kept old new port (SymbolPart place.symbol) ≡ true → (len : ℕ)
    → read_of_place (memory_after_reload (is_kept old new) m (first_memory version new)) port place len ≡ read_of_place m port place len
place-kept version old new m so sn port place i t len =
    elim (cases_Bool (nat_lt place.len len)) [
      | inl u ↦ rw u refl
      | inr u ↦
          let l = ltb-false place.len len u in
          let ends = i.ends in
          let long = kept-length version old new so sn port (SymbolPart place.symbol) t in
          let values = values-kept (is_kept old new) m (first_memory version new) port place.symbol t len place.first
          (λ j low high. let n = symbol-named old so port i.asked place.symbol i.symbol i.port_found i.symbol_found j (omega (arith, l, ends, high)) in
          omega (arith, n, long)) in
          rw u (ap outcome values)
    ]
  where
    outcome : List ℕ → Outcome
    outcome xs = record { code = 0; bytes = xs }

-- a connection after a reload
handles-after : (moment : ℕ) (old new : World) (k : Connection Client) → is_deaf k ≡ false
    → (connection_after_reload server_device moment old new k).client.handles ≡ map
    (handle_after_reload (kept_place (is_kept old.plant new.plant))) k.client.handles
unfolding connection_after_reload client_reloaded client_after_reload handles_after
handles-after moment old new k heard =
    let o : ClientOutcome Client = client_reloaded moment old new k.client in
    rw heard (ap (λ (c : Client). c.handles) (produce_all-client o.frames (with_client o.client k)))

-- what is read by a handle that has one place in two states, where the place holds the same in both
same-reading : (ds dt : Setup) (ms mt : List Block) (k l : Client) (asker later : Asker) (handle len : ℕ) (place : Place)
    → dt.profile ≡ ds.profile → later.port.number ≡ asker.port.number
    → kept_status k.handles handle asker.port.number ≡ Live place → kept_status l.handles handle later.port.number ≡ Live place
    → read_of_place mt asker.port.number place (len_of_place ds.profile.manner place len)
    ≡ read_of_place ms asker.port.number place (len_of_place ds.profile.manner place len)
    → single_outcome dt later (record { client = l; memory = mt }) (Read value_by_handle handle len) ≡ single_outcome ds asker
    (record { client = k; memory = ms }) (Read value_by_handle handle len)
same-reading ds dt ms mt k l asker later handle len place profile port before after same =
    let most : ℕ = len_of_place ds.profile.manner place len in
    let new : single_outcome dt later (record { client = l; memory = mt }) (Read value_by_handle handle len) ≡ read_of_place mt later.port.number place most
    = reads-place dt later (record { client = l; memory = mt }) handle len place after
    ∙ ap (λ (x : Profile). read_of_place mt later.port.number place (len_of_place x.manner place len)) profile in
    let old : single_outcome ds asker (record { client = k; memory = ms }) (Read value_by_handle handle len) ≡ read_of_place ms asker.port.number place most
    = reads-place ds asker (record { client = k; memory = ms }) handle len place before in
    let there : read_of_place mt later.port.number place most ≡ read_of_place mt asker.port.number place most
    = ap (λ n. read_of_place mt n place most) port in
    cc

-- a live status has a place
live_place : (s : HandleStatus Place) → is_live s ≡ true → (place : Place) × (s ≡ Live place)
live_place Never e = absurd (false≢true e)
live_place Released e = absurd (false≢true e)
live_place Outdated e = absurd (false≢true e)
live_place (Live place) e = (place, refl)

-- a reload of a state
reads-as-before : (s : MachineState World Client) (r : Result Description DescriptionFault) → ((d : Description) → r ≡ Ok d → IsSoundPlant (plant_of d))
    → Whole s.world → Each (ConnectionFits s.world) s.connections
    → ReadsAsBefore s (after_reload server_device (reloading s.world r) s)
unfolding world_after_reload
reads-as-before s (Err fault) sound w fits c k l asker later h handle live live_later len =
    let some : Some k ≡ Some l = sym h.before ∙ h.after in
    let same : k ≡ l = cc in
    let place = live_place (kept_status k.client.handles handle asker.port.number) live in
    let after : kept_status l.client.handles handle later.port.number ≡ Live place.0 =
    ap (kept_status l.client.handles handle) h.same_port ∙ ap (λ (x : Connection Client). kept_status x.client.handles handle asker.port.number) (sym same)
    ∙ place.1 in
    same-reading (setup_of s.world) (setup_of s.world) s.world.memory s.world.memory k.client l.client asker later handle len place.0 refl h.same_port place.1
    after refl
reads-as-before s (Ok d) sound w fits c k l asker later h handle live live_later len =
    let device = server_device in
    let new = world_after_reload s.world d in
    let f = connection_after_reload device s.moment s.world new in
    let kept = is_kept s.world.plant (plant_of d) in
    let port = asker.port.number in
    let mapped : connection_of c (after_reload device (reloading s.world (Ok d)) s).connections ≡ Some (f k) =
    connection_of-map c f (λ x. (connection_after_reload-grows device s.moment s.world new x).number) s.connections ∙ ap (option_map f) h.before in
    let some : Some (f k) ≡ Some l = sym mapped ∙ h.after in
    let same : f k ≡ l = cc in
    let handles : l.client.handles ≡ map (handle_after_reload (kept_place kept)) k.client.handles =
    ap (λ (x : Connection Client). x.client.handles) (sym same) ∙ handles-after s.moment s.world new k h.heard in
    let status : kept_status l.client.handles handle port ≡ status_after_reload (kept_place kept port) (kept_status k.client.handles handle port) =
    ap (λ hs. kept_status hs handle port) handles ∙ status-after (kept_place kept) k.client.handles handle port in
    let stays = stays-live kept port (kept_status k.client.handles handle port) live (ap (λ (x : HandleStatus Place). is_live x) (sym status) ∙ live_later) in
    let fit = found_among (ConnectionFits s.world) c s.connections k fits h.before h.heard in
    let placed = subst (IsPlacedStatus s.world.plant port) stays.live (kept-placed s.world.plant k.client.handles handle port fit.handles) in
    let after : kept_status l.client.handles handle later.port.number ≡ Live stays.place = ap (kept_status l.client.handles handle) h.same_port ∙ status
    ∙ stays.later in
    same-reading (setup_of s.world) (setup_of new) s.world.memory new.memory k.client l.client asker later handle len stays.place refl h.same_port stays.live
    after
    (place-kept (next_version s.world.version) s.world.plant (plant_of d) s.world.memory w.sound (sound d refl) port stays.place placed stays.is_kept
    (len_of_place s.world.profile.manner stays.place len))

pub each_keeps_handles : EachKeepsHandles
unfolding state_after_move state_after_event
each_keeps_handles profile d waves accepted before bytes =
    let s = server_after_in profile d waves before in
    subst (ReadsAsBefore s) (sym (after_one profile d waves before (move.Event (event.Reload bytes))))
    (reads-as-before s (read_description bytes (length s.world.signals))
    (λ new e. accepted_are_sound new (length s.world.signals) (reads_descriptions bytes (length s.world.signals) new e))
    (every_state_whole profile d waves accepted before)
    (every_state_fits read_description reads_descriptions profile d waves accepted before).connections)

pub server_keeps_handles : ServerKeepsHandles
server_keeps_handles d waves accepted before bytes = each_keeps_handles strict d waves accepted before bytes
