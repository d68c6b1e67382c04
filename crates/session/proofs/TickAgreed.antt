-- The checks of a tick, where what is watched is told by ranges and own bytes, are those where it is told by names.
use Rattle.std.proofs.Common.{◌≡◌, ℕ, ◌+◌, Bool, true, false, cond, List, [], ◌∷◌, ◌++◌, map, refl, sym, ap, subst, ◌∙◌}
use Rattle.std.specs.Prelude.{Option, Some, None, ◌&&◌, nat_lt, nat_le}
use Rattle.std.specs.List.{All}
use Rattle.std.specs.Option.{option_map_or}
use Rattle.std.proofs.lemmas.Bool.{and_parts, leb-true, ltb-true, false≢true}
use Rattle.std.proofs.lemmas.List.Elements.{All-nil, All-cons}
use Rattle.spec_plant.specs.Description.{size_in}
use Rattle.spec_plant.specs.Named.{port_numbered}
use Rattle.spec_plant.specs.World.{PlantPort}
use Rattle.spec_formats.specs.Ranges.{Bytes, Bit, Size}
use Rattle.spec_machine.specs.Access.{Addressed, WholeByte, OneBit, values_at}
use Rattle.spec_machine.specs.Client.{Client}
use Rattle.spec_machine.specs.HandleLaws.{AgreeingWatch, AgreeingWatches}
use Rattle.spec_machine.specs.Stamps.{frames_of_samples, samples_at, watches_after_tick}
use Rattle.spec_machine.specs.Ticks.{client_after_tick}
use Rattle.spec_machine.specs.WatchedRanges.{Watched, InArea, Own, are_same_addressed, is_watched_at, is_same_watched}
use Rattle.spec_machine.specs.Watches.{Watch, is_due, is_sent, after_check, checked_watch, samples_of}
use Rattle.spec_machine.specs.World.{World, name_at, names_at, own_names, OWN_SIZE}
use Rattle.port_device.specs.Holds.{HoldsPorts}
use Rattle.port_device.specs.PortMemory.{PortsMemory}
use Rattle.notify_table.specs.Table.{WatchTable}
use Rattle.session.specs.declared.notes.NoteFrame.{NoteFrame}
use Rattle.session.specs.NoteFrames.{produced_of}
use Rattle.session.specs.Served.{IsServed}
use Rattle.session.specs.Checks.{AreReadable, bytes_found, found_in, IsInFound, IsInPort, samples_found, table_checked}
use Rattle.session.specs.SessionState.{SessionState}
use Rattle.session.specs.StandsFor.{StandsFor}
use Rattle.spec_machine.proofs.RangesMoved.{are_same-true}

-- what is found of what is watched is what stands under the names of its bytes
found_by_names : (w : World) (o : Option PlantPort) (named : List Addressed) (watched : Watched)
    → option_map_or (is_watched_at named watched) o false ≡ true
    → IsInFound o watched × (bytes_found w o watched ≡ values_at w.memory named)
found_by_names w None watched range t = absurd (false≢true t)
found_by_names w (Some p) named (Own first len) t =
    let names = map WholeByte (own_names p.number first len) in
    let outer = and_parts (nat_lt 0 len && nat_le (first + len) OWN_SIZE) (are_same_addressed named names) t in
    let inner = and_parts (nat_lt 0 len) (nat_le (first + len) OWN_SIZE) outer.0 in
    (leb-true _ _ inner.1, ap (values_at w.memory) (sym (are_same-true named names outer.1)))
found_by_names w (Some p) watched (InArea (Bytes area offset len)) t =
    let names = map WholeByte (names_at p area offset len) in
    let outer = and_parts (nat_lt 0 len && nat_le (offset + len) (size_in p.sizes area)) (are_same_addressed watched names) t in
    let inner = and_parts (nat_lt 0 len) (nat_le (offset + len) (size_in p.sizes area)) outer.0 in
    (leb-true _ _ inner.1, ap (values_at w.memory) (sym (are_same-true watched names outer.1)))
found_by_names w (Some p) watched (InArea (Bit area offset bit)) t =
    let names = OneBit (name_at p area offset) bit ∷ [] in
    let parts = and_parts (nat_lt offset (size_in p.sizes area)) (are_same_addressed watched names) t in
    (ltb-true _ _ parts.0, ap (values_at w.memory) (sym (are_same-true watched names parts.1)))
found_by_names w (Some p) watched (InArea (Size area)) t = absurd (false≢true t)

module _ (w : World) where
  abbrev agrees : Watch (List Addressed) → Watch Watched → Type 0
  agrees u v = AgreeingWatch (is_same_watched w.plant.ports) u v

  found_alike : (u : Watch (List Addressed)) (v : Watch Watched) → agrees u v → IsInPort w v × (found_in w v ≡ values_at w.memory u.watched)
  found_alike u v h =
      subst (λ n. IsInFound (port_numbered n w.plant.ports) v.watched
      × (bytes_found w (port_numbered n w.plant.ports) v.watched ≡ values_at w.memory u.watched)) (sym h.port)
      (found_by_names w (port_numbered u.port w.plant.ports) u.watched v.watched h.watched)

  -- what notifications watch lies in their ports
  pub all_in_ports : (us : List (Watch (List Addressed))) (vs : List (Watch Watched)) → AgreeingWatches (is_same_watched w.plant.ports) us vs
      → All (IsInPort w) vs
  all_in_ports [] [] h = All-nil (IsInPort w)
  all_in_ports (u ∷ us) (v ∷ vs) h = All-cons (IsInPort w) v vs ((found_alike u v h.0).0) (all_in_ports us vs h.1)
  all_in_ports [] (v ∷ vs) h = absurd h
  all_in_ports (u ∷ us) [] h = absurd h

  same_sample : (now : ℕ) (bytes : List ℕ) (u : Watch (List Addressed)) (v : Watch Watched) → agrees u v → samples_of now bytes v ≡ samples_of now bytes u
  same_sample now bytes u v h = rw (h.handle, h.port, h.address, h.mode, h.cycle, h.last, h.sent) refl

  samples_alike : (now : ℕ) (us : List (Watch (List Addressed))) (vs : List (Watch Watched)) → AgreeingWatches (is_same_watched w.plant.ports) us vs
      → samples_found now w vs ≡ samples_at w.memory now us
  unfolding samples_at
  samples_alike now [] [] h = refl
  samples_alike now (u ∷ us) (v ∷ vs) h =
      let one = ap (λ b. samples_of now b v) ((found_alike u v h.0).1) ∙ same_sample now (values_at w.memory u.watched) u v h.0 in
      ap (λ l. l ++ samples_found now w vs) one
      ∙ ap (λ l. samples_of now (values_at w.memory u.watched) u ++ l) (samples_alike now us vs h.1)
  samples_alike now [] (v ∷ vs) h = absurd h
  samples_alike now (u ∷ us) [] h = absurd h

  agree_where : (a b : Bool) (x y : Watch (List Addressed)) (p q : Watch Watched) → b ≡ a → agrees x p → agrees y q → agrees (cond a x y) (cond b p q)
  agree_where true true x y p q e yes_ no_ = yes_
  agree_where false false x y p q e yes_ no_ = no_
  agree_where true false x y p q e yes_ no_ = absurd cc
  agree_where false true x y p q e yes_ no_ = absurd cc

  same_due : (now : ℕ) (u : Watch (List Addressed)) (v : Watch Watched) → agrees u v → is_due now v ≡ is_due now u
  same_due now u v h = rw (h.cycle, h.last) refl

  same_sent : (bytes : List ℕ) (u : Watch (List Addressed)) (v : Watch Watched) → agrees u v → is_sent bytes v ≡ is_sent bytes u
  same_sent bytes u v h = rw (h.last, h.mode, h.sent) refl

  checked_alike : (now : ℕ) (bytes : List ℕ) (u : Watch (List Addressed)) (v : Watch Watched) → agrees u v
      → agrees (checked_watch now bytes u) (checked_watch now bytes v)
  checked_alike now bytes u v h =
      agree_where (is_due now u) (is_due now v) (after_check now bytes u) u (after_check now bytes v) v (same_due now u v h)
      (agree_where (is_sent bytes u) (is_sent bytes v) (record u { last = Some now; sent = bytes }) (record u { last = Some now })
      (record v { last = Some now; sent = bytes }) (record v { last = Some now }) (same_sent bytes u v h)
      (record { handle = h.handle; port = h.port; address = h.address; mode = h.mode; cycle = h.cycle; last = refl; sent = refl; watched = h.watched })
      (record { handle = h.handle; port = h.port; address = h.address; mode = h.mode; cycle = h.cycle; last = refl; sent = h.sent; watched = h.watched }))
      h

  watches_alike : (now : ℕ) (us : List (Watch (List Addressed))) (vs : List (Watch Watched)) → AgreeingWatches (is_same_watched w.plant.ports) us vs
      → AgreeingWatches (is_same_watched w.plant.ports) (watches_after_tick w.memory now us)
      (map (λ (v : Watch Watched). checked_watch now (found_in w v) v) vs)
  unfolding watches_after_tick
  watches_alike now [] [] h = tt
  watches_alike now (u ∷ us) (v ∷ vs) h = (
    subst (λ b. agrees (checked_watch now (values_at w.memory u.watched) u) (checked_watch now b v)) (sym ((found_alike u v h.0).1))
        (checked_alike now (values_at w.memory u.watched) u v h.0),
    watches_alike now us vs h.1,
  )
  watches_alike now [] (v ∷ vs) h = absurd h
  watches_alike now (u ∷ us) [] h = absurd h

-- the frames of a tick are those of the client
pub tick_frames : (now : ℕ) (w : World) (c : Client) (s : SessionState) → StandsFor w.plant c s
    → frames_of_samples w.plant.net now (samples_found now w s.watches.watches) ≡ (client_after_tick now w c).frames
unfolding client_after_tick
tick_frames now w c s stands = ap (frames_of_samples w.plant.net now) (samples_alike w now c.watches s.watches.watches stands.watches)

-- the session after a tick stands for the client after it
pub tick_stands : (now : ℕ) (w : World) (c : Client) (s new : SessionState) → StandsFor w.plant c s
    → new ≡ record s { watches = table_checked now w s.watches }
    → StandsFor w.plant (client_after_tick now w c).client new
unfolding client_after_tick
tick_stands now w c s new stands is = rw is (record {
  handles = stands.handles;
  additions = stands.additions;
  watches = watches_alike w now c.watches s.watches.watches stands.watches;
})

-- what is told of the checks, for each client that the session stands for
pub tick_told : (now : ℕ) (net : List ℕ) (ports : PortsMemory) (s : SessionState) (frames : List NoteFrame)
    → ((w : World) → HoldsPorts w ports → map produced_of frames ≡ frames_of_samples net now (samples_found now w s.watches.watches))
    → (w : World) (c : Client) → HoldsPorts w ports → StandsFor w.plant c s → w.plant.net ≡ net
    → map produced_of frames ≡ (client_after_tick now w c).frames
tick_told now net ports s frames told w c holds stands net_is =
    told w holds ∙ (ap (λ n. frames_of_samples n now (samples_found now w s.watches.watches)) (sym net_is) ∙ tick_frames now w c s stands)

-- what a session watches lies in its ports
pub tick_readable : (ports : PortsMemory) (s : SessionState) → IsServed ports s → AreReadable ports s.watches.watches
tick_readable ports s served = record {
  world = served.world;
  holds = served.held;
  within = all_in_ports served.world served.client.watches s.watches.watches served.stands.watches;
}

pub tick_leaves : (now : ℕ) (ports : PortsMemory) (s : SessionState) (watches : WatchTable)
    → ((w : World) → HoldsPorts w ports → watches ≡ table_checked now w s.watches)
    → (w : World) (c : Client) → HoldsPorts w ports → StandsFor w.plant c s
    → StandsFor w.plant (client_after_tick now w c).client (record s { watches = watches })
tick_leaves now ports s watches left w c holds stands =
    tick_stands now w c s (record s { watches = watches }) stands (ap (λ t. let k : SessionState = record s { watches = t } in k) (left w holds))

pub tick_served : (now : ℕ) (ports : PortsMemory) (s : SessionState) (watches : WatchTable) → IsServed ports s
    → ((w : World) → HoldsPorts w ports → watches ≡ table_checked now w s.watches)
    → IsServed ports (record s { watches = watches })
tick_served now ports s watches served left = record {
  world = served.world;
  client = (client_after_tick now served.world served.client).client;
  held = served.held;
  stands = tick_leaves now ports s watches left served.world served.client served.held served.stands;
}
