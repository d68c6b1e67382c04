-- A client none of whose read bytes another writes is given what it would be given alone: the steps of the two runs, one
-- clause for each kind of move, and the induction over the log.
use Rattle.std.proofs.Common.{◌≡◌, ℕ, List, [], ◌∷◌, length, Bool, true, false, refl, sym, ◌∙◌, ap, subst, inl, inr}
use Rattle.std.specs.Prelude.{Result, Ok, Err}
use Rattle.std.proofs.lemmas.Bool.{eqb-true, eqb-false}
use Rattle.std.proofs.lemmas.List.Concat.{flat_map-append}
use Rattle.spec_plant.specs.Description.{Description}
use Rattle.spec_plant.specs.World.{ByteName, Block, plant_of}
use Rattle.ads_outside.specs.declared.event.Event.{Event}
use Rattle.ads_outside.specs.declared.event.Event.TheVariants as event
use Rattle.ads_outside.specs.declared.moves.Move.{Move}
use Rattle.ads_outside.specs.declared.moves.Move.TheVariants as move
use Rattle.spec_machine.specs.Device.{DescriptionFault}
use Rattle.spec_machine.specs.Connection.{Connection, connection_of}
use Rattle.spec_machine.specs.MachineState.{MachineState, output_of_connection}
use Rattle.spec_machine.specs.Moves.{EventStep, with_gone, with_took, state_after_move, state_after}
use Rattle.spec_machine.specs.Events.{moment_of_tick, connection_after_tick, connection_after_reload, after_reload, state_after_event}
use Rattle.spec_machine.specs.World.{World, world_in, first_memory}
use Rattle.spec_machine.specs.Client.{Client}
use Rattle.spec_machine.specs.Acts.{reads_of_act, writes_of_act, reads_of_acts, writes_of_acts}
use Rattle.spec_machine.specs.Ticks.{signal_puts, world_after_tick}
use Rattle.spec_machine.specs.Reloads.{is_kept, next_version, world_after_reload}
use Rattle.spec_machine.specs.AdsDevice.{DescriptionReading, reloading, ads_device, server_step}
use Rattle.spec_machine.specs.Projection.{is_event_of, is_move_of, projection_of, acts_of_move, acts_of_log, acts_by_others, reads_of, writes_by_others}
use Rattle.spec_machine.proofs.Growth.{connection_after_tick-grows, connection_after_reload-grows}
use Rattle.spec_machine.proofs.Changes.{with_gone-number, with_took-number}
use Rattle.spec_machine.specs.Offers.{taken_of}
use Rattle.spec_machine.specs.Delivery.{IsPrefix}
use Rattle.spec_machine.proofs.TurnsKept.{takes_output}
use Rattle.spec_machine.proofs.ServerDelivers.{server_only_adds, server_takes_all}
use Rattle.spec_laws.specs.Isolation.{IsAmong, start_in, IsIsolated, SeesOnlyItself, TakesAsAlone, TakesAllAsAlone}
use Rattle.spec_laws.proofs.Memory.{agree-back}
use Rattle.spec_laws.proofs.Footprints.{Each, each_left, each_right, Not, puts-agree}
use Rattle.spec_laws.proofs.Exchanges.{with_memory}
use Rattle.spec_laws.proofs.TicksAndReloads.{tick-agree, tick-watches, reload-agree, reload-watches, reload_memory-agree}
use Rattle.spec_laws.proofs.Worlds.{SameForClient, at-own, at-other, gone-same, took-same, took-passes}
use Rattle.spec_laws.proofs.Worlds.{piece-own, piece-other, opened-own, opened-other, mapped, mapped-in}

-- the second state, its world and moment written as those of the first
abbrev state_with : World → ℕ → ℕ → ℕ → List (Connection Client) → MachineState World Client
state_with w t accepted refused ks = record { world = w; moment = t; accepted = accepted; refused = refused; connections = ks }

abbrev beside : MachineState World Client → MachineState World Client → MachineState World Client
beside a s = state_with (with_memory s.world.memory a.world) a.moment s.accepted s.refused s.connections

is_beside : (R : ByteName → Type 0) (c : ℕ) (a s : MachineState World Client) → SameForClient R c a s → beside a s ≡ s
is_beside R c a s e =
    ap (λ w. state_with w a.moment s.accepted s.refused s.connections) (sym e.world)
    ∙ ap (λ t. state_with s.world t s.accepted s.refused s.connections) (sym e.moment)

same_beside : (R : ByteName → Type 0) (c : ℕ) (a s : MachineState World Client) → SameForClient R c a s → SameForClient R c a (beside a s)
same_beside R c a s e = record { world = refl; moment = refl; memory = e.memory; connection = e.connection; watches = e.watches }

tick-own : (reading : DescriptionReading) (R : ByteName → Type 0) (c t : ℕ)
    (a : MachineState World Client) (m : List Block) (x y : ℕ) (ls : List (Connection Client))
    → SameForClient R c a (state_with (with_memory m a.world) a.moment x y ls)
    → SameForClient R c (state_after_event (ads_device reading) a (event.Tick t))
    (state_after_event (ads_device reading) (state_with (with_memory m a.world) a.moment x y ls) (event.Tick t))
unfolding state_after_event world_after_tick
tick-own reading R c t a m x y ls e =
    let device = ads_device reading in
    let now = moment_of_tick t a in
    let puts = signal_puts a.world.plant.ports 0 a.world.signals in
    let w = world_after_tick a.world in
    let v = world_after_tick (with_memory m a.world) in
    let g = puts-agree R puts a.world.memory m e.memory in
    let f = connection_after_tick device now w in
    let h = connection_after_tick device now v in
    record {
      world = refl;
      moment = refl;
      memory = g;
      connection = mapped R c f h a.connections ls (λ k. (connection_after_tick-grows device now w k).number)
          (λ k. (connection_after_tick-grows device now v k).number)
          (λ k i. tick-agree reading R now w v.memory k g i) e.connection e.watches;
      watches = mapped-in R c f a.connections (λ k. (connection_after_tick-grows device now w k).number) (λ k i. tick-watches reading R now w k i) e.watches;
    }

reload-own : (reading : DescriptionReading) (R : ByteName → Type 0) (c : ℕ) (r : Result Description DescriptionFault)
    (a : MachineState World Client) (m : List Block) (x y : ℕ) (ls : List (Connection Client))
    → SameForClient R c a (state_with (with_memory m a.world) a.moment x y ls)
    → SameForClient R c (after_reload (ads_device reading) (reloading a.world r) a)
    (after_reload (ads_device reading) (reloading (with_memory m a.world) r) (state_with (with_memory m a.world) a.moment x y ls))
unfolding world_after_reload
reload-own reading R c (Err fault) a m x y ls e =
    record { world = e.world; moment = e.moment; memory = e.memory; connection = e.connection; watches = e.watches }
reload-own reading R c (Ok d) a m x y ls e =
    let device = ads_device reading in
    let w = world_after_reload a.world d in
    let v = world_after_reload (with_memory m a.world) d in
    let f = connection_after_reload device a.moment a.world w in
    let h = connection_after_reload device a.moment (with_memory m a.world) v in
    let number = λ (k : Connection Client). (connection_after_reload-grows device a.moment a.world w k).number in
    let other_number = λ (k : Connection Client). (connection_after_reload-grows device a.moment (with_memory m a.world) v k).number in
    record {
      world = refl;
      moment = refl;
      memory = reload_memory-agree R (is_kept a.world.plant (plant_of d)) a.world.memory m (first_memory (next_version a.world.version) (plant_of d)) e.memory;
      connection = mapped R c f h a.connections ls number other_number (λ k i. reload-agree reading a.moment a.world w m v.memory k) e.connection e.watches;
      watches = mapped-in R c f a.connections number (λ k i. reload-watches reading R a.moment a.world w k i) e.watches;
    }

-- an event of the connection, a tick or a reload
event-own : (reading : DescriptionReading) (R : ByteName → Type 0) (c : ℕ) (a s : MachineState World Client) (x : Event)
    → is_event_of c x ≡ true → SameForClient R c a s
    → Each R (reads_of_acts (acts_of_move reading a (move.Event x)))
    → SameForClient R c (state_after_event (ads_device reading) a x) (state_after_event (ads_device reading) s x)
unfolding state_after_event acts_of_move
event-own reading R c a s (event.Opened n) t e i = opened-own R c n a s e
event-own reading R c a s (event.Piece n bytes) t e i = piece-own reading R c n bytes (eqb-true n c t) a s e i
event-own reading R c a s (event.Closed n) t e i =
    at-own R c n with_gone with_gone with_gone-number with_gone-number (eqb-true n c t) a s e (λ k is. gone-same R c a s e k)
event-own reading R c a s (event.Tick now) t e i =
    let device = ads_device reading in
    let P : MachineState World Client → Type 0 =
    λ z. SameForClient R c (state_after_event device a (event.Tick now)) (state_after_event device z (event.Tick now)) in
    subst P (is_beside R c a s e) (tick-own reading R c now a s.world.memory s.accepted s.refused s.connections (same_beside R c a s e))
event-own reading R c a s (event.Reload bytes) t e i =
    let device = ads_device reading in
    let P : MachineState World Client → Type 0 =
    λ z. SameForClient R c (state_after_event device a (event.Reload bytes)) (state_after_event device z (event.Reload bytes)) in
    subst P (is_beside R c a s e)
    (reload-own reading R c (reading bytes (length a.world.signals)) a s.world.memory s.accepted s.refused s.connections (same_beside R c a s e))
event-own reading R c a s (event.Writable n) t e i = e

own : (reading : DescriptionReading) (R : ByteName → Type 0) (c : ℕ) (a s : MachineState World Client) (m : Move)
    → is_move_of c m ≡ true → SameForClient R c a s
    → Each R (reads_of_acts (acts_of_move reading a m))
    → SameForClient R c (state_after_move (server_step reading) a m) (state_after_move (server_step reading) s m)
unfolding state_after_move
own reading R c a s (move.Event x) t e i = event-own reading R c a s x t e i
own reading R c a s (move.Took n offered bytes) t e i =
    at-own R c n (with_took (length bytes)) (with_took (length bytes)) (with_took-number (length bytes))
    (with_took-number (length bytes)) (eqb-true n c t) a s e (λ k is. took-same R c (length bytes) a s e k)
own reading R c a s (move.Lost n) t e i =
    at-own R c n with_gone with_gone with_gone-number with_gone-number (eqb-true n c t) a s e (λ k is. gone-same R c a s e k)
own reading R c a s (move.Shut n) t e i =
    at-own R c n with_gone with_gone with_gone-number with_gone-number (eqb-true n c t) a s e (λ k is. gone-same R c a s e k)

-- a move of another connection
other : (reading : DescriptionReading) (R : ByteName → Type 0) (c : ℕ) (a s : MachineState World Client) (m : Move)
    → is_move_of c m ≡ false → SameForClient R c a s
    → Each (Not R) (writes_of_acts (acts_of_move reading s m)) → SameForClient R c a (state_after_move (server_step reading) s m)
unfolding state_after_move state_after_event acts_of_move
other reading R c a s (move.Event (event.Opened n)) t e i = opened-other R c n (eqb-false n c t) a s e
other reading R c a s (move.Event (event.Piece n bytes)) t e i = piece-other reading R c n bytes (eqb-false n c t) a s e i
other reading R c a s (move.Event (event.Closed n)) t e i =
    at-other R c n with_gone with_gone-number (eqb-false n c t) a s e
    (λ k is. record { world = refl; memory = agree-back R a.world.memory s.world.memory e.memory })
other reading R c a s (move.Event (event.Tick now)) t e i = cc
other reading R c a s (move.Event (event.Reload bytes)) t e i = cc
other reading R c a s (move.Event (event.Writable n)) t e i = e
other reading R c a s (move.Took n offered bytes) t e i =
    at-other R c n (with_took (length bytes)) (with_took-number (length bytes)) (eqb-false n c t) a s e (λ k is. took-passes R c (length bytes) a s e k)
other reading R c a s (move.Lost n) t e i =
    at-other R c n with_gone with_gone-number (eqb-false n c t) a s e
    (λ k is. record { world = refl; memory = agree-back R a.world.memory s.world.memory e.memory })
other reading R c a s (move.Shut n) t e i =
    at-other R c n with_gone with_gone-number (eqb-false n c t) a s e
    (λ k is. record { world = refl; memory = agree-back R a.world.memory s.world.memory e.memory })

-- both runs, move by move
pub runs : (reading : DescriptionReading) (R : ByteName → Type 0) (c : ℕ) (log : List Move) (a s : MachineState World Client) → SameForClient R c a s
    → Each R (reads_of reading c a log) → Each (Not R) (writes_by_others reading c s log)
    → SameForClient R c (state_after (server_step reading) a (projection_of c log)) (state_after (server_step reading) s log)
unfolding state_after acts_of_log acts_by_others projection_of
runs reading R c [] a s e i o = e
runs reading R c (m ∷ ms) a s e i o = split (is_move_of c m) refl (λ b t. runs reading R c ms b t)
  where
    step : EventStep World Client
    step = server_step reading

    Rest : Type 0
    Rest = (b t : MachineState World Client) → SameForClient R c b t → Each R (reads_of reading c b ms) → Each (Not R) (writes_by_others reading c t ms)
        → SameForClient R c (state_after step b (projection_of c ms)) (state_after step t ms)

    split : (b : Bool) → is_move_of c m ≡ b → Rest
        → SameForClient R c (state_after step a (projection_of c (m ∷ ms))) (state_after step (state_after_move step s m) ms)
    split true t rest =
        let here = acts_of_move reading a m in
        let later = acts_of_log reading (state_after_move step a m) (projection_of c ms) in
        let j = rw (t, flat_map-append reads_of_act here later) at i in
        let p = rw (t, flat_map-append writes_of_act [] (acts_by_others reading c (state_after_move step s m) ms)) at o in
        let left = each_left R (reads_of_acts here) (reads_of_acts later) j in
        let right = each_right R (reads_of_acts here) (reads_of_acts later) j in
        rw t (rest (state_after_move step a m) (state_after_move step s m) (own reading R c a s m t e left) right p)
    split false t rest =
        let here = acts_of_move reading s m in
        let later = acts_by_others reading c (state_after_move step s m) ms in
        let j = rw t at i in
        let p = rw (t, flat_map-append writes_of_act here later) at o in
        let left = each_left (Not R) (writes_of_acts here) (writes_of_acts later) p in
        let right = each_right (Not R) (writes_of_acts here) (writes_of_acts later) p in
        rw t (rest a (state_after_move step s m) (other reading R c a s m t e left) j right)

each_among : (ns all : List ByteName) → ((n : ByteName) → IsAmong n ns → IsAmong n all) → Each (λ n. IsAmong n all) ns
each_among [] all h = tt
each_among (n ∷ ns) all h = (h n (inl refl), each_among ns all (λ x i. h x (inr i)))

each_not : (ns all : List ByteName) → ((n : ByteName) → IsAmong n all → IsAmong n ns → ⊥) → Each (Not (λ n. IsAmong n all)) ns
each_not [] all h = tt
each_not (n ∷ ns) all h = (λ i. h n i (inl refl), each_not ns all (λ x i j. h x i (inr j)))

-- the predicate on names is "the client reads it"
pub isolated : IsIsolated
unfolding connection_of
isolated reading profile d signals c log apart =
    let all = reads_of reading c (start_in profile d signals) log in
    let e : SameForClient (λ n. IsAmong n all) c (start_in profile d signals) (start_in profile d signals) =
    record { world = refl; moment = refl; memory = record { same = λ n r. refl }; connection = refl; watches = tt } in
    let s = runs reading (λ n. IsAmong n all) c log (start_in profile d signals) (start_in profile d signals) e
    (each_among all all (λ n i. i)) (each_not (writes_by_others reading c (start_in profile d signals) log) all apart) in
    sym (ap output_of_connection s.connection)

pub sees_only_itself : SeesOnlyItself
sees_only_itself reading profile d signals c log other same apart also =
    isolated reading profile d signals c log apart
    ∙ ap (λ l. output_of_connection (connection_of c (state_after (server_step reading) (start_in profile d signals) l).connections)) same
    ∙ sym (isolated reading profile d signals c other also)

pub takes_as_alone : TakesAsAlone
takes_as_alone reading profile d signals c log offers apart =
    let device = ads_device reading in
    subst (IsPrefix (taken_of c log)) (isolated reading profile d signals c log apart)
    (takes_output World Client (server_step reading) (world_in profile d signals) c log (server_only_adds World Client device) offers)

pub takes_all_as_alone : TakesAllAsAlone
takes_all_as_alone reading profile d signals c log turns whole there apart =
    server_takes_all (ads_device reading) (world_in profile d signals) c log turns whole there
    ∙ isolated reading profile d signals c log apart
