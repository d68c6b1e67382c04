-- Which bytes a move may change.
use Rattle.std.proofs.Common.{◌≡◌, ℕ, List, [], ◌∷◌, false, length, refl, sym, ap, inl, inr}
use Rattle.std.specs.Prelude.{Option, Some, None, Result, Ok, Err}
use Rattle.std.proofs.lemmas.Bool.{cases_Bool, false≢true}
use Rattle.spec_plant.specs.Description.{Description}
use Rattle.spec_plant.specs.World.{ByteName, Block, byte_at}
use Rattle.ads_outside.specs.declared.event.Event.TheVariants as event
use Rattle.ads_outside.specs.declared.moves.Move.TheVariants as move
use Rattle.spec_machine.specs.Device.{DescriptionFault}
use Rattle.spec_machine.specs.Connection.{Connection, connection_of}
use Rattle.spec_machine.specs.MachineState.{MachineState, exchange_of, after_exchange}
use Rattle.spec_machine.specs.Piece.{after_piece}
use Rattle.spec_machine.specs.Moves.{with_gone, with_took, state_after_move}
use Rattle.spec_machine.specs.Events.{after_reload, state_after_event}
use Rattle.spec_machine.specs.World.{World}
use Rattle.spec_machine.specs.Access.{addressed_name, byte_after}
use Rattle.spec_machine.specs.Client.{Client}
use Rattle.spec_machine.specs.Acts.{writes_of_acts}
use Rattle.spec_machine.specs.Ticks.{signal_puts, world_after_tick}
use Rattle.spec_machine.specs.AdsDevice.{DescriptionReading, reloading, ads_device}
use Rattle.spec_machine.specs.Projection.{acts_at, acts_of_move}
use Rattle.spec_laws.specs.Isolation.{IsAmong}
use Rattle.spec_laws.specs.ExactWrites.{names_of_puts, is_accepted, ChangesOnlyByWrites, PutsAreExact}
use Rattle.spec_laws.proofs.Memory.{Agree, byte_at-same, byte_at-other}
use Rattle.spec_laws.proofs.Footprints.{Each, Not, puts-outside}
use Rattle.spec_laws.proofs.Exchanges.{piece-outside}

each_apart : (n : ByteName) (ns : List ByteName) → (IsAmong n ns → ⊥) → Each (Not (λ x. n ≡ x)) ns
each_apart n [] h = tt
each_apart n (x ∷ xs) h = (λ e. h (inl e), each_apart n xs (λ i. h (inr i)))

agree_itself : (R : ByteName → Type 0) (m : List Block) → Agree R m m
agree_itself R m = record { same = λ n r. refl }

took-keeps : (o : Option (Connection Client)) (n : ℕ) (s : MachineState World Client) → (after_exchange o (with_took n) s).world.memory ≡ s.world.memory
took-keeps None n s = refl
took-keeps (Some k) n s = elim (cases_Bool k.gone) [ inl b ↦ rw b refl | inr b ↦ rw b refl ]

gone-keeps : (o : Option (Connection Client)) (s : MachineState World Client) → (after_exchange o with_gone s).world.memory ≡ s.world.memory
gone-keeps None s = refl
gone-keeps (Some k) s = refl

piece-exact : (reading : DescriptionReading) (o : Option (Connection Client)) (bytes : List ℕ) (s : MachineState World Client) (n : ByteName)
    → (IsAmong n (writes_of_acts (acts_at reading s bytes o)) → ⊥)
    → byte_at (after_exchange o (after_piece (ads_device reading) bytes) s).world.memory n ≡ byte_at s.world.memory n
piece-exact reading None bytes s n h = refl
piece-exact reading (Some k) bytes s n h =
    let R : ByteName → Type 0 = λ x. n ≡ x in
    let g = piece-outside reading R bytes (exchange_of s k) s.world.memory (agree_itself R s.world.memory) (each_apart n _ h) in
    g.memory.same n refl

reload-exact : (reading : DescriptionReading) (r : Result Description DescriptionFault) (s : MachineState World Client) (n : ByteName) → is_accepted r ≡ false
    → byte_at (after_reload (ads_device reading) (reloading s.world r) s).world.memory n ≡ byte_at s.world.memory n
reload-exact reading (Err fault) s n h = refl
reload-exact reading (Ok d) s n h = absurd (false≢true (sym h))

pub changes_only_by_writes : ChangesOnlyByWrites
unfolding state_after_move state_after_event acts_of_move world_after_tick
changes_only_by_writes reading s (move.Event (event.Opened c)) n r h = refl
changes_only_by_writes reading s (move.Event (event.Piece c bytes)) n r h = piece-exact reading (connection_of c s.connections) bytes s n h
changes_only_by_writes reading s (move.Event (event.Closed c)) n r h = ap (λ m. byte_at m n) (gone-keeps (connection_of c s.connections) s)
changes_only_by_writes reading s (move.Event (event.Tick t)) n r h =
    let R : ByteName → Type 0 = λ x. n ≡ x in
    let puts = signal_puts s.world.plant.ports 0 s.world.signals in
    let g = puts-outside R puts s.world.memory s.world.memory (each_apart n (names_of_puts puts) h) (agree_itself R s.world.memory) in
    g.same n refl
changes_only_by_writes reading s (move.Event (event.Reload bytes)) n r h = reload-exact reading (reading bytes (length s.world.signals)) s n r
changes_only_by_writes reading s (move.Event (event.Writable c)) n r h = refl
changes_only_by_writes reading s (move.Took c offered bytes) n r h = ap (λ m. byte_at m n) (took-keeps (connection_of c s.connections) (length bytes) s)
changes_only_by_writes reading s (move.Lost c) n r h = ap (λ m. byte_at m n) (gone-keeps (connection_of c s.connections) s)
changes_only_by_writes reading s (move.Shut c) n r h = ap (λ m. byte_at m n) (gone-keeps (connection_of c s.connections) s)

pub puts_are_exact : PutsAreExact
puts_are_exact memory p = record {
  here = byte_at-same memory (addressed_name p.place) (byte_after p.place p.value);
  elsewhere = λ n ne. byte_at-other memory (addressed_name p.place) n (byte_after p.place p.value) ne;
}
