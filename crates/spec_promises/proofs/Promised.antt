-- The server's writes at each move of every log.
use Rattle.std.proofs.Common.{◌≡◌, List, [], ◌∷◌, refl, sym, subst}
use Rattle.signals.specs.Wave.{Wave}
use Rattle.ads_outside.specs.declared.event.Event.TheVariants as event
use Rattle.ads_outside.specs.declared.moves.Move.{Move}
use Rattle.ads_outside.specs.declared.moves.Move.TheVariants as move
use Rattle.spec_plant.specs.Description.{Description}
use Rattle.spec_machine.specs.Profile.{Profile, strict}
use Rattle.spec_machine.specs.Connection.{connection_of}
use Rattle.spec_machine.specs.MachineState.{MachineState}
use Rattle.spec_machine.specs.Moves.{state_after_move}
use Rattle.spec_machine.specs.Events.{state_after_event}
use Rattle.spec_machine.specs.World.{World}
use Rattle.spec_machine.specs.Client.{Client}
use Rattle.spec_machine.specs.Acts.{writes_of_acts}
use Rattle.spec_machine.specs.Projection.{acts_of_move}
use Rattle.spec_laws.specs.Soundness.{Each}
use Rattle.spec_laws.proofs.Histories.{handles_are_history}
use Rattle.spec_server.specs.Server.{read_description, server_after_in}
use Rattle.spec_promises.specs.Asked.{Asked, asked_of_move, names_written, Leads}
use Rattle.spec_promises.specs.Written.{IsDone, IsControlled, asked_at_move, ChangesByRequests, ServerHoldsWrites, EachHoldsWrites}
use Rattle.spec_promises.specs.KeptHandles.{EachHandleIsHistory}
use Rattle.spec_promises.proofs.AskedLemmas.{piece-takes_at}
use Rattle.spec_promises.proofs.Seen.{Sees, every_request_sees}
use Rattle.spec_promises.proofs.WriteLemmas.{write_is_done}
use Rattle.spec_promises.proofs.ControlLemmas.{control_is_done}
use Rattle.spec_promises.proofs.Lives.{after_one}

changes : (profile : Profile) (d : Description) (waves : List Wave) (before : List Move) (m : Move) → ChangesByRequests profile d waves before m
unfolding state_after_move state_after_event asked_of_move
changes profile d waves before (move.Event (event.Piece c bytes)) =
    let s = server_after_in profile d waves before in
    let m : Move = move.Event (event.Piece c bytes) in
    let t = piece-takes_at s bytes (connection_of c s.connections) in
    let P : MachineState World Client → Type 0 = λ x. Leads s.world.memory (asked_at_move profile d waves before m) x.world.memory in
    subst P (sym (after_one profile d waves before m)) t.leads
changes profile d waves before m = tt

names : (s : MachineState World Client) (m : Move)
    → names_written (asked_of_move s m) ≡ writes_of_acts (acts_of_move read_description s m)
unfolding asked_of_move acts_of_move
names s (move.Event (event.Piece c bytes)) = (piece-takes_at s bytes (connection_of c s.connections)).names
names s m = refl

each_done : (as_ : List Asked) → Each Sees as_ → Each IsDone as_
each_done [] e = tt
each_done (a ∷ as_) e = (write_is_done a (e.0), each_done as_ (e.1))

each_controlled : (as_ : List Asked) → Each Sees as_ → Each IsControlled as_
each_controlled [] e = tt
each_controlled (a ∷ as_) e = (control_is_done a (e.0), each_controlled as_ (e.1))

pub each_holds_writes : EachHoldsWrites
each_holds_writes profile d waves accepted before m = record {
  requests = changes profile d waves before m;
  names = names (server_after_in profile d waves before) m;
  writes = each_done (asked_at_move profile d waves before m) (every_request_sees profile d waves accepted before m);
  controls = each_controlled (asked_at_move profile d waves before m) (every_request_sees profile d waves accepted before m);
}

pub server_holds_writes : ServerHoldsWrites
server_holds_writes d waves accepted before m = each_holds_writes strict d waves accepted before m

pub each_handle_is_history : EachHandleIsHistory
each_handle_is_history profile d waves log c k found handle port =
    handles_are_history read_description profile d waves log c k found handle port
