-- What is served after some moves: its state, and the notes of its reloads.
use Rattle.std.proofs.Common.{◌≡◌, List, [], ◌∷◌, ◌++◌, refl, sym, ap, ◌∙◌, append_assoc, append-nil}
use Rattle.ads_outside.specs.declared.moves.Move.{Move}
use Rattle.ads_outside.specs.declared.moves.Move.TheVariants as move
use Rattle.spec_machine.specs.Device.{Device}
use Rattle.spec_machine.specs.Events.{state_after_event}
use Rattle.spec_machine.specs.MachineState.{MachineState}
use Rattle.spec_machine.specs.Moves.{EventStep, state_after_move, state_after}
use Rattle.spec_machine.specs.Running.{Running}
use Rattle.spec_machine.specs.RunText.{notes_of_event, notes_of_move, notes_of}
use Rattle.ads_served.specs.Standing.{Standing, Noting, noted_of_move, standing_after, standing_after_all}
use Rattle.serve_loop.proofs.LeadLemmas.{standing-running}

pub state_played : {W C : Type 0} (step : EventStep W C) (noted : Noting W C) (x : Standing W C) (ms : List Move)
    → (standing_after_all step noted x ms).running.state ≡ state_after step x.running.state ms
state_played {W} {C} step noted x ms = ap (λ (r : Running W C). r.state) (standing-running step noted x ms)

noted_so : {W C : Type 0} (device : Device W C) (s : MachineState W C) (m : Move) → noted_of_move (notes_of_event device) s m ≡ notes_of_move device s m
noted_so device s (move.Event e) = refl
noted_so device s (move.Took c offered bytes) = refl
noted_so device s (move.Lost c) = refl
noted_so device s (move.Shut c) = refl

pub notes_played : {W C : Type 0} (device : Device W C) (x : Standing W C) (ms : List Move)
    → (standing_after_all (state_after_event device) (notes_of_event device) x ms).notes ≡ x.notes ++ notes_of device x.running.state ms
unfolding standing_after_all notes_of
notes_played device x [] = sym (append-nil x.notes)
notes_played device x (m ∷ ms) =
    let later = state_after_move (state_after_event device) x.running.state m in
    notes_played device (standing_after (state_after_event device) (notes_of_event device) x m) ms
    ∙ (ap (λ ns. (x.notes ++ ns) ++ notes_of device later ms) (noted_so device x.running.state m)
    ∙ append_assoc x.notes (notes_of_move device x.running.state m) (notes_of device later ms))
