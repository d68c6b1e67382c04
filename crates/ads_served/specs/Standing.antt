-- What a machine that is served stands for: a running machine, and what became of its reloads. Over any step.
use Rattle.std.specs.Prelude.{List, [], ◌∷◌, ◌++◌}
use Rattle.ads_outside.specs.declared.event.Event.{Event}
use Rattle.ads_outside.specs.declared.moves.Move.{Move}
use Rattle.ads_outside.specs.declared.moves.Move.TheVariants as move
use Rattle.ads_outside.specs.declared.reload_note.ReloadNote.{ReloadNote}
use Rattle.spec_machine.specs.MachineState.{MachineState}
use Rattle.spec_machine.specs.Moves.{EventStep, state_after}
use Rattle.spec_machine.specs.Offers.{blocked_after}
use Rattle.spec_machine.specs.Running.{Running, running_after}

-- what is noted of an event in a state
abbrev pub Noting : (W C : Type 0) → Type 0
Noting W C = MachineState W C → Event → List ReloadNote

pub record Standing (W C : Type 0) : Type 0 where
  pub running : Running W C
  -- of each reload, in order
  pub notes : List ReloadNote

-- what is noted of a move: of an event alone
abbrev pub noted_of_move : {W C : Type 0} → Noting W C → MachineState W C → Move → List ReloadNote
noted_of_move noted s (move.Event e) = noted s e
noted_of_move noted s (move.Took c offered bytes) = []
noted_of_move noted s (move.Lost c) = []
noted_of_move noted s (move.Shut c) = []

-- the state and who is blocked, after moves one behind another
abbrev pub running_after_all : {W C : Type 0} → EventStep W C → Running W C → List Move → Running W C
running_after_all step x ms =
    record { state = state_after step x.state ms; blocked = blocked_after x.blocked ms }

abbrev pub standing_after : {W C : Type 0} → EventStep W C → Noting W C → Standing W C → Move → Standing W C
standing_after step noted x m = record {
  running = running_after step x.running m;
  notes = x.notes ++ noted_of_move noted x.running.state m;
}

unfoldable pub standing_after_all : {W C : Type 0} → EventStep W C → Noting W C → Standing W C → List Move
    → Standing W C
standing_after_all step noted x [] = x
standing_after_all step noted x (m ∷ ms) =
    standing_after_all step noted (standing_after step noted x m) ms
