-- What a machine gives next, by cases: what waits, the end, or what there is behind a tick.
use Rattle.std.proofs.Common.{◌≡◌, ℕ, ◌<◌, ◌-◌, List, [], ◌∷◌, length, take, true, false, ap, ◌∙◌, arith}
use Rattle.std.proofs.lemmas.Bool.{cond-true, cond-false}
use Rattle.ads_outside.specs.declared.event.Event.TheVariants as event
use Rattle.spec_machine.specs.Connection.{connection_of}
use Rattle.spec_machine.specs.MachineState.{MachineState}
use Rattle.spec_machine.specs.Moves.{EventStep}
use Rattle.spec_machine.specs.Running.{is_to_be_shut}
use Rattle.spec_client.specs.Conversation.{Bytes, Quiet, Closed}
use Rattle.spec_local.specs.LocalCall.{Answered, answered, bytes_taken, waiting_or, waiting_bytes, next_tick, answer_after_tick, local_answer}
use Rattle.spec_local.specs.LinkLog.{most_of, answered_like}

-- the state behind a tick
abbrev pub ticked : {W C : Type 0} → EventStep W C → MachineState W C → MachineState W C
ticked step s = step s (event.Tick (next_tick s.moment))

taken : {W C : Type 0} (step : EventStep W C) (s : MachineState W C) (other : Answered W C) (bytes ws : List ℕ)
    → 0 < length bytes → take (length bytes) ws ≡ bytes → waiting_or step (length bytes - 1) s other ws ≡ bytes_taken step s bytes
taken step s other [] ws some first = absurd (omega arith)
taken step s other (b ∷ bs) [] some first = absurd cc
taken step s other (b ∷ bs) (w ∷ ws) some first =
    let n : length (b ∷ bs) - 1 ≡ length bs = omega arith in
    ap (λ m. bytes_taken step s (w ∷ take m ws)) n ∙ ap (bytes_taken step s) first

pub came_waiting : {W C : Type 0} (step : EventStep W C) (s : MachineState W C) (bytes : List ℕ) (now : ℕ)
    → 0 < length bytes → take (length bytes) (waiting_bytes s) ≡ bytes → answered_like step s (Bytes bytes now) ≡ bytes_taken step s bytes
unfolding local_answer
came_waiting step s bytes now some first = taken step s _ bytes (waiting_bytes s) some first

nothing : {W C : Type 0} (step : EventStep W C) (most : ℕ) (s : MachineState W C) (other : Answered W C) (ws : List ℕ)
    → ws ≡ [] → waiting_or step most s other ws ≡ other
nothing step most s other ws none = ap (waiting_or step most s other) none

pub came_closed : {W C : Type 0} (step : EventStep W C) (s : MachineState W C) (now : ℕ)
    → waiting_bytes s ≡ [] → is_to_be_shut (connection_of 1 s.connections) ≡ true → answered_like step s (Closed now) ≡ answered (Closed s.moment) s
unfolding local_answer
came_closed step s now none shut =
    nothing step (most_of (Closed now)) s _ (waiting_bytes s) none ∙ cond-true (is_to_be_shut (connection_of 1 s.connections)) _ _ shut

later : {W C : Type 0} (step : EventStep W C) (most : ℕ) (s : MachineState W C)
    → waiting_bytes s ≡ [] → is_to_be_shut (connection_of 1 s.connections) ≡ false → local_answer step most s ≡ answer_after_tick step most (ticked step s)
unfolding local_answer
later step most s none stays = nothing step most s _ (waiting_bytes s) none ∙ cond-false (is_to_be_shut (connection_of 1 s.connections)) _ _ stays

pub came_later : {W C : Type 0} (step : EventStep W C) (s : MachineState W C) (bytes : List ℕ) (now : ℕ)
    → waiting_bytes s ≡ [] → is_to_be_shut (connection_of 1 s.connections) ≡ false
    → 0 < length bytes → take (length bytes) (waiting_bytes (ticked step s)) ≡ bytes
    → answered_like step s (Bytes bytes now) ≡ bytes_taken step (ticked step s) bytes
unfolding answer_after_tick
came_later step s bytes now none stays some first =
    later step _ s none stays ∙ taken step (ticked step s) _ bytes (waiting_bytes (ticked step s)) some first

pub came_quiet : {W C : Type 0} (step : EventStep W C) (s : MachineState W C) (now : ℕ)
    → waiting_bytes s ≡ [] → is_to_be_shut (connection_of 1 s.connections) ≡ false → waiting_bytes (ticked step s) ≡ []
    → answered_like step s (Quiet now) ≡ answered (Quiet (ticked step s).moment) (ticked step s)
unfolding answer_after_tick
came_quiet step s now none stays still =
    later step (most_of (Quiet now)) s none stays ∙ nothing step (most_of (Quiet now)) (ticked step s) _ (waiting_bytes (ticked step s)) still
