-- The bodies of a log that goes on; offers change no body.
use Rattle.std.proofs.Common.{◌≡◌, ℕ, ◌+◌, List, [], ◌∷◌, ◌++◌, length, refl, sym, ap, ◌∙◌, append_assoc, append-nil, inl, inr, arith}
use Rattle.std.specs.Prelude.{Option, Some, None}
use Rattle.std.specs.List.{flat_map}
use Rattle.std.proofs.lemmas.Bool.{cases_Bool}
use Rattle.ads_outside.specs.declared.event.Event.{Event}
use Rattle.ads_outside.specs.declared.moves.Move.{Move}
use Rattle.ads_outside.specs.declared.moves.Move.TheVariants as move
use Rattle.spec_machine.specs.Connection.{Connection, connection_of}
use Rattle.spec_machine.specs.MachineState.{MachineState, Exchange, exchange_of, after_exchange}
use Rattle.spec_machine.specs.Moves.{EventStep, with_gone, with_took, state_after_move, state_after}
use Rattle.spec_machine.specs.Running.{Running}
use Rattle.spec_machine.specs.Turns.{LogTurn, moves_of_turn}
use Rattle.ads_served.specs.Standing.{Standing, Noting, standing_after_all}
use Rattle.serve_loop.specs.Leads.{events_in}
use Rattle.serve_loop.proofs.LeadLemmas.{standing-running}
use Rattle.keep_loop.specs.Bodies.{BodyOf, bodies_at_event, bodies_at_move, bodies_at_ticks, bodies_of_run}

pub bodies-append : {W C : Type 0} (body_of : BodyOf W) (step : EventStep W C) (ms ns : List Move) (s : MachineState W C)
    → bodies_at_ticks body_of step s (ms ++ ns) ≡ bodies_at_ticks body_of step s ms ++ bodies_at_ticks body_of step (state_after step s ms) ns
unfolding bodies_at_ticks state_after
bodies-append body_of step [] ns s = refl
bodies-append body_of step (m ∷ ms) ns s =
    let later = state_after_move step s m in
    let here = bodies_at_move m (body_of later.world) in
    ap (λ l. here ++ l) (bodies-append body_of step ms ns later)
    ∙ sym (append_assoc here (bodies_at_ticks body_of step later ms) (bodies_at_ticks body_of step (state_after step later ms) ns))

pub state_played : {W C : Type 0} (step : EventStep W C) (noted : Noting W C) (x : Standing W C) (ms : List Move)
    → (standing_after_all step noted x ms).running.state ≡ state_after step x.running.state ms
state_played {W} {C} step noted x ms = ap (λ (r : Running W C). r.state) (standing-running step noted x ms)

not_next : {X : Type 0} (n : ℕ) → n + 1 ≡ 0 → X
not_next n e = absurd (omega (arith, e))

pub no_bodies : {W C : Type 0} (body_of : BodyOf W) (step : EventStep W C) (ms : List Move) (s : MachineState W C)
    → events_in ms ≡ 0 → bodies_at_ticks body_of step s ms ≡ []
unfolding bodies_at_ticks
no_bodies body_of step [] s none = refl
no_bodies body_of step (move.Event e ∷ ms) s none = not_next (events_in ms) none
no_bodies body_of step (move.Took c offered bytes ∷ ms) s none = no_bodies body_of step ms (state_after_move step s (move.Took c offered bytes)) none
no_bodies body_of step (move.Lost c ∷ ms) s none = no_bodies body_of step ms (state_after_move step s (move.Lost c)) none
no_bodies body_of step (move.Shut c ∷ ms) s none = no_bodies body_of step ms (state_after_move step s (move.Shut c)) none

took_world : {W C : Type 0} (n : ℕ) (s : MachineState W C) (k : Connection C) → (with_took n (exchange_of s k)).world ≡ s.world
took_world n s k = elim (cases_Bool k.gone) [
  | inl gone ↦ rw gone refl
  | inr there ↦ rw there refl
]

exchange_world : {W C : Type 0} (change : Exchange W C → Exchange W C) (s : MachineState W C)
    → ((k : Connection C) → (change (exchange_of s k)).world ≡ s.world)
    → (o : Option (Connection C)) → (after_exchange o change s).world ≡ s.world
exchange_world change s same None = refl
exchange_world change s same (Some k) = same k

pub same_world : {W C : Type 0} (step : EventStep W C) (ms : List Move) (s : MachineState W C) → events_in ms ≡ 0 → (state_after step s ms).world ≡ s.world
unfolding state_after state_after_move
same_world step [] s none = refl
same_world step (move.Event e ∷ ms) s none = not_next (events_in ms) none
same_world step (move.Took c offered bytes ∷ ms) s none =
    same_world step ms (state_after_move step s (move.Took c offered bytes)) none
    ∙ exchange_world (with_took (length bytes)) s (took_world (length bytes) s) (connection_of c s.connections)
same_world step (move.Lost c ∷ ms) s none =
    same_world step ms (state_after_move step s (move.Lost c)) none ∙ exchange_world with_gone s (λ k. refl) (connection_of c s.connections)
same_world step (move.Shut c ∷ ms) s none =
    same_world step ms (state_after_move step s (move.Shut c)) none ∙ exchange_world with_gone s (λ k. refl) (connection_of c s.connections)

one_event : {W C : Type 0} (body_of : BodyOf W) (step : EventStep W C) (e : Event) (ms : List Move) (s : MachineState W C) → events_in ms ≡ 0
    → bodies_at_ticks body_of step s (move.Event e ∷ ms) ≡ bodies_at_event e (body_of (state_after step s (move.Event e ∷ ms)).world)
unfolding bodies_at_ticks state_after state_after_move
one_event body_of step e ms s none =
    ap (λ l. bodies_at_event e (body_of (step s e).world) ++ l) (no_bodies body_of step ms (step s e) none)
    ∙ (append-nil (bodies_at_event e (body_of (step s e).world)) ∙ ap (λ w. bodies_at_event e (body_of w)) (sym (same_world step ms (step s e) none)))

-- the same of a turn with one event
pub turn_shown : {W C : Type 0} (body_of : BodyOf W) (step : EventStep W C) (t : LogTurn) (s : MachineState W C) → events_in (moves_of_turn t) ≡ 1
    → bodies_at_ticks body_of step s (moves_of_turn t) ≡ bodies_at_event t.event (body_of (state_after step s (moves_of_turn t)).world)
turn_shown body_of step t s one = one_event body_of step t.event (flat_map (λ moves. moves) t.served) s (omega (arith, one))

-- the bodies of a run begin with those at the ticks of a first part of it
pub bodies_begin : {W C : Type 0} (body_of : BodyOf W) (step : EventStep W C) (ms ns : List Move) (s : MachineState W C)
    → bodies_of_run body_of step s (ms ++ ns) ≡ bodies_at_ticks body_of step s ms
    ++ (bodies_at_ticks body_of step (state_after step s ms) ns ++ body_of (state_after step s (ms ++ ns)).world ∷ [])
bodies_begin body_of step ms ns s =
    let last = body_of (state_after step s (ms ++ ns)).world in
    ap (λ l. l ++ last ∷ []) (bodies-append body_of step ms ns s)
    ∙ append_assoc (bodies_at_ticks body_of step s ms) (bodies_at_ticks body_of step (state_after step s ms) ns) (last ∷ [])
