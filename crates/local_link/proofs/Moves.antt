-- A move of the link is the machine's, and the link stands for the machine behind it.
use Rattle.std.proofs.Common.{◌≡◌, ℕ, ◌<◌, ◌≤◌, List, length, true, false, refl, sym, ap, ◌∙◌, subst, arith}
use Rattle.std.specs.Prelude.{Option, Some, None}
use Rattle.ads_outside.specs.declared.event.Event.TheVariants as event
use Rattle.ads_outside.specs.declared.link_event.LinkEvent.{LinkEvent}
use Rattle.ads_outside.specs.declared.link_event.LinkEvent.TheVariants as come
use Rattle.ads_outside.specs.declared.link_move.LinkMove.TheVariants as link
use Rattle.ads_outside.specs.declared.moves.Move.TheVariants as move
use Rattle.spec_machine.specs.Connection.{connection_of}
use Rattle.spec_machine.specs.Events.{state_after_event}
use Rattle.spec_machine.specs.MachineState.{after_exchange}
use Rattle.spec_machine.specs.Moves.{state_after_move}
use Rattle.spec_machine.specs.Running.{is_to_be_shut, is_to_be_shut_at}
use Rattle.spec_client.specs.Conversation.{Bytes, Quiet, Closed}
use Rattle.spec_local.specs.LocalCall.{Answered, answered, bytes_taken, LAST_MOMENT, next_tick}
use Rattle.spec_local.specs.LinkLog.{answer_of, answered_like, without_connection, machine_after_link_move, IsMoveOf}
use Rattle.spec_local.proofs.Came.{ticked, came_waiting, came_closed, came_later, came_quiet}
use Rattle.server_core.specs.CoreState.{CoreState, after_event}
use Rattle.server_core.specs.Served.{World, Client, ServedState, ServedConnection, ServedExchange, served_step}
use Rattle.server_core.specs.Serves.{CoreView, Serves}
use Rattle.local_link.specs.Link.{LocalView, unblocked, StandsFor}
use Rattle.local_link.specs.Giving.{TakesBytes, TakesNothing}

-- the moment stays where connections alone change
exchange_moment : (o : Option ServedConnection) (f : ServedExchange → ServedExchange) (s : ServedState) → (after_exchange o f s).moment ≡ s.moment
exchange_moment None f s = refl
exchange_moment (Some k) f s = refl

took_moment : (s : ServedState) (bytes : List ℕ) → (state_after_move served_step s (move.Took 1 (length bytes) bytes)).moment ≡ s.moment
unfolding state_after_move
took_moment s bytes = exchange_moment (connection_of 1 s.connections) _ s

pub piece_moment : (s : ServedState) (bytes : List ℕ) → (served_step s (event.Piece 1 bytes)).moment ≡ s.moment
unfolding state_after_event
piece_moment s bytes = exchange_moment (connection_of 1 s.connections) _ s

without_moment : (o : Option ServedConnection) (s : ServedState) → (without_connection o s).moment ≡ s.moment
without_moment None s = refl
without_moment (Some k) s = refl

pub opened_moment : (s : ServedState) → (served_step (without_connection (connection_of 1 s.connections) s) (event.Opened 1)).moment ≡ s.moment
unfolding state_after_event
opened_moment s = without_moment (connection_of 1 s.connections) s

tick_moment : (s : ServedState) → s.moment ≤ LAST_MOMENT → (ticked served_step s).moment ≡ next_tick s.moment
unfolding state_after_event
tick_moment s le = omega (arith, le)

-- what comes is what the machine gives next
comes : (s : ServedState) (e : LinkEvent) (r : Answered World Client) (new : LocalView)
    → answered_like served_step s (answer_of e) ≡ r → r.answer ≡ answer_of e → StandsFor new r.machine
    → IsMoveOf served_step s (link.Came e) × StandsFor new (machine_after_link_move served_step s (link.Came e))
unfolding machine_after_link_move
comes s e r new is answer stands = (
  ap (λ (a : Answered World Client). a.answer) is ∙ answer,
  subst (StandsFor new) (sym (ap (λ (a : Answered World Client). a.machine) is)) stands,
)

-- bytes were taken of a machine in this state, at its moment
stands_taken : (new : LocalView) (s : ServedState) (bytes : List ℕ) → TakesBytes bytes new.core s
    → new.history.moment ≡ s.moment → StandsFor new (bytes_taken served_step s bytes).machine
unfolding bytes_taken
stands_taken new s bytes takes moment = record { core = takes.serves; moment = moment ∙ sym (took_moment s bytes) }

taken_answer : (s : ServedState) (bytes : List ℕ) (now : ℕ) → now ≡ s.moment → (bytes_taken served_step s bytes).answer ≡ Bytes bytes now
unfolding bytes_taken
taken_answer s bytes now e = ap (Bytes bytes) (sym e)

-- an answer, where the link stood for this state
abbrev pub Comes : ServedState → LinkEvent → LocalView → Type 0
Comes s e new = IsMoveOf served_step s (link.Came e) × StandsFor new (machine_after_link_move served_step s (link.Came e))

pub gives_waiting : (new : LocalView) (s : ServedState) (bytes : List ℕ) (now : ℕ)
    → 0 < length bytes → TakesBytes bytes new.core s → now ≡ s.moment → new.history.moment ≡ now
    → Comes s (come.Bytes bytes now) new
gives_waiting new s bytes now some takes moment last =
    comes s (come.Bytes bytes now) (bytes_taken served_step s bytes) new (came_waiting served_step s bytes now some takes.first)
    (taken_answer s bytes now moment) (stands_taken new s bytes takes (last ∙ moment))

pub gives_closed : (new : LocalView) (s : ServedState) (now : ℕ) → TakesNothing new.core s
    → ((x : CoreState) → Serves new.core x → true ≡ is_to_be_shut_at 1 x) → now ≡ s.moment → new.history.moment ≡ now
    → Comes s (come.Closed now) new
gives_closed new s now takes shut moment last =
    comes s (come.Closed now) (answered (Closed s.moment) s) new (came_closed served_step s now takes.none (sym (shut (unblocked s) takes.serves)))
    (ap Closed (sym moment)) (record { core = takes.serves; moment = last ∙ moment })

pub stays_open : (core : CoreView) (s : ServedState) → TakesNothing core s
    → ((x : CoreState) → Serves core x → false ≡ is_to_be_shut_at 1 x) → is_to_be_shut (connection_of 1 s.connections) ≡ false
stays_open core s takes open_ = sym (open_ (unblocked s) takes.serves)

-- the core behind a tick
pub ticks : (old new : CoreView) (s : ServedState) (now : ℕ) → TakesNothing old s → now ≡ next_tick s.moment
    → ((x : CoreState) → Serves old x → Unit {0} → Serves new (after_event x (event.Tick now))) → Serves new (unblocked (ticked served_step s))
unfolding state_after_move
ticks old new s now takes moment steps = subst (λ t. Serves new (unblocked (served_step s (event.Tick t)))) moment (steps (unblocked s) takes.serves tt)

pub gives_later : (new : LocalView) (mid : CoreView) (s : ServedState) (bytes : List ℕ) (now : ℕ)
    → s.moment ≤ LAST_MOMENT → TakesNothing mid s → is_to_be_shut (connection_of 1 s.connections) ≡ false
    → 0 < length bytes → TakesBytes bytes new.core (ticked served_step s) → now ≡ next_tick s.moment → new.history.moment ≡ now
    → Comes s (come.Bytes bytes now) new
gives_later new mid s bytes now le nothing open_ some takes moment last =
    let t = ticked served_step s in
    let at : now ≡ t.moment = moment ∙ sym (tick_moment s le) in
    comes s (come.Bytes bytes now) (bytes_taken served_step t bytes) new (came_later served_step s bytes now nothing.none open_ some takes.first)
    (taken_answer t bytes now at) (stands_taken new t bytes takes (last ∙ at))

pub gives_quiet : (new : LocalView) (mid : CoreView) (s : ServedState) (now : ℕ)
    → s.moment ≤ LAST_MOMENT → TakesNothing mid s → is_to_be_shut (connection_of 1 s.connections) ≡ false
    → TakesNothing new.core (ticked served_step s) → now ≡ next_tick s.moment → new.history.moment ≡ now
    → Comes s (come.Quiet now) new
gives_quiet new mid s now le nothing open_ still moment last =
    let t = ticked served_step s in
    let at : now ≡ t.moment = moment ∙ sym (tick_moment s le) in
    comes s (come.Quiet now) (answered (Quiet t.moment) t) new (came_quiet served_step s now nothing.none open_ still.none)
    (ap Quiet (sym at)) (record { core = still.serves; moment = last ∙ at })
