-- What a run of the loop over a machine leaves in the wire and in the sink.
use Rattle.std.proofs.Common.{◌≡◌, ◌<◌, ◌≤◌, ℕ, List, Option, Some, None, inl, inr, subst, ap, sym, ◌∙◌, refl, arith}
use Rattle.ads_outside.specs.declared.end.End.{End}
use Rattle.ads_outside.specs.declared.end.End.TheVariants as end
use Rattle.ads_outside.specs.declared.listening.Listening.{Listening}
use Rattle.ads_outside.specs.declared.moves.Move.{Move}
use Rattle.ads_outside.specs.Rose.{Rose}
use Rattle.ads_outside.specs.SinkState.{SinkState}
use Rattle.ads_outside.specs.WireAnswers.{Stops}
use Rattle.ads_outside.specs.WireState.{WireState, WireHistory, history_after, end_answered, listened}
use Rattle.ads_served.specs.Standing.{Standing, Noting, standing_after_all}
use Rattle.replay_script.proofs.StandingPlayed.{state_played}
use Rattle.serve_loop.specs.Leads.{events_in}
use Rattle.serve_loop.specs.TurnTaken.{AfterServe}
use Rattle.serve_loop.proofs.EndLemmas.{log-after, streams-after}
use Rattle.serve_loop.proofs.TurnLemmas.{stops-after}
use Rattle.spec_machine.specs.MachineState.{MachineState}
use Rattle.spec_machine.specs.Moves.{EventStep, state_after}
use Rattle.run_tasks.specs.declared.status.Status.{Status}
use Rattle.run_tasks.specs.declared.status.Status.TheVariants as status
use Rattle.run_tasks.specs.Ending.{line_alone}
use Rattle.plant_commands.specs.Machine.{Moves, RunsMachine, StandsAnew}
use Rattle.run_tasks.specs.Prints.{PutsMemoryLine, PrintsEnding}
use Rattle.run_tasks.specs.Service.{counts_and_line}
use Rattle.plant_commands.specs.Serving.{StopsBehind, AddsToLog, CannotPut, CannotRun, IsStarted, EndsStarted}

-- the log grew by the moves
added : (old new : WireHistory) (ms : List Move) → new.log ≡ (history_after old ms).log → AddsToLog old.log new.log ms
added old new ms same = go old.log refl
  where
    go : (o : Option (List Move)) → old.log ≡ o → AddsToLog o new.log ms
    go None e = tt
    go (Some log) e = same ∙ log-after ms old log e

fewer_events : (ms : List Move) (count limit : ℕ) → events_in ms ≡ count → count < limit → events_in ms < limit
fewer_events ms count limit is fewer = omega (arith, is, fewer)

most_events : (ms : List Move) (count limit : ℕ) → events_in ms ≡ count → count ≤ limit → events_in ms ≤ limit
most_events ms count limit is most = omega (arith, is, most)

less_is_most : (count limit : ℕ) → count < limit → count ≤ limit
less_is_most count limit fewer = omega (arith, fewer)

stopped_behind : (old new : WireState) (ms : List Move) (last : WireHistory) → last ≡ history_after old.history ms → Stops old new last
    → StopsBehind (history_after old.history ms) new.history
stopped_behind old new ms last is stops =
    let P : ℕ → Type 0 = λ n. Rose n new.history.stops in
    record {
      same = stops.same ∙ ap (λ (h : WireHistory). record h { stops = new.history.stops }) is;
      stopped = subst P (sym (stops-after ms old.history)) stops.stopped;
    }

-- what was printed after such an end, for whatever the machine stands for
abbrev pub PrintsFor : {W C : Type 0} → End → (Standing W C → Type 0) → (MachineState W C → List ℕ) → Status → SinkState → SinkState → Type 0
PrintsFor {W} {C} end.Done serves counts s out out_new =
    (x : Standing W C) → serves x → PrintsEnding (counts_and_line (counts x.running.state) status.Done) s out out_new
PrintsFor {W} {C} end.Budget serves counts s out out_new =
    (x : Standing W C) → serves x → PrintsEnding (counts_and_line (counts x.running.state) status.Budget) s out out_new
PrintsFor {W} {C} end.LinkFault serves counts s out out_new = PrintsEnding (line_alone status.LinkFault) s out out_new
PrintsFor {W} {C} end.Memory serves counts s out out_new = (s ≡ status.Memory) × PutsMemoryLine out out_new

-- the counts that were printed are those of the state after the moves
pub counted_after : {W C : Type 0} (step : EventStep W C) (noted : Noting W C) (serves : Standing W C → Type 0) (counts : MachineState W C → List ℕ)
    (x : Standing W C) (ms : List Move) (r s : Status) (out out_new : SinkState) → serves (standing_after_all step noted x ms)
    → ((y : Standing W C) → serves y → PrintsEnding (counts_and_line (counts y.running.state) r) s out out_new)
    → PrintsEnding (counts_and_line (counts (state_after step x.running.state ms)) r) s out out_new
counted_after {W} {C} step noted serves counts x ms r s out out_new stands prints =
    let P : MachineState W C → Type 0 = λ state. PrintsEnding (counts_and_line (counts state) r) s out out_new in
    subst P (state_played step noted x ms) (prints (standing_after_all step noted x ms) stands)

-- the moves of a run of the loop that ended so
abbrev pub moves_of_serve : {W C : Type 0} (step : EventStep W C) (noted : Noting W C) (serves serves_new : Standing W C → Type 0)
    (r : End) (limit : ℕ) (old new : WireState) → AfterServe r step noted serves serves_new old new limit → List Move
moves_of_serve step noted serves serves_new end.Done limit old new after = after.turns.moves
moves_of_serve step noted serves serves_new end.Budget limit old new after = after.moves
moves_of_serve step noted serves serves_new end.LinkFault limit old new after = after.turns.moves
moves_of_serve step noted serves serves_new end.Memory limit old new after = after.breaks.moves

-- what they are
pub moves_made : {W C : Type 0} (step : EventStep W C) (noted : Noting W C) (serves serves_new : Standing W C → Type 0) (x : Standing W C)
    (r : End) (limit : ℕ) (old new : WireState) (after : AfterServe r step noted serves serves_new old new limit) → StandsAnew serves x
    → Moves step x limit r (moves_of_serve step noted serves serves_new r limit old new after) old.history new.history
moves_made step noted serves serves_new x end.Done limit old new after stands =
    let over = stands old.history.opened in
    let ms = after.turns.moves in
    let grown : new.history ≡ end_answered (history_after old.history ms) = after.then_ ∙ ap end_answered after.turns.logged in
    let fewer = fewer_events ms after.count limit after.turns.events after.fewer in
    record {
      grown = grown;
      logged = added old.history new.history ms (ap (λ (h : WireHistory). h.log) grown);
      streamed = ap (λ (h : WireHistory). h.streams) grown ∙ streams-after ms old.history;
      count = fewer;
      most = less_is_most (events_in ms) limit fewer;
      turns = λ other. after.turns.are x over;
      offers = (after.turns.are x over).offers;
    }
moves_made step noted serves serves_new x end.Budget limit old new after stands =
    let over = stands old.history.opened in
    let ms = after.moves in
    record {
      grown = after.logged;
      logged = added old.history new.history ms (ap (λ (h : WireHistory). h.log) after.logged);
      streamed = ap (λ (h : WireHistory). h.streams) after.logged ∙ streams-after ms old.history;
      count = after.events;
      most = most_events ms limit limit after.events (omega arith);
      turns = λ other. after.are x over;
      offers = (after.are x over).offers;
    }
moves_made step noted serves serves_new x end.LinkFault limit old new after stands =
    let over = stands old.history.opened in
    let ms = after.turns.moves in
    let behind = stopped_behind old new ms after.last after.turns.logged after.then_ in
    let fewer = fewer_events ms after.count limit after.turns.events after.fewer in
    record {
      grown = behind;
      logged = added old.history new.history ms (ap (λ (h : WireHistory). h.log) behind.same);
      streamed = ap (λ (h : WireHistory). h.streams) behind.same ∙ streams-after ms old.history;
      count = fewer;
      most = less_is_most (events_in ms) limit fewer;
      turns = λ other. after.turns.are x over;
      offers = (after.turns.are x over).offers;
    }
moves_made step noted serves serves_new x end.Memory limit old new after stands =
    let over = stands old.history.opened in
    let ms = after.breaks.moves in
    record {
      grown = after.breaks.logged;
      logged = added old.history new.history ms (ap (λ (h : WireHistory). h.log) after.breaks.logged);
      streamed = ap (λ (h : WireHistory). h.streams) after.breaks.logged ∙ streams-after ms old.history;
      count = tt;
      most = most_events ms after.count limit after.breaks.events after.within;
      turns = λ other. absurd (other refl);
      offers = after.breaks.are x over;
    }

-- a run of the loop over a machine, and what was printed of it
pub runs_machine : {W C : Type 0} (step : EventStep W C) (noted : Noting W C) (serves serves_new : Standing W C → Type 0)
    (counts : MachineState W C → List ℕ) (x : Standing W C) (r : End) (limit : ℕ) (s : Status) (out out_new : SinkState) (old new : WireState)
    → AfterServe r step noted serves serves_new old new limit → PrintsFor r serves_new counts s out out_new → StandsAnew serves x
    → RunsMachine step counts x limit s out out_new old.history new.history
runs_machine step noted serves serves_new counts x end.Done limit s out out_new old new after prints stands = record {
  ended = end.Done;
  moves = after.turns.moves;
  wire = moves_made step noted serves serves_new x end.Done limit old new after stands;
  prints = counted_after step noted serves_new counts x after.turns.moves status.Done s out out_new
      (after.turns.stands x (stands old.history.opened)).stands prints;
}
runs_machine step noted serves serves_new counts x end.Budget limit s out out_new old new after prints stands = record {
  ended = end.Budget;
  moves = after.moves;
  wire = moves_made step noted serves serves_new x end.Budget limit old new after stands;
  prints = counted_after step noted serves_new counts x after.moves status.Budget s out out_new
      (after.stands x (stands old.history.opened)).stands prints;
}
runs_machine step noted serves serves_new counts x end.LinkFault limit s out out_new old new after prints stands = record {
  ended = end.LinkFault;
  moves = after.turns.moves;
  wire = moves_made step noted serves serves_new x end.LinkFault limit old new after stands;
  prints = prints;
}
runs_machine step noted serves serves_new counts x end.Memory limit s out out_new old new after prints stands = record {
  ended = end.Memory;
  moves = after.breaks.moves;
  wire = moves_made step noted serves serves_new x end.Memory limit old new after stands;
  prints = prints;
}

-- the wire was started, and what follows ran
pub started_so : (a : Listening) (Runs : SinkState → WireHistory → Type 0) (s : Status) (out between out_new : SinkState) (old started new : WireHistory)
    → IsStarted a out between old started → Runs between started → EndsStarted a Runs s out out_new old new
started_so a Runs s out between out_new old started new is runs =
    inr (inr (record { between = between; told = is.told; runs = subst (λ h. Runs between h) is.ready runs }))

-- or it was not, or not told
pub not_started_so : (a : Listening) (Runs : SinkState → WireHistory → Type 0) (s : Status) (out out_new : SinkState) (old new : WireHistory)
    → CannotRun a s out out_new old new → EndsStarted a Runs s out out_new old new
not_started_so a Runs s out out_new old new (inl h) = inl h
not_started_so a Runs s out out_new old new (inr h) = inr (inl h)

-- the start failed
pub start_failed : (a : Listening) (s : Status) (out out_new : SinkState) (old new : WireState)
    → Stops old new (listened a old.history) → PrintsEnding (line_alone status.LinkFault) s out out_new
    → CannotRun a s out out_new old.history new.history
start_failed a s out out_new old new stops printed = inl (inl (record { same = stops.same; stopped = stops.stopped }, printed))

-- `listening` could not be put
pub not_told : (a : Listening) (s : Status) (out out_new : SinkState) (old started : WireHistory) → started ≡ listened a old → CannotPut s out out_new
    → CannotRun a s out out_new old started
not_told a s out out_new old started ready h = inr (ready, h)

-- what runs is also this, and the wire was started with that
pub ends_as : (a b : Listening) (Runs Others : SinkState → WireHistory → Type 0) (s : Status) (out out_new : SinkState) (old new : WireHistory)
    → b ≡ a → ((between : SinkState) (mid : WireHistory) → Runs between mid → Others between mid) → EndsStarted a Runs s out out_new old new
    → EndsStarted b Others s out out_new old new
ends_as a b Runs Others s out out_new old new is all h =
    let P : Listening → Type 0 = λ l. EndsStarted l Others s out out_new old new in
    subst P (sym is) (go h)
  where
    go : EndsStarted a Runs s out out_new old new → EndsStarted a Others s out out_new old new
    go (inl k) = inl k
    go (inr (inl k)) = inr (inl k)
    go (inr (inr k)) = inr (inr (record {
      between = k.between;
      told = k.told;
      runs = all k.between (listened a old) k.runs;
    }))

-- the same counts
pub counts_same : (r : Status) (text other : List ℕ) (s : Status) (old new : SinkState) → text ≡ other
    → PrintsEnding (counts_and_line text r) s old new → PrintsEnding (counts_and_line other r) s old new
counts_same r text other s old new is printed = let P : List ℕ → Type 0 = λ t. PrintsEnding (counts_and_line t r) s old new in subst P is printed
