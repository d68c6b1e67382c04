-- What a run with a store leads to: turns, the saves among the bodies of their moves, and what a stop leaves.
use Rattle.std.specs.Prelude.{◌≡◌, ◌⊎◌, ℕ, zero, suc, ◌+◌, ◌-◌, ◌<◌, ◌≤◌, List, [], ◌∷◌, ◌++◌, length, true, false, Option, Some}
use Rattle.ads_outside.specs.declared.moves.Move.{Move}
use Rattle.ads_outside.specs.WireAnswers.{Stops}
use Rattle.ads_outside.specs.WireState.{WireState, WireHistory, history_after, end_answered}
use Rattle.spec_machine.specs.Delivery.{AreOffers}
use Rattle.spec_machine.specs.MachineState.{MachineState}
use Rattle.spec_machine.specs.Moves.{EventStep}
use Rattle.ads_served.specs.Standing.{Standing, Noting}
use Rattle.spec_store.specs.Slots as slots
use Rattle.spec_store.specs.Runs as runs
use Rattle.serve_loop.specs.Leads.{serves_any, events_in}
use Rattle.serve_loop.specs.TurnTaken.{StandsOver, TakesTurns}
use Rattle.persist_store.specs.Steps.{IsAt}
use Rattle.persist_store.specs.Store.{StoreState, body_of}
use Rattle.keep_loop.specs.declared.keep_end.KeepEnd.{KeepEnd}
use Rattle.keep_loop.specs.declared.keep_end.KeepEnd.TheVariants as keep
use Rattle.keep_loop.specs.declared.run_end.RunEnd.{RunEnd}
use Rattle.keep_loop.specs.declared.run_end.RunEnd.TheVariants as run
use Rattle.keep_loop.specs.Bodies.{BodyOf, bodies_looked_at, bodies_to_end, saves_in, is_any_over}
use Rattle.keep_loop.specs.Saving.{LeavesEach, StaysTold}

-- the bodies of a log from a state on
abbrev pub BodiesOf : (W C : Type 0) → Type 0
BodiesOf W C = MachineState W C → List Move → List (List ℕ)

-- So many turns were taken, up to this history of the wire. Whatever was served before, these are the saves among the
-- bodies of the turns' moves, where this body stood at the beginning.
pub record Keeps {W C : Type 0} (step : EventStep W C) (noted : Noting W C) (old_serves new_serves : Standing W C → Type 0)
    (bodies : BodiesOf W C) (stood : Option (List ℕ)) (old new : WireHistory) (count : ℕ) (saves : List (List ℕ)) : Type 0 where
  pub turns : TakesTurns step noted old_serves new_serves old new count
  pub are : (x : Standing W C) → StandsOver old_serves old.opened x
      → saves ≡ saves_in stood (bodies x.running.state turns.moves)

-- fewer turns than this were taken, and then this came of the wire
pub record KeepsBefore {W C : Type 0} (step : EventStep W C) (noted : Noting W C) (old_serves new_serves : Standing W C → Type 0)
    (bodies : BodiesOf W C) (stood : Option (List ℕ)) (old : WireHistory) (limit : ℕ) (Then : WireHistory → Type 0)
    (saves : List (List ℕ)) : Type 0 where
  pub last : WireHistory
  pub count : ℕ
  pub fewer : count < limit
  pub keeps : Keeps step noted old_serves new_serves bodies stood old last count saves
  pub then_ : Then last

-- nothing more came of the wire, or it ended: it had no more events, or it failed to give one
abbrev pub EndsAfter : WireState → WireState → WireHistory → Type 0
EndsAfter old new last = (new.history ≡ last) ⊎ (new.history ≡ end_answered last) ⊎ Stops old new last

-- A run whose turns ended so: the saves are those among the bodies that are looked at and that at its end.
abbrev pub TookAll : {W C : Type 0} → RunEnd → ℕ → BodyOf W → EventStep W C → Noting W C → (Standing W C → Type 0)
    → (Standing W C → Type 0) → Option (List ℕ) → WireState → WireState → ℕ → List (List ℕ) → Type 0
TookAll run.Done every body_of step noted old_serves new_serves stood old new limit saves =
    KeepsBefore step noted old_serves new_serves (bodies_to_end every body_of step) stood old.history limit
    (λ last. new.history ≡ end_answered last) saves
TookAll run.LinkFault every body_of step noted old_serves new_serves stood old new limit saves =
    KeepsBefore step noted old_serves new_serves (bodies_to_end every body_of step) stood old.history limit
    (λ last. Stops old new last) saves
TookAll run.Budget every body_of step noted old_serves new_serves stood old new limit saves =
    Keeps step noted old_serves new_serves (bodies_to_end every body_of step) stood old.history new.history limit saves

-- A run that ended in a save: that of a tick, behind which nothing more came of the wire, or that at the end.
abbrev pub StopsInSave : {W C : Type 0} → ℕ → BodyOf W → EventStep W C → Noting W C → (Standing W C → Type 0)
    → Option (List ℕ) → WireState → WireState → ℕ → List (List ℕ) → Type 0
StopsInSave every body_of step noted old_serves stood old new limit saves =
    KeepsBefore step noted old_serves serves_any (bodies_looked_at every body_of step) stood old.history (limit + 1)
    (λ last. new.history ≡ last) saves
    ⊎ ((ended : RunEnd) × TookAll ended every body_of step noted old_serves serves_any stood old new limit saves)

-- A run that was broken off: whole turns were taken, with these saves among the bodies that are looked at. The moves that were
-- logged behind them are offers, and at most the first of them is an event; and nothing more came of the wire but its end.
pub record BreaksOff {W C : Type 0} (every : ℕ) (body_of : BodyOf W) (step : EventStep W C) (noted : Noting W C)
    (old_serves : Standing W C → Type 0) (stood : Option (List ℕ)) (old new : WireState) (limit : ℕ) (saves : List (List ℕ)) : Type 0 where
  pub last : WireHistory
  pub count : ℕ
  pub keeps : Keeps step noted old_serves serves_any (bodies_looked_at every body_of step) stood old.history last count saves
  pub later : List Move
  pub ended : EndsAfter old new (history_after last later)
  pub most : count + events_in later ≤ limit
  pub offers : (x : Standing W C) → StandsOver old_serves old.history.opened x
      → AreOffers step x.running.state (keeps.turns.moves ++ later)

-- the turns of a run that ended so, and the saves among their bodies
abbrev pub TookTurns : {W C : Type 0} → KeepEnd → ℕ → BodyOf W → EventStep W C → Noting W C → (Standing W C → Type 0)
    → (Standing W C → Type 0) → Option (List ℕ) → WireState → WireState → ℕ → List (List ℕ) → Type 0
TookTurns (keep.Done n) every body_of step noted old_serves new_serves stood old new limit saves =
    TookAll run.Done every body_of step noted old_serves new_serves stood old new limit saves
TookTurns (keep.LinkFault n) every body_of step noted old_serves new_serves stood old new limit saves =
    TookAll run.LinkFault every body_of step noted old_serves new_serves stood old new limit saves
TookTurns (keep.Budget n) every body_of step noted old_serves new_serves stood old new limit saves =
    TookAll run.Budget every body_of step noted old_serves new_serves stood old new limit saves
TookTurns keep.StoreFault every body_of step noted old_serves new_serves stood old new limit saves =
    StopsInSave every body_of step noted old_serves stood old new limit saves
TookTurns keep.StoreLimit every body_of step noted old_serves new_serves stood old new limit saves =
    StopsInSave every body_of step noted old_serves stood old new limit saves
TookTurns keep.Memory every body_of step noted old_serves new_serves stood old new limit saves =
    BreaksOff every body_of step noted old_serves stood old new limit saves
    ⊎ StopsInSave every body_of step noted old_serves stood old new limit saves

-- the number that is told is that of the saves, and one of them is over the limit exactly where that ended the run
abbrev pub CountsSaves : KeepEnd → Option slots.Standing → List (List ℕ) → Type 0
CountsSaves (keep.Done n) standing saves = (n ≡ length saves) × (is_any_over standing saves ≡ false)
CountsSaves (keep.LinkFault n) standing saves = (n ≡ length saves) × (is_any_over standing saves ≡ false)
CountsSaves (keep.Budget n) standing saves = (n ≡ length saves) × (is_any_over standing saves ≡ false)
CountsSaves keep.StoreFault standing saves = is_any_over standing saves ≡ false
CountsSaves keep.StoreLimit standing saves = is_any_over standing saves ≡ true
CountsSaves keep.Memory standing saves = Unit {0}

-- the file stands for this, and nothing is pending
pub record FileStandsFor {D : Type 0} (contents : D → Option (List ℕ)) (may_leave : D → List ℕ → Type 0) (disk : D)
    (standing : Option slots.Standing) : Type 0 where
  pub now : List ℕ
  pub here : IsAt contents may_leave disk now
  pub standing_is : slots.standing_of now ≡ standing

-- the file stands for what stands after these saves, where the disk told it
abbrev pub StandsAfterSaves : {D : Type 0} → (D → Option (List ℕ)) → (D → List ℕ → Type 0) → D → D → Option slots.Standing
    → List (List ℕ) → Type 0
StandsAfterSaves contents may_leave old new standing saves = (file : List ℕ) → contents old ≡ Some file
    → FileStandsFor contents may_leave new (runs.standing_after_all standing saves)

-- all of these saves were done before anything more was taken of the wire, but, it may be, the last one: whichever file a stop
-- leaves now stands for what stands after the others, or for the last one
pub record AllButLast {D : Type 0} (contents : D → Option (List ℕ)) (may_leave : D → List ℕ → Type 0) (old new : D)
    (standing : Option slots.Standing) (saves : List (List ℕ)) : Type 0 where
  pub before : List (List ℕ)
  pub last : List (List ℕ)
  pub are : saves ≡ before ++ last
  pub one : length last ≤ 1
  pub within : is_any_over standing before ≡ false
  -- where the disk told its file
  pub leaves : (file : List ℕ) → contents old ≡ Some file → (c : List ℕ) → may_leave new c
      → runs.IsOneOf (runs.standing_after_all standing before) last (slots.standing_of c)

-- once the save at the end of a run is done, or was not needed, the file stands for the last of its saves; a run that ended
-- otherwise had done all but the last
abbrev pub StandsAtEnd : {D : Type 0} → KeepEnd → (D → Option (List ℕ)) → (D → List ℕ → Type 0) → D → D
    → Option slots.Standing → List (List ℕ) → Type 0
StandsAtEnd (keep.Done n) contents may_leave old new standing saves = StandsAfterSaves contents may_leave old new standing saves
StandsAtEnd (keep.LinkFault n) contents may_leave old new standing saves = StandsAfterSaves contents may_leave old new standing saves
StandsAtEnd (keep.Budget n) contents may_leave old new standing saves = StandsAfterSaves contents may_leave old new standing saves
StandsAtEnd keep.StoreFault contents may_leave old new standing saves = AllButLast contents may_leave old new standing saves
StandsAtEnd keep.StoreLimit contents may_leave old new standing saves = AllButLast contents may_leave old new standing saves
StandsAtEnd keep.Memory contents may_leave old new standing saves = AllButLast contents may_leave old new standing saves

-- the saves of a run: which turns they belong to, what a stop leaves, how many they are, and what the file stands for
pub record AfterKeep (Took Left Counted Stands : List (List ℕ) → Type 0) : Type 0 where
  pub saves : List (List ℕ)
  pub took : Took saves
  pub left : Left saves
  pub counted : Counted saves
  pub stands : Stands saves

-- how many more ticks are let pass before a body is looked at again, behind these
unfoldable pub left_behind : ℕ → ℕ → List (List ℕ) → ℕ
left_behind every left [] = left
left_behind every zero (body ∷ bodies) = left_behind every (every - 1) bodies
left_behind every (suc left) (body ∷ bodies) = left_behind every left bodies

-- the saves so far, and what else holds of the moves so far. No public clause cites it.
pub record KeepsPaced {W C : Type 0} (Also : Standing W C → List Move → Type 0) (every : ℕ) (body_of : BodyOf W) (step : EventStep W C) (noted : Noting W C)
    (old_serves new_serves : Standing W C → Type 0) (stood : Option (List ℕ)) (old new : WireHistory) (count : ℕ)
    (saves : List (List ℕ)) : Type 0 where
  pub keeps : Keeps step noted old_serves new_serves (bodies_looked_at every body_of step) stood old new count saves
  pub also : (x : Standing W C) → StandsOver old_serves old.opened x → Also x keeps.turns.moves

-- the saves so far, the file, and the store. No public clause cites it.
pub record KeepsSoFar {W C D : Type 0} (Also : Standing W C → List Move → Type 0) (every : ℕ) (body_of_world : BodyOf W) (step : EventStep W C)
    (noted : Noting W C)
    (contents : D → Option (List ℕ)) (moment : D → ℕ) (left_since : D → ℕ → List ℕ → Type 0)
    (old_serves new_serves : Standing W C → Type 0) (old new : WireHistory) (count : ℕ) (old_disk new_disk : D)
    (first now : StoreState) (saved : ℕ) : Type 0 where
  pub saves : List (List ℕ)
  pub paced : KeepsPaced Also every body_of_world step noted old_serves new_serves (body_of first) old new count saves
  pub counted : saved ≡ length saves
  pub within : is_any_over first.standing saves ≡ false
  pub standing : now.standing ≡ runs.standing_after_all first.standing saves
  pub open_ : now.shut ≡ false
  pub told : StaysTold contents old_disk new_disk
  pub left : LeavesEach contents moment left_since old_disk new_disk first.standing saves
