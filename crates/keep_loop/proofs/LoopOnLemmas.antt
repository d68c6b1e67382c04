-- What a saver that goes on was shown of a loop's turns says what became of the bodies of their moves.
use Rattle.std.proofs.Common.{◌≡◌, ℕ, List, true, false, sym, ap, ◌∙◌, subst}
use Rattle.std.specs.Prelude.{Option}
use Rattle.ads_outside.specs.declared.end.End.{End}
use Rattle.ads_outside.specs.declared.end.End.TheVariants as end
use Rattle.ads_outside.specs.declared.moves.Move.{Move}
use Rattle.ads_outside.specs.WireState.{WireState, WireHistory}
use Rattle.spec_machine.specs.Moves.{EventStep}
use Rattle.ads_served.specs.Standing.{Standing, Noting}
use Rattle.serve_loop.specs.declared.loop_end.LoopEnd.TheVariants as loop
use Rattle.serve_loop.specs.Beside.{AfterLoop, ShowsTurns}
use Rattle.serve_loop.specs.Looks.{Look, looks_of_turns}
use Rattle.serve_loop.specs.TurnTaken.{StandsOver, StandsForSome, TakesTurns}
use Rattle.persist_store.specs.Marks.{Mark}
use Rattle.keep_loop.specs.Bodies.{BodyOf, bodies_looked_at}
use Rattle.keep_loop.specs.Looking.{LookedSoFar}
use Rattle.keep_loop.specs.Marking.{HoldsWhole, MarksSoFar, comes_to_end}
use Rattle.keep_loop.specs.SavingOn.{Saver, BeginsAnew, ShownOn, SavesShown}
use Rattle.keep_loop.specs.Shown.{looked_at}
use Rattle.keep_loop.proofs.OnLemmas.{ShowsLooks}
use Rattle.keep_loop.proofs.OnMarkLemmas.{ShowsMarks}
use Rattle.keep_loop.proofs.ShownLemmas.{looked_of_turns, marks_of_turns}

module _ {W C D : Type 0} (of_world : BodyOf W) (step : EventStep W C) (noted : Noting W C) (contents : D → Option (List ℕ))
    (may_leave : D → List ℕ → Type 0) (moment : D → ℕ) (left_since : D → ℕ → List ℕ → Type 0) (marked : D → List Mark → Type 0)
    (names : D → Option (List (List ℕ))) (fault_count : D → ℕ) where
  abbrev Shown : D → D → Saver → Saver → Unit {0} → List Look → Type 0
  Shown old_disk disk first now kept looks = SavesShown contents may_leave moment left_since marked names fault_count old_disk disk first now looks

  -- the bodies that were looked at
  pub looks_in : (old_serves : Standing W C → Type 0) (old : WireHistory) (old_disk disk : D) (first now : Saver)
      → BeginsAnew contents may_leave moment left_since marked names fault_count old_disk first
      → ShowsLooks first.every of_world step noted contents may_leave moment left_since (Shown old_disk disk first now) old_serves old old_disk disk
      first.store now.store now.counts
  looks_in old_serves old old_disk disk first now begins = λ new_serves mid count shows x over.
      let s = shows.shown x over in
      let all = s.seen begins in
      let bodies = bodies_looked_at first.every of_world step x.running.state in
      let is : looked_at first.every (looks_of_turns of_world step x.running.state old s.turns) ≡ bodies shows.turns.moves =
      looked_of_turns first.every of_world step x.running.state old (λ l file. Unit {0}) s.turns s.one ∙ ap bodies (sym s.are) in
      let P : List (List ℕ) → Type 0 = λ l.
      LookedSoFar contents may_leave moment left_since old_disk disk first.store now.store now.counts l in
      subst P is all.looked

  -- the marks behind them
  pub marks_in : (old_serves : Standing W C → Type 0) (old : WireHistory) (old_disk disk : D) (first now : Saver)
      → BeginsAnew contents may_leave moment left_since marked names fault_count old_disk first
      → ShowsMarks first.every of_world step noted contents may_leave moment left_since marked (Shown old_disk disk first now) old_serves old old_disk disk
      first.store now.counts
  marks_in old_serves old old_disk disk first now begins = λ new_serves mid count shows x over marks told.
      let s = shows.shown x over in
      let all = s.seen begins in
      let Holds : List (List ℕ) → Option (List ℕ) → Type 0 = HoldsWhole now.counts (contents old_disk) first.store.standing in
      let P : List Move → Type 0 = λ ms. MarksSoFar (marked disk) marks (bodies_looked_at first.every of_world step x.running.state) old Holds ms in
      subst P (sym s.are)
      (marks_of_turns first.every of_world step x.running.state old Holds (marked disk) marks s.turns s.one (all.marks marks told))

  -- what holds whatever was served
  known_of : (old_serves new_serves : Standing W C → Type 0) (old mid : WireHistory) (count : ℕ) (old_disk disk : D) (first now : Saver)
      → BeginsAnew contents may_leave moment left_since marked names fault_count old_disk first → StandsForSome (StandsOver old_serves old.opened)
      → ShowsTurns of_world step noted old_serves new_serves old mid count (Shown old_disk disk first now)
      → (looks : List Look) × ShownOn contents may_leave moment left_since marked names fault_count old_disk disk first now looks
  known_of old_serves new_serves old mid count old_disk disk first now begins some shows =
      let s = shows.shown some.standing some.stands in
      (looks_of_turns of_world step some.standing.running.state old s.turns, s.seen begins)

  pub known : (ended : End) (old_serves new_serves : Standing W C → Type 0) (old new : WireState) (limit : ℕ) (old_disk disk : D) (first now : Saver)
      → BeginsAnew contents may_leave moment left_since marked names fault_count old_disk first → StandsForSome (StandsOver old_serves old.history.opened)
      → AfterLoop (loop.Ended ended) of_world step noted old_serves new_serves old new limit (Shown old_disk disk first now)
      → (looks : List Look) × ShownOn contents may_leave moment left_since marked names fault_count old_disk disk first now looks
  known end.Done old_serves new_serves old new limit old_disk disk first now begins some after =
      known_of old_serves new_serves old.history after.last after.count old_disk disk first now begins some after.shows
  known end.LinkFault old_serves new_serves old new limit old_disk disk first now begins some after =
      known_of old_serves new_serves old.history after.last after.count old_disk disk first now begins some after.shows
  known end.Budget old_serves new_serves old new limit old_disk disk first now begins some after =
      known_of old_serves new_serves old.history new.history limit old_disk disk first now begins some after
  known end.Memory old_serves new_serves old new limit old_disk disk first now begins some after =
      known_of old_serves _ old.history after.last after.count old_disk disk first now begins some after.shows

some_after : {W C : Type 0} (step : EventStep W C) (noted : Noting W C) (old_serves new_serves : Standing W C → Type 0) (old mid : WireHistory) (count : ℕ)
    → TakesTurns step noted old_serves new_serves old mid count → StandsForSome (StandsOver old_serves old.opened) → StandsForSome new_serves
some_after step noted old_serves new_serves old mid count turns some =
    record { standing = _; stands = (turns.stands some.standing some.stands).stands }

-- what is served stands for something at the end of a run
pub some_at_end : {W C K : Type 0} (ended : End) → comes_to_end ended ≡ true → (of_world : BodyOf W) (step : EventStep W C) (noted : Noting W C)
    (old_serves new_serves : Standing W C → Type 0) (old new : WireState) (limit : ℕ) (Seen : K → List Look → Type 0)
    → AfterLoop (loop.Ended ended) of_world step noted old_serves new_serves old new limit Seen
    → StandsForSome (StandsOver old_serves old.history.opened) → StandsForSome new_serves
some_at_end end.Done to_end of_world step noted old_serves new_serves old new limit Seen after some =
    some_after step noted old_serves new_serves old.history after.last after.count after.shows.turns some
some_at_end end.LinkFault to_end of_world step noted old_serves new_serves old new limit Seen after some =
    some_after step noted old_serves new_serves old.history after.last after.count after.shows.turns some
some_at_end end.Budget to_end of_world step noted old_serves new_serves old new limit Seen after some =
    some_after step noted old_serves new_serves old.history new.history limit after.turns some
some_at_end end.Memory to_end of_world step noted old_serves new_serves old new limit Seen after some =
    absurd (let never : false ≡ true = to_end in cc)
