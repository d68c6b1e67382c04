-- The marks of a run that serves on, and how they end.
use Rattle.std.proofs.Common.{◌≡◌, ℕ, ◌+◌, ◌≤◌, List, [], ◌∷◌, ◌++◌, true, false, refl, sym, ap, ◌∙◌, subst, inl, inr, arith}
use Rattle.std.proofs.lemmas.Bool.{false≢true}
use Rattle.std.specs.Prelude.{Bool, Option, Some}
use Rattle.ads_outside.specs.declared.end.End.{End}
use Rattle.ads_outside.specs.declared.end.End.TheVariants as end
use Rattle.ads_outside.specs.declared.moves.Move.{Move}
use Rattle.ads_outside.specs.WireState.{WireState, WireHistory, history_after}
use Rattle.spec_machine.specs.MachineState.{MachineState}
use Rattle.spec_machine.specs.Moves.{EventStep}
use Rattle.ads_served.specs.Standing.{Standing, Noting, standing_after_all}
use Rattle.serve_loop.specs.declared.loop_end.LoopEnd.TheVariants as loop
use Rattle.serve_loop.specs.Beside.{AfterLoop, ShowsTurns}
use Rattle.serve_loop.specs.Looks.{Look}
use Rattle.serve_loop.specs.TurnTaken.{StandsOver, TakesTurns}
use Rattle.persist_store.specs.Marks.{Mark, MarksStay}
use Rattle.persist_store.specs.Store.{StoreState, IsReady}
use Rattle.keep_loop.specs.declared.kept_on.KeptOn.{KeptOn}
use Rattle.keep_loop.specs.declared.save_counts.SaveCounts.{SaveCounts}
use Rattle.keep_loop.specs.declared.save_end.SaveEnd.{SaveEnd}
use Rattle.keep_loop.specs.declared.save_end.SaveEnd.TheVariants as save
use Rattle.keep_loop.specs.Bodies.{BodyOf, bodies_looked_at}
use Rattle.keep_loop.specs.Keeping.{EndsAfter}
use Rattle.keep_loop.specs.KeepingOn.{IsWhole}
use Rattle.keep_loop.specs.Looking.{counted, AfterLook, EndsByLook, LookedSoFar}
use Rattle.keep_loop.specs.Marking.{HoldsWhole, MarksBeforeEnd, MarksMore, MarksOf, comes_to_end}
use Rattle.keep_loop.proofs.BodyLemmas.{state_played}
use Rattle.keep_loop.proofs.LookLemmas.{looked_more}
use Rattle.keep_loop.proofs.MarkLemmas.{Follows, marked_before}
use Rattle.keep_loop.proofs.OnLemmas.{LooksIn, ShowsLooks}

never_next : (n : ℕ) → n + 1 ≡ 0 → ⊥
never_next n e = absurd (omega (arith, e))

-- where nothing failed up to a look, nothing failed before it
whole_before : (by : SaveEnd) (counts : SaveCounts) → IsWhole (counted by counts) → IsWhole counts
whole_before save.Same counts is = is
whole_before save.Saved counts is = record { failed = is.failed; wanted = is.wanted; over = is.over }
whole_before save.Failed counts is = absurd (never_next counts.failed is.failed)
whole_before save.Limit counts is = absurd (never_next counts.over is.over)
whole_before save.Memory counts is = absurd (never_next counts.wanted is.wanted)

-- what the file held where nothing had failed, it held where nothing fails later
pub later_counted : (told : Option (List ℕ)) (first : StoreState) (by : SaveEnd) (counts then_ : SaveCounts) → then_ ≡ counted by counts
    → Follows (HoldsWhole counts told first.standing) (HoldsWhole then_ told first.standing)
later_counted told first by counts then_ is = λ looked file holds whole. holds (whole_before by counts (subst IsWhole is whole))

-- what the file holds behind bodies that were looked at
pub holds_looked : {D : Type 0} (contents : D → Option (List ℕ)) (may_leave : D → List ℕ → Type 0) (moment : D → ℕ) (left_since : D → ℕ → List ℕ → Type 0)
    (first_disk disk : D) (first now : StoreState) (counts : SaveCounts) (looked : List (List ℕ))
    → LookedSoFar contents may_leave moment left_since first_disk disk first now counts looked → IsReady contents may_leave disk now
    → HoldsWhole counts (contents first_disk) first.standing looked (contents disk)
holds_looked contents may_leave moment left_since first_disk disk first now counts looked so_far ready = λ is file here.
    let whole = so_far.whole is in
    let there = so_far.file.told file here in
    (there.0, there.1, (ready there.0 there.1 whole.open_).1 ∙ whole.standing_is)

module _ {W C D : Type 0} (every : ℕ) (of_world : BodyOf W) (step : EventStep W C) (noted : Noting W C) (contents : D → Option (List ℕ))
    (may_leave : D → List ℕ → Type 0) (moment : D → ℕ) (left_since : D → ℕ → List ℕ → Type 0) (marked : D → List Mark → Type 0) where
  -- whatever was served before, these are the marks behind these moves
  abbrev pub MarksIn : (Standing W C → Type 0) → WireHistory → D → D → StoreState → SaveCounts → List Move → Type 0
  MarksIn old_serves old old_disk disk first counts moves = (x : Standing W C) → StandsOver old_serves old.opened x
      → MarksOf every of_world step marked old (HoldsWhole counts (contents old_disk) first.standing) old_disk disk x moves

  -- what was shown of turns says so of their moves
  abbrev pub ShowsMarks : {K : Type 0} → (K → List Look → Type 0) → (Standing W C → Type 0) → WireHistory → D → D → StoreState → SaveCounts → Type 1
  ShowsMarks Seen old_serves old old_disk disk first counts = (new_serves : Standing W C → Type 0) (mid : WireHistory) (count : ℕ)
      (shows : ShowsTurns of_world step noted old_serves new_serves old mid count Seen)
      → MarksIn old_serves old old_disk disk first counts shows.turns.moves

  abbrev Looks : (Standing W C → Type 0) → D → D → StoreState → StoreState → SaveEnd → Type 0
  Looks serves mid_disk new_disk mid now by =
      (x : Standing W C) → serves x → AfterLook by (of_world x.running.state.world) contents may_leave moment left_since mid_disk new_disk mid now

  -- so the marks of a run end, before that of its end
  abbrev pub EndsOnMarked : Bool → SaveCounts → (Standing W C → Type 0) → WireState → WireState → D → D → StoreState → Type 0
  EndsOnMarked to_end counts old_serves old new old_disk disk first =
      (x : Standing W C) → StandsOver old_serves old.history.opened x → (marks : List Mark) → marked old_disk marks
      → MarksMore (marked disk) marks (MarksBeforeEnd to_end every of_world step x.running.state (HoldsWhole counts (contents old_disk) first.standing)
      (contents disk) old.history new.history)

  none_after : (old new : WireState) (mid : WireHistory) → EndsAfter old new mid → EndsAfter old new (history_after mid [])
  unfolding history_after
  none_after old new mid ended = ended

  -- behind the look at its end
  last_marked : (by : SaveEnd) (old_serves new_serves : Standing W C → Type 0) (old : WireState) (mid : WireHistory) (new : WireState)
      (count : ℕ) (old_disk mid_disk disk : D) (first mid_store now : StoreState) (counts : SaveCounts)
      → ((d : D) (file : List ℕ) → contents d ≡ Some file → may_leave d file)
      → ((d : D) (t : ℕ) (c : List ℕ) → t ≤ moment d → may_leave d c → left_since d t c)
      → (turns : TakesTurns step noted old_serves new_serves old.history mid count)
      → LooksIn every of_world step noted contents may_leave moment left_since old_serves old.history old_disk mid_disk first mid_store counts turns.moves
      → MarksIn old_serves old.history old_disk mid_disk first counts turns.moves
      → EndsAfter old new mid → Looks new_serves mid_disk disk mid_store now by → IsReady contents may_leave disk now → MarksStay marked mid_disk disk
      → EndsOnMarked true (counted by counts) old_serves old new old_disk disk first
  last_marked by old_serves new_serves old mid new count old_disk mid_disk disk first mid_store now counts here laws turns looked marks_so ended looks ready
      stay = λ x over marks told.
      let ms = turns.moves in
      let y = standing_after_all step noted x ms in
      let body = of_world y.running.state.world in
      let before = bodies_looked_at every of_world step x.running.state ms in
      let all = looked_more contents may_leave moment left_since by old_disk mid_disk disk first mid_store now counts before body here laws
      (looked x over) (looks y (turns.stands x over).stands) in
      let H : List (List ℕ) → Type 0 = λ l. HoldsWhole (counted by counts) (contents old_disk) first.standing l (contents disk) in
      marked_before every of_world step x.running.state (HoldsWhole counts (contents old_disk) first.standing)
      (HoldsWhole (counted by counts) (contents old_disk) first.standing) old mid new ms (marked mid_disk) (marked disk) marks
      (later_counted (contents old_disk) first by counts (counted by counts) refl) true (contents disk) [] (omega arith) turns.logged
      (none_after old new mid ended) stay (λ e. refl)
      (λ e. subst H (ap (λ (s : MachineState W C). before ++ of_world s.world ∷ []) (state_played step noted x ms))
      (holds_looked contents may_leave moment left_since old_disk disk first now (counted by counts) (before ++ body ∷ []) all ready))
      (marks_so x over marks told)

  -- a run that came to its end
  pub looked_marked : {K : Type 0} (ended : End) → comes_to_end ended ≡ true → (Seen : K → List Look → Type 0) (r : KeptOn)
      (old_serves new_serves : Standing W C → Type 0) (old new : WireState) (limit : ℕ) (old_disk mid_disk disk : D)
      (first mid_store now : StoreState) (counts : SaveCounts)
      → ((d : D) (file : List ℕ) → contents d ≡ Some file → may_leave d file)
      → ((d : D) (t : ℕ) (c : List ℕ) → t ≤ moment d → may_leave d c → left_since d t c)
      → ShowsLooks every of_world step noted contents may_leave moment left_since Seen old_serves old.history old_disk mid_disk first mid_store counts
      → ShowsMarks Seen old_serves old.history old_disk mid_disk first counts
      → AfterLoop (loop.Ended ended) of_world step noted old_serves new_serves old new limit Seen
      → EndsByLook r ended counts (Looks new_serves mid_disk disk mid_store now) → IsReady contents may_leave disk now → MarksStay marked mid_disk disk
      → EndsOnMarked (comes_to_end r.ended) r.counts old_serves old new old_disk disk first
  looked_marked end.Done to_end Seen r old_serves new_serves old new limit old_disk mid_disk disk first mid_store now counts here laws looked marks_so after
      ends ready stay =
      let P : KeptOn → Type 0 = λ k. EndsOnMarked (comes_to_end k.ended) k.counts old_serves old new old_disk disk first in
      subst P (sym ends.is)
      (last_marked ends.by old_serves new_serves old after.last new after.count old_disk mid_disk disk first mid_store now counts here laws after.shows.turns
      (looked new_serves after.last after.count after.shows) (marks_so new_serves after.last after.count after.shows) (inr (inl after.then_)) ends.looks
      ready stay)
  looked_marked end.LinkFault to_end Seen r old_serves new_serves old new limit old_disk mid_disk disk first mid_store now counts here laws looked marks_so
      after ends ready stay =
      let P : KeptOn → Type 0 = λ k. EndsOnMarked (comes_to_end k.ended) k.counts old_serves old new old_disk disk first in
      subst P (sym ends.is)
      (last_marked ends.by old_serves new_serves old after.last new after.count old_disk mid_disk disk first mid_store now counts here laws after.shows.turns
      (looked new_serves after.last after.count after.shows) (marks_so new_serves after.last after.count after.shows) (inr (inr after.then_)) ends.looks
      ready stay)
  looked_marked end.Budget to_end Seen r old_serves new_serves old new limit old_disk mid_disk disk first mid_store now counts here laws looked marks_so after
      ends ready stay =
      let P : KeptOn → Type 0 = λ k. EndsOnMarked (comes_to_end k.ended) k.counts old_serves old new old_disk disk first in
      subst P (sym ends.is)
      (last_marked ends.by old_serves new_serves old new.history new limit old_disk mid_disk disk first mid_store now counts here laws after.turns
      (looked new_serves new.history limit after) (marks_so new_serves new.history limit after) (inl refl) ends.looks ready stay)
  looked_marked end.Memory to_end Seen r old_serves new_serves old new limit old_disk mid_disk disk first mid_store now counts here laws looked marks_so after
      ends ready stay = absurd (false≢true to_end)

  -- one that memory ended in a turn
  pub wanting_marked : {K : Type 0} (ended : End) → comes_to_end ended ≡ false → (Seen : K → List Look → Type 0) (old_serves new_serves : Standing W C → Type 0)
      (old new : WireState) (limit : ℕ) (old_disk disk : D) (first : StoreState) (counts : SaveCounts)
      → ShowsMarks Seen old_serves old.history old_disk disk first counts
      → AfterLoop (loop.Ended ended) of_world step noted old_serves new_serves old new limit Seen
      → EndsOnMarked (comes_to_end ended) counts old_serves old new old_disk disk first
  wanting_marked end.Done broken Seen old_serves new_serves old new limit old_disk disk first counts marks_so after = absurd (false≢true (sym broken))
  wanting_marked end.LinkFault broken Seen old_serves new_serves old new limit old_disk disk first counts marks_so after = absurd (false≢true (sym broken))
  wanting_marked end.Budget broken Seen old_serves new_serves old new limit old_disk disk first counts marks_so after = absurd (false≢true (sym broken))
  wanting_marked end.Memory broken Seen old_serves new_serves old new limit old_disk disk first counts marks_so after = λ x over marks told.
      let Holds : List (List ℕ) → Option (List ℕ) → Type 0 = HoldsWhole counts (contents old_disk) first.standing in
      let turns = after.shows.turns in
      marked_before every of_world step x.running.state Holds Holds old after.last new turns.moves (marked disk) (marked disk) marks
      (λ looked file holds. holds) false (contents disk) after.later after.few turns.logged (inl after.logged) (λ l here. here)
      (λ e. absurd (false≢true e)) (λ e. absurd (false≢true e)) (marks_so _ after.last after.count after.shows x over marks told)
