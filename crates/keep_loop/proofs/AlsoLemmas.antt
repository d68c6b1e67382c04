-- The marks of a run with a store go on with a turn, and how they end.
use Rattle.std.proofs.Common.{◌≡◌, ℕ, ◌+◌, ◌≤◌, List, [], ◌∷◌, ◌++◌, true, false, refl, sym, ap, ◌∙◌, subst, append-nil, arith}
use Rattle.std.proofs.lemmas.Bool.{false≢true}
use Rattle.std.specs.Prelude.{Bool, Option}
use Rattle.ads_outside.specs.declared.moves.Move.{Move}
use Rattle.ads_outside.specs.WireState.{WireState, WireHistory, history_after}
use Rattle.spec_machine.specs.Moves.{EventStep}
use Rattle.ads_served.specs.Standing.{Standing, Noting}
use Rattle.spec_store.specs.Runs as runs
use Rattle.serve_loop.specs.Leads.{events_in}
use Rattle.serve_loop.specs.Looks.{IsBodyOf}
use Rattle.serve_loop.specs.TurnTaken.{StandsOver, Stays}
use Rattle.persist_store.specs.Marks.{Mark, MarksStay}
use Rattle.persist_store.specs.Store.{StoreState, body_of, IsReady}
use Rattle.keep_loop.specs.declared.keep_end.KeepEnd.{KeepEnd}
use Rattle.keep_loop.specs.declared.run_end.RunEnd.{RunEnd}
use Rattle.keep_loop.specs.declared.run_end.RunEnd.TheVariants as run
use Rattle.keep_loop.specs.declared.save_end.SaveEnd.{SaveEnd}
use Rattle.keep_loop.specs.declared.save_end.SaveEnd.TheVariants as save
use Rattle.keep_loop.specs.Bodies.{BodyOf, bodies_to_end, saves_in}
use Rattle.keep_loop.specs.Ending.{EndsBySave, end_of, end_by_save}
use Rattle.keep_loop.specs.Keeping.{EndsAfter, KeepsSoFar}
use Rattle.keep_loop.specs.Marking.{HoldsSaves, MarksBeforeEnd, MarksMore, MarksOf, is_to_end}
use Rattle.keep_loop.specs.Saving.{StaysTold, AfterSave}
use Rattle.keep_loop.proofs.KeepLemmas.{same_adds, other_adds}
use Rattle.keep_loop.proofs.MarkLemmas.{marked_before, holds_saves}
use Rattle.keep_loop.proofs.SaveLemmas.{last_of, standing_then, told_then, told_same}
use Rattle.keep_loop.proofs.TurnLemmas.{saves_to_end}
use Rattle.serve_loop.proofs.TurnLemmas.{stands_over}

module _ {W C D : Type 0} (every : ℕ) (of_world : BodyOf W) (step : EventStep W C) (noted : Noting W C) (contents : D → Option (List ℕ))
    (may_leave : D → List ℕ → Type 0) (moment : D → ℕ) (left_since : D → ℕ → List ℕ → Type 0) (marked : D → List Mark → Type 0) where
  -- the marks behind some moves
  abbrev pub Also : WireHistory → D → D → StoreState → Standing W C → List Move → Type 0
  Also old first_disk disk first =
      MarksOf every of_world step marked old (HoldsSaves (contents first_disk) first.standing) first_disk disk

  abbrev SoFar : (Standing W C → List Move → Type 0) → (Standing W C → Type 0) → (Standing W C → Type 0) → WireHistory → WireHistory → ℕ
      → D → D → StoreState → StoreState → ℕ → Type 0
  SoFar Holds old_serves new_serves old new count old_disk new_disk first now saved =
      KeepsSoFar Holds every of_world step noted contents moment left_since old_serves new_serves old new count old_disk new_disk first now saved

  -- so the marks of a run end, before that of its end
  abbrev pub EndsMarked : Bool → (Standing W C → Type 0) → WireState → WireState → D → D → StoreState → Type 0
  EndsMarked to_end old_serves old new old_disk disk first =
      (x : Standing W C) → StandsOver old_serves old.history.opened x → (marks : List Mark) → marked old_disk marks
      → MarksMore (marked disk) marks (MarksBeforeEnd to_end every of_world step x.running.state (HoldsSaves (contents old_disk) first.standing)
      (contents disk) old.history new.history)

  -- one that ended in a turn, or in the save behind it
  pub stops_marked : (old_serves mid_serves : Standing W C → Type 0) (old : WireState) (mid : WireHistory) (new : WireState) (count : ℕ)
      (old_disk mid_disk disk : D) (first mid_store : StoreState) (saved : ℕ) (later : List Move)
      → SoFar (Also old.history old_disk mid_disk first) old_serves mid_serves old.history mid count old_disk mid_disk first mid_store saved
      → events_in later ≤ 1 → EndsAfter old new (history_after mid later) → MarksStay marked mid_disk disk
      → EndsMarked false old_serves old new old_disk disk first
  stops_marked old_serves mid_serves old mid new count old_disk mid_disk disk first mid_store saved later so_far few ended stay = λ x over marks told.
      let Holds : List (List ℕ) → Option (List ℕ) → Type 0 = HoldsSaves (contents old_disk) first.standing in
      let turns = so_far.paced.keeps.turns in
      marked_before every of_world step x.running.state Holds Holds old mid new turns.moves (marked mid_disk) (marked disk) marks (λ looked file holds. holds)
      false (contents disk) later few turns.logged ended stay (λ e. absurd (false≢true e)) (λ e. absurd (false≢true e)) (so_far.paced.also x over marks told)

  -- one that came to its end, and whose last save was done
  last_marked : (old_serves mid_serves new_serves : Standing W C → Type 0) (old : WireState) (mid : WireHistory) (new : WireState) (count : ℕ)
      (old_disk mid_disk disk : D) (first mid_store now : StoreState) (saved : ℕ) (more : List (List ℕ))
      → (so_far : SoFar (Also old.history old_disk mid_disk first) old_serves mid_serves old.history mid count old_disk mid_disk first mid_store saved)
      → EndsAfter old new (history_after mid []) → Stays mid_serves new_serves → MarksStay marked mid_disk disk
      → StaysTold contents old_disk disk → IsReady contents may_leave disk now → now.shut ≡ false
      → now.standing ≡ runs.standing_after_all first.standing (so_far.saves ++ more)
      → ((z : Standing W C) → StandsOver new_serves mid.opened z → saves_in (last_of (body_of first) so_far.saves) (of_world z.running.state.world ∷ []) ≡ more)
      → EndsMarked true old_serves old new old_disk disk first
  last_marked old_serves mid_serves new_serves old mid new count old_disk mid_disk disk first mid_store now saved more so_far ended stays stay told
      ready open_ standing adds = λ x over marks here.
      let Holds : List (List ℕ) → Option (List ℕ) → Type 0 = HoldsSaves (contents old_disk) first.standing in
      let keeps = so_far.paced.keeps in
      let to = stands_over mid_serves new_serves mid.opened stays in
      let are = saves_to_end every of_world step noted old_serves mid_serves (body_of first) old.history mid count so_far.saves more keeps
      (λ z there. adds z (to z there)) x over in
      marked_before every of_world step x.running.state Holds Holds old mid new keeps.turns.moves (marked mid_disk) (marked disk) marks
      (λ looked file holds. holds) true (contents disk) [] (omega arith) keeps.turns.logged ended stay (λ e. refl)
      (λ e. holds_saves contents may_leave old_disk disk first now (so_far.saves ++ more)
      (bodies_to_end every of_world step x.running.state keeps.turns.moves) told ready open_ standing are) (so_far.paced.also x over marks here)

  none_after : (old new : WireState) (mid : WireHistory) → EndsAfter old new mid → EndsAfter old new (history_after mid [])
  unfolding history_after
  none_after old new mid ended = ended

  came_to_end : (ended : RunEnd) (n : ℕ) → is_to_end (end_of ended n) ≡ true
  came_to_end run.Done n = refl
  came_to_end run.LinkFault n = refl
  came_to_end run.Budget n = refl

  -- by its last save
  by_marked : (by : SaveEnd) (ended : RunEnd) (old_serves mid_serves new_serves : Standing W C → Type 0) (old : WireState) (mid : WireHistory)
      (new : WireState) (count : ℕ) (old_disk mid_disk disk : D) (first mid_store now : StoreState) (saved : ℕ)
      → SoFar (Also old.history old_disk mid_disk first) old_serves mid_serves old.history mid count old_disk mid_disk first mid_store saved
      → EndsAfter old new (history_after mid []) → Stays mid_serves new_serves
      → AfterSave by (IsBodyOf of_world new_serves) contents moment left_since mid_disk disk mid_store now → IsReady contents may_leave disk now
      → MarksStay marked mid_disk disk → EndsMarked (is_to_end (end_by_save by ended saved)) old_serves old new old_disk disk first
  by_marked save.Same ended old_serves mid_serves new_serves old mid new count old_disk mid_disk disk first mid_store now saved so_far after stays same
      ready stay =
      let B : Bool → Type 0 = λ b. EndsMarked b old_serves old new old_disk disk first in
      subst B (sym (came_to_end ended saved))
      (last_marked old_serves mid_serves new_serves old mid new count old_disk mid_disk disk first mid_store now saved [] so_far after stays stay
      (told_same contents moment left_since old_disk mid_disk disk so_far.told same.disk) ready
      (ap (λ (s : StoreState). s.shut) same.store ∙ so_far.open_)
      (ap (λ (s : StoreState). s.standing) same.store ∙ (so_far.standing ∙ ap (runs.standing_after_all first.standing) (sym (append-nil so_far.saves))))
      (λ z over. same_adds first mid_store so_far.saves same.body
      (of_world z.running.state.world) so_far.standing same.stands (same.is z over.stands)))
  by_marked save.Saved ended old_serves mid_serves new_serves old mid new count old_disk mid_disk disk first mid_store now saved so_far after stays s
      ready stay =
      let B : Bool → Type 0 = λ b. EndsMarked b old_serves old new old_disk disk first in
      subst B (sym (came_to_end ended (saved + 1)))
      (last_marked old_serves mid_serves new_serves old mid new count old_disk mid_disk disk first mid_store now saved (s.body ∷ []) so_far after
      stays stay (told_then contents moment left_since old_disk mid_disk disk so_far.told s.told) ready
      (ap (λ (t : StoreState). t.shut) s.store)
      (ap (λ (t : StoreState). t.standing) s.store ∙ standing_then so_far.saves s.body first.standing mid_store.standing so_far.standing)
      (λ z over. other_adds first mid_store so_far.saves s.body
      (of_world z.running.state.world) so_far.standing s.differs (s.is z over.stands)))
  by_marked save.Failed ended old_serves mid_serves new_serves old mid new count old_disk mid_disk disk first mid_store now saved so_far after stays failed
      ready stay = stops_marked old_serves mid_serves old mid new count old_disk mid_disk disk first mid_store saved [] so_far (omega arith) after stay
  by_marked save.Limit ended old_serves mid_serves new_serves old mid new count old_disk mid_disk disk first mid_store now saved so_far after stays refused
      ready stay = stops_marked old_serves mid_serves old mid new count old_disk mid_disk disk first mid_store saved [] so_far (omega arith) after stay
  by_marked save.Memory ended old_serves mid_serves new_serves old mid new count old_disk mid_disk disk first mid_store now saved so_far after stays wanted
      ready stay = stops_marked old_serves mid_serves old mid new count old_disk mid_disk disk first mid_store saved [] so_far (omega arith) after stay

  pub ends_marked : (end : KeepEnd) (ended : RunEnd) (old_serves mid_serves new_serves : Standing W C → Type 0) (old : WireState) (mid : WireHistory)
      (new : WireState) (count : ℕ) (old_disk mid_disk disk : D) (first mid_store now : StoreState) (saved : ℕ)
      → SoFar (Also old.history old_disk mid_disk first) old_serves mid_serves old.history mid count old_disk mid_disk first mid_store saved
      → EndsAfter old new mid → Stays mid_serves new_serves
      → EndsBySave end ended saved (IsBodyOf of_world new_serves) contents moment left_since mid_disk disk mid_store now → IsReady contents may_leave disk now
      → MarksStay marked mid_disk disk → EndsMarked (is_to_end end) old_serves old new old_disk disk first
  ends_marked end ended old_serves mid_serves new_serves old mid new count old_disk mid_disk disk first mid_store now saved so_far after stays ends ready
      stay =
      let P : KeepEnd → Type 0 = λ e. EndsMarked (is_to_end e) old_serves old new old_disk disk first in
      subst P (sym ends.is)
      (by_marked ends.by ended old_serves mid_serves new_serves old mid new count old_disk mid_disk disk first mid_store now saved so_far
      (none_after old new mid after) stays ends.saves ready stay)
