-- What was shown of turns, in terms of a run with a store: its saves, how it ends, and its marks.
use Rattle.std.proofs.Common.{◌≡◌, ℕ, ◌+◌, ◌<◌, ◌≤◌, List, [], ◌∷◌, ◌++◌, false, refl, sym, ap, ◌∙◌, subst, inl, arith}
use Rattle.std.specs.Prelude.{Bool, Option}
use Rattle.ads_outside.specs.declared.end.End.{End}
use Rattle.ads_outside.specs.declared.end.End.TheVariants as end
use Rattle.ads_outside.specs.declared.moves.Move.{Move}
use Rattle.ads_outside.specs.WireState.{WireState, WireHistory}
use Rattle.spec_machine.specs.Moves.{EventStep}
use Rattle.ads_served.specs.Standing.{Standing, Noting, standing_after_all}
use Rattle.serve_loop.specs.declared.loop_end.LoopEnd.{LoopEnd}
use Rattle.serve_loop.specs.declared.loop_end.LoopEnd.TheVariants as loop
use Rattle.serve_loop.specs.declared.turn_end.Turn.TheVariants as turn
use Rattle.serve_loop.specs.Beside.{AfterLoop, ShowsTurns, ShowsBroken}
use Rattle.serve_loop.specs.Leads.{serves_any}
use Rattle.serve_loop.specs.Looks.{Look, IsBodyOf, look_at}
use Rattle.serve_loop.specs.TurnTaken.{StandsOver, StandsForSome, TakesEvent}
use Rattle.persist_store.specs.Marks.{Mark, MarksStay}
use Rattle.persist_store.specs.Store.{StoreState, IsReady, body_of}
use Rattle.keep_loop.specs.declared.keep_end.KeepEnd.{KeepEnd}
use Rattle.keep_loop.specs.declared.keep_end.KeepEnd.TheVariants as keep
use Rattle.keep_loop.specs.declared.run_end.RunEnd.{RunEnd}
use Rattle.keep_loop.specs.declared.run_end.RunEnd.TheVariants as run
use Rattle.keep_loop.specs.declared.save_end.SaveEnd.{SaveEnd}
use Rattle.keep_loop.specs.declared.save_end.SaveEnd.TheVariants as save
use Rattle.keep_loop.specs.Bodies.{BodyOf, bodies_looked_at, is_standing, saves_in}
use Rattle.keep_loop.specs.Ending.{EndsBySave, EndsAsStopped}
use Rattle.keep_loop.specs.Keeping.{AfterKeep, Keeps, TookTurns, CountsSaves, StandsAtEnd, KeepsSoFar}
use Rattle.keep_loop.specs.Saving.{LeavesEach}
use Rattle.keep_loop.specs.Marking.{HoldsSaves, MarksSoFar, is_to_end}
use Rattle.keep_loop.specs.Saver.{BeginsAnew, KeepsDisk, SeenBy, StopsAtLook}
use Rattle.keep_loop.specs.Wanting.{WantsInSave}
use Rattle.serve_loop.proofs.ShowLemmas.{shows_more, tick_looks}
use Rattle.keep_loop.proofs.AlsoLemmas.{Also, EndsMarked, ends_marked, stops_marked}
use Rattle.keep_loop.proofs.EndLemmas.{CameOf, ends_after, ends_here, fails_at_tick, limit_at_tick, memory_at_tick, memory_broken}
use Rattle.keep_loop.specs.Shown.{looked_at}
use Rattle.keep_loop.proofs.KeepLemmas.{other_adds}
use Rattle.keep_loop.proofs.SaverLemmas.{due_more}
use Rattle.keep_loop.proofs.TurnLemmas.{saves_more}
use Rattle.keep_loop.proofs.ShownLemmas.{looked_of_turns, marks_of_turns}

-- how the turns of a run end, in terms of the loop
abbrev pub end_of_turns : RunEnd → End
end_of_turns run.Done = end.Done
end_of_turns run.LinkFault = end.LinkFault
end_of_turns run.Budget = end.Budget

not_to_end : (by : SaveEnd) (end : KeepEnd) → EndsAsStopped by end → is_to_end end ≡ false
not_to_end save.Same end so = absurd so
not_to_end save.Saved end so = absurd so
not_to_end save.Failed end so = ap is_to_end so
not_to_end save.Limit end so = ap is_to_end so
not_to_end save.Memory end so = ap is_to_end so

module _ {W C D : Type 0} (every : ℕ) (of_world : BodyOf W) (step : EventStep W C) (noted : Noting W C) (contents : D → Option (List ℕ))
    (may_leave : D → List ℕ → Type 0) (moment : D → ℕ) (left_since : D → ℕ → List ℕ → Type 0) (marked : D → List Mark → Type 0)
    (names : D → Option (List (List ℕ))) (fault_count : D → ℕ) (first_left first_saved every_now left saved : ℕ)
    (anew : BeginsAnew every first_left first_saved) (first now : StoreState) (old_disk disk : D) where
  abbrev Seen : List (List ℕ) → List Look → Type 0
  Seen = SeenBy contents moment left_since marked names fault_count every first_left first_saved every_now left saved first now old_disk disk

  abbrev SoFar : (Standing W C → Type 0) → (Standing W C → Type 0) → WireHistory → WireHistory → ℕ → Type 0
  SoFar old_serves new_serves old new count =
      KeepsSoFar (Also every of_world step noted contents may_leave moment left_since marked old old_disk disk first) every of_world step noted contents
      moment left_since old_serves new_serves old new count old_disk disk first now saved

  abbrev RunEnds : KeepEnd → (Standing W C → Type 0) → (Standing W C → Type 0) → WireState → WireState → ℕ → D → Type 0
  RunEnds end old_serves new_serves old new limit last_disk = AfterKeep
      (TookTurns end every of_world step noted old_serves new_serves (body_of first) old new limit)
      (LeavesEach contents moment left_since old_disk last_disk first.standing)
      (CountsSaves end first.standing)
      (StandsAtEnd end contents may_leave old_disk last_disk first.standing)

  so_far_of : (old_serves new_serves : Standing W C → Type 0) (old new : WireHistory) (count : ℕ) → StandsForSome (StandsOver old_serves old.opened)
      → ShowsTurns of_world step noted old_serves new_serves old new count Seen → SoFar old_serves new_serves old new count
  so_far_of old_serves new_serves old new count some shows =
      let one = (shows.shown some.standing some.stands).seen anew in
      record {
        saves = shows.kept;
        paced = record {
          keeps = record {
            turns = shows.turns;
            are = λ x over.
                let all = shows.shown x over in
                (all.seen anew).are ∙ ap (saves_in (body_of first))
                (looked_of_turns every of_world step x.running.state old (λ looked file. Unit {0}) all.turns all.one
                ∙ ap (bodies_looked_at every of_world step x.running.state) (sym all.are));
          };
          also = λ x over marks told.
              let all = shows.shown x over in
              let Holds : List (List ℕ) → Option (List ℕ) → Type 0 = HoldsSaves (contents old_disk) first.standing in
              subst (λ (moves : List Move). MarksSoFar (marked disk) marks (bodies_looked_at every of_world step x.running.state) old Holds moves)
              (sym all.are) (marks_of_turns every of_world step x.running.state old Holds (marked disk) marks all.turns all.one
              ((all.seen anew).marks marks told));
        };
        counted = one.counted;
        within = one.within;
        standing = one.standing;
        open_ = one.open_;
        told = one.told;
        left = one.left;
      }

  -- no file is opened
  pub disk_shown : (old_serves new_serves : Standing W C → Type 0) (old new : WireHistory) (count : ℕ) → StandsForSome (StandsOver old_serves old.opened)
      → ShowsTurns of_world step noted old_serves new_serves old new count Seen → KeepsDisk contents names fault_count old_disk disk
  disk_shown old_serves new_serves old new count some shows = ((shows.shown some.standing some.stands).seen anew).keeps

  pub disk_looped : (r : LoopEnd) (old_serves new_serves : Standing W C → Type 0) (old new : WireState) (limit : ℕ)
      → StandsForSome (StandsOver old_serves old.history.opened) → AfterLoop r of_world step noted old_serves new_serves old new limit Seen
      → (r ≡ loop.Stopped → KeepsDisk contents names fault_count old_disk disk) → KeepsDisk contents names fault_count old_disk disk
  disk_looped (loop.Ended end.Done) old_serves new_serves old new limit some after stopped =
      disk_shown old_serves new_serves old.history after.last after.count some after.shows
  disk_looped (loop.Ended end.Budget) old_serves new_serves old new limit some after stopped =
      disk_shown old_serves new_serves old.history new.history limit some after
  disk_looped (loop.Ended end.LinkFault) old_serves new_serves old new limit some after stopped =
      disk_shown old_serves new_serves old.history after.last after.count some after.shows
  disk_looped (loop.Ended end.Memory) old_serves new_serves old new limit some after stopped =
      disk_shown old_serves serves_any old.history after.last after.count some after.shows
  disk_looped loop.Stopped old_serves new_serves old new limit some after stopped = stopped refl

  some_there : (old_serves new_serves : Standing W C → Type 0) (old new : WireHistory) (count : ℕ) → StandsForSome (StandsOver old_serves old.opened)
      → ShowsTurns of_world step noted old_serves new_serves old new count Seen → StandsForSome new_serves
  some_there old_serves new_serves old new count some shows = record {
    standing = standing_after_all step noted some.standing shows.turns.moves;
    stands = (shows.turns.stands some.standing some.stands).stands;
  }

  -- it stands for something at the end of the turns
  pub some_looped : (ended : RunEnd) (old_serves new_serves : Standing W C → Type 0) (old new : WireState) (limit : ℕ)
      → StandsForSome (StandsOver old_serves old.history.opened)
      → AfterLoop (loop.Ended (end_of_turns ended)) of_world step noted old_serves new_serves old new limit Seen → StandsForSome new_serves
  some_looped run.Done old_serves new_serves old new limit some after = some_there old_serves new_serves old.history after.last after.count some after.shows
  some_looped run.LinkFault old_serves new_serves old new limit some after =
      some_there old_serves new_serves old.history after.last after.count some after.shows
  some_looped run.Budget old_serves new_serves old new limit some after = some_there old_serves new_serves old.history new.history limit some after

  -- so the turns of a run came to their end
  record CameTo (ended : RunEnd) (old_serves new_serves : Standing W C → Type 0) (old new : WireState) (limit : ℕ) : Type 0 where
    last : WireHistory
    count : ℕ
    shows : ShowsTurns of_world step noted old_serves new_serves old.history last count Seen
    came : CameOf ended old new limit count last

  came_of : (ended : RunEnd) (old_serves new_serves : Standing W C → Type 0) (old new : WireState) (limit : ℕ)
      → AfterLoop (loop.Ended (end_of_turns ended)) of_world step noted old_serves new_serves old new limit Seen
      → CameTo ended old_serves new_serves old new limit
  came_of run.Done old_serves new_serves old new limit after =
      record { last = after.last; count = after.count; shows = after.shows; came = (after.fewer, after.then_) }
  came_of run.LinkFault old_serves new_serves old new limit after =
      record { last = after.last; count = after.count; shows = after.shows; came = (after.fewer, after.then_) }
  came_of run.Budget old_serves new_serves old new limit after =
      record { last = new.history; count = limit; shows = after; came = (refl, refl) }

  -- how a run ends by its last save
  pub run_keeps : (end : KeepEnd) (ended : RunEnd) (old_serves new_serves : Standing W C → Type 0) (old new : WireState) (limit : ℕ) (last_disk : D)
      (last : StoreState) → StandsForSome (StandsOver old_serves old.history.opened)
      → AfterLoop (loop.Ended (end_of_turns ended)) of_world step noted old_serves new_serves old new limit Seen
      → EndsBySave end ended saved (IsBodyOf of_world new_serves) contents moment left_since disk last_disk now last → IsReady contents may_leave last_disk last
      → IsReady contents may_leave disk now → ((d : D) (t : ℕ) (c : List ℕ) → t ≤ moment d → may_leave d c → left_since d t c)
      → RunEnds end old_serves new_serves old new limit last_disk
  run_keeps end ended old_serves new_serves old new limit last_disk last some after ends ready mid_ready counts =
      let c = came_of ended old_serves new_serves old new limit after in
      ends_here every of_world step noted contents may_leave moment left_since
      (Also every of_world step noted contents may_leave moment left_since marked old.history old_disk disk first) end ended old_serves new_serves new_serves
      old c.last new c.count limit old_disk disk last_disk first now last saved
      (so_far_of old_serves new_serves old.history c.last c.count some c.shows) c.came (λ x stands. stands) ends ready mid_ready counts

  pub run_marked : (end : KeepEnd) (ended : RunEnd) (old_serves new_serves : Standing W C → Type 0) (old new : WireState) (limit : ℕ) (last_disk : D)
      (last : StoreState) → StandsForSome (StandsOver old_serves old.history.opened)
      → AfterLoop (loop.Ended (end_of_turns ended)) of_world step noted old_serves new_serves old new limit Seen
      → EndsBySave end ended saved (IsBodyOf of_world new_serves) contents moment left_since disk last_disk now last → IsReady contents may_leave last_disk last
      → MarksStay marked disk last_disk
      → EndsMarked every of_world step noted contents may_leave moment left_since marked (is_to_end end) old_serves old new old_disk last_disk first
  run_marked end ended old_serves new_serves old new limit last_disk last some after ends ready stay =
      let c = came_of ended old_serves new_serves old new limit after in
      ends_marked every of_world step noted contents may_leave moment left_since marked end ended old_serves new_serves new_serves
      old c.last new c.count old_disk disk last_disk first now last saved
      (so_far_of old_serves new_serves old.history c.last c.count some c.shows) (ends_after ended old new limit c.count c.last c.came) (λ x stands. stands)
      ends ready stay

  -- how one ends that want of memory broke
  pub broken_keeps : (old_serves new_serves : Standing W C → Type 0) (old new : WireState) (limit : ℕ) → StandsForSome (StandsOver old_serves
      old.history.opened)
      → ShowsBroken of_world step noted old_serves old.history new.history limit Seen → IsReady contents may_leave disk now
      → RunEnds keep.Memory old_serves new_serves old new limit disk
  unfolding so_far_of
  broken_keeps old_serves new_serves old new limit some broken ready =
      memory_broken every of_world step noted contents may_leave moment left_since
      (Also every of_world step noted contents may_leave moment left_since marked old.history old_disk disk first) old_serves new_serves old broken.last new
      broken.count limit old_disk disk first now saved broken.later
      (so_far_of old_serves serves_any old.history broken.last broken.count some broken.shows) broken.logged broken.most broken.offers ready

  pub broken_marked : (old_serves : Standing W C → Type 0) (old new : WireState) (limit : ℕ) → StandsForSome (StandsOver old_serves old.history.opened)
      → ShowsBroken of_world step noted old_serves old.history new.history limit Seen → ((l : List Mark) → marked disk l → marked disk l)
      → EndsMarked every of_world step noted contents may_leave moment left_since marked false old_serves old new old_disk disk first
  broken_marked old_serves old new limit some broken stay =
      stops_marked every of_world step noted contents may_leave moment left_since marked old_serves serves_any old broken.last new broken.count
      old_disk disk disk first now saved broken.later
      (so_far_of old_serves serves_any old.history broken.last broken.count some broken.shows) broken.few (inl broken.logged) stay

  -- the saves among the bodies of the turns up to a tick whose body is to be saved
  tick_keeps : (old_serves mid_serves new_serves : Standing W C → Type 0) (old mid new : WireHistory) (count : ℕ) → left ≡ 0
      → StandsForSome (StandsOver old_serves old.opened)
      → (shows : ShowsTurns of_world step noted old_serves mid_serves old mid count Seen) → TakesEvent step noted mid_serves new_serves mid new turn.Tick
      → (body : List ℕ) → IsBodyOf of_world new_serves body → is_standing (body_of now) body ≡ false
      → Keeps step noted old_serves new_serves (bodies_looked_at every of_world step) (body_of first) old new (count + 1) (shows.kept ++ body ∷ [])
  tick_keeps old_serves mid_serves new_serves old mid new count due some shows takes body is differs =
      let stood = body_of first in
      let Saves : List (List ℕ) → List Look → Type 0 = λ kept looks. shows.kept ++ body ∷ [] ≡ saves_in stood (looked_at every looks) in
      let standing = ((shows.shown some.standing some.stands).seen anew).standing in
      let more = shows_more of_world step noted old_serves mid_serves new_serves old mid new count turn.Tick Seen Saves shows takes (record {
        more = shows.kept ++ body ∷ [];
        sees = λ looks y seen serves.
            let look = look_at (of_world y.running.state.world) new in
            subst (λ (l : List Look). shows.kept ++ body ∷ [] ≡ saves_in stood (looked_at every (looks ++ l))) (sym (tick_looks takes.event look takes.kind))
            (saves_more stood shows.kept (looked_at every looks) (look.body ∷ []) (body ∷ []) (looked_at every (looks ++ look ∷ [])) (seen anew).are
            (other_adds first now shows.kept body look.body standing differs (is y serves)) (due_more every left looks look due (seen anew).pace));
      }) in
      record {
        turns = more.turns;
        are = λ x over.
            let all = more.shown x over in
            all.seen ∙ ap (saves_in stood)
            (looked_of_turns every of_world step x.running.state old (λ looked file. Unit {0}) all.turns all.one
            ∙ ap (bodies_looked_at every of_world step x.running.state) (sym all.are));
      }

  -- how one ends that what became of a body ended
  pub stopped_keeps : (by : SaveEnd) (end : KeepEnd) (old_serves mid_serves new_serves : Standing W C → Type 0) (old : WireState) (mid : WireHistory)
      (new : WireState) (count limit : ℕ) (last_disk : D) (last : StoreState) → StandsForSome (StandsOver old_serves old.history.opened) → count < limit
      → ShowsTurns of_world step noted old_serves mid_serves old.history mid count Seen → TakesEvent step noted mid_serves new_serves mid new.history turn.Tick
      → StopsAtLook contents may_leave moment left_since marked names fault_count by left now last disk last_disk (IsBodyOf of_world new_serves)
      → EndsAsStopped by end → ((d : D) (t : ℕ) (c : List ℕ) → t ≤ moment d → may_leave d c → left_since d t c)
      → RunEnds end old_serves new_serves old new limit last_disk
  unfolding so_far_of
  stopped_keeps save.Same end old_serves mid_serves new_serves old mid new count limit last_disk last some fewer shows takes stops so counts = absurd so
  stopped_keeps save.Saved end old_serves mid_serves new_serves old mid new count limit last_disk last some fewer shows takes stops so counts = absurd so
  stopped_keeps save.Failed end old_serves mid_serves new_serves old mid new count limit last_disk last some fewer shows takes stops so counts =
      subst (λ (e : KeepEnd). RunEnds e old_serves new_serves old new limit last_disk)
      (sym so) (fails_at_tick every of_world step noted contents may_leave moment left_since
      (Also every of_world step noted contents may_leave moment left_since marked old.history old_disk disk first) old_serves mid_serves new_serves
      old mid new count limit old_disk disk last_disk first now saved fewer
      (so_far_of old_serves mid_serves old.history mid count some shows)
      (tick_keeps old_serves mid_serves new_serves old.history mid new.history count stops.due some shows takes) stops.saves.0 stops.saves.1 counts)
  stopped_keeps save.Limit end old_serves mid_serves new_serves old mid new count limit last_disk last some fewer shows takes stops so counts =
      subst (λ (e : KeepEnd). RunEnds e old_serves new_serves old new limit last_disk)
      (sym so) (limit_at_tick every of_world step noted contents may_leave moment left_since
      (Also every of_world step noted contents may_leave moment left_since marked old.history old_disk disk first) old_serves mid_serves new_serves
      old mid new count limit old_disk disk last_disk first now saved fewer
      (so_far_of old_serves mid_serves old.history mid count some shows)
      (tick_keeps old_serves mid_serves new_serves old.history mid new.history count stops.due some shows takes) stops.saves.0 stops.saves.1 stops.saves.2
      stops.ready)
  stopped_keeps save.Memory end old_serves mid_serves new_serves old mid new count limit last_disk last some fewer shows takes stops so counts =
      subst (λ (e : KeepEnd). RunEnds e old_serves new_serves old new limit last_disk)
      (sym so) (memory_at_tick every of_world step noted contents may_leave moment left_since
      (Also every of_world step noted contents may_leave moment left_since marked old.history old_disk disk first) old_serves mid_serves new_serves
      old mid new count limit old_disk disk last_disk first now saved fewer
      (so_far_of old_serves mid_serves old.history mid count some shows) takes
      (tick_keeps old_serves mid_serves new_serves old.history mid new.history count stops.due some shows takes) stops.saves stops.ready counts)

  pub stopped_marked : (end : KeepEnd) (by : SaveEnd) (old_serves mid_serves new_serves : Standing W C → Type 0) (old : WireState) (mid : WireHistory)
      (new : WireState) (count : ℕ) (last_disk : D) → StandsForSome (StandsOver old_serves old.history.opened)
      → ShowsTurns of_world step noted old_serves mid_serves old.history mid count Seen → TakesEvent step noted mid_serves new_serves mid new.history turn.Tick
      → MarksStay marked disk last_disk → EndsAsStopped by end
      → EndsMarked every of_world step noted contents may_leave moment left_since marked (is_to_end end) old_serves old new old_disk last_disk first
  stopped_marked end by old_serves mid_serves new_serves old mid new count last_disk some shows takes stay so =
      subst (λ (to_end : Bool). EndsMarked every of_world step noted contents may_leave moment left_since marked to_end old_serves old new old_disk last_disk
      first) (sym (not_to_end by end so))
      (stops_marked every of_world step noted contents may_leave moment left_since marked old_serves mid_serves old mid new count
      old_disk disk last_disk first now saved takes.leads.moves
      (so_far_of old_serves mid_serves old.history mid count some shows) (let one = takes.leads.events in omega (arith, one)) (inl takes.leads.logged) stay)

  pub stopped_wants : (old_serves mid_serves new_serves : Standing W C → Type 0) (old : WireState) (mid : WireHistory) (new : WireState) (count limit : ℕ)
      → count < limit → ShowsTurns of_world step noted old_serves mid_serves old.history mid count Seen
      → TakesEvent step noted mid_serves new_serves mid new.history turn.Tick → WantsInSave step noted old_serves new_serves old new limit
  stopped_wants old_serves mid_serves new_serves old mid new count limit fewer shows takes = record {
    last = new.history;
    count = count + 1;
    fewer = omega (arith, fewer);
    turns = (shows_more of_world step noted old_serves mid_serves new_serves old.history mid new.history count turn.Tick Seen
        (λ (kept : List (List ℕ)) (looks : List Look). Unit {0}) shows takes (record { more = []; sees = λ looks y seen serves. tt })).turns;
    then_ = inl refl;
  }
