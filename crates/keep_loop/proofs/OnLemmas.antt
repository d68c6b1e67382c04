-- How a run that serves on ends: what became of the bodies of its moves, and of the look at its end.
use Rattle.std.proofs.Common.{◌≡◌, ℕ, ◌+◌, ◌-◌, ◌<◌, ◌≤◌, List, [], ◌∷◌, ◌++◌, true, false, refl, sym, ap, ◌∙◌, subst, inl, inr, arith}
use Rattle.std.specs.Prelude.{◌⊎◌, Option, Some, None}
use Rattle.ads_outside.specs.declared.end.End.{End}
use Rattle.ads_outside.specs.declared.end.End.TheVariants as end
use Rattle.ads_outside.specs.declared.moves.Move.{Move}
use Rattle.ads_outside.specs.Rose.{Rose}
use Rattle.ads_outside.specs.WireState.{WireState, WireHistory, history_after}
use Rattle.spec_machine.specs.MachineState.{MachineState}
use Rattle.spec_machine.specs.Moves.{EventStep, state_after}
use Rattle.ads_served.specs.Standing.{Standing, Noting, standing_after_all}
use Rattle.serve_loop.specs.declared.loop_end.LoopEnd.TheVariants as loop
use Rattle.serve_loop.specs.Beside.{AfterLoop, ShowsTurns}
use Rattle.serve_loop.specs.Leads.{events_in}
use Rattle.serve_loop.specs.Looks.{Look}
use Rattle.serve_loop.specs.TurnTaken.{StandsOver, TakesTurns}
use Rattle.serve_loop.proofs.LeadLemmas.{history-append, events-append}
use Rattle.persist_store.specs.Store.{StoreState, IsReady}
use Rattle.keep_loop.specs.declared.kept_on.KeptOn.{KeptOn}
use Rattle.keep_loop.specs.declared.save_counts.SaveCounts.{SaveCounts}
use Rattle.keep_loop.specs.declared.save_end.SaveEnd.{SaveEnd}
use Rattle.keep_loop.specs.declared.save_end.SaveEnd.TheVariants as save
use Rattle.keep_loop.specs.Bodies.{BodyOf, bodies_at_ticks, paced, bodies_looked_at, bodies_to_end}
use Rattle.keep_loop.specs.Keeping.{left_behind}
use Rattle.keep_loop.specs.KeepingOn.{is_kept, FileHolds, KeepsOn, ServesAndKeeps}
use Rattle.keep_loop.specs.Looking.{none_counted, counted, AreFew, AfterLook, EndsByLook, LookedSoFar}
use Rattle.keep_loop.specs.Marking.{comes_to_end}
use Rattle.keep_loop.proofs.BodyLemmas.{bodies-append, state_played}
use Rattle.keep_loop.proofs.PaceLemmas.{paced-append}
use Rattle.keep_loop.proofs.LookLemmas.{looked_more, saved_each, holds_last}

module _ {W C D : Type 0} (every : ℕ) (of_world : BodyOf W) (step : EventStep W C) (noted : Noting W C) (contents : D → Option (List ℕ))
    (may_leave : D → List ℕ → Type 0) (moment : D → ℕ) (left_since : D → ℕ → List ℕ → Type 0) where
  abbrev Looked : D → D → StoreState → StoreState → SaveCounts → List (List ℕ) → Type 0
  Looked old_disk new_disk first now counts looked = LookedSoFar contents may_leave moment left_since old_disk new_disk first now counts looked

  abbrev Looks : (Standing W C → Type 0) → D → D → StoreState → StoreState → SaveEnd → Type 0
  Looks serves mid_disk new_disk mid now by =
      (x : Standing W C) → serves x → AfterLook by (of_world x.running.state.world) contents may_leave moment left_since mid_disk new_disk mid now

  -- whatever was served before, the bodies of these moves were looked at
  abbrev pub LooksIn : (Standing W C → Type 0) → WireHistory → D → D → StoreState → StoreState → SaveCounts → List Move → Type 0
  LooksIn old_serves old old_disk disk first now counts moves = (x : Standing W C) → StandsOver old_serves old.opened x
      → Looked old_disk disk first now counts (bodies_looked_at every of_world step x.running.state moves)

  -- what was shown of turns says so of their moves
  abbrev pub ShowsLooks : {K : Type 0} → (K → List Look → Type 0) → (Standing W C → Type 0) → WireHistory → D → D → StoreState → StoreState → SaveCounts →
      Type 1
  ShowsLooks Seen old_serves old old_disk disk first now counts = (new_serves : Standing W C → Type 0) (mid : WireHistory) (count : ℕ)
      (shows : ShowsTurns of_world step noted old_serves new_serves old mid count Seen)
      → LooksIn old_serves old old_disk disk first now counts shows.turns.moves

  -- so a run ends
  abbrev Ends : KeptOn → (Standing W C → Type 0) → (Standing W C → Type 0) → WireState → WireState → ℕ → D → D → StoreState → Type 0
  Ends r old_serves new_serves old new limit old_disk disk first =
      ServesAndKeeps r every of_world step noted old_serves new_serves contents may_leave moment left_since old_disk disk first.standing old new limit

  -- the bodies of the turns' moves, with the look at their end
  keeps_last : (by : SaveEnd) (r : KeptOn) (old_serves new_serves : Standing W C → Type 0) (old mid : WireHistory) (count : ℕ)
      (old_disk mid_disk disk : D) (first mid_store now : StoreState) (counts : SaveCounts)
      → ((d : D) (file : List ℕ) → contents d ≡ Some file → may_leave d file)
      → ((d : D) (t : ℕ) (c : List ℕ) → t ≤ moment d → may_leave d c → left_since d t c)
      → r.last ≡ Some by → r.counts ≡ counted by counts
      → (turns : TakesTurns step noted old_serves new_serves old mid count)
      → LooksIn old_serves old old_disk mid_disk first mid_store counts turns.moves
      → Looks new_serves mid_disk disk mid_store now by → IsReady contents may_leave disk now
      → (x : Standing W C) → StandsOver old_serves old.opened x
      → KeepsOn r (λ looked. looked ≡ bodies_to_end every of_world step x.running.state turns.moves)
      (of_world (state_after step x.running.state turns.moves).world) contents may_leave moment left_since old_disk disk first.standing
  keeps_last by r old_serves new_serves old mid count old_disk mid_disk disk first mid_store now counts here laws last_is counts_are turns so_far
      looks ready x over =
      let ms = turns.moves in
      let y = standing_after_all step noted x ms in
      let played = state_played step noted x ms in
      let body = of_world y.running.state.world in
      let before = bodies_looked_at every of_world step x.running.state ms in
      let look = looks y (turns.stands x over).stands in
      let all = looked_more contents may_leave moment left_since by old_disk mid_disk disk first mid_store now counts before body here laws
      (so_far x over) look in
      let S : SaveCounts → Type 0 = λ c. Looked old_disk disk first now c (before ++ body ∷ []) in
      let at_end = subst S (sym counts_are) all in
      let H : List ℕ → Type 0 = λ b. (file : List ℕ) → contents old_disk ≡ Some file → FileHolds contents may_leave disk b in
      record {
        looked = before ++ body ∷ [];
        are = ap (λ (s : MachineState W C). before ++ of_world s.world ∷ []) played;
        begun = at_end.begun;
        some = at_end.some;
        counted = at_end.saved_is;
        over = at_end.over;
        each = λ whole. saved_each contents may_leave moment left_since old_disk disk first now r.counts (before ++ body ∷ []) at_end ready whole;
        left = at_end.file.left;
        leaves = at_end.file.leaves;
        holds = λ kept. subst H (ap (λ (s : MachineState W C). of_world s.world) played)
            (holds_last contents may_leave moment left_since by old_disk mid_disk disk mid_store now body at_end.file.told look
            (ap is_kept (sym last_is) ∙ kept));
      }

  -- a run that came to its end, behind the look at it
  pub ends_looked : {K : Type 0} (ended : End) → comes_to_end ended ≡ true → (Seen : K → List Look → Type 0) (r : KeptOn)
      (old_serves new_serves : Standing W C → Type 0) (old new : WireState) (limit : ℕ) (old_disk mid_disk disk : D)
      (first mid_store now : StoreState) (counts : SaveCounts)
      → ((d : D) (file : List ℕ) → contents d ≡ Some file → may_leave d file)
      → ((d : D) (t : ℕ) (c : List ℕ) → t ≤ moment d → may_leave d c → left_since d t c)
      → ShowsLooks Seen old_serves old.history old_disk mid_disk first mid_store counts
      → AfterLoop (loop.Ended ended) of_world step noted old_serves new_serves old new limit Seen
      → EndsByLook r ended counts (Looks new_serves mid_disk disk mid_store now) → IsReady contents may_leave disk now
      → Ends r old_serves new_serves old new limit old_disk disk first
  ends_looked end.Done to_end Seen r old_serves new_serves old new limit old_disk mid_disk disk first mid_store now counts here laws so_far after ends
      ready =
      let is : KeptOn = record { ended = end.Done; last = Some ends.by; counts = counted ends.by counts } in
      let P : KeptOn → Type 0 = λ e. Ends e old_serves new_serves old new limit old_disk disk first in
      let turns = after.shows.turns in
      subst P (sym ends.is) (record {
        serve = record { last = after.last; count = after.count; fewer = after.fewer; turns = turns; then_ = after.then_ };
        keeps = λ x over. keeps_last ends.by is old_serves new_serves old.history after.last after.count old_disk mid_disk disk first mid_store now counts
            here laws refl refl turns (so_far new_serves after.last after.count after.shows) ends.looks ready x over;
      })
  ends_looked end.LinkFault to_end Seen r old_serves new_serves old new limit old_disk mid_disk disk first mid_store now counts here laws so_far after ends
      ready =
      let is : KeptOn = record { ended = end.LinkFault; last = Some ends.by; counts = counted ends.by counts } in
      let P : KeptOn → Type 0 = λ e. Ends e old_serves new_serves old new limit old_disk disk first in
      let turns = after.shows.turns in
      subst P (sym ends.is) (record {
        serve = record { last = after.last; count = after.count; fewer = after.fewer; turns = turns; then_ = after.then_ };
        keeps = λ x over. keeps_last ends.by is old_serves new_serves old.history after.last after.count old_disk mid_disk disk first mid_store now counts
            here laws refl refl turns (so_far new_serves after.last after.count after.shows) ends.looks ready x over;
      })
  ends_looked end.Budget to_end Seen r old_serves new_serves old new limit old_disk mid_disk disk first mid_store now counts here laws so_far after ends
      ready =
      let is : KeptOn = record { ended = end.Budget; last = Some ends.by; counts = counted ends.by counts } in
      let P : KeptOn → Type 0 = λ e. Ends e old_serves new_serves old new limit old_disk disk first in
      subst P (sym ends.is) (record {
        serve = after.turns;
        keeps = λ x over. keeps_last ends.by is old_serves new_serves old.history new.history limit old_disk mid_disk disk first mid_store now counts
            here laws refl refl after.turns (so_far new_serves new.history limit after) ends.looks ready x over;
      })
  ends_looked end.Memory to_end Seen r old_serves new_serves old new limit old_disk mid_disk disk first mid_store now counts here laws so_far after ends
      ready = absurd (let never : false ≡ true = to_end in cc)

  -- one that memory ended
  pub ends_wanting : {K : Type 0} (ended : End) → comes_to_end ended ≡ false → (Seen : K → List Look → Type 0)
      (old_serves new_serves : Standing W C → Type 0) (old new : WireState) (limit : ℕ) (old_disk disk : D) (first now : StoreState)
      (counts : SaveCounts) → ShowsLooks Seen old_serves old.history old_disk disk first now counts
      → AfterLoop (loop.Ended ended) of_world step noted old_serves new_serves old new limit Seen → IsReady contents may_leave disk now
      → Ends (record { ended = ended; last = None; counts = counts }) old_serves new_serves old new limit old_disk disk first
  ends_wanting end.Done broken Seen old_serves new_serves old new limit old_disk disk first now counts so_far after ready =
      absurd (let never : true ≡ false = broken in cc)
  ends_wanting end.LinkFault broken Seen old_serves new_serves old new limit old_disk disk first now counts so_far after ready =
      absurd (let never : true ≡ false = broken in cc)
  ends_wanting end.Budget broken Seen old_serves new_serves old new limit old_disk disk first now counts so_far after ready =
      absurd (let never : true ≡ false = broken in cc)
  ends_wanting end.Memory broken Seen old_serves new_serves old new limit old_disk disk first now counts so_far after ready =
      let turns = after.shows.turns in
      let ms = turns.moves in
      let ns = after.later in
      record {
        serve = record {
          count = after.count + events_in ns;
          within = after.most;
          breaks = record {
            moves = ms ++ ns;
            logged = after.logged ∙ (ap (λ h. history_after h ns) turns.logged ∙ sym (history-append old.history ms ns));
            events = events-append ms ns ∙ ap (λ k. k + events_in ns) turns.events;
            stands = λ x over. tt;
            are = after.offers;
          };
        };
        keeps = λ x over.
            let before = bodies_at_ticks of_world step x.running.state ms in
            let behind = bodies_at_ticks of_world step (state_after step x.running.state ms) ns in
            let so = so_far _ after.last after.count after.shows x over in
            record {
              looked = bodies_looked_at every of_world step x.running.state ms;
              are = record {
                rest = paced every (left_behind every (every - 1) before) behind;
                is = ap (paced every (every - 1)) (bodies-append of_world step ms ns x.running.state) ∙ paced-append every (every - 1) before behind;
              };
              begun = so.begun;
              some = so.some;
              counted = so.saved_is;
              over = so.over;
              each = λ whole. saved_each contents may_leave moment left_since old_disk disk first now counts
                  (bodies_looked_at every of_world step x.running.state ms) so ready whole;
              left = so.file.left;
              leaves = so.file.leaves;
              holds = λ kept. absurd (let never : false ≡ true = kept in cc);
            };
      }

pub none_rose : (Failed : Type 0) (counts : SaveCounts) → counts ≡ none_counted → 0 < counts.failed → Failed
none_rose Failed counts is more = absurd (let none : counts.failed ≡ 0 = ap (λ (c : SaveCounts). c.failed) is in omega (arith, none, more))

-- the counts grow by one at most
pub few_more : (by : SaveEnd) (counts : SaveCounts) (n : ℕ) → AreFew counts n → AreFew (counted by counts) (n + 1)
few_more save.Same counts n few =
    record { saved = omega (arith, few.saved); failed = omega (arith, few.failed); wanted = omega (arith, few.wanted); over = omega (arith, few.over) }
few_more save.Saved counts n few =
    record { saved = omega (arith, few.saved); failed = omega (arith, few.failed); wanted = omega (arith, few.wanted); over = omega (arith, few.over) }
few_more save.Failed counts n few =
    record { saved = omega (arith, few.saved); failed = omega (arith, few.failed); wanted = omega (arith, few.wanted); over = omega (arith, few.over) }
few_more save.Limit counts n few =
    record { saved = omega (arith, few.saved); failed = omega (arith, few.failed); wanted = omega (arith, few.wanted); over = omega (arith, few.over) }
few_more save.Memory counts n few =
    record { saved = omega (arith, few.saved); failed = omega (arith, few.failed); wanted = omega (arith, few.wanted); over = omega (arith, few.over) }

-- the count of failed looks rose only where the disk failed
pub failed_rose : (by : SaveEnd) (counts : SaveCounts) (Failed : Type 0) → (by ≡ save.Failed → Failed) → 0 < (counted by counts).failed
    → (0 < counts.failed) ⊎ Failed
failed_rose save.Same counts Failed rose more = inl more
failed_rose save.Saved counts Failed rose more = inl more
failed_rose save.Failed counts Failed rose more = inr (rose refl)
failed_rose save.Limit counts Failed rose more = inl more
failed_rose save.Memory counts Failed rose more = inl more

-- a last look that failed is counted
pub failed_counted : (by : SaveEnd) (counts : SaveCounts) → Some by ≡ Some save.Failed → 0 < (counted by counts).failed
failed_counted save.Failed counts is = omega arith
failed_counted save.Same counts is = cc
failed_counted save.Saved counts is = cc
failed_counted save.Limit counts is = cc
failed_counted save.Memory counts is = cc

-- it rose before, or now
pub rose_so_far : (old mid new failed : ℕ) → old ≤ mid → mid ≤ new → (0 < failed → Rose old mid) → (0 < failed) ⊎ Rose mid new → Rose old new
rose_so_far old mid new failed first second before (inl more) = (let rose = before more in omega (arith, rose, second))
rose_so_far old mid new failed first second before (inr rose) = omega (arith, rose, first)
