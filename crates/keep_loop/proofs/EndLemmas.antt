-- How a run with a store ends.
use Rattle.std.proofs.Common.{◌≡◌, ℕ, ◌+◌, ◌<◌, ◌≤◌, List, [], ◌∷◌, ◌++◌, length, true, false, refl, sym, ap, ◌∙◌, subst, append-nil, inl, inr, arith}
use Rattle.std.specs.Prelude.{Option, Some, ◌⊎◌}
use Rattle.ads_outside.specs.declared.moves.Move.{Move}
use Rattle.ads_outside.specs.WireAnswers.{Stops}
use Rattle.ads_outside.specs.WireState.{WireState, WireHistory, history_after, end_answered}
use Rattle.spec_machine.specs.Delivery.{AreOffers}
use Rattle.spec_machine.specs.MachineState.{MachineState}
use Rattle.spec_machine.specs.Moves.{EventStep}
use Rattle.ads_served.specs.Standing.{Standing, Noting, standing_after_all}
use Rattle.spec_store.specs.Slots as slots
use Rattle.spec_store.specs.Runs as runs
use Rattle.spec_store.specs.Saves.{is_over_limit}
use Rattle.serve_loop.specs.declared.turn_end.Turn.TheVariants as turn
use Rattle.serve_loop.specs.Leads.{serves_any, events_in}
use Rattle.serve_loop.specs.Looks.{IsBodyOf}
use Rattle.serve_loop.specs.TurnTaken.{StandsOver, TakesEvent, Stays}
use Rattle.serve_loop.proofs.LeadLemmas.{AreOffers-append}
use Rattle.serve_loop.proofs.TurnLemmas.{stands_over}
use Rattle.persist_store.specs.Store.{StoreState, body_of, IsReady}
use Rattle.keep_loop.specs.declared.keep_end.KeepEnd.{KeepEnd}
use Rattle.keep_loop.specs.declared.keep_end.KeepEnd.TheVariants as keep
use Rattle.keep_loop.specs.declared.run_end.RunEnd.{RunEnd}
use Rattle.keep_loop.specs.declared.run_end.RunEnd.TheVariants as run
use Rattle.keep_loop.specs.declared.save_end.SaveEnd.{SaveEnd}
use Rattle.keep_loop.specs.declared.save_end.SaveEnd.TheVariants as save
use Rattle.keep_loop.specs.Bodies.{BodyOf, bodies_looked_at, bodies_to_end, is_standing, saves_in, is_any_over}
use Rattle.keep_loop.specs.Saving.{LeavesEach, StaysTold, IsBegun, Differs, AfterSave}
use Rattle.keep_loop.specs.Ending.{EndsBySave, end_of, end_by_save}
use Rattle.keep_loop.specs.Keeping.{Keeps, EndsAfter, TookAll, StopsInSave, BreaksOff, TookTurns, CountsSaves, FileStandsFor, StandsAfterSaves, StandsAtEnd}
use Rattle.keep_loop.specs.Keeping.{AfterKeep, AllButLast, KeepsSoFar}
use Rattle.keep_loop.proofs.SaveLemmas.{last_of, first_standing, over_then, standing_then, left_then, left_more, left_same, told_then, told_same}
use Rattle.keep_loop.proofs.BodyLemmas.{state_played}
use Rattle.keep_loop.proofs.TurnLemmas.{keeps_last, keeps_to}
use Rattle.keep_loop.proofs.KeepLemmas.{any_over, length_one, same_adds, other_adds}

-- how the turns of a run ended, behind so many of them
abbrev pub CameOf : RunEnd → WireState → WireState → ℕ → ℕ → WireHistory → Type 0
CameOf run.Done old new limit count last = (count < limit) × (new.history ≡ end_answered last)
CameOf run.LinkFault old new limit count last = (count < limit) × Stops old new last
CameOf run.Budget old new limit count last = (count ≡ limit) × (new.history ≡ last)

pub most_came : (ended : RunEnd) (old new : WireState) (limit count : ℕ) (last : WireHistory) → CameOf ended old new limit count last → count ≤ limit
most_came run.Done old new limit count last came = (let fewer = came.0 in omega (arith, fewer))
most_came run.LinkFault old new limit count last came = (let fewer = came.0 in omega (arith, fewer))
most_came run.Budget old new limit count last came = (let all = came.0 in omega (arith, all))

pub ends_after : (ended : RunEnd) (old new : WireState) (limit count : ℕ) (last : WireHistory) → CameOf ended old new limit count last → EndsAfter old new last
ends_after run.Done old new limit count last came = inr (inl came.1)
ends_after run.LinkFault old new limit count last came = inr (inr came.1)
ends_after run.Budget old new limit count last came = inl came.1

module _ {W C D : Type 0} (every : ℕ) (of_world : BodyOf W) (step : EventStep W C) (noted : Noting W C) (contents : D → Option (List ℕ))
    (may_leave : D → List ℕ → Type 0) (moment : D → ℕ) (left_since : D → ℕ → List ℕ → Type 0) (Also : Standing W C → List Move → Type 0) where
  abbrev SoFar : (Standing W C → Type 0) → (Standing W C → Type 0) → WireHistory → WireHistory → ℕ → D → D → StoreState → StoreState → ℕ → Type 0
  SoFar old_serves new_serves old new count old_disk new_disk first now saved =
      KeepsSoFar Also every of_world step noted contents moment left_since old_serves new_serves old new count old_disk new_disk first now saved

  -- so a run ends
  abbrev Ends : KeepEnd → (Standing W C → Type 0) → (Standing W C → Type 0) → WireState → WireState → ℕ → D → D → StoreState → Type 0
  Ends end old_serves new_serves old new limit old_disk new_disk first = AfterKeep
      (TookTurns end every of_world step noted old_serves new_serves (body_of first) old new limit)
      (LeavesEach contents moment left_since old_disk new_disk first.standing)
      (CountsSaves end first.standing)
      (StandsAtEnd end contents may_leave old_disk new_disk first.standing)

  -- a save was begun behind others
  begun_last : (old_disk mid_disk disk : D) (standing mid_standing : Option slots.Standing) (saves : List (List ℕ)) (body : List ℕ)
      → ((d : D) (t : ℕ) (c : List ℕ) → t ≤ moment d → may_leave d c → left_since d t c)
      → is_any_over standing saves ≡ false → mid_standing ≡ runs.standing_after_all standing saves → StaysTold contents old_disk mid_disk
      → LeavesEach contents moment left_since mid_disk disk mid_standing (body ∷ [])
      → AllButLast contents may_leave old_disk disk standing (saves ++ body ∷ [])
  begun_last old_disk mid_disk disk standing mid_standing saves body counts within is told left = record {
    before = saves;
    last = body ∷ [];
    are = refl;
    one = omega arith;
    within = within;
    leaves = λ file here c leaves.
        let now = told file here in
        let behind = left now.0 now.1 in
        subst (λ (s : Option slots.Standing). runs.IsOneOf s (body ∷ []) (slots.standing_of c)) is
        (behind.each c (counts disk (moment mid_disk) c behind.later leaves));
  }

  -- nothing was done behind others
  none_last : (old_disk mid_disk disk : D) (standing : Option slots.Standing) (store : StoreState) (saves last all : List (List ℕ))
      → all ≡ saves ++ last → length last ≤ 1 → is_any_over standing saves ≡ false → store.standing ≡ runs.standing_after_all standing saves
      → StaysTold contents old_disk mid_disk → IsReady contents may_leave mid_disk store → store.shut ≡ false → disk ≡ mid_disk
      → AllButLast contents may_leave old_disk disk standing all
  none_last old_disk mid_disk disk standing store saves last all are one within is told ready open_ same = record {
    before = saves;
    last = last;
    are = are;
    one = one;
    within = within;
    leaves = λ file here c leaves.
        let now = told file here in
        let is_so = ready now.0 now.1 open_ in
        let stood = is_so.0 c (subst (λ (d : D). may_leave d c) same leaves) in
        first_standing last (runs.standing_after_all standing saves) (slots.standing_of c) (ap slots.standing_of stood ∙ (is_so.1 ∙ is));
  }

  -- in a save behind a tick
  at_tick : (old_serves new_serves : Standing W C → Type 0) (old new : WireState) (count limit : ℕ) (first : StoreState) (saves : List (List ℕ)) → count < limit
      → Keeps step noted old_serves new_serves (bodies_looked_at every of_world step) (body_of first) old.history new.history (count + 1) saves
      → StopsInSave every of_world step noted old_serves (body_of first) old new limit saves
  at_tick old_serves new_serves old new count limit first saves fewer keeps = inl (record {
    last = new.history;
    count = count + 1;
    fewer = omega arith;
    keeps = keeps_to every of_world step noted old_serves new_serves serves_any (bodies_looked_at every of_world step)
        (body_of first) old.history new.history (count + 1) saves (λ y over. any_over new_serves new.history.opened y over) keeps;
    then_ = refl;
  })

  -- the moves of whole turns and the first ones of a turn are offers
  offers_then : (old_serves mid_serves : Standing W C → Type 0) (old mid : WireHistory) (count : ℕ) (first : StoreState) (saves : List (List ℕ))
      (later : List Move)
      → (keeps : Keeps step noted old_serves mid_serves (bodies_looked_at every of_world step) (body_of first) old mid count saves)
      → ((y : Standing W C) → StandsOver mid_serves mid.opened y → AreOffers step y.running.state later)
      → (x : Standing W C) → StandsOver old_serves old.opened x → AreOffers step x.running.state (keeps.turns.moves ++ later)
  offers_then old_serves mid_serves old mid count first saves later keeps behind x over =
      let ms = keeps.turns.moves in
      let y = standing_after_all step noted x ms in
      let P : MachineState W C → Type 0 = λ s. AreOffers step s later in
      AreOffers-append step x.running ms later (keeps.turns.are x over).offers
      (subst P (state_played step noted x ms) (behind y (keeps.turns.stands x over)))

  -- behind these turns
  breaks_off : (old_serves mid_serves : Standing W C → Type 0) (old : WireState) (mid : WireHistory)
      (new : WireState) (count limit : ℕ) (first : StoreState) (saves : List (List ℕ)) (later : List Move)
      → Keeps step noted old_serves mid_serves (bodies_looked_at every of_world step) (body_of first) old.history mid count saves
      → EndsAfter old new (history_after mid later) → count + events_in later ≤ limit
      → ((y : Standing W C) → StandsOver mid_serves mid.opened y → AreOffers step y.running.state later)
      → BreaksOff every of_world step noted old_serves (body_of first) old new limit saves
  breaks_off old_serves mid_serves old mid new count limit first saves later keeps ended most behind = record {
    last = mid;
    count = count;
    keeps = record {
      turns = record {
        moves = keeps.turns.moves;
        logged = keeps.turns.logged;
        events = keeps.turns.events;
        stands = λ x over. any_over mid_serves mid.opened (standing_after_all step noted x keeps.turns.moves) (keeps.turns.stands x over);
        are = keeps.turns.are;
      };
      are = keeps.are;
    };
    later = later;
    ended = ended;
    most = most;
    offers = offers_then old_serves mid_serves old.history mid count first saves later keeps behind;
  }

  -- the turns up to a tick, and the saves with that of its body, which does not stand
  abbrev TickKeeps : (Standing W C → Type 0) → (Standing W C → Type 0) → WireHistory → WireHistory → ℕ → StoreState → StoreState → List (List ℕ) → Type 0
  TickKeeps old_serves new_serves old new count first mid_store saves =
      (body : List ℕ) → IsBodyOf of_world new_serves body → is_standing (body_of mid_store) body ≡ false
      → Keeps step noted old_serves new_serves (bodies_looked_at every of_world step) (body_of first) old new (count + 1) (saves ++ body ∷ [])

  -- the disk failed in the save of a tick
  pub fails_at_tick : (old_serves mid_serves new_serves : Standing W C → Type 0) (old : WireState) (mid : WireHistory)
      (new : WireState) (count limit : ℕ) (old_disk mid_disk disk : D) (first mid_store : StoreState) (saved : ℕ) → count < limit
      → (so_far : SoFar old_serves mid_serves old.history mid count old_disk mid_disk first mid_store saved)
      → TickKeeps old_serves new_serves old.history new.history count first mid_store so_far.saves
      → (b : IsBegun (IsBodyOf of_world new_serves) contents moment left_since mid_disk disk mid_store) → is_over_limit mid_store.standing b.body ≡ false
      → ((d : D) (t : ℕ) (c : List ℕ) → t ≤ moment d → may_leave d c → left_since d t c)
      → Ends keep.StoreFault old_serves new_serves old new limit old_disk disk first
  fails_at_tick old_serves mid_serves new_serves old mid new count limit old_disk mid_disk disk first mid_store saved fewer so_far tick b
      within counts = record {
        saves = so_far.saves ++ b.body ∷ [];
        took = at_tick old_serves new_serves old new count limit first (so_far.saves ++ b.body ∷ []) fewer
            (tick b.body b.is b.differs);
        left = left_then contents moment left_since old_disk mid_disk disk first.standing
            mid_store.standing so_far.saves (b.body ∷ []) so_far.left so_far.told so_far.standing b.left;
        counted = over_then so_far.saves b.body first.standing mid_store.standing false so_far.within so_far.standing within;
        stands = begun_last old_disk mid_disk disk first.standing mid_store.standing so_far.saves b.body counts so_far.within so_far.standing so_far.told
            b.left;
      }

  -- it was refused by its limit
  pub limit_at_tick : (old_serves mid_serves new_serves : Standing W C → Type 0) (old : WireState) (mid : WireHistory)
      (new : WireState) (count limit : ℕ) (old_disk mid_disk disk : D) (first mid_store : StoreState) (saved : ℕ) → count < limit
      → (so_far : SoFar old_serves mid_serves old.history mid count old_disk mid_disk first mid_store saved)
      → TickKeeps old_serves new_serves old.history new.history count first mid_store so_far.saves
      → (d : Differs (IsBodyOf of_world new_serves) mid_store) → is_over_limit mid_store.standing d.body ≡ true → disk ≡ mid_disk
      → IsReady contents may_leave mid_disk mid_store → Ends keep.StoreLimit old_serves new_serves old new limit old_disk disk first
  limit_at_tick old_serves mid_serves new_serves old mid new count limit old_disk mid_disk disk first mid_store saved fewer so_far tick d over same
      ready = record {
        saves = so_far.saves ++ d.body ∷ [];
        took = at_tick old_serves new_serves old new count limit first (so_far.saves ++ d.body ∷ []) fewer
            (tick d.body d.is d.differs);
        left = left_more contents moment left_since old_disk mid_disk disk first.standing so_far.saves (d.body ∷ []) so_far.left same;
        counted = over_then so_far.saves d.body first.standing mid_store.standing true so_far.within so_far.standing over;
        stands = none_last old_disk mid_disk disk first.standing mid_store so_far.saves (d.body ∷ []) (so_far.saves ++ d.body ∷ []) refl (omega arith)
            so_far.within so_far.standing so_far.told ready so_far.open_ same;
      }

  -- memory was wanting behind a tick: for the body, or in its save
  pub memory_at_tick : (old_serves mid_serves new_serves : Standing W C → Type 0) (old : WireState) (mid : WireHistory)
      (new : WireState) (count limit : ℕ) (old_disk mid_disk disk : D) (first mid_store : StoreState) (saved : ℕ) → count < limit
      → (so_far : SoFar old_serves mid_serves old.history mid count old_disk mid_disk first mid_store saved)
      → TakesEvent step noted mid_serves new_serves mid new.history turn.Tick
      → TickKeeps old_serves new_serves old.history new.history count first mid_store so_far.saves
      → (disk ≡ mid_disk) ⊎ IsBegun (IsBodyOf of_world new_serves) contents moment left_since mid_disk disk mid_store
      → IsReady contents may_leave mid_disk mid_store → ((d : D) (t : ℕ) (c : List ℕ) → t ≤ moment d → may_leave d c → left_since d t c)
      → Ends keep.Memory old_serves new_serves old new limit old_disk disk first
  memory_at_tick old_serves mid_serves new_serves old mid new count limit old_disk mid_disk disk first mid_store saved fewer so_far takes tick (inl same)
      ready counts = record {
        saves = so_far.saves;
        took = inl (breaks_off old_serves mid_serves old mid new count limit first so_far.saves takes.leads.moves so_far.paced.keeps
            (inl takes.leads.logged) (let one = takes.leads.events in omega (arith, one, fewer)) (λ y over. (takes.leads.are y over).offers));
        left = left_same contents moment left_since old_disk mid_disk disk first.standing so_far.saves so_far.left same;
        counted = tt;
        stands = none_last old_disk mid_disk disk first.standing mid_store so_far.saves [] so_far.saves (sym (append-nil so_far.saves)) (omega arith)
            so_far.within so_far.standing so_far.told ready so_far.open_ same;
      }
  memory_at_tick old_serves mid_serves new_serves old mid new count limit old_disk mid_disk disk first mid_store saved fewer so_far takes tick (inr b)
      ready counts = record {
        saves = so_far.saves ++ b.body ∷ [];
        took = inr (at_tick old_serves new_serves old new count limit first (so_far.saves ++ b.body ∷ []) fewer
            (tick b.body b.is b.differs));
        left = left_then contents moment left_since old_disk mid_disk disk first.standing
            mid_store.standing so_far.saves (b.body ∷ []) so_far.left so_far.told so_far.standing b.left;
        counted = tt;
        stands = begun_last old_disk mid_disk disk first.standing mid_store.standing so_far.saves b.body counts so_far.within so_far.standing so_far.told
            b.left;
      }

  -- memory was wanting in a turn
  pub memory_broken : (old_serves new_serves : Standing W C → Type 0) (old : WireState) (mid : WireHistory) (new : WireState) (count limit : ℕ)
      (old_disk disk : D) (first now : StoreState) (saved : ℕ) (later : List Move)
      → (so_far : SoFar old_serves serves_any old.history mid count old_disk disk first now saved) → new.history ≡ history_after mid later
      → count + events_in later ≤ limit
      → ((x : Standing W C) → StandsOver old_serves old.history.opened x → AreOffers step x.running.state (so_far.paced.keeps.turns.moves ++ later))
      → IsReady contents may_leave disk now → Ends keep.Memory old_serves new_serves old new limit old_disk disk first
  memory_broken old_serves new_serves old mid new count limit old_disk disk first now saved later so_far logged most offers ready = record {
    saves = so_far.saves;
    took = inl (record {
      last = mid;
      count = count;
      keeps = so_far.paced.keeps;
      later = later;
      ended = inl logged;
      most = most;
      offers = offers;
    });
    left = so_far.left;
    counted = tt;
    stands = none_last old_disk disk disk first.standing now so_far.saves [] so_far.saves (sym (append-nil so_far.saves)) (omega arith)
        so_far.within so_far.standing so_far.told ready so_far.open_ refl;
  }

  -- the turns of a run, the body at whose end was saved or stands
  last_keeps : (old_serves mid_serves new_serves : Standing W C → Type 0) (old mid : WireHistory)
      (count : ℕ) (old_disk mid_disk : D) (first mid_store : StoreState) (saved : ℕ) (more : List (List ℕ))
      → (so_far : SoFar old_serves mid_serves old mid count old_disk mid_disk first mid_store saved) → Stays mid_serves new_serves
      → ((z : Standing W C) → StandsOver new_serves mid.opened z → saves_in (last_of (body_of first) so_far.saves) (of_world z.running.state.world ∷ []) ≡ more)
      → Keeps step noted old_serves new_serves (bodies_to_end every of_world step) (body_of first) old mid count (so_far.saves ++ more)
  last_keeps old_serves mid_serves new_serves old mid count old_disk mid_disk first mid_store saved more so_far stays adds =
      keeps_last every of_world step noted old_serves new_serves (body_of first) old mid count so_far.saves more
      (keeps_to every of_world step noted old_serves mid_serves new_serves (bodies_looked_at every of_world step)
      (body_of first) old mid count so_far.saves (stands_over mid_serves new_serves mid.opened stays) so_far.paced.keeps) adds

  -- a run with all its turns
  took_all : (ended : RunEnd) (old_serves new_serves : Standing W C → Type 0) (old : WireState) (mid : WireHistory) (new : WireState)
      (count limit : ℕ) (first : StoreState) (saves : List (List ℕ)) → CameOf ended old new limit count mid
      → Keeps step noted old_serves new_serves (bodies_to_end every of_world step) (body_of first) old.history mid count saves
      → TookAll ended every of_world step noted old_serves new_serves (body_of first) old new limit saves
  took_all run.Done old_serves new_serves old mid new count limit first saves came keeps =
      record { last = mid; count = count; fewer = came.0; keeps = keeps; then_ = came.1 }
  took_all run.LinkFault old_serves new_serves old mid new count limit first saves came keeps =
      record { last = mid; count = count; fewer = came.0; keeps = keeps; then_ = came.1 }
  took_all run.Budget old_serves new_serves old mid new count limit first saves came keeps =
      let P : WireHistory → ℕ → Type 0 =
      λ h n. Keeps step noted old_serves new_serves (bodies_to_end every of_world step) (body_of first) old.history h n saves in
      subst (λ h. P h limit) (sym came.1) (subst (λ n. P mid n) came.0 keeps)

  -- in the save at the end
  at_end : (ended : RunEnd) (old_serves new_serves : Standing W C → Type 0) (old : WireState) (mid : WireHistory) (new : WireState)
      (count limit : ℕ) (first : StoreState) (saves : List (List ℕ)) → CameOf ended old new limit count mid
      → Keeps step noted old_serves new_serves (bodies_to_end every of_world step) (body_of first) old.history mid count saves
      → StopsInSave every of_world step noted old_serves (body_of first) old new limit saves
  at_end ended old_serves new_serves old mid new count limit first saves came keeps =
      inr (
        ended,
        took_all ended old_serves serves_any old mid new count limit first saves came
            (keeps_to every of_world step noted old_serves new_serves serves_any (bodies_to_end every of_world step)
            (body_of first) old.history mid count saves (λ y over. any_over new_serves mid.opened y over) keeps),
      )

  -- behind the save at the end
  all_done : (ended : RunEnd) (n : ℕ) (saves : List (List ℕ)) (old_serves new_serves : Standing W C → Type 0) (old new : WireState) (limit : ℕ)
      (old_disk disk : D) (first : StoreState) → TookAll ended every of_world step noted old_serves new_serves (body_of first) old new limit saves
      → LeavesEach contents moment left_since old_disk disk first.standing saves → n ≡ length saves → is_any_over first.standing saves ≡ false
      → StandsAfterSaves contents may_leave old_disk disk first.standing saves → Ends (end_of ended n) old_serves new_serves old new limit old_disk disk first
  all_done run.Done n saves old_serves new_serves old new limit old_disk disk first took left counted within stands =
      record { saves = saves; took = took; left = left; counted = (counted, within); stands = stands }
  all_done run.LinkFault n saves old_serves new_serves old new limit old_disk disk first took left counted within stands =
      record { saves = saves; took = took; left = left; counted = (counted, within); stands = stands }
  all_done run.Budget n saves old_serves new_serves old new limit old_disk disk first took left counted within stands =
      record { saves = saves; took = took; left = left; counted = (counted, within); stands = stands }

  -- a body that does not stand, at the end
  last_took : (ended : RunEnd) (old_serves mid_serves new_serves : Standing W C → Type 0) (old : WireState) (mid : WireHistory) (new : WireState)
      (count limit : ℕ) (old_disk mid_disk : D) (first mid_store : StoreState) (saved : ℕ) (body : List ℕ)
      → (so_far : SoFar old_serves mid_serves old.history mid count old_disk mid_disk first mid_store saved) → CameOf ended old new limit count mid
      → Stays mid_serves new_serves → IsBodyOf of_world new_serves body → is_standing (body_of mid_store) body ≡ false
      → StopsInSave every of_world step noted old_serves (body_of first) old new limit (so_far.saves ++ body ∷ [])
  last_took ended old_serves mid_serves new_serves old mid new count limit old_disk mid_disk first mid_store saved body so_far came stays is differs =
      at_end ended old_serves new_serves old mid new count limit first (so_far.saves ++ body ∷ []) came
      (last_keeps old_serves mid_serves new_serves old.history mid count old_disk mid_disk first mid_store saved (body ∷ []) so_far stays
      (λ z over. other_adds first mid_store so_far.saves body
      (of_world z.running.state.world) so_far.standing differs (is z over.stands)))

  -- the body at the end could not be made
  breaks_here : (ended : RunEnd) (old_serves mid_serves : Standing W C → Type 0) (old : WireState) (mid : WireHistory) (new : WireState)
      (count limit : ℕ) (first : StoreState) (saves : List (List ℕ))
      → Keeps step noted old_serves mid_serves (bodies_looked_at every of_world step) (body_of first) old.history mid count saves
      → CameOf ended old new limit count mid → BreaksOff every of_world step noted old_serves (body_of first) old new limit saves
  unfolding history_after AreOffers
  breaks_here ended old_serves mid_serves old mid new count limit first saves keeps came =
      breaks_off old_serves mid_serves old mid new count limit first saves [] keeps (ends_after ended old new limit count mid came)
      (let most = most_came ended old new limit count mid came in omega (arith, most)) (λ y over. tt)

  file_stands : (old_disk mid_disk disk : D) (standing : Option slots.Standing) (store : StoreState)
      → StaysTold contents old_disk disk → IsReady contents may_leave disk store → store.shut ≡ false → store.standing ≡ standing
      → (file : List ℕ) → contents old_disk ≡ Some file → FileStandsFor contents may_leave disk standing
  file_stands old_disk mid_disk disk standing store told ready open_ is file here =
      let now = told file here in
      let is_so = ready now.0 now.1 open_ in
      record { now = now.0; here = record { told = now.1; only = is_so.0 }; standing_is = is_so.1 ∙ is }

  -- the end of a run by its last save
  pub ends_by : (by : SaveEnd) (ended : RunEnd) (old_serves mid_serves new_serves : Standing W C → Type 0) (old : WireState) (mid : WireHistory)
      (new : WireState) (count limit : ℕ) (old_disk mid_disk disk : D) (first mid_store now : StoreState) (saved : ℕ)
      → SoFar old_serves mid_serves old.history mid count old_disk mid_disk first mid_store saved
      → CameOf ended old new limit count mid → Stays mid_serves new_serves
      → AfterSave by (IsBodyOf of_world new_serves) contents moment left_since mid_disk disk mid_store now → IsReady contents may_leave disk now
      → IsReady contents may_leave mid_disk mid_store → ((d : D) (t : ℕ) (c : List ℕ) → t ≤ moment d → may_leave d c → left_since d t c)
      → Ends (end_by_save by ended saved) old_serves new_serves old new limit old_disk disk first
  ends_by save.Same ended old_serves mid_serves new_serves old mid new count limit old_disk
      mid_disk disk first mid_store now saved so_far came stays same ready mid_ready counts =
      let P : List (List ℕ) → Type 0 = λ l. Keeps step noted old_serves new_serves (bodies_to_end every of_world step) (body_of first) old.history mid count
      l in
      all_done ended saved so_far.saves old_serves new_serves old new limit old_disk disk first
      (took_all ended old_serves new_serves old mid new count limit first so_far.saves came (subst P (append-nil so_far.saves)
      (last_keeps old_serves mid_serves new_serves old.history mid count old_disk mid_disk first mid_store saved [] so_far stays
      (λ z over. same_adds first mid_store so_far.saves same.body
      (of_world z.running.state.world) so_far.standing same.stands (same.is z over.stands)))))
      (left_same contents moment left_since old_disk mid_disk disk first.standing so_far.saves so_far.left same.disk)
      so_far.counted so_far.within
      (file_stands old_disk mid_disk disk (runs.standing_after_all first.standing so_far.saves) now
      (told_same contents moment left_since old_disk mid_disk disk so_far.told same.disk) ready
      (ap (λ (s : StoreState). s.shut) same.store ∙ so_far.open_) (ap (λ (s : StoreState). s.standing) same.store ∙ so_far.standing))
  ends_by save.Saved ended old_serves mid_serves new_serves old mid new count limit old_disk
      mid_disk disk first mid_store now saved so_far came stays s ready mid_ready counts =
      all_done ended (saved + 1) (so_far.saves ++ s.body ∷ []) old_serves new_serves old new limit old_disk disk first
      (took_all ended old_serves new_serves old mid new count limit first (so_far.saves ++ s.body ∷ []) came
      (last_keeps old_serves mid_serves new_serves old.history mid count old_disk mid_disk first mid_store saved (s.body ∷ []) so_far stays
      (λ z over. other_adds first mid_store so_far.saves s.body
      (of_world z.running.state.world) so_far.standing s.differs (s.is z over.stands))))
      (left_then contents moment left_since old_disk mid_disk disk first.standing
      mid_store.standing so_far.saves (s.body ∷ []) so_far.left so_far.told so_far.standing s.left)
      (ap (λ n. n + 1) so_far.counted ∙ sym (length_one so_far.saves s.body))
      (over_then so_far.saves s.body first.standing mid_store.standing false so_far.within so_far.standing s.within)
      (file_stands old_disk mid_disk disk (runs.standing_after_all first.standing (so_far.saves ++ s.body ∷ [])) now
      (told_then contents moment left_since old_disk mid_disk disk so_far.told s.told) ready
      (ap (λ (t : StoreState). t.shut) s.store)
      (ap (λ (t : StoreState). t.standing) s.store ∙ standing_then so_far.saves s.body first.standing mid_store.standing so_far.standing))
  ends_by save.Failed ended old_serves mid_serves new_serves old mid new count limit old_disk
      mid_disk disk first mid_store now saved so_far came stays failed ready mid_ready counts =
      let b = failed.0 in
      record {
        saves = so_far.saves ++ b.body ∷ [];
        took = last_took ended old_serves mid_serves new_serves old mid new count limit old_disk mid_disk first mid_store saved b.body so_far
            came stays b.is b.differs;
        left = left_then contents moment left_since old_disk mid_disk disk first.standing
            mid_store.standing so_far.saves (b.body ∷ []) so_far.left so_far.told so_far.standing b.left;
        counted = over_then so_far.saves b.body first.standing mid_store.standing false so_far.within so_far.standing failed.1;
        stands = begun_last old_disk mid_disk disk first.standing mid_store.standing so_far.saves b.body counts so_far.within so_far.standing so_far.told
            b.left;
      }
  ends_by save.Limit ended old_serves mid_serves new_serves old mid new count limit old_disk
      mid_disk disk first mid_store now saved so_far came stays refused ready mid_ready counts =
      let d = refused.0 in
      record {
        saves = so_far.saves ++ d.body ∷ [];
        took = last_took ended old_serves mid_serves new_serves old mid new count limit old_disk mid_disk first mid_store saved d.body so_far
            came stays d.is d.differs;
        left = left_more contents moment left_since old_disk mid_disk disk first.standing so_far.saves (d.body ∷ []) so_far.left refused.2;
        counted = over_then so_far.saves d.body first.standing mid_store.standing true so_far.within so_far.standing refused.1;
        stands = none_last old_disk mid_disk disk first.standing mid_store so_far.saves (d.body ∷ []) (so_far.saves ++ d.body ∷ []) refl (omega arith)
            so_far.within so_far.standing so_far.told mid_ready so_far.open_ refused.2;
      }
  ends_by save.Memory ended old_serves mid_serves new_serves old mid new count limit old_disk
      mid_disk disk first mid_store now saved so_far came stays (inl same) ready mid_ready counts = record {
        saves = so_far.saves;
        took = inl (breaks_here ended old_serves mid_serves old mid new count limit first so_far.saves so_far.paced.keeps came);
        left = left_same contents moment left_since old_disk mid_disk disk first.standing so_far.saves so_far.left same;
        counted = tt;
        stands = none_last old_disk mid_disk disk first.standing mid_store so_far.saves [] so_far.saves (sym (append-nil so_far.saves)) (omega arith)
            so_far.within so_far.standing so_far.told mid_ready so_far.open_ same;
      }
  ends_by save.Memory ended old_serves mid_serves new_serves old mid new count limit old_disk
      mid_disk disk first mid_store now saved so_far came stays (inr b) ready mid_ready counts = record {
        saves = so_far.saves ++ b.body ∷ [];
        took = inr (last_took ended old_serves mid_serves new_serves old mid new count limit old_disk mid_disk first mid_store saved b.body so_far
            came stays b.is b.differs);
        left = left_then contents moment left_since old_disk mid_disk disk first.standing
            mid_store.standing so_far.saves (b.body ∷ []) so_far.left so_far.told so_far.standing b.left;
        counted = tt;
        stands = begun_last old_disk mid_disk disk first.standing mid_store.standing so_far.saves b.body counts so_far.within so_far.standing so_far.told
            b.left;
      }

  -- the same, whatever that save was
  pub ends_here : (end : KeepEnd) (ended : RunEnd) (old_serves mid_serves new_serves : Standing W C → Type 0) (old : WireState) (mid : WireHistory)
      (new : WireState) (count limit : ℕ) (old_disk mid_disk disk : D) (first mid_store now : StoreState) (saved : ℕ)
      → SoFar old_serves mid_serves old.history mid count old_disk mid_disk first mid_store saved
      → CameOf ended old new limit count mid → Stays mid_serves new_serves
      → EndsBySave end ended saved (IsBodyOf of_world new_serves) contents moment left_since mid_disk disk mid_store now → IsReady contents may_leave disk now
      → IsReady contents may_leave mid_disk mid_store → ((d : D) (t : ℕ) (c : List ℕ) → t ≤ moment d → may_leave d c → left_since d t c)
      → Ends end old_serves new_serves old new limit old_disk disk first
  ends_here end ended old_serves mid_serves new_serves old mid new count limit old_disk mid_disk disk first mid_store now saved so_far came stays ends
      ready mid_ready counts =
      let P : KeepEnd → Type 0 = λ e. Ends e old_serves new_serves old new limit old_disk disk first in
      subst P (sym ends.is)
      (ends_by ends.by ended old_serves mid_serves new_serves old mid new count limit old_disk
      mid_disk disk first mid_store now saved so_far came stays ends.saves ready mid_ready counts)
