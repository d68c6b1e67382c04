-- The turns so far begin the script's play, so the saves so far begin those of the whole play.
use Rattle.std.proofs.Common.{◌≡◌, ℕ, ◌+◌, ◌<◌, ◌≤◌, List, [], ◌∷◌, ◌++◌, length, true, false, refl, sym, ap, ◌∙◌, subst, append-nil, inl, inr, arith}
use Rattle.std.specs.Prelude.{◌⊎◌, ◌||◌, Option, Some, None}
use Rattle.ads_outside.specs.declared.moves.Move.{Move}
use Rattle.ads_outside.specs.Opened.{opened_in}
use Rattle.ads_outside.specs.Rose.{raised}
use Rattle.ads_outside.specs.WireAnswers.{Stops}
use Rattle.ads_outside.specs.WireState.{WireState, WireHistory, history_after, end_answered}
use Rattle.spec_machine.specs.Connection.{Connection, connection_of}
use Rattle.spec_machine.specs.MachineState.{MachineState}
use Rattle.spec_machine.specs.Moves.{EventStep, state_after}
use Rattle.spec_machine.specs.Peers.{first_peers}
use Rattle.spec_machine.specs.Play.{play_of}
use Rattle.spec_machine.specs.ScriptLine.{ScriptLine}
use Rattle.spec_machine.specs.Turns.{KeepsTurns, AreTurns}
use Rattle.ads_served.specs.Standing.{Standing, Noting, standing_after_all}
use Rattle.serve_loop.specs.Leads.{events_in, serves_any}
use Rattle.serve_loop.specs.TurnTaken.{StandsOver, AreTurnsOf}
use Rattle.serve_loop.proofs.EndLemmas.{log-after}
use Rattle.serve_loop.proofs.TurnLemmas.{ends-after}
use Rattle.replay_script.specs.Answering.{AnsweredBy, AnsweredSoFar}
use Rattle.replay_script.specs.Playing.{IsUnused, IsPlay}
use Rattle.replay_script.specs.ScriptWire.{PlayedScript, state_of_played, unplayed, IsPlayed}
use Rattle.replay_script.proofs.BeginLemmas.{answered_at_each_cut, log_begins_play}
use Rattle.replay_script.proofs.PlayedLemmas.{log_is_play}
use Rattle.replay_script.proofs.PlayingLemmas.{never_more}
use Rattle.spec_store.specs.Slots as slots
use Rattle.spec_store.specs.Slots.{standing_of}
use Rattle.spec_store.specs.Runs as runs
use Rattle.spec_store.specs.Runs.{IsOneOf}
use Rattle.persist_store.specs.Marks.{Mark}
use Rattle.persist_store.specs.Store.{StoreState, IsReady}
use Rattle.persist_store.proofs.Moments.{started}
use Rattle.keep_loop.specs.Bodies.{BodyOf, bodies_at_ticks, paced, bodies_looked_at, bodies_to_end, bodies_of_run, saves_in, is_any_over}
use Rattle.keep_loop.specs.declared.keep_end.KeepEnd.TheVariants as keep
use Rattle.keep_loop.specs.declared.run_end.RunEnd.TheVariants as run
use Rattle.keep_loop.specs.Keeping.{Keeps, KeepsBefore, EndsAfter, BreaksOff, StopsInSave, TookTurns, CountsSaves, StandsAtEnd, AfterKeep}
use Rattle.keep_loop.specs.Marking.{HoldsSaves, MarksLook, AreMarks, IsBehind, MarksRun, MarksMore}
use Rattle.keep_loop.specs.Saving.{LeavesEach, StandsForSome}
use Rattle.keep_loop.proofs.BodyLemmas.{bodies_begin}
use Rattle.keep_loop.proofs.SaveLemmas.{last_of, saves-append, over-append, left_more, first_standing}
use Rattle.keep_play.specs.KeptMarks.{HasLogged, MarksPlay, MarksScript}
use Rattle.keep_play.specs.KeptScript.{saves_of_script, ServesUnused, StandsAfter, IsWholePlay}

none_found : {C : Type 0} (n : ℕ) (ks : List (Connection C)) → ks ≡ [] → connection_of n ks ≡ None
unfolding connection_of
none_found n ks e = ap (connection_of n) e

same_some : (a b : List Move) → Some a ≡ Some b → a ≡ b
same_some a b e = cc

pub record AreFirst (saves whole : List (List ℕ)) : Type 0 where
  pub more : List (List ℕ)
  pub is : whole ≡ saves ++ more

-- what is served was never used, and no number was opened
pub over_unused : {W C : Type 0} (serves : Standing W C → Type 0) (opened : List ℕ) (x : Standing W C) → serves x → IsUnused x → StandsOver serves opened x
over_unused serves opened x stands unused = record { stands = stands; numbers = λ n other. none_found n x.running.state.connections unused.none }

keeps_turns : {W C : Type 0} (step : EventStep W C) (x : Standing W C) (ms : List Move) → IsUnused x → AreTurnsOf step x.running ms
    → KeepsTurns step x.running.state ms
keeps_turns step x ms unused are = record {
  turns = are.turns;
  whole = are.are;
  served = subst (λ b. AreTurns step b x.running.state are.turns) unused.free
      are.served;
}

-- the log of a script's wire after these moves
log_there : (lines : List ScriptLine) (old : PlayedScript) (last : WireHistory) (ms : List Move) → old ≡ unplayed lines
    → last ≡ history_after (state_of_played old).history ms → last.log ≡ Some ms
log_there lines old last ms first logged =
    let empty : old.log ≡ [] = ap (λ (w : PlayedScript). w.log) first in
    ap (λ (h : WireHistory). h.log) logged ∙ (log-after ms (state_of_played old).history old.log refl ∙ ap (λ l. Some (l ++ ms)) empty)

-- all that a wire is asked of at the end of a run
pub record IsWireOf (lines : List ScriptLine) (old new : PlayedScript) (log : List Move) : Type 0 where
  pub first : old ≡ unplayed lines
  pub kept : new.lines ≡ old.lines
  pub log_is : log ≡ new.log
  pub played : IsPlayed new
  pub so_far : AnsweredSoFar first_peers new.lines log
  pub few : events_in log ≤ length new.lines

pub is_wire_of : (lines : List ScriptLine) (old new : PlayedScript) (log : List Move) → old ≡ unplayed lines → new.lines ≡ old.lines → log ≡ new.log
    → IsPlayed new → AnsweredSoFar first_peers new.lines log → events_in log ≤ length new.lines → IsWireOf lines old new log
is_wire_of lines old new log first kept log_is played so_far few =
    record { first = first; kept = kept; log_is = log_is; played = played; so_far = so_far; few = few }

lines_are : (lines : List ScriptLine) (old new : PlayedScript) (log : List Move) → IsWireOf lines old new log → new.lines ≡ lines
lines_are lines old new log wire = wire.kept ∙ ap (λ (w : PlayedScript). w.lines) wire.first

-- once End was answered, the script's lines answer these moves
answered_all : (lines : List ScriptLine) (old new : PlayedScript) (log ms : List Move) (last : WireHistory) → IsWireOf lines old new log
    → last ≡ history_after (state_of_played old).history ms
    → (state_of_played new).history ≡ end_answered last → (new.log ≡ ms) × AnsweredBy first_peers lines ms
answered_all lines old new log ms last wire logged ended =
    let told : new.log ≡ ms = same_some new.log ms (ap (λ (h : WireHistory). h.log) ended ∙ log_there lines old last ms wire.first logged) in
    let none : old.ends ≡ 0 = ap (λ (w : PlayedScript). w.ends) wire.first in
    let same : last.ends ≡ 0 = ap (λ (h : WireHistory). h.ends) logged ∙ (ends-after ms (state_of_played old).history ∙ none) in
    let raised_once : new.ends ≡ raised last.ends = ap (λ (h : WireHistory). h.ends) ended in
    let one : raised last.ends ≡ 1 = ap raised same in
    let over : 0 < new.ends = omega arith in
    let A : List ScriptLine → Type 0 = λ ls. AnsweredBy first_peers ls new.log in
    let B : List Move → Type 0 = λ l. AnsweredBy first_peers lines l in
    (told, subst B told (subst A (lines_are lines old new log wire) (wire.played over)))

-- the end of a wire leaves its log
log_same : (old new : WireState) (last : WireHistory) → EndsAfter old new last → new.history.log ≡ last.log
log_same old new last (inl same) = ap (λ (h : WireHistory). h.log) same
log_same old new last (inr (inl ended)) = ap (λ (h : WireHistory). h.log) ended
log_same old new last (inr (inr stops)) = ap (λ (h : WireHistory). h.log) stops.same

none_behind : (old new : WireState) (last : WireHistory) → new.history ≡ last → EndsAfter old new (history_after last [])
unfolding history_after
none_behind old new last same = inl same

-- these moves are answered so far
answered_first : (lines : List ScriptLine) (old new : PlayedScript) (log ms later : List Move) (last : WireHistory) → IsWireOf lines old new log
    → last ≡ history_after (state_of_played old).history ms
    → EndsAfter (state_of_played old) (state_of_played new) (history_after last later) → AnsweredSoFar first_peers lines ms
answered_first lines old new log ms later last wire logged ended =
    let here = log_there lines old last ms wire.first logged in
    let told : new.log ≡ ms ++ later = same_some new.log (ms ++ later)
    (log_same (state_of_played old) (state_of_played new) (history_after last later) ended ∙ log-after later last ms here) in
    let A : List ScriptLine → Type 0 = λ ls. AnsweredSoFar first_peers ls log in
    let B : List Move → Type 0 = λ l. AnsweredSoFar first_peers lines l in
    answered_at_each_cut lines ms later (subst B (wire.log_is ∙ told) (subst A (lines_are lines old new log wire) wire.so_far))

-- at a pace of one each body is looked at
each_paced : (bodies : List (List ℕ)) → paced 1 0 bodies ≡ bodies
unfolding paced
each_paced [] = refl
each_paced (body ∷ bodies) = ap (λ l. body ∷ l) (each_paced bodies)

module _ {W C : Type 0} (body_of : BodyOf W) (step : EventStep W C) (noted : Noting W C) where
  -- saves of the ticks of a first part of a play
  first_saves : (s : MachineState W C) (lines : List ScriptLine) (stood : Option (List ℕ)) (ms rest : List Move) (saves : List (List ℕ))
      → play_of step s lines ≡ ms ++ rest
      → saves ≡ saves_in stood (bodies_at_ticks body_of step s ms) → AreFirst saves (saves_of_script body_of step s lines stood)
  unfolding saves_of_script
  first_saves s lines stood ms rest saves play are =
      let ticks = bodies_at_ticks body_of step s ms in
      let behind = bodies_at_ticks body_of step (state_after step s ms) rest ++ body_of (state_after step s (ms ++ rest)).world ∷ [] in
      let more = saves_in (last_of stood (saves_in stood ticks)) behind in
      record {
        more = more;
        is = ap (λ l. saves_in stood (bodies_of_run body_of step s l)) play ∙ (ap (saves_in stood) (bodies_begin body_of step ms rest s)
            ∙ (saves-append ticks behind stood ∙ ap (λ l. l ++ more) (sym are)));
      }

  whole_saves : (s : MachineState W C) (lines : List ScriptLine) (stood : Option (List ℕ)) (ms : List Move) (saves : List (List ℕ))
      → ms ≡ play_of step s lines → saves ≡ saves_in stood (bodies_of_run body_of step s ms)
      → saves ≡ saves_of_script body_of step s lines stood
  unfolding saves_of_script
  whole_saves s lines stood ms saves play are = are ∙ ap (λ l. saves_in stood (bodies_of_run body_of step s l)) play

  to_end_is : (s : MachineState W C) (ms : List Move) → bodies_to_end 1 body_of step s ms ≡ bodies_of_run body_of step s ms
  to_end_is s ms = ap (λ l. l ++ body_of (state_after step s ms).world ∷ []) (each_paced (bodies_at_ticks body_of step s ms))

  pub all_first : (saves whole : List (List ℕ)) → saves ≡ whole → AreFirst saves whole
  all_first saves whole same = record { more = []; is = sym same ∙ sym (append-nil saves) }

  -- the play of a wire that answered End
  pub play_whole : (old_serves new_serves : Standing W C → Type 0) (lines : List ScriptLine) (old new : PlayedScript) (log : List Move)
      (stood : Option (List ℕ)) (limit : ℕ) (saves : List (List ℕ)) → IsWireOf lines old new log
      → KeepsBefore step noted old_serves new_serves (bodies_to_end 1 body_of step) stood (state_of_played old).history limit
      (λ last. (state_of_played new).history ≡ end_answered last) saves
      → (x : Standing W C) → old_serves x → IsUnused x
      → IsPlay step noted new_serves x lines log × (saves ≡ saves_of_script body_of step x.running.state lines stood)
  play_whole old_serves new_serves lines old new log stood limit saves wire k x stands unused =
      let over = over_unused old_serves (opened_in old.log) x stands unused in
      let ms = k.keeps.turns.moves in
      let answered = answered_all lines old new log ms k.last wire k.keeps.turns.logged k.then_ in
      let play : ms ≡ play_of step x.running.state lines = log_is_play step x.running.state lines ms
      (keeps_turns step x ms unused (k.keeps.turns.are x over)) answered.1 in
      let log_is : log ≡ ms = wire.log_is ∙ answered.0 in
      let S : List Move → Type 0 = λ l. new_serves (standing_after_all step noted x l) in (
        record { is = log_is ∙ play; stands = subst S (sym log_is) (k.keeps.turns.stands x over).stands },
        whole_saves x.running.state lines stood ms saves play (k.keeps.are x over ∙ ap (saves_in stood) (to_end_is x.running.state ms)),
      )

  -- a script's wire never fails, and ends before so many turns
  pub no_fault : (old_serves new_serves : Standing W C → Type 0) (stood : Option (List ℕ)) (old new : PlayedScript) (limit : ℕ) (saves : List (List ℕ))
      → KeepsBefore step noted old_serves new_serves (bodies_to_end 1 body_of step) stood (state_of_played old).history limit
      (λ last. Stops (state_of_played old) (state_of_played new) last) saves → ⊥
  no_fault old_serves new_serves stood old new limit saves k = let rose = k.then_.stopped in omega (arith, rose)

  pub no_budget : (old_serves new_serves : Standing W C → Type 0) (lines : List ScriptLine) (stood : Option (List ℕ)) (old new : PlayedScript)
      (log : List Move) (limit : ℕ) (saves : List (List ℕ)) → IsWireOf lines old new log
      → limit ≡ length lines + 1 → Keeps step noted old_serves new_serves (bodies_to_end 1 body_of step) stood (state_of_played old).history
      (state_of_played new).history limit saves → ⊥
  no_budget old_serves new_serves lines stood old new log limit saves wire more k =
      never_more step noted old_serves new_serves lines old new log limit wire.first wire.kept wire.log_is wire.few more k.turns

  -- the play of a wire whose turns so far began it
  begins_play : (old_serves : Standing W C → Type 0) (lines : List ScriptLine) (old new : PlayedScript) (log later : List Move) (stood : Option (List ℕ))
      (count : ℕ) (last : WireHistory) (saves : List (List ℕ)) → IsWireOf lines old new log
      → (keeps : Keeps step noted old_serves serves_any (bodies_looked_at 1 body_of step) stood (state_of_played old).history last count saves)
      → EndsAfter (state_of_played old) (state_of_played new) (history_after last later)
      → (x : Standing W C) → old_serves x → IsUnused x → AreFirst saves (saves_of_script body_of step x.running.state lines stood)
  begins_play old_serves lines old new log later stood count last saves wire keeps ended x stands unused =
      let over = over_unused old_serves (opened_in old.log) x stands unused in
      let ms = keeps.turns.moves in
      let so_far = answered_first lines old new log ms later last wire keeps.turns.logged ended in
      let begins = log_begins_play step x.running.state lines ms (keeps_turns step x ms unused (keeps.turns.are x over)) so_far in
      first_saves x.running.state lines stood ms begins.0 saves begins.1
      (keeps.are x over ∙ ap (saves_in stood) (each_paced (bodies_at_ticks body_of step x.running.state ms)))

  -- the play of a wire whose run was ended by a save, or for want of memory
  pub play_first : (old_serves : Standing W C → Type 0) (lines : List ScriptLine) (old new : PlayedScript) (log : List Move) (stood : Option (List ℕ))
      (limit : ℕ) (saves : List (List ℕ)) → IsWireOf lines old new log → limit ≡ length lines + 1
      → BreaksOff 1 body_of step noted old_serves stood (state_of_played old) (state_of_played new) limit saves
      ⊎ StopsInSave 1 body_of step noted old_serves stood (state_of_played old) (state_of_played new) limit saves
      → (x : Standing W C) → old_serves x → IsUnused x → AreFirst saves (saves_of_script body_of step x.running.state lines stood)
  play_first old_serves lines old new log stood limit saves wire more (inl k) x stands unused =
      begins_play old_serves lines old new log k.later stood k.count k.last saves wire k.keeps k.ended x stands unused
  play_first old_serves lines old new log stood limit saves wire more (inr (inl k)) x stands unused =
      begins_play old_serves lines old new log [] stood k.count k.last saves wire k.keeps
      (none_behind (state_of_played old) (state_of_played new) k.last k.then_) x stands unused
  play_first old_serves lines old new log stood limit saves wire more (inr (inr (run.Done, k))) x stands unused =
      all_first saves (saves_of_script body_of step x.running.state lines stood) (play_whole old_serves serves_any lines old new log stood limit saves wire k
      x stands unused).1
  play_first old_serves lines old new log stood limit saves wire more (inr (inr (run.LinkFault, k))) x stands unused =
      absurd (no_fault old_serves serves_any stood old new limit saves k)
  play_first old_serves lines old new log stood limit saves wire more (inr (inr (run.Budget, k))) x stands unused =
      absurd (no_budget old_serves serves_any lines stood old new log limit saves wire more k)

-- where one of the first saves is over the limit, one of all is
pub over_first : (saves whole : List (List ℕ)) (standing : Option slots.Standing) → AreFirst saves whole → is_any_over standing saves ≡ true
    → is_any_over standing whole ≡ true
over_first saves whole standing first over =
    ap (is_any_over standing) first.is ∙ (over-append saves first.more standing ∙ ap (λ b. b || is_any_over (runs.standing_after_all standing saves)
    first.more) over)

-- what a stop leaves of the first saves, it leaves of all
pub left_first : {D : Type 0} (contents : D → Option (List ℕ)) (moment : D → ℕ) (left_since : D → ℕ → List ℕ → Type 0) (old new : D)
    (standing : Option slots.Standing) (saves whole : List (List ℕ)) → AreFirst saves whole
    → LeavesEach contents moment left_since old new standing saves → LeavesEach contents moment left_since old new standing whole
left_first contents moment left_since old new standing saves whole first left =
    let P : List (List ℕ) → Type 0 = λ l. LeavesEach contents moment left_since old new standing l in
    subst P (sym first.is) (left_more contents moment left_since old new new standing saves first.more left refl)

module _ {W C D : Type 0} (body_of : BodyOf W) (step : EventStep W C) (noted : Noting W C) (contents : D → Option (List ℕ)) (may_leave : D → List ℕ → Type 0)
    (moment : D → ℕ) (left_since : D → ℕ → List ℕ → Type 0) where
  abbrev whole_of : Standing W C → List ScriptLine → Option (List ℕ) → List (List ℕ)
  whole_of x lines stood = saves_of_script body_of step x.running.state lines stood

  -- all was played and saved
  pub done_whole : (count : ℕ) (old_serves new_serves : Standing W C → Type 0) (lines : List ScriptLine) (old new : PlayedScript) (log : List Move)
      (stood : Option (List ℕ)) (limit : ℕ) (standing : Option slots.Standing) (old_disk new_disk : D) (Marked : Type 0) → IsWireOf lines old new log
      → AfterKeep (TookTurns (keep.Done count) 1 body_of step noted old_serves new_serves stood (state_of_played old) (state_of_played new) limit)
      (LeavesEach contents moment left_since old_disk new_disk standing) (CountsSaves (keep.Done count) standing)
      (StandsAtEnd (keep.Done count) contents may_leave old_disk new_disk standing)
      → (x : Standing W C) → old_serves x → IsUnused x → (log ≡ play_of step x.running.state lines → Marked)
      → IsWholePlay step noted new_serves x lines log count standing (whole_of x lines stood) (StandsAfter contents may_leave old_disk new_disk standing)
      Marked
  done_whole count old_serves new_serves lines old new log stood limit standing old_disk new_disk Marked wire kept x stands unused marked =
      let played = play_whole body_of step noted old_serves new_serves lines old new log stood limit kept.saves wire kept.took x stands unused in
      let S : List (List ℕ) → Type 0 = λ saves. StandsAfter contents may_leave old_disk new_disk standing saves in
      record {
        play = played.0;
        counted = kept.counted.0 ∙ ap length played.1;
        within = ap (is_any_over standing) (sym played.1) ∙ kept.counted.1;
        stands = subst S played.1 kept.stands;
        marked = marked played.0.is;
      }

  pub done_left : (old_serves new_serves : Standing W C → Type 0) (lines : List ScriptLine) (old new : PlayedScript) (log : List Move)
      (stood : Option (List ℕ)) (limit count : ℕ) (standing : Option slots.Standing) (old_disk new_disk : D) (Counted Stands : List (List ℕ) → Type 0)
      → IsWireOf lines old new log
      → AfterKeep (TookTurns (keep.Done count) 1 body_of step noted old_serves new_serves stood (state_of_played old) (state_of_played new) limit)
      (LeavesEach contents moment left_since old_disk new_disk standing) Counted Stands
      → (x : Standing W C) → old_serves x → IsUnused x → LeavesEach contents moment left_since old_disk new_disk standing (whole_of x lines stood)
  done_left old_serves new_serves lines old new log stood limit count standing old_disk new_disk Counted Stands wire kept x stands unused =
      let played = play_whole body_of step noted old_serves new_serves lines old new log stood limit kept.saves wire kept.took x stands unused in
      let P : List (List ℕ) → Type 0 = λ saves. LeavesEach contents moment left_since old_disk new_disk standing saves in
      subst P played.1 kept.left

  -- a save ended the run, or want of memory
  pub stop_left : (old_serves : Standing W C → Type 0) (lines : List ScriptLine) (old new : PlayedScript) (log : List Move) (stood : Option (List ℕ))
      (limit : ℕ) (standing : Option slots.Standing) (old_disk new_disk : D) (saves : List (List ℕ)) → IsWireOf lines old new log → limit ≡ length lines + 1
      → BreaksOff 1 body_of step noted old_serves stood (state_of_played old) (state_of_played new) limit saves
      ⊎ StopsInSave 1 body_of step noted old_serves stood (state_of_played old) (state_of_played new) limit saves
      → LeavesEach contents moment left_since old_disk new_disk standing saves
      → (x : Standing W C) → old_serves x → IsUnused x → LeavesEach contents moment left_since old_disk new_disk standing (whole_of x lines stood)
  stop_left old_serves lines old new log stood limit standing old_disk new_disk saves wire more took left x stands unused =
      left_first contents moment left_since old_disk new_disk standing saves (whole_of x lines stood)
      (play_first body_of step noted old_serves lines old new log stood limit saves wire more took x stands unused) left

  pub stop_over : (old_serves : Standing W C → Type 0) (lines : List ScriptLine) (old new : PlayedScript) (log : List Move) (stood : Option (List ℕ))
      (limit : ℕ) (standing : Option slots.Standing) (saves : List (List ℕ)) → IsWireOf lines old new log → limit ≡ length lines + 1
      → StopsInSave 1 body_of step noted old_serves stood (state_of_played old) (state_of_played new) limit saves → is_any_over standing saves ≡ true
      → (x : Standing W C) → old_serves x → IsUnused x → is_any_over standing (whole_of x lines stood) ≡ true
  stop_over old_serves lines old new log stood limit standing saves wire more took over x stands unused =
      over_first saves (whole_of x lines stood) standing (play_first body_of step noted old_serves lines old new log stood limit saves wire
      more (inr took) x stands unused) over

  -- a script's wire never fails, and ends before so many turns
  pub never_fails : (n : ℕ) (old_serves new_serves : Standing W C → Type 0) (old new : PlayedScript) (stood : Option (List ℕ)) (limit : ℕ)
      (Left Counted Stands : List (List ℕ) → Type 0)
      → AfterKeep (TookTurns (keep.LinkFault n) 1 body_of step noted old_serves new_serves stood (state_of_played old) (state_of_played new) limit) Left
      Counted Stands → ⊥
  never_fails n old_serves new_serves old new stood limit Left Counted Stands kept = no_fault body_of step noted old_serves new_serves stood old new limit
      kept.saves kept.took

  pub never_spent : (n : ℕ) (old_serves new_serves : Standing W C → Type 0) (lines : List ScriptLine) (old new : PlayedScript) (log : List Move)
      (stood : Option (List ℕ)) (limit : ℕ) (Left Counted Stands : List (List ℕ) → Type 0) → IsWireOf lines old new log → limit ≡ length lines + 1
      → AfterKeep (TookTurns (keep.Budget n) 1 body_of step noted old_serves new_serves stood (state_of_played old) (state_of_played new) limit) Left
      Counted Stands → ⊥
  never_spent n old_serves new_serves lines old new log stood limit Left Counted Stands wire more kept = no_budget body_of step noted old_serves new_serves
      lines stood old new log limit kept.saves wire more kept.took

-- some standing is served over a wire that opened no number
pub some_over : {W C : Type 0} (serves : Standing W C → Type 0) (opened : List ℕ) → ServesUnused serves → StandsForSome (StandsOver serves opened)
some_over serves opened some = record { standing = some.standing; stands = over_unused serves opened some.standing some.stands some.unused }

-- nothing was done over an open store
pub left_none : {D : Type 0} (contents : D → Option (List ℕ)) (may_leave : D → List ℕ → Type 0) (moment : D → ℕ) (left_since : D → ℕ → List ℕ → Type 0)
    (disk : D) (store : StoreState) (saves : List (List ℕ)) → ((c : List ℕ) → left_since disk (moment disk) c → may_leave disk c)
    → IsReady contents may_leave disk store → store.shut ≡ false → LeavesEach contents moment left_since disk disk store.standing saves
left_none contents may_leave moment left_since disk store saves only ready open_ = λ file told.
    let here = ready file told open_ in
    started moment left_since disk (λ c. IsOneOf store.standing saves (standing_of c))
    (λ c left. first_standing saves store.standing (standing_of c) (ap standing_of (here.0 c (only c left)) ∙ here.1))

-- marks of a script's wire: what it had logged
marks_logged : (bodies : List Move → List (List ℕ)) (Holds : List (List ℕ) → Option (List ℕ) → Type 0) (lines : List ScriptLine) (old : PlayedScript)
    (moves : List Move) (count : ℕ) (looks : List Mark) → old ≡ unplayed lines
    → AreMarks (MarksLook bodies (IsBehind (state_of_played old).history) Holds moves) count looks
    → AreMarks (MarksLook bodies HasLogged Holds moves) count looks
marks_logged bodies Holds lines old moves count [] first are = tt
marks_logged bodies Holds lines old moves count (look ∷ looks) first are =
    let is = are.0 in (
      record {
        before = is.before;
        turn = is.turn;
        later = is.later;
        are = is.are;
        one = is.one;
        so_far = is.so_far;
        due = is.due;
        wire = log_there lines old look.wire (is.before ++ is.turn) first is.wire;
        holds = is.holds;
      },
      marks_logged bodies Holds lines old moves (count + 1) looks first are.1,
    )

-- those of a play whose log is the script's
pub script_marked : {W C : Type 0} (body_of : BodyOf W) (step : EventStep W C) (s : MachineState W C) (lines : List ScriptLine) (old new : PlayedScript)
    (log : List Move) (told : Option (List ℕ)) (standing : Option slots.Standing) (Marked : List Mark → Type 0) (marks : List Mark)
    → IsWireOf lines old new log → log ≡ play_of step s lines
    → MarksMore Marked marks (MarksRun true 1 body_of step s (HoldsSaves told standing) (state_of_played old).history
    (state_of_played new).history)
    → MarksMore Marked marks (MarksScript body_of step s lines told standing)
script_marked body_of step s lines old new log told standing Marked marks wire play m =
    let r = m.are in
    let bodies = bodies_looked_at 1 body_of step s in
    let Holds : List (List ℕ) → Option (List ℕ) → Type 0 = HoldsSaves told standing in
    let last = history_after (state_of_played old).history r.moves in
    let here = log_there lines old last r.moves wire.first refl in
    let all : new.log ≡ r.moves ++ r.later = same_some new.log (r.moves ++ r.later)
    (ap (λ (h : WireHistory). h.log) r.ended ∙ log-after r.later last r.moves here) in
    let whole : new.log ≡ r.moves = all ∙ (ap (λ l. r.moves ++ l) r.all.whole ∙ append-nil r.moves) in
    let P : List Move → Type 0 = λ l. MarksPlay bodies (bodies_to_end 1 body_of step s l) Holds l m.more in
    record {
      more = m.more;
      told = m.told;
      are = subst P (sym whole ∙ (sym wire.log_is ∙ play)) (record {
        looks = r.looks;
        each = r.each;
        are = marks_logged bodies Holds lines old r.moves 0 r.looks wire.first r.are;
        last = record {
          whole = refl;
          last = r.all.last;
          are = r.all.are;
          wire = ap (λ (h : WireHistory). h.log) r.all.wire ∙ ap (λ l. Some l) whole;
          holds = r.all.holds;
        };
      });
    }
