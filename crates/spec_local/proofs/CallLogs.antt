-- The log that a call leaves on a link to a machine leads through the scenes of the local call.
use Rattle.std.proofs.Common.{◌≡◌, ◌≢◌, ℕ, zero, suc, ◌+◌, ◌<◌, ◌==◌, ◌⊎◌, inl, inr, List, [], ◌∷◌, length}
use Rattle.std.proofs.Common.{drop, Bool, true, false, refl, sym, ap, ◌∙◌, subst, arith}
use Rattle.std.specs.Prelude.{is_some, Option, Some, None, ◌||◌}
use Rattle.std.proofs.lemmas.Bool.{cond-true}
use Rattle.ads_outside.specs.declared.event.Event.TheVariants as event
use Rattle.ads_outside.specs.declared.link_move.LinkMove.{LinkMove}
use Rattle.ads_outside.specs.declared.link_move.LinkMove.TheVariants as link
use Rattle.spec_machine.specs.Connection.{connection_of}
use Rattle.spec_machine.specs.MachineState.{MachineState}
use Rattle.spec_machine.specs.Moves.{EventStep}
use Rattle.spec_machine.proofs.Find.{test_same}
use Rattle.spec_formats.specs.Header.{AmsAddress}
use Rattle.spec_client.specs.Calls.{Call}
use Rattle.spec_client.specs.Runner.{turns}
use Rattle.spec_client.specs.Conversation.{LinkAnswer, Bytes, Quiet, Closed, Sent, LoopEnd, Budget}
use Rattle.spec_client.specs.Conversation.{Conversation, MAX_ANSWERS, MAX_QUIET, moment_of, conversation_begun}
use Rattle.spec_client.specs.Conversation.{conversation_after, conversation_after_turns, conversation_going_on}
use Rattle.spec_client.specs.Conversation.{with_answer, unless_ended, end_by_answer, end_by_count}
use Rattle.spec_client.specs.CallOver.{conversation_after_all, call_over}
use Rattle.spec_client.specs.CallLog.{event_of, sent_behind, log_up_to}
use Rattle.spec_local.specs.Laws.{CallsAreLocal}
use Rattle.spec_local.specs.LocalCall.{Cutting, LocalScene, local_answer, scene_after, scene_after_answers, scene_behind, machine_after_pieces}
use Rattle.spec_local.specs.LinkLog.{answer_of, most_of, answered_like, without_connection, machine_after_link_move, IsLogOf, cutting_of}
use Rattle.spec_local.proofs.LinkLogs.{behind_sends}
use Rattle.spec_local.proofs.Scenes.{all_over, going_on, one_more, scene_stays, scene_goes_on, CutsAs, cuts_as}

-- a call goes on, or it is over
end_cases : (o : Option LoopEnd) → (o ≡ None) ⊎ ((e : LoopEnd) × (o ≡ Some e))
end_cases None = inl refl
end_cases (Some e) = inr (e, refl)

none_some : (o : Option LoopEnd) (e : LoopEnd) → o ≡ None → o ≡ Some e → ⊥
none_some o e none some = cc

there_and_back : (a : LinkAnswer) → answer_of (event_of a) ≡ a
there_and_back (Bytes bytes now) = refl
there_and_back (Quiet now) = refl
there_and_back (Closed now) = refl

or_true : (b : Bool) → (b || true) ≡ true
or_true true = refl
or_true false = refl

-- a call that goes on has not heard its last answer
counted_out : (d : Conversation) → end_by_count d ≡ None → d.answers ≢ MAX_ANSWERS + 1
counted_out d none last =
    let test : ((d.quiet == MAX_QUIET) || (d.answers == MAX_ANSWERS + 1)) ≡ true =
    ap (λ b. (d.quiet == MAX_QUIET) || b) (test_same d.answers (MAX_ANSWERS + 1) last) ∙ or_true (d.quiet == MAX_QUIET) in
    none_some (end_by_count d) Budget none (cond-true _ _ _ test)

answered_out : (d : Conversation) (a : LinkAnswer) → end_by_answer d a ≡ None → d.answers ≢ MAX_ANSWERS + 1
answered_out d (Bytes bytes now) none = counted_out d none
answered_out d (Quiet now) none = counted_out d none
answered_out d (Closed now) none = absurd cc

unless_out : (d : Conversation) (a : LinkAnswer) (end : Option LoopEnd) → d.end ≡ end
    → (unless_ended d a end).end ≡ None → (unless_ended d a end).answers ≢ MAX_ANSWERS + 1
unless_out d a None is none = answered_out d a none
unless_out d a (Some e) is none = absurd (none_some d.end e none is)

not_last : (c : Conversation) (a : LinkAnswer) → c.end ≡ None → (conversation_after c a).end ≡ None → (conversation_after c a).answers ≢ MAX_ANSWERS + 1
unfolding conversation_going_on
not_last c a on none =
    let P : Conversation → Type 0 = λ d. d.end ≡ None → d.answers ≢ MAX_ANSWERS + 1 in
    let d = conversation_after_turns (with_answer c a) (turns (moment_of a) (with_answer c a).runner) in
    subst P (sym (going_on c a on)) (unless_out d a d.end refl) none

-- the scene of a call and a machine to which this is still to be sent
abbrev scene_of : {W C : Type 0} → EventStep W C → MachineState W C → List Sent → Conversation → LocalScene W C
scene_of step s pending c = record { machine = machine_after_pieces step s pending; conversation = c }

-- the machine behind an answer that it gives
abbrev machine_behind : {W C : Type 0} → EventStep W C → MachineState W C → List Sent → LinkAnswer → MachineState W C
machine_behind step s pending a = machine_after_link_move step (machine_after_pieces step s pending) (link.Came (event_of a))

scene_step : {W C : Type 0} (step : EventStep W C) (cutting : Cutting) (s : MachineState W C) (pending : List Sent) (c : Conversation) (a : LinkAnswer) (n : ℕ)
    → c.answers ≡ n → cutting n ≡ most_of a
    → (answered_like step (machine_after_pieces step s pending) (answer_of (event_of a))).answer ≡ answer_of (event_of a)
    → scene_behind step cutting (scene_of step s pending c)
    ≡ scene_of step (machine_behind step s pending a) (sent_behind c a) (conversation_after c a)
unfolding scene_after machine_after_link_move
scene_step {W} {C} step cutting s pending c a n at cut is =
    let t = machine_after_pieces step s pending in
    let b = answer_of (event_of a) in
    let r = answered_like step t b in
    let same = there_and_back a in
    let scene : LinkAnswer → LocalScene W C = λ d. scene_of step r.machine (drop (length c.sent) (conversation_after c d).sent) (conversation_after c d) in
    ap (λ m. scene_after step c (local_answer step m t)) (ap cutting at ∙ cut ∙ ap most_of (sym same)) ∙ ap scene (is ∙ same)

-- so far as the answers came
walk : {W C : Type 0} (step : EventStep W C) (cutting : Cutting) (answers : List LinkAnswer)
    (s : MachineState W C) (pending : List Sent) (c : Conversation) (n : ℕ)
    → c.answers ≡ n → IsLogOf step s (log_up_to pending c answers) → CutsAs cutting n answers
    → (scene_after_answers step cutting (length answers) (scene_of step s pending c)).conversation ≡ conversation_after_all c answers
unfolding scene_after_answers conversation_after_all IsLogOf log_up_to
walk step cutting [] s pending c n at logs cuts = refl
walk {W} {C} step cutting (a ∷ answers) s pending c n at logs cuts =
    let l = behind_sends step s pending _ logs in
    let conv : LocalScene W C → Conversation = λ x. x.conversation in
    elim (end_cases c.end) [
      | inl on ↦
          ap conv (scene_goes_on step cutting (length answers) (scene_of step s pending c) on
          ∙ ap (scene_after_answers step cutting (length answers)) (scene_step step cutting s pending c a n at cuts.0 l.0))
          ∙ walk step cutting answers (machine_behind step s pending a) (sent_behind c a) (conversation_after c a) (n + 1)
          (one_more c a on ∙ ap (λ m. m + 1) at) l.1 cuts.1
      | inr over ↦
          ap conv (scene_stays step cutting (suc (length answers)) (scene_of step s pending c) over.0 over.1)
          ∙ sym (all_over c over.0 (a ∷ answers) over.1)
    ]

-- the whole of a call that is over, within so many answers
abbrev Fits : Conversation → ℕ → ℕ → Type 0
Fits c n m = c.end ≡ None → (0 < m) × (n + m ≡ MAX_ANSWERS + 1)

fits_less : (c : Conversation) (a : LinkAnswer) (n m : ℕ) → c.answers ≡ n → c.end ≡ None → Fits c n (suc m) → Fits (conversation_after c a) (n + 1) m
fits_less c a n m at on fits none =
    let sum = (fits on).1 in
    let differs = not_last c a on none in
    let count = one_more c a on in
    let other : n + 1 ≢ MAX_ANSWERS + 1 = λ e. differs (count ∙ ap (λ k. k + 1) at ∙ e) in
    (omega (arith, sum, other), omega (arith, sum))

whole : {W C : Type 0} (step : EventStep W C) (cutting : Cutting) (m : ℕ) (answers : List LinkAnswer)
    (s : MachineState W C) (pending : List Sent) (c : Conversation) (n : ℕ) (e : LoopEnd)
    → c.answers ≡ n → Fits c n m → IsLogOf step s (log_up_to pending c answers) → CutsAs cutting n answers → (conversation_after_all c answers).end ≡ Some e
    → (scene_after_answers step cutting m (scene_of step s pending c)).conversation ≡ conversation_after_all c answers
unfolding conversation_after_all IsLogOf log_up_to
whole {W} {C} step cutting m [] s pending c n e at fits logs cuts over =
    let conv : LocalScene W C → Conversation = λ x. x.conversation in
    ap conv (scene_stays step cutting m (scene_of step s pending c) e over)
whole {W} {C} step cutting zero (a ∷ answers) s pending c n e at fits logs cuts over =
    let conv : LocalScene W C → Conversation = λ x. x.conversation in
    elim (end_cases c.end) [
      | inl on ↦ absurd (let some = (fits on).0 in omega (arith, some))
      | inr over_ ↦
          ap conv (scene_stays step cutting zero (scene_of step s pending c) over_.0 over_.1)
          ∙ sym (all_over c over_.0 (a ∷ answers) over_.1)
    ]
whole {W} {C} step cutting (suc m) (a ∷ answers) s pending c n e at fits logs cuts over =
    let l = behind_sends step s pending _ logs in
    let conv : LocalScene W C → Conversation = λ x. x.conversation in
    elim (end_cases c.end) [
      | inl on ↦
          ap conv (scene_goes_on step cutting m (scene_of step s pending c) on
          ∙ ap (scene_after_answers step cutting m) (scene_step step cutting s pending c a n at cuts.0 l.0))
          ∙ whole step cutting m answers (machine_behind step s pending a) (sent_behind c a) (conversation_after c a) (n + 1) e
          (one_more c a on ∙ ap (λ k. k + 1) at) (fits_less c a n m at on fits) l.1 cuts.1 over
      | inr over_ ↦
          ap conv (scene_stays step cutting (suc m) (scene_of step s pending c) over_.0 over_.1)
          ∙ sym (all_over c over_.0 (a ∷ answers) over_.1)
    ]

some_end : (o : Option LoopEnd) → is_some o ≡ true → (e : LoopEnd) × (o ≡ Some e)
some_end None is = absurd cc
some_end (Some e) is = (e, refl)

-- connection 1 is opened where it is not there
opened : {W C : Type 0} (step : EventStep W C) (s : MachineState W C) → connection_of 1 s.connections ≡ None
    → step (without_connection (connection_of 1 s.connections) s) (event.Opened 1) ≡ step s (event.Opened 1)
opened step s none = ap (λ o. step (without_connection o s) (event.Opened 1)) none

begun_answers : (me peer : AmsAddress) (call : Call) (now : ℕ) → (conversation_begun me peer call now).answers ≡ 1
unfolding conversation_after_turns
begun_answers me peer call now = refl

-- the log behind the opening
abbrev begun_log : AmsAddress → AmsAddress → Call → ℕ → List LinkAnswer → List LinkMove
begun_log me peer call now answers =
    let c = conversation_begun me peer call now in log_up_to c.sent c answers

fits_begun : (c : Conversation) → Fits c 1 MAX_ANSWERS
fits_begun c on = (omega arith, omega arith)

pub calls_are_local : {W C : Type 0} → CallsAreLocal W C
unfolding IsLogOf machine_after_link_move
calls_are_local {W} {C} step s me peer call to now answers none logs =
    let moment : now ≡ s.moment = logs.0 in
    let opening = subst (λ (x : MachineState W C). IsLogOf step x (begun_log me peer call now answers)) (opened step s none) logs.1 in
    let log = subst (λ t. IsLogOf step (step s (event.Opened 1)) (begun_log me peer call t answers)) moment opening in
    let c = conversation_begun me peer call s.moment in
    let cuts = cuts_as 1 answers in
    let one = begun_answers me peer call s.moment in
    record {
      moment = moment;
      so_far = walk step (cutting_of answers) answers (step s (event.Opened 1)) c.sent c 1 one log cuts
          ∙ ap (λ t. call_over me peer call t answers) (sym moment);
      over = λ is.
          let end = some_end (call_over me peer call now answers).end is in
          let same = ap (λ t. (call_over me peer call t answers).end) (sym moment) in
          whole step (cutting_of answers) MAX_ANSWERS answers (step s (event.Opened 1)) c.sent c 1 end.0 one (fits_begun c) log cuts (same ∙ end.1)
          ∙ ap (λ t. call_over me peer call t answers) (sym moment);
    }
