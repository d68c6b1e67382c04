-- Answers one after another.
use Rattle.std.proofs.Common.{◌≡◌, ℕ, ◌+◌, ◌≤◌, ◌<◌, List, [], ◌∷◌, ◌++◌, Option, Some, None, refl, sym, ap, ◌∙◌, subst, inl, inr, append_assoc, arith}
use Rattle.std.proofs.lemmas.Bool.{ne_eqb}
use Rattle.std.proofs.lemmas.List.{append-nil}
use Rattle.std.specs.Prelude.{Result, Ok, Err, ◌==◌, if◌then◌else◌}
use Rattle.ads_base.specs.declared.no_memory.NoMemory.{NoMemory}
use Rattle.ads_outside.specs.declared.link_move.LinkMove.{LinkMove}
use Rattle.ads_outside.specs.LinkState.{LinkState}
use Rattle.ads_outside.specs.Puts.{Appends}
use Rattle.spec_client.specs.Stages.{entries_taken}
use Rattle.spec_client.specs.CallOver.{conversation_after_all}
use Rattle.spec_client.specs.Conversation as conversation
use Rattle.spec_client.specs.Conversation.{LinkAnswer, Conversation, MAX_ANSWERS, conversation_after}
use Rattle.spec_client.specs.CallLog.{sent_moves, sent_last, log_behind, log_up_to}
use Rattle.spec_client.specs.Runner.{CallStep}
use Rattle.client_calls.specs.Kept.{RunnerKept}
use Rattle.client_calls.specs.Represents.{StandsFor}
use Rattle.client_loop.specs.declared.loop_end.LoopEnd.TheVariants as end
use Rattle.client_loop.specs.declared.record_end.RecordEnd.{RecordEnd}
use Rattle.client_loop.specs.declared.record_end.RecordEnd.TheVariants as record_end
use Rattle.client_loop.specs.Due.{AtSend, AtPrint, Anywhere}
use Rattle.client_loop.specs.LinkAfter.{history_after_answer, history_after_answers, history_left}
use Rattle.client_loop.specs.Outlets.{Outlets, IsLater, Adds, AddsPart}
use Rattle.client_loop.specs.Said.{SendsSome, SentSome}
use Rattle.client_loop.specs.Hearing.{GoesOver, StopsOver, EndsOver, end_at_last, IsAt, Hears, HearsAll, IsBegun}
use Rattle.client_loop.proofs.LogLemmas.{over_append, history_append, awaited_append, log_append, log_up_to_append, last_append, log_in_two}
use Rattle.client_loop.proofs.SaidLemmas.{all_some, tells_more, tells_same}
use Rattle.client_loop.proofs.DueLemmas.{stops_behind_answers}
use Rattle.client_loop.proofs.TurnLemmas.{rose_later}

abbrev end_at : ℕ → Option conversation.LoopEnd
end_at n = if n == MAX_ANSWERS + 1 then Some conversation.Budget else None

-- no answer came yet
pub hears_none : {O : Type 0} (c : Conversation) (k : RunnerKept) (tells : O → List LinkMove → Type 0) (link : LinkState) (out : Outlets)
    → IsBegun k c → HearsAll c k 0 0 tells tells link link out out
unfolding conversation_after_all log_behind
hears_none c k tells link out b = record {
  answers = [];
  history = refl;
  awaited = tt;
  stands = b.stands;
  quiet_is = b.quiet_is;
  count_is = b.count_is;
  end_is = b.on ∙ sym (ap end_at b.count_is);
  text = λ base before. before;
  rows = λ base before. before;
  told = λ o log told. tells_same tells o log told;
}

before_last : (n : ℕ) → n < MAX_ANSWERS → end_at (n + 1) ≡ None
before_last n few = ap (λ b. if b then Some conversation.Budget else None) (ne_eqb (n + 1) (MAX_ANSWERS + 1) (λ e. omega arith))

-- fewer answers than are waited for came
pub is_at : {O : Type 0} (c : Conversation) (k : RunnerKept) (quiet count : ℕ)
    (first second : O → List LinkMove → Type 0) (link mid_link : LinkState) (out mid : Outlets)
    → count < MAX_ANSWERS → (h : HearsAll c k quiet count first second link mid_link out mid) → IsAt k quiet (conversation_after_all c h.answers)
is_at c k quiet count first second link mid_link out mid few h = record {
  on = h.end_is ∙ ap end_at h.count_is ∙ before_last count few;
  stands = h.stands;
  quiet_is = h.quiet_is;
}

-- one answer more
pub hears_more : {O : Type 0} (c : Conversation) (k new : RunnerKept) (quiet more count : ℕ)
    (first second third : O → List LinkMove → Type 0) (link mid_link new_link : LinkState) (out mid new_out : Outlets)
    → count < MAX_ANSWERS → HearsAll c k quiet count first second link mid_link out mid
    → ((x : Conversation) → IsAt k quiet x → Hears x new more second third mid_link new_link mid new_out)
    → HearsAll c new more (count + 1) first third link new_link out new_out
unfolding conversation_after_all
hears_more c k new quiet more count first second third link mid_link new_link out mid new_out few h round =
    let x = conversation_after_all c h.answers in
    let at = is_at c k quiet count first second link mid_link out mid few h in
    let r = round x at in
    let a = r.answer in
    let over : conversation_after_all c (h.answers ++ a ∷ []) ≡ conversation_after x a = over_append c h.answers (a ∷ []) in
    let back = sym over in
    record {
      answers = h.answers ++ a ∷ [];
      history = r.history ∙ ap (λ y. history_after_answer y a) h.history ∙ sym (history_append link.history h.answers (a ∷ []));
      awaited = awaited_append c h.answers (a ∷ []) h.awaited (at.on, tt);
      stands = subst (λ (y : Conversation). StandsFor new y.runner) back r.stands;
      quiet_is = ap (λ (y : Conversation). y.quiet) over ∙ r.quiet_is;
      count_is = ap (λ (y : Conversation). y.answers) over ∙ r.count ∙ ap (λ n. n + 1) h.count_is;
      end_is = subst (λ (y : Conversation). y.end ≡ end_at_last y) back r.end_is;
      text = λ base before. subst (λ (y : Conversation). Appends base new_out.sink.held y.text) back (r.text base (h.text base before));
      rows = λ base before. subst (λ (y : Conversation). Adds base new_out.keeper.rows y.kept) back (r.rows base (h.rows base before));
      told = λ o log told.
          subst (λ ms. third o (log ++ ms)) (sym (log_append [] c h.answers (a ∷ [])))
          (tells_more third o log (log_behind [] c h.answers) (log_behind [] x (a ∷ [])) (r.told o (log ++ log_behind [] c h.answers) (h.told o log told)));
    }

-- and then it ends so
over_behind : {O : Type 0} (ended : Option conversation.LoopEnd) (c : Conversation) (k new : RunnerKept) (quiet count : ℕ)
    (first second third : O → List LinkMove → Type 0) (link mid_link new_link : LinkState) (out mid new_out : Outlets)
    → (h : HearsAll c k quiet count first second link mid_link out mid)
    → GoesOver (conversation_after_all c h.answers) new ended second third mid_link new_link mid new_out
    → GoesOver c new ended first third link new_link out new_out
over_behind ended c k new quiet count first second third link mid_link new_link out mid new_out h g =
    let x = conversation_after_all c h.answers in
    let over = over_append c h.answers g.answers in
    record {
      answers = h.answers ++ g.answers;
      history =
          g.history ∙ ap (λ y. history_left ended (history_after_answers y g.answers)) h.history
          ∙ ap (history_left ended) (sym (history_append link.history h.answers g.answers));
      awaited = awaited_append c h.answers g.answers h.awaited g.awaited;
      end_is = ap (λ (y : Conversation). y.end) over ∙ g.end_is;
      entries = g.entries ∙ ap (λ (y : Conversation). entries_taken y.runner.stage) (sym over);
      text = λ base before. subst (λ (y : Conversation). Appends base new_out.sink.held y.text) (sym over) (g.text base (h.text base before));
      rows = λ base before. subst (λ (y : Conversation). Adds base new_out.keeper.rows y.kept) (sym over) (g.rows base (h.rows base before));
      told = λ o log told.
          subst (λ ms. third o (log ++ ms)) (sym (log_append [] c h.answers g.answers))
          (tells_more third o log (log_behind [] c h.answers) (log_behind [] x g.answers) (g.told o (log ++ log_behind [] c h.answers) (h.told o log told)));
    }

told_without : {O : Type 0} (tells : O → List LinkMove → Type 0) (o : O) (log moves : List LinkMove) → tells o (log ++ moves) → SendsSome [] moves → tells o log
told_without tells o log [] told some = subst (tells o) (append-nil log) told
told_without tells o log (m ∷ ms) told some = absurd some

-- what is told where nothing is left to be sent
pub told_whole : {O : Type 0} (tells : O → List LinkMove → Type 0) (o : O) (log : List LinkMove) (s : SentSome [] tells o log) → tells o log
told_whole tells o log s = told_without tells o log s.moves s.told s.some

stops_with : {O : Type 0} (more : List LinkAnswer) (c : Conversation)
    (front : List LinkAnswer) (tells : O → List LinkMove → Type 0) (o : O) (log : List LinkMove)
    → SentSome (sent_last [] (conversation_after_all c front) more) tells o (log ++ log_behind [] c front ++ log_up_to [] (conversation_after_all c front) more)
    → SentSome (sent_last [] c (front ++ more)) tells o (log ++ log_up_to [] c (front ++ more))
unfolding log_up_to sent_last
stops_with [] c front tells o log s =
    let whole : tells o (log ++ log_behind [] c front) =
    subst (tells o) (append-nil (log ++ log_behind [] c front)) (told_whole tells o (log ++ log_behind [] c front ++ []) s) in
    let two : tells o (log ++ (log_up_to [] c front ++ sent_moves (sent_last [] c front))) = subst (λ ms. tells o (log ++ ms)) (log_in_two [] c front) whole in
    let here : SentSome (sent_last [] c front) tells o (log ++ log_up_to [] c front) = record {
      moves = sent_moves (sent_last [] c front);
      told = subst (tells o) (sym (append_assoc log (log_up_to [] c front) (sent_moves (sent_last [] c front)))) two;
      some = all_some (sent_last [] c front);
    } in
    subst (λ answers. SentSome (sent_last [] c answers) tells o (log ++ log_up_to [] c answers)) (sym (append-nil front)) here
stops_with (b ∷ more) c front tells o log s =
    let x = conversation_after_all c front in
    subst (λ sent. SentSome sent tells o (log ++ log_up_to [] c (front ++ b ∷ more))) (sym (last_append [] c front b more))
    (subst (λ ms. SentSome (sent_last [] x (b ∷ more)) tells o (log ++ ms)) (sym (log_up_to_append [] c front b more))
    (subst (λ ms. SentSome (sent_last [] x (b ∷ more)) tells o ms) (append_assoc log (log_behind [] c front) (log_up_to [] x (b ∷ more))) s))

stops_behind : {O : Type 0} (IsStop : List CallStep → Type 0) (c : Conversation) (k : RunnerKept) (quiet count : ℕ)
    (first second third : O → List LinkMove → Type 0) (link mid_link new_link : LinkState) (out mid new_out : Outlets)
    → (h : HearsAll c k quiet count first second link mid_link out mid)
    → StopsOver IsStop (conversation_after_all c h.answers) second third mid_link new_link mid new_out
    → StopsOver IsStop c first third link new_link out new_out
stops_behind IsStop c k quiet count first second third link mid_link new_link out mid new_out h g =
    let over = over_append c h.answers g.answers in
    record {
      answers = h.answers ++ g.answers;
      history = g.history ∙ ap (λ y. history_after_answers y g.answers) h.history ∙ sym (history_append link.history h.answers g.answers);
      awaited = awaited_append c h.answers g.answers h.awaited g.awaited;
      text = λ base before.
          stops_behind_answers IsStop g.answers c h.answers base new_out.sink.held h.awaited (g.text base (h.text base before));
      rows = λ base before. subst (λ (y : Conversation). AddsPart base new_out.keeper.rows y.kept) (sym over) (g.rows base (h.rows base before));
      told = λ o log told. stops_with g.answers c h.answers third o log (g.told o (log ++ log_behind [] c h.answers) (h.told o log told));
    }

pub ends_behind : {O : Type 0} (result : Result RecordEnd NoMemory) (c : Conversation) (k new : RunnerKept) (quiet count : ℕ)
    (first second third : O → List LinkMove → Type 0) (link mid_link new_link : LinkState) (out mid new_out : Outlets)
    → link.faults ≤ mid_link.faults → IsLater out mid → count < MAX_ANSWERS → HearsAll c k quiet count first second link mid_link out mid
    → ((x : Conversation) → IsAt k quiet x → EndsOver result x new second third mid_link new_link mid new_out)
    → EndsOver result c new first third link new_link out new_out
ends_behind (Ok (record_end.Loop (end.Call e))) c k new quiet count first second third link mid_link new_link out mid new_out linked outed few h ends =
    over_behind _ c k new quiet count first second third link mid_link new_link out mid new_out h
    (ends _ (is_at c k quiet count first second link mid_link out mid few h))
ends_behind (Ok (record_end.Loop end.Budget)) c k new quiet count first second third link mid_link new_link out mid new_out linked outed few h ends =
    over_behind _ c k new quiet count first second third link mid_link new_link out mid new_out h
    (ends _ (is_at c k quiet count first second link mid_link out mid few h))
ends_behind (Ok (record_end.Loop end.LinkFault)) c k new quiet count first second third link mid_link new_link out mid new_out linked outed few h ends =
    let e = ends _ (is_at c k quiet count first second link mid_link out mid few h) in (
      rose_later link.faults mid_link.faults new_link.faults linked e.0,
      elim e.1 [
        | inl g ↦ inl (over_behind None c k new quiet count first second third link mid_link new_link out mid new_out h g)
        | inr g ↦ inr (stops_behind AtSend c k quiet count first second third link mid_link new_link out mid new_out h g)
      ],
    )
ends_behind (Ok (record_end.Loop end.WriteFault)) c k new quiet count first second third link mid_link new_link out mid new_out linked outed few h ends =
    let e = ends _ (is_at c k quiet count first second link mid_link out mid few h) in (
      rose_later out.sink.faults mid.sink.faults new_out.sink.faults outed.sink.faults e.0,
      stops_behind AtPrint c k quiet count first second third link mid_link new_link out mid new_out h e.1,
    )
ends_behind (Ok record_end.KeeperFault) c k new quiet count first second third link mid_link new_link out mid new_out linked outed few h ends =
    let e = ends _ (is_at c k quiet count first second link mid_link out mid few h) in (
      rose_later out.keeper.faults mid.keeper.faults new_out.keeper.faults outed.keeper e.0,
      stops_behind Anywhere c k quiet count first second third link mid_link new_link out mid new_out h e.1,
    )
ends_behind (Err e) c k new quiet count first second third link mid_link new_link out mid new_out linked outed few h ends =
    stops_behind Anywhere c k quiet count first second third link mid_link new_link out mid new_out h
    (ends _ (is_at c k quiet count first second link mid_link out mid few h))

-- all answers that are waited for came
pub hears_last : {O : Type 0} (c : Conversation) (k : RunnerKept) (quiet count : ℕ)
    (first second : O → List LinkMove → Type 0) (link new_link : LinkState) (out new_out : Outlets)
    → count ≡ MAX_ANSWERS → HearsAll c k quiet count first second link new_link out new_out
    → GoesOver c k (Some conversation.Budget) first second link new_link out new_out
hears_last c k quiet count first second link new_link out new_out all h = record {
  answers = h.answers;
  history = h.history;
  awaited = h.awaited;
  end_is = h.end_is ∙ ap end_at (h.count_is ∙ ap (λ n. n + 1) all);
  entries = ap entries_taken h.stands.stage_is;
  text = h.text;
  rows = h.rows;
  told = h.told;
}
