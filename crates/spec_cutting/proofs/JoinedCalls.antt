-- A call over answers that are cut otherwise.
use Rattle.std.proofs.Common.{◌≡◌, ℕ, ◌≤◌, List, [], ◌∷◌, ◌++◌, Bool, true, false, refl, sym, ap, ◌∙◌, arith, append_assoc, inl, inr}
use Rattle.std.specs.Prelude.{◌⊎◌, Option, Some, None, ◌==◌, if◌then◌else◌}
use Rattle.std.proofs.lemmas.Bool.{eqb-true}
use Rattle.std.proofs.lemmas.List.{append-nil}
use Rattle.spec_samples.specs.Row.{Row}
use Rattle.spec_client.specs.Client.{client_after_feed, client_after_tick}
use Rattle.spec_client.specs.Stages.{Stage, Finished, FinishedRecording, entries_taken}
use Rattle.spec_client.specs.Runner.{Runner, CallStep, Send, Print, Keep, Wait, Over, Turns, is_over, joined, runner_after_feed, runner_after_tick, turns}
use Rattle.spec_client.specs.Conversation.{LinkAnswer, Bytes, Quiet, Closed, LoopEnd, Conversation}
use Rattle.spec_client.specs.Conversation.{MAX_ANSWERS, printed_by, kept_by, end_of_stage, runner_after_answer}
use Rattle.spec_client.specs.Conversation.{conversation_after}
use Rattle.spec_client.specs.CallOver.{conversation_after_all}
use Rattle.spec_client.proofs.TurnsUnfolded.{at}
use Rattle.spec_local.proofs.Scenes.{over_stays, one_more}
use Rattle.spec_cutting.specs.Joining.{before, uncut, IsSameCall, bytes_sent}
use Rattle.spec_cutting.specs.Laws.{AnswersMayBeCut}
use Rattle.spec_cutting.proofs.FedTurns.{still, turns_over, turns_fed, none_pending}
use Rattle.spec_cutting.proofs.Timely.{ticked_again}
use Rattle.spec_cutting.proofs.Views.{View, view_of, view, requests_by, ended_so, view_behind, view_unless, view_after, view_after_answer, view_end}

-- bytes end no call by themselves
no_end : (o : Option LoopEnd) (bytes : List ℕ) (now : ℕ) → ended_so o 0 (Bytes bytes now) ≡ o
no_end None bytes now = refl
no_end (Some e) bytes now = refl

requests-append : (a b : List CallStep) → requests_by (a ++ b) ≡ requests_by a ++ requests_by b
requests-append [] b = refl
requests-append (Send bytes ∷ a) b = ap (λ l. bytes ∷ l) (requests-append a b)
requests-append (Print text ∷ a) b = requests-append a b
requests-append (Keep row ∷ a) b = requests-append a b
requests-append (Wait ∷ a) b = requests-append a b
requests-append (Over end ∷ a) b = requests-append a b

printed-append : (a b : List CallStep) → printed_by (a ++ b) ≡ printed_by a ++ printed_by b
printed-append [] b = refl
printed-append (Print text ∷ a) b = ap (λ l. text ++ l) (printed-append a b) ∙ sym (append_assoc text (printed_by a) (printed_by b))
printed-append (Send bytes ∷ a) b = printed-append a b
printed-append (Wait ∷ a) b = printed-append a b
printed-append (Keep row ∷ a) b = printed-append a b
printed-append (Over end ∷ a) b = printed-append a b

kept-append : (a b : List CallStep) → kept_by (a ++ b) ≡ kept_by a ++ kept_by b
kept-append [] b = refl
kept-append (Keep row ∷ a) b = ap (λ l. row ∷ l) (kept-append a b)
kept-append (Print text ∷ a) b = kept-append a b
kept-append (Send bytes ∷ a) b = kept-append a b
kept-append (Wait ∷ a) b = kept-append a b
kept-append (Over end ∷ a) b = kept-append a b

none_some : (o : Option LoopEnd) (e : LoopEnd) → o ≡ None → o ≡ Some e → ⊥
none_some o e none some = cc

ends_over : (stage : Stage) (e : LoopEnd) → end_of_stage stage ≡ Some e → is_over stage ≡ true
ends_over (Finished end) e is = refl
ends_over (FinishedRecording end entries) e is = refl
ends_over stage e is = absurd (none_some None e refl is)

-- the view behind these turns of bytes
abbrev bytes_view : View → Turns → Option LoopEnd → View
bytes_view v ts end = view_of ts.runner 0 (v.sent ++ requests_by ts.steps) (v.text ++ printed_by ts.steps) (v.kept ++ kept_by ts.steps) end

bytes_behind : (v : View) (ts : Turns) (bytes : List ℕ) (now : ℕ) → view_behind v (Bytes bytes now) ts ≡ bytes_view v ts (end_of_stage ts.runner.stage)
bytes_behind v ts bytes now = ap (bytes_view v ts) (no_end (end_of_stage ts.runner.stage) bytes now)

-- turns behind turns that ended a call
ended_turns : (now : ℕ) (more : List ℕ) (r : Runner) → is_over r.stage ≡ true → r.pending ≡ []
    → turns now (runner_after_feed r more) ≡ still (client_after_feed r.client more) r.stage
ended_turns now more r over none =
    ap (λ os. turns now (at (client_after_feed r.client more) r.stage os)) none ∙ turns_over now (client_after_feed r.client more) r.stage over

-- where the first turns end the call
cut_ended : (v : View) (now : ℕ) (more bytes : List ℕ) (r : Runner) (e : LoopEnd) → let ts = turns now r in end_of_stage ts.runner.stage ≡ Some e
    → bytes_view v ts (Some e) ≡ view_behind v (Bytes bytes now) (joined ts.steps (turns now (runner_after_feed ts.runner more)))
cut_ended v now more bytes r e is =
    let ts = turns now r in
    let rest = ended_turns now more ts.runner (ends_over ts.runner.stage e is) (none_pending now r) in
    sym (ap (λ us. view_behind v (Bytes bytes now) (joined ts.steps us)) rest
    ∙ ap (λ o. view_of (at (client_after_feed ts.runner.client more) ts.runner.stage []) 0 (v.sent ++ requests_by (ts.steps ++ []))
    (v.text ++ printed_by (ts.steps ++ [])) (v.kept ++ kept_by (ts.steps ++ [])) (ended_so o 0 (Bytes bytes now))) is
    ∙ ap (λ steps. view_of ts.runner 0 (v.sent ++ requests_by steps) (v.text ++ printed_by steps) (v.kept ++ kept_by steps) (Some e)) (append-nil ts.steps))

-- where it goes on
cut_going_on : (v : View) (now : ℕ) (bytes other : List ℕ) (ts us : Turns)
    → view_behind (bytes_view v ts None) (Bytes other now) us ≡ view_behind v (Bytes bytes now) (joined ts.steps us)
cut_going_on v now bytes other ts us =
    bytes_behind (bytes_view v ts None) us other now
    ∙ ap (λ l. view_of us.runner 0 l ((v.text ++ printed_by ts.steps) ++ printed_by us.steps) ((v.kept ++ kept_by ts.steps) ++ kept_by us.steps)
    (end_of_stage us.runner.stage))
    (append_assoc v.sent (requests_by ts.steps) (requests_by us.steps) ∙ ap (λ l. v.sent ++ l) (sym (requests-append ts.steps us.steps)))
    ∙ ap (λ l. view_of us.runner 0 (v.sent ++ requests_by (ts.steps ++ us.steps)) l ((v.kept ++ kept_by ts.steps) ++ kept_by us.steps)
    (end_of_stage us.runner.stage))
    (append_assoc v.text (printed_by ts.steps) (printed_by us.steps) ∙ ap (λ l. v.text ++ l) (sym (printed-append ts.steps us.steps)))
    ∙ ap (λ l. view_of us.runner 0 (v.sent ++ requests_by (ts.steps ++ us.steps)) (v.text ++ printed_by (ts.steps ++ us.steps)) l
    (end_of_stage us.runner.stage))
    (append_assoc v.kept (kept_by ts.steps) (kept_by us.steps) ∙ ap (λ l. v.kept ++ l) (sym (kept-append ts.steps us.steps)))
    ∙ sym (bytes_behind v (joined ts.steps us) bytes now)

-- both parts of what came, one after the other
cut_parts : (v : View) (now : ℕ) (first second : List ℕ) (o : Option LoopEnd) → let r = runner_after_answer v.runner (Bytes first now) in
    end_of_stage (turns now r).runner.stage ≡ o
    → view_after (bytes_view v (turns now r) o) (Bytes second now) ≡ view_behind v (Bytes (first ++ second) now)
    (joined (turns now r).steps (turns now (runner_after_feed (turns now r).runner second)))
unfolding client_after_tick view_after
cut_parts v now first second (Some e) is = cut_ended v now second (first ++ second) (runner_after_answer v.runner (Bytes first now)) e is
cut_parts v now first second None is =
    let r = runner_after_answer v.runner (Bytes first now) in
    let ts = turns now r in
    ap (λ s. view_behind (bytes_view v ts None) (Bytes second now) (turns now (runner_after_feed s second)))
    (ticked_again now v.runner (v.runner.client.received ++ first))
    ∙ cut_going_on v now (first ++ second) second ts (turns now (runner_after_feed ts.runner second))

cut_so : (v : View) (now : ℕ) (first second : List ℕ) (o : Option LoopEnd) → v.end ≡ o
    → view_after (view_unless o v (Bytes first now)) (Bytes second now) ≡ view_unless o v (Bytes (first ++ second) now)
unfolding client_after_tick view_after
cut_so v now first second (Some e) is = ap (λ o. view_unless o v (Bytes second now)) is
cut_so v now first second None is =
    let r = runner_after_answer v.runner (Bytes first now) in
    let ts = turns now r in
    ap (λ w. view_after w (Bytes second now)) (bytes_behind v ts first now)
    ∙ cut_parts v now first second (end_of_stage ts.runner.stage) refl
    ∙ ap (view_behind v (Bytes (first ++ second) now)) (sym (turns_fed now second r)
    ∙ ap (λ bytes. turns now (record v.runner { client = record (runner_after_tick v.runner now).client { received = bytes } }))
    (append_assoc v.runner.client.received first second))

-- an answer that is cut in two
pub cut_in_two : (v : View) (now : ℕ) (first second : List ℕ)
    → view_after (view_after v (Bytes first now)) (Bytes second now) ≡ view_after v (Bytes (first ++ second) now)
unfolding view_after
cut_in_two v now first second = cut_so v now first second v.end refl

abbrev view_after_all : View → List LinkAnswer → View
view_after_all v [] = v
view_after_all v (a ∷ ds) = view_after_all (view_after v a) ds

joined_so : (v : View) (bytes more : List ℕ) (now later : ℕ) (ds : List LinkAnswer) (b : Bool) → (now == later) ≡ b
    → view_after_all v (if b then Bytes (bytes ++ more) now ∷ ds else Bytes bytes now ∷ Bytes more later ∷ ds)
    ≡ view_after_all (view_after v (Bytes bytes now)) (Bytes more later ∷ ds)
joined_so v bytes more now later ds false differs = refl
joined_so v bytes more now later ds true is =
    ap (λ w. view_after_all w ds)
    (sym (cut_in_two v now bytes more) ∙ ap (λ t. view_after (view_after v (Bytes bytes now)) (Bytes more t)) (eqb-true now later is))

before_same : (v : View) (a : LinkAnswer) (ds : List LinkAnswer) → view_after_all v (before a ds) ≡ view_after_all (view_after v a) ds
before_same v (Bytes bytes now) [] = refl
before_same v (Bytes bytes now) (Bytes more later ∷ ds) = joined_so v bytes more now later ds (now == later) refl
before_same v (Bytes bytes now) (Quiet later ∷ ds) = refl
before_same v (Bytes bytes now) (Closed later ∷ ds) = refl
before_same v (Quiet now) ds = refl
before_same v (Closed now) ds = refl

uncut_same : (v : View) (ds : List LinkAnswer) → view_after_all v (uncut ds) ≡ view_after_all v ds
uncut_same v [] = refl
uncut_same v (a ∷ ds) = before_same v a (uncut ds) ∙ uncut_same (view_after v a) ds

-- answers are counted up
pub end_cases : (o : Option LoopEnd) → (o ≡ None) ⊎ ((e : LoopEnd) × (o ≡ Some e))
end_cases None = inl refl
end_cases (Some e) = inr (e, refl)

pub counts_up : (c : Conversation) (a : LinkAnswer) → c.answers ≤ (conversation_after c a).answers
counts_up c a = elim (end_cases c.end) [
  | inl on ↦ let e = one_more c a on in omega (arith, e)
  | inr over ↦ let e = ap (λ (d : Conversation). d.answers) (over_stays c over.0 a over.1) in omega (arith, e)
]

all_count_up : (c : Conversation) (ds : List LinkAnswer) → c.answers ≤ (conversation_after_all c ds).answers
unfolding conversation_after_all
all_count_up c [] = omega arith
all_count_up c (a ∷ ds) = let one = counts_up c a in let more = all_count_up (conversation_after c a) ds in omega (arith, one, more)

all_views : (c : Conversation) (ds : List LinkAnswer) → (conversation_after_all c ds).answers ≤ MAX_ANSWERS
    → view (conversation_after_all c ds) ≡ view_after_all (view c) ds
unfolding conversation_after_all
all_views c [] few = refl
all_views c (a ∷ ds) few =
    let more = all_count_up (conversation_after c a) ds in
    all_views (conversation_after c a) ds few
    ∙ ap (λ v. view_after_all v ds) (view_after_answer c a (λ on. let one = one_more c a on in omega (arith, one, more, few)))

sent_of : (r : Runner) (q : ℕ) (s : List (List ℕ)) (t : List ℕ) (k : List Row) (o : Option LoopEnd) → (view_of r q s t k o).sent ≡ s
sent_of r q s t k None = refl
sent_of r q s t k (Some e) = refl

text_of : (r : Runner) (q : ℕ) (s : List (List ℕ)) (t : List ℕ) (k : List Row) (o : Option LoopEnd) → (view_of r q s t k o).text ≡ t
text_of r q s t k None = refl
text_of r q s t k (Some e) = refl

kept_of : (r : Runner) (q : ℕ) (s : List (List ℕ)) (t : List ℕ) (k : List Row) (o : Option LoopEnd) → (view_of r q s t k o).kept ≡ k
kept_of r q s t k None = refl
kept_of r q s t k (Some e) = refl

entries_of : (r : Runner) (q : ℕ) (s : List (List ℕ)) (t : List ℕ) (k : List Row) (o : Option LoopEnd)
    → (view_of r q s t k o).entries ≡ entries_taken r.stage
entries_of r q s t k None = refl
entries_of r q s t k (Some e) = refl

pub view_sent : (c : Conversation) → (view c).sent ≡ bytes_sent c
view_sent c = sent_of c.runner c.quiet (bytes_sent c) c.text c.kept c.end

-- calls with the same view are the same
pub same_views : (c d : Conversation) → view c ≡ view d → IsSameCall c d
same_views c d same = record {
  sent = sym (view_sent c) ∙ ap (λ (v : View). v.sent) same ∙ view_sent d;
  text = sym (text_of c.runner c.quiet (bytes_sent c) c.text c.kept c.end) ∙ ap (λ (v : View). v.text) same
      ∙ text_of d.runner d.quiet (bytes_sent d) d.text d.kept d.end;
  kept = sym (kept_of c.runner c.quiet (bytes_sent c) c.text c.kept c.end) ∙ ap (λ (v : View). v.kept) same
      ∙ kept_of d.runner d.quiet (bytes_sent d) d.text d.kept d.end;
  entries = sym (entries_of c.runner c.quiet (bytes_sent c) c.text c.kept c.end) ∙ ap (λ (v : View). v.entries) same
      ∙ entries_of d.runner d.quiet (bytes_sent d) d.text d.kept d.end;
  end = sym (view_end c) ∙ ap (λ (v : View). v.end) same ∙ view_end d;
}

pub answers_may_be_cut : AnswersMayBeCut
answers_may_be_cut me peer call now ds es same few many =
    same_views _ _ (all_views _ ds few ∙ sym (uncut_same _ ds) ∙ ap (view_after_all _) same ∙ uncut_same _ es ∙ sym (all_views _ es many))
