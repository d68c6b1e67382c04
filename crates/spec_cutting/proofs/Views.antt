-- What a call tells, without its numbers of answers and, once it is over, without its runner but for the entries that it took.
use Rattle.std.proofs.Common.{◌≡◌, ℕ, ◌+◌, ◌<◌, ◌≤◌, List, [], ◌∷◌, ◌++◌, map, Bool, true, false, refl, sym, ap, ◌∙◌, arith}
use Rattle.std.specs.Prelude.{Option, Some, None, ◌==◌, ◌||◌, if◌then◌else◌}
use Rattle.std.proofs.lemmas.List.{map-append}
use Rattle.ads_base.specs.declared.peer.Peer.TheVariants as peer
use Rattle.spec_machine.proofs.Find.{test_other}
use Rattle.spec_samples.specs.Row.{Row}
use Rattle.spec_client.specs.Client.{new_client}
use Rattle.spec_formats.specs.SymbolEntry.{SymbolEntry}
use Rattle.spec_client.specs.Stages.{BadPeer, AwaitsFacts, entries_taken}
use Rattle.spec_client.specs.Runner.{Runner, CallStep, Send, Print, Keep, Wait, Over, Turns, turns}
use Rattle.spec_client.specs.Conversation.{LinkAnswer, Bytes, Quiet, Closed, Sent, LoopEnd, CallEnded, Budget}
use Rattle.spec_client.specs.Conversation.{Conversation, MAX_QUIET, MAX_ANSWERS, moment_of, quiet_after}
use Rattle.spec_client.specs.Conversation.{sent_by, printed_by, kept_by, end_of_stage, runner_after_answer}
use Rattle.spec_client.specs.Conversation.{with_answer, conversation_after_turns, conversation_going_on}
use Rattle.spec_client.specs.Conversation.{conversation_after, after_answer_unless, ended_by, unless_ended}
use Rattle.spec_client.specs.Conversation.{end_by_answer, end_by_count}
use Rattle.spec_client.proofs.TurnsUnfolded.{at}
use Rattle.spec_cutting.specs.Joining.{bytes_sent}

pub record View : Type 0 where
  pub runner : Runner
  pub quiet : ℕ
  pub sent : List (List ℕ)
  pub text : List ℕ
  pub kept : List Row
  pub entries : List SymbolEntry
  pub end : Option LoopEnd

-- the runner of a call that is over
abbrev nobody : Runner
nobody = at (new_client (record { net = []; port = 0 }) (record { net = []; port = 0 })) AwaitsFacts []

abbrev pub view_of : Runner → ℕ → List (List ℕ) → List ℕ → List Row → Option LoopEnd → View
view_of runner quiet sent text kept (Some end) = record {
  runner = nobody;
  quiet = 0;
  sent = sent;
  text = text;
  kept = kept;
  entries = entries_taken runner.stage;
  end = Some end;
}
view_of runner quiet sent text kept None = record {
  runner = runner;
  quiet = quiet;
  sent = sent;
  text = text;
  kept = kept;
  entries = entries_taken runner.stage;
  end = None;
}

abbrev pub view : Conversation → View
view c = view_of c.runner c.quiet (bytes_sent c) c.text c.kept c.end

-- the requests that these steps send
abbrev pub requests_by : List CallStep → List (List ℕ)
requests_by [] = []
requests_by (Send bytes ∷ steps) = bytes ∷ requests_by steps
requests_by (step ∷ steps) = requests_by steps

-- an end by the turns, or else by the answer
abbrev pub ended_so : Option LoopEnd → ℕ → LinkAnswer → Option LoopEnd
ended_so (Some end) quiet a = Some end
ended_so None quiet (Closed now) = Some (CallEnded (BadPeer peer.Closed))
ended_so None quiet a = if quiet == MAX_QUIET then Some Budget else None

-- behind these turns
abbrev pub view_behind : View → LinkAnswer → Turns → View
view_behind v a ts = view_of ts.runner (quiet_after v.quiet a) (v.sent ++ requests_by ts.steps) (v.text ++ printed_by ts.steps)
    (v.kept ++ kept_by ts.steps) (ended_so (end_of_stage ts.runner.stage) (quiet_after v.quiet a) a)

abbrev pub view_unless : Option LoopEnd → View → LinkAnswer → View
view_unless (Some end) v a = v
view_unless None v a = view_behind v a (turns (moment_of a) (runner_after_answer v.runner a))

-- behind an answer, where answers are not counted
unfoldable pub view_after : View → LinkAnswer → View
view_after v a = view_unless v.end v a

requests_are_sent : (n : ℕ) (steps : List CallStep) → map (λ (s : Sent). s.bytes) (sent_by n steps) ≡ requests_by steps
requests_are_sent n [] = refl
requests_are_sent n (Send bytes ∷ steps) = ap (λ l. bytes ∷ l) (requests_are_sent n steps)
requests_are_sent n (Print text ∷ steps) = requests_are_sent n steps
requests_are_sent n (Keep row ∷ steps) = requests_are_sent n steps
requests_are_sent n (Wait ∷ steps) = requests_are_sent n steps
requests_are_sent n (Over end ∷ steps) = requests_are_sent n steps

or_false : (b : Bool) → (b || false) ≡ b
or_false true = refl
or_false false = refl

by_quiet : (d : Conversation) → d.answers ≤ MAX_ANSWERS → end_by_count d ≡ (if d.quiet == MAX_QUIET then Some Budget else None)
by_quiet d few =
    let other = test_other d.answers (MAX_ANSWERS + 1) (λ e. absurd (omega (arith, few, e))) in
    ap (λ b. if (d.quiet == MAX_QUIET) || b then Some Budget else None) other ∙ ap (λ b. if b then Some Budget else None) (or_false (d.quiet == MAX_QUIET))

by_answer : (d : Conversation) (a : LinkAnswer) → d.answers ≤ MAX_ANSWERS → end_by_answer d a ≡ ended_so None d.quiet a
by_answer d (Bytes bytes now) few = by_quiet d few
by_answer d (Quiet now) few = by_quiet d few
by_answer d (Closed now) few = refl

view_ended : (d : Conversation) (a : LinkAnswer) (o : Option LoopEnd) → d.end ≡ o → d.answers ≤ MAX_ANSWERS
    → view (unless_ended d a o) ≡ view_of d.runner d.quiet (bytes_sent d) d.text d.kept (ended_so o d.quiet a)
view_ended d a (Some e) is few = ap (view_of d.runner d.quiet (bytes_sent d) d.text d.kept) is
view_ended d a None is few = ap (view_of d.runner d.quiet (bytes_sent d) d.text d.kept) (by_answer d a few)

-- behind these turns of a conversation that took the answer
view_behind_turns : (c : Conversation) (ts : Turns) (a : LinkAnswer) → c.answers ≤ MAX_ANSWERS → view (ended_by a (conversation_after_turns c ts))
    ≡ view_of ts.runner c.quiet (bytes_sent c ++ requests_by ts.steps) (c.text ++ printed_by ts.steps) (c.kept ++ kept_by ts.steps)
    (ended_so (end_of_stage ts.runner.stage) c.quiet a)
unfolding conversation_after_turns
view_behind_turns c ts a few =
    let sent : map (λ (s : Sent). s.bytes) (c.sent ++ sent_by c.answers ts.steps) ≡ bytes_sent c ++ requests_by ts.steps
    = map-append (λ (s : Sent). s.bytes) c.sent (sent_by c.answers ts.steps) ∙ ap (λ l. bytes_sent c ++ l) (requests_are_sent c.answers ts.steps) in
    view_ended (conversation_after_turns c ts) a (end_of_stage ts.runner.stage) refl few
    ∙ ap (λ l. view_of ts.runner c.quiet l (c.text ++ printed_by ts.steps)
    (c.kept ++ kept_by ts.steps) (ended_so (end_of_stage ts.runner.stage) c.quiet a)) sent

view_goes_on : (c : Conversation) (a : LinkAnswer) → c.answers < MAX_ANSWERS → view (conversation_going_on c a)
    ≡ view_unless None (view_of c.runner c.quiet (bytes_sent c) c.text c.kept None) a
unfolding conversation_going_on
view_goes_on c a few = view_behind_turns (with_answer c a) (turns (moment_of a) (runner_after_answer c.runner a)) a (omega (arith, few))

view_so : (c : Conversation) (a : LinkAnswer) (o : Option LoopEnd) → c.end ≡ o → (o ≡ None → c.answers < MAX_ANSWERS)
    → view (after_answer_unless o c a) ≡ view_unless o (view_of c.runner c.quiet (bytes_sent c) c.text c.kept o) a
view_so c a (Some e) is few = ap (view_of c.runner c.quiet (bytes_sent c) c.text c.kept) is
view_so c a None is few = view_goes_on c a (few refl)

end_of : (r : Runner) (q : ℕ) (s : List (List ℕ)) (t : List ℕ) (k : List Row) (o : Option LoopEnd) → (view_of r q s t k o).end ≡ o
end_of r q s t k None = refl
end_of r q s t k (Some e) = refl

pub view_end : (c : Conversation) → (view c).end ≡ c.end
view_end c = end_of c.runner c.quiet (bytes_sent c) c.text c.kept c.end

-- the view behind an answer is one of the view
pub view_after_answer : (c : Conversation) (a : LinkAnswer) → (c.end ≡ None → c.answers < MAX_ANSWERS) → view (conversation_after c a) ≡ view_after (view c) a
unfolding conversation_after view_after
view_after_answer c a few = view_so c a c.end refl few ∙ ap (λ o. view_unless o (view c) a) (sym (view_end c))
