-- What an answer makes of a conversation that goes on.
use Rattle.std.proofs.Common.{◌≡◌, ◌+◌, ◌++◌, length, drop, Option, Some, None, refl, sym, ap, ◌∙◌}
use Rattle.std.proofs.Math.Seq.{drop-append_seam}
use Rattle.spec_client.specs.Conversation.{LinkAnswer, Bytes, Quiet, Closed, LoopEnd, Conversation}
use Rattle.spec_client.specs.Conversation.{quiet_after, sent_by, printed_by, kept_by, end_of_stage}
use Rattle.spec_client.specs.Conversation.{end_by_answer, with_answer, unless_ended}
use Rattle.spec_client.specs.Conversation.{after_answer_unless, conversation_after_turns}
use Rattle.spec_client.specs.Conversation.{conversation_going_on, conversation_after}
use Rattle.spec_client.specs.CallLog.{sent_behind}
use Rattle.client_loop.specs.Due.{turns_after}

abbrev before_end : Conversation → LinkAnswer → Conversation
before_end c a = conversation_after_turns (with_answer c a) (turns_after c a)

goes : (c : Conversation) (a : LinkAnswer) → c.end ≡ None → conversation_after c a ≡ unless_ended (before_end c a) a (before_end c a).end
unfolding conversation_after conversation_going_on
goes c a on = ap (λ e. after_answer_unless e c a) on

end_before : (c : Conversation) (a : LinkAnswer) → (before_end c a).end ≡ end_of_stage (turns_after c a).runner.stage
unfolding conversation_after_turns
end_before c a = refl

goes_by : (c : Conversation) (a : LinkAnswer) (end : Option LoopEnd) → c.end ≡ None → end_of_stage (turns_after c a).runner.stage ≡ end
    → conversation_after c a ≡ unless_ended (before_end c a) a end
goes_by c a end on is = goes c a on ∙ ap (unless_ended (before_end c a) a) (end_before c a ∙ is)

same_text : (v : Conversation) (a : LinkAnswer) (end : Option LoopEnd) → (unless_ended v a end).text ≡ v.text
same_text v a None = refl
same_text v a (Some e) = refl

same_sent : (v : Conversation) (a : LinkAnswer) (end : Option LoopEnd) → (unless_ended v a end).sent ≡ v.sent
same_sent v a None = refl
same_sent v a (Some e) = refl

pub text_after : (c : Conversation) (a : LinkAnswer) → c.end ≡ None → (conversation_after c a).text ≡ c.text ++ printed_by (turns_after c a).steps
unfolding conversation_after_turns
text_after c a on = ap (λ (d : Conversation). d.text) (goes c a on) ∙ same_text (before_end c a) a (before_end c a).end

sent_after : (c : Conversation) (a : LinkAnswer) → c.end ≡ None → (conversation_after c a).sent ≡ c.sent ++ sent_by (c.answers + 1) (turns_after c a).steps
unfolding conversation_after_turns
sent_after c a on = ap (λ (d : Conversation). d.sent) (goes c a on) ∙ same_sent (before_end c a) a (before_end c a).end

same_kept : (v : Conversation) (a : LinkAnswer) (end : Option LoopEnd) → (unless_ended v a end).kept ≡ v.kept
same_kept v a None = refl
same_kept v a (Some e) = refl

pub kept_after : (c : Conversation) (a : LinkAnswer) → c.end ≡ None → (conversation_after c a).kept ≡ c.kept ++ kept_by (turns_after c a).steps
unfolding conversation_after_turns
kept_after c a on = ap (λ (d : Conversation). d.kept) (goes c a on) ∙ same_kept (before_end c a) a (before_end c a).end

same_runner : (v : Conversation) (a : LinkAnswer) (end : Option LoopEnd) → (unless_ended v a end).runner ≡ v.runner
same_runner v a None = refl
same_runner v a (Some e) = refl

pub runner_after : (c : Conversation) (a : LinkAnswer) → c.end ≡ None → (conversation_after c a).runner ≡ (turns_after c a).runner
unfolding conversation_after_turns
runner_after c a on = ap (λ (d : Conversation). d.runner) (goes c a on) ∙ same_runner (before_end c a) a (before_end c a).end

pub behind_is : (c : Conversation) (a : LinkAnswer) → c.end ≡ None → sent_behind c a ≡ sent_by (c.answers + 1) (turns_after c a).steps
behind_is c a on = ap (drop (length c.sent)) (sent_after c a on) ∙ drop-append_seam c.sent (sent_by (c.answers + 1) (turns_after c a).steps)

-- the call is over by what was heard
pub over_after : (c : Conversation) (a : LinkAnswer) (end : LoopEnd) → c.end ≡ None → end_of_stage (turns_after c a).runner.stage ≡ Some end
    → (conversation_after c a).end ≡ Some end
over_after c a end on is = ap (λ (d : Conversation). d.end) (goes_by c a (Some end) on is) ∙ end_before c a ∙ is

-- it waits for more
pub record Waited (c : Conversation) (a : LinkAnswer) : Type 0 where
  pub runner : (conversation_after c a).runner ≡ (turns_after c a).runner
  pub quiet : (conversation_after c a).quiet ≡ quiet_after c.quiet a
  pub answers : (conversation_after c a).answers ≡ c.answers + 1
  pub end : (conversation_after c a).end ≡ end_by_answer (conversation_after c a) a

same_end : (v : Conversation) (a : LinkAnswer) (end : Option LoopEnd) → end_by_answer (record v { end = end }) a ≡ end_by_answer v a
same_end v (Bytes bytes now) end = refl
same_end v (Quiet now) end = refl
same_end v (Closed now) end = refl

pub waits_after : (c : Conversation) (a : LinkAnswer) → c.end ≡ None → end_of_stage (turns_after c a).runner.stage ≡ None → Waited c a
unfolding conversation_after_turns
waits_after c a on is =
    let v = before_end c a in
    let so = goes_by c a None on is in
    record {
      runner = ap (λ (d : Conversation). d.runner) so;
      quiet = ap (λ (d : Conversation). d.quiet) so;
      answers = ap (λ (d : Conversation). d.answers) so;
      end = ap (λ (d : Conversation). d.end) so ∙ sym (same_end v a (end_by_answer v a)) ∙ ap (λ (d : Conversation). end_by_answer d a) (sym so);
    }
