-- A recording prints nothing before it is done.
use Rattle.std.proofs.Common.{◌≡◌, ℕ, zero, suc, ◌+◌, List, [], ◌∷◌, ◌++◌, Bool, true, false, refl, sym, ap, ◌∙◌, inl, inr}
use Rattle.std.specs.Prelude.{Option, Some, None, ◌==◌}
use Rattle.std.specs.List.{list_all}
use Rattle.spec_formats.specs.Header.{AmsAddress}
use Rattle.spec_formats.specs.Reply.{Reply, reply_of, result_of}
use Rattle.spec_formats.specs.SymbolEntry.{SymbolEntry}
use Rattle.spec_client.specs.Heard.{Heard, Answered, Sampled, Ended, Stray, TimedOut, NotYet, Broken}
use Rattle.spec_client.specs.Client.{Client, client_after_issue}
use Rattle.spec_client.specs.Hearing.{Hearing, next_hearing, hearings_left}
use Rattle.spec_client.specs.Calls.{Call, Watching, Record}
use Rattle.spec_client.specs.Stages.{Output, ToSend, ToPrint, ToKeep, Recorded, Recording, RecordWait, ForEntry, ForNotification, ForSamples, ForDeletion}
use Rattle.spec_client.specs.Stages.{Stage, Records, FinishedRecording, Progress, progress}
use Rattle.spec_client.specs.Recordings.{has_ended, handles_of, is_recorded, has_enough, after_deletion, after_samples, with_next_name, recording_begun}
use Rattle.spec_client.specs.Recordings.{after_record_entry, with_notification, after_notification, gone_on, with_sample, recorded_at}
use Rattle.spec_client.specs.Recordings.{after_record_sample, with_end, after_record_end}
use Rattle.spec_client.specs.Replies.{after_record_reply, after_reply, after_answer}
use Rattle.spec_client.specs.Steps.{after_sample, after_end, after_heard, begun}
use Rattle.spec_client.specs.Runner.{Runner, CallStep, Send, Print, Keep, Turns, new_runner, given, runner_after_hearing, is_over, is_not_yet}
use Rattle.spec_client.specs.Runner.{all_given, turns_within, turns}
use Rattle.spec_client.specs.Conversation.{LinkAnswer, LoopEnd, Conversation, printed_by, moment_of, runner_after_answer}
use Rattle.spec_client.specs.Conversation.{with_answer, unless_ended, after_answer_unless, conversation_begun}
use Rattle.spec_client.specs.Conversation.{conversation_after_turns, conversation_going_on, conversation_after}
use Rattle.spec_client.specs.CallOver.{conversation_after_all, call_over}
use Rattle.spec_client.proofs.TurnsUnfolded.{at}
use Rattle.spec_client_laws.proofs.HearingCases.{if_both}
use Rattle.client_loop.specs.Due.{turns_after, steps_last, text_up_to, call_steps_last, call_text_up_to}

-- what outputs print
abbrev prints_in : List Output → List ℕ
prints_in [] = []
prints_in (ToPrint text ∷ os) = text ++ prints_in os
prints_in (o ∷ os) = prints_in os

-- a recording that goes on, or has ended
abbrev is_recording : Stage → Bool
is_recording (Records wait r) = true
is_recording (FinishedRecording end entries) = true
is_recording stage = false

record IsSilent (p : Progress) : Type 0 where
  stage : is_recording p.stage ≡ true
  outputs : prints_in p.outputs ≡ []

silent_deletion : (left : List ℕ) (r : Recording) → IsSilent (after_deletion left r)
unfolding after_deletion
silent_deletion [] r = record { stage = refl; outputs = refl }
silent_deletion (handle ∷ left) r =
    if_both IsSilent (has_ended r handle) _ _ (λ t. silent_deletion left r) (λ t. record { stage = refl; outputs = refl })

silent_samples : (r : Recording) → IsSilent (after_samples r)
silent_samples r =
    if_both IsSilent (has_enough r) _ _ (λ t. silent_deletion (handles_of r) r)
    (λ t. if_both IsSilent (list_all (has_ended r) (handles_of r)) _ _ (λ u. record { stage = refl; outputs = refl })
    (λ u. record { stage = refl; outputs = refl }))

silent_next : (r : Recording) (names : List (List ℕ)) → IsSilent (with_next_name r names)
silent_next r [] = silent_samples r
silent_next r (name ∷ names) = record { stage = refl; outputs = refl }

silent_entry : (r : Recording) (o : Option SymbolEntry) (payload : List ℕ) → IsSilent (after_record_entry r o payload)
silent_entry r None payload = record { stage = refl; outputs = refl }
silent_entry r (Some e) payload = record { stage = refl; outputs = refl }

silent_reply : (wait : RecordWait) (r : Recording) (reply : Reply) (payload : List ℕ) → IsSilent (after_record_reply wait r reply payload)
silent_reply ForEntry r reply payload = silent_entry r _ payload
silent_reply (ForNotification name) r reply payload = silent_next (with_notification r _ name) _
silent_reply (ForDeletion left) r reply payload = silent_deletion left r
silent_reply ForSamples r reply payload = record { stage = refl; outputs = refl }

silent_answer : (wait : RecordWait) (r : Recording) (error : ℕ) (o : Option Reply) (payload : List ℕ) → IsSilent (after_answer (Records wait r) error o payload)
unfolding after_answer after_reply
silent_answer wait r error None payload =
    if_both IsSilent (error == 0) _ _ (λ t. record { stage = refl; outputs = refl }) (λ t. record { stage = refl; outputs = refl })
silent_answer wait r error (Some reply) payload =
    if_both IsSilent (error == 0) _ _
    (λ t. if_both IsSilent (result_of reply == 0) _ _ (λ u. silent_reply wait r reply payload) (λ u. record { stage = refl; outputs = refl }))
    (λ t. record { stage = refl; outputs = refl })

silent_on : (wait : RecordWait) (r : Recording) → IsSilent (gone_on wait r)
silent_on ForSamples r = silent_samples r
silent_on ForEntry r = record { stage = refl; outputs = refl }
silent_on (ForNotification name) r = record { stage = refl; outputs = refl }
silent_on (ForDeletion left) r = record { stage = refl; outputs = refl }

silent_kept : (wait : RecordWait) (r : Recording) (time : ℕ) (bytes : List ℕ) (n : Recorded) → IsSilent (with_sample wait r time bytes n)
silent_kept wait r time bytes n = let p = silent_on wait (record r { kept = r.kept + 1 }) in record { stage = p.stage; outputs = p.outputs }

silent_sample : (wait : RecordWait) (r : Recording) (time : ℕ) (bytes : List ℕ) (o : Option Recorded)
    → IsSilent (after_record_sample wait r time bytes o)
silent_sample wait r time bytes None = record { stage = refl; outputs = refl }
silent_sample wait r time bytes (Some n) =
    if_both IsSilent (has_enough r) _ _ (λ t. record { stage = refl; outputs = refl }) (λ t. silent_kept wait r time bytes n)

silent_end : (wait : RecordWait) (r : Recording) (handle : ℕ) → IsSilent (after_record_end wait r handle)
silent_end wait r handle =
    if_both IsSilent (is_recorded r handle) (gone_on wait (with_end r handle)) (progress (Records wait r) [])
    (λ t. silent_on wait (with_end r handle)) (λ t. record { stage = refl; outputs = refl })

silent_heard : (stage : Stage) (h : Heard) → is_recording stage ≡ true → is_over stage ≡ false → IsSilent (after_heard stage h)
unfolding after_heard after_sample after_end
silent_heard (Records wait r) (Answered id error command payload) is goes = silent_answer wait r error (reply_of command payload) payload
silent_heard (Records wait r) (Sampled handle time bytes) is goes = silent_sample wait r time bytes (recorded_at r handle)
silent_heard (Records wait r) (Ended handle) is goes = silent_end wait r handle
silent_heard (Records wait r) (Stray id) is goes = record { stage = refl; outputs = refl }
silent_heard (Records wait r) (TimedOut id sent now) is goes = record { stage = refl; outputs = refl }
silent_heard (Records wait r) NotYet is goes = record { stage = refl; outputs = refl }
silent_heard (Records wait r) (Broken peer) is goes = record { stage = refl; outputs = refl }
silent_heard (FinishedRecording end entries) h is goes = absurd (let over : true ≡ false = goes in cc)
silent_heard stage h is goes = absurd (let none : false ≡ true = is in cc)

-- a runner that has printed nothing, and is to print nothing
record SilentRunner (r : Runner) : Type 0 where
  stage : is_recording r.stage ≡ true
  outputs : prints_in r.pending ≡ []

behind_hearing : (stage : Stage) (x : Hearing) → is_recording stage ≡ true → is_over stage ≡ false → SilentRunner (runner_after_hearing stage x)
unfolding runner_after_hearing
behind_hearing stage x is goes = let s = silent_heard stage x.heard is goes in record { stage = s.stage; outputs = s.outputs }

-- turns that print nothing
record SilentTurns (ts : Turns) : Type 0 where
  prints : printed_by ts.steps ≡ []
  runner : SilentRunner ts.runner

pub both_none : (a b : List ℕ) → a ++ b ≡ [] → (a ≡ []) × (b ≡ [])
both_none [] b e = (refl, e)
both_none (x ∷ a) b e = absurd (let never : x ∷ (a ++ b) ≡ [] = e in cc)

all_silent : (now : ℕ) (c : Client) (stage : Stage) (os : List Output) → prints_in os ≡ [] → is_recording stage ≡ true
    → SilentTurns (all_given now os (at c stage os))
unfolding all_given given
all_silent now c stage [] none is = record { prints = refl; runner = record { stage = is; outputs = refl } }
all_silent now c stage (ToSend request ∷ os) none is =
    let s = all_silent now (client_after_issue c request now) stage os none is in
    record { prints = s.prints; runner = record { stage = s.runner.stage; outputs = s.runner.outputs } }
all_silent now c stage (ToPrint text ∷ os) none is =
    let both = both_none text (prints_in os) none in
    let s = all_silent now c stage os both.1 is in
    record {
      prints = ap (λ t. t ++ printed_by (all_given now os (at c stage os)).steps) both.0 ∙ s.prints;
      runner = record { stage = s.runner.stage; outputs = s.runner.outputs };
    }
all_silent now c stage (ToKeep row ∷ os) none is =
    let s = all_silent now c stage os none is in
    record { prints = s.prints; runner = record { stage = s.runner.stage; outputs = s.runner.outputs } }

printed-append : (a b : List CallStep) → printed_by a ≡ [] → printed_by (a ++ b) ≡ printed_by b
printed-append [] b none = refl
printed-append (Print text ∷ a) b none =
    let both = both_none text (printed_by a) none in
    ap (λ t. t ++ printed_by (a ++ b)) both.0 ∙ printed-append a b both.1
printed-append (step ∷ a) b none = printed-append a b none

turns_silent : (n now : ℕ) (c : Client) (stage : Stage) (os : List Output) → prints_in os ≡ [] → is_recording stage ≡ true
    → SilentTurns (turns_within n now (at c stage os))
unfolding turns_within
turns_silent zero now c stage os none is = all_silent now c stage os none is
turns_silent (suc n) now c stage os none is =
    let whole = all_given now os (at c stage os) in
    let first = all_silent now c stage os none is in
    let x = next_hearing whole.runner.client in
    let heard = runner_after_hearing stage x in
    if_both SilentTurns (is_over stage) _ _ (λ t. first)
    (λ t. let b = behind_hearing stage x is t in
    let later = turns_silent n now heard.client heard.stage heard.pending b.outputs b.stage in
    if_both SilentTurns (is_not_yet x.heard) _ _ (λ u. record { prints = first.prints; runner = b })
    (λ u. record { prints = printed-append whole.steps (turns_within n now heard).steps first.prints ∙ later.prints; runner = later.runner }))

turns_from : (now : ℕ) (r : Runner) → SilentRunner r → SilentTurns (turns now r)
turns_from now r s = turns_silent (hearings_left r.client) now r.client r.stage r.pending s.outputs s.stage

-- a conversation that has printed nothing
record SilentCall (c : Conversation) : Type 0 where
  text : c.text ≡ []
  runner : SilentRunner c.runner

behind_turns : (c : Conversation) (ts : Turns) → c.text ≡ [] → SilentTurns ts → SilentCall (conversation_after_turns c ts)
unfolding conversation_after_turns
behind_turns c ts none s = record { text = ap (λ t. t ++ printed_by ts.steps) none ∙ s.prints; runner = s.runner }

ended_silent : (c : Conversation) (a : LinkAnswer) (o : Option LoopEnd) → SilentCall c → SilentCall (unless_ended c a o)
ended_silent c a (Some end) s = s
ended_silent c a None s = record { text = s.text; runner = s.runner }

heard_silent : (r : Runner) (a : LinkAnswer) → SilentRunner r → SilentRunner (runner_after_answer r a)
heard_silent r a s = record { stage = s.stage; outputs = s.outputs }

going_silent : (c : Conversation) (a : LinkAnswer) → SilentCall c → SilentCall (conversation_going_on c a)
unfolding conversation_going_on
going_silent c a s =
    let d = with_answer c a in
    let e = conversation_after_turns d (turns (moment_of a) d.runner) in
    ended_silent e a e.end (behind_turns d (turns (moment_of a) d.runner) s.text (turns_from (moment_of a) d.runner (heard_silent c.runner a s.runner)))

after_silent : (c : Conversation) (a : LinkAnswer) → SilentCall c → SilentCall (conversation_after c a)
unfolding conversation_after
after_silent c a s = go c.end
  where
    go : (o : Option LoopEnd) → SilentCall (after_answer_unless o c a)
    go (Some end) = s
    go None = going_silent c a s

all_after : (answers : List LinkAnswer) (c : Conversation) → SilentCall c → SilentCall (conversation_after_all c answers)
unfolding conversation_after_all
all_after [] c s = s
all_after (a ∷ as_) c s = all_after as_ (conversation_after c a) (after_silent c a s)

-- up to the last answer, and behind it
last_silent : (text : List ℕ) (steps : List CallStep) (c : Conversation) (answers : List LinkAnswer) → text ≡ [] → printed_by steps ≡ [] → SilentCall c
    → (text_up_to text c answers ≡ []) × (printed_by (steps_last steps c answers) ≡ [])
unfolding text_up_to steps_last
last_silent text steps c [] none silent s = (none, silent)
last_silent text steps c (a ∷ as_) none silent s =
    last_silent c.text (turns_after c a).steps (conversation_after c a) as_ s.text
    (turns_from (moment_of a) (runner_after_answer c.runner a) (heard_silent c.runner a s.runner)).prints (after_silent c a s)

-- a recording
abbrev pub IsRecord : Call → Type 0
IsRecord (Record names watching first) = Unit {0}
IsRecord call = ⊥

begun_silent : (me peer : AmsAddress) (call : Call) → IsRecord call → SilentRunner (new_runner me peer call)
unfolding begun
begun_silent me peer (Record names watching first) is =
    let first_of : Recording = record {
      watching = watching;
      first = first;
      names = names;
      entries = [];
      notifications = [];
      ended = [];
      kept = 0;
    } in
    let s = silent_next first_of names in
    record { stage = s.stage; outputs = s.outputs }
begun_silent me peer call is = absurd is

begins : (me peer : AmsAddress) (call : Call) (now : ℕ) → IsRecord call → SilentCall (conversation_begun me peer call now)
begins me peer call now is =
    let r = new_runner me peer call in
    behind_turns (record { runner = r; answers = 1; quiet = 0; sent = []; text = []; kept = []; end = None }) (turns now r) refl
    (turns_from now r (begun_silent me peer call is))

-- so it prints nothing
pub call_silent : (me peer : AmsAddress) (call : Call) (now : ℕ) (answers : List LinkAnswer) → IsRecord call
    → (call_over me peer call now answers).text ≡ []
call_silent me peer call now answers is = (all_after answers (conversation_begun me peer call now) (begins me peer call now is)).text

pub last_step_silent : (me peer : AmsAddress) (call : Call) (now : ℕ) (answers : List LinkAnswer) → IsRecord call
    → (call_text_up_to me peer call now answers ≡ []) × (printed_by (call_steps_last me peer call now answers) ≡ [])
last_step_silent me peer call now answers is =
    last_silent [] (turns now (new_runner me peer call)).steps (conversation_begun me peer call now) answers refl
    (turns_from now (new_runner me peer call) (begun_silent me peer call is)).prints (begins me peer call now is)
