-- What a call over a link leaves in the link and in the sink, by computation.
use Rattle.std.specs.Prelude.{◌≡◌, refl, ℕ, List, [], ◌∷◌, ◌++◌, codes, true, false, Bool, Option, Some, None, Ok, Err, bytes_eq}
use Rattle.std.proofs.Common.{ap, inl, inr, lit≤, sym}
use Rattle.std.proofs.lemmas.Bool.{false≢true}
use Rattle.std.specs.Fmt.{digits}
use Rattle.ads_base.specs.declared.peer.Peer.TheVariants as peers
use Rattle.ads_base.specs.declared.no_memory.NoMemory.{NoMemory}
use Rattle.ads_outside.specs.declared.connected.Connected.TheVariants as connected
use Rattle.ads_outside.specs.declared.link_event.LinkEvent.TheVariants as came
use Rattle.ads_outside.specs.declared.link_move.LinkMove.{LinkMove}
use Rattle.ads_outside.specs.declared.link_move.LinkMove.TheVariants as link
use Rattle.ads_outside.specs.LinkState.{LinkHistory, LinkState, not_connected}
use Rattle.ads_outside.specs.SinkState.{SinkState}
use Rattle.spec_frames.specs.Division.{ams_length_of, is_header, front_of, packet_of, behind_frame, frames_from, frames_of, left_behind, rest_of}
use Rattle.spec_formats.specs.Codes.{text_in}
use Rattle.spec_formats.specs.Header.{header_of}
use Rattle.spec_formats.specs.NotificationReading.{notification_of}
use Rattle.spec_formats.specs.Reply.{reply_in, reply_of}
use Rattle.spec_client.specs.Unanswered.{free_id, least_id, without_first}
use Rattle.spec_client.specs.Client.{issued_by, client_after_issue, client_after_tick}
use Rattle.spec_client.specs.PassedOver.{says_something}
use Rattle.spec_client.specs.Hearing.{packet_hearing, packets_hearing, next_hearing}
use Rattle.spec_client.specs.Calls.{State}
use Rattle.spec_client.specs.Replies.{after_reply, after_answer}
use Rattle.spec_client.specs.Stages.{Done, BadPeer}
use Rattle.spec_client.specs.Steps.{after_sample, after_end, after_heard, begun}
use Rattle.spec_client.specs.Runner.{runner_after_hearing, given, turn_within, all_given, turns_within, Send, Print}
use Rattle.spec_client.specs.Conversation.{LinkAnswer, Bytes, Quiet, Closed, CallEnded, LoopEnd, conversation_begun}
use Rattle.spec_client.specs.Conversation.{conversation_after_turns, conversation_going_on, conversation_after}
use Rattle.spec_client.specs.CallLog.{log_behind, log_up_to, sent_last}
use Rattle.spec_client.specs.CallOver.{conversation_after_all}
use Rattle.spec_client.proofs.Frames.{me, peer, request, reply}
use Rattle.client_replies.specs.declared.stage.CallEnd.TheVariants as call_end
use Rattle.client_loop.specs.declared.loop_end.LoopEnd.TheVariants as end
use Rattle.client_loop.specs.Called.{AfterCall, AreAwaited, BreaksOff, Calling, NeverBegins, Talks, calling}
use Rattle.client_loop.specs.Due.{AtPrint, AtSend, call_steps_last, call_text_up_to, steps_last, text_up_to}
use Rattle.client_loop.specs.LinkAfter.{history_left, history_over}
use Rattle.client_loop.specs.Said.{SendsSome}
use Rattle.client_commands.specs.CallUses.{LinkUse, link_used, used}
use Rattle.client_commands.specs.Calling.{EndsCall, status_of_call, status_of_loop}
use Rattle.ads_run.proofs.Causes.{IsEndOfCall}
use Rattle.run_tasks.specs.declared.status.Status.TheVariants as status

-- the state is asked over a link that is connected at 5; nothing comes at first, and at 7 the response
abbrev here : List ℕ
here = codes "localhost:48898"

abbrev pub asks : Calling
asks = calling me peer State here

abbrev state_reply : List ℕ
state_reply = reply 4 1 (codes "00000000 0500 0000")

abbrev pub answers : List LinkAnswer
answers = Quiet 5 ∷ Bytes state_reply 7 ∷ []

abbrev text : List ℕ
text = codes "ads 5 device 0\n"

-- what the link logs: all of it, and what it is before any answer
abbrev moves : List LinkMove
moves = link.Connected here 5 ∷ link.Sent (request 4 1 []) ∷ link.Came (came.Quiet 5) ∷ link.Came (came.Bytes state_reply 7) ∷ []

-- the link tells this log alone
abbrev Tells : List LinkMove → ℕ → List LinkMove → Type 0
Tells told o log = log ≡ told

abbrev state_of : LinkHistory → ℕ → LinkState
state_of history faults = record { history = history; faults = faults }

abbrev sink : List ℕ → ℕ → SinkState
sink held faults = record { held = Some held; faults = faults; wants = 0 }

abbrev pub new_link : LinkState
new_link = state_of (history_over 5 answers) 0

abbrev pub the_link : LinkUse ℕ
the_link = used (Tells []) (Tells moves) (state_of not_connected 0) new_link

-- a link that is its own state tells what its state was and is
handed_in : (link_used {L = LinkState} (λ l o log. Tells [] o log) (λ l. l) (state_of not_connected 0) new_link).new ≡ new_link
handed_in = refl

-- the history of a link behind answers, and where to receive failed then
behind_answers : history_over 5 (Quiet 6 ∷ Bytes state_reply 7 ∷ Closed 8 ∷ [])
    ≡ record { moment = 8; answers = 3; quiet = 0; closed = true; broken = false }
behind_answers = refl

quiet_twice : (history_over 5 (Quiet 6 ∷ Quiet 9 ∷ [])).quiet ≡ 2
quiet_twice = refl

broken : (history_left None (history_over 5 [])).broken ≡ true
broken = refl

-- memory was wanting
abbrev no_memory : NoMemory
no_memory = record {}

-- statuses of ends
statuses : status_of_loop (CallEnded (BadPeer peers.Closed)) ≡ status.BadPeer peers.Closed
statuses = refl

done : status_of_call Done ≡ status.Done
done = refl

-- what may have been sent: all of it, some first bytes of it, or nothing; no other bytes, and nothing behind a part
abbrev three : List ℕ
three = 1 ∷ 2 ∷ 3 ∷ []

all_sent : SendsSome (record { answers = 1; bytes = three } ∷ []) (link.Sent three ∷ [])
all_sent = inl (refl, tt)

part_sent : SendsSome (record { answers = 1; bytes = three } ∷ []) (link.Sent (1 ∷ 2 ∷ []) ∷ [])
part_sent = inr (2, refl, refl)

nothing_sent : SendsSome (record { answers = 1; bytes = three } ∷ []) []
nothing_sent = tt

abbrev bytes_in : LinkMove → List ℕ
bytes_in (link.Sent bytes) = bytes
bytes_in m = []

abbrev is_empty : List LinkMove → Bool
is_empty [] = true
is_empty (m ∷ ms) = false

behind_a_part : SendsSome (record { answers = 1; bytes = three } ∷ []) (link.Sent (1 ∷ []) ∷ link.Sent three ∷ []) → ⊥
behind_a_part (inl (e, rest)) = false≢true (ap (λ m. bytes_eq (bytes_in m) three) e)
behind_a_part (inr (n, e, nothing)) = false≢true (ap is_empty nothing)

-- a step that sends, and one that prints
stops_at_a_send : AtSend (Send three ∷ [])
stops_at_a_send = tt

prints_there : AtPrint (Print three ∷ [])
prints_there = tt

no_send : AtSend (Print three ∷ []) → ⊥
no_send h = h

no_print : AtPrint [] → ⊥
no_print h = h

abbrev held_in : Option (List ℕ) → List ℕ
held_in None = []
held_in (Some held) = held

abbrev is_going_on : Option LoopEnd → Bool
is_going_on None = true
is_going_on (Some ended) = false

pub record CallRows : Type 0 where
  -- the steps behind the last answer, and the text before them
  first_step : call_steps_last me peer State 5 [] ≡ Send (request 4 1 []) ∷ []
  last_step : call_steps_last me peer State 5 answers ≡ Print text ∷ []
  no_text_before : call_text_up_to me peer State 5 answers ≡ []
  nothing_left : call_steps_last me peer State 5 (Quiet 5 ∷ []) ≡ []
  -- the call went on until its response came
  awaited : AreAwaited (conversation_begun me peer State 5) answers
  not_awaited : AreAwaited (conversation_begun me peer State 5) (Bytes state_reply 6 ∷ Quiet 7 ∷ []) → ⊥
  -- it talked, its text was put, and it is told
  talks : Talks asks (Some (CallEnded Done)) (Tells []) (Tells moves) new_link (sink [] 0) (sink text 0)
  pub ends : EndsCall asks status.Done (sink [] 0) (sink text 0) the_link
  -- the link was not connected: nothing was put, and the address is noted
  refused : AfterCall (Ok end.LinkFault) asks (Tells []) (Tells (link.Refused here ∷ [])) (state_of not_connected 0) (state_of not_connected 1)
      (sink [] 0) (sink [] 0)
  silent : NeverBegins asks connected.Failed (Tells []) (Tells (link.Refused here ∷ [])) (state_of not_connected 0) (state_of not_connected 1)
      (sink [] 0) (sink text 0) → ⊥
  -- to send failed at once: nothing was heard, and nothing put
  breaks_off : BreaksOff AtSend asks (Tells []) (Tells (link.Connected here 5 ∷ [])) (state_of (history_over 5 []) 1) (sink [] 0) (sink [] 0)
  -- to print failed behind 3 bytes
  cut_short : BreaksOff AtPrint asks (Tells []) (Tells moves) new_link (sink [] 0) (sink (codes "ads") 1)
  wanting : AfterCall (Err no_memory) asks (Tells []) (Tells []) (state_of not_connected 0) (state_of not_connected 0) (sink [] 0) (sink [] 0)
  -- to receive failed: it goes on, and nothing is lost
  receive_failed : Talks asks None (Tells []) (Tells (link.Connected here 5 ∷ link.Sent (request 4 1 []) ∷ link.Came (came.Quiet 5) ∷ []))
      (state_of (history_left None (history_over 5 (Quiet 5 ∷ []))) 1) (sink [] 0) (sink [] 0)

pub call_rows : CallRows
unfolding digits ams_length_of is_header front_of packet_of behind_frame frames_from frames_of left_behind rest_of text_in header_of notification_of
    reply_in reply_of free_id least_id without_first issued_by client_after_issue client_after_tick says_something packet_hearing packets_hearing
    next_hearing after_reply after_answer after_sample after_end after_heard begun runner_after_hearing given turn_within all_given turns_within
    conversation_after_turns conversation_going_on conversation_after conversation_after_all log_behind log_up_to sent_last steps_last text_up_to
call_rows = record {
  first_step = refl;
  last_step = refl;
  no_text_before = refl;
  nothing_left = refl;
  awaited = (refl, (refl, tt));
  not_awaited = λ a. false≢true (ap (λ o. is_going_on o) (a.1.0));
  talks = record {
    moment = 5;
    answers = answers;
    history = refl;
    awaited = (refl, (refl, tt));
    end_is = refl;
    text = refl;
    told = λ o log e. ap (λ l. l ++ moves) e;
  };
  ends = record {
    answer = Ok (end.Call call_end.Done);
    between = sink text 0;
    called = record {
      moment = 5;
      answers = answers;
      history = refl;
      awaited = (refl, (refl, tt));
      end_is = refl;
      text = refl;
      told = λ o log e. ap (λ l. l ++ moves) e;
    };
    later = record { faults = lit≤ tt; wants = lit≤ tt };
    prints = inl (refl, refl);
  };
  refused = (lit≤ tt, inl (record { same = refl; silent = refl; told = λ o log e. ap (λ l. l ++ link.Refused here ∷ []) e }));
  silent = λ n. false≢true (sym (ap (λ (s : SinkState). bytes_eq (held_in s.held) text) n.silent));
  breaks_off = record {
    moment = 5;
    answers = [];
    history = refl;
    awaited = tt;
    text = record { given = []; left = Send (request 4 1 []) ∷ []; all = refl; stop = tt; mid = Some []; put = refl; part = (0, refl) };
    told = λ o log e. record { moves = []; told = ap (λ l. (l ++ link.Connected here 5 ∷ []) ++ []) e; some = tt };
  };
  cut_short = record {
    moment = 5;
    answers = answers;
    history = refl;
    awaited = (refl, (refl, tt));
    text = record { given = []; left = Print text ∷ []; all = refl; stop = tt; mid = Some []; put = refl; part = (3, refl) };
    told = λ o log e. record { moves = []; told = ap (λ l. (l ++ moves) ++ []) e; some = tt };
  };
  wanting = inl (record { same = refl; silent = refl; told = λ o log e. e });
  receive_failed = record {
    moment = 5;
    answers = Quiet 5 ∷ [];
    history = refl;
    awaited = (refl, tt);
    end_is = refl;
    text = refl;
    told = λ o log e. ap (λ l. l ++ link.Connected here 5 ∷ link.Sent (request 4 1 []) ∷ link.Came (came.Quiet 5) ∷ []) e;
  };
}

-- the status is that of the call over the link's answers
pub ended_so : IsEndOfCall asks status.Done new_link
unfolding digits ams_length_of is_header front_of packet_of behind_frame frames_from frames_of left_behind rest_of text_in header_of notification_of
    reply_in reply_of free_id least_id without_first issued_by client_after_issue client_after_tick says_something packet_hearing packets_hearing
    next_hearing after_reply after_answer after_sample after_end after_heard begun runner_after_hearing given turn_within all_given turns_within
    conversation_after_turns conversation_going_on conversation_after conversation_after_all log_behind log_up_to sent_last steps_last text_up_to
ended_so = record { moment = 5; answers = answers; history = refl; ended = CallEnded Done; end_is = refl; status = refl }
