-- A call behind some answers of the machine begins the whole call, which is the same in every cutting.
use Rattle.std.proofs.Common.{◌≡◌, ℕ, zero, suc, ◌+◌, ◌-◌, ◌≤◌, [], ◌++◌, map, refl, sym, ap, ◌∙◌, subst, inl, inr, arith, append_assoc}
use Rattle.std.specs.Prelude.{Option, Some, None}
use Rattle.std.proofs.lemmas.Bool.{cases_lt}
use Rattle.std.proofs.lemmas.List.{append-nil, map-append}
use Rattle.spec_machine.specs.AdsDevice.{DescriptionReading}
use Rattle.spec_machine.specs.Client as served
use Rattle.spec_machine.specs.World.{World}
use Rattle.spec_client.specs.Conversation.{LinkAnswer, Sent, LoopEnd, Conversation, MAX_ANSWERS, moment_of, sent_by, printed_by, kept_by, runner_after_answer}
use Rattle.spec_client.specs.Conversation.{with_answer, unless_ended, conversation_after_turns, conversation_going_on, conversation_after}
use Rattle.spec_client.specs.Runner.{Turns, turns}
use Rattle.spec_local.specs.LocalCall.{Cutting, LocalScene, answer_in, scene_behind, scene_begun, scene_after, scene_after_answers, local_call}
use Rattle.spec_local.specs.LinkLog.{cutting_of}
use Rattle.spec_local.proofs.CallLogs.{calls_are_local}
use Rattle.spec_local.proofs.Scenes.{over_stays, going_on, scene_stays, scene_goes_on}
use Rattle.spec_cutting.specs.Joining.{bytes_sent, IsSameCall}
use Rattle.spec_cutting.proofs.JoinedCalls.{end_cases}
use Rattle.spec_local_room.specs.Laws.{BeginsCall, closed_step, LocalCallsBegin, LocalLinksBegin}
use Rattle.spec_local_room.proofs.LocalAnswers.{local_calls_are_one, local_calls_end}

begins_itself : (c : Conversation) → BeginsCall c c
begins_itself c = record {
  sent_left = [];
  sent = sym (append-nil (bytes_sent c));
  text_left = [];
  text = sym (append-nil c.text);
  kept_left = [];
  kept = sym (append-nil c.kept);
}

begins_on : (c d e : Conversation) → BeginsCall c d → BeginsCall d e → BeginsCall c e
begins_on c d e x y = record {
  sent_left = x.sent_left ++ y.sent_left;
  sent = y.sent ∙ ap (λ l. l ++ y.sent_left) x.sent ∙ append_assoc (bytes_sent c) x.sent_left y.sent_left;
  text_left = x.text_left ++ y.text_left;
  text = y.text ∙ ap (λ l. l ++ y.text_left) x.text ∙ append_assoc c.text x.text_left y.text_left;
  kept_left = x.kept_left ++ y.kept_left;
  kept = y.kept ∙ ap (λ l. l ++ y.kept_left) x.kept ∙ append_assoc c.kept x.kept_left y.kept_left;
}

begins_same : (c d e : Conversation) → BeginsCall c d → IsSameCall d e → BeginsCall c e
begins_same c d e x same = record {
  sent_left = x.sent_left;
  sent = sym same.sent ∙ x.sent;
  text_left = x.text_left;
  text = sym same.text ∙ x.text;
  kept_left = x.kept_left;
  kept = sym same.kept ∙ x.kept;
}

-- an answer takes nothing back

unless_begins : (c d : Conversation) (a : LinkAnswer) (o : Option LoopEnd) → BeginsCall c d → BeginsCall c (unless_ended d a o)
unless_begins c d a None x = record {
  sent_left = x.sent_left;
  sent = x.sent;
  text_left = x.text_left;
  text = x.text;
  kept_left = x.kept_left;
  kept = x.kept;
}
unless_begins c d a (Some e) x = x

turns_begin : (c : Conversation) (a : LinkAnswer) (ts : Turns) → BeginsCall c (conversation_after_turns (with_answer c a) ts)
unfolding conversation_after_turns
turns_begin c a ts = record {
  sent_left = map (λ (s : Sent). s.bytes) (sent_by (c.answers + 1) ts.steps);
  sent = map-append (λ (s : Sent). s.bytes) c.sent (sent_by (c.answers + 1) ts.steps);
  text_left = printed_by ts.steps;
  text = refl;
  kept_left = kept_by ts.steps;
  kept = refl;
}

going_begins : (c : Conversation) (a : LinkAnswer) → BeginsCall c (conversation_going_on c a)
unfolding conversation_going_on
going_begins c a =
    let ts = turns (moment_of a) (runner_after_answer c.runner a) in
    unless_begins c (conversation_after_turns (with_answer c a) ts) a _ (turns_begin c a ts)

answer_begins : (c : Conversation) (a : LinkAnswer) → BeginsCall c (conversation_after c a)
answer_begins c a = elim (end_cases c.end) [
  | inl on ↦ subst (BeginsCall c) (sym (going_on c a on)) (going_begins c a)
  | inr over ↦ subst (BeginsCall c) (sym (over_stays c over.0 a over.1)) (begins_itself c)
]

-- nor do some answers more

abbrev Scene : Type 0
Scene = LocalScene World served.Client

scene_begins : (reading : DescriptionReading) (cutting : Cutting) (x : Scene)
    → BeginsCall x.conversation (scene_behind (closed_step reading) cutting x).conversation
unfolding scene_after
scene_begins reading cutting x = answer_begins x.conversation (answer_in (closed_step reading) cutting x).answer

answers_begin : (reading : DescriptionReading) (cutting : Cutting) (n : ℕ) (x : Scene)
    → BeginsCall x.conversation (scene_after_answers (closed_step reading) cutting n x).conversation
unfolding scene_after_answers
answers_begin reading cutting zero x = begins_itself x.conversation
answers_begin reading cutting (suc n) x = elim (end_cases x.conversation.end) [
  | inl on ↦
      let y = scene_behind (closed_step reading) cutting x in
      subst (λ (z : Scene). BeginsCall x.conversation z.conversation) (sym (scene_goes_on (closed_step reading) cutting n x on))
      (begins_on x.conversation y.conversation _ (scene_begins reading cutting x) (answers_begin reading cutting n y))
  | inr over ↦
      subst (λ (z : Scene). BeginsCall x.conversation z.conversation)
      (sym (scene_stays (closed_step reading) cutting (suc n) x over.0 over.1)) (begins_itself x.conversation)
]

zero_plus : (n : ℕ) → 0 + n ≡ n
zero_plus n = omega arith

suc_plus : (m n : ℕ) → suc m + n ≡ suc (m + n)
suc_plus m n = omega arith

scenes_add : (reading : DescriptionReading) (cutting : Cutting) (m n : ℕ) (x : Scene) → scene_after_answers (closed_step reading) cutting (m + n) x
    ≡ scene_after_answers (closed_step reading) cutting n (scene_after_answers (closed_step reading) cutting m x)
unfolding scene_after_answers
scenes_add reading cutting zero n x = ap (λ k. scene_after_answers (closed_step reading) cutting k x) (zero_plus n)
scenes_add reading cutting (suc m) n x =
    let step = closed_step reading in
    ap (λ k. scene_after_answers step cutting k x) (suc_plus m n)
    ∙ elim (end_cases x.conversation.end) [
      | inl on ↦
          scene_goes_on step cutting (m + n) x on ∙ scenes_add reading cutting m n (scene_behind step cutting x)
          ∙ ap (scene_after_answers step cutting n) (sym (scene_goes_on step cutting m x on))
      | inr over ↦
          scene_stays step cutting (suc (m + n)) x over.0 over.1 ∙ sym (scene_stays step cutting n x over.0 over.1)
          ∙ ap (scene_after_answers step cutting n) (sym (scene_stays step cutting (suc m) x over.0 over.1))
    ]

difference : (a b : ℕ) → a ≤ b → a + (b - a) ≡ b
difference a b less = omega (arith, less)

-- behind so many answers or behind all, where it is over behind all
within_begins : (reading : DescriptionReading) (cutting : Cutting) (n m : ℕ) (x : Scene) (e : LoopEnd)
    → (scene_after_answers (closed_step reading) cutting m x).conversation.end ≡ Some e
    → BeginsCall (scene_after_answers (closed_step reading) cutting n x).conversation (scene_after_answers (closed_step reading) cutting m x).conversation
within_begins reading cutting n m x e over =
    let step = closed_step reading in
    let y = scene_after_answers step cutting n x in
    let z = scene_after_answers step cutting m x in
    elim (cases_lt m n) [
      | inl beyond ↦
          let same : y ≡ z = ap (λ k. scene_after_answers step cutting k x) (sym (difference m n (omega (arith, beyond))))
          ∙ scenes_add reading cutting m (n - m) x ∙ scene_stays step cutting (n - m) z e over in
          subst (λ (w : Scene). BeginsCall w.conversation z.conversation) (sym same) (begins_itself z.conversation)
      | inr within ↦
          let same : scene_after_answers step cutting (m - n) y ≡ z
          = sym (scenes_add reading cutting n (m - n) x) ∙ ap (λ k. scene_after_answers step cutting k x) (difference n m within) in
          subst (λ (w : Scene). BeginsCall y.conversation w.conversation) same (answers_begin reading cutting (m - n) y)
    ]

pub local_calls_begin : LocalCallsBegin
local_calls_begin reading cutting other count s me peer call x =
    let step = closed_step reading in
    let ends = local_calls_end reading cutting s me peer call x in
    begins_same _ (local_call step cutting s me peer call) _
    (within_begins reading cutting count MAX_ANSWERS (scene_begun step s me peer call) ends.end ends.is)
    (local_calls_are_one reading cutting other s me peer call x)

pub local_links_begin : LocalLinksBegin
local_links_begin reading cutting s me peer call to now answers x logs =
    let step = closed_step reading in
    let so_far = (calls_are_local step s me peer call to now answers x.none logs).so_far in
    subst (λ c. BeginsCall c (local_call step cutting s me peer call)) so_far
    (local_calls_begin reading (cutting_of answers) cutting _ s me peer call x)
