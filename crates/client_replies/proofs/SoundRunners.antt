-- A runner of the definitions stays sound.
use Rattle.std.proofs.Common.{◌≡◌, ℕ, ◌+◌, ◌<◌, List, [], ◌∷◌, false, refl, ap, ◌∙◌, subst, arith, lit≤}
use Rattle.std.specs.Prelude.{None}
use Rattle.std.proofs.lemmas.Bool.{lt-leb}
use Rattle.std.proofs.lemmas.List.Sums.{sum_by-append}
use Rattle.spec_formats.specs.Header.{AmsAddress}
use Rattle.spec_formats.specs.Request.{Request, command_of}
use Rattle.spec_samples.specs.Row.{Row}
use Rattle.spec_client.specs.Unanswered.{Unanswered, MAX_OUTSTANDING, outstanding_count}
use Rattle.spec_client.specs.Client.{Client, next_id, is_full, client_after_issue, client_after_tick}
use Rattle.spec_client.specs.Hearing.{next_hearing}
use Rattle.spec_client.specs.Calls.{Call, Info, State, Control, Get, Set, Symbols, Watch, Show, Record}
use Rattle.spec_client.specs.Stages.{Output, ToSend, ToPrint, ToKeep}
use Rattle.spec_client.specs.Steps.{begun}
use Rattle.spec_client.specs.Runner.{Runner, new_runner, runner_after_feed, runner_after_tick, runner_after_hearing}
use Rattle.client_replies.specs.Sound.{HasShortTexts, IsSendable, AreSendable, IsSound, asked_count}
use Rattle.client_replies.proofs.Answering.{count-tick, asked_falls}
use Rattle.client_replies.proofs.Keeping.{keeps_heard, at_most_one}
use Rattle.client_replies.proofs.RecordingKeeps.{keeps_begun}

pub sound_new : (me peer : AmsAddress) (call : Call) → HasShortTexts call → IsSound (new_runner me peer call)
unfolding begun
sound_new me peer Info short = record { names = tt; sendable = (tt, tt); one_by_one = lit≤ tt }
sound_new me peer State short = record { names = tt; sendable = (tt, tt); one_by_one = lit≤ tt }
sound_new me peer (Control ads device) short = record { names = tt; sendable = (lit≤ tt, tt); one_by_one = lit≤ tt }
sound_new me peer (Get name) short = record { names = short; sendable = (omega arith, tt); one_by_one = lit≤ tt }
sound_new me peer (Set name text) short = record { names = short.0; sendable = (omega (arith, short.0), tt); one_by_one = lit≤ tt }
sound_new me peer Symbols short = record { names = tt; sendable = (tt, tt); one_by_one = lit≤ tt }
sound_new me peer (Watch name watching) short = record { names = short; sendable = (omega arith, tt); one_by_one = lit≤ tt }
sound_new me peer (Show name) short = record { names = short; sendable = (omega arith, tt); one_by_one = lit≤ tt }
sound_new me peer (Record names watching first) short =
    let k = keeps_begun names watching first (short.0) (short.1) (short.2) in
    record { names = k.names; sendable = k.sendable; one_by_one = k.one_by_one }

pub sound_feed : (r : Runner) (piece : List ℕ) → IsSound r → IsSound (runner_after_feed r piece)
sound_feed r piece s = record { names = s.names; sendable = s.sendable; one_by_one = s.one_by_one }

pub sound_tick : (r : Runner) (now : ℕ) → IsSound r → IsSound (runner_after_tick r now)
unfolding client_after_tick
sound_tick r now s = record {
  names = s.names;
  sendable = s.sendable;
  one_by_one = omega (arith, count-tick now r.client.unanswered, s.one_by_one);
}

-- with nothing outstanding it can issue
pub not_full : (c : Client) → outstanding_count c.unanswered < 64 → is_full c ≡ false
not_full c few = lt-leb MAX_OUTSTANDING (outstanding_count c.unanswered) few

count_issued : (c : Client) (request : Request) (now : ℕ) → outstanding_count c.unanswered < 64
    → outstanding_count (client_after_issue c request now).unanswered ≡ outstanding_count c.unanswered + 1
unfolding client_after_issue
count_issued c request now few =
    let u : Unanswered = record { id = next_id c; command = command_of request; sent = now; timed_out = None } in
    rw (not_full c few) (sum_by-append _ c.unanswered (u ∷ []) ∙ refl)

pub few_outstanding : (r : Runner) (request : Request) (outputs : List Output) → r.pending ≡ ToSend request ∷ outputs → IsSound r
    → outstanding_count r.client.unanswered ≡ 0
few_outstanding r request outputs is s =
    let asked : asked_count r.pending ≡ 1 + asked_count outputs = ap asked_count is in
    let most = at_most_one r.stage in
    let one = s.one_by_one in
    omega arith

pub sendable_first : (r : Runner) (output : Output) (outputs : List Output) → r.pending ≡ output ∷ outputs → IsSound r → IsSendable output × AreSendable outputs
sendable_first r output outputs is s = subst AreSendable is s.sendable

-- a request is issued
pub sound_issued : (r : Runner) (request : Request) (outputs : List Output) (now : ℕ) → r.pending ≡ ToSend request ∷ outputs → IsSound r
    → IsSound (record r { client = client_after_issue r.client request now; pending = outputs })
sound_issued r request outputs now is s =
    let sendable = sendable_first r (ToSend request) outputs is s in
    let asked : asked_count r.pending ≡ 1 + asked_count outputs = ap asked_count is in
    let most = at_most_one r.stage in
    let one = s.one_by_one in
    let counted = count_issued r.client request now (omega arith) in
    record { names = s.names; sendable = sendable.1; one_by_one = omega arith }

-- a text is printed
pub sound_printed : (r : Runner) (text : List ℕ) (outputs : List Output) → r.pending ≡ ToPrint text ∷ outputs → IsSound r
    → IsSound (record r { pending = outputs })
sound_printed r text outputs is s =
    let sendable = sendable_first r (ToPrint text) outputs is s in
    let asked : asked_count r.pending ≡ asked_count outputs = ap asked_count is in
    let one = s.one_by_one in
    record { names = s.names; sendable = sendable.1; one_by_one = omega arith }

-- a row is kept
pub sound_kept : (r : Runner) (row : Row) (outputs : List Output) → r.pending ≡ ToKeep row ∷ outputs → IsSound r
    → IsSound (record r { pending = outputs })
sound_kept r row outputs is s =
    let sendable = sendable_first r (ToKeep row) outputs is s in
    let asked : asked_count r.pending ≡ asked_count outputs = ap asked_count is in
    let one = s.one_by_one in
    record { names = s.names; sendable = sendable.1; one_by_one = omega arith }

-- something is heard
pub sound_heard : (r : Runner) → r.pending ≡ [] → IsSound r → IsSound (runner_after_hearing r.stage (next_hearing r.client))
unfolding runner_after_hearing
sound_heard r is s =
    let x = next_hearing r.client in
    let falls = asked_falls r.client in
    let one = s.one_by_one in
    let none : asked_count r.pending ≡ 0 = ap asked_count is in
    let kept = keeps_heard r.stage x.heard (outstanding_count x.client.unanswered) s.names (omega (arith, falls, one)) in
    record { names = kept.names; sendable = kept.sendable; one_by_one = kept.one_by_one }
