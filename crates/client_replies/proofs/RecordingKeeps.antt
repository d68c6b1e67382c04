-- A recording stays sound: its requests are short, one at a time, and its rows have numbers that can be put.
use Rattle.std.proofs.Common.{◌≡◌, ℕ, ◌+◌, ◌^◌, ◌≤◌, ◌<◌, List, [], ◌∷◌, ◌++◌, length, Bool, true, false, cond, refl, arith, lit≤}
use Rattle.std.specs.Prelude.{Option, Some, None, nat_le}
use Rattle.std.specs.List.{list_all}
use Rattle.std.proofs.lemmas.Bool.Decides.{nat_tests}
use Rattle.spec_formats.specs.Reply.{Reply}
use Rattle.spec_formats.specs.SymbolEntry.{SymbolEntry}
use Rattle.spec_client.specs.Calls.{Watching}
use Rattle.spec_client.specs.Entries.{one_entry_in}
use Rattle.spec_client.specs.Recordings.{recording_begun, has_ended, handles_of, is_recorded, has_enough, recorded_at, after_deletion, after_samples}
use Rattle.spec_client.specs.Recordings.{with_next_name, after_record_entry, after_notification, row_of, gone_on, with_sample, after_record_sample}
use Rattle.spec_client.specs.Recordings.{after_record_end}
use Rattle.spec_client.specs.Replies.{bytes_given, handle_given, after_record_reply}
use Rattle.spec_client.specs.Stages.{CallEnd, Done, Recorded, Recording, RecordWait, ForEntry, ForNotification, ForSamples, ForDeletion, Stage}
use Rattle.spec_client.specs.Stages.{Records, Progress, progress, recording_ended}
use Rattle.client_replies.specs.Rows.{HasRowNumbers}
use Rattle.client_replies.specs.Sound.{AreShort, AreSendable, HasShortNames, asked_count, most_asked}

either : {X : Type 0} (P : X → Type 0) (b : Bool) (x y : X) → (b ≡ true → P x) → (b ≡ false → P y) → P (cond b x y)
either P true x y first second = first refl
either P false x y first second = second refl

-- short, and with so many outstanding requests it asks for one at most
pub record Keeps (n : ℕ) (p : Progress) : Type 0 where
  pub names : HasShortNames p.stage
  pub sendable : AreSendable p.outputs
  pub one_by_one : asked_count p.outputs + n ≤ most_asked p.stage

-- the names that are left are short, and the rows have numbers
abbrev pub IsFit : Recording → Type 0
IsFit r = AreShort r.names × HasRowNumbers r

pub keeps_recording_end : (end : CallEnd) (r : Recording) (n : ℕ) → n ≤ 1 → Keeps n (recording_ended end r)
keeps_recording_end end r n few = record { names = tt; sendable = tt; one_by_one = omega (arith, few) }

keeps_waiting : (wait : RecordWait) (r : Recording) (n : ℕ) → IsFit r → n ≤ most_asked (Records wait r) → Keeps n (progress (Records wait r) [])
keeps_waiting wait r n fit few = record { names = fit; sendable = tt; one_by_one = omega (arith, few) }

deletes : (left : List ℕ) (r : Recording) → IsFit r → Keeps 0 (after_deletion left r)
unfolding after_deletion
deletes [] r fit = keeps_recording_end Done r 0 (lit≤ tt)
deletes (handle ∷ left) r fit =
    either (Keeps 0) (has_ended r handle) _ _ (λ t. deletes left r fit) (λ t. record { names = fit; sendable = (tt, tt); one_by_one = lit≤ tt })

samples : (r : Recording) → IsFit r → Keeps 0 (after_samples r)
samples r fit =
    either (Keeps 0) (has_enough r) _ _ (λ t. deletes (handles_of r) r fit)
    (λ t. either (Keeps 0) (list_all (has_ended r) (handles_of r)) _ _ (λ u. keeps_recording_end Done r 0 (lit≤ tt))
    (λ u. keeps_waiting ForSamples r 0 fit (lit≤ tt)))

next_name : (r : Recording) (names : List (List ℕ)) → AreShort names → IsFit r → Keeps 0 (with_next_name r names)
next_name r [] short fit = samples r fit
next_name r (name ∷ names) short fit =
    let first = short.0 in
    record { names = (short.1, fit.1); sendable = (omega (arith, first), tt); one_by_one = lit≤ tt }

pub keeps_begun : (names : List (List ℕ)) (watching : Watching) (first : ℕ) → AreShort names → 0 < first → first + watching.count ≤ 2 ^ 63
    → Keeps 0 (recording_begun names watching first)
keeps_begun names watching first short some most =
    next_name (record { watching = watching; first = first; names = names; entries = []; notifications = []; ended = []; kept = 0 })
    names short (short, (some, most))

entry_taken : (r : Recording) (o : Option SymbolEntry) (payload : List ℕ) → IsFit r → Keeps 0 (after_record_entry r o payload)
entry_taken r None payload fit = keeps_recording_end _ r 0 (lit≤ tt)
entry_taken r (Some e) payload fit = record { names = fit; sendable = (tt, tt); one_by_one = lit≤ tt }

notified : (r : Recording) (handle : ℕ) (name : List ℕ) → IsFit r → Keeps 0 (after_notification r handle name)
notified r handle name fit = go (is_recorded r handle)
  where
    go : (b : Bool) → Keeps 0 (with_next_name (cond b r (record r { notifications = r.notifications ++ record { handle = handle; name = name } ∷ [] })) r.names)
    go true = next_name r r.names (fit.0) fit
    go false = next_name (record r { notifications = r.notifications ++ record { handle = handle; name = name } ∷ [] }) r.names (fit.0) fit

pub keeps_record_reply : (wait : RecordWait) (r : Recording) (reply : Reply) (payload : List ℕ) → IsFit r → Keeps 0 (after_record_reply wait r reply payload)
keeps_record_reply ForEntry r reply payload fit = entry_taken r (one_entry_in (bytes_given reply)) payload fit
keeps_record_reply (ForNotification name) r reply payload fit = notified r (handle_given reply) name fit
keeps_record_reply (ForDeletion left) r reply payload fit = deletes left r fit
keeps_record_reply ForSamples r reply payload fit = keeps_waiting ForSamples r 0 fit (lit≤ tt)

goes_on : (wait : RecordWait) (r : Recording) (n : ℕ) → IsFit r → n ≤ most_asked (Records wait r) → Keeps n (gone_on wait r)
goes_on ForSamples r n fit few = let none : n ≡ 0 = omega (arith, few) in rw none (samples r fit)
goes_on ForEntry r n fit few = keeps_waiting ForEntry r n fit few
goes_on (ForNotification name) r n fit few = keeps_waiting (ForNotification name) r n fit few
goes_on (ForDeletion left) r n fit few = keeps_waiting (ForDeletion left) r n fit few

-- what is asked goes by what is waited for alone
same_most : (wait : RecordWait) (r s : Recording) → most_asked (Records wait r) ≡ most_asked (Records wait s)
same_most ForSamples r s = refl
same_most ForEntry r s = refl
same_most (ForNotification name) r s = refl
same_most (ForDeletion left) r s = refl

fewer : (count kept : ℕ) → nat_le count kept ≡ false → kept < count
fewer count kept e = grind (arith, nat_tests)

sampled : (wait : RecordWait) (r : Recording) (time : ℕ) (bytes : List ℕ) (m : Recorded) (n : ℕ) → IsFit r → n ≤ most_asked (Records wait r)
    → has_enough r ≡ false → Keeps n (with_sample wait r time bytes m)
sampled wait r time bytes m n fit few less =
    let s : Recording = record r { kept = r.kept + 1 } in
    let same = same_most wait r s in
    let k = goes_on wait s n fit (omega (arith, few, same)) in
    let below = fewer r.watching.count r.kept less in
    let some = fit.1.0 in
    let most = fit.1.1 in
    record { names = k.names; sendable = ((omega (arith, some), omega (arith, most, below)), k.sendable); one_by_one = k.one_by_one }

pub keeps_record_sample : (wait : RecordWait) (r : Recording) (time : ℕ) (bytes : List ℕ) (o : Option Recorded) (n : ℕ) → IsFit r
    → n ≤ most_asked (Records wait r) → Keeps n (after_record_sample wait r time bytes o)
keeps_record_sample wait r time bytes None n fit few = keeps_waiting wait r n fit few
keeps_record_sample wait r time bytes (Some m) n fit few =
    either (Keeps n) (has_enough r) _ _ (λ t. keeps_waiting wait r n fit few) (λ t. sampled wait r time bytes m n fit few t)

pub keeps_record_end : (wait : RecordWait) (r : Recording) (handle n : ℕ) → IsFit r → n ≤ most_asked (Records wait r) → Keeps n (after_record_end wait r handle)
keeps_record_end wait r handle n fit few =
    either (Keeps n) (is_recorded r handle) _ _ (λ t. go (has_ended r handle)) (λ t. keeps_waiting wait r n fit few)
  where
    now : Recording
    now = record r { ended = r.ended ++ handle ∷ [] }

    go : (b : Bool) → Keeps n (gone_on wait (cond b r now))
    go true = goes_on wait r n fit few
    go false = let same = same_most wait r now in goes_on wait now n fit (omega (arith, few, same))
