-- How a recording ends, and what that says of its cause.
use Rattle.std.proofs.Common.{◌≡◌, ◌≤◌, ℕ, List, Option, inl, inr, subst, sym, refl, rules}
use Rattle.std.specs.Prelude.{Result, Ok, Err}
use Rattle.ads_base.specs.declared.no_memory.NoMemory.{NoMemory}
use Rattle.ads_outside.specs.declared.link_move.LinkMove.{LinkMove}
use Rattle.ads_outside.specs.declared.named_file.NamedFile.{NamedFile}
use Rattle.ads_outside.specs.LinkState.{LinkState}
use Rattle.ads_outside.specs.Rose.{Rose}
use Rattle.ads_outside.specs.SinkState.{SinkState}
use Rattle.signals.specs.Wave.{Wave}
use Rattle.cli_words.specs.declared.client_words.PeerWords.{PeerWords}
use Rattle.client_loop.specs.Called.{Calling}
use Rattle.client_loop.specs.Outlets.{Outlets, outlets, IsLater}
use Rattle.client_loop.specs.Recorded.{AfterRecord}
use Rattle.client_loop.specs.declared.record_end.RecordEnd.{RecordEnd}
use Rattle.client_loop.specs.declared.record_end.RecordEnd.TheVariants as recorded
use Rattle.sample_store.specs.declared.keeper_open.KeeperOpen.{KeeperOpen}
use Rattle.sample_store.specs.declared.keeper_open.KeeperOpen.TheVariants as open_
use Rattle.sample_store.specs.Keeper.{KeeperState, Counts}
use Rattle.run_tasks.specs.declared.record_task.RecordTask.{RecordTask}
use Rattle.run_tasks.specs.declared.status.Status.{Status}
use Rattle.run_tasks.specs.declared.status.Status.TheVariants as status
use Rattle.run_tasks.specs.BeforeRun.{IsBeforeRun}
use Rattle.run_tasks.specs.Ending.{line_alone}
use Rattle.run_tasks.specs.Prints.{PutsMemoryLine, PrintsEnding}
use Rattle.client_commands.specs.Between.{RecordsOver}
use Rattle.client_commands.specs.Recording.{PrintsRecorded, EndsRecorded, EndsAnyRecording, EndsRecording, LeavesLink, BehindOpening}
use Rattle.client_commands.specs.RecordedFrom.{RecordsFrom}
use Rattle.client_commands.specs.CallUses.{LinkUse, KeeperUse, used}
use Rattle.client_commands.proofs.AloneLemmas.{nothing_before, prints_from}
use Rattle.client_commands.proofs.SilentLemmas.{IsRecord}
use Rattle.client_commands.proofs.CallLemmas.{answer_not_before, not_before}

never_falls : (out : SinkState) (keeper : KeeperState) → IsLater (outlets out keeper) (outlets out keeper)
never_falls out keeper = record { sink = record { faults = search rules; wants = search rules }; keeper = search rules; names = search rules }

-- memory was wanting behind the opening of the table
pub never_recorded : {O : Type 0} (x : Calling) (s : Status) (out out_new : SinkState) (told : O → List LinkMove → Type 0) (state : LinkState)
    (keeper : KeeperState) → s ≡ status.Memory → PutsMemoryLine out out_new
    → EndsRecorded (RecordsOver (used told told state state) x) s out out_new keeper keeper
never_recorded x s out out_new told state keeper is line = record {
  answer = Err (record {});
  between = out;
  called = inl (record { begins = record { same = refl; silent = refl; told = λ o log h. h }; untouched = refl });
  later = never_falls out keeper;
  prints = (is, line);
  alone = λ e. cc;
}

alone_by : {O : Type 0} (x : Calling) → IsRecord x.call → (answer : Result RecordEnd NoMemory) (s : Status) (out between out_new : SinkState)
    (told tells : O → List LinkMove → Type 0) (old new : LinkState) (keeper keeper_new : KeeperState)
    → AfterRecord answer x told tells old new (outlets out keeper) (outlets between keeper_new) → IsLater (outlets out keeper) (outlets between keeper_new)
    → PrintsRecorded answer s between out_new → answer ≡ Ok recorded.KeeperFault → PrintsEnding (line_alone status.KeeperFault) s out out_new
alone_by x recording (Ok recorded.KeeperFault) s out between out_new told tells old new keeper keeper_new called later printed is =
    prints_from (line_alone status.KeeperFault) s out between out_new
    (nothing_before x recording told tells old new out between keeper keeper_new called) later.sink printed
alone_by x recording (Ok (recorded.Loop e)) s out between out_new told tells old new keeper keeper_new called later printed is = cc
alone_by x recording (Err e) s out between out_new told tells old new keeper keeper_new called later printed is = cc

-- the recording that was made is the one that was asked for
pub recorded_ends : {O : Type 0} (x y : Calling) (answer : Result RecordEnd NoMemory) (s : Status) (out between out_new : SinkState)
    (told tells : O → List LinkMove → Type 0) (old new : LinkState) (keeper keeper_new : KeeperState) → y ≡ x → IsRecord x.call
    → AfterRecord answer y told tells old new (outlets out keeper) (outlets between keeper_new) → IsLater (outlets out keeper) (outlets between keeper_new)
    → PrintsRecorded answer s between out_new → EndsRecorded (RecordsOver (used told tells old new) x) s out out_new keeper keeper_new
recorded_ends x y answer s out between out_new told tells old new keeper keeper_new same recording called later printed =
    let here = subst (λ z. AfterRecord answer z told tells old new (outlets out keeper) (outlets between keeper_new)) same called in
    record {
      answer = answer;
      between = between;
      called = here;
      later = later;
      prints = printed;
      alone = alone_by x recording answer s out between out_new told tells old new keeper keeper_new here later printed;
    }

-- a link that was not called
pub leaves_link : {O : Type 0} (told : O → List LinkMove → Type 0) (state : LinkState) → LeavesLink (used told told state state)
leaves_link told state = record { same = refl; told = λ o log h. h }

-- what a recording over the link leaves in the answer of its table's opening
pub opened_ends : {O : Type 0} (x : ℕ → Calling) (answer : KeeperOpen) (s : Status) (out out_new : SinkState) (link : LinkUse O) (old opened new : KeeperState)
    → Counts answer old.rows → opened.rows ≡ old.rows → old.faults ≤ opened.faults → (answer ≡ open_.Failed → Rose old.faults opened.faults)
    → BehindOpening answer (λ n. EndsRecorded (RecordsOver link (x n)) s out out_new opened new) (LeavesLink link × (new ≡ opened)) s out out_new
    → EndsRecording x s out out_new link (record { old = old; new = new })
opened_ends x answer s out out_new link old opened new counts rows later failed ended = inr (record {
  answer = answer;
  opened = opened;
  counts = counts;
  rows = rows;
  later = later;
  failed = failed;
  ended = ended;
})

-- what a recording leaves
abbrev pub Left : Type 1
Left = Result RecordEnd NoMemory → Outlets → Outlets → Type 0

recorded_as : (A B : Left) (s : Status) (out out_new : SinkState) (keeper keeper_new : KeeperState)
    → ((answer : Result RecordEnd NoMemory) (o p : Outlets) → A answer o p → B answer o p) → EndsRecorded A s out out_new keeper keeper_new
    → EndsRecorded B s out out_new keeper keeper_new
recorded_as A B s out out_new keeper keeper_new gives e = record {
  answer = e.answer;
  between = e.between;
  called = gives e.answer (outlets out keeper) (outlets e.between keeper_new) e.called;
  later = e.later;
  prints = e.prints;
  alone = e.alone;
}

opened_as : (A B : ℕ → Left) (still more : Type 0) (answer : KeeperOpen) (s : Status) (out out_new : SinkState) (opened new : KeeperState)
    → ((n : ℕ) (end : Result RecordEnd NoMemory) (o p : Outlets) → A n end o p → B n end o p) → (still → more)
    → BehindOpening answer (λ n. EndsRecorded (A n) s out out_new opened new) (still × (new ≡ opened)) s out out_new
    → BehindOpening answer (λ n. EndsRecorded (B n) s out out_new opened new) (more × (new ≡ opened)) s out out_new
opened_as A B still more (open_.Ready n) s out out_new opened new gives so (inl (room, e)) =
    inl (room, recorded_as (A n) (B n) s out out_new opened new (gives n) e)
opened_as A B still more (open_.Ready n) s out out_new opened new gives so (inr (full, same, printed)) = inr (full, (so same.0, same.1), printed)
opened_as A B still more open_.Failed s out out_new opened new gives so (same, printed) = ((so same.0, same.1), printed)
opened_as A B still more open_.Memory s out out_new opened new gives so (same, is, line) = ((so same.0, same.1), is, line)

-- a recording that leaves one thing leaves another
pub recording_as : (A B : ℕ → Left) (still more : Type 0) (s : Status) (out out_new : SinkState) (keeper : KeeperUse)
    → ((n : ℕ) (answer : Result RecordEnd NoMemory) (o p : Outlets) → A n answer o p → B n answer o p) → (still → more)
    → EndsAnyRecording A still s out out_new keeper → EndsAnyRecording B more s out out_new keeper
recording_as A B still more s out out_new keeper gives so (inl h) = inl (so h.0, h.1, h.2)
recording_as A B still more s out out_new keeper gives so (inr h) = inr (record {
  answer = h.answer;
  opened = h.opened;
  counts = h.counts;
  rows = h.rows;
  later = h.later;
  failed = h.failed;
  ended = opened_as A B still more h.answer s out out_new h.opened keeper.new gives so h.ended;
})

-- it is the same one by another name of its call
pub recorded_same : {O : Type 0} (x y : ℕ → Calling) (s : Status) (out out_new : SinkState) (link : LinkUse O) (keeper : KeeperUse)
    → ((n : ℕ) → x n ≡ y n) → EndsRecording x s out out_new link keeper → EndsRecording y s out out_new link keeper
recorded_same x y s out out_new link keeper same h =
    recording_as (λ n. RecordsOver link (x n)) (λ n. RecordsOver link (y n)) (LeavesLink link) (LeavesLink link) s out out_new keeper
    (λ n answer o p called. subst (λ (z : Calling). RecordsOver link z answer o p) (same n) called) (λ still. still) h

-- a recording from whom its words name
pub records_from : {O : Type 0} (held : Option (List NamedFile)) (waves : List Wave) (what : RecordTask) (p known : PeerWords) (failed : Type 0) (s : Status)
    (out out_new : SinkState) (link : LinkUse O) (keeper : KeeperUse) → p ≡ known
    → RecordsFrom held waves what known failed s out out_new link keeper → RecordsFrom held waves what p failed s out out_new link keeper
records_from held waves what p known failed s out out_new link keeper is h =
    let P : PeerWords → Type 0 = λ q. RecordsFrom held waves what q failed s out out_new link keeper in subst P (sym is) h

-- no recording ends before it began
recorded_not_before : (answer : Result RecordEnd NoMemory) (s : Status) (old new : SinkState) → PrintsRecorded answer s old new → IsBeforeRun s → ⊥
recorded_not_before (Ok (recorded.Loop e)) s old new printed is = answer_not_before (Ok e) s old new printed is
recorded_not_before (Ok recorded.KeeperFault) s old new printed is = not_before status.KeeperFault s old new (λ h. h) printed is
recorded_not_before (Err e) s old new printed is = answer_not_before (Err e) s old new printed is

memory_not_before : (s : Status) → s ≡ status.Memory → IsBeforeRun s → ⊥
memory_not_before s same is = subst IsBeforeRun same is

opened_not_before : {O : Type 0} (x : ℕ → Calling) (answer : KeeperOpen) (s : Status) (out out_new : SinkState) (link : LinkUse O) (opened new : KeeperState)
    → BehindOpening answer (λ n. EndsRecorded (RecordsOver link (x n)) s out out_new opened new) (LeavesLink link × (new ≡ opened)) s out out_new
    → IsBeforeRun s → ⊥
opened_not_before x (open_.Ready n) s out out_new link opened new (inl (room, e)) is = recorded_not_before e.answer s e.between out_new e.prints is
opened_not_before x (open_.Ready n) s out out_new link opened new (inr (full, still, printed)) is =
    not_before status.StoreLimit s out out_new (λ h. h) printed is
opened_not_before x open_.Failed s out out_new link opened new (still, printed) is = not_before status.KeeperFault s out out_new (λ h. h) printed is
opened_not_before x open_.Memory s out out_new link opened new (still, same, line) is = memory_not_before s same is

pub recording_not_before : {O : Type 0} (x : ℕ → Calling) (s : Status) (out out_new : SinkState) (link : LinkUse O) (keeper : KeeperUse)
    → EndsRecording x s out out_new link keeper → IsBeforeRun s → ⊥
recording_not_before x s out out_new link keeper (inl h) is = memory_not_before s h.2.0 is
recording_not_before x s out out_new link keeper (inr h) is = opened_not_before x h.answer s out out_new link h.opened keeper.new h.ended is

-- nor as a reading that failed
pub recording_reads_well : {O : Type 0} (x : ℕ → Calling) (s : Status) (out out_new : SinkState) (link : LinkUse O) (keeper : KeeperUse)
    → EndsRecording x s out out_new link keeper → s ≡ status.ReadFault → ⊥
recording_reads_well x s out out_new link keeper h is = recording_not_before x s out out_new link keeper h (subst IsBeforeRun (sym is) tt)
