-- How a run ends by what its commands leave, or for want of memory.
use Rattle.std.proofs.Common.{◌≡◌, ℕ, List, [], Option, Some, None, inl, inr, subst, sym, refl}
use Rattle.signals.specs.Wave.{Wave}
use Rattle.ads_outside.specs.declared.link_move.LinkMove.{LinkMove}
use Rattle.ads_outside.specs.declared.named_file.NamedFile.{NamedFile}
use Rattle.ads_outside.specs.LinkState.{LinkState}
use Rattle.ads_outside.specs.SinkState.{SinkState}
use Rattle.ads_outside.specs.WireState.{WireHistory}
use Rattle.client_loop.specs.Called.{Calling, calling}
use Rattle.cli_words.specs.declared.client_words.ClientWords.{ClientWords}
use Rattle.cli_words.specs.declared.client_words.PeerWords.{PeerWords}
use Rattle.cli_words.specs.declared.client_words.PeerWords.TheVariants as peer
use Rattle.run_tasks.specs.declared.client_task.ClientTask.{ClientTask}
use Rattle.run_tasks.specs.declared.status.Status.{Status}
use Rattle.run_tasks.specs.declared.status.Status.TheVariants as status
use Rattle.run_tasks.specs.declared.task.Task.{Task}
use Rattle.run_tasks.specs.declared.task.Task.TheVariants as task
use Rattle.run_tasks.specs.Asking.{asked_address, call_asked, own_address}
use Rattle.client_commands.specs.AskedFrom.{AsksFrom}
use Rattle.client_commands.specs.Calling.{EndsCall, EndsLocalCall}
use Rattle.run_tasks.specs.Ending.{line_alone}
use Rattle.ads_run.specs.Ends.{RunsSo, RunsBy}
use Rattle.run_tasks.specs.Prints.{PutsMemoryLine, PrintsEnding}
use Rattle.run_tasks.specs.Readings.{OverFile, OverFiles}
use Rattle.run_tasks.specs.Tasks.{asked_task}
use Rattle.client_commands.specs.CallUses.{LinkUse, KeeperUse, link_used, used}
use Rattle.ads_run.specs.Uses.{DiskUse, Uses, uses}
use Rattle.run_tasks.specs.Verdict.{Verdict, Ends, Serves, Calls, CallsLocally, Keeps, Records, RecordsLocally}
use Rattle.run_tasks.specs.Verdict.{verdict_of, verdict_of_task, verdict_of_ask, ended}
use Rattle.plant_commands.proofs.KeepLemmas.{IsUntouched, never_kept}
use Rattle.client_commands.proofs.RecordLemmas.{leaves_link}
use Rattle.run_tasks.proofs.ReadingLemmas.{map_files, map_file, over_first}
use Rattle.client_commands.proofs.AskLemmas.{never_asked, never_called}
use Rattle.run_tasks.specs.EndsOr.{EndsOr, EndsOrBy}

-- a run that calls its files alone, or one thing more, ends as a run with its verdict
or_as_run : {O X : Type 0} (kind : X → Verdict) (C : X → Type 0) (Still : Type 0) (v : Verdict) (s : Status) (u : Uses O)
    → (Still → u.wire_new ≡ u.wire) → ((x : X) → C x → RunsSo (kind x) s u) → EndsOr kind C Still v s u.out u.out_new → RunsSo v s u
or_as_run kind C Still v s u same all (inl h) = subst (λ w. RunsSo w s u) h.is (h.printed, same h.still)
or_as_run kind C Still v s u same all (inr h) = subst (λ w. RunsSo w s u) h.is (all h.made h.comes)

by_as_run : {O X : Type 0} (kind : X → Verdict) (C : X → Type 0) (Still : Type 0) (v : Verdict) (failed : Type 0) (s : Status) (u : Uses O)
    → (Still → u.wire_new ≡ u.wire) → ((x : X) → C x → RunsSo (kind x) s u) → EndsOrBy kind C Still v failed s u.out u.out_new → RunsBy v failed s u
by_as_run kind C Still v failed s u same all (inl h) = inl (or_as_run kind C Still v s u same all h)
by_as_run kind C Still v failed s u same all (inr h) = inr (h.0, or_as_run kind C Still (ended status.ReadFault) s u same all (inl h.1))

pub files_as_run : {O X : Type 0} (kind : X → Verdict) (C : X → Type 0) (Still : Type 0) (held : Option (List NamedFile))
    (v : List NamedFile → List NamedFile → Verdict) (failed : Type 0) (s : Status) (u : Uses O)
    → (Still → u.wire_new ≡ u.wire) → ((x : X) → C x → RunsSo (kind x) s u)
    → OverFiles held (λ first second. EndsOrBy kind C Still (v first second) failed s u.out u.out_new)
    → OverFiles held (λ first second. RunsBy (v first second) failed s u)
files_as_run kind C Still held v failed s u same all h =
    map_files held (λ first second. EndsOrBy kind C Still (v first second) failed s u.out u.out_new) (λ first second. RunsBy (v first second) failed s u)
    (λ first second k. by_as_run kind C Still (v first second) failed s u same all k) h

-- the same of one file
pub file_as_run : {O X : Type 0} (kind : X → Verdict) (C : X → Type 0) (Still : Type 0) (held : Option (List NamedFile)) (v : List NamedFile → Verdict)
    (failed : Type 0) (s : Status) (u : Uses O) → (Still → u.wire_new ≡ u.wire) → ((x : X) → C x → RunsSo (kind x) s u)
    → OverFile held (λ files. EndsOrBy kind C Still (v files) failed s u.out u.out_new) → OverFiles held (λ first second. RunsBy (v first) failed s u)
file_as_run kind C Still held v failed s u same all h =
    over_first held (λ files. RunsBy (v files) failed s u)
    (map_file held (λ files. EndsOrBy kind C Still (v files) failed s u.out u.out_new) (λ files. RunsBy (v files) failed s u)
    (λ files k. by_as_run kind C Still (v files) failed s u same all k) h)

-- a disk and a keeper that were not called
abbrev pub AreUntouched : DiskUse → KeeperUse → Type 0
AreUntouched disk keeper = IsUntouched disk × (keeper.new ≡ keeper.old)

-- words that are no command are told so
pub runs_usage : {O : Type 0} (held : Option (List NamedFile)) (waves : List Wave) (failed : Type 0) (s : Status) (out out_new : SinkState)
    (wire : WireHistory)
    (link : LinkUse O) (disk : DiskUse) (keeper : KeeperUse) → PrintsEnding (line_alone status.Usage) s out out_new
    → OverFiles held (λ first second. RunsBy (verdict_of_task waves None first second) failed s (uses out out_new wire wire link disk keeper))
runs_usage None waves failed s out out_new wire link disk keeper printed = ([], [], inl (printed, refl))
runs_usage (Some files) waves failed s out out_new wire link disk keeper printed = inl (printed, refl)

-- a run that called the link
call_as_run : {O : Type 0} (held : Option (List NamedFile)) (x : Calling) (failed : Type 0) (s : Status) (u : Uses O)
    → EndsCall x s u.out u.out_new u.link
    → OverFiles held (λ first second. RunsBy (Calls x) failed s u)
call_as_run None x failed s u h = ([], [], inl h)
call_as_run (Some files) x failed s u h = inl h

-- a client's run, whatever its wire and its disk
pub asks_as_run : {O : Type 0} (held : Option (List NamedFile)) (waves : List Wave) (what : ClientTask) (client : ClientWords) (p : PeerWords)
    (failed : Type 0) (s : Status) (out out_new : SinkState) (wire : WireHistory) (link : LinkUse O) (disk : DiskUse) (keeper : KeeperUse)
    → AsksFrom held waves what client p failed s out out_new link
    → OverFiles held (λ first second. RunsBy (verdict_of_ask waves what client p first) failed s (uses out out_new wire wire link disk keeper))
asks_as_run held waves what client (peer.To to net) failed s out out_new wire link disk keeper h =
    call_as_run held (calling (own_address client) (asked_address net client) (call_asked what) to) failed s (uses out out_new wire wire link disk keeper) h
asks_as_run held waves what client (peer.Local name) failed s out out_new wire link disk keeper h =
    file_as_run CallsLocally (λ x. EndsLocalCall x s out out_new) (Unit {0}) held
    (λ files. verdict_of_ask waves what client (peer.Local name) files) failed s (uses out out_new wire wire link disk keeper)
    (λ t. refl) (λ x k. k) h

-- how the task ends is how the words end that ask for it
pub runs_as_asked : {O : Type 0} (held : Option (List NamedFile)) (waves : List Wave) (words : List (List ℕ)) (t : Option Task) (failed : Type 0) (s : Status)
    (u : Uses O) → asked_task words ≡ t → OverFiles held (λ first second. RunsBy (verdict_of_task waves t first second) failed s u)
    → OverFiles held (λ first second. RunsBy (verdict_of waves words first second) failed s u)
runs_as_asked held waves words t failed s u asked runs =
    let P : Option Task → Type 0 = λ a. OverFiles held (λ first second. RunsBy (verdict_of_task waves a first second) failed s u) in
    subst P (sym asked) runs

-- how a task ends that is known
pub runs_of_task : {O : Type 0} (held : Option (List NamedFile)) (waves : List Wave) (t other : Task) (failed : Type 0) (s : Status) (u : Uses O) → t ≡ other
    → OverFiles held (λ first second. RunsBy (verdict_of_task waves (Some other) first second) failed s u)
    → OverFiles held (λ first second. RunsBy (verdict_of_task waves (Some t) first second) failed s u)
runs_of_task held waves t other failed s u is runs =
    let P : Task → Type 0 = λ x. OverFiles held (λ first second. RunsBy (verdict_of_task waves (Some x) first second) failed s u) in
    subst P (sym is) runs

-- a run that wanted memory runs by any verdict
memory_so : {O : Type 0} (v : Verdict) (s : Status) (out out_new : SinkState) (wire : WireHistory) (told : O → List LinkMove → Type 0) (state : LinkState)
    (disk : DiskUse) (keeper : KeeperUse) → AreUntouched disk keeper → s ≡ status.Memory → PutsMemoryLine out out_new
    → RunsSo v s (uses out out_new wire wire (used told told state state) disk keeper)
memory_so (Ends e) s out out_new wire told state disk keeper untouched is line = (inr (inr (is, inl line)), refl)
memory_so (Serves service) s out out_new wire told state disk keeper untouched is line = inl (inr (refl, is, line))
memory_so (Calls x) s out out_new wire told state disk keeper untouched is line = never_called x s out out_new told state is line
memory_so (CallsLocally x) s out out_new wire told state disk keeper untouched is line = never_asked x s out out_new is line
memory_so (Keeps x) s out out_new wire told state disk keeper untouched is line = (never_kept x s out out_new disk untouched.0 is line, refl)
memory_so (Records x) s out out_new wire told state disk keeper untouched is line = inl (leaves_link told state, untouched.1, (is, line))
memory_so (RecordsLocally x) s out out_new wire told state disk keeper untouched is line = inl (tt, untouched.1, (is, line))

pub runs_without_memory : {O : Type 0} (held : Option (List NamedFile)) (v : List NamedFile → List NamedFile → Verdict) (failed : Type 0) (s : Status)
    (out out_new : SinkState) (wire : WireHistory) (told : O → List LinkMove → Type 0) (state : LinkState) (disk : DiskUse) (keeper : KeeperUse)
    → AreUntouched disk keeper → s ≡ status.Memory → PutsMemoryLine out out_new
    → OverFiles held (λ first second. RunsBy (v first second) failed s (uses out out_new wire wire (used told told state state) disk keeper))
runs_without_memory None v failed s out out_new wire told state disk keeper untouched is line =
    ([], [], inl (memory_so (v [] []) s out out_new wire told state disk keeper untouched is line))
runs_without_memory (Some files) v failed s out out_new wire told state disk keeper untouched is line =
    inl (memory_so (v files files) s out out_new wire told state disk keeper untouched is line)

-- a run that wanted memory, and left what it was handed in as it was
pub runs_untouched : {O S W L : Type 0} (held : Option (List NamedFile)) (v : List NamedFile → List NamedFile → Verdict) (failed : Type 0) (s : Status)
    (sink : S → SinkState) (out between : S) (out_new : SinkState) (history : W → WireHistory) (wire wire_new : W) (tells : L → O → List LinkMove → Type 0)
    (state : L → LinkState) (link link_new : L) (disk : DiskUse) (keeper : KeeperUse) → AreUntouched disk keeper → s ≡ status.Memory
    → PutsMemoryLine (sink between) out_new
    → between ≡ out → wire_new ≡ wire → link_new ≡ link
    → OverFiles held (λ first second. RunsBy (v first second) failed s
    (uses (sink out) out_new (history wire) (history wire_new) (link_used tells state link link_new) disk keeper))
runs_untouched held v failed s sink out between out_new history wire wire_new tells state link link_new disk keeper untouched is line same_out same_wire
    same_link =
    subst (λ w. OverFiles held (λ first second. RunsBy (v first second) failed s
    (uses (sink out) out_new (history wire) (history w) (link_used tells state link link_new) disk keeper))) (sym same_wire)
    (subst (λ l. OverFiles held (λ first second. RunsBy (v first second) failed s
    (uses (sink out) out_new (history wire) (history wire) (link_used tells state link l) disk keeper))) (sym same_link)
    (runs_without_memory held v failed s (sink out) out_new (history wire) (tells link) (state link) disk keeper untouched is
    (subst (λ o. PutsMemoryLine (sink o) out_new) same_out line)))
