-- What the end of a run says of its cause.
use Rattle.std.proofs.Common.{◌≡◌, rules, ℕ, List, Option, Some, None, inl, inr, subst, ap, sym, ◌∙◌, refl, zero, length}
use Rattle.std.specs.Prelude.{◌≤◌, Bool}
use Rattle.signals.specs.Wave.{Wave}
use Rattle.ads_outside.specs.declared.end.End.{End}
use Rattle.ads_outside.specs.declared.end.End.TheVariants as end
use Rattle.ads_outside.specs.declared.moves.Move.{Move}
use Rattle.ads_outside.specs.declared.named_file.NamedFile.{NamedFile}
use Rattle.ads_outside.specs.LinkState.{LinkState}
use Rattle.ads_outside.specs.Named.{bytes_of}
use Rattle.ads_outside.specs.Rose.{Rose, raised}
use Rattle.ads_outside.specs.SinkState.{SinkState}
use Rattle.ads_outside.specs.WireState.{WireHistory, listened}
use Rattle.spec_plant.specs.Description.{Description}
use Rattle.spec_local_room.specs.Laws.{is_setting}
use Rattle.spec_store.specs.Slots.{Standing}
use Rattle.serve_loop.specs.Leads.{events_in}
use Rattle.serve_loop.specs.TurnTaken.{raised_by}
use Rattle.serve_loop.proofs.EndLemmas.{events-after}
use Rattle.serve_loop.proofs.TurnLemmas.{stops-after, ends-after}
use Rattle.keep_play.specs.KeptSaves.{saves_of_play}
use Rattle.run_tasks.specs.declared.file_task.FileTask.{FileTask}
use Rattle.run_tasks.specs.declared.status.Status.{Status}
use Rattle.run_tasks.specs.declared.status.Status.TheVariants as status
use Rattle.run_tasks.specs.declared.task.Task.{Task}
use Rattle.run_tasks.specs.declared.task.Task.TheVariants as task
use Rattle.cli_words.specs.declared.client_words.ClientWords.{ClientWords}
use Rattle.cli_words.specs.declared.client_words.PeerWords.{PeerWords}
use Rattle.cli_words.specs.declared.client_words.PeerWords.TheVariants as peer
use Rattle.client_loop.specs.Called.{calling}
use Rattle.run_tasks.specs.declared.client_task.ClientTask.{ClientTask}
use Rattle.run_tasks.specs.Asking.{local_calling, call_asked, own_address, asked_address}
use Rattle.run_tasks.specs.declared.record_task.RecordTask.{RecordTask}
use Rattle.ads_run.proofs.Causes.{CauseOfRecord, CauseOfAsking, CauseOfKeeping, CauseOfService, IsLocalEnd, HasCause, EndsOfWire, TakesAll, FailsOfWire}
use Rattle.run_tasks.specs.Ending.{Ending, line_alone}
use Rattle.ads_run.specs.Ends.{RunsSo, RunsBy}
use Rattle.run_tasks.specs.KeepAsked.{Keeping, keeping}
use Rattle.plant_commands.specs.Keeping.{EndsKeeping, PrintsKept, kept_ending}
use Rattle.run_tasks.specs.Prints.{PrintsEnding}
use Rattle.run_tasks.specs.Readings.{OverFiles}
use Rattle.run_tasks.specs.Service.{Service, ServedMachine, OfRelay, server_with, ending_after}
use Rattle.plant_commands.specs.Serving.{MakesMoves, PrintsAt, EndsService}
use Rattle.run_tasks.specs.RecordAsked.{recording_to, local_recording}
use Rattle.ads_run.proofs.RecordCauses.{CauseOfLocalRecording}
use Rattle.client_commands.specs.CallUses.{KeeperUse}
use Rattle.ads_run.specs.Uses.{Uses}
use Rattle.run_tasks.specs.Verdict.{Verdict, Serves, CallsLocally, RecordsLocally, ended, prints, over_store}
use Rattle.run_tasks.specs.Verdict.{verdict_of_file, verdict_of_service, verdict_of_task, verdict_of_ask, verdict_of_record}
use Rattle.ads_run.proofs.RecordCauseLemmas.{recording_facts, same_faults}
use Rattle.ads_run.proofs.RecordLocalEnds.{local_recording_facts}
use Rattle.ads_run.proofs.CallCauseLemmas.{CallFacts, ending_told, told_facts, wanting_facts, unwritten_facts, call_facts, local_facts}
use Rattle.run_tasks.proofs.VerdictLemmas.{Holds, of_both, of_description_file, of_file_task}

-- what the end of a run of a task says
pub record Facts {O : Type 0} (asked : Option Task) (s : Status) (u : Uses O) : Type 0 where
  pub cause : HasCause asked s u
  pub write_fault : s ≡ status.WriteFault → Rose u.out.faults u.out_new.faults
  pub usage : s ≡ status.Usage → asked ≡ None

at_writing : (what : ClientTask) (client : ClientWords) (p : PeerWords) (lo ln : LinkState) → CauseOfAsking what client p status.WriteFault lo ln
at_writing what client (peer.To to net) lo ln = tt
at_writing what client (peer.Local description) lo ln = tt

recording_written : (what : RecordTask) (p : PeerWords) (lo ln : LinkState) (keeper : KeeperUse) → CauseOfRecord what p status.WriteFault lo ln keeper
recording_written what (peer.To to net) lo ln keeper = tt
recording_written what (peer.Local description) lo ln keeper = tt

recording_wants : (what : RecordTask) (p : PeerWords) (lo ln : LinkState) (keeper : KeeperUse) → CauseOfRecord what p status.Memory lo ln keeper
recording_wants what (peer.To to net) lo ln keeper = tt
recording_wants what (peer.Local description) lo ln keeper = tt

recording_read : (what : RecordTask) (p : PeerWords) (lo ln : LinkState) (keeper : KeeperUse) → CauseOfRecord what p status.ReadFault lo ln keeper
recording_read what (peer.To to net) lo ln keeper = tt
recording_read what (peer.Local description) lo ln keeper = tt

writing_cause : {O : Type 0} (asked : Option Task) (u : Uses O) → HasCause asked status.WriteFault u
writing_cause None u = tt
writing_cause (Some (task.OfFiles t)) u = tt
writing_cause (Some (task.Serve d l n)) u = tt
writing_cause (Some (task.RelayServe d l n)) u = tt
writing_cause (Some (task.Keep d script store)) u = tt
writing_cause (Some (task.Ask what client)) u = at_writing what client client.peer u.link.old u.link.new
writing_cause (Some (task.Record what)) u = recording_written what what.client.peer u.link.old u.link.new u.keeper

at_memory : (what : ClientTask) (client : ClientWords) (p : PeerWords) (lo ln : LinkState) → CauseOfAsking what client p status.Memory lo ln
at_memory what client (peer.To to net) lo ln = tt
at_memory what client (peer.Local description) lo ln = tt

memory_cause : {O : Type 0} (asked : Option Task) (u : Uses O) → HasCause asked status.Memory u
memory_cause None u = tt
memory_cause (Some (task.OfFiles t)) u = tt
memory_cause (Some (task.Serve d l n)) u = tt
memory_cause (Some (task.RelayServe d l n)) u = tt
memory_cause (Some (task.Keep d script store)) u = tt
memory_cause (Some (task.Ask what client)) u = at_memory what client client.peer u.link.old u.link.new
memory_cause (Some (task.Record what)) u = recording_wants what what.client.peer u.link.old u.link.new u.keeper

cause_without_memory : {O : Type 0} (asked : Option Task) (s : Status) (u : Uses O) → s ≡ status.Memory → HasCause asked s u
cause_without_memory asked s u is = subst (λ t. HasCause asked t u) (sym is) (memory_cause asked u)

at_reading : (what : ClientTask) (client : ClientWords) (p : PeerWords) (lo ln : LinkState) → CauseOfAsking what client p status.ReadFault lo ln
at_reading what client (peer.To to net) lo ln = tt
at_reading what client (peer.Local description) lo ln = tt

reading_cause : {O : Type 0} (asked : Option Task) (u : Uses O) → HasCause asked status.ReadFault u
reading_cause None u = tt
reading_cause (Some (task.OfFiles t)) u = tt
reading_cause (Some (task.Serve d l n)) u = tt
reading_cause (Some (task.RelayServe d l n)) u = tt
reading_cause (Some (task.Keep d script store)) u = tt
reading_cause (Some (task.Ask what client)) u = at_reading what client client.peer u.link.old u.link.new
reading_cause (Some (task.Record what)) u = recording_read what what.client.peer u.link.old u.link.new u.keeper

-- of a run that was to end so
ending_facts : {O : Type 0} (asked : Option Task) (e : Ending) (s : Status) (u : Uses O) → HasCause asked e.status u
    → (e.status ≡ status.WriteFault → ⊥) → (e.status ≡ status.Usage → asked ≡ None) → PrintsEnding e s u.out u.out_new → Facts asked s u
ending_facts asked e s u cause no_fault usage (inl h) = record {
  cause = subst (λ t. HasCause asked t u) (sym h.0) cause;
  write_fault = λ is. absurd (no_fault (sym h.0 ∙ is));
  usage = λ is. usage (sym h.0 ∙ is);
}
ending_facts asked e s u cause no_fault usage (inr (inl h)) = record {
  cause = subst (λ t. HasCause asked t u) (sym h.0) (writing_cause asked u);
  write_fault = λ is. h.1.1;
  usage = λ is. let other : status.WriteFault ≡ status.Usage = sym h.0 ∙ is in cc;
}
ending_facts asked e s u cause no_fault usage (inr (inr h)) = record {
  cause = cause_without_memory asked s u h.0;
  write_fault = λ is. let other : status.Memory ≡ status.WriteFault = sym h.0 ∙ is in cc;
  usage = λ is. let other : status.Memory ≡ status.Usage = sym h.0 ∙ is in cc;
}

-- the causes of a service's ends
done_cause : (service : Service) (moves : List Move) (wire wire_new : WireHistory)
    → MakesMoves service end.Done moves (listened service.start wire) wire_new → EndsOfWire service.limit wire wire_new
done_cause service moves wire wire_new made =
    let h = listened service.start wire in
    record {
      count = events_in moves;
      fewer = made.count;
      events = ap (λ (x : WireHistory). x.events) made.grown ∙ events-after moves h;
      ended = ap (λ (x : WireHistory). x.ends) made.grown ∙ ap raised (ends-after moves h);
      no_stop = ap (λ (x : WireHistory). x.stops) made.grown ∙ stops-after moves h;
    }

budget_cause : (service : Service) (moves : List Move) (wire wire_new : WireHistory)
    → MakesMoves service end.Budget moves (listened service.start wire) wire_new → TakesAll service.limit wire wire_new
budget_cause service moves wire wire_new made =
    let h = listened service.start wire in
    record {
      events = ap (λ (x : WireHistory). x.events) made.grown ∙ (events-after moves h ∙ ap (λ n. raised_by n wire.events) made.count);
      no_end = ap (λ (x : WireHistory). x.ends) made.grown ∙ ends-after moves h;
      no_stop = ap (λ (x : WireHistory). x.stops) made.grown ∙ stops-after moves h;
    }

pub fault_cause : (service : Service) (moves : List Move) (wire wire_new : WireHistory)
    → MakesMoves service end.LinkFault moves (listened service.start wire) wire_new → FailsOfWire service.limit wire wire_new
fault_cause service moves wire wire_new made =
    let h = listened service.start wire in
    let P : ℕ → Type 0 = λ n. Rose n wire_new.stops in
    record {
      stopped = subst P (stops-after moves h) made.grown.stopped;
      no_end = ap (λ (x : WireHistory). x.ends) made.grown.same ∙ ends-after moves h;
      count = events_in moves;
      fewer = inr made.count;
      events = ap (λ (x : WireHistory). x.events) made.grown.same ∙ events-after moves h;
    }

start_cause : (service : Service) (wire wire_new : WireHistory) → wire_new ≡ record (listened service.start wire) { stops = wire_new.stops }
    → Rose wire.stops wire_new.stops → FailsOfWire service.limit wire wire_new
unfolding raised_by
start_cause service wire wire_new same stopped = record {
  stopped = stopped;
  no_end = ap (λ (x : WireHistory). x.ends) same;
  count = zero;
  fewer = inl refl;
  events = ap (λ (x : WireHistory). x.events) same;
}

-- why a service of so many events ended, over what its wire did
abbrev ServiceCause : ℕ → WireHistory → WireHistory → Status → Type 0
ServiceCause limit wire wire_new s = CauseOfService limit s wire wire_new

-- of a service that ran
run_facts : (service : Service) (r : End) (moves : List Move) (s : Status) (out between out_new : SinkState) (wire wire_new : WireHistory)
    → out.faults ≤ between.faults → MakesMoves service r moves (listened service.start wire) wire_new
    → PrintsAt r (ending_after service moves r) s between out_new → CallFacts (ServiceCause service.limit wire wire_new) s out out_new
run_facts service end.Done moves s out between out_new wire wire_new later made printed =
    ending_told (ServiceCause service.limit wire wire_new) (ending_after service moves end.Done) s out between out_new
    (done_cause service moves wire wire_new made) tt tt (λ e. (cc)) (λ e. (cc)) later printed
run_facts service end.Budget moves s out between out_new wire wire_new later made printed =
    ending_told (ServiceCause service.limit wire wire_new) (ending_after service moves end.Budget) s out between out_new
    (budget_cause service moves wire wire_new made) tt tt (λ e. (cc)) (λ e. (cc)) later printed
run_facts service end.LinkFault moves s out between out_new wire wire_new later made printed =
    ending_told (ServiceCause service.limit wire wire_new) (ending_after service moves end.LinkFault) s out between out_new
    (fault_cause service moves wire wire_new made) tt tt (λ e. (cc)) (λ e. (cc)) later printed
run_facts service end.Memory moves s out between out_new wire wire_new later made printed =
    wanting_facts (ServiceCause service.limit wire wire_new) s out out_new tt printed.0

-- of a service
service_facts : (service : Service) (s : Status) (out out_new : SinkState) (wire wire_new : WireHistory) → EndsService service s out out_new wire wire_new
    → CallFacts (ServiceCause service.limit wire wire_new) s out out_new
service_facts service s out out_new wire wire_new (inl (inl h)) =
    ending_told (ServiceCause service.limit wire wire_new) (line_alone status.LinkFault) s out out out_new
    (start_cause service wire wire_new h.0.same h.0.stopped) tt tt (λ e. (cc)) (λ e. (cc)) (same_faults out) h.1
service_facts service s out out_new wire wire_new (inl (inr h)) = wanting_facts (ServiceCause service.limit wire wire_new) s out out_new tt h.1
service_facts service s out out_new wire wire_new (inr (inl (same, inl h))) =
    unwritten_facts (ServiceCause service.limit wire wire_new) s out out_new out_new tt h.0 refl h.1.1
service_facts service s out out_new wire wire_new (inr (inl (same, inr h))) = wanting_facts (ServiceCause service.limit wire wire_new) s out out_new tt h.0
service_facts service s out out_new wire wire_new (inr (inr h)) =
    run_facts service h.runs.ended h.runs.moves s out h.between out_new wire wire_new h.told.later.faults h.runs.wire h.runs.prints

file_facts : {O : Type 0} (t : FileTask) (s : Status) (u : Uses O) → Holds (λ v. RunsSo v s u → Facts (Some (task.OfFiles t)) s u)
file_facts t s u =
    let facts : (e : Ending) → HasCause (Some (task.OfFiles t)) e.status u → (e.status ≡ status.WriteFault → ⊥)
    → (e.status ≡ status.Usage → Some (task.OfFiles t) ≡ None)
    → PrintsEnding e s u.out u.out_new → Facts (Some (task.OfFiles t)) s u = λ e. ending_facts (Some (task.OfFiles t)) e s u in
    record {
      prints_ = λ text h. facts (record { status = status.Done; text = text }) tt (λ e. (cc)) (λ e. (cc)) h.0;
      bad = λ n item h. facts (line_alone (status.BadDescription n item)) tt (λ e. (cc)) (λ e. (cc)) h.0;
      script = λ n h. facts (line_alone (status.BadScript n)) tt (λ e. (cc)) (λ e. (cc)) h.0;
      unread = λ h. facts (line_alone status.ReadFault) tt (λ e. (cc)) (λ e. (cc)) h.0;
      long = λ h. facts (line_alone status.TooLong) tt (λ e. (cc)) (λ e. (cc)) h.0;
    }

-- of a service of a file's description
served_facts : {O : Type 0} (signals : ℕ) (machine : Description → ServedMachine) (d l : List ℕ) (limit : ℕ) (first : List NamedFile) (s : Status) (u : Uses O)
    → RunsSo (verdict_of_file (verdict_of_service signals machine d l limit) (bytes_of first d)) s u
    → CallFacts (ServiceCause limit u.wire u.wire_new) s u.out u.out_new
served_facts signals machine d l limit first s u h =
    let C : Status → Type 0 = ServiceCause limit u.wire u.wire_new in
    let service : List ℕ → Description → Service =
    λ bytes x. record { start = record { listen = l; name = d; first = bytes }; machine = machine x; limit = limit } in
    of_description_file (λ v. RunsSo v s u → CallFacts C s u.out u.out_new) signals (λ bytes x. Serves (service bytes x)) (bytes_of first d)
    (λ k. ending_told C (line_alone status.ReadFault) s u.out u.out u.out_new tt tt tt (λ e. (cc)) (λ e. (cc)) (same_faults u.out) k.0)
    (λ k. ending_told C (line_alone status.TooLong) s u.out u.out u.out_new tt tt tt (λ e. (cc)) (λ e. (cc)) (same_faults u.out) k.0)
    (λ n item k. ending_told C (line_alone (status.BadDescription n item)) s u.out u.out u.out_new tt tt tt (λ e. (cc)) (λ e. (cc)) (same_faults u.out) k.0)
    (λ bytes x k. service_facts (service bytes x) s u.out u.out_new u.wire u.wire_new k) h

-- of a client's call in the same process, which may set a value
ended_facts : (sets : Bool) (st s : Status) (out out_new : SinkState) → IsLocalEnd sets st → (st ≡ status.WriteFault → ⊥) → (st ≡ status.Usage → ⊥)
    → PrintsEnding (line_alone st) s out out_new → CallFacts (IsLocalEnd sets) s out out_new
ended_facts sets st s out out_new cause no_fault no_usage printed =
    told_facts (IsLocalEnd sets) st s out out out_new cause tt tt no_fault no_usage (search rules) printed

-- of a client's command
asked_facts : {O : Type 0} (waves : List Wave) (what : ClientTask) (client : ClientWords) (p : PeerWords) (first : List NamedFile) (s : Status) (u : Uses O)
    → RunsSo (verdict_of_ask waves what client p first) s u → CallFacts (λ t. CauseOfAsking what client p t u.link.old u.link.new) s u.out u.out_new
asked_facts waves what client (peer.To to net) first s u h =
    call_facts (calling (own_address client) (asked_address net client) (call_asked what) to) s u.out u.out_new u.link h
asked_facts waves what client (peer.Local name) first s u h =
    let sets = is_setting (call_asked what) in
    of_description_file (λ v. RunsSo v s u → CallFacts (IsLocalEnd sets) s u.out u.out_new) (length waves)
    (λ bytes d. CallsLocally (local_calling d waves what client)) (bytes_of first name)
    (λ k. ended_facts sets status.ReadFault s u.out u.out_new tt (λ e. (cc)) (λ e. (cc)) k.0)
    (λ k. ended_facts sets status.TooLong s u.out u.out_new tt (λ e. (cc)) (λ e. (cc)) k.0)
    (λ n item k. ended_facts sets (status.BadDescription n item) s u.out u.out_new tt (λ e. (cc)) (λ e. (cc)) k.0)
    (λ bytes d k. local_facts (local_calling d waves what client) s u.out u.out_new k) h

-- of a recording
local_recording_told : (st s : Status) (out out_new : SinkState) (keeper : KeeperUse) → CauseOfLocalRecording st keeper.old keeper.new
    → (st ≡ status.WriteFault → ⊥) → (st ≡ status.Usage → ⊥) → PrintsEnding (line_alone st) s out out_new
    → CallFacts (λ t. CauseOfLocalRecording t keeper.old keeper.new) s out out_new
local_recording_told st s out out_new keeper cause no_fault no_usage printed =
    told_facts (λ t. CauseOfLocalRecording t keeper.old keeper.new) st s out out out_new cause tt tt no_fault no_usage (search rules) printed

record_facts : {O : Type 0} (waves : List Wave) (what : RecordTask) (p : PeerWords) (first : List NamedFile) (s : Status) (u : Uses O)
    → RunsSo (verdict_of_record waves what p first) s u → CallFacts (λ t. CauseOfRecord what p t u.link.old u.link.new u.keeper) s u.out u.out_new
record_facts waves what (peer.To to net) first s u h = recording_facts (recording_to what net to) s u.out u.out_new u.link u.keeper h
record_facts waves what (peer.Local name) first s u h =
    of_description_file (λ v. RunsSo v s u → CallFacts (λ t. CauseOfLocalRecording t u.keeper.old u.keeper.new) s u.out u.out_new) (length waves)
    (λ bytes d. RecordsLocally (local_recording d waves what)) (bytes_of first name)
    (λ k. local_recording_told status.ReadFault s u.out u.out_new u.keeper tt (λ e. (cc)) (λ e. (cc)) k.0)
    (λ k. local_recording_told status.TooLong s u.out u.out_new u.keeper tt (λ e. (cc)) (λ e. (cc)) k.0)
    (λ n item k. local_recording_told (status.BadDescription n item) s u.out u.out_new u.keeper tt (λ e. (cc)) (λ e. (cc)) k.0)
    (λ bytes d k. local_recording_facts (local_recording d waves what) (λ n. refl) s u.out u.out_new u.keeper k) h

-- of a play over a store that was to end so
told_facts_of_keep : {O : Type 0} (d script store : List ℕ) (e : Ending) (s : Status) (u : Uses O) → CauseOfKeeping e.status u.disk.faults u.disk.faults_new
    → (e.status ≡ status.WriteFault → ⊥) → (e.status ≡ status.Usage → ⊥) → PrintsEnding e s u.out u.out_new → Facts (Some (task.Keep d script store)) s u
told_facts_of_keep d script store e s u cause no_fault no_usage printed =
    ending_facts (Some (task.Keep d script store)) e s u cause no_fault (λ is. absurd (no_usage is)) printed

kept_facts : {O : Type 0} (d script store : List ℕ) (x : Keeping) (s : Status) (u : Uses O) (standing : Option Standing) (saves : List (List ℕ))
    → PrintsKept x s u.out u.out_new u.disk standing saves → Facts (Some (task.Keep d script store)) s u
kept_facts d script store x s u standing saves (inl h) = told_facts_of_keep d script store (kept_ending x standing) s u tt (λ e. (cc)) (λ e. (cc)) h.1
kept_facts d script store x s u standing saves (inr (inl h)) =
    told_facts_of_keep d script store (line_alone status.StoreLimit) s u tt (λ e. (cc)) (λ e. (cc)) h.1
kept_facts d script store x s u standing saves (inr (inr (inl h))) =
    told_facts_of_keep d script store (line_alone status.StoreFault) s u h.0 (λ e. (cc)) (λ e. (cc)) h.1
kept_facts d script store x s u standing saves (inr (inr (inr h))) = record {
  cause = cause_without_memory (Some (task.Keep d script store)) s u h.0;
  write_fault = λ is. let other : status.Memory ≡ status.WriteFault = sym h.0 ∙ is in cc;
  usage = λ is. let other : status.Memory ≡ status.Usage = sym h.0 ∙ is in cc;
}

kept_says : {O : Type 0} (d script store : List ℕ) (x : Keeping) (s : Status) (u : Uses O) → EndsKeeping x s u.out u.out_new u.disk
    → Facts (Some (task.Keep d script store)) s u
kept_says d script store x s u h =
    kept_facts d script store x s u h.standing (saves_of_play x.description x.waves x.lines h.standing) h.ends

ending_says : {O : Type 0} (d script store : List ℕ) (s : Status) (u : Uses O) → Holds (λ v. RunsSo v s u → Facts (Some (task.Keep d script store)) s u)
ending_says d script store s u = record {
  prints_ = λ text h. told_facts_of_keep d script store (record { status = status.Done; text = text }) s u tt (λ e. (cc)) (λ e. (cc)) h.0;
  bad = λ n item h. told_facts_of_keep d script store (line_alone (status.BadDescription n item)) s u tt (λ e. (cc)) (λ e. (cc)) h.0;
  script = λ n h. told_facts_of_keep d script store (line_alone (status.BadScript n)) s u tt (λ e. (cc)) (λ e. (cc)) h.0;
  unread = λ h. told_facts_of_keep d script store (line_alone status.ReadFault) s u tt (λ e. (cc)) (λ e. (cc)) h.0;
  long = λ h. told_facts_of_keep d script store (line_alone status.TooLong) s u tt (λ e. (cc)) (λ e. (cc)) h.0;
}

facts_so : {O : Type 0} (waves : List Wave) (asked : Option Task) (first second : List NamedFile) (s : Status) (u : Uses O)
    → RunsSo (verdict_of_task waves asked first second) s u → Facts asked s u
facts_so waves None first second s u h = ending_facts None (line_alone status.Usage) s u tt (λ e. (cc)) (λ e. refl) h.0
facts_so waves (Some (task.OfFiles t)) first second s u h =
    of_file_task (λ v. RunsSo v s u → Facts (Some (task.OfFiles t)) s u) (file_facts t s u) waves t first second h
facts_so waves (Some (task.Serve d l limit)) first second s u h =
    let f = served_facts (length waves) (server_with waves) d l limit first s u h in
    record { cause = f.cause; write_fault = f.write_fault; usage = λ is. absurd (f.usage is) }
facts_so waves (Some (task.RelayServe d l limit)) first second s u h =
    let f = served_facts (length waves) OfRelay d l limit first s u h in
    record { cause = f.cause; write_fault = f.write_fault; usage = λ is. absurd (f.usage is) }
facts_so waves (Some (task.Keep d script store)) first second s u h =
    let Says : Verdict → Type 0 = λ v. RunsSo v s u → Facts (Some (task.Keep d script store)) s u in
    of_both Says (ending_says d script store s u) (over_store waves)
    (λ x lines k. kept_says d script store (keeping x waves lines) s u k.0) (length waves) d script first second h
facts_so waves (Some (task.Ask what client)) first second s u h =
    let f = asked_facts waves what client client.peer first s u h in
    record { cause = f.cause; write_fault = f.write_fault; usage = λ is. absurd (f.usage is) }
facts_so waves (Some (task.Record what)) first second s u h =
    let f = record_facts waves what what.client.peer first s u h in
    record { cause = f.cause; write_fault = f.write_fault; usage = λ is. absurd (f.usage is) }

facts_by : {O : Type 0} (waves : List Wave) (asked : Option Task) (first second : List NamedFile) (failed : Type 0) (s : Status) (u : Uses O)
    → RunsBy (verdict_of_task waves asked first second) failed s u → Facts asked s u
facts_by waves asked first second failed s u (inl h) = facts_so waves asked first second s u h
facts_by waves asked first second failed s u (inr h) =
    ending_facts asked (line_alone status.ReadFault) s u (reading_cause asked u) (λ e. (cc)) (λ e. (cc)) h.1.0

-- what the end of a run says, whatever the files hold
pub facts_of : {O : Type 0} (held : Option (List NamedFile)) (waves : List Wave) (asked : Option Task) (failed : Type 0) (s : Status) (u : Uses O)
    → OverFiles held (λ first second. RunsBy (verdict_of_task waves asked first second) failed s u) → Facts asked s u
facts_of None waves asked failed s u h = facts_by waves asked h.0 h.1 failed s u h.2
facts_of (Some files) waves asked failed s u h = facts_by waves asked files files failed s u h
