-- A recording: how it begins, and the whole of it behind the connection.
use Rattle.std.proofs.Common.{◌≡◌, ℕ, ◌+◌, ◌≤◌, List, length, Option, Some, None, sym, ap, ◌∙◌, inl, inr, arith}
use Rattle.std.specs.Prelude.{Result, Ok, Err}
use Rattle.ads_base.specs.declared.no_memory.NoMemory.{NoMemory}
use Rattle.ads_outside.specs.declared.link_move.LinkMove.{LinkMove}
use Rattle.ads_outside.specs.LinkState.{LinkState, connected_at}
use Rattle.ads_outside.specs.Puts.{Appends, AppendsPart}
use Rattle.spec_samples.specs.Row.{Row}
use Rattle.spec_formats.specs.Header.{AmsAddress}
use Rattle.spec_client.specs.Calls.{Record, Watching}
use Rattle.spec_client.specs.Conversation as conversation
use Rattle.spec_client.specs.Runner.{CallStep, new_runner}
use Rattle.spec_client.specs.Stages.{Done}
use Rattle.spec_client.specs.TotalLines.{total_lines}
use Rattle.spec_client_laws.proofs.KeptLemmas.{begun_counts}
use Rattle.sample_store.specs.Keeper.{AreNumbered}
use Rattle.client_replies.specs.declared.stage.CallEnd.TheVariants as call_end
use Rattle.client_calls.specs.Kept.{RunnerKept}
use Rattle.client_calls.specs.Represents.{StandsFor}
use Rattle.client_loop.specs.declared.loop_end.LoopEnd.TheVariants as end
use Rattle.client_loop.specs.declared.record_end.RecordEnd.{RecordEnd}
use Rattle.client_loop.specs.declared.record_end.RecordEnd.TheVariants as record_end
use Rattle.client_loop.specs.Called.{Calling}
use Rattle.client_loop.specs.Due.{AtSend, AtPrint, Anywhere}
use Rattle.client_loop.specs.Hearing.{IsWhole, none_of}
use Rattle.client_loop.specs.Lines.{EndsWithLines, EndsInPart, EndsRecord}
use Rattle.client_loop.specs.Outlets.{Outlets}
use Rattle.client_loop.specs.Ready.{IsBehind, IsReady}
use Rattle.client_loop.specs.Recorded.{IsFirst, RecordsAll, RecordsSome, RecordsDone, AfterRecord}
use Rattle.client_loop.proofs.SaidLemmas.{adds_nothing}
use Rattle.client_loop.proofs.TalkLemmas.{begun_by, begins_by, Joins, talks_from, breaks_from, recv_fails, send_fails}
use Rattle.client_loop.proofs.TurnLemmas.{rose_later}

-- a recording that begins is ready for its first row
pub ready_first : (k : RunnerKept) (me peer : AmsAddress) (names : List (List ℕ)) (w : Watching)
    (first : ℕ) (rows : Option (List Row)) → AreNumbered rows → IsFirst rows first
    → StandsFor k (new_runner me peer (Record names w first)) → IsReady k rows
ready_first k me peer names w first None numbered is stands = record { runner = _; stands = stands; fits = tt }
ready_first k me peer names w first (Some there) numbered is stands =
    let next : first + 0 ≡ length there + 1 = omega (arith, is) in
    let fits : IsBehind there (new_runner me peer (Record names w first)) = record {
      first = first;
      limit = w.count;
      kept = 0;
      counted = numbered;
      counts = begun_counts me peer (Record names w first);
      next = next;
    } in
    record { runner = new_runner me peer (Record names w first); stands = stands; fits = fits }

abbrev all_records : {O : Type 0} (x : Calling) (now : ℕ) (k : RunnerKept) (ended : Option conversation.LoopEnd)
    (first second third : O → List LinkMove → Type 0) (mid_link new_link : LinkState) (out new_out : Outlets)
    → mid_link.history ≡ connected_at now → Joins x now first second
    → IsWhole (none_of (begun_by x now)) (begun_by x now) k ended second third mid_link new_link out new_out
    → RecordsAll x ended first third new_link out new_out
all_records x now k ended first second third mid_link new_link out new_out at joins g = record {
  talks = talks_from x now k ended first second third mid_link new_link out new_out at joins g;
  rows = g.rows out.keeper.rows (adds_nothing out.keeper.rows);
}

some_records : {O : Type 0} (IsStop : List CallStep → Type 0) (x : Calling) (now : ℕ) (first second third : O → List LinkMove → Type 0)
    (mid_link new_link : LinkState) (out new_out : Outlets)
    → mid_link.history ≡ connected_at now → Joins x now first second
    → EndsInPart IsStop (begins_by x now) (begun_by x now) second third mid_link new_link out new_out
    → RecordsSome IsStop x first third new_link out new_out
some_records IsStop x now first second third mid_link new_link out new_out at joins g = record {
  breaks = breaks_from IsStop x now first second third mid_link new_link out new_out at joins g;
  rows = g.rows out.keeper.rows (adds_nothing out.keeper.rows);
}

done_records : {O : Type 0} (IsPut : Option (List ℕ) → Option (List ℕ) → List ℕ → Type 0) (x : Calling) (now : ℕ)
    (first second third : O → List LinkMove → Type 0) (mid_link new_link : LinkState) (out new_out : Outlets)
    → mid_link.history ≡ connected_at now → Joins x now first second → EndsWithLines IsPut (begun_by x now) second third mid_link new_link out new_out
    → RecordsDone IsPut x first third new_link out new_out
done_records IsPut x now first second third mid_link new_link out new_out at joins g =
    let all = all_records x now g.kept (Some (conversation.CallEnded Done)) first second third mid_link new_link out g.mid at joins g.whole in
    let same = g.lines.same in
    record {
      before = g.mid.sink;
      all = record { talks = all.talks; rows = same ∙ all.rows };
      lines = g.lines.lines;
      are_lines = λ rows told. g.lines.are_lines rows (sym same ∙ told) ∙ ap (total_lines rows) g.whole.entries;
      put = g.lines.put;
    }

-- the whole recording, behind its connection
pub records : {O : Type 0} (result : Result RecordEnd NoMemory) (x : Calling) (now : ℕ)
    (first second third : O → List LinkMove → Type 0) (link mid_link new_link : LinkState) (out new_out : Outlets)
    → mid_link.history ≡ connected_at now → link.faults ≤ mid_link.faults → Joins x now first second
    → EndsRecord result (begins_by x now) (begun_by x now) second third mid_link new_link out new_out
    → AfterRecord result x first third link new_link out new_out
records (Ok (record_end.Loop (end.Call call_end.Done))) x now first second third link mid_link new_link out new_out at later joins g =
    done_records Appends x now first second third mid_link new_link out new_out at joins g
records (Ok (record_end.Loop (end.Call (call_end.Refused code)))) x now first second third link mid_link new_link out new_out at later joins g =
    all_records x now g.0 _ first second third mid_link new_link out new_out at joins g.1
records (Ok (record_end.Loop (end.Call (call_end.BadPeer p)))) x now first second third link mid_link new_link out new_out at later joins g =
    all_records x now g.0 _ first second third mid_link new_link out new_out at joins g.1
records (Ok (record_end.Loop (end.Call call_end.BadValue))) x now first second third link mid_link new_link out new_out at later joins g =
    all_records x now g.0 _ first second third mid_link new_link out new_out at joins g.1
records (Ok (record_end.Loop (end.Call (call_end.TimedOut sent at_)))) x now first second third link mid_link new_link out new_out at later joins g =
    all_records x now g.0 _ first second third mid_link new_link out new_out at joins g.1
records (Ok (record_end.Loop end.Budget)) x now first second third link mid_link new_link out new_out at later joins g =
    all_records x now g.0 _ first second third mid_link new_link out new_out at joins g.1
records (Ok (record_end.Loop end.LinkFault)) x now first second third link mid_link new_link out new_out at later joins g =
    let Receiving = RecordsAll x None first third new_link out new_out in
    let Sending = RecordsSome AtSend x first third new_link out new_out in (
      rose_later link.faults mid_link.faults new_link.faults later g.0,
      elim g.1 [
        | inl w ↦
            let all = all_records x now w.0 None first second third mid_link new_link out new_out at joins w.1 in
            inr (recv_fails x first third new_link out.sink new_out.sink Receiving Sending all.talks all)
        | inr w ↦
            let some = some_records AtSend x now first second third mid_link new_link out new_out at joins w in
            inr (send_fails x first third new_link out.sink new_out.sink Receiving Sending some.breaks some)
      ],
    )
records (Ok (record_end.Loop end.WriteFault)) x now first second third link mid_link new_link out new_out at later joins g = (
  g.0,
  elim g.1 [
    | inl w ↦ inl (some_records AtPrint x now first second third mid_link new_link out new_out at joins w)
    | inr w ↦ inr (done_records AppendsPart x now first second third mid_link new_link out new_out at joins w)
  ],
)
records (Ok record_end.KeeperFault) x now first second third link mid_link new_link out new_out at later joins g = (
  g.0,
  elim g.1 [
    | inl w ↦ inl (some_records Anywhere x now first second third mid_link new_link out new_out at joins w)
    | inr w ↦ inr (all_records x now w.0 _ first second third mid_link new_link out new_out at joins w.1)
  ],
)
records (Err e) x now first second third link mid_link new_link out new_out at later joins g = elim g [
  | inl w ↦ inr (inl (some_records Anywhere x now first second third mid_link new_link out new_out at joins w))
  | inr w ↦ inr (inr (done_records AppendsPart x now first second third mid_link new_link out new_out at joins w))
]
