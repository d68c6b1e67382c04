-- What a recording over a link leaves in the link, in the sink and in the keeper, by computation.
use Rattle.std.specs.Prelude.{◌≡◌, refl, ℕ, ◌+◌, List, [], ◌∷◌, ◌++◌, codes, true, false, Bool, Option, Some, None, Result, Ok, Err}
use Rattle.std.proofs.Common.{ap, inl, inr, lit<, lit≤, sym}
use Rattle.std.proofs.lemmas.Bool.{false≢true, le-leb}
use Rattle.std.specs.Fmt.{digits}
use Rattle.hex.specs.Hex.{encode_with}
use Rattle.ads_base.specs.declared.no_memory.NoMemory.{NoMemory}
use Rattle.ads_outside.specs.declared.connected.Connected.TheVariants as connected
use Rattle.ads_outside.specs.declared.link_move.LinkMove.{LinkMove}
use Rattle.ads_outside.specs.declared.link_move.LinkMove.TheVariants as link
use Rattle.ads_outside.specs.declared.put.Put.TheVariants as put
use Rattle.ads_outside.specs.LinkState.{LinkState, not_connected}
use Rattle.ads_outside.specs.Puts.{Appends}
use Rattle.ads_outside.specs.SinkState.{SinkState}
use Rattle.spec_frames.specs.Division.{ams_length_of, is_header, front_of, packet_of, behind_frame, frames_from, frames_of, left_behind, rest_of}
use Rattle.spec_formats.specs.Codes.{text_in}
use Rattle.spec_formats.specs.Header.{header_of}
use Rattle.spec_formats.specs.NotificationReading.{sample_of, samples_of, stamp_of, stamps_of, notification_of}
use Rattle.spec_formats.specs.Reply.{reply_in, reply_of}
use Rattle.spec_formats.specs.SymbolEntry.{SymbolEntry, is_entry, entry_of}
use Rattle.spec_formats.specs.ValueText.{form_of, signed_text, before_nul, quoted_byte, quoted, text_of}
use Rattle.spec_samples.specs.Row.{Row}
use Rattle.spec_samples.specs.Rows.{rows_after, rows_after_put}
use Rattle.spec_samples.specs.Laws.{AreCountedFrom}
use Rattle.spec_samples.specs.Totals.{last_row, total_of}
use Rattle.spec_client.specs.Unanswered.{free_id, least_id, without_first}
use Rattle.spec_client.specs.Client.{issued_by, client_after_issue, client_after_tick}
use Rattle.spec_client.specs.PassedOver.{says_something}
use Rattle.spec_client.specs.Hearing.{packet_hearing, packets_hearing, next_hearing}
use Rattle.spec_client.specs.Calls.{Record}
use Rattle.spec_client.specs.Entries.{entries_in}
use Rattle.spec_client.specs.Printed.{escaped}
use Rattle.spec_client.specs.Recordings.{after_deletion}
use Rattle.spec_client.specs.Replies.{after_reply, after_answer}
use Rattle.spec_client.specs.Stages.{Done, entries_taken}
use Rattle.spec_client.specs.Steps.{after_sample, after_end, after_heard, begun}
use Rattle.spec_client.specs.TotalLines.{total_lines}
use Rattle.spec_client.specs.Runner.{runner_after_hearing, given, turn_within, all_given, turns_within}
use Rattle.spec_client.specs.Conversation.{LinkAnswer, Bytes, CallEnded}
use Rattle.spec_client.specs.Conversation.{conversation_after_turns, conversation_going_on, conversation_after}
use Rattle.spec_client.specs.CallLog.{call_log, log_behind, log_up_to, sent_last}
use Rattle.spec_client.specs.CallOver.{conversation_after_all}
use Rattle.spec_client.proofs.Frames.{me, peer, reply, stamp}
use Rattle.client_replies.specs.declared.stage.CallEnd.TheVariants as call_end
use Rattle.client_loop.specs.declared.loop_end.LoopEnd.TheVariants as end
use Rattle.client_loop.specs.declared.record_end.RecordEnd.{RecordEnd}
use Rattle.client_loop.specs.declared.record_end.RecordEnd.TheVariants as record_end
use Rattle.client_loop.specs.Called.{Calling, calling, over}
use Rattle.client_loop.specs.LinkAfter.{history_over}
use Rattle.client_loop.specs.Outlets.{Adds, AddsPart, IsLater, outlets}
use Rattle.client_loop.specs.Recorded.{AfterRecord, NeverRecords, RecordsDone}
use Rattle.sample_store.specs.declared.keeper_open.KeeperOpen.{KeeperOpen}
use Rattle.sample_store.specs.declared.keeper_open.KeeperOpen.TheVariants as open_
use Rattle.sample_store.specs.Keeper.{KeeperState}
use Rattle.client_commands.specs.CallUses.{LinkUse, keeper_used, used}
use Rattle.client_commands.specs.RecordRows.{AddsRows}
use Rattle.client_commands.specs.Recording.{BehindOpening, EndsRecording, MOST_ROWS, PrintsRecorded}
use Rattle.run_tasks.specs.declared.status.Status.TheVariants as status
use Rattle.ads_run.proofs.RecordCauses.{IsEndOfRecording}

-- one sample of `a`, an INT, is recorded on change, from row 1 on
abbrev here : List ℕ
here = codes "localhost:48898"

abbrev pub asks : ℕ → Calling
asks rows = calling me peer (Record (codes "a" ∷ []) (record { mode = 4; cycle = 0; count = 1 }) (rows + 1)) here

-- its entry, the handle 7 of its notification, a sample of 42 at 1,000, and the answer to the deletion
abbrev pub answers : List LinkAnswer
answers = Bytes (reply 9 1 (codes "00000000 25000000 25000000 40400000 00000000 02000000 02000000 08000000 0100 0300 0000 6100 494e5400 00")) 6
    ∷ Bytes (reply 6 2 (codes "00000000 07000000")) 7 ∷ Bytes (stamp 1000 1 (codes "07000000 02000000 2a00")) 8
    ∷ Bytes (reply 7 3 (codes "00000000")) 9 ∷ []

abbrev entry : SymbolEntry
entry = record { group = 16448; offset = 0; size = 2; type_id = 2; flags = 8; name = codes "a"; type_name = codes "INT"; comment = [] }

abbrev row : Row
row = record { number = 1; name = codes "a"; time = 1000; bytes = 42 ∷ 0 ∷ [] }

abbrev text : List ℕ
text = codes "a count 1 last 1000 42\n"

-- the link tells one log alone: nothing before, and behind it what the call makes
abbrev Tells : List LinkMove → ℕ → List LinkMove → Type 0
Tells told o log = log ≡ told

abbrev moves : List LinkMove
moves = call_log me peer (asks 0).call here 5 answers

abbrev pub old_link : LinkState
old_link = record { history = not_connected; faults = 0 }

abbrev pub new_link : LinkState
new_link = record { history = history_over 5 answers; faults = 0 }

abbrev the_link : LinkUse ℕ
the_link = used (Tells []) (Tells moves) old_link new_link

abbrev no_link : LinkUse ℕ
no_link = used (Tells []) (Tells []) old_link old_link

-- a keeper that tells its rows and the names that were opened
abbrev pub keeper : List Row → List (List ℕ) → ℕ → KeeperState
keeper rows names faults = record { rows = Some rows; names = Some names; faults = faults }

abbrev f : List (List ℕ)
f = codes "f" ∷ []

abbrev sink : List ℕ → SinkState
sink held = record { held = Some held; faults = 0; wants = 0 }

-- rows are put behind those that are there, and all of them; or some first ones
adds : Adds (Some (row ∷ [])) (Some (row ∷ record row { number = 2 } ∷ [])) (record row { number = 2 } ∷ [])
unfolding rows_after rows_after_put
adds = refl

adds_part : AddsPart (Some []) (Some (row ∷ [])) (row ∷ record row { number = 2 } ∷ [])
unfolding rows_after rows_after_put
adds_part = (1, refl)

abbrev is_empty : Option (List Row) → Bool
is_empty (Some []) = true
is_empty rows = false

adds_nothing : Adds (Some []) (Some []) (row ∷ []) → ⊥
unfolding rows_after rows_after_put
adds_nothing e = false≢true (sym (ap is_empty e))

-- what is said of a table's rows: they are numbered on
numbered_on : AddsRows (Some (row ∷ [])) (Some (row ∷ record row { number = 2 } ∷ []))
unfolding AreCountedFrom
numbered_on = record { more = record row { number = 2 } ∷ []; is = refl; numbers = (refl, tt); few = lit≤ tt }

-- a count of faults that fell, and a table that was opened
later : IsLater (outlets (sink []) (keeper [] f 1)) (outlets (sink text) (keeper (row ∷ []) f 2))
later = record { sink = record { faults = lit≤ tt; wants = lit≤ tt }; keeper = lit≤ tt; names = refl }

fell : IsLater (outlets (sink []) (keeper [] f 1)) (outlets (sink []) (keeper [] f 0)) → ⊥
fell l = false≢true (le-leb 1 0 l.keeper)

abbrev rows_in : Option (List Row) → List Row
rows_in None = []
rows_in (Some rows) = rows

abbrev no_memory : NoMemory
no_memory = record {}

abbrev is_failed : KeeperOpen → Bool
is_failed open_.Failed = true
is_failed answer = false

abbrev is_loop : Result RecordEnd NoMemory → Bool
is_loop (Ok (record_end.Loop e)) = true
is_loop answer = false

record RecordRows : Type 0 where
  -- the one row, how it ended, and the entries that it took
  kept : (over (asks 0) 5 answers).kept ≡ row ∷ []
  end_is : (over (asks 0) 5 answers).end ≡ Some (CallEnded Done)
  no_text : (over (asks 0) 5 answers).text ≡ []
  entries : entries_taken (over (asks 0) 5 answers).runner.stage ≡ entry ∷ []
  totals : total_lines (row ∷ []) (entry ∷ []) ≡ text
  -- behind six rows it has number 7
  seventh : (over (asks 6) 5 answers).kept ≡ record row { number = 7 } ∷ []
  -- all of it was put: the row, and behind it the lines of the totals
  done : RecordsDone Appends (asks 0) (Tells []) (Tells moves) new_link (outlets (sink []) (keeper [] f 0)) (outlets (sink text) (keeper (row ∷ []) f 0))
  ends : EndsRecording asks status.Done (sink []) (sink text) the_link (record { old = keeper [] [] 0; new = keeper (row ∷ []) f 0 })
  -- the link was not connected
  refused : AfterRecord (Ok (record_end.Loop end.LinkFault)) (asks 0) (Tells []) (Tells (link.Refused here ∷ [])) old_link
      (record old_link { faults = 1 }) (outlets (sink []) (keeper [] f 0)) (outlets (sink []) (keeper [] f 0))
  keeper_touched : NeverRecords (asks 0) connected.Failed (Tells []) (Tells (link.Refused here ∷ [])) old_link (record old_link { faults = 1 })
      (outlets (sink []) (keeper [] f 0)) (outlets (sink []) (keeper (row ∷ []) f 0)) → ⊥
  -- want of memory at once
  wanting : AfterRecord (Err no_memory) (asks 0) (Tells []) (Tells []) old_link old_link (outlets (sink []) (keeper [] f 0))
      (outlets (sink []) (keeper [] f 0))

record_rows : RecordRows
unfolding digits encode_with ams_length_of is_header front_of packet_of behind_frame frames_from frames_of left_behind rest_of text_in header_of
    sample_of samples_of stamp_of stamps_of notification_of reply_in reply_of is_entry entry_of form_of signed_text before_nul quoted_byte quoted text_of
    rows_after rows_after_put last_row total_of free_id least_id without_first issued_by client_after_issue client_after_tick says_something
    packet_hearing packets_hearing next_hearing entries_in escaped after_deletion after_reply after_answer after_sample after_end after_heard begun
    runner_after_hearing given turn_within all_given turns_within conversation_after_turns conversation_going_on conversation_after
    conversation_after_all log_behind log_up_to sent_last
record_rows = record {
  kept = refl;
  end_is = refl;
  no_text = refl;
  entries = refl;
  totals = refl;
  seventh = refl;
  done = record {
    before = sink [];
    all = record {
      talks = record {
        moment = 5;
        answers = answers;
        history = refl;
        awaited = (refl, (refl, (refl, (refl, tt))));
        end_is = refl;
        text = refl;
        told = λ o log e. ap (λ l. l ++ moves) e;
      };
      rows = refl;
    };
    lines = text;
    are_lines = λ rows e. ap (λ o. total_lines (rows_in o) (entry ∷ [])) e;
    put = refl;
  };
  ends = inr (record {
    answer = open_.Ready 0;
    opened = keeper [] f 0;
    counts = refl;
    rows = refl;
    later = lit≤ tt;
    failed = λ e. absurd (false≢true (ap is_failed e));
    ended = inl (
      lit≤ tt,
      record {
        answer = Ok (record_end.Loop (end.Call call_end.Done));
        between = sink text;
        called = record {
          before = sink [];
          all = record {
            talks = record {
              moment = 5;
              answers = answers;
              history = refl;
              awaited = (refl, (refl, (refl, (refl, tt))));
              end_is = refl;
              text = refl;
              told = λ o log e. ap (λ l. l ++ moves) e;
            };
            rows = refl;
          };
          lines = text;
          are_lines = λ rows e. ap (λ o. total_lines (rows_in o) (entry ∷ [])) e;
          put = refl;
        };
        later = record { sink = record { faults = lit≤ tt; wants = lit≤ tt }; keeper = lit≤ tt; names = refl };
        prints = inl (refl, refl);
        alone = λ e. absurd (false≢true (sym (ap is_loop e)));
      },
    );
  });
  refused = (
    lit≤ tt,
    inl (record {
      begins = record { same = refl; silent = refl; told = λ o log e. ap (λ l. l ++ link.Refused here ∷ []) e };
      untouched = refl;
    }),
  );
  keeper_touched = λ n. false≢true (ap (λ (k : KeeperState). is_empty k.rows) n.untouched);
  wanting = inl (record { begins = record { same = refl; silent = refl; told = λ o log e. e }; untouched = refl });
}

-- the table could not be opened: that is told, and the link was not called
cannot_open : EndsRecording asks status.KeeperFault (sink []) (sink (codes "ads: keeper fault\n")) no_link
    (record { old = keeper [] [] 0; new = keeper [] f 1 })
cannot_open = inr (record {
  answer = open_.Failed;
  opened = keeper [] f 1;
  counts = tt;
  rows = refl;
  later = lit≤ tt;
  failed = λ e. lit≤ tt;
  ended = ((record { same = refl; told = λ o log e. e }, refl), inl (refl, refl));
})

-- memory was wanting before it was
wanted_first : EndsRecording asks status.Memory (sink []) (sink (codes "ads: memory\n")) no_link (record { old = keeper [] [] 0; new = keeper [] [] 0 })
wanted_first = inl (record { same = refl; told = λ o log e. e }, refl, (refl, (put.All, refl)))

-- a table of so many rows takes no more; one with room is not told so
full : BehindOpening (open_.Ready 9223372036853775808) (λ n. ⊥) (Unit {0}) status.StoreLimit (sink []) (sink (codes "ads: store limit\n"))
full = inr (lit< tt, tt, inl (refl, refl))

not_full : BehindOpening (open_.Ready MOST_ROWS) (λ n. ⊥) (Unit {0}) status.StoreLimit (sink []) (sink (codes "ads: store limit\n")) → ⊥
not_full (inl (room, goes_on)) = goes_on
not_full (inr (more, still, printed)) = false≢true (le-leb 9223372036853775808 9223372036853775807 more)

-- a keeper that is its own state
handed_in : keeper_used (λ (k : KeeperState). k) (keeper [] [] 0) (keeper (row ∷ []) f 0) ≡ record { old = keeper [] [] 0; new = keeper (row ∷ []) f 0 }
handed_in = refl

-- where the keeper failed that line is all that is printed
keeper_failed : PrintsRecorded (Ok record_end.KeeperFault) status.KeeperFault (sink []) (sink (codes "ads: keeper fault\n"))
keeper_failed = inl (refl, refl)

-- the status is that of the call over the link's answers, behind the rows that the table has
pub ended_so : IsEndOfRecording asks status.Done new_link (Some [])
unfolding digits encode_with ams_length_of is_header front_of packet_of behind_frame frames_from frames_of left_behind rest_of text_in header_of
    sample_of samples_of stamp_of stamps_of notification_of reply_in reply_of is_entry entry_of form_of signed_text before_nul quoted_byte quoted text_of
    rows_after rows_after_put last_row total_of free_id least_id without_first issued_by client_after_issue client_after_tick says_something
    packet_hearing packets_hearing next_hearing entries_in escaped after_deletion after_reply after_answer after_sample after_end after_heard begun
    runner_after_hearing given turn_within all_given turns_within conversation_after_turns conversation_going_on conversation_after
    conversation_after_all log_behind log_up_to sent_last
ended_so = record {
  count = 0;
  counts = refl;
  room = lit≤ tt;
  moment = 5;
  answers = answers;
  history = refl;
  ended = CallEnded Done;
  end_is = refl;
  status = refl;
}
