-- Which call, stage, output and end of a call a kept value is.
use Rattle.std.specs.Prelude.{ℕ, [], map}
use Rattle.spec_client.specs.Calls as calls
use Rattle.spec_client.specs.Printed.{ok_line}
use Rattle.spec_client.specs.Stages as stages
use Rattle.sample_store.specs.Views.{row_kept}
use Rattle.client_leaves.specs.Kept.{leaf_kept}
use Rattle.client_replies.specs.Kept.{entry_kept, request_kept}
use Rattle.client_replies.specs.declared.call.Call.{Call}
use Rattle.client_replies.specs.declared.call.Call.TheVariants as call
use Rattle.client_replies.specs.declared.call.Mode2.{Mode2}
use Rattle.client_replies.specs.declared.call.Mode2.TheVariants as mode
use Rattle.client_replies.specs.declared.recording.Recorded.{Recorded}
use Rattle.client_replies.specs.declared.recording.Recording.{Recording}
use Rattle.client_replies.specs.declared.recording.RecordWait.{RecordWait}
use Rattle.client_replies.specs.declared.recording.RecordWait.TheVariants as wait
use Rattle.client_replies.specs.declared.watching.Watching.{Watching}
use Rattle.client_replies.specs.declared.stage.CallEnd.{CallEnd}
use Rattle.client_replies.specs.declared.stage.CallEnd.TheVariants as end
use Rattle.client_replies.specs.declared.stage.Output.{Output}
use Rattle.client_replies.specs.declared.stage.Output.TheVariants as output
use Rattle.client_replies.specs.declared.stage.Purpose.{Purpose}
use Rattle.client_replies.specs.declared.stage.Purpose.TheVariants as purpose
use Rattle.client_replies.specs.declared.stage.Stage.{Stage}
use Rattle.client_replies.specs.declared.stage.Stage.TheVariants as stage
use Rattle.client_replies.specs.declared.stage.Progress.{Progress}

abbrev pub mode_meant : Mode2 → ℕ
mode_meant mode.Cycle = calls.SERVER_CYCLE
mode_meant mode.Change = calls.SERVER_ON_CHANGE

abbrev pub watching_of : ℕ → ℕ → ℕ → calls.Watching
watching_of m cycle count = record { mode = m; cycle = cycle; count = count }

abbrev pub call_meant : Call → calls.Call
call_meant call.Info = calls.Info
call_meant call.State = calls.State
call_meant (call.Control ads device) = calls.Control ads device
call_meant (call.Get name) = calls.Get name
call_meant (call.Set name text) = calls.Set name text
call_meant call.List = calls.Symbols
call_meant (call.Watch name m cycle count) = calls.Watch name (watching_of (mode_meant m) cycle count)
call_meant (call.Show name) = calls.Show name

abbrev pub watching_kept : Watching → calls.Watching
watching_kept w = watching_of (mode_meant w.mode) w.cycle w.count

abbrev pub end_meant : CallEnd → stages.CallEnd
end_meant end.Done = stages.Done
end_meant (end.Refused code) = stages.Refused code
end_meant (end.BadPeer peer) = stages.BadPeer peer
end_meant end.BadValue = stages.BadValue
end_meant (end.TimedOut sent now) = stages.TimedOut sent now

abbrev pub output_kept : Output → stages.Output
output_kept (output.ToSend asked) = stages.ToSend (request_kept asked)
output_kept (output.ToPrint text) = stages.ToPrint text
output_kept (output.ToKeep row) = stages.ToKeep (row_kept row)

abbrev pub purpose_kept : Purpose → stages.Purpose
purpose_kept purpose.ToGet = stages.ToGet
purpose_kept (purpose.ToSet text) = stages.ToSet text
purpose_kept (purpose.ToWatch w) = stages.ToWatch (watching_kept w)
purpose_kept purpose.ToShow = stages.ToShow

abbrev pub recorded_kept : Recorded → stages.Recorded
recorded_kept n = record { handle = n.handle; name = n.name }

abbrev pub recording_kept : Recording → stages.Recording
recording_kept r = record {
  watching = watching_kept r.watching;
  first = r.first;
  names = r.names.items;
  entries = map entry_kept r.entries;
  notifications = map recorded_kept r.notifications;
  ended = r.ended;
  kept = r.kept;
}

abbrev pub wait_kept : RecordWait → stages.RecordWait
wait_kept wait.ForEntry = stages.ForEntry
wait_kept (wait.ForNotification name) = stages.ForNotification name
wait_kept wait.ForSamples = stages.ForSamples
wait_kept (wait.ForDeletion left) = stages.ForDeletion left.items

abbrev pub stage_kept : Stage → stages.Stage
stage_kept stage.AwaitsFacts = stages.AwaitsFacts
stage_kept stage.AwaitsState = stages.AwaitsState
stage_kept stage.AwaitsOk = stages.AwaitsLast ok_line
stage_kept stage.AwaitsDeletion = stages.AwaitsLast []
stage_kept (stage.AwaitsEntry p name) = stages.AwaitsEntry (purpose_kept p) name
stage_kept (stage.AwaitsValue e) = stages.AwaitsValue (entry_kept e)
stage_kept (stage.AwaitsHandle value) = stages.AwaitsHandle value
stage_kept (stage.AwaitsWrite handle) = stages.AwaitsWrite handle
stage_kept stage.AwaitsUploadInfo = stages.AwaitsUploadInfo
stage_kept (stage.AwaitsUpload count) = stages.AwaitsUpload count
stage_kept (stage.AwaitsNotification e w) = stages.AwaitsNotification (entry_kept e) (watching_kept w)
stage_kept (stage.Watches e handle left) = stages.Watches (entry_kept e) handle left
stage_kept (stage.AwaitsTypeInfo name e) = stages.AwaitsTypeInfo name (entry_kept e)
stage_kept (stage.AwaitsTypes name e count) = stages.AwaitsTypes name (entry_kept e) count
stage_kept (stage.AwaitsLeaves size leaves) = stages.AwaitsLeaves size (map leaf_kept leaves)
stage_kept (stage.Records w r) = stages.Records (wait_kept w) (recording_kept r)
stage_kept (stage.Finished e) = stages.Finished (end_meant e)
stage_kept (stage.FinishedRecording e entries) = stages.FinishedRecording (end_meant e) (map entry_kept entries)

abbrev pub progress_kept : Progress → stages.Progress
progress_kept p = stages.progress (stage_kept p.stage) (map output_kept p.outputs)
