-- Logs of a machine: one that goes on by a move, and the first part of one.
use Rattle.std.proofs.Common.{◌≡◌, List, [], ◌∷◌, ◌++◌, refl}
use Rattle.ads_outside.specs.declared.link_move.LinkMove.{LinkMove}
use Rattle.spec_machine.specs.MachineState.{MachineState}
use Rattle.spec_machine.specs.Moves.{EventStep}
use Rattle.spec_client.specs.Conversation.{LinkAnswer, Sent, Conversation, conversation_begun, conversation_after}
use Rattle.spec_client.specs.CallLog.{sent_moves, sent_behind, log_behind, log_up_to}
use Rattle.spec_local.specs.Laws.{FirstPartsAreLogs, CallLogsBegin}
use Rattle.spec_local.specs.LocalCall.{machine_after_pieces}
use Rattle.spec_local.specs.LinkLog.{machine_after_link_move, machine_after_log, IsMoveOf, IsLogOf}

pub machine_after_log-more : {W C : Type 0} (step : EventStep W C) (s : MachineState W C) (log : List LinkMove) (m : LinkMove)
    → machine_after_log step s (log ++ m ∷ []) ≡ machine_after_link_move step (machine_after_log step s log) m
unfolding machine_after_log
machine_after_log-more step s [] m = refl
machine_after_log-more step s (l ∷ ls) m = machine_after_log-more step (machine_after_link_move step s l) ls m

pub is_log-more : {W C : Type 0} (step : EventStep W C) (s : MachineState W C) (log : List LinkMove) (m : LinkMove)
    → IsLogOf step s log → IsMoveOf step (machine_after_log step s log) m → IsLogOf step s (log ++ m ∷ [])
unfolding machine_after_log IsLogOf
is_log-more step s [] m logs is = (is, tt)
is_log-more step s (l ∷ ls) m logs is = (logs.0, is_log-more step (machine_after_link_move step s l) ls m logs.1 is)

pub first_parts : {W C : Type 0} → FirstPartsAreLogs W C
unfolding IsLogOf
first_parts step s [] more logs = tt
first_parts step s (m ∷ ms) more logs = (logs.0, first_parts step (machine_after_link_move step s m) ms more logs.1)

-- behind some sends
pub behind_sends : {W C : Type 0} (step : EventStep W C) (s : MachineState W C) (sent : List Sent) (more : List LinkMove)
    → IsLogOf step s (sent_moves sent ++ more) → IsLogOf step (machine_after_pieces step s sent) more
unfolding IsLogOf machine_after_link_move machine_after_pieces
behind_sends step s [] more logs = logs
behind_sends step s (p ∷ ps) more logs = behind_sends step _ ps more logs.1

sends_then : {W C : Type 0} (step : EventStep W C) (s : MachineState W C) (sent : List Sent) (old new : List LinkMove)
    → (IsLogOf step (machine_after_pieces step s sent) old → IsLogOf step (machine_after_pieces step s sent) new)
    → IsLogOf step s (sent_moves sent ++ old) → IsLogOf step s (sent_moves sent ++ new)
unfolding IsLogOf machine_after_link_move machine_after_pieces
sends_then step s [] old new then_ logs = then_ logs
sends_then step s (p ∷ ps) old new then_ logs = (logs.0, sends_then step _ ps old new then_ logs.1)

up_to : {W C : Type 0} (step : EventStep W C) (answers : List LinkAnswer) (s : MachineState W C) (pending : List Sent) (c : Conversation)
    → IsLogOf step s (log_behind pending c answers) → IsLogOf step s (log_up_to pending c answers)
unfolding IsLogOf log_behind log_up_to
up_to step [] s pending c logs = tt
up_to step (a ∷ answers) s pending c logs =
    sends_then step s pending _ _ (λ l. (l.0, up_to step answers _ (sent_behind c a) (conversation_after c a) l.1)) logs

pub call_logs_begin : {W C : Type 0} → CallLogsBegin W C
unfolding IsLogOf
call_logs_begin step s me peer call to now answers logs =
    let c = conversation_begun me peer call now in
    (logs.0, up_to step answers _ c.sent c logs.1)
