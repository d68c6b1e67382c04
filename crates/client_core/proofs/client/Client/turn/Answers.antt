use Rattle.client_core.proofs.Verdicts.{cut_is, turned, turned_quiet, turned_broken, still_broken}
use Rattle.client_core.proofs.HistoryLemmas.{match_err}
use Rattle.client_core.proofs.client.Client.turn.Goals as goal

pub returns-in_err-break_off-in-Broken-clause-turns :
    goal.returns-in_err-break_off-in-Broken-clause-turns
returns-in_err-break_off-in-Broken-clause-turns c =
    match_err c.from_residual-in_err-break_off-in-Broken.result _ _ c.from_residual-in_err-break_off-in-Broken.ensures.0
    (still_broken c.args.self.now c.packet.new.self c.break_off.new.self
    (cut_is _ _ _ _ c.in-Broken.is c.in_ok-packet.ensures.cuts) c.in_err-break_off-in-Broken.ensures.no_memory)

pub returns-in-Frame-clause-turns : goal.returns-in-Frame-clause-turns
returns-in-Frame-clause-turns c =
    turned c.args.self.now c.packet.new.self c.hear_packet.new.self c.in-Frame.packet
    (cut_is _ _ _ _ c.in-Frame.is c.in_ok-packet.ensures.cuts) c.hear_packet.result
    c.hear_packet.ensures.ok c.hear_packet.ensures.no_memory

pub returns-in-NotYet-clause-turns : goal.returns-in-NotYet-clause-turns
returns-in-NotYet-clause-turns c = turned_quiet c.args.self.now c.packet.new.self (cut_is _ _ _ _ c.in-NotYet.is c.in_ok-packet.ensures.cuts)

pub returns-in_ok-break_off-in-Broken-clause-turns :
    goal.returns-in_ok-break_off-in-Broken-clause-turns
returns-in_ok-break_off-in-Broken-clause-turns c =
    turned_broken c.args.self.now c.packet.new.self c.break_off.new.self c.in_ok-break_off-in-Broken.field-0
    (cut_is _ _ _ _ c.in-Broken.is c.in_ok-packet.ensures.cuts)
    c.in_ok-break_off-in-Broken.ensures.ok
