use Rattle.client_core.proofs.HistoryLemmas.{match_err}
use Rattle.client_core.proofs.Verdicts.{hears_passed, still_passed}
use Rattle.client_core.proofs.client.Client.hear_frames.Goals as goal

pub loop-heard-init : goal.loop-heard-init
loop-heard-init c = λ client s. s

pub returns-in_err-heard : goal.returns-in_err-heard
returns-in_err-heard c =
    match_err c.from_residual.result _ _ c.from_residual.ensures.0 (λ client s. c.in_err-heard.ensures.turns client (c.loop-heard.invariant client s))

pub returns-in-Some : goal.returns-in-Some
returns-in-Some c = hears_passed c.args.self.now c.loop-heard.self c.turn.new.self
    c.in_ok-heard.field-0 c.in-Some.heard c.in-Some.is c.loop-heard.invariant c.in_ok-heard.ensures.turns

pub loop-heard-preserved : goal.loop-heard-preserved
loop-heard-preserved c =
    still_passed c.args.self.now c.loop-heard.self c.turn.new.self c.in_ok-heard.field-0 c.in_default.is c.loop-heard.invariant c.in_ok-heard.ensures.turns
