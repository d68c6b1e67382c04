use Rattle.spec_relay.proofs.AnswerLemmas.{answers_each_once}
use Rattle.spec_relay.proofs.MarkLemmas.{passes_by_mark}
use Rattle.spec_relay.proofs.responses_reach_askers.Goals as goal

pub returns-clause-once : goal.returns-clause-once
returns-clause-once c = answers_each_once

pub returns-clause-marked : goal.returns-clause-marked
returns-clause-marked c = passes_by_mark
