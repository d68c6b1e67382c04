use Rattle.spec_relay.proofs.GivenLemmas.{gives_passages}
use Rattle.spec_relay.proofs.TakenLemmas.{takes_in_order}
use Rattle.spec_relay.proofs.frames_pass_unchanged.Goals as goal

pub returns-clause-given : goal.returns-clause-given
returns-clause-given c = gives_passages

pub returns-clause-taken : goal.returns-clause-taken
returns-clause-taken c = takes_in_order
