use Rattle.client_core.specs.Unanswered.{is_at}
use Rattle.client_core.proofs.UnansweredLemmas.{NoneBefore}
use Rattle.client_core.proofs.unanswered.place_of.Given as goal

abbrev pub invariant-loop-i : goal.invariant-loop-i
invariant-loop-i l = NoneBefore (is_at l.timed_out l.id) l.us l.i
