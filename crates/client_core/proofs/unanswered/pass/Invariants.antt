use Rattle.std.proofs.Common.{◌≡◌, ◌++◌, take, drop}
use Rattle.std.specs.Prelude.{map}
use Rattle.spec_client.specs.Unanswered.{after_tick_of}
use Rattle.client_core.proofs.unanswered.pass.Given as goal

abbrev pub invariant-loop-u : goal.invariant-loop-u
invariant-loop-u l = l.us ≡ map (after_tick_of l.now) (take l.u-index l.initial.us) ++ drop l.u-index l.initial.us
