-- The walk has handed out as many parts as were counted.
use Rattle.std.proofs.Common.{◌≡◌}
use Rattle.process_image.proofs.tests.fill_parts.Given as goal

abbrev pub invariant-loop : goal.invariant-loop
invariant-loop l = (l.parts.place ≡ l.counter) × (l.parts.spans.now ≡ l.initial.parts.spans.now)
