-- The bytes before this one are digits, and the number is theirs.
use Rattle.replay_script.proofs.DigitLemmas.{DigitsSoFar}
use Rattle.replay_script.proofs.numbers.digits.Given as goal

abbrev pub invariant-loop-digit : goal.invariant-loop-digit
invariant-loop-digit l = DigitsSoFar l.word l.digit-index l.number
