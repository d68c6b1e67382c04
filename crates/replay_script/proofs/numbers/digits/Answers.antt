-- Digits are read one by one; the number is none where it has more than 64 bits.
use Rattle.std.proofs.Common.{◌≤◌, ◌+◌, ◌-◌, ◌*◌, ◌^◌, get_or, arith, ◌∙◌}
use Rattle.replay_script.proofs.DigitLemmas.{value_of-grown, value_of-end}
use Rattle.replay_script.proofs.numbers.digits.Goals as goal

pub returns-in_err-checked_mul : goal.returns-in_err-checked_mul
returns-in_err-checked_mul c =
    let word = c.args.word.now in
    let place = c.loop-digit.digit-index in
    let great : 2 ^ 64 ≤ 10 * c.loop-digit.number + (get_or word place 0 - 48) = omega (arith, c.in_err-checked_mul.ensures) in
    c.from_residual.ensures ∙ value_of-grown word place c.loop-digit.number c.loop-digit.invariant c.loop-digit-test.true great

pub returns-in_err-number : goal.returns-in_err-number
returns-in_err-number c =
    let word = c.args.word.now in
    let place = c.loop-digit.digit-index in
    let great : 2 ^ 64 ≤ 10 * c.loop-digit.number + (get_or word place 0 - 48) = omega
    (arith, c.in_err-number.ensures, c.in_ok-checked_mul.ensures, c.from.ensures) in
    c.from_residual-in_err-number.ensures ∙ value_of-grown word place c.loop-digit.number c.loop-digit.invariant c.loop-digit-test.true great

pub returns : goal.returns
returns c = value_of-end c.args.word.now c.loop-digit.digit-index c.loop-digit.number c.loop-digit.invariant c.loop-digit-test.false
