-- What is answered so far, before what is answered to the bytes that are left, is what is answered to all.
use Rattle.std.proofs.Common.{◌≡◌, drop}
use Rattle.local_router.specs.Heard.{heard, local_of, answered_before}
use Rattle.local_router.proofs.answering.answer_to.Given as goal

abbrev pub invariant-loop-i : goal.invariant-loop-i
invariant-loop-i l =
    answered_before l.reply (local_of l.net.bytes (heard l.text (drop l.i l.bytes))) ≡ local_of l.net.bytes (heard l.fn.waited l.bytes)
