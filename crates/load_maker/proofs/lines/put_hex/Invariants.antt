use Rattle.std.proofs.Common.{◌≡◌, ◌++◌, length}
use Rattle.hex.specs.Hex.{encode_lower}
use Rattle.load_maker.proofs.lines.put_hex.Given as goal

-- the digits of what is left are still to come
abbrev pub invariant-loop-left : goal.invariant-loop-left
invariant-loop-left l = l.out ++ encode_lower l.left ≡ l.initial.out ++ encode_lower l.fn.bytes

abbrev pub decreases-loop-left : goal.decreases-loop-left
decreases-loop-left l = length l.left
