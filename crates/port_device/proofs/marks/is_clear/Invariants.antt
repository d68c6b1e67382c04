use Rattle.std.proofs.Common.{◌≡◌, ℕ, ◌<◌, ◌≤◌, get_or, false}
use Rattle.port_device.proofs.marks.is_clear.Given as goal

-- the marks before this one are clear
abbrev pub invariant-loop-k : goal.invariant-loop-k
invariant-loop-k l = (j : ℕ) → l.first ≤ j → j < l.k → get_or l.marks j false ≡ false
