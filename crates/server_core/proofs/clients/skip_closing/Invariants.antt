use Rattle.std.proofs.Common.{◌≡◌, length, take, drop}
use Rattle.server_core.specs.Columns.{skipped}
use Rattle.server_core.proofs.clients.skip_closing.Given as goal

-- those before this one are marked
abbrev pub invariant-loop-i : goal.invariant-loop-i
invariant-loop-i l = record {
  many : length l.sessions.items ≡ length l.initial.sessions.items;
  marked : take l.i l.sessions.items ≡ take l.i (skipped l.outlets l.initial.sessions.items);
  left : drop l.i l.sessions.items ≡ drop l.i l.initial.sessions.items;
}
