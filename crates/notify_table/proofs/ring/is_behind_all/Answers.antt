use Rattle.std.proofs.Common.{◌≡◌, length, ◌∙◌, sym, arith}
use Rattle.std.specs.VecDeque.{deque_len}
use Rattle.notify_table.specs.Turns.{rank_of}
use Rattle.notify_table.proofs.TurnLemmas.{behind_last}
use Rattle.notify_table.proofs.ring.is_behind_all.Goals as goal

pub returns-in-Some : goal.returns-in-Some
returns-in-Some c = λ later.
    let is_len : deque_len c.args.ring.now ≡ length c.args.ring.now.items = omega (arith, c.args.ring.now.ok.0) in
    behind_last (rank_of c.args.next c.args.handle) c.args.ring.now.items (deque_len c.args.ring.now) c.in-Some.last.now c.requires is_len
    c.in-Some.ensures.lookup
    (sym c.is_before.ensures ∙ later)
