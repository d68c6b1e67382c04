use Rattle.std.proofs.Common.{◌≤◌, length, sym, ◌∙◌, subst, arith}
use Rattle.std.specs.VecDeque.{deque_len}
use Rattle.std.proofs.lemmas.List.Edits.{insert_end}
use Rattle.notify_table.specs.Turns.{AreInTurn}
use Rattle.notify_table.proofs.TurnLemmas.{in_turn_behind}
use Rattle.notify_table.proofs.ring.put_last.Goals as goal

pub returns-clause-put : goal.returns-clause-put
returns-clause-put c =
    let within : length c.args.ring.now.items ≤ deque_len c.args.ring.now = omega (arith, c.args.ring.now.ok.0) in
    (length c.args.ring.now.items, within, c.push_back_reserved.ensures.items ∙ sym (insert_end c.args.ring.now.items c.args.one))

pub returns-clause-in_turn : goal.returns-clause-in_turn
returns-clause-in_turn c =
    subst AreInTurn (sym c.push_back_reserved.ensures.items)
    (in_turn_behind c.args.one c.args.ring.now.items c.requires.handle c.requires.in_turn c.requires.behind)
