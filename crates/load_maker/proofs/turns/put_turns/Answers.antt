use Rattle.std.proofs.Common.{◌≡◌, ◌+◌, ◌*◌, ◌%◌, ap, sym, ◌∙◌, append-nil, arith}
use Rattle.load_maker.specs.LoadScript.{load_number}
use Rattle.load_maker.proofs.LoadLemmas.{load_number-none, load_number-next, turns-more}
use Rattle.load_maker.proofs.turns.put_turns.Goals as goal

pub loop-i-init : goal.loop-i-init
loop-i-init c = record {
  number = c.from-x.ensures ∙ load_number-none c.args.n;
  small = omega arith;
  lines = sym (append-nil c.args.out.now);
}

pub loop-i-preserved : goal.loop-i-preserved
loop-i-preserved c =
    let number : c.next_number-x.result ≡ load_number c.args.n (c.loop-i.i + 1) =
    c.next_number-x.ensures.next ∙ (ap (λ x. (x * 1103515245 + 12345) % 2147483648) c.loop-i.invariant.number ∙ load_number-next c.args.n c.loop-i.i) in
    record {
      number = number;
      small = c.next_number-x.ensures.small;
      lines = turns-more c.args.out.now c.put_turn.new.out c.loop-i.out c.args.n c.loop-i.i
          c.next_number-x.result c.loop-i.invariant.lines number c.in_ok-put_turn.ensures;
    }
