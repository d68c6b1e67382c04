-- Both entries, as the tables have them.
use Rattle.std.proofs.Common.{◌≡◌, ◌∙◌, arith}
use Rattle.replay_script.specs.HexPairs.{worth}
use Rattle.replay_script.proofs.PairLemmas.{first_at, second_at, first_worth-le, second_worth-le}
use Rattle.replay_script.proofs.hex_pairs.pair.Goals as goal

pub overflow_add-result : goal.overflow_add-result
overflow_add-result c =
    let one : c.entry.result ≡ worth 16 c.args.first = c.entry.ensures ∙ first_at c.args.first (omega arith) in
    let two : c.entry-2.result ≡ worth 1 c.args.second = c.entry-2.ensures ∙ second_at c.args.second (omega arith) in
    omega (arith, one, two, first_worth-le c.args.first, second_worth-le c.args.second)

pub returns : goal.returns
returns c =
    let one : c.entry.result ≡ worth 16 c.args.first = c.entry.ensures ∙ first_at c.args.first (omega arith) in
    let two : c.entry-2.result ≡ worth 1 c.args.second = c.entry-2.ensures ∙ second_at c.args.second (omega arith) in
    omega (arith, one, two)
