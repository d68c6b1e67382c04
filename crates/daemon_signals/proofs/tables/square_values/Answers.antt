-- One value and then the other.
use Rattle.std.proofs.Common.{rules, ◌≡◌, ◌++◌, ◌∙◌}
use Rattle.std.specs.Prelude.{replicate}
use Rattle.daemon_signals.proofs.TableLemmas.{square_is}
use Rattle.daemon_signals.proofs.tables.square_values.Goals as goal

pub returns : goal.returns
returns c =
    let low : c.in_ok-values.values.items ≡ replicate c.args.ticks c.args.low = c.in_ok-values.ensures.items_if_clones_equal (λ y e. e) in
    let high : c.in_ok-second.second.items ≡ replicate c.args.ticks c.args.high = c.in_ok-second.ensures.items_if_clones_equal (λ y e. e) in
    let both : c.extend_from_slice.new.self.items ≡ c.in_ok-values.values.items ++ c.in_ok-second.second.items = search rules in
    c.from_vec.ensures ∙ (both ∙ square_is c.args.low c.args.high c.args.ticks c.in_ok-values.values.items c.in_ok-second.second.items low high)
