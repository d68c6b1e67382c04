-- One entry more, and the ranks in order.
use Rattle.std.proofs.Common.{List, refl, sym, ◌∙◌, ap, subst, arith, length, ◌≡◌, ◌+◌}
use Rattle.std.proofs.lemmas.List.{get_or_default}
use Rattle.symbol_table.specs.declared.ranks.Ranked.{Ranked}
use Rattle.symbol_table.specs.Ranks.{RanksFirst, rank_by_symbol, is_any}
use Rattle.symbol_table.proofs.Indexed.{ranks_more, ranks_permuted}
use Rattle.symbol_table.proofs.index.index_by_symbol.Goals as goal

pub loop-entry-preserved : goal.loop-entry-preserved
loop-entry-preserved c =
    let more = ranks_more rank_by_symbol is_any c.args.kept.now c.loop-entry.entry
    c.rank_of_symbol-rank.result c.loop-entry.ranked.items c.loop-entry.invariant c.loop-entry-test.true
    (λ d. refl) (λ d. c.rank_of_symbol-rank.ensures ∙ ap rank_by_symbol (get_or_default c.args.kept.now c.loop-entry.entry _ d c.loop-entry-test.true)) in
    subst (λ (xs : List Ranked). RanksFirst rank_by_symbol is_any c.args.kept.now (c.loop-entry.entry + 1) xs) (sym c.in_ok-push.ensures.items) more

pub returns : goal.returns
returns c =
    let same : c.loop-entry.entry ≡ length c.args.kept.now = omega arith in
    let all = subst (λ n. RanksFirst rank_by_symbol is_any c.args.kept.now n c.loop-entry.ranked.items) same c.loop-entry.invariant in
    record { all = ranks_permuted rank_by_symbol is_any c.args.kept.now _ _ _ c.put_in_order.ensures.same all; rises = c.put_in_order.ensures.rises }
