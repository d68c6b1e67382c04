-- The entry that is found is the first that passes, since no other can.
use Rattle.std.proofs.Common.{ℕ, ◌<◌, ◌^◌, List, sym, ◌∙◌, ap, subst, arith}
use Rattle.std.specs.Prelude.{Some, None, All}
use Rattle.std.proofs.lemmas.Bool.{cond-true, cond-false}
use Rattle.symbol_table.specs.declared.kept.KeptPlace.{KeptPlace}
use Rattle.symbol_table.specs.declared.ranks.Ranked.{Ranked}
use Rattle.symbol_table.specs.Moves.{is_symbol, kept_symbol}
use Rattle.symbol_table.specs.Ranks.{rank_by_symbol, is_any, IsIndex, IsLastAtMost}
use Rattle.symbol_table.proofs.Indexed.{no_symbol, this_symbol}
use Rattle.symbol_table.proofs.moves.Moves.entry_of_symbol.Goals as goal

pub returns-in_err-last-clause-found : goal.returns-in_err-last-clause-found
returns-in_err-last-clause-found c =
    let index = subst (λ (xs : List Ranked). IsIndex rank_by_symbol is_any c.self.inside.kept.items xs)
    (sym c.as_slice.ensures.value) c.self.invariant.symbols in
    let above = subst (λ (high : ℕ). All (λ (r : Ranked). high < r.rank) c.as_slice.result.now) c.rank_of_symbol.ensures c.in_err-last.ensures in
    c.from_residual.ensures ∙ sym (no_symbol c.args.port c.args.symbol c.self.inside.kept.items c.as_slice.result.now index above)
    ∙ ap (λ (kept : List KeptPlace). kept_symbol kept c.args.port c.args.symbol) c.self.view_is

pub returns-then-is_symbol_of-clause-found : goal.returns-then-is_symbol_of-clause-found
returns-then-is_symbol_of-clause-found c =
    let index = subst (λ (xs : List Ranked). IsIndex rank_by_symbol is_any c.self.inside.kept.items xs)
    (sym c.as_slice.ensures.value) c.self.invariant.symbols in
    let greatest = subst (λ (high : ℕ). IsLastAtMost c.as_slice.result.now high c.in_ok-last.last) c.rank_of_symbol.ensures c.in_ok-last.ensures in
    let small : c.args.symbol < 2 ^ 32 = omega arith in
    let found = this_symbol c.args.port c.args.symbol c.self.inside.kept.items c.as_slice.result.now c.in_ok-last.last
    c.index.result.now c.self.invariant.are_kept index greatest small c.index.ensures c.is_symbol_of.ensures.number in
    let passes = sym c.is_symbol_of.ensures.found ∙ c.if-is_symbol_of.true in
    sym (found ∙ cond-true (is_symbol c.args.port c.args.symbol c.index.result.now) (Some c.index.result.now) None passes)
    ∙ ap (λ (kept : List KeptPlace). kept_symbol kept c.args.port c.args.symbol) c.self.view_is

pub returns-else-is_symbol_of-clause-found : goal.returns-else-is_symbol_of-clause-found
returns-else-is_symbol_of-clause-found c =
    let index = subst (λ (xs : List Ranked). IsIndex rank_by_symbol is_any c.self.inside.kept.items xs)
    (sym c.as_slice.ensures.value) c.self.invariant.symbols in
    let greatest = subst (λ (high : ℕ). IsLastAtMost c.as_slice.result.now high c.in_ok-last.last) c.rank_of_symbol.ensures c.in_ok-last.ensures in
    let small : c.args.symbol < 2 ^ 32 = omega arith in
    let found = this_symbol c.args.port c.args.symbol c.self.inside.kept.items c.as_slice.result.now c.in_ok-last.last
    c.index.result.now c.self.invariant.are_kept index greatest small c.index.ensures c.is_symbol_of.ensures.number in
    let passes = sym c.is_symbol_of.ensures.found ∙ c.if-is_symbol_of.false in
    sym (found ∙ cond-false (is_symbol c.args.port c.args.symbol c.index.result.now) (Some c.index.result.now) None passes)
    ∙ ap (λ (kept : List KeptPlace). kept_symbol kept c.args.port c.args.symbol) c.self.view_is
