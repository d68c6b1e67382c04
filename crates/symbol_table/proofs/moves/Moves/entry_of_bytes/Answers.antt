-- The entry that is found is the first that passes, since no other can.
use Rattle.std.proofs.Common.{ℕ, ◌<◌, ◌^◌, List, sym, ◌∙◌, ap, subst, arith}
use Rattle.std.specs.Prelude.{Some, None, All}
use Rattle.std.proofs.lemmas.Bool.{cond-true, cond-false}
use Rattle.symbol_table.specs.declared.kept.KeptPlace.{KeptPlace}
use Rattle.symbol_table.specs.declared.ranks.Ranked.{Ranked}
use Rattle.symbol_table.specs.Moves.{has_bytes, kept_bytes}
use Rattle.symbol_table.specs.Ranks.{rank_by_byte, has_any_byte, IsIndex, IsLastAtMost}
use Rattle.symbol_table.proofs.Indexed.{no_bytes, these_bytes}
use Rattle.symbol_table.proofs.moves.Moves.entry_of_bytes.Goals as goal

pub returns-in_err-last-clause-found : goal.returns-in_err-last-clause-found
returns-in_err-last-clause-found c =
    let index = subst (λ (xs : List Ranked). IsIndex rank_by_byte has_any_byte c.self.inside.kept.items xs)
    (sym c.as_slice.ensures.value) c.self.invariant.bytes in
    let above = subst (λ (high : ℕ). All (λ (r : Ranked). high < r.rank) c.as_slice.result.now) c.rank_of_byte.ensures c.in_err-last.ensures in
    c.from_residual.ensures
    ∙ sym (no_bytes c.args.port c.args.area c.args.at c.args.len c.self.inside.kept.items c.as_slice.result.now index c.requires above)
    ∙ ap (λ (kept : List KeptPlace). kept_bytes kept c.args.port c.args.area c.args.at c.args.len) c.self.view_is

pub returns-then-has_bytes_of-clause-found : goal.returns-then-has_bytes_of-clause-found
returns-then-has_bytes_of-clause-found c =
    let index = subst (λ (xs : List Ranked). IsIndex rank_by_byte has_any_byte c.self.inside.kept.items xs)
    (sym c.as_slice.ensures.value) c.self.invariant.bytes in
    let greatest = subst (λ (high : ℕ). IsLastAtMost c.as_slice.result.now high c.in_ok-last.last) c.rank_of_byte.ensures c.in_ok-last.ensures in
    let small : c.args.at < 2 ^ 32 = omega arith in
    let found = these_bytes c.args.port c.args.area c.args.at c.args.len c.self.inside.kept.items c.as_slice.result.now
    c.in_ok-last.last c.index.result.now c.self.invariant.are_kept index greatest c.requires small c.index.ensures in
    let passes = sym c.has_bytes_of.ensures ∙ c.if-has_bytes_of.true in
    sym (found ∙ cond-true (has_bytes c.args.port c.args.area c.args.at c.args.len c.index.result.now) (Some c.index.result.now) None passes)
    ∙ ap (λ (kept : List KeptPlace). kept_bytes kept c.args.port c.args.area c.args.at c.args.len) c.self.view_is

pub returns-else-has_bytes_of-clause-found : goal.returns-else-has_bytes_of-clause-found
returns-else-has_bytes_of-clause-found c =
    let index = subst (λ (xs : List Ranked). IsIndex rank_by_byte has_any_byte c.self.inside.kept.items xs)
    (sym c.as_slice.ensures.value) c.self.invariant.bytes in
    let greatest = subst (λ (high : ℕ). IsLastAtMost c.as_slice.result.now high c.in_ok-last.last) c.rank_of_byte.ensures c.in_ok-last.ensures in
    let small : c.args.at < 2 ^ 32 = omega arith in
    let found = these_bytes c.args.port c.args.area c.args.at c.args.len c.self.inside.kept.items c.as_slice.result.now
    c.in_ok-last.last c.index.result.now c.self.invariant.are_kept index greatest c.requires small c.index.ensures in
    let passes = sym c.has_bytes_of.ensures ∙ c.if-has_bytes_of.false in
    sym (found ∙ cond-false (has_bytes c.args.port c.args.area c.args.at c.args.len c.index.result.now) (Some c.index.result.now) None passes)
    ∙ ap (λ (kept : List KeptPlace). kept_bytes kept c.args.port c.args.area c.args.at c.args.len) c.self.view_is
