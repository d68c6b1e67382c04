-- The ranks up to this one come first, and the last of them is the greatest.
use Rattle.std.proofs.Common.{ℕ, ◌-◌, ◌<◌, ◌≤◌, length, get_or, ap, subst, leb, leb-true, leb-false, arith, rules, inl, inr}
use Rattle.std.proofs.lemmas.List.Sorted.{IsPartitionPoint-from_clause, IsPartitionedBy-leb}
use Rattle.std.proofs.lemmas.List.Elements.{Contains-get_or}
use Rattle.std.proofs.lemmas.Bool.{cases_lt}
use Rattle.std.proofs.lemmas.List.{get_or_default}
use Rattle.symbol_table.specs.declared.ranks.Ranked.{Ranked}
use Rattle.symbol_table.proofs.ranks.last_at_most.Goals as goal

pub returns-then-count-eq0 : goal.returns-then-count-eq0
returns-then-count-eq0 c =
    let parted = IsPartitionedBy-leb (λ (r : Ranked). r.rank) _ c.args.rank c.requires in
    let point = IsPartitionPoint-from_clause (λ (r : Ranked). leb r.rank c.args.rank)
    _ _ c.partition_point-count.ensures.partitioned parted (λ a r q k. search rules) in
    λ k d h. leb-false _ _ (point.1 k d (omega arith) h)

pub returns : goal.returns
returns c =
    let parted = IsPartitionedBy-leb (λ (r : Ranked). r.rank) _ c.args.rank c.requires in
    let point = IsPartitionPoint-from_clause (λ (r : Ranked). leb r.rank c.args.rank)
    _ _ c.partition_point-count.ensures.partitioned parted (λ a r q k. search rules) in
    let n = c.partition_point-count.result in
    let some : 0 < n = omega arith in
    let bound : n ≤ length c.args.ranked.now = c.partition_point-count.ensures.bound in
    let inside : n - 1 < length c.args.ranked.now = omega arith in
    record {
      there = Contains-get_or c.args.ranked.now (n - 1) _ inside;
      at_most = leb-true _ _ (point.0 (n - 1) _ (omega arith) (omega arith));
      greatest = λ k d h up. elim (cases_lt k n) [
        | inl low ↦ let up = c.requires k (n - 1) d (omega arith) inside in
            let same = ap (λ (r : Ranked). r.rank) (get_or_default c.args.ranked.now (n - 1) d _ inside) in
            subst (λ (v : ℕ). (get_or c.args.ranked.now k d).rank ≤ v) same up
        | inr high ↦ absurd (let over = leb-false _ _ (point.1 k d high h) in omega (arith, over, up))
      ];
    }
