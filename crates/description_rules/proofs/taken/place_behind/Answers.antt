use Rattle.std.proofs.Common.{leb, leb-true, arith, rules}
use Rattle.std.proofs.lemmas.Bool.{leb-false}
use Rattle.std.proofs.lemmas.List.Sorted.{IsPartitionPoint-from_clause, IsPartitionedBy-leb}
use Rattle.description_rules.specs.declared.taken.ByteRange.{ByteRange}
use Rattle.description_rules.proofs.TakenLemmas.{ends_rise}
use Rattle.description_rules.proofs.taken.place_behind.Goals as goal

pub returns : goal.returns
returns c =
    let parted = IsPartitionedBy-leb (λ (r : ByteRange). r.end) c.args.ranges.now c.args.start
    (λ i j d le below. ends_rise c.args.ranges.now i j d c.requires le below) in
    let point = IsPartitionPoint-from_clause (λ (r : ByteRange). leb r.end c.args.start)
    _ _ c.partition_point.ensures.partitioned parted (λ a r q k. search rules) in
    record {
      bound = c.partition_point.ensures.bound;
      before = λ k d below. leb-true _ _ (point.0 k d (omega arith) below);
      behind = λ k d above within. leb-false _ _ (point.1 k d above within);
    }
