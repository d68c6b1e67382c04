use Rattle.std.proofs.Common.{rules, arith, nat_lt}
use Rattle.std.proofs.lemmas.Bool.{ltb-true, ltb-false}
use Rattle.std.proofs.lemmas.List.Sorted.{IsPartitionPoint-from_clause, IsPartitionedBy-ltb}
use Rattle.notify_table.specs.Turns.{rank_of, turn_rank}
use Rattle.notify_table.proofs.ring.place_of.Goals as goal

pub returns : goal.returns
returns c =
    let parted = IsPartitionedBy-ltb turn_rank c.args.ring.now.items (rank_of c.args.next c.args.handle) c.requires.rise in
    let point = IsPartitionPoint-from_clause (λ w. nat_lt (turn_rank w) (rank_of c.args.next c.args.handle)) _ _ c.partition_point.ensures.partitioned parted
    (λ a r q k. search rules) in
    record {
      within = omega (arith, c.args.ring.now.ok.0, c.partition_point.ensures.bound);
      before = λ k d below. let less = ltb-true _ _ (point.0 k d (omega arith) below) in omega arith;
      behind = λ k d from below. ltb-false _ _ (point.1 k d from below);
    }
