use Rattle.std.proofs.Common.{arith, rules}
use Rattle.std.proofs.lemmas.List.Sorted.{IsPartitionPoint-from_clause}
use Rattle.notify_table.specs.Turns.{is_turn_due}
use Rattle.notify_table.specs.Schedules.{no_watch}
use Rattle.notify_table.proofs.TurnLemmas.{due_parted, due_until, due_front}
use Rattle.notify_table.proofs.ring.count_due.Goals as goal

pub returns-clause-count : goal.returns-clause-count
returns-clause-count c =
    due_until c.args.now c.args.ring.now.items c.partition_point.result no_watch c.requires
    (omega (arith, c.args.ring.now.ok.0, c.partition_point.ensures.bound))
    (IsPartitionPoint-from_clause (is_turn_due c.args.now) c.args.ring.now.items c.partition_point.result c.partition_point.ensures.partitioned
    (due_parted c.args.now c.args.ring.now.items c.requires) (λ a r q k. search rules))

pub returns-clause-front : goal.returns-clause-front
returns-clause-front c =
    due_front c.args.now c.args.ring.now.items c.partition_point.result no_watch c.requires
    (omega (arith, c.args.ring.now.ok.0, c.partition_point.ensures.bound))
    (IsPartitionPoint-from_clause (is_turn_due c.args.now) c.args.ring.now.items c.partition_point.result c.partition_point.ensures.partitioned
    (due_parted c.args.now c.args.ring.now.items c.requires) (λ a r q k. search rules))
