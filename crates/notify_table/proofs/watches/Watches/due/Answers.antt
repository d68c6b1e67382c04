use Rattle.std.proofs.Common.{sym, ◌∙◌, subst}
use Rattle.std.specs.List.Sorted.{IsStrictlyIncreasing}
use Rattle.std.proofs.lemmas.List.Sorted.{IsNonDecreasingBy-from_sort}
use Rattle.spec_machine.specs.WatchedRanges.{Watched}
use Rattle.spec_machine.specs.Watches.{Watch, is_due}
use Rattle.notify_table.proofs.TableLemmas.{handles_sorted, due_count, table_holds, handles_rise}
use Rattle.notify_table.proofs.watches.Watches.due.Goals as goal

pub returns-in_err-handles-clause-cost : goal.returns-in_err-handles-clause-cost
returns-in_err-handles-clause-cost g c =
    rw (← c.self.view_is, due_count c.args.now c.self.inside.schedule c.self.inside.granted c.self.invariant) c.due.ensures.cost

pub returns-clause-due : goal.returns-clause-due
returns-clause-due g c =
    rw (← c.self.view_is)
    (c.from_vec.ensures
    ∙ handles_sorted (λ (w : Watch Watched). is_due c.args.now w) c.self.inside.schedule c.self.inside.granted c.sort_unstable.new.self.items c.self.invariant
    (rw (← c.in_ok-handles.ensures.due) c.sort_unstable.ensures.permutation)
    (IsNonDecreasingBy-from_sort (λ x. x) c.sort_unstable.new.self.items c.sort_unstable.ensures.sorted))

pub returns-clause-cost : goal.returns-clause-cost
returns-clause-cost g c =
    rw (← c.self.view_is, due_count c.args.now c.self.inside.schedule c.self.inside.granted c.self.invariant) c.due.ensures.cost

pub returns-clause-counted : goal.returns-clause-counted
returns-clause-counted g c =
    rw (← c.self.view_is, due_count c.args.now c.self.inside.schedule c.self.inside.granted c.self.invariant) c.in_ok-handles.ensures.counted

pub returns-in_err-handles-clause-table : goal.returns-in_err-handles-clause-table
returns-in_err-handles-clause-table g c = rw (← c.self.view_is) (table_holds c.self.inside.schedule c.self.inside.granted c.self.invariant)

pub returns-clause-table : goal.returns-clause-table
returns-clause-table g c = rw (← c.self.view_is) (table_holds c.self.inside.schedule c.self.inside.granted c.self.invariant)

pub returns-clause-rising : goal.returns-clause-rising
returns-clause-rising g c =
    subst IsStrictlyIncreasing (sym (returns-clause-due g c))
    (rw (← c.self.view_is) (handles_rise (λ (w : Watch Watched). is_due c.args.now w) c.self.inside.schedule c.self.inside.granted c.self.invariant))
