-- The first of so many entries.
use Rattle.persist_store.specs.Entries.{entry_meant, entry_read}
use Rattle.persist_store.proofs.EntryLemmas.{zero_entries_at, step_none, step_left, step_next}
use Rattle.persist_store.proofs.entries.step.Goals as goal

pub returns-then-count-eq0-clause-none : goal.returns-then-count-eq0-clause-none
returns-then-count-eq0-clause-none c = zero_entries_at c.args.count c.args.bytes.now c.if-count-eq0.true c.requires

pub returns-clause-none : goal.returns-clause-none
returns-clause-none c =
    step_none c.first_entry.result (λ x. entry_read (entry_meant x.0) x.1.now)
    c.args.count c.args.bytes.now _ c.if-count-eq0.false c.requires c.first_entry.ensures

pub returns-clause-left : goal.returns-clause-left
returns-clause-left c =
    step_left c.first_entry.result (λ x. entry_read (entry_meant x.0) x.1.now)
    c.args.count c.args.bytes.now c.if-count-eq0.false c.requires c.first_entry.ensures

pub returns-clause-next : goal.returns-clause-next
returns-clause-next c =
    step_next c.first_entry.result (λ x. entry_read (entry_meant x.0) x.1.now)
    c.args.count c.args.bytes.now c.if-count-eq0.false c.requires c.first_entry.ensures
