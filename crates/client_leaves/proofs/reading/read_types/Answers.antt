-- The types so far are those of the entries so far.
use Rattle.std.proofs.Common.{◌<◌, ◌≤◌, length}
use Rattle.client_leaves.proofs.TableLemmas.{table_goes_on, table_same, table_found}
use Rattle.client_leaves.proofs.reading.read_types.Goals as goal

pub loop-entry-preserved : goal.loop-entry-preserved
loop-entry-preserved c =
    let es = c.args.entries.now.list.items in
    let less : c.loop-entry.entry-index < length es = rw c.as_slice-entry-items.ensures.value at c.loop-entry-test.true in
    let same = rw c.as_slice-entry-items.ensures.value at c.in_ok-t.ensures.same in
    table_goes_on es c.loop-entry.entry-index c.loop-entry.types.items c.push.new.self.items
    _ c.in_ok-t.t less c.loop-entry.invariant same c.in_ok-t.ensures.found
    c.in_ok-push.ensures.items

pub returns-clause-table : goal.returns-clause-table
returns-clause-table c =
    let es = c.args.entries.now.list.items in
    let all : length es ≤ c.loop-entry.entry-index = rw c.as_slice-entry-items.ensures.value at c.loop-entry-test.false in
    table_found es c.loop-entry.types.items
    (table_same es c.loop-entry.entry-index c.loop-entry.types.items all c.loop-entry.invariant) c.loop-entry.invariant.found
