use Rattle.std.proofs.Common.{◌≤◌, ◌+◌, length, sym, subst}
use Rattle.sample_store.specs.MapKeeper.{HeldRows}
use Rattle.sample_store.specs.Views.{row_kept}
use Rattle.sample_store.proofs.NumberLemmas.{counted_behind}
use Rattle.sample_store.proofs.map_keeper.MapKeeperKeeper.put.Goals as goal

pub invariant_of-self-2 : goal.invariant_of-self-2
invariant_of-self-2 c =
    let most = subst (λ (v : HeldRows). c.args.row.now.number ≤ length v.rows + 1) (sym c.self.view_is) c.requires.next in
    counted_behind c.put_row.result c.self.inside.rows.items c.put_row.new.rows.items (row_kept c.args.row.now) c.put_row.ensures.ok c.put_row.ensures.no_memory
    c.self.invariant c.requires.some most

pub returns-clause-numbers : goal.returns-clause-numbers
returns-clause-numbers c =
    let most = subst (λ (v : HeldRows). c.args.row.now.number ≤ length v.rows + 1) (sym c.self.view_is) c.requires.next in
    counted_behind c.put_row.result c.self.inside.rows.items c.put_row.new.rows.items (row_kept c.args.row.now) c.put_row.ensures.ok c.put_row.ensures.no_memory
    c.self.invariant c.requires.some most
