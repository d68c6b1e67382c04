-- Sorted entries, which are the symbols' keys.
use Rattle.std.proofs.Common.{map, subst}
use Rattle.std.specs.List.Sorted.{IsPermutation}
use Rattle.std.specs.Prelude.{List}
use Rattle.std.proofs.lemmas.List.Sorted.{IsPermutation-map}
use Rattle.symbol_table.specs.Rows.{symbols_of_rows}
use Rattle.symbol_table.specs.NameKeys.{NameKey, key_of}
use Rattle.symbol_table.proofs.SortedNames.{rising_from_sorted, keys_permuted}
use Rattle.symbol_table.proofs.name_order.NameOrder.build.Goals as goal

pub invariant_of-result : goal.invariant_of-result
invariant_of-result c = rising_from_sorted c.sort.new.self.items c.in_ok-sort.ensures.sorted

pub returns : goal.returns
returns c =
    let moved = IsPermutation-map key_of c.in_ok-entries.entries.items c.sort.new.self.items c.sort.ensures.permutation in
    let P : List NameKey → Type 0 = λ keys. IsPermutation keys (map key_of c.sort.new.self.items) in
    keys_permuted (symbols_of_rows c.args.rows.now) (map key_of c.sort.new.self.items) (subst P c.in_ok-entries.ensures moved)
