-- The identifiers so far.
use Rattle.std.proofs.Common.{◌≡◌, map, take, length}
use Rattle.name_paths.specs.Identifier.{lower}
use Rattle.name_paths.specs.Name.{identifiers_of}
use Rattle.symbol_table.specs.NameKeys.{identifiers_in}
use Rattle.symbol_table.proofs.name_order.identifiers_of.Given as goal

abbrev pub invariant-loop-part : goal.invariant-loop-part
invariant-loop-part l = identifiers_in l.identifiers.items ≡ map lower (take (length l.yielded) (identifiers_of l.name))
