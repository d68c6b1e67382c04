use Rattle.std.proofs.Common.{◌≡◌, ◌++◌, length, map, drop}
use Rattle.spec_rules.specs.Places.{first_wrong}
use Rattle.spec_rules.specs.SizeRules.{wrong_size, is_right_size}
use Rattle.spec_rules.specs.Described.{types_described}
use Rattle.description_rules.specs.TypesLeft.{types_left}
use Rattle.type_layout.specs.NamedTypes.{types_of}
use Rattle.description_rules.specs.KnownTypes.{IsKnown}
use Rattle.description_table.specs.Views.{type_view}
use Rattle.description_rules.proofs.FirstLemmas.{place_from}
use Rattle.description_rules.proofs.size_rules.read_types.Given as goal

-- the types before this one are known and right
abbrev pub invariant-loop-i : goal.invariant-loop-i
invariant-loop-i l = record {
  wrong : wrong_size (types_described (map type_view l.types))
      ≡ place_from l.i (first_wrong is_right_size (types_of l.known.types) (types_left (types_of l.known.types) (map type_view (drop l.i l.types))));
  built : types_described (map type_view l.types) ≡ types_of l.known.types ++ types_left (types_of l.known.types) (map type_view (drop l.i l.types));
  count : length l.known.types ≡ l.i;
  known : IsKnown l.known;
}
