-- The kinds before this one have other names.
use Rattle.std.proofs.Common.{◌≡◌, map, drop}
use Rattle.std.specs.Prelude.{find}
use Rattle.spec_plant.specs.Plain.{kind_name}
use Rattle.spec_plant.specs.TypeTexts.{is_same_word}
use Rattle.type_layout.specs.Shapes.{kind_of}
use Rattle.type_layout.proofs.reading.first_named.Given as goal

abbrev pub invariant-loop-kind : goal.invariant-loop-kind
invariant-loop-kind l =
    find (λ k. is_same_word (kind_name k) l.text) (map kind_of l.kinds)
    ≡ find (λ k. is_same_word (kind_name k) l.text) (map kind_of (drop l.kind-index l.kinds))
