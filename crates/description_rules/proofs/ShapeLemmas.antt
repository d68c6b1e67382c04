-- The shape of an array.
use Rattle.std.proofs.Common.{◌≡◌, ℕ, map, refl, inl, inr, nat_eq}
use Rattle.std.specs.Prelude.{◌≢◌}
use Rattle.std.proofs.lemmas.Bool.{cases_Bool, eqb-true}
use Rattle.spec_plant.specs.Listed.{Array}
use Rattle.spec_plant.specs.Shapes.{bound_between}
use Rattle.type_layout.specs.Shapes.{elem_of}
use Rattle.description_rules.specs.NamedShapes.{ends_read, shape_read}
use Rattle.description_rules.specs.declared.named_shapes.NamedShape.{NamedShape}

pub shape_read-array : (s : NamedShape) → s.count ≢ 0 → shape_read s ≡ Array (map bound_between (ends_read s)) (elem_of s.elem)
shape_read-array s some =
    elim (cases_Bool (nat_eq s.count 0)) [
      | inl none ↦ absurd (some (eqb-true s.count 0 none))
      | inr t ↦ elim (cases_Bool (nat_eq s.count 1)) [
        | inl one ↦ rw (t, one) refl
        | inr u ↦ elim (cases_Bool (nat_eq s.count 2)) [
          | inl two ↦ rw (t, u, two) refl
          | inr v ↦ rw (t, u, v) refl
        ]
      ]
    ]
