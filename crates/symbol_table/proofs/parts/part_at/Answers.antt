-- A part of a part ends within it.
use Rattle.std.proofs.Common.{◌≡◌, arith, refl, sym}
use Rattle.std.specs.Prelude.{Some}
use Rattle.name_paths.specs.Steps.{step_of}
use Rattle.spec_plant.specs.Trees.{tree_of}
use Rattle.spec_plant.specs.Parts.{part_of}
use Rattle.spec_plant.proofs.PartLemmas.{part_of-end}
use Rattle.type_layout.specs.Shapes.{shape_of_ref}
use Rattle.type_layout.specs.NamedTypes.{types_of}
use Rattle.type_layout.specs.FoundParts as layout
use Rattle.symbol_table.proofs.parts.part_at.Goals as goal

pub overflow_add-result : goal.overflow_add-result
overflow_add-result c =
    let types = types_of c.args.types.now in
    let outer = tree_of types (shape_of_ref c.args.part.kind) in
    let inner = layout.part_in types (c.in_ok-first.first, c.in_ok-first.kind) in
    let found : part_of outer (step_of c.args.step.now) ≡ Some inner = sym c.in_ok-first.ensures.part in
    let ends = part_of-end outer (step_of c.args.step.now) inner found in
    let within = c.requires.sound.ends in
    omega (arith, ends, within)

pub returns : goal.returns
returns c =
    let types = types_of c.args.types.now in
    let outer = tree_of types (shape_of_ref c.args.part.kind) in
    let inner = layout.part_in types (c.in_ok-first.first, c.in_ok-first.kind) in
    let found : part_of outer (step_of c.args.step.now) ≡ Some inner = sym c.in_ok-first.ensures.part in
    let ends = part_of-end outer (step_of c.args.step.now) inner found in
    let within = c.requires.sound.ends in
    rw found (record {
      sound = record { sized = c.in_ok-first.ensures.sized; ends = omega (arith, ends, within) };
      is = refl;
      comment_is = c.comment_at-comment.ensures;
    })
