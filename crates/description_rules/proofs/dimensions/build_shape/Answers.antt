use Rattle.std.proofs.Common.{ap, sym, ◌∙◌}
use Rattle.spec_plant.specs.Listed.{Array}
use Rattle.type_layout.specs.Shapes.{elem_of}
use Rattle.description_rules.proofs.ShapeLemmas.{shape_read-array}
use Rattle.description_rules.proofs.dimensions.build_shape.Goals as goal

pub returns : goal.returns
returns c =
    ap (λ bounds. Array bounds (elem_of c.args.s.now.elem)) c.in_ok-put_bounds.ensures ∙ sym (shape_read-array c.args.s.now c.if-s-eq0.false)
