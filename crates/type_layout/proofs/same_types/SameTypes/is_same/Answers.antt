-- The shapes are the same where their trees are.
use Rattle.std.proofs.Common.{◌≡◌, List, ℕ, sym, ◌∙◌, ap}
use Rattle.std.specs.Prelude.{Option}
use Rattle.type_layout.specs.Shapes.{shape_of_ref}
use Rattle.type_layout.specs.SameShapes.{same_shape}
use Rattle.type_layout.proofs.Partners.{shapes_are}
use Rattle.type_layout.proofs.same_types.SameTypes.is_same.Goals as goal

pub returns : goal.returns
returns c = λ old new ao an are hs ht.
    c.is_same_shape.ensures ∙ ap (λ ps. same_shape ps (shape_of_ref c.args.a) (shape_of_ref c.args.b)) (c.as_slice.ensures.value ∙ c.self.view_is)
    ∙ shapes_are old new c.args.self.now (shape_of_ref c.args.a) (shape_of_ref c.args.b) ao an are hs ht
