-- One element is no array.
use Rattle.std.proofs.Common.{◌≡◌, true, refl}
use Rattle.spec_plant.specs.AcceptedTypes.{is_elem, elem_within}
use Rattle.name_paths.specs.Indexes.{numbers_of_indexes}
use Rattle.type_layout.specs.Shapes.{elem_of, shape_of_ref}
use Rattle.type_layout.specs.NamedTypes.{types_of}
use Rattle.type_layout.proofs.Leaves.{no_element}
use Rattle.type_layout.proofs.parts.member_among.Goals as goal

pub returns-in-Index-clause-part : goal.returns-in-Index-clause-part
returns-in-Index-clause-part c =
    let named : is_elem (types_of c.args.types.now) (elem_within (shape_of_ref c.args.t)) ≡ true = c.requires.sized.named in
    let there : is_elem (types_of c.args.types.now) (elem_of c.in-One.elem) ≡ true = rw c.in-One.is at named in
    let none = no_element (types_of c.args.types.now) (elem_of c.in-One.elem) (numbers_of_indexes c.in-Index.field-0) c.requires.types there in
    rw (c.in-One.is, c.in-Index.is, none) refl
