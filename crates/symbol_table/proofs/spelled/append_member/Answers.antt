-- The member that has the name tells its own.
use Rattle.std.proofs.Common.{◌≡◌, ◌∷◌, ◌++◌, ◌∙◌, sym, ap, append-nil, refl}
use Rattle.spec_plant.specs.Parts.{member_of}
use Rattle.spec_plant.specs.PartTexts.{text_of_member}
use Rattle.spec_plant.specs.Trees.{tree_of}
use Rattle.type_layout.specs.Shapes.{shape_of_ref}
use Rattle.type_layout.specs.NamedTypes.{types_of}
use Rattle.symbol_table.specs.MemberTexts.{text_of_declared}
use Rattle.symbol_table.proofs.MemberTexts.{name_told, no_name_told}
use Rattle.symbol_table.proofs.spelled.append_member.Goals as goal

pub returns-in-None-clause-ok : goal.returns-in-None-clause-ok
returns-in-None-clause-ok c =
    let none = no_name_told (member_of (tree_of (types_of c.args.types.now) (shape_of_ref c.args.kind)) c.args.name.now) c.in-None.ensures in
    rw (none, append-nil) refl

pub returns-in-Some-clause-ok : goal.returns-in-Some-clause-ok
returns-in-Some-clause-ok c =
    let told = name_told (text_of_declared c.in-Some.member.now)
    (member_of (tree_of (types_of c.args.types.now) (shape_of_ref c.args.kind)) c.args.name.now) c.in-Some.ensures in
    let whole : c.args.out.now ++ 46 ∷ c.as_slice.result.now ≡ c.args.out.now
    ++ text_of_member (member_of (tree_of (types_of c.args.types.now) (shape_of_ref c.args.kind)) c.args.name.now)
    = ap (λ name. c.args.out.now ++ 46 ∷ name) c.as_slice.ensures ∙ ap (λ text. c.args.out.now ++ text) told in
    rw whole at c.append_dotted.ensures.ok
