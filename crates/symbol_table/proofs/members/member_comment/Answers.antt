-- A member has its own comment.
use Rattle.std.proofs.Common.{sym, ◌∙◌}
use Rattle.spec_plant.specs.Parts.{member_of}
use Rattle.spec_plant.specs.Trees.{tree_of}
use Rattle.type_layout.specs.Shapes.{shape_of_ref}
use Rattle.type_layout.specs.NamedTypes.{types_of}
use Rattle.symbol_table.specs.MemberTexts.{text_of_declared}
use Rattle.symbol_table.proofs.MemberTexts.{comment_told, no_comment_told}
use Rattle.symbol_table.proofs.members.member_comment.Goals as goal

pub returns-in-None : goal.returns-in-None
returns-in-None c = sym (no_comment_told (member_of (tree_of (types_of c.args.types.now) (shape_of_ref c.args.kind)) c.args.name.now) c.in-None.ensures)

pub returns-in-Some : goal.returns-in-Some
returns-in-Some c =
    c.as_slice.ensures ∙ comment_told (text_of_declared c.in-Some.member.now)
    (member_of (tree_of (types_of c.args.types.now) (shape_of_ref c.args.kind)) c.args.name.now) c.in-Some.ensures
