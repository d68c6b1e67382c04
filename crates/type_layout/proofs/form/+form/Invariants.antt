-- The recursion falls by the places of named types; what is written and the members that are left are all members.
use Rattle.std.proofs.Common.{◌≡◌, ◌+◌, ◌*◌, ◌++◌}
use Rattle.spec_plant.specs.AcceptedTypes.{elem_within}
use Rattle.spec_plant.proofs.TypeLemmas.{rank}
use Rattle.type_layout.specs.Forms.{members_form}
use Rattle.type_layout.specs.Shapes.{elem_of, shape_of_ref}
use Rattle.type_layout.proofs.FormTurns.{left_at}
use Rattle.type_layout.proofs.form.+form.Given as goal

abbrev pub decreases-append_form : goal.decreases-append_form
decreases-append_form l = 3 * rank (elem_within (shape_of_ref l.t)) + 2

abbrev pub decreases-elem_form : goal.decreases-elem_form
decreases-elem_form l = 3 * rank (elem_of l.elem) + 1

abbrev pub decreases-structure_form : goal.decreases-structure_form
decreases-structure_form l = 3 * l.place + 3

abbrev pub invariant-structure_form-loop-member : goal.invariant-structure_form-loop-member
invariant-structure_form-loop-member l =
    l.out ++ members_form (left_at l.types l.members l.member-index) ≡ l.initial.out ++ members_form (left_at l.types l.members 0)
