-- Each member names earlier types, so the recursion falls; what is written and the forms of the members that are left are one text.
use Rattle.std.proofs.Common.{ℕ, List, ◌≡◌, ◌≤◌, ◌++◌, ◌∷◌, [], ◌+◌, arith, refl, ◌∙◌, ap, sym, append_assoc, append-nil}
use Rattle.std.specs.Prelude.{codes}
use Rattle.name_paths.specs.Identifier.{lower}
use Rattle.spec_plant.specs.Trees.{tree_of, tree_at, trees_of}
use Rattle.spec_plant.specs.AcceptedTypes.{elem_within}
use Rattle.spec_plant.proofs.TypeLemmas.{rank}
use Rattle.type_layout.specs.Forms.{form_of, members_form}
use Rattle.type_layout.specs.Shapes.{shape_of, shape_of_ref}
use Rattle.type_layout.specs.NamedTypes.{types_of}
use Rattle.type_layout.proofs.FormTurns.{left_at, good_member_at, form_turn, form_end, structure_form_at}
use Rattle.type_layout.proofs.form.+form.Goals as goal

pub structure_form-append_form-requires : goal.structure_form-append_form-requires
structure_form-append_form-requires t c =
    let good = good_member_at c.args.types.now c.args.place c.index-types-place.result c.in-Struct.structure c.as_slice-members.result.now
    c.loop-member.member-index c.member-item.result c.requires.types c.requires.there c.index-types-place.is c.in-Struct.is
    c.as_slice-members.ensures c.loop-member-test.true c.member-item.is in
    let earlier : rank (elem_within (shape_of_ref c.as_ref.result)) ≤ c.args.place = rw c.as_ref.ensures good.names.earlier in
    (omega (arith, earlier, c.decreases), (c.requires.types, rw c.as_ref.ensures good.names.named))

pub structure_form-loop-member-preserved : goal.structure_form-loop-member-preserved
structure_form-loop-member-preserved t c =
    let turn = form_turn c.args.types.now c.as_slice-members.result.now
    c.loop-member.member-index c.member-item.result c.loop-member-test.true c.member-item.is in
    let form = form_of (tree_of (types_of c.args.types.now) (shape_of c.member-item.result.kind)) in
    let written : c.append_form.new.out ≡ c.put_lower-in-loop-member.new.out ++ form = rw c.as_ref.ensures at c.in_ok-append_form.ensures in
    let rest = members_form (left_at c.args.types.now c.as_slice-members.result.now (c.loop-member.member-index + 1)) in
    rw (c.in_ok-push.ensures.ok, written, c.in_ok-put_lower-2.ensures, c.as_slice-in-loop-member.ensures)
    (joins c.loop-member.out (lower c.member-item.result.name) form rest ∙ ap (λ more. c.loop-member.out ++ more) (sym turn) ∙ c.loop-member.invariant)
  where
    joins : (out name form rest : List ℕ)
        → (((out ++ (name ++ codes ":")) ++ form) ++ codes ";") ++ rest ≡ out ++ (name ++ codes ":" ++ form ++ codes ";" ++ rest)
    joins out name form rest = simp append_assoc refl

pub structure_form-returns : goal.structure_form-returns
structure_form-returns t c =
    let whole = structure_form_at c.args.types.now c.args.place c.index-types-place.result c.in-Struct.structure c.as_slice-members.result.now
    c.requires.types c.requires.there c.index-types-place.is c.in-Struct.is c.as_slice-members.ensures in
    let none = form_end c.args.types.now c.as_slice-members.result.now c.loop-member.member-index c.loop-member-test.false in
    let members = members_form (left_at c.args.types.now c.as_slice-members.result.now 0) in
    let so_far : c.loop-member.out ++ members_form (left_at c.args.types.now c.as_slice-members.result.now c.loop-member.member-index) ≡ c.put_lower.new.out
    ++ members = c.loop-member.invariant in
    let all : c.loop-member.out ≡ (c.args.out.now ++ (lower c.in-Struct.structure.name ++ codes "{")) ++ members =
    rw (none, append-nil, c.in_ok-put_lower.ensures, c.as_slice.ensures) at so_far in
    let text : c.loop-member.out ++ 125 ∷ [] ≡ c.args.out.now ++ form_of (tree_at (trees_of (types_of c.args.types.now)) c.args.place)
    = rw (all, whole) (ends c.args.out.now (lower c.in-Struct.structure.name) members) in
    rw text at c.push-2.ensures.ok
  where
    ends : (out name members : List ℕ) → ((out ++ (name ++ codes "{")) ++ members) ++ codes "}" ≡ out ++ (name ++ codes "{" ++ members ++ codes "}")
    ends out name members = simp append_assoc refl
