use Rattle.std.proofs.Common.{◌≡◌, ◌+◌, List, ◌∷◌, [], map, drop, get_or, sym, ap, ◌∙◌, arith}
use Rattle.std.proofs.lemmas.Bool.{and_parts}
use Rattle.std.proofs.lemmas.List.{get_or_default, drop_all}
use Rattle.spec_plant.specs.Trees.{trees_of, member_trees}
use Rattle.spec_rules.specs.Described.{member_described}
use Rattle.type_layout.specs.NamedTypes.{types_of}
use Rattle.description_rules.specs.Built.{are_small_members, is_small_member}
use Rattle.description_rules.specs.Known.{extent_behind}
use Rattle.description_table.specs.Views.{member_view}
use Rattle.description_table.specs.declared.written.WrittenMember.{WrittenMember}
use Rattle.description_rules.proofs.StructLemmas.{dropped, extent_behind-more, IsStructExtent-end}
use Rattle.description_rules.proofs.structure.struct_extent.Goals as goal

pub loop-member-preserved : goal.loop-member-preserved
loop-member-preserved c =
    let xs = c.args.members.now in
    let i = c.loop-member.member-index in
    let types = types_of c.args.known.now.types in
    let x = get_or xs i (record
    { name = record { ref_ptr = (0, 0); now = [] }; kind = record { ref_ptr = (0, 0); now = [] }; comment = record { ref_ptr = (0, 0); now = [] } }) in
    let left : drop i xs ≡ x ∷ drop (i + 1) xs = dropped xs i x c.loop-member-test.true (get_or_default xs i _ x c.loop-member-test.true) in
    let described = λ (ms : List WrittenMember). map (member_described types) (map member_view ms) in
    record {
      whole =
          extent_behind-more c.loop-member.so_far c.text_extent.result c.behind-so_far.result (trees_of types) (member_described types (member_view x))
          (described (drop (i + 1) xs)) c.text_extent.ensures.extent c.behind-so_far.ensures.size c.behind-so_far.ensures.align c.behind-so_far.ensures.depth
          ∙ ap (λ ms. extent_behind c.loop-member.so_far (member_trees (trees_of types) (described ms))) (sym left) ∙ c.loop-member.invariant.whole;
      small = (and_parts (is_small_member (member_described types (member_view x))) (are_small_members (described (drop (i + 1) xs)))
          (ap (λ ms. are_small_members (described ms)) (sym left) ∙ c.loop-member.invariant.small)).1;
      size = omega (arith, c.behind-so_far.ensures.bound);
      align = omega (arith, c.behind-so_far.ensures.align);
      some_align = omega (arith, c.behind-so_far.ensures.align);
      depth = omega (arith, c.behind-so_far.ensures.depth);
    }

pub returns-clause-extent : goal.returns-clause-extent
returns-clause-extent c =
    let xs = c.args.members.now in
    let types = types_of c.args.known.now.types in
    let described = λ (ms : List WrittenMember). map (member_described types) (map member_view ms) in
    IsStructExtent-end c.loop-member.so_far (member_trees (trees_of types) (described xs)) c.aligned.result c.loop-member.invariant.some_align
    (ap (λ ms. extent_behind c.loop-member.so_far (member_trees (trees_of types) (described ms)))
    (sym (drop_all c.loop-member.member-index xs c.loop-member-test.false))
    ∙ c.loop-member.invariant.whole)
    c.aligned.ensures.value
