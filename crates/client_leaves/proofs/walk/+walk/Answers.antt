-- What the parts of a walk find is what the whole finds.
use Rattle.std.proofs.Common.{◌≡◌, ◌≢◌, ◌-◌, ◌++◌, suc, List, map, length, refl, sym, ap, ◌∙◌, arith}
use Rattle.std.specs.Prelude.{Some, None}
use Rattle.std.proofs.lemmas.Bool.{eq-eqb, false≢true}
use Rattle.spec_client.specs.LeafTypes.{type_named, elem_size, is_sound_elem}
use Rattle.spec_client.specs.Leaves.{Leaf, leaves_of_elem}
use Rattle.type_layout.specs.Shapes.{kind_of}
use Rattle.type_layout.specs.ReadTexts.{elem_text_of, text_of}
use Rattle.client_leaves.specs.Kept.{leaf_kept}
use Rattle.client_leaves.specs.Table.{member_kept, type_kept, types_kept}
use Rattle.client_leaves.proofs.WalkLemmas.{walked_no, walked_yes, walked_as, plain_sound, plain_leaves}
use Rattle.client_leaves.proofs.WalkLemmas.{string_sound, string_leaves, no_type, named_sound, named_leaves}
use Rattle.client_leaves.proofs.WalkLemmas.{array_some, array_room, array_leaves_are, all_sound, some_ends}
use Rattle.client_leaves.proofs.WalkLemmas.{some_subs, structure_sound, structure_leaves_are}
use Rattle.client_leaves.proofs.walk.+walk.Goals as goal

pub elem_leaves-returns-in_ok-put_leaf-in-Plain : goal.elem_leaves-returns-in_ok-put_leaf-in-Plain
elem_leaves-returns-in_ok-put_leaf-in-Plain t c =
    let types = types_kept c.args.types.now in
    let kind = kind_of c.in-Plain.kind in
    let old : List Leaf = map leaf_kept c.args.leaves.now in
    let put = rw (c.type_id.ensures, c.size.ensures.value) at c.in_ok-put_leaf-in-Plain.ensures in
    rw c.in-Plain.is (walked_yes _ _ old (map leaf_kept c.put_leaf.new.leaves) (plain_sound c.args.depth types kind)
    (put ∙ ap (λ ls. old ++ ls) (plain_leaves c.args.depth types kind c.args.path.now c.args.place)))

pub elem_leaves-returns-in_ok-put_leaf-in-Text : goal.elem_leaves-returns-in_ok-put_leaf-in-Text
elem_leaves-returns-in_ok-put_leaf-in-Text t c =
    let types = types_kept c.args.types.now in
    let old : List Leaf = map leaf_kept c.args.leaves.now in
    let put = rw c.from.ensures at c.in_ok-put_leaf-in-Text.ensures in
    rw c.in-Text.is (walked_yes _ _ old (map leaf_kept c.put_leaf-in-Text.new.leaves) (string_sound c.args.depth types c.in-Text.n)
    (put ∙ ap (λ ls. old ++ ls) (string_leaves c.args.depth types c.in-Text.n c.args.path.now c.args.place)))

pub elem_leaves-returns-in-None : goal.elem_leaves-returns-in-None
elem_leaves-returns-in-None t c =
    let types = types_kept c.args.types.now in
    let name = c.in-Named.field-0.now in
    let none : type_named types name ≡ None = rw c.in-Named.is at (sym c.requires.found ∙ sym c.in-None.ensures.value) in
    rw c.in-Named.is (walked_no _ _ _ _ (no_type c.args.depth types name none))

pub elem_leaves-returns-in_ok-sound-in-Some : goal.elem_leaves-returns-in_ok-sound-in-Some
elem_leaves-returns-in_ok-sound-in-Some t c =
    let types = types_kept c.args.types.now in
    let name = c.in-Named.field-0.now in
    let whole = type_kept c.in-Some.t.now in
    let found : type_named types name ≡ Some whole = rw c.in-Named.is at (sym c.requires.found ∙ sym c.in-Some.ensures.value) in
    rw c.in-Named.is (walked_as c.in_ok-sound-in-Some.sound _ _ _ _ _ _ (named_sound c.args.depth types name whole found)
    (named_leaves c.args.depth types name whole c.args.path.now c.args.place found) c.in_ok-sound-in-Some.ensures)

pub text_leaves-array_leaves-requires : goal.text_leaves-array_leaves-requires
text_leaves-array_leaves-requires t c =
    let t = text_of c.args.text.now.text in
    let are = c.as_slice.ensures ∙ c.in_ok-paths.ensures in (
      omega (arith, c.decreases),
      (
        c.requires.table,
        (
          c.requires.found,
          array_room (types_kept c.args.types.now) t c.args.place c.args.path.now c.as_slice.result.now are c.requires.room,
        ),
      ),
    )

pub text_leaves-returns : goal.text_leaves-returns
text_leaves-returns t c =
    let types = types_kept c.args.types.now in
    let text = c.args.text.now.text in
    let elem = elem_text_of text.elem in
    let paths = c.as_slice.result.now in
    let are = c.as_slice.ensures ∙ c.in_ok-paths.ensures in
    walked_as c.in_ok-sound-2.sound _ _ _ _ _ _
    (all_sound (is_sound_elem c.args.depth types elem) paths (array_some c.args.path.now paths (text_of text).ends are))
    (array_leaves_are (leaves_of_elem c.args.depth types elem) (elem_size types elem) c.args.path.now c.args.place (text_of text).ends paths
    (some_ends text.count text.first text.second text.third c.if-text-eq0.false) are)
    c.in_ok-sound-2.ensures

pub type_leaves-returns : goal.type_leaves-returns
type_leaves-returns t c =
    let types = types_kept c.args.types.now in
    let whole = type_kept c.args.t.now in
    let depth = c.args.depth in
    let less : depth ≡ suc (depth - 1) = omega (arith, c.if-depth-eq0.false) in
    let walked = rw c.as_slice-members.ensures.value at c.in_ok-sound.ensures in
    let none_empty : length c.as_slice-members.result.now ≢ 0 =
    λ e. false≢true (sym c.if-is_empty.false ∙ (c.is_empty.ensures ∙ eq-eqb (length c.as_slice-members.result.now) 0 e)) in
    let some = some_subs member_kept c.args.t.now.members.items (rw c.as_slice-members.ensures.value at none_empty) in
    walked_as c.in_ok-sound.sound _ _ _ _ _ _ (structure_sound depth (depth - 1) types whole less (omega (arith, c.if-t-eq0.false)))
    (structure_leaves_are depth (depth - 1) types c.args.path.now c.args.place whole less some) walked
