use Rattle.std.proofs.Common.{◌≡◌, [], ◌∷◌, ◌++◌, length, ap, sym, ◌∙◌, map, subst, true, arith}
use Rattle.std.proofs.lemmas.List.{map-append, length-map, length_push}
use Rattle.spec_plant.specs.Listed.{type_name}
use Rattle.name_index.specs.Numbered.{AreNumbered}
use Rattle.spec_rules.specs.Described.{type_described}
use Rattle.spec_rules.specs.SizeRules.{members_of}
use Rattle.type_layout.specs.NamedTypes.{types_of, named_type_of}
use Rattle.description_rules.specs.Built.{are_small_members}
use Rattle.description_table.specs.Views.{type_view}
use Rattle.description_rules.proofs.KnownLemmas.{AreKnown-push, is_right_size-from}
use Rattle.description_rules.proofs.size_rules.add_type.Goals as goal

pub returns : goal.returns
returns c =
    let types = types_of c.args.known.now.types in
    let type = type_described types (type_view c.args.kind.now) in
    let built : (named_type_of c.in-Some.named ≡ type) × (are_small_members (members_of type) ≡ true) =
    rw c.in-Some.is at c.in_ok-named.ensures in
    let extent = c.type_extent-extent.result in
    let longer : types_of c.push.new.self ≡ types ++ type ∷ [] =
    ap (map named_type_of) c.in_ok-push.ensures.ok ∙ map-append named_type_of c.args.known.now.types (c.in-Some.named ∷ [])
    ∙ ap (λ t. types ++ t ∷ []) built.0 in
    let name : map type_name (types_of c.push.new.self) ≡ map type_name types ++ c.name_of.result.now ∷ []
    = ap (map type_name) longer ∙ map-append type_name types (type ∷ [])
    ∙ ap (λ n. map type_name types ++ n ∷ []) (sym (c.name_of.ensures ∙ ap type_name built.0)) in
    record {
      answer = is_right_size-from types type extent built.1 c.type_extent-extent.ensures.extent c.if-extent-gt1048576.false c.if-extent-gt16.false;
      types = λ _. longer;
      known = λ _. record {
        extents = AreKnown-push types (types_of c.push.new.self) c.args.known.now.extents.items c.push-2.new.self.items type extent c.requires.known.extents
            c.type_extent-extent.ensures.extent c.if-extent-gt1048576.false
            c.type_extent-extent.ensures.fair.1 c.type_extent-extent.ensures.fair.0 c.if-extent-gt16.false
            longer c.in_ok-push-2.ensures.items;
        names = subst (λ names. AreNumbered names c.add.new.self) (sym name) (c.in_ok-add.ensures.ok (map type_name types) c.requires.known.names);
        few = omega (arith, c.requires.few, ap length c.in_ok-push.ensures.ok, length_push c.args.known.now.types c.in-Some.named);
      };
    }

-- the types so far are counted
pub add-requires : goal.add-requires
add-requires c =
    let types = types_of c.args.known.now.types in
    let counted = c.requires.known.names.counted in
    let few = c.requires.few in
    omega (arith, counted, few, length-map types type_name, length-map c.args.known.now.types named_type_of)
