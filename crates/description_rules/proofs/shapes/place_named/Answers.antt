-- The index of names, which are those of the types.
use Rattle.std.proofs.Common.{◌≡◌, Some, map, sym, ◌∙◌, arith}
use Rattle.std.proofs.lemmas.List.{length-map}
use Rattle.spec_plant.specs.Listed.{type_name}
use Rattle.spec_plant.specs.TypeTexts.{is_same_word}
use Rattle.spec_plant.specs.Shapes.{place_named}
use Rattle.type_layout.specs.NamedTypes.{types_of, named_type_of}
use Rattle.name_index.proofs.CallerLemmas.{first_called-map, position-within}
use Rattle.description_rules.proofs.shapes.place_named.Goals as goal

pub returns-in-Some-clause-place : goal.returns-in-Some-clause-place
returns-in-Some-clause-place c =
    let types = types_of c.args.known.now.types in
    sym c.in-Some.is ∙ c.find.ensures (map type_name types) c.requires.names ∙ first_called-map type_name types c.args.name.now

pub returns-in-Some-clause-within : goal.returns-in-Some-clause-within
returns-in-Some-clause-within c =
    let types = types_of c.args.known.now.types in
    let found : place_named types c.args.name.now ≡ Some c.in-Some.place
    = sym (c.find.ensures (map type_name types) c.requires.names ∙ first_called-map type_name types c.args.name.now) ∙ c.in-Some.is in
    let within = position-within (λ t. is_same_word (type_name t) c.args.name.now) types c.in-Some.place found in
    omega (arith, within, length-map c.args.known.now.types named_type_of)

pub returns-in-None-clause-place : goal.returns-in-None-clause-place
returns-in-None-clause-place c =
    let types = types_of c.args.known.now.types in
    sym c.in-None.is ∙ c.find.ensures (map type_name types) c.requires.names ∙ first_called-map type_name types c.args.name.now
