-- One type more.
use Rattle.std.proofs.Common.{rules, ◌≡◌, ◌+◌, ◌<◌, ◌++◌, [], ◌∷◌, length, take, sym, ◌∙◌, ap, arith}
use Rattle.std.proofs.lemmas.List.{length-map, take_all}
use Rattle.type_layout.specs.NamedTypes.{types_of, named_type_of}
use Rattle.type_layout.specs.Extents.{extents_of}
use Rattle.type_layout.proofs.KnownExtents.{first_extents, extents_more, length-extents_of}
use Rattle.type_layout.proofs.extents.extents_of_types.Goals as goal

pub extent_at-extent-requires-clause-known : goal.extent_at-extent-requires-clause-known
extent_at-extent-requires-clause-known c =
    let types = types_of c.args.types.now in
    let count = length-map c.args.types.now named_type_of in
    let below : c.loop-place.place < length types = omega (arith, count) in
    let seen : c.as_slice.result.now ≡ take c.loop-place.place (extents_of types) = c.as_slice.ensures.value ∙ c.loop-place.invariant in
    first_extents types c.as_slice.result.now c.loop-place.place (omega (arith, below)) seen

pub loop-place-preserved : goal.loop-place-preserved
loop-place-preserved c =
    let types = types_of c.args.types.now in
    let count = length-map c.args.types.now named_type_of in
    let below : c.loop-place.place < length types = omega (arith, count) in
    let grown : c.push.new.self.items ≡ c.loop-place.each.items ++ c.extent_at-extent.result ∷ [] = search rules in
    grown ∙ ap (λ es. es ++ c.extent_at-extent.result ∷ []) c.loop-place.invariant
    ∙ sym (extents_more types c.loop-place.place c.extent_at-extent.result below c.extent_at-extent.ensures)

pub returns : goal.returns
returns c =
    let types = types_of c.args.types.now in
    let count = length-map c.args.types.now named_type_of in
    let all = length-extents_of types in
    c.loop-place.invariant ∙ take_all c.loop-place.place (extents_of types) (omega (arith, count, all))
