use Rattle.std.proofs.Common.{◌+◌, map, take, sym, ◌∙◌}
use Rattle.spec_rules.specs.Described.{sizes_described}
use Rattle.type_layout.specs.NamedTypes.{types_of}
use Rattle.description_table.specs.Views.{port_view}
use Rattle.description_rules.specs.Placed.{is_right_behind, place_view}
use Rattle.description_rules.specs.TakenPlaces.{symbol_place}
use Rattle.description_rules.proofs.FirstLemmas.{first_from-start, first_from-right, first_from-wrong, take-more}
use Rattle.description_rules.proofs.TakenPlaceLemmas.{stand-none, stand-view, right-behind-view}
use Rattle.description_rules.proofs.symbol_places.first_wrong_place.Goals as goal

pub loop-i-init : goal.loop-i-init
loop-i-init c =
    rw c.requires.taken (record {
      first = first_from-start is_right_behind
          (symbol_place (types_of c.args.known.now.types) (sizes_described (port_view c.args.port.now))) c.args.symbols.now;
      stand = stand-none;
    })

pub returns-then-not-branch : goal.returns-then-not-branch
returns-then-not-branch c =
    let view = symbol_place (types_of c.args.known.now.types) (sizes_described (port_view c.args.port.now)) in
    let xs = c.args.symbols.now in
    let i = c.loop-i.i in
    let x = c.index-symbols-i.result in
    let place = c.place_of-place in
    let next = c.in_ok-take_place.ensures in
    sym (first_from-wrong is_right_behind view xs i x _ c.loop-i-test.true c.index-symbols-i.is
    (right-behind-view (map view (take i xs)) (place_view place.result) (view x) c.loop-i.taken.items _
    place.ensures.place c.loop-i.invariant.stand place.ensures.within next.answer ∙ c.if-not-branch.true)
    c.loop-i.invariant.first)

pub loop-i-preserved : goal.loop-i-preserved
loop-i-preserved c =
    let view = symbol_place (types_of c.args.known.now.types) (sizes_described (port_view c.args.port.now)) in
    let xs = c.args.symbols.now in
    let i = c.loop-i.i in
    let x = c.index-symbols-i.result in
    let place = c.place_of-place in
    let next = c.in_ok-take_place.ensures in
    record {
      first = first_from-right is_right_behind view xs i x _ c.loop-i-test.true c.index-symbols-i.is
          (right-behind-view (map view (take i xs)) (place_view place.result) (view x) c.loop-i.taken.items _
          place.ensures.place c.loop-i.invariant.stand place.ensures.within next.answer ∙ c.if-not-branch.false)
          c.loop-i.invariant.first;
      stand = stand-view (map view (take i xs)) (map view (take (i + 1) xs)) (place_view place.result)
          (view x) c.loop-i.taken.items _ _ place.ensures.place c.loop-i.invariant.stand
          place.ensures.within next c.if-not-branch.false (take-more view xs i x c.loop-i-test.true c.index-symbols-i.is);
    }
