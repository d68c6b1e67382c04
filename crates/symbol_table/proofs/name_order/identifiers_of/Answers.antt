-- The parts are the identifiers.
use Rattle.std.specs.Slice.Iter as slice
use Rattle.std.proofs.Common.{rules, tests, false, ◌≡◌, ℕ, ◌+◌, ◌<◌, List, [], ◌∷◌, ◌++◌, map, take, length, get_or, sym, ◌∙◌, ap, arith}
use Rattle.std.specs.Global.{Vec}
use Rattle.std.proofs.lemmas.List.{map_more, map_push, take_all, length_push}
use Rattle.std.proofs.lemmas.Iterator.Consumers.{YieldsList-turn, YieldsList-end}
use Rattle.std.proofs.lemmas.Iterator.Splits.{YieldsList-from_slice_split}
use Rattle.name_paths.specs.Identifier.{lower}
use Rattle.name_paths.specs.Name.{is_full_stop, identifiers_of}
use Rattle.symbol_table.specs.NameKeys.{identifiers_in}
use Rattle.symbol_table.proofs.name_order.identifiers_of.Goals as goal

one_more : (parts : List (List ℕ)) (part : List ℕ) (low : List (Vec ℕ)) (v : Vec ℕ) (i : ℕ)
    → i < length parts → part ≡ get_or parts i part → v.items ≡ lower part
    → identifiers_in low ≡ map lower (take i parts) → identifiers_in (low ++ v ∷ []) ≡ map lower (take (i + 1) parts)
one_more parts part low v i below read is_low so_far =
    map_push (λ (w : Vec ℕ). w.items) low v ∙ ap (λ ps. ps ++ v.items ∷ []) so_far
    ∙ ap (λ p. map lower (take i parts) ++ p ∷ []) (is_low ∙ ap lower read) ∙ sym (map_more lower parts i part below)

pub loop-part-preserved : goal.loop-part-preserved
loop-part-preserved c =
    let state = c.into_iter-part-iterator.result in
    let gives = c.into_iter-part-iterator.ensures.into_iter_gives in
    let rest : slice.split_rest state ≡ c.args.name.now = search (rules, c.split-part-items.ensures.rest) in
    let done : slice.split_done state ≡ false = search (rules, c.split-part-items.ensures.done) in
    let turn = YieldsList-turn
    (YieldsList-from_slice_split {s = state} _ is_full_stop c.args.name.now rest done c.split-part-items.ensures.closure (λ x b q k. search (rules, tests)))
    c.loop-part.yielded _ c.loop-part.yielded_by _ _ c.in-Some.part c.in-Some.is c.next.ensures.steps in
    let more = one_more (identifiers_of c.args.name.now) c.in-Some.part.now c.loop-part.identifiers.items c.in_ok-low.low
    (length c.loop-part.yielded) turn.0 turn.1 c.in_ok-low.ensures c.loop-part.invariant in
    rw (c.in_ok-push.ensures.items, length_push c.loop-part.yielded c.in-Some.part) more

pub returns : goal.returns
returns c =
    let state = c.into_iter-part-iterator.result in
    let gives = c.into_iter-part-iterator.ensures.into_iter_gives in
    let rest : slice.split_rest state ≡ c.args.name.now = search (rules, c.split-part-items.ensures.rest) in
    let done : slice.split_done state ≡ false = search (rules, c.split-part-items.ensures.done) in
    let all = YieldsList-end
    (YieldsList-from_slice_split {s = state} _ is_full_stop c.args.name.now rest done c.split-part-items.ensures.closure (λ x b q k. search (rules, tests)))
    c.loop-part.yielded _ c.loop-part.yielded_by _ _ c.in-None.is c.next.ensures.steps in
    c.loop-part.invariant ∙ ap (map lower) (take_all (length c.loop-part.yielded) (identifiers_of c.args.name.now) (omega (arith, all.1)))
