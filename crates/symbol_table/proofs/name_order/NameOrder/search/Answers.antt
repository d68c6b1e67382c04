-- Where the middle name is not the path's, a half is left; where it is, it is found.
use Rattle.std.proofs.Common.{rules, ◌≡◌, ◌+◌, ◌-◌, ◌/◌, ◌≤◌, length, map, arith, sym, ◌∙◌, ap}
use Rattle.std.proofs.lemmas.List.{length-map}
use Rattle.std.specs.declared.cmp.Ordering.TheVariants.{Less, Equal, Greater}
use Rattle.name_paths.specs.Identifier.{lower}
use Rattle.name_paths.specs.Path.{first_names}
use Rattle.symbol_table.specs.NameKeys.{key_of, identifiers_at, order_to_path, identifiers_in}
use Rattle.symbol_table.proofs.Halving.{step_halves, last_step}
use Rattle.symbol_table.proofs.Narrowed.{narrowed_up, narrowed_down, key_read, match_at}
use Rattle.symbol_table.proofs.name_order.NameOrder.search.Goals as goal

pub loop-low-preserved-in-Less : goal.loop-low-preserved-in-Less
loop-low-preserved-in-Less g c =
    let entries = c.self.inside.entries.items in
    let names = map lower (first_names c.args.path.now) in
    let low = c.loop-low.low in let high = c.loop-low.high in
    let middle = low + (high - low) / 2 in
    let test = c.loop-low-test.true in
    let narrowed = c.loop-low.invariant.0 in
    let within : high ≤ length entries = omega (arith, narrowed.within, length-map entries key_of) in
    let key = key_read entries middle c.index.result.now (omega (arith, within)) c.index.ensures in
    let less : order_to_path (identifiers_at (map key_of entries) middle) names ≡ Less
    = ap (λ k. order_to_path k.identifiers names) key
    ∙ sym (ap (λ v. order_to_path (identifiers_in v) names) c.as_slice.ensures.value) ∙ sym c.compare.ensures.order ∙ c.in-Less.is in (
      narrowed_up (map key_of entries) names low high middle c.self.invariant (rw c.self.view_is c.requires) narrowed (omega arith) (omega arith) less,
      omega (arith, c.loop-low.invariant.1, c.compare.ensures.step),
      step_halves c.args.steps.now c.loop-low.steps c.compare.new.steps (high - low) (high - (middle + 1))
          (length (map key_of entries)) c.loop-low.invariant.1 (omega (arith, c.compare.ensures.step)) (omega arith) (omega arith) c.loop-low.invariant.2,
      omega (arith, c.loop-low.invariant.1, c.compare.ensures.step),
    )

pub loop-low-preserved : goal.loop-low-preserved
loop-low-preserved g c =
    let entries = c.self.inside.entries.items in
    let names = map lower (first_names c.args.path.now) in
    let low = c.loop-low.low in let high = c.loop-low.high in
    let middle = low + (high - low) / 2 in
    let test = c.loop-low-test.true in
    let narrowed = c.loop-low.invariant.0 in
    let within : high ≤ length entries = omega (arith, narrowed.within, length-map entries key_of) in
    let key = key_read entries middle c.index.result.now (omega (arith, within)) c.index.ensures in
    let greater : order_to_path (identifiers_at (map key_of entries) middle) names ≡ Greater
    = ap (λ k. order_to_path k.identifiers names) key ∙ sym (ap (λ v. order_to_path (identifiers_in v) names) c.as_slice.ensures.value)
    ∙ sym c.compare.ensures.order ∙ c.in-Greater.is in (
      narrowed_down (map key_of entries) names low high middle c.self.invariant narrowed (omega arith) (omega arith) greater,
      omega (arith, c.loop-low.invariant.1, c.compare.ensures.step),
      step_halves c.args.steps.now c.loop-low.steps c.compare.new.steps (high - low) (middle - low) (length (map key_of entries))
          c.loop-low.invariant.1 (omega (arith, c.compare.ensures.step)) (omega arith) (omega arith) c.loop-low.invariant.2,
      omega (arith, c.loop-low.invariant.1, c.compare.ensures.step),
    )

pub returns-in-Equal-clause-found : goal.returns-in-Equal-clause-found
returns-in-Equal-clause-found g c =
    let entries = c.self.inside.entries.items in
    let names = map lower (first_names c.args.path.now) in
    let low = c.loop-low.low in let high = c.loop-low.high in
    let middle = low + (high - low) / 2 in
    let test = c.loop-low-test.true in
    let narrowed = c.loop-low.invariant.0 in
    let within : high ≤ length entries = omega (arith, narrowed.within, length-map entries key_of) in
    let e = c.index.result.now in
    let counted : c.len.result ≡ length e.0.items = search rules in
    let equal : order_to_path (identifiers_in e.0.items) names ≡ Equal
    = sym (ap (λ v. order_to_path (identifiers_in v) names) c.as_slice.ensures.value) ∙ sym c.compare.ensures.order ∙ c.in-Equal.is in
    rw (sym c.self.view_is) (match_at entries names middle e c.len.result (omega (arith, within)) c.index.ensures counted equal)

pub returns-in-Equal-clause-few_steps : goal.returns-in-Equal-clause-few_steps
returns-in-Equal-clause-few_steps g c =
    let few = last_step c.args.steps.now c.loop-low.steps c.compare.new.steps (c.loop-low.high - c.loop-low.low)
    (length (map key_of c.self.inside.entries.items)) c.loop-low.invariant.1 (omega (arith, c.compare.ensures.step)) (omega arith) c.loop-low.invariant.2 in
    rw (sym c.self.view_is) few
