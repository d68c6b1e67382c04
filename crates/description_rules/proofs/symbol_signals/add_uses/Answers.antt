use Rattle.std.proofs.Common.{[], ◌∷◌, ◌++◌, map, take, ap, sym, ◌∙◌, append_assoc}
use Rattle.std.proofs.lemmas.List.{map-append}
use Rattle.type_layout.specs.NamedTypes.{types_of}
use Rattle.description_rules.specs.Placed.{use_view, use_of}
use Rattle.description_table.specs.Views.{symbol_view}
use Rattle.description_rules.proofs.FirstLemmas.{take-more}
use Rattle.description_rules.proofs.symbol_signals.add_uses.Goals as goal

pub loop-symbol-preserved : goal.loop-symbol-preserved
loop-symbol-preserved c =
    let one = use_of (types_of c.args.known.now.types) c.args.signals in
    let xs = c.args.symbols.now in
    let i = c.loop-symbol.symbol-index in
    let x = c.symbol-item.result in
    let old = map use_view c.args.uses.now.items in
    let so_far = map one (map symbol_view (take i xs)) in
    ap (map use_view) c.in_ok-push.ensures.items ∙ map-append use_view c.loop-symbol.uses.items (c.use_of-one.result ∷ [])
    ∙ ap (λ uses. uses ++ use_view c.use_of-one.result ∷ []) c.loop-symbol.invariant
    ∙ ap (λ noted. (old ++ so_far) ++ noted ∷ []) c.use_of-one.ensures
    ∙ append_assoc old so_far (one (symbol_view x) ∷ [])
    ∙ ap (λ uses. old ++ uses) (sym (ap (map one) (take-more symbol_view xs i x c.loop-symbol-test.true c.symbol-item.is)
    ∙ map-append one (map symbol_view (take i xs)) (symbol_view x ∷ [])))
