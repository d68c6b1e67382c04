use Rattle.std.proofs.Common.{◌≡◌, [], ap, ◌∙◌, map, subst, Option, ℕ}
use Rattle.std.specs.Prelude.{flat_map}
use Rattle.std.specs.Result.{IfOk}
use Rattle.spec_rules.specs.Written.{WrittenPort}
use Rattle.spec_rules.specs.Places.{first_wrong}
use Rattle.spec_rules.specs.SymbolRules.{wrong_signal}
use Rattle.type_layout.specs.NamedTypes.{types_of}
use Rattle.description_rules.specs.Placed.{use_view, is_right_use}
use Rattle.description_table.specs.Views.{port_view}
use Rattle.description_rules.proofs.PlaceLemmas.{first_wrong-uses}
use Rattle.description_rules.proofs.symbol_signals.wrong_signal.Goals as goal

pub returns : goal.returns
unfolding wrong_signal
returns c =
    let types = types_of c.args.known.now.types in
    let ports = map port_view c.args.ports.now in
    let same : first_wrong is_right_use [] (map use_view c.as_slice.result.now) ≡ wrong_signal types c.args.signals ports =
    ap (λ uses. first_wrong is_right_use [] (map use_view uses)) c.as_slice.ensures.value ∙ ap (first_wrong is_right_use []) c.in_ok-uses.ensures
    ∙ first_wrong-uses types c.args.signals (flat_map (λ (p : WrittenPort). p.symbols) ports) in
    subst (λ (wrong : Option ℕ). IfOk c.first_wrong_use.result (λ place. place ≡ wrong)) same c.first_wrong_use.ensures
