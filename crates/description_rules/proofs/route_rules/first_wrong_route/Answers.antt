use Rattle.std.proofs.Common.{[], get_or, map, take, sym, ◌∙◌}
use Rattle.std.proofs.lemmas.List.{get_or_default}
use Rattle.spec_rules.specs.RouteRules.{is_right_route}
use Rattle.description_table.specs.Views.{route_view}
use Rattle.description_rules.proofs.FirstLemmas.{first_from-right, first_from-wrong}
use Rattle.description_rules.proofs.RouteLemmas.{is_right_route-noted, noted-more}
use Rattle.description_rules.proofs.route_rules.first_wrong_route.Goals as goal

pub returns-then-not-branch-clause-first : goal.returns-then-not-branch-clause-first
returns-then-not-branch-clause-first c =
    let xs = c.args.routes.now in
    let i = c.loop-i.i in
    let x = get_or xs i (record { net = record { ref_ptr = (0, 0); now = [] }; rights = record { ref_ptr = (0, 0); now = [] } }) in
    let next = c.in_ok-is_right_route.ensures in
    sym (first_from-wrong is_right_route route_view xs i x _ c.loop-i-test.true (get_or_default xs i _ x c.loop-i-test.true)
    (is_right_route-noted (map route_view (take i xs)) (route_view x) _ _ c.loop-i.invariant.noted next.answer ∙ c.if-not-branch.true)
    c.loop-i.invariant.first)

pub loop-i-preserved : goal.loop-i-preserved
loop-i-preserved c =
    let xs = c.args.routes.now in
    let i = c.loop-i.i in
    let x = get_or xs i (record { net = record { ref_ptr = (0, 0); now = [] }; rights = record { ref_ptr = (0, 0); now = [] } }) in
    let is = get_or_default xs i _ x c.loop-i-test.true in
    let next = c.in_ok-is_right_route.ensures in
    record {
      first = first_from-right is_right_route route_view xs i x _ c.loop-i-test.true is
          (is_right_route-noted (map route_view (take i xs)) (route_view x) _ _ c.loop-i.invariant.noted next.answer ∙ c.if-not-branch.false)
          c.loop-i.invariant.first;
      noted = noted-more route_view xs i x _ _ c.loop-i-test.true is c.loop-i.invariant.noted (next.noted c.if-not-branch.false);
    }
