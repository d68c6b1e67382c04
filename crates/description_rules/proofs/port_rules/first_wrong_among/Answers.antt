use Rattle.std.proofs.Common.{◌+◌, map, take, sym, ◌∙◌}
use Rattle.spec_rules.specs.PortRules.{is_right_port}
use Rattle.description_table.specs.Views.{port_view}
use Rattle.description_rules.specs.NextPort.{number_view}
use Rattle.description_rules.proofs.FirstLemmas.{first_from-start, first_from-right, first_from-wrong, take-more}
use Rattle.description_rules.proofs.PortSeenLemmas.{is_right_port-noted, port-noted}
use Rattle.description_rules.proofs.port_rules.first_wrong_among.Goals as goal

pub loop-i-init : goal.loop-i-init
loop-i-init c = record { first = first_from-start (is_right_port c.args.limit) port_view c.args.ports.now; noted = c.requires }

pub returns-then-not-branch : goal.returns-then-not-branch
returns-then-not-branch c =
    let xs = c.args.ports.now in
    let i = c.loop-i.i in
    let x = c.index-ports-i.result in
    sym (first_from-wrong (is_right_port c.args.limit) port_view xs i x _ c.loop-i-test.true c.index-ports-i.is
    (is_right_port-noted c.args.limit (take i xs) x c.loop-i.seen _ _ c.loop-i.invariant.noted c.in_ok-is_right_port.ensures ∙ c.if-not-branch.true)
    c.loop-i.invariant.first)

pub loop-i-preserved : goal.loop-i-preserved
loop-i-preserved c =
    let xs = c.args.ports.now in
    let i = c.loop-i.i in
    let x = c.index-ports-i.result in
    record {
      first = first_from-right (is_right_port c.args.limit) port_view xs i x _ c.loop-i-test.true c.index-ports-i.is
          (is_right_port-noted c.args.limit (take i xs) x c.loop-i.seen _ _ c.loop-i.invariant.noted c.in_ok-is_right_port.ensures ∙ c.if-not-branch.false)
          c.loop-i.invariant.first;
      noted = port-noted (map number_view (take i xs)) (map number_view (take (i + 1) xs))
          (number_view x) _ c.loop-i.seen _ _ c.loop-i.invariant.noted c.in_ok-is_right_port.ensures
          c.if-not-branch.false (take-more number_view xs i x c.loop-i-test.true c.index-ports-i.is);
    }
