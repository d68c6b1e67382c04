use Rattle.std.proofs.Common.{◌≡◌, [], map, take}
use Rattle.spec_rules.specs.Places.{first_wrong}
use Rattle.spec_rules.specs.PortRules.{is_right_port}
use Rattle.description_table.specs.Views.{port_view}
use Rattle.description_rules.specs.NextPort.{number_view}
use Rattle.description_rules.proofs.FirstLemmas.{first_from}
use Rattle.description_rules.proofs.port_rules.first_wrong_among.Given as goal

-- those before this one are right, and their numbers noted
abbrev pub invariant-loop-i : goal.invariant-loop-i
invariant-loop-i l = record {
  first : first_wrong (is_right_port l.limit) [] (map port_view l.ports) ≡ first_from (is_right_port l.limit) port_view l.ports l.i;
  noted : l.seen ≡ map number_view (take l.i l.ports);
}
