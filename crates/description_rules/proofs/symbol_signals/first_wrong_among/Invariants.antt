use Rattle.std.proofs.Common.{◌≡◌, [], map, take}
use Rattle.spec_rules.specs.Places.{first_wrong}
use Rattle.description_rules.specs.Placed.{use_view, is_right_use}
use Rattle.description_rules.specs.NextNumber.{AreNamed}
use Rattle.description_rules.proofs.FirstLemmas.{first_from}
use Rattle.description_rules.proofs.symbol_signals.first_wrong_among.Given as goal

-- those before this one are right, and their signals noted
abbrev pub invariant-loop-i : goal.invariant-loop-i
invariant-loop-i l = record {
  first : first_wrong is_right_use [] (map use_view l.uses) ≡ first_from is_right_use use_view l.uses l.i;
  named : AreNamed (map use_view (take l.i l.uses)) l.seen;
}
