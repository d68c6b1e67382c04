use Rattle.std.proofs.Common.{◌≡◌}
use Rattle.description_rules.specs.NameStarts.{starts_of, share_none}
use Rattle.description_rules.proofs.StartTurns.{starts_from}
use Rattle.description_rules.proofs.symbol_names.starts_with_none.Given as goal

-- no start that ends before this byte is there
abbrev pub invariant-loop-i : goal.invariant-loop-i
invariant-loop-i l = share_none l.texts (starts_of l.text) ≡ share_none l.texts (starts_from l.text l.i)
