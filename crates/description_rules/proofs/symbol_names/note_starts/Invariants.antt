use Rattle.description_rules.proofs.StartTurns.{IsLeft}
use Rattle.description_rules.proofs.symbol_names.note_starts.Given as goal

-- the starts that end before this byte are noted
abbrev pub invariant-loop-i : goal.invariant-loop-i
invariant-loop-i l = IsLeft l.fn.texts l.texts l.text l.i
