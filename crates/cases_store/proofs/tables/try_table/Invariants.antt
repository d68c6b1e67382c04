use denote.Shadow.{shadow}
use denote.Text.{Utf8}
use Rattle.cases_store.proofs.tables.try_table.Given as goal

-- lines are left, and the title is a text
abbrev pub invariant-loop-line : goal.invariant-loop-line
invariant-loop-line l =
    (goal.iterator-loop-line).can_next l.line-iterator
    × (goal.iterator-loop-line).is_finite l.line-iterator
    × shadow (Utf8 l.title)
