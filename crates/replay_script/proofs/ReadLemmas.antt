-- The lines of a script, read one after another.
use Rattle.std.proofs.Common.{◌≡◌, ℕ, ◌+◌, ◌<◌, ◌≤◌, List, [], ◌∷◌, length, None, Some, Err, sym, ap, ◌∙◌, arith}
use Rattle.spec_machine.specs.BuiltLines.{all_lines}
use Rattle.spec_machine.specs.Reading.{Reading}
use Rattle.spec_machine.specs.Script.{after_line, script_after, script_of, said_by}
use Rattle.spec_machine.specs.ScriptLines.{lines_of}
use Rattle.replay_script.proofs.LineLemmas.{lines_of-nil}
use Rattle.replay_script.proofs.GrammarLemmas.{script_after-read, script_after-refused, script_after-end}

-- what was read and the bytes that are left make the script of all bytes
pub record Reads (bytes : List ℕ) (r : Reading) (rest : List ℕ) : Type 0 where
  pub script : script_after all_lines r (lines_of rest) ≡ script_of all_lines bytes
  pub lines : r.lines + length rest ≤ length bytes

-- the next line is off the grammar
pub Reads-refused : (bytes rest line others : List ℕ) (r : Reading) → Reads bytes r rest → lines_of rest ≡ line ∷ lines_of others
    → after_line all_lines r line ≡ None → script_of all_lines bytes ≡ Err (r.lines + 1)
Reads-refused bytes rest line others r h first none =
    sym h.script ∙ (ap (script_after all_lines r) first ∙ script_after-refused r line (lines_of others) none)

-- the next line is read
pub Reads-read : (bytes rest line others : List ℕ) (r s : Reading) → Reads bytes r rest → lines_of rest ≡ line ∷ lines_of others
    → length others < length rest → after_line all_lines r line ≡ Some s → s.lines ≡ r.lines + 1 → Reads bytes s others
Reads-read bytes rest line others r s h first shorter read counted = record {
  script = sym (script_after-read r s line (lines_of others) read) ∙ (sym (ap (script_after all_lines r) first) ∙ h.script);
  lines = omega (arith, h.lines, shorter, counted);
}

-- no byte is left
pub Reads-end : (bytes rest : List ℕ) (r : Reading) → Reads bytes r rest → length rest ≡ 0 → script_of all_lines bytes ≡ said_by r
Reads-end bytes [] r h none = sym h.script ∙ (ap (script_after all_lines r) lines_of-nil ∙ script_after-end r)
Reads-end bytes (b ∷ bs) r h none = absurd (omega arith)
