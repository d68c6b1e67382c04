use Rattle.std.proofs.Common.{◌≡◌, ◌++◌, take, drop}
use Rattle.spec_formats.specs.ValueText.{before_nul}
use Rattle.client_replies.proofs.printed.part_before_nul.Given as goal

-- no byte so far is a NUL
abbrev pub invariant-loop-i : goal.invariant-loop-i
invariant-loop-i l = take l.i l.bytes ++ before_nul (drop l.i l.bytes) ≡ before_nul l.bytes
