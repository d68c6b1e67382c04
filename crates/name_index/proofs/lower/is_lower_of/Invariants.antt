use Rattle.std.proofs.Common.{◌≡◌, drop}
use Rattle.std.specs.Prelude.{bytes_eq}
use Rattle.name_paths.specs.Identifier.{lower}
use Rattle.name_index.proofs.lower.is_lower_of.Given as goal

-- the bytes before this one are the same
abbrev pub invariant-loop-i : goal.invariant-loop-i
invariant-loop-i l = bytes_eq (lower l.text) l.low ≡ bytes_eq (lower (drop l.i l.text)) (drop l.i l.low)
