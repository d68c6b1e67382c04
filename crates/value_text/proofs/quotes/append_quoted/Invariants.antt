use Rattle.std.proofs.Common.{◌≡◌, ◌++◌, take, flat_map}
use Rattle.spec_formats.specs.ValueText.{quoted_byte}
use Rattle.value_text.proofs.quotes.append_quoted.Given as goal

-- the bytes before this one are written
abbrev pub invariant-loop-byte : goal.invariant-loop-byte
invariant-loop-byte l = l.out ≡ l.initial.out ++ flat_map quoted_byte (take l.byte-index l.content)
