use Rattle.std.proofs.Common.{◌≡◌, ◌++◌, ◌∷◌, length, flat_map}
use Rattle.spec_formats.specs.ValueText.{quoted_byte, IsNulFree}
use Rattle.value_text.proofs.quotes.unquoted.Given as goal

-- the text is the bytes so far and what is left, and no byte is a NUL
abbrev pub invariant-bytes : goal.invariant-bytes
invariant-bytes l = record {
  whole : l.text ≡ 39 ∷ (flat_map quoted_byte l.content ++ l.rest);
  no_nul : IsNulFree l.content;
}

abbrev pub decreases-bytes : goal.decreases-bytes
decreases-bytes l = length l.rest
