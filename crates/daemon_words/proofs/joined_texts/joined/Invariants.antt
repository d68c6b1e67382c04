use Rattle.std.proofs.Common.{◌≡◌, drop, []}
use Rattle.std.specs.Prelude.{string_bytes}
use Rattle.daemon_words.specs.Setups.{line_with_all}
use Rattle.daemon_words.proofs.joined_texts.joined.Given as goal

-- the line so far, with the texts that are left, is that with all
abbrev pub invariant-loop-text : goal.invariant-loop-text
invariant-loop-text l = line_with_all (string_bytes l.line) (drop l.text-index l.texts) ≡ line_with_all [] l.texts
