use Rattle.std.proofs.Common.{◌≡◌, drop}
use Rattle.cli_words.specs.Forms.{are_among, options_of}
use Rattle.cli_words.proofs.read.are_among.Given as goal

-- the options before this one are the command's, and none stands twice
abbrev pub invariant-loop-at : goal.invariant-loop-at
invariant-loop-at l = are_among (options_of l.form) (drop l.at l.options) ≡ are_among (options_of l.form) l.options
