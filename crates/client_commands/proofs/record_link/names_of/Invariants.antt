-- The names before this one are copied.
use Rattle.std.proofs.Common.{◌≡◌, take}
use Rattle.client_commands.proofs.record_link.names_of.Given as goal

abbrev pub invariant-loop-text : goal.invariant-loop-text
invariant-loop-text l = l.names ≡ take l.text-index l.texts
