-- the digits before this one are written
use Rattle.std.proofs.Common.{◌≡◌, drop}
use Rattle.store_file.specs.CopyNames as names
use Rattle.store_file.proofs.copy_name.number_behind.Given as goal

abbrev pub invariant-loop-digit : goal.invariant-loop-digit
invariant-loop-digit l = names.number_behind l.all (drop l.digit-index l.digits) ≡ names.number_behind l.number l.digits
