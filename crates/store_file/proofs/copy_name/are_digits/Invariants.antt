-- all before this one are digits
use Rattle.std.proofs.Common.{◌≡◌, drop}
use Rattle.std.specs.List.{list_all}
use Rattle.store_file.specs.CopyNames.{is_digit}
use Rattle.store_file.proofs.copy_name.are_digits.Given as goal

abbrev pub invariant-loop-byte : goal.invariant-loop-byte
invariant-loop-byte l = list_all is_digit l.text ≡ list_all is_digit (drop l.byte-index l.text)
