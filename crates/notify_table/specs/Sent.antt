-- Which bytes a value of `SentBytes` holds. Private: no public clause cites this file.
use Rattle.std.specs.Prelude.{ℕ, List, take}
use Rattle.notify_table.specs.declared.sent.SentBytes.TheInside.{Inside}
use Rattle.notify_table.specs.declared.sent.Few as code
use Rattle.notify_table.specs.declared.sent.Kept.{Kept}
use Rattle.notify_table.specs.declared.sent.Kept.TheVariants.{Few, Many}

-- up to eight stand in place
abbrev pub few_bytes : code.Few → List ℕ
few_bytes few = take few.len few.bytes

abbrev pub bytes_kept : Kept → List ℕ
bytes_kept (Few few) = few_bytes few
bytes_kept (Many many) = many.items

abbrev pub bytes_in : Inside → List ℕ
bytes_in s = bytes_kept s.kept
