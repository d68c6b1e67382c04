use Rattle.std.proofs.Common.{rules}
use Rattle.std.specs.Int.{w64}
use Rattle.std.proofs.lemmas.Nat.{le_bytes_8}
use Rattle.notify_table.proofs.SentLemmas.{same_numbers}
use Rattle.notify_table.proofs.sent.are_same_eight.Goals as goal

pub returns : goal.returns
returns c =
    same_numbers w64 c.args.bytes c.args.others _ _ c.from_le_bytes.ensures c.from_le_bytes-2.ensures
    (le_bytes_8 c.args.bytes _ (search rules) (search rules) c.from_le_bytes.ensures)
    (le_bytes_8 c.args.others _ (search rules) (search rules) c.from_le_bytes-2.ensures)
