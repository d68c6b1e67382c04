use Rattle.std.proofs.Common.{rules}
use Rattle.std.specs.Int.{w32}
use Rattle.std.proofs.lemmas.Nat.{le_bytes_4}
use Rattle.notify_table.proofs.SentLemmas.{same_numbers}
use Rattle.notify_table.proofs.sent.are_same_four.Goals as goal

pub returns : goal.returns
returns c =
    same_numbers w32 c.args.bytes c.args.others _ _ c.from_le_bytes.ensures c.from_le_bytes-2.ensures
    (le_bytes_4 c.args.bytes _ (search rules) (search rules) c.from_le_bytes.ensures)
    (le_bytes_4 c.args.others _ (search rules) (search rules) c.from_le_bytes-2.ensures)
