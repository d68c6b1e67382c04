-- What was read is the file's.
use Rattle.std.proofs.Common.{inl}
use Rattle.run_tasks.proofs.ReadingLemmas.{over_bytes, over_long}
use Rattle.run_tasks.proofs.file.bytes_of_file.Goals as goal

pub returns-in-Bytes-clause-finds : goal.returns-in-Bytes-clause-finds
returns-in-Bytes-clause-finds g c =
    over_bytes (g.F.Files.state c.args.files.now).held c.args.name.now c.in-Bytes.bytes
    (rw c.as_str.ensures at c.in-Bytes.ensures.read) c.in-Bytes.ensures.limit

pub returns-in_ok-told-in-TooLong-clause-finds : goal.returns-in_ok-told-in-TooLong-clause-finds
returns-in_ok-told-in-TooLong-clause-finds g c =
    inl (
      over_long (g.F.Files.state c.args.files.now).held c.args.name.now (rw c.as_str.ensures at c.in-TooLong.ensures.read),
      c.in_ok-told-in-TooLong.ensures,
    )
