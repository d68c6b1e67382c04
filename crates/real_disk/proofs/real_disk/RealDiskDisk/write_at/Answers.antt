use Rattle.persist_store.proofs.PastLemmas.{torn-same}
use Rattle.real_disk.proofs.real_disk.RealDiskDisk.write_at.Goals as goal
use Rattle.std.proofs.Common.{length}

pub returns-in-Ok-clause-stop : goal.returns-in-Ok-clause-stop
returns-in-Ok-clause-stop g c file left = (file, tt, torn-same c.args.at (length c.args.bytes.now) file)

pub returns-in-Err-clause-stop : goal.returns-in-Err-clause-stop
returns-in-Err-clause-stop g c file left = (file, tt, torn-same c.args.at (length c.args.bytes.now) file)
