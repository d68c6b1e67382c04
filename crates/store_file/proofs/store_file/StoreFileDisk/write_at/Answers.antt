-- Any file may be left, also the one before.
use Rattle.std.proofs.Common.{length}
use Rattle.persist_store.proofs.PastLemmas.{torn-same}
use Rattle.store_file.proofs.store_file.StoreFileDisk.write_at.Goals as goal

pub returns-in-All-clause-stop : goal.returns-in-All-clause-stop
returns-in-All-clause-stop c file left = (file, tt, torn-same c.args.at (length c.args.bytes.now) file)

pub returns-in-Memory-clause-stop : goal.returns-in-Memory-clause-stop
returns-in-Memory-clause-stop c file left = (file, tt, torn-same c.args.at (length c.args.bytes.now) file)

pub returns-in-Failed-clause-stop : goal.returns-in-Failed-clause-stop
returns-in-Failed-clause-stop c file left = (file, tt, torn-same c.args.at (length c.args.bytes.now) file)
