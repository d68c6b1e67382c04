-- A sync ends a period.
use Rattle.persist_store.proofs.PastLemmas.{syncs_once}
use Rattle.persist_store.proofs.mem_disk.MemDiskDisk.sync.Goals as goal

pub returns-clause-done : goal.returns-clause-done
returns-clause-done c = λ is.
    (syncs_once c.args.self.now c.call.new.self c.end_period.new.self c.call.result
    c.call.ensures.after c.end_period.ensures.made c.end_period.ensures.after).done

pub returns-clause-stop : goal.returns-clause-stop
returns-clause-stop c =
    (syncs_once c.args.self.now c.call.new.self c.end_period.new.self c.call.result
    c.call.ensures.after c.end_period.ensures.made c.end_period.ensures.after).stop
