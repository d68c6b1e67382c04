use Rattle.spec_formats.specs.Request.{Read}
use Rattle.session.proofs.DataLemmas.{lent-to}
use Rattle.session.proofs.reading.data_asked.Goals as goal

pub returns-then-asked-eq-PROCESS_BYTES : goal.returns-then-asked-eq-PROCESS_BYTES
returns-then-asked-eq-PROCESS_BYTES c =
    let x = c.args.asked.now in
    lent-to c.args.port.now c.args.handles.now (Read x.group x.offset x.len) c.data_in.result c.data_in.ensures
