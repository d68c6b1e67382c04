use Rattle.session.proofs.WriteLemmas.{release-short, release-ends}
use Rattle.session.proofs.writing.release.Goals as goal

pub returns-then-bytes-ne4 : goal.returns-then-bytes-ne4
returns-then-bytes-ne4 c = record { ends = λ a port number asks. release-short a c.args.bytes.now _ _ asks c.if-bytes-ne4.true }

pub returns : goal.returns
returns c = record {
  ends = λ a port number asks.
      release-ends a c.args.bytes.now c.args.ams_port c.get32.result _ port c.args.handles.now _ asks number c.if-bytes-ne4.false
      c.get32.ensures c.release.ensures.answer c.release.ensures.ok c.release.ensures.err;
}
