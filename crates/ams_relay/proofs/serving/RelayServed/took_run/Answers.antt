use Rattle.std.proofs.Common.{refl}
use Rattle.ams_relay.proofs.MoveLemmas.{run_stands, stands_wholes}
use Rattle.ams_relay.proofs.serving.RelayServed.took_run.Goals as goal

pub returns-clause-follows : goal.returns-clause-follows
returns-clause-follows c = λ x frames s some.
    let old = c.args.self.now in
    let new = record old { router = record old.router { outlets = c.took_run.new.self } } in
    stands_wholes new c.args.conn frames x s.working
    (run_stands c.args.conn frames old new x.running (record { holds = s.holds; streams = s.streams }) some refl refl c.took_run.ensures) s.notes
