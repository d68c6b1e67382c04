-- The recording behind its connection, or none.
use Rattle.std.proofs.Common.{refl, inl}
use Rattle.ams_header.specs.Header.{address_of}
use Rattle.client_calls.specs.Recording.{record_meant}
use Rattle.client_loop.specs.Called.{calling}
use Rattle.client_loop.specs.Outlets.{outlets}
use Rattle.client_loop.proofs.LaterLemmas.{link_then, out_same}
use Rattle.client_loop.proofs.RecordLemmas.{records}
use Rattle.client_loop.proofs.recording.run_record.Goals as goal

pub returns-in-Ready-clause-recorded : goal.returns-in-Ready-clause-recorded
returns-in-Ready-clause-recorded g c =
    records c.record.result (calling (address_of c.args.me) (address_of c.args.peer) (record_meant c.args.names.now c.args.spec) c.args.to.now) c.in-Ready.now
    (g.L.Link.tells c.args.link.now) (g.L.Link.tells c.connect.new.self) (g.L.Link.tells c.record.new.link)
    (g.L.Link.state c.args.link.now) (g.L.Link.state c.connect.new.self) (g.L.Link.state c.record.new.link)
    (outlets (g.S.Sink.state c.args.out.now) (g.K.Keeper.state c.args.keeper.now))
    (outlets (g.S.Sink.state c.record.new.out) (g.K.Keeper.state c.record.new.keeper))
    c.in-Ready.ensures.connects c.connect.ensures.later.faults (λ o log told. c.in-Ready.ensures.told o log told) c.record.ensures.records

pub returns-in-Ready-clause-link_later : goal.returns-in-Ready-clause-link_later
returns-in-Ready-clause-link_later g c = link_then _ _ _ c.connect.ensures.later c.record.ensures.link_later

pub returns-in-Failed-clause-recorded : goal.returns-in-Failed-clause-recorded
returns-in-Failed-clause-recorded g c = (
  c.in-Failed.ensures.connects.faulted,
  inl (record {
    begins = record { same = c.in-Failed.ensures.connects.same; silent = refl; told = λ o log told. c.in-Failed.ensures.told o log told };
    untouched = refl;
  }),
)

pub returns-in-Failed-clause-out_later : goal.returns-in-Failed-clause-out_later
returns-in-Failed-clause-out_later g c = out_same (outlets (g.S.Sink.state c.args.out.now) (g.K.Keeper.state c.args.keeper.now))

pub returns-in-Memory-clause-recorded : goal.returns-in-Memory-clause-recorded
returns-in-Memory-clause-recorded g c =
    inl (record {
      begins = record { same = c.in-Memory.ensures.connects; silent = refl; told = λ o log told. c.in-Memory.ensures.told o log told };
      untouched = refl;
    })

pub returns-in-Memory-clause-out_later : goal.returns-in-Memory-clause-out_later
returns-in-Memory-clause-out_later g c = out_same (outlets (g.S.Sink.state c.args.out.now) (g.K.Keeper.state c.args.keeper.now))
