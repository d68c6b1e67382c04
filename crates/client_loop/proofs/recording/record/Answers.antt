-- With a runner, or without memory for it.
use Rattle.std.proofs.Common.{inl}
use Rattle.client_loop.specs.Outlets.{outlets}
use Rattle.client_loop.proofs.LaterLemmas.{link_same, out_same}
use Rattle.client_loop.proofs.RecordLemmas.{ready_first}
use Rattle.client_loop.proofs.TalkLemmas.{never_first}
use Rattle.client_loop.proofs.recording.record.Goals as goal

pub record_by-requires : goal.record_by-requires
record_by-requires g c = ready_first _ _ _ _ _ _ (g.K.Keeper.state c.args.keeper.now).rows c.requires.numbers c.requires.next c.in-Ok.ensures

pub returns-in-Ok-clause-records : goal.returns-in-Ok-clause-records
returns-in-Ok-clause-records g c = c.record_by.ensures.records _ _ _ c.in-Ok.ensures

pub returns-in-Err-clause-records : goal.returns-in-Err-clause-records
returns-in-Err-clause-records g c =
    inl (never_first _ _ _ (g.L.Link.state c.args.link.now) (outlets (g.S.Sink.state c.args.out.now) (g.K.Keeper.state c.args.keeper.now)))

pub returns-in-Err-clause-link_later : goal.returns-in-Err-clause-link_later
returns-in-Err-clause-link_later g c = link_same _

pub returns-in-Err-clause-out_later : goal.returns-in-Err-clause-out_later
returns-in-Err-clause-out_later g c = out_same (outlets (g.S.Sink.state c.args.out.now) (g.K.Keeper.state c.args.keeper.now))
