-- The table was opened.
use Rattle.std.proofs.Common.{[], ◌∷◌, refl, subst, sym}
use Rattle.ads_outside.specs.FilesState.{ReadsAll}
use Rattle.sample_store.specs.declared.keeper_open.KeeperOpen.TheVariants as open_
use Rattle.run_tasks.proofs.OpenLemmas.{opens_all, opens_some}
use Rattle.client_commands.specs.Between.{recording_between}
use Rattle.client_commands.specs.CallUses.{link_used}
use Rattle.client_commands.proofs.RecordLemmas.{leaves_link, opened_ends}
use Rattle.client_commands.proofs.RecordedRows.{adds_opened, adds_unchanged}
use Rattle.client_commands.proofs.record_link.record_over.Goals as goal

pub returns-in-Ready-clause-ends : goal.returns-in-Ready-clause-ends
returns-in-Ready-clause-ends g c =
    opened_ends (recording_between c.args.what.now c.args.addrs c.args.to.now) (open_.Ready c.in-Ready.rows) c.record_behind.result
    (g.S.Sink.state c.args.out.now) (g.S.Sink.state c.record_behind.new.out)
    (link_used g.L.Link.tells g.L.Link.state c.args.link.now c.record_behind.new.link) (g.K.Keeper.state c.args.keeper.now)
    (g.K.Keeper.state c.«open».new.self) (g.K.Keeper.state c.record_behind.new.keeper) c.in-Ready.ensures.counts c.in-Ready.ensures.rows
    c.in-Ready.ensures.later c.in-Ready.ensures.failed c.record_behind.ensures.ends

pub returns-in-Failed-clause-ends : goal.returns-in-Failed-clause-ends
returns-in-Failed-clause-ends g c =
    opened_ends (recording_between c.args.what.now c.args.addrs c.args.to.now) open_.Failed c.print_line.result
    (g.S.Sink.state c.args.out.now) (g.S.Sink.state c.print_line.new.out)
    (link_used g.L.Link.tells g.L.Link.state c.args.link.now c.args.link.now) (g.K.Keeper.state c.args.keeper.now)
    (g.K.Keeper.state c.«open».new.self) (g.K.Keeper.state c.«open».new.self) c.in-Failed.ensures.counts c.in-Failed.ensures.rows
    c.in-Failed.ensures.later c.in-Failed.ensures.failed
    ((leaves_link (g.L.Link.tells c.args.link.now) (g.L.Link.state c.args.link.now), refl), c.print_line.ensures)

pub returns-in-Memory-clause-ends : goal.returns-in-Memory-clause-ends
returns-in-Memory-clause-ends g c =
    opened_ends (recording_between c.args.what.now c.args.addrs c.args.to.now) open_.Memory c.end_without_memory.result
    (g.S.Sink.state c.args.out.now) (g.S.Sink.state c.end_without_memory.new.out)
    (link_used g.L.Link.tells g.L.Link.state c.args.link.now c.args.link.now) (g.K.Keeper.state c.args.keeper.now)
    (g.K.Keeper.state c.«open».new.self) (g.K.Keeper.state c.«open».new.self) c.in-Memory.ensures.counts c.in-Memory.ensures.rows
    c.in-Memory.ensures.later c.in-Memory.ensures.failed (
      (leaves_link (g.L.Link.tells c.args.link.now) (g.L.Link.state c.args.link.now), refl),
      c.end_without_memory.ensures.memory,
      c.end_without_memory.ensures.line,
    )

pub returns-in-Ready-clause-grows : goal.returns-in-Ready-clause-grows
returns-in-Ready-clause-grows g c = adds_opened _ (g.K.Keeper.state c.«open».new.self).rows _ c.in-Ready.ensures.rows c.record_behind.ensures.grows

pub returns-in-Failed-clause-grows : goal.returns-in-Failed-clause-grows
returns-in-Failed-clause-grows g c = adds_unchanged _ _ c.in-Failed.ensures.rows

pub returns-in-Memory-clause-grows : goal.returns-in-Memory-clause-grows
returns-in-Memory-clause-grows g c = adds_unchanged _ _ c.in-Memory.ensures.rows

pub returns-in-Ready-clause-opens : goal.returns-in-Ready-clause-opens
returns-in-Ready-clause-opens g c =
    opens_all c.record_behind.result _ _ c.args.what.now.store
    (subst (λ names. ReadsAll (g.K.Keeper.state c.args.keeper.now).names names (c.args.what.now.store ∷ [])) (sym c.record_behind.ensures.names)
    (rw c.as_str.ensures at c.in-Ready.ensures.named))

pub returns-in-Failed-clause-opens : goal.returns-in-Failed-clause-opens
returns-in-Failed-clause-opens g c = opens_all c.print_line.result _ _ c.args.what.now.store (rw c.as_str.ensures at c.in-Failed.ensures.named)

pub returns-in-Memory-clause-opens : goal.returns-in-Memory-clause-opens
returns-in-Memory-clause-opens g c =
    opens_some c.end_without_memory.result _ _ c.args.what.now.store c.end_without_memory.ensures.memory
    (rw c.as_str.ensures at c.in-Memory.ensures.named)
