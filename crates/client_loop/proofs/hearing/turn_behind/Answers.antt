-- The turns, by how they ended.
use Rattle.std.proofs.Common.{refl}
use Rattle.client_loop.specs.declared.turning.Turned.TheVariants as turned
use Rattle.client_loop.specs.Outlets.{outlets}
use Rattle.client_loop.proofs.RoundLemmas.{ends_turns, goes_told, told_few}
use Rattle.client_loop.proofs.hearing.turn_behind.Goals as goal

pub take_turns-requires : goal.take_turns-requires
take_turns-requires g c = c.requires.ready

pub returns-in-Ok-Waits-clause-turns : goal.returns-in-Ok-Waits-clause-turns
returns-in-Ok-Waits-clause-turns g c =
    ends_turns turned.Waits c.after_wait.result c.args.came c.args.quiet c.moment_of.result c.args.runner.now c.take_turns.new.runner
    (g.L.Link.tells c.args.link.now) (g.L.Link.tells c.take_turns.new.link) (g.L.Link.state c.args.link.now) (g.L.Link.state c.take_turns.new.link)
    (outlets (g.S.Sink.state c.args.out.now) (g.K.Keeper.state c.args.keeper.now))
    (outlets (g.S.Sink.state c.take_turns.new.out) (g.K.Keeper.state c.take_turns.new.keeper)) c.after_wait.ensures c.moment_of.ensures
    (λ r n s. (rw c.in-Ok-Waits.field-0-is at c.in-Ok-Waits.ensures.turns) r n s)

pub returns-in-Ok-Waits-clause-ready : goal.returns-in-Ok-Waits-clause-ready
returns-in-Ok-Waits-clause-ready g c = goes_told c.after_wait.result _ (rw c.in-Ok-Waits.field-0-is at c.in-Ok-Waits.ensures.ready)

pub returns-in-Ok-Waits-clause-few : goal.returns-in-Ok-Waits-clause-few
returns-in-Ok-Waits-clause-few g c = told_few c.after_wait.result c.args.came c.args.quiet c.after_wait.ensures c.requires.few

pub returns-in-Ok-Over-clause-turns : goal.returns-in-Ok-Over-clause-turns
returns-in-Ok-Over-clause-turns g c =
    ends_turns (turned.Over c.in-Ok-Over.end) _ c.args.came c.args.quiet c.moment_of.result c.args.runner.now c.take_turns.new.runner
    (g.L.Link.tells c.args.link.now) (g.L.Link.tells c.take_turns.new.link) (g.L.Link.state c.args.link.now) (g.L.Link.state c.take_turns.new.link)
    (outlets (g.S.Sink.state c.args.out.now) (g.K.Keeper.state c.args.keeper.now))
    (outlets (g.S.Sink.state c.take_turns.new.out) (g.K.Keeper.state c.take_turns.new.keeper)) refl c.moment_of.ensures
    (λ r n s. (rw c.in-Ok-Over.field-0-is at c.in-Ok-Over.ensures.turns) r n s)

pub returns-in-Ok-LinkFault-clause-turns : goal.returns-in-Ok-LinkFault-clause-turns
returns-in-Ok-LinkFault-clause-turns g c =
    ends_turns turned.LinkFault _ c.args.came c.args.quiet c.moment_of.result c.args.runner.now c.take_turns.new.runner
    (g.L.Link.tells c.args.link.now) (g.L.Link.tells c.take_turns.new.link) (g.L.Link.state c.args.link.now) (g.L.Link.state c.take_turns.new.link)
    (outlets (g.S.Sink.state c.args.out.now) (g.K.Keeper.state c.args.keeper.now))
    (outlets (g.S.Sink.state c.take_turns.new.out) (g.K.Keeper.state c.take_turns.new.keeper)) refl c.moment_of.ensures
    (λ r n s. (rw c.in-Ok-LinkFault.field-0-is at c.in-Ok-LinkFault.ensures.turns) r n s)

pub returns-in-Ok-WriteFault-clause-turns : goal.returns-in-Ok-WriteFault-clause-turns
returns-in-Ok-WriteFault-clause-turns g c =
    ends_turns turned.WriteFault _ c.args.came c.args.quiet c.moment_of.result c.args.runner.now c.take_turns.new.runner
    (g.L.Link.tells c.args.link.now) (g.L.Link.tells c.take_turns.new.link) (g.L.Link.state c.args.link.now) (g.L.Link.state c.take_turns.new.link)
    (outlets (g.S.Sink.state c.args.out.now) (g.K.Keeper.state c.args.keeper.now))
    (outlets (g.S.Sink.state c.take_turns.new.out) (g.K.Keeper.state c.take_turns.new.keeper)) refl c.moment_of.ensures
    (λ r n s. (rw c.in-Ok-WriteFault.field-0-is at c.in-Ok-WriteFault.ensures.turns) r n s)

pub returns-in-Ok-KeeperFault-clause-turns : goal.returns-in-Ok-KeeperFault-clause-turns
returns-in-Ok-KeeperFault-clause-turns g c =
    ends_turns turned.KeeperFault _ c.args.came c.args.quiet c.moment_of.result c.args.runner.now c.take_turns.new.runner
    (g.L.Link.tells c.args.link.now) (g.L.Link.tells c.take_turns.new.link) (g.L.Link.state c.args.link.now) (g.L.Link.state c.take_turns.new.link)
    (outlets (g.S.Sink.state c.args.out.now) (g.K.Keeper.state c.args.keeper.now))
    (outlets (g.S.Sink.state c.take_turns.new.out) (g.K.Keeper.state c.take_turns.new.keeper)) refl c.moment_of.ensures
    (λ r n s. (rw c.in-Ok-KeeperFault.field-0-is at c.in-Ok-KeeperFault.ensures.turns) r n s)

pub returns-in-Err-clause-turns : goal.returns-in-Err-clause-turns
returns-in-Err-clause-turns g c = λ r n s. rw c.moment_of.ensures at c.in-Err.ensures.turns r n s
