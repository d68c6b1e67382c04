-- A turn that is shown, or not.
use Rattle.std.proofs.Common.{◌+◌, refl}
use Rattle.serve_loop.proofs.ShowLemmas.{turn_ticked, turn_other, some_at_turn}
use Rattle.serve_loop.proofs.TellLemmas.{told_so}
use Rattle.serve_loop.proofs.beside_loop.turn_beside.Goals as goal

pub ticked-requires-clause-some : goal.ticked-requires-clause-some
ticked-requires-clause-some g c = λ asks. some_at_turn _ _ _ _ _ _ _ c.in-Tick.ensures.turn (c.requires.some asks)

pub returns-in-On-clause-turn : goal.returns-in-On-clause-turn
returns-in-On-clause-turn g c =
    turn_ticked _ _ _ _ _ _ _ _ _ _ c.in-Tick.ensures.turn (c.turn_with.ensures.seen c.args.outside.now) (c.in-On.ensures.seen refl)

pub returns-in-Stop-clause-stopped : goal.returns-in-Stop-clause-stopped
returns-in-Stop-clause-stopped g c = λ is. record {
  takes = c.in-Tick.ensures.turn;
  beside = c.turn_with.new.beside;
  stays = c.turn_with.ensures.seen c.args.outside.now;
  stops = c.in-Stop.ensures.stopped refl;
}

pub returns-in-Other-clause-turn : goal.returns-in-Other-clause-turn
returns-in-Other-clause-turn g c = turn_other _ _ _ _ _ _ _ _ _ c.in-Other.ensures.turn (c.turn_with.ensures.seen c.args.outside.now)

pub returns-in-Other-clause-ready : goal.returns-in-Other-clause-ready
returns-in-Other-clause-ready g c = λ is n ready.
    g.met.A.Beside.fewer _ n _ (c.turn_with.ensures.ready (n + 1) c.args.outside.now ready)

pub returns-in-End-clause-turn : goal.returns-in-End-clause-turn
returns-in-End-clause-turn g c = (c.in-End.ensures.turn.0, c.in-End.ensures.turn.1, c.turn_with.ensures.seen c.args.outside.now)

pub returns-in-End-clause-ready : goal.returns-in-End-clause-ready
returns-in-End-clause-ready g c = λ is n ready.
    g.met.A.Beside.fewer _ n _ (c.turn_with.ensures.ready (n + 1) c.args.outside.now ready)

pub returns-in-LinkFault-clause-turn : goal.returns-in-LinkFault-clause-turn
returns-in-LinkFault-clause-turn g c =
    (c.in-LinkFault.ensures.turn.0, c.in-LinkFault.ensures.turn.1, c.turn_with.ensures.seen c.args.outside.now)

pub returns-in-LinkFault-clause-ready : goal.returns-in-LinkFault-clause-ready
returns-in-LinkFault-clause-ready g c = λ is n ready.
    g.met.A.Beside.fewer _ n _ (c.turn_with.ensures.ready (n + 1) c.args.outside.now ready)

pub returns-in-Memory-clause-turn : goal.returns-in-Memory-clause-turn
returns-in-Memory-clause-turn g c = (c.in-Memory.ensures.turn, c.turn_with.ensures.seen c.args.outside.now)

pub returns-in-Memory-clause-ready : goal.returns-in-Memory-clause-ready
returns-in-Memory-clause-ready g c = λ is n ready.
    g.met.A.Beside.fewer _ n _ (c.turn_with.ensures.ready (n + 1) c.args.outside.now ready)

pub returns-in-On-clause-told : goal.returns-in-On-clause-told
returns-in-On-clause-told g c = told_so _ _ _ _ _ _ _ _ _ _ _ _ (λ y over. over) c.in-On.ensures.told c.in-Tick.ensures.told

pub returns-in-Stop-clause-told : goal.returns-in-Stop-clause-told
returns-in-Stop-clause-told g c = told_so _ _ _ _ _ _ _ _ _ _ _ _ (λ y over. over) c.in-Stop.ensures.told c.in-Tick.ensures.told
