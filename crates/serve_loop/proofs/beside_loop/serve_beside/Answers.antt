-- One turn behind others, and what is shown of it.
use Rattle.std.proofs.Common.{refl, ◌∙◌, ℕ, ◌+◌, ◌-◌, ◌≡◌, subst, arith}
use Rattle.std.proofs.Math.Nat.{le_refl, le_trans}
use Rattle.ads_outside.specs.WireAnswers.{Stops}
use Rattle.serve_loop.specs.Beside.{ShowsTurns}
use Rattle.serve_loop.proofs.TurnLemmas.{stops_kept, stops_later}
use Rattle.serve_loop.proofs.ShowLemmas.{shows_none, shows_turn, shows_before, shows_broken, shows_seen, shows_stopped, fewer_many, ready_none, some_after}
use Rattle.serve_loop.proofs.TellLemmas.{told_none, told_so, told_then}
use Rattle.serve_loop.proofs.WantLemmas.{wanting_later}
use Rattle.serve_loop.proofs.beside_loop.serve_beside.Goals as goal

pub loop-taken-init : goal.loop-taken-init
loop-taken-init g c = record {
  shows = shows_none _ _ _ _ _ _ (g.met.A.Beside.begins c.args.beside.now c.args.limit c.args.outside.now c.requires.ready);
  ready = subst (λ n. g.A.Beside.ready n c.args.beside.now c.args.outside.now) (omega arith) c.requires.ready;
  told = told_none _ _ _ _ _ _ _ _ (λ x over. over) (λ before old. old);
  kept = refl;
  later = le_refl _;
  wanted = le_refl _;
}

pub turn_beside-requires-clause-some : goal.turn_beside-requires-clause-some
turn_beside-requires-clause-some g c κs within = λ asks.
    some_after _ _ _ _ _ _ _ _ _ c.loop-taken.invariant.shows (c.requires.some asks)

pub turn_beside-requires-clause-ready : goal.turn_beside-requires-clause-ready
turn_beside-requires-clause-ready g c κs within =
    let Ready : ℕ → Type 0 = λ n. g.A.Beside.ready n c.loop-taken.beside c.loop-taken.outside in
    fewer_many {P = Ready} (λ n ready. g.met.A.Beside.fewer _ n _ ready) (c.args.limit - c.loop-taken._taken - 1) 1
    (subst Ready (omega (arith, c.loop-taken-test.true)) c.loop-taken.invariant.ready)

pub returns-in-Stopped-clause-stopped : goal.returns-in-Stopped-clause-stopped
returns-in-Stopped-clause-stopped g c = λ is.
    shows_stopped _ _ _ _ _ _ _ _ _ _ _ _ _ _ g.A.Beside.seen _ _ _ c.loop-taken.invariant.shows c.loop-taken-test.true
    (c.in-Stopped.ensures.stopped refl)

pub returns-in-End-clause-serve : goal.returns-in-End-clause-serve
returns-in-End-clause-serve g c =
    shows_before _ _ _ _ _ _ _ _ _ _ _ _ (shows_seen _ _ _ _ _ _ _ _ _ _ (c.in-End.ensures.turn.2 _ _) c.loop-taken.invariant.shows)
    c.loop-taken-test.true c.in-End.ensures.turn.1 c.in-End.ensures.turn.0

pub returns-in-LinkFault-clause-serve : goal.returns-in-LinkFault-clause-serve
returns-in-LinkFault-clause-serve g c =
    shows_before _ _ _ _ _ _ _ _ _ _ (λ last. Stops (g.W.Wire.state c.args.wire.now) (g.W.Wire.state c.turn_beside.new.wire) last) _
    (shows_seen _ _ _ _ _ _ _ _ _ _ (c.in-LinkFault.ensures.turn.2 _ _) c.loop-taken.invariant.shows)
    c.loop-taken-test.true c.in-LinkFault.ensures.turn.1
    (stops_later (g.W.Wire.state c.args.wire.now) (g.W.Wire.state c.loop-taken.wire) (g.W.Wire.state c.turn_beside.new.wire)
    (stops_kept _ _ _ _ _ _ _ c.loop-taken.invariant.shows.turns) c.loop-taken.invariant.later c.in-LinkFault.ensures.turn.0)

pub returns-in-Memory-clause-serve : goal.returns-in-Memory-clause-serve
returns-in-Memory-clause-serve g c =
    shows_broken _ _ _ _ _ _ _ _ _ _ _ (shows_seen _ _ _ _ _ _ _ _ _ _ (c.in-Memory.ensures.turn.1 _ _) c.loop-taken.invariant.shows)
    c.loop-taken-test.true c.in-Memory.ensures.turn.0

pub returns-in-Memory-clause-memory : goal.returns-in-Memory-clause-memory
returns-in-Memory-clause-memory g c = λ is.
    wanting_later _ (g.W.Wire.state c.args.wire.now) (g.W.Wire.state c.loop-taken.wire) (g.W.Wire.state c.turn_beside.new.wire)
    c.loop-taken.invariant.wanted (c.in-Memory.ensures.memory refl)

pub loop-taken-preserved : goal.loop-taken-preserved
loop-taken-preserved g c = record {
  shows = shows_turn _ _ _ _ _ _ _ _ _ _ _ _ _ _ c.loop-taken.invariant.shows c.in-On.ensures.turn;
  ready = c.turn_beside.ensures.ready (λ is. cc) (c.args.limit - (c.loop-taken._taken + 1))
      (subst (λ n. g.A.Beside.ready n c.loop-taken.beside c.loop-taken.outside) (omega (arith, c.loop-taken-test.true)) c.loop-taken.invariant.ready);
  told = told_then _ _ _ _ _ _ _ _ _ _ _ _ _ _ c.loop-taken.invariant.told c.in-On.ensures.told;
  kept = c.turn_beside.ensures.kept ∙ c.loop-taken.invariant.kept;
  later = le_trans c.loop-taken.invariant.later c.turn_beside.ensures.later;
  wanted = le_trans c.loop-taken.invariant.wanted c.turn_beside.ensures.wanted;
}

pub returns-clause-serve : goal.returns-clause-serve
returns-clause-serve g c =
    let is : c.loop-taken._taken ≡ c.args.limit = omega (arith, c.loop-taken-test.false, c.loop-taken.auto._taken-end) in
    subst (λ n. ShowsTurns g.M.Served.body_of g.M.Served.steps g.M.Served.noted (g.M.Served.serves c.args.served.now) (g.M.Served.serves c.loop-taken.served)
    (g.W.Wire.state c.args.wire.now).history (g.W.Wire.state c.loop-taken.wire).history n
    (g.A.Beside.seen c.args.beside.now c.args.outside.now c.loop-taken.beside c.loop-taken.outside)) is c.loop-taken.invariant.shows

pub returns-in-End-clause-ready : goal.returns-in-End-clause-ready
returns-in-End-clause-ready g c = λ is.
    ready_none (λ n. g.A.Beside.ready n c.loop-taken.beside c.loop-taken.outside) (λ n. g.A.Beside.ready n c.turn_beside.new.beside c.turn_beside.new.outside)
    (λ n ready. g.met.A.Beside.fewer _ n _ ready) (c.args.limit - c.loop-taken._taken) (omega (arith, c.loop-taken-test.true)) c.loop-taken.invariant.ready
    (c.turn_beside.ensures.ready (λ is. cc))

pub returns-in-LinkFault-clause-ready : goal.returns-in-LinkFault-clause-ready
returns-in-LinkFault-clause-ready g c = λ is.
    ready_none (λ n. g.A.Beside.ready n c.loop-taken.beside c.loop-taken.outside) (λ n. g.A.Beside.ready n c.turn_beside.new.beside c.turn_beside.new.outside)
    (λ n ready. g.met.A.Beside.fewer _ n _ ready) (c.args.limit - c.loop-taken._taken) (omega (arith, c.loop-taken-test.true)) c.loop-taken.invariant.ready
    (c.turn_beside.ensures.ready (λ is. cc))

pub returns-in-Memory-clause-ready : goal.returns-in-Memory-clause-ready
returns-in-Memory-clause-ready g c = λ is.
    ready_none (λ n. g.A.Beside.ready n c.loop-taken.beside c.loop-taken.outside) (λ n. g.A.Beside.ready n c.turn_beside.new.beside c.turn_beside.new.outside)
    (λ n ready. g.met.A.Beside.fewer _ n _ ready) (c.args.limit - c.loop-taken._taken) (omega (arith, c.loop-taken-test.true)) c.loop-taken.invariant.ready
    (c.turn_beside.ensures.ready (λ is. cc))

pub returns-clause-ready : goal.returns-clause-ready
returns-clause-ready g c = λ is.
    let Ready : ℕ → Type 0 = λ n. g.A.Beside.ready n c.loop-taken.beside c.loop-taken.outside in
    fewer_many {P = Ready} (λ n ready. g.met.A.Beside.fewer _ n _ ready) (c.args.limit - c.loop-taken._taken) 0
    (subst Ready (omega arith) c.loop-taken.invariant.ready)

pub returns-in-Stopped-clause-told : goal.returns-in-Stopped-clause-told
returns-in-Stopped-clause-told g c = record {
  last = (g.W.Wire.state c.turn_beside.new.wire).history;
  count = c.loop-taken._taken + 1;
  tells = told_so _ _ _ _ _ _ _ _ _ _ _ _ (λ y over. tt) (λ before told. told)
      (told_then _ _ _ _ _ _ _ _ _ _ _ _ _ _ c.loop-taken.invariant.told c.in-Stopped.ensures.told);
  behind = refl;
}

pub returns-in-End-clause-told : goal.returns-in-End-clause-told
returns-in-End-clause-told g c = record {
  last = (g.W.Wire.state c.loop-taken.wire).history;
  count = c.loop-taken._taken;
  tells = told_so _ _ _ _ _ _ _ _ _ _ _ _ (λ y over. tt) c.in-End.ensures.told c.loop-taken.invariant.told;
  behind = c.in-End.ensures.turn.0;
}

pub returns-in-LinkFault-clause-told : goal.returns-in-LinkFault-clause-told
returns-in-LinkFault-clause-told g c = record {
  last = (g.W.Wire.state c.loop-taken.wire).history;
  count = c.loop-taken._taken;
  tells = told_so _ _ _ _ _ _ _ _ _ _ _ _ (λ y over. tt) c.in-LinkFault.ensures.told c.loop-taken.invariant.told;
  behind = stops_later (g.W.Wire.state c.args.wire.now) (g.W.Wire.state c.loop-taken.wire) (g.W.Wire.state c.turn_beside.new.wire)
      (stops_kept _ _ _ _ _ _ _ c.loop-taken.invariant.shows.turns) c.loop-taken.invariant.later c.in-LinkFault.ensures.turn.0;
}

pub returns-in-Memory-clause-told : goal.returns-in-Memory-clause-told
returns-in-Memory-clause-told g c = record {
  last = c.in-Memory.ensures.told.last;
  count = c.loop-taken._taken + c.in-Memory.ensures.told.count;
  tells = told_then _ _ _ _ _ _ _ _ _ _ _ _ _ _ c.loop-taken.invariant.told c.in-Memory.ensures.told.tells;
  behind = c.in-Memory.ensures.told.untold;
}

pub returns-clause-told : goal.returns-clause-told
returns-clause-told g c = record {
  last = (g.W.Wire.state c.loop-taken.wire).history;
  count = c.loop-taken._taken;
  tells = told_so _ _ _ _ _ _ _ _ _ _ _ _ (λ y over. tt) (λ before told. told) c.loop-taken.invariant.told;
  behind = refl;
}
