use Rattle.std.proofs.Common.{ℕ, List, sym, subst}
use Rattle.ads_outside.specs.declared.event.Event.{Event}
use Rattle.ads_outside.specs.declared.event.Event.TheVariants as event
use Rattle.server_core.specs.declared.outcome.Outcome.TheVariants.{Done}
use Rattle.server_core.specs.CoreState.{CoreState, after_event}
use Rattle.server_core.specs.Serves.{ServesEach, FollowsEach}
use Rattle.server_core.specs.ServerView.{view_of}
use Rattle.server_core.specs.Outcomes.{TakesEvent}
use Rattle.server_core.proofs.EventLemmas.{takes_plain, piece_plain, closed_plain, tick_plain, writable_plain, event_some}
use Rattle.server_core.proofs.ReloadLemmas.{if_ok}
use Rattle.server_core.proofs.events.take_settled.Goals as goal

pub returns-in_ok-piece-in-Piece : goal.returns-in_ok-piece-in-Piece
returns-in_ok-piece-in-Piece g c =
    let waves = g.S.Sources.waves c.args.signals.now in
    let old = view_of c.args.server.now in
    let new = view_of c.piece.new.self in
    let follows = subst (λ bytes. (x : CoreState) → ServesEach old waves x
    → FollowsEach old new waves x (after_event x (event.Piece c.in-Piece.connection bytes))) c.as_slice.ensures
    (c.in_ok-piece-in-Piece.ensures.follows waves) in
    subst (λ (e : Event). TakesEvent old new waves waves e Done) (sym c.in-Piece.is)
    (takes_plain old new waves waves (event.Piece c.in-Piece.connection c.in-Piece.bytes)
    (piece_plain c.in-Piece.connection c.in-Piece.bytes) (λ x s opens. follows x s) c.piece.ensures.notes
    (event_some old new waves waves (event.Piece c.in-Piece.connection c.in-Piece.bytes) c.requires follows))

pub returns-in-Closed : goal.returns-in-Closed
returns-in-Closed g c =
    let waves = g.S.Sources.waves c.args.signals.now in
    let old = view_of c.args.server.now in
    let new = view_of c.end.new.self in
    let follows = c.end.ensures.follows waves in
    subst (λ (e : Event). TakesEvent old new waves waves e Done) (sym c.in-Closed.is)
    (takes_plain old new waves waves (event.Closed c.in-Closed.connection) (closed_plain c.in-Closed.connection) (λ x s opens. follows x s) c.end.ensures.notes
    (event_some old new waves waves (event.Closed c.in-Closed.connection) c.requires follows))

pub returns-in-Writable : goal.returns-in-Writable
returns-in-Writable g c =
    let waves = g.S.Sources.waves c.args.signals.now in
    let old = view_of c.args.server.now in
    let new = view_of c.writable.new.self in
    let follows = c.writable.ensures.follows waves in
    subst (λ (e : Event). TakesEvent old new waves waves e Done) (sym c.in-Writable.is)
    (takes_plain old new waves waves (event.Writable c.in-Writable.connection)
    (writable_plain c.in-Writable.connection) (λ x s opens. follows x s) c.writable.ensures.notes
    (event_some old new waves waves (event.Writable c.in-Writable.connection) c.requires follows))

pub returns-in_ok-tick-in-Tick : goal.returns-in_ok-tick-in-Tick
returns-in_ok-tick-in-Tick g c =
    let waves = g.S.Sources.waves c.args.signals.now in
    let ws = g.S.Sources.waves c.tick.new.signals in
    let old = view_of c.args.server.now in
    let new = view_of c.tick.new.server in
    let follows = c.in_ok-tick-in-Tick.ensures.follows in
    subst (λ (e : Event). TakesEvent old new waves ws e Done) (sym c.in-Tick.is)
    (takes_plain old new waves ws (event.Tick c.in-Tick.moment) (tick_plain c.in-Tick.moment) (λ x s opens. follows x s) c.tick.ensures.notes
    (event_some old new waves ws (event.Tick c.in-Tick.moment) c.requires follows))

pub returns-in-Reload : goal.returns-in-Reload
returns-in-Reload g c =
    let waves = g.S.Sources.waves c.args.signals.now in
    let old = view_of c.args.server.now in
    let new = view_of c.reload.new.self in
    if_ok c.reload.result (λ outcome takes. subst (λ (e : Event). TakesEvent old new waves waves e outcome) (sym c.in-Reload.is)
    (subst (λ (bytes : List ℕ). TakesEvent old new waves waves (event.Reload bytes) outcome) c.as_slice-in-Reload.ensures (takes waves c.requires)))
    c.reload.ensures
