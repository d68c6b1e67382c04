use Rattle.std.proofs.Common.{ℕ, List, refl, sym, ap, subst, ◌∙◌}
use Rattle.ads_outside.specs.declared.event.Event.TheVariants as event
use Rattle.spec_machine.specs.Running.{OpensNew}
use Rattle.spec_relay.specs.RelayMoves.{relay_after_event}
use Rattle.connections.specs.Outlets.{change_of, freed}
use Rattle.ams_relay.specs.Relays.{StandsFor}
use Rattle.ams_relay.proofs.EventLemmas.{Taken, settled, opened_taken, piece_done, closed_taken, writable_taken, tick_taken, reload_taken}
use Rattle.ams_relay.proofs.MoveLemmas.{writable_stands}
use Rattle.ams_relay.proofs.PromiseLemmas.{on_ok}
use Rattle.ams_relay.proofs.router.Relay.take_event.Goals as goal

pub returns-in-Opened-clause-follows : goal.returns-in-Opened-clause-follows
returns-in-Opened-clause-follows c = on_ok c.open.result (λ e x h opens.
    let new = c.open.new.self in
    subst (Taken new x) (sym c.in-Opened.is) (opened_taken new x c.in-Opened.number
    (e x.blocked x.state (settled c.args.self.now c.settle.new.self x.blocked x.state c.settle.ensures h) (subst (OpensNew x) c.in-Opened.is opens))))
    c.open.ensures.follows

pub returns-in-Piece-clause-follows : goal.returns-in-Piece-clause-follows
returns-in-Piece-clause-follows c = on_ok c.piece.result (λ e x h opens.
    let new = c.piece.new.self in
    let taken = subst (λ (bytes : List ℕ). StandsFor new x.blocked (relay_after_event x.state (event.Piece c.in-Piece.number bytes)))
    c.as_slice.ensures (e x.blocked x.state (settled c.args.self.now c.settle.new.self x.blocked x.state c.settle.ensures h)) in
    subst (Taken new x) (sym c.in-Piece.is) (piece_done new x c.in-Piece.number c.in-Piece.bytes taken)) c.piece.ensures.follows

pub returns-in-Closed-clause-follows : goal.returns-in-Closed-clause-follows
returns-in-Closed-clause-follows c = λ x h opens.
    let new = c.end.new.self in
    subst (Taken new x) (sym c.in-Closed.is) (closed_taken new x c.in-Closed.number
    (c.end.ensures.follows x.blocked x.state (settled c.args.self.now c.settle.new.self x.blocked x.state c.settle.ensures h)))

pub returns-in-Writable-clause-follows : goal.returns-in-Writable-clause-follows
returns-in-Writable-clause-follows c = λ x h opens.
    let old = c.args.self.now in
    let new = record old { router = record old.router { outlets = c.free.new.self } } in
    subst (Taken new x) (sym c.in-Writable.is) (writable_taken new x c.in-Writable.number
    (writable_stands c.in-Writable.number x.blocked old new x.state h refl refl
    (c.free.ensures ∙ ap (change_of freed c.in-Writable.number) c.settle.ensures)))

pub returns-in-Tick-clause-follows : goal.returns-in-Tick-clause-follows
returns-in-Tick-clause-follows c = λ x h opens.
    let new = record c.args.self.now { router = record c.args.self.now.router { outlets = c.settle.new.self } } in
    subst (Taken new x) (sym c.in-Tick.is) (tick_taken new x _ (settled c.args.self.now c.settle.new.self x.blocked x.state c.settle.ensures h))

pub returns-in-Reload-clause-follows : goal.returns-in-Reload-clause-follows
returns-in-Reload-clause-follows c = λ x h opens.
    let new = record c.args.self.now { router = record c.args.self.now.router { outlets = c.settle.new.self } } in
    subst (Taken new x) (sym c.in-Reload.is) (reload_taken new x _ (settled c.args.self.now c.settle.new.self x.blocked x.state c.settle.ensures h))
