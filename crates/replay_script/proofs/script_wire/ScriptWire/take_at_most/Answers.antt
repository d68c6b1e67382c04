-- The connection is writable, and has a room.
use Rattle.std.proofs.Common.{◌≡◌, map, sym, ap, ◌∙◌, subst}
use Rattle.std.specs.Prelude.{slice_get, Some}
use Rattle.spec_machine.specs.ScriptLine.{TakesAtMost}
use Rattle.ads_outside.specs.declared.event.Event.TheVariants as event
use Rattle.replay_script.specs.Script.{line_meant}
use Rattle.replay_script.specs.ScriptWire.{PlayedScript}
use Rattle.replay_script.specs.ToldLines.{lines_told}
use Rattle.replay_script.proofs.ToldLemmas.{from_room, told_room}
use Rattle.replay_script.proofs.script_wire.ScriptWire.take_at_most.Goals as goal

pub invariant_of-self-in-Ok : goal.invariant_of-self-in-Ok
invariant_of-self-in-Ok c =
    let P : PlayedScript → Type 0 = λ w. slice_get w.lines w.at ≡ Some (TakesAtMost c.args.conn c.args.room) in
    rw (c.in_ok-push.ensures.items, c.len-self-inside.ensures)
    (from_room _ _ _ _ _ _ _ c.self.invariant _ c.args.conn c.args.room (subst P (sym c.self.view_is) c.requires.line) c.in-Ok.ensures.ok)

pub returns-in-Ok-clause-lines : goal.returns-in-Ok-clause-lines
returns-in-Ok-clause-lines c =
    let P : PlayedScript → Type 0 = λ w. slice_get w.lines w.at ≡ Some (TakesAtMost c.args.conn c.args.room) in
    let lines = map line_meant c.self.inside.lines.items in
    let same = told_room lines c.self.inside.at c.self.inside.log.items c.self.invariant.told c.args.conn c.args.room (event.Writable c.args.conn)
    (subst P (sym c.self.view_is) c.requires.line) in
    ap (λ log. lines_told lines log) c.in_ok-push.ensures.items ∙ (same ∙ ap (λ (w : PlayedScript). w.lines) c.self.view_is)
