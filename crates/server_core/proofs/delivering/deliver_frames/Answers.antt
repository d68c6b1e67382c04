use Rattle.std.proofs.Common.{◌≡◌, ◌+◌, List, [], ◌∷◌, ◌++◌, take, sym, ap, ◌∙◌, subst, arith}
use Rattle.std.proofs.lemmas.List.{take_more}
use Rattle.session.specs.declared.notes.NoteFrame.{NoteFrame}
use Rattle.server_core.specs.Delivering.{Delivery, DeliversAt, delivered, delivered_all}
use Rattle.server_core.proofs.DeliverLemmas.{delivered_all-more, delivers_more, delivers_none}
use Rattle.server_core.proofs.delivering.deliver_frames.Goals as goal

pub loop-note-init : goal.loop-note-init
loop-note-init c = λ o there. delivers_none c.args.outlets.now c.args.i o c.args.summary.now there

pub loop-note-preserved : goal.loop-note-preserved
loop-note-preserved c = λ o there.
    let frames = c.args.frames.now in
    let j = c.loop-note.note-index in
    let note = c.note-item.result in
    let es = c.args.outlets.now in
    let gs = c.deliver_note.new.outlets in
    let d : Delivery = delivered_all (take j frames) (o, c.args.summary.now) in
    let more : take (j + 1) frames ≡ take j frames ++ note ∷ [] =
    take_more frames j note (omega arith) ∙ ap (λ (n : NoteFrame). take j frames ++ n ∷ []) (sym c.note-item.is) in
    let all : delivered_all (take (j + 1) frames) (o, c.args.summary.now) ≡ delivered note d =
    ap (λ (fs : List NoteFrame). delivered_all fs (o, c.args.summary.now)) more ∙ delivered_all-more (take j frames) note (o, c.args.summary.now) in
    subst (λ (e : Delivery). DeliversAt c.args.i e es gs c.deliver_note.new.summary) (sym all)
    (delivers_more es c.loop-note.outlets gs c.args.i o d note c.loop-note.summary c.deliver_note.new.summary there
    (c.loop-note.invariant o there) c.in_ok-deliver_note.ensures)
