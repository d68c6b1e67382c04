-- The limits are those of the history, and the new handle stands behind all others.
use Rattle.std.proofs.Common.{◌+◌, refl, sym, ◌∙◌, ap}
use Rattle.std.proofs.lemmas.Bool.{false≢true}
use Rattle.sym_handles.specs.Kept.{Kept, with_granted}
use Rattle.sym_handles.proofs.Histories.{full_in, room_in, represents_granted, kept_is}
use Rattle.sym_handles.proofs.handles.Handles.grant.Goals as goal

pub returns-then-is_full-clause-full : goal.returns-then-is_full-clause-full
returns-then-is_full-clause-full c = λ history r.
    let full = sym c.is_full.ensures.full ∙ c.if-is_full.true in ((λ _. full_in c.args.self.now history r full), (λ _. refl))

pub returns-clause-full : goal.returns-clause-full
returns-clause-full c = λ history r.
    let room = sym c.is_full.ensures.full ∙ c.if-is_full.false in ((λ e. absurd (false≢true e)), (λ full. absurd (room_in c.args.self.now history r room full)))

pub returns-clause-granted : goal.returns-clause-granted
returns-clause-granted c = λ history r.
    represents_granted c.args.self.now _ history c.args.port c.args.place r (ap (λ (k : Kept). k.granted + 1) c.self.view_is)
    (c.in_ok-add.ensures.held ∙ ap (λ (k : Kept). (with_granted c.args.port c.args.place k).handles) c.self.view_is)

pub returns-clause-kept : goal.returns-clause-kept
returns-clause-kept c =
    kept_is _ (c.args.self.now.granted + 1) (with_granted c.args.port c.args.place c.args.self.now).handles (ap (λ (k : Kept). k.granted + 1) c.self.view_is)
    (c.in_ok-add.ensures.held ∙ ap (λ (k : Kept). (with_granted c.args.port c.args.place k).handles) c.self.view_is)
