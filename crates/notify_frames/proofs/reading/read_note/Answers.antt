use Rattle.std.proofs.Common.{Option, Some, List, ℕ, sym, ap, ◌∙◌, arith}
use Rattle.std.specs.Prelude.{option_map}
use Rattle.std.proofs.lemmas.List.{take_rest}
use Rattle.spec_formats.specs.Notification.{Stamp}
use Rattle.notify_frames.specs.Notes.{left_in, samples_in}
use Rattle.notify_frames.proofs.Whole.{text_read, none_read}
use Rattle.notify_frames.proofs.reading.read_note.Goals as goal

pub returns-in_err-stamps-clause-none : goal.returns-in_err-stamps-clause-none
returns-in_err-stamps-clause-none c = none_read c.from_residual.result c.args.bytes.now (λ i. omega (arith, c.type_inv.bytes i))
    (c.from_residual.ensures ∙ sym (ap (λ (o : Option (List Stamp)). option_map samples_in o) c.in_err-stamps.ensures))

pub returns-clause-text : goal.returns-clause-text
returns-clause-text c = text_read (Some c.at.result) c.args.bytes.now (λ i. omega (arith, c.type_inv.bytes i))
    (c.at.ensures ∙ (ap (λ (l : List ℕ). left_in 0 0 c.in_ok-stamps.stamps l) (take_rest c.args.bytes.now 8) ∙ c.in_ok-stamps.ensures.samples))

pub returns-clause-none : goal.returns-clause-none
returns-clause-none c = none_read (Some c.at.result) c.args.bytes.now (λ i. omega (arith, c.type_inv.bytes i))
    (c.at.ensures ∙ (ap (λ (l : List ℕ). left_in 0 0 c.in_ok-stamps.stamps l) (take_rest c.args.bytes.now 8) ∙ c.in_ok-stamps.ensures.samples))
