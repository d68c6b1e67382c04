use Rattle.std.proofs.Common.{◌≡◌, ◌+◌, ◌⊎◌, ℕ, length, sym, ap, ◌∙◌, inl, inr}
use Rattle.std.proofs.lemmas.List.{take_rest}
use Rattle.spec_formats.specs.Numbers.{number32}
use Rattle.notify_frames.proofs.Whole.{too_short, other_length, cut_off, more_behind, is_whole}
use Rattle.notify_frames.proofs.reading.stamps_in.Goals as goal
use Rattle.notify_frames.proofs.reading.stamps_in.Goals.{else-stated-bytes-via-then-stated-bytes+else-stated-bytes-2, else-stated-bytes-via-else-stated-bytes}

pub returns-then-bytes-lt8 : goal.returns-then-bytes-lt8
returns-then-bytes-lt8 c = too_short c.args.bytes.now c.if-bytes-lt8.true

pub returns-then-stated-bytes-2 : goal.returns-then-stated-bytes-2
returns-then-stated-bytes-2 c = other_length c.args.bytes.now c.if-bytes-lt8.false
    (λ e. c.if-stated-bytes.true (ap (λ (n : ℕ). n + 4) c.get32-stated.ensures ∙ e)) (λ e. c.if-stated-bytes-2.true (c.get32-stated.ensures ∙ e))

pub returns-in_err-rest : goal.returns-in_err-rest
returns-in_err-rest c = rw c.from_residual.ensures (cut_off c.args.bytes.now c.get32-stamps.result _ c.if-bytes-lt8.false c.get32-stamps.ensures
    (take_rest c.args.bytes.now 8) c.in_err-rest.ensures)

pub returns-then-rest-ne0 : goal.returns-then-rest-ne0
returns-then-rest-ne0 c = more_behind c.args.bytes.now c.get32-stamps.result _ c.in_ok-rest.rest.now c.if-bytes-lt8.false c.get32-stamps.ensures
    (take_rest c.args.bytes.now 8) c.in_ok-rest.ensures c.if-rest-ne0.true

pub returns : goal.returns
returns c =
    let stated : (number32 0 c.args.bytes.now + 4 ≡ length c.args.bytes.now) ⊎ (number32 0 c.args.bytes.now ≡ length c.args.bytes.now) =
    elim c.else-stated-bytes.branch [
      | else-stated-bytes-via-then-stated-bytes+else-stated-bytes-2 w ↦ inr (sym c.get32-stated.ensures ∙ w.if-stated-bytes-2.false)
      | else-stated-bytes-via-else-stated-bytes w ↦ inl (ap (λ (n : ℕ). n + 4) (sym c.get32-stated.ensures) ∙ w.if-stated-bytes.false)
    ] in
    is_whole c.args.bytes.now c.get32-stamps.result _ c.in_ok-rest.rest.now c.if-bytes-lt8.false stated c.get32-stamps.ensures
    (take_rest c.args.bytes.now 8) c.in_ok-rest.ensures c.if-rest-ne0.false
