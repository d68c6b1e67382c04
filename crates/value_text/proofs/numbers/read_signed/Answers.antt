use Rattle.std.proofs.Common.{◌≡◌, ◌*◌, ◌^◌, length, refl, sym, ap, ◌∙◌, arith}
use Rattle.spec_frames.specs.Number.{number_of}
use Rattle.spec_formats.specs.ValueText.{signed_text, text_of}
use Rattle.value_text.proofs.NumberLemmas.{number_of-lt}
use Rattle.value_text.proofs.numbers.read_signed.Goals as goal

pub returns-in-None : goal.returns-in-None
unfolding text_of
returns-in-None c = λ value bytes sized e.
    let range : 256 ^ length value ≡ 2 * c.half_of.result = ap (λ k. 256 ^ k) sized ∙ sym c.half_of.ensures.half in
    c.in-None.ensures.none refl (number_of value) (omega (arith, range, number_of-lt value bytes)) (e ∙ ap (λ r. signed_text r (number_of value)) range)
