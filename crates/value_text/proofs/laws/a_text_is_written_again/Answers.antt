use Rattle.std.proofs.Common.{ap, ◌∙◌}
use Rattle.spec_formats.specs.ValueText.{form_of, text_of}
use Rattle.value_text.proofs.LawLemmas.{is_written_again}
use Rattle.value_text.proofs.laws.a_text_is_written_again.Goals as goal

pub returns : goal.returns
returns c = λ id size text value of. ap (λ k. text_of (form_of id k) value) of.sized ∙ is_written_again (form_of id size) text value of.read_as
