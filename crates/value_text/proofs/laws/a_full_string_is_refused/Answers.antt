use Rattle.std.proofs.Common.{length}
use Rattle.spec_formats.specs.ValueText.{form_of}
use Rattle.value_text.proofs.LawLemmas.{is_refused}
use Rattle.value_text.proofs.laws.a_full_string_is_refused.Goals as goal

pub returns : goal.returns
returns c = λ id value other e full read. is_refused (form_of id (length value)) value other e full read.sized read.read_as
