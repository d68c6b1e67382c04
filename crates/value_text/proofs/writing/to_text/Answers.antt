use Rattle.spec_formats.specs.ValueText.{text_of}
use Rattle.value_text.proofs.writing.to_text.Goals as goal

pub returns-in-Truth-clause-ok : goal.returns-in-Truth-clause-ok
unfolding text_of
returns-in-Truth-clause-ok c = rw (← c.in-Truth.ensures.form) c.put_truth.ensures.ok
