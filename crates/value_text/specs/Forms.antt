-- The forms of values as the code has them. No public clause cites this file.
use Rattle.spec_formats.specs.ValueText.{ValueForm, Signed, Unsigned, Truth, Quoted, Hexadecimal}
use Rattle.value_text.specs.declared.form.Form.{Form}
use Rattle.value_text.specs.declared.form.Form.TheVariants as form

abbrev pub form_seen : Form → ValueForm
form_seen form.Signed = Signed
form_seen form.Unsigned = Unsigned
form_seen form.Truth = Truth
form_seen form.Quoted = Quoted
form_seen form.Hexadecimal = Hexadecimal
