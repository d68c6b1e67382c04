-- Values and their texts by the definitions alone.
use Rattle.std.proofs.Common.{◌≡◌, [], ◌∷◌, codes, refl}
use Rattle.std.specs.Fmt.{digits}
use Rattle.hex.specs.Hex.{encode_with}
use Rattle.spec_formats.specs.ValueText.{Hexadecimal, form_of, signed_text, before_nul, quoted_byte, quoted, text_of, value_text}

-- DINT 42, SINT -128, INT -2
a_dint : value_text 3 (42 ∷ 0 ∷ 0 ∷ 0 ∷ []) ≡ codes "42"
unfolding form_of text_of signed_text digits
a_dint = refl

a_sint : value_text 16 (128 ∷ []) ≡ codes "-128"
unfolding form_of text_of signed_text digits
a_sint = refl

an_int : value_text 2 (254 ∷ 255 ∷ []) ≡ codes "-2"
unfolding form_of text_of signed_text digits
an_int = refl

-- UINT 0x1234
a_uint : value_text 18 (52 ∷ 18 ∷ []) ≡ codes "4660"
unfolding form_of text_of digits
a_uint = refl

-- STRING with what stands behind its NUL, with a quote and a line feed
a_string : value_text 30 (77 ∷ 105 ∷ 120 ∷ 0 ∷ 65 ∷ []) ≡ codes "'Mix'"
unfolding form_of text_of before_nul quoted_byte quoted
a_string = refl

escapes : value_text 30 (39 ∷ 10 ∷ 0 ∷ []) ≡ codes "'$27$0A'"
unfolding form_of text_of before_nul quoted_byte quoted
escapes = refl

-- a structure, and a DINT's id with two bytes
a_structure : value_text 65 (222 ∷ 173 ∷ []) ≡ codes "16#dead"
unfolding form_of text_of encode_with
a_structure = refl

of_another_size : form_of 3 2 ≡ Hexadecimal
unfolding form_of
of_another_size = refl

-- BOOL
truth : value_text 33 (7 ∷ []) ≡ codes "TRUE"
unfolding form_of text_of
truth = refl
