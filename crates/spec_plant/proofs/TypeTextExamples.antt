-- Worked examples of type texts, by computation.
use Rattle.std.proofs.Common.{◌≡◌, refl, [], ◌∷◌, Some, None, pos, negsuc}
use Rattle.std.specs.Prelude.{codes}
use Rattle.spec_plant.specs.Plain.{DINT}
use Rattle.spec_plant.specs.TypeTexts.{type_text_of, PlainText, StringText, NamedText}

plain : type_text_of (codes "dInt") ≡ Some (record { ends = []; elem = PlainText DINT })
plain = refl

text : type_text_of (codes "String(65534)") ≡ Some (record { ends = []; elem = StringText 65534 })
text = refl

text_of_80 : type_text_of (codes "STRING") ≡ Some (record { ends = []; elem = StringText 80 })
text_of_80 = refl

too_long_text : type_text_of (codes "STRING(65535)") ≡ None
too_long_text = refl

superfluous_zero : type_text_of (codes "STRING(07)") ≡ None
superfluous_zero = refl

name : type_text_of (codes "Axis") ≡ Some (record { ends = []; elem = NamedText (codes "Axis") })
name = refl

array : type_text_of (codes "ARRAY [1..3] OF Axis")
    ≡ Some (record { ends = record { low = pos 1; high = pos 3 } ∷ []; elem = NamedText (codes "Axis") })
array = refl

two_dimensions : type_text_of (codes "array [-1..0,0..9] of STRING(5)")
    ≡ Some (record { ends = record { low = negsuc 0; high = pos 0 } ∷ record { low = pos 0; high = pos 9 } ∷ []; elem = StringText 5 })
two_dimensions = refl

no_dimension : type_text_of (codes "ARRAY [] OF BYTE") ≡ None
no_dimension = refl

bounds_out_of_order : type_text_of (codes "ARRAY [2..1] OF BYTE") ≡ None
bounds_out_of_order = refl

array_of_arrays : type_text_of (codes "ARRAY [0..1] OF ARRAY [0..1] OF BYTE") ≡ None
array_of_arrays = refl

two_spaces : type_text_of (codes "ARRAY  [0..1] OF BYTE") ≡ None
two_spaces = refl

four_dimensions : type_text_of (codes "ARRAY [0..1,0..1,0..1,0..1] OF BYTE") ≡ None
four_dimensions = refl

reserved_word : type_text_of (codes "of") ≡ None
reserved_word = refl
