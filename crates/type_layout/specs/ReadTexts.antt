-- The type texts that the code's values are.
use Rattle.std.specs.Prelude.{◌≡◌, ℕ, ◌==◌, List, [], ◌∷◌, if◌then◌else◌, pos, MatchBool}
use Rattle.spec_plant.specs.TypeTexts as texts
use Rattle.type_layout.specs.Shapes.{kind_of}
use Rattle.type_layout.specs.declared.read_texts.Ends.{Ends}
use Rattle.type_layout.specs.declared.read_texts.ElemText.{ElemText}
use Rattle.type_layout.specs.declared.read_texts.ElemText.TheVariants as elem
use Rattle.type_layout.specs.declared.read_texts.TypeText.{TypeText}

abbrev pub ends_of : Ends → texts.Ends
ends_of e = record { low = e.low; high = e.high }

abbrev pub elem_text_of : ElemText → texts.ElemText
elem_text_of (elem.Plain kind) = texts.PlainText (kind_of kind)
elem_text_of (elem.Text n) = texts.StringText n
elem_text_of (elem.Named name) = texts.NamedText name.now

-- the first so many of three dimensions
abbrev pub ends_among : ℕ → Ends → Ends → Ends → List texts.Ends
ends_among count first second third =
    if count == 0 then []
    else (if count == 1 then ends_of first ∷ []
    else (if count == 2 then ends_of first ∷ ends_of second ∷ []
    else ends_of first ∷ ends_of second ∷ ends_of third ∷ []))

abbrev pub text_of : TypeText → texts.TypeText
text_of t = record { ends = ends_among t.count t.first t.second t.third; elem = elem_text_of t.elem }

abbrev pub IsBlank : Ends → Type 0
IsBlank e = (e.low ≡ pos 0) × (e.high ≡ pos 0)

-- at most three dimensions, and those that are not used are 0 and 0
abbrev pub HasBlankEnds : TypeText → Type 0
HasBlankEnds t = MatchBool (t.count == 0) (IsBlank t.first × IsBlank t.second × IsBlank t.third)
    (MatchBool (t.count == 1) (IsBlank t.second × IsBlank t.third)
    (MatchBool (t.count == 2) (IsBlank t.third) (t.count ≡ 3)))
