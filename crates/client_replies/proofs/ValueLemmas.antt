-- The value that a text is read as, or that there is none.
use Rattle.std.proofs.Common.{◌≡◌, ℕ, List, refl, sym}
use Rattle.std.specs.Prelude.{Option, Some, None}
use Rattle.spec_frames.specs.Number.{AreBytes}
use Rattle.spec_formats.specs.ValueText.{IsValueOf}
use Rattle.spec_client.specs.ValueReading.{value_of_text}
use Rattle.value_text.proofs.ValuesFound.{values_found}

none_of : (o : Option (List ℕ)) → ((value : List ℕ) → o ≡ Some value → ⊥) → None ≡ o
none_of None h = refl
none_of (Some value) h = absurd (h value refl)

-- where no value has the text, none is found
pub none_found : (id size : ℕ) (text : List ℕ) → ((value : List ℕ) → AreBytes value → IsValueOf id size text value → ⊥)
    → None ≡ value_of_text id size text
none_found id size text no_value =
    none_of (value_of_text id size text) (λ value e. let h = (values_found id size text value).0 e in no_value value h.0 h.1)

pub some_found : (id size : ℕ) (text value : List ℕ) → AreBytes value → IsValueOf id size text value → Some value ≡ value_of_text id size text
some_found id size text value each is = sym ((values_found id size text value).1 (each, is))
