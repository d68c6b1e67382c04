-- What the parts of writing and reading answer. Private: no public clause cites this file.
use Rattle.std.specs.Prelude.{◌≡◌, ◌⊎◌, ℕ, ◌<◌, ◌/◌, ◌%◌, false, List, ◌++◌, length, Option, Some, None}
use Rattle.spec_frames.specs.Number.{AreBytes}
use Rattle.spec_formats.specs.ValueText.{ValueForm, Signed, Unsigned, Truth, Quoted, Hexadecimal, is_plain, upper_digit, IsReadAs}

-- the sizes of numbers
abbrev pub IsNumberSize : ℕ → Type 0
IsNumberSize size = (size ≡ 1) ⊎ ((size ≡ 2) ⊎ ((size ≡ 4) ⊎ (size ≡ 8)))

-- the sizes that a form can have
abbrev pub HasForm : ValueForm → ℕ → Type 0
HasForm Signed size = IsNumberSize size
HasForm Unsigned size = IsNumberSize size
HasForm Truth size = size ≡ 1
HasForm Quoted size = 0 < size
HasForm Hexadecimal size = Unit {0}

-- the bytes that stood before, and others behind them
abbrev pub Extends : List ℕ → List ℕ → Type 0
Extends old new = (more : List ℕ) × (new ≡ old ++ more)

-- a byte that is written as `$` and these two digits
pub record IsEscaped (high low byte : ℕ) : Type 0 where
  pub not_plain : is_plain byte ≡ false
  pub no_nul : 0 < byte
  pub high_digit : high ≡ upper_digit (byte / 16)
  pub low_digit : low ≡ upper_digit (byte % 16)

-- the value that a text is read as in a form, or that there is none
abbrev pub Answers : ValueForm → ℕ → List ℕ → Option (List ℕ) → Type 0
Answers f size text (Some value) = (length value ≡ size) × IsReadAs f text value
Answers f size text None = (value : List ℕ) → AreBytes value → length value ≡ size → IsReadAs f text value → ⊥
