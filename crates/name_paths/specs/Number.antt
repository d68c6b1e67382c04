-- The decimal numbers of paths and of the bounds of array types.
use Rattle.std.specs.Prelude.{ℕ, ◌+◌, ◌-◌, ◌*◌, Bool, true, false, not, ◌&&◌, ◌||◌, ◌==◌, nat_lt, nat_le, List}
use Rattle.std.specs.Prelude.{[], ◌∷◌, Option, Some, None, if◌then◌else◌, ℤ, pos, neg_ℤ}
use Rattle.std.specs.Char.{is_ascii_digit}
use Rattle.std.specs.List.{list_all}

-- the number that begins with n and goes on with these digits
abbrev pub number_from : ℕ → List ℕ → ℕ
number_from n [] = n
number_from n (c ∷ cs) = number_from (10 * n + (c - 48)) cs

-- the number that digits write
abbrev pub number_of_digits : List ℕ → ℕ
number_of_digits = number_from 0

-- nothing
abbrev pub is_blank : List ℕ → Bool
is_blank [] = true
is_blank (c ∷ cs) = false

-- digits, of which the first is a `0` only where it stands alone
abbrev pub is_decimal : List ℕ → Bool
is_decimal [] = false
is_decimal (c ∷ cs) = list_all is_ascii_digit (c ∷ cs) && (not (c == 48) || is_blank cs)

-- decimal digits of a number below 2^31
abbrev pub unsigned_of : List ℕ → Option ℤ
unsigned_of text =
    if is_decimal text && nat_lt (number_of_digits text) 2147483648
    then Some (pos (number_of_digits text)) else None

-- decimal digits of a number from 1 to 2^31, which stand behind a minus sign
abbrev pub negated_of : List ℕ → Option ℤ
negated_of text =
    if is_decimal text && (nat_lt 0 (number_of_digits text) && nat_le (number_of_digits text) 2147483648)
    then Some (neg_ℤ (pos (number_of_digits text))) else None

-- a decimal number that an i32 holds: no superfluous zeros, no plus sign, no `-0`
abbrev pub number_of : List ℕ → Option ℤ
number_of [] = None
number_of (c ∷ cs) = if c == 45 then negated_of cs else unsigned_of (c ∷ cs)
