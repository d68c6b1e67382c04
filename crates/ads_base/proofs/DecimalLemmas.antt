-- What the text of a decimal number looks like, and that it can be told apart from what stands behind it.
use Rattle.std.proofs.Common.{◌≡◌, inl, inr, ℕ, zero, suc, ◌^◌, ◌<◌, ◌≤◌, List, [], ◌∷◌, ◌++◌, length, get_or, take, refl, sym, ap, ◌∙◌, subst, arith}
use Rattle.std.specs.Char.{digit_value}
use Rattle.std.specs.Fmt.{decimal}
use Rattle.std.specs.Str.Parse.{digits_value, AllDigits}
use Rattle.std.proofs.lemmas.Fmt.{decimal_by_steps, decimal_is_IsNumeral, decimal-digits_value, decimal_digit}
use Rattle.std.proofs.lemmas.Str.Parse.{numerals_by_value, tells_digits, digits_value-take-le}
use Rattle.std.proofs.lemmas.List.{get_or_append_left, length_push}
use Rattle.ads_base.specs.Decimal.{IsSuperfluous}

-- a decimal number begins with a digit, and with 0 only where it is 0
abbrev Begins : ℕ → List ℕ → Type 0
Begins n ds = (0 < length ds) × (get_or ds 0 0 ≡ 48 → n ≡ 0)

begins_more : (n : ℕ) (ds : List ℕ) (d : ℕ) (m : ℕ) → (m ≡ 0 → n < 10) → 10 ≤ n → Begins m ds → Begins n (ds ++ d ∷ [])
begins_more n ds d m small low b = (
  let e = length_push ds d in omega (arith, b.0),
  λ zero_first. let m_is = b.1 (sym (get_or_append_left ds (d ∷ []) 0 0 b.0) ∙ zero_first) in absurd (omega (arith, small m_is)),
)

begins : (n : ℕ) → n < 2 ^ 64 → Begins n (decimal n)
begins n small = decimal_by_steps Begins (λ k h. (omega arith, λ e. omega arith)) (λ k ds low b. begins_more k ds _ _ (λ e. omega arith) low b) n small

pub superfluous_is_no_decimal : (text : List ℕ) (n : ℕ) → n < 2 ^ 64 → text ≡ decimal n → IsSuperfluous text → ⊥
superfluous_is_no_decimal text n small e (inl empty) = let b = begins n small in omega (arith, b.0, ap length e)
superfluous_is_no_decimal text n small e (inr two) =
    let b = begins n small in
    let zero_is : n ≡ 0 = b.1 (ap (λ t. get_or t 0 0) (sym e) ∙ two.0) in
    let one : length (decimal n) ≡ 1 = ap (λ k. length (decimal k)) zero_is ∙ ap length (decimal_digit 0 (omega arith)) in
    omega (arith, ap length e, two.1)

-- each byte of a decimal number is a digit
pub AllDigits-at : (ds : List ℕ) (i : ℕ) → AllDigits 10 ds → i < length ds → digit_value (get_or ds i 0) < 10
AllDigits-at [] i all below = absurd (omega arith)
AllDigits-at (d ∷ ds) zero all below = all.0
AllDigits-at (d ∷ ds) (suc i) all below = AllDigits-at ds i all.1 (omega arith)

pub decimal-at : (text : List ℕ) (n i : ℕ) → n < 2 ^ 64 → text ≡ decimal n → i < length text → digit_value (get_or text i 0) < 10
decimal-at text n i small e below =
    let P : List ℕ → Type 0 = λ t. AllDigits 10 t in
    AllDigits-at text i (subst P (sym e) (decimal_is_IsNumeral n small).0.1) below

-- the digits so far are at most the number
pub decimal-front-le : (text : List ℕ) (n i : ℕ) → n < 2 ^ 64 → text ≡ decimal n → digits_value 10 (take i text) ≤ n
decimal-front-le text n i small e =
    omega (arith, digits_value-take-le 10 text i (omega arith), ap (digits_value 10) e, (decimal_is_IsNumeral n small).1)

pub decimal_of_digits : (text : List ℕ) → AllDigits 10 text → (IsSuperfluous text → ⊥) → digits_value 10 text < 2 ^ 64 → text ≡ decimal (digits_value 10 text)
decimal_of_digits text all plain small =
    sym (decimal-digits_value (numerals_by_value _ tells_digits) text all (nonempty text plain) (λ e. single text plain e) small)
  where
    nonempty : (t : List ℕ) → (IsSuperfluous t → ⊥) → 0 < length t
    nonempty [] plain = absurd (plain (inl refl))
    nonempty (b ∷ bs) plain = omega arith

    single : (t : List ℕ) → (IsSuperfluous t → ⊥) → get_or t 0 0 ≡ 48 → length t ≡ 1
    single [] plain e = absurd (plain (inl refl))
    single (b ∷ []) plain e = refl
    single (b ∷ (c ∷ bs)) plain e = absurd (plain (inr (e, omega arith)))

-- what stands before the first stop is told apart from what stands behind it
pub same_before_stop : (stop : ℕ) (xs ys r s : List ℕ) → ((k : ℕ) → k < length xs → get_or xs k 0 ≡ stop → ⊥)
    → ((k : ℕ) → k < length ys → get_or ys k 0 ≡ stop → ⊥) → xs ++ stop ∷ r ≡ ys ++ stop ∷ s → (xs ≡ ys) × (r ≡ s)
same_before_stop stop [] [] r s free_x free_y e = (refl, cc)
same_before_stop stop [] (y ∷ ys) r s free_x free_y e = absurd (free_y 0 (omega arith) cc)
same_before_stop stop (x ∷ xs) [] r s free_x free_y e = absurd (free_x 0 (omega arith) cc)
same_before_stop stop (x ∷ xs) (y ∷ ys) r s free_x free_y e =
    let more = same_before_stop stop xs ys r s (λ k below. free_x (suc k) (omega arith)) (λ k below. free_y (suc k) (omega arith)) cc in
    let first : x ≡ y = cc in
    (cc, more.1)

-- a decimal number has no byte that is no digit
pub decimal-free : (stop n : ℕ) → 10 ≤ digit_value stop → n < 2 ^ 64 → (k : ℕ) → k < length (decimal n) → get_or (decimal n) k 0 ≡ stop → ⊥
decimal-free stop n no_digit small k below e = omega (arith, decimal-at (decimal n) n k small refl below, ap digit_value e)

pub same_decimal : (stop n : ℕ) (xs r s : List ℕ) → 10 ≤ digit_value stop → n < 2 ^ 64
    → ((k : ℕ) → k < length xs → get_or xs k 0 ≡ stop → ⊥) → xs ++ stop ∷ r ≡ decimal n ++ stop ∷ s → (xs ≡ decimal n) × (r ≡ s)
same_decimal stop n xs r s no_digit small free e = same_before_stop stop xs (decimal n) r s free (decimal-free stop n no_digit small) e

-- a number is known by its decimal text
pub decimal-injective : (m n : ℕ) → m < 2 ^ 64 → n < 2 ^ 64 → decimal m ≡ decimal n → m ≡ n
decimal-injective m n small_m small_n e =
    sym (decimal_is_IsNumeral m small_m).1 ∙ (ap (digits_value 10) e ∙ (decimal_is_IsNumeral n small_n).1)

-- two decimal numbers, each with a stop and a rest behind it
pub same_decimals : (stop m n : ℕ) (r s : List ℕ) → 10 ≤ digit_value stop → m < 2 ^ 64
    → n < 2 ^ 64 → decimal m ++ stop ∷ r ≡ decimal n ++ stop ∷ s → (m ≡ n) × (r ≡ s)
same_decimals stop m n r s no_digit small_m small_n e =
    let both = same_decimal stop n (decimal m) r s no_digit small_n (decimal-free stop m no_digit small_m) e in
    (decimal-injective m n small_m small_n both.0, both.1)
