-- Pairs of hexadecimal digits that are read by tables.
use Rattle.std.proofs.Common.{◌≡◌, ℕ, ◌+◌, ◌*◌, ◌%◌, ◌^◌, ◌<◌, ◌≤◌, List, length, take, drop, map, Option}
use Rattle.std.proofs.Common.{Some, None, Result, Ok, Err, refl, sym, ap, ◌∙◌, subst, inl, inr, arith}
use Rattle.std.specs.Prelude.{Bool, nat_lt, if◌then◌else◌, slice_index, slice_set, bit_or}
use Rattle.std.specs.List.{range_with_len}
use Rattle.std.specs.Result.{result_ok}
use Rattle.std.proofs.lemmas.Bool.{cases_lt, lt-ltb, le-ltb}
use Rattle.std.proofs.lemmas.List.FromFn.{get_or-map-range_with_len}
use Rattle.std.proofs.lemmas.Nat.{le_or_l, le_or_r, or_lt}
use Rattle.hex.specs.Hex.{hex_digit_value, decode_of, decode_pairs, pair_value}
use Rattle.hex.specs.declared.error.FromHexError.{FromHexError}
use Rattle.hex.proofs.HexLemmas.{decode_of-even}
use Rattle.hex.proofs.Pairs.{prepend, decode_start, decode_step, decode_err, decode_done}
use Rattle.replay_script.specs.declared.hex_pairs.TheConstants.{FIRST, SECOND}
use Rattle.replay_script.specs.HexPairs.{times_or_mark, worth, pair_sum}

-- both tables, computed over their entries
first_table : FIRST ≡ map (worth 16) (range_with_len 0 256)
unfolding worth
first_table = refl

second_table : SECOND ≡ map (worth 1) (range_with_len 0 256)
unfolding worth
second_table = refl

pub first_at : (c : ℕ) → c < 256 → slice_index FIRST c ≡ worth 16 c
first_at c small = ap (λ t. slice_index t c) first_table ∙ get_or-map-range_with_len (worth 16) 0 256 c c 0 small (omega arith)

pub second_at : (c : ℕ) → c < 256 → slice_index SECOND c ≡ worth 1 c
second_at c small = ap (λ t. slice_index t c) second_table ∙ get_or-map-range_with_len (worth 1) 0 256 c c 0 small (omega arith)

-- a digit's value is below 16
value_small : (c v : ℕ) → hex_digit_value c ≡ Some v → v < 16
value_small c v h = grind (arith)

first-le : (c : ℕ) (o : Option ℕ) → hex_digit_value c ≡ o → times_or_mark 16 o ≤ 256
first-le c None e = omega arith
first-le c (Some v) e = omega (arith, value_small c v e)

second-le : (c : ℕ) (o : Option ℕ) → hex_digit_value c ≡ o → times_or_mark 1 o ≤ 256
second-le c None e = omega arith
second-le c (Some v) e = omega (arith, value_small c v e)

pub first_worth-le : (c : ℕ) → worth 16 c ≤ 256
unfolding worth
first_worth-le c = first-le c (hex_digit_value c) refl

pub second_worth-le : (c : ℕ) → worth 1 c ≤ 256
unfolding worth
second_worth-le c = second-le c (hex_digit_value c) refl

-- two digits
right_with : (a b i : ℕ) (x y : Option ℕ) → hex_digit_value a ≡ x → hex_digit_value b ≡ y
    → times_or_mark 16 x + times_or_mark 1 y < 256 → pair_value a b i ≡ Ok (times_or_mark 16 x + times_or_mark 1 y)
right_with a b i None y ea eb small = absurd (omega arith)
right_with a b i (Some v) None ea eb small = absurd (omega arith)
right_with a b i (Some v) (Some w) ea eb small = let same : v * 16 + w ≡ 16 * v + 1 * w = omega arith in rw (ea, eb) (ap (λ (n : ℕ). Ok n) same)

pair_right : (a b i : ℕ) → pair_sum a b < 256 → pair_value a b i ≡ Ok (pair_sum a b)
unfolding worth
pair_right a b i small = right_with a b i (hex_digit_value a) (hex_digit_value b) refl refl small

-- a byte that is no digit
wrong_with : (a b i : ℕ) (x y : Option ℕ) → hex_digit_value a ≡ x → hex_digit_value b ≡ y
    → 256 ≤ times_or_mark 16 x + times_or_mark 1 y → (e : FromHexError) × (pair_value a b i ≡ Err e)
wrong_with a b i None y ea eb great = rw ea (_, refl)
wrong_with a b i (Some v) None ea eb great = rw (ea, eb) (_, refl)
wrong_with a b i (Some v) (Some w) ea eb great = absurd (omega (arith, value_small a v ea, value_small b w eb))

pair_wrong : (a b i : ℕ) → 256 ≤ pair_sum a b → (e : FromHexError) × (pair_value a b i ≡ Err e)
unfolding worth
pair_wrong a b i great = wrong_with a b i (hex_digit_value a) (hex_digit_value b) refl refl great

-- the pairs before a place are written, or one of them was none
pub record ReadSoFar (word out : List ℕ) (i seen : ℕ) : Type 0 where
  pub right : seen < 256 → decode_pairs 0 word ≡ prepend (take i out) (decode_pairs (2 * i) (drop (2 * i) word))
  pub wrong : 256 ≤ seen → result_ok (decode_pairs 0 word) ≡ None

pub pairs_first : (word out : List ℕ) → ReadSoFar word out 0 0
pairs_first word out = record { right = λ small. decode_start word out; wrong = λ great. absurd (omega arith) }

-- one pair more
right_more : (word out : List ℕ) (i seen sum : ℕ) → 2 * i + 1 < length word → i < length out
    → sum ≡ pair_sum (slice_index word (2 * i)) (slice_index word (2 * i + 1)) → ReadSoFar word out i seen → bit_or seen sum < 256
    → decode_pairs 0 word ≡ prepend (take (i + 1) (slice_set out i (sum % 256))) (decode_pairs (2 * (i + 1)) (drop (2 * (i + 1)) word))
right_more word out i seen sum fits room is so_far small =
    let before : seen < 256 = omega (arith, le_or_l seen sum) in
    let here : sum < 256 = omega (arith, le_or_r seen sum) in
    let byte : sum ≡ sum % 256 = omega arith in
    let value = pair_right (slice_index word (2 * i)) (slice_index word (2 * i + 1)) (2 * i) (omega (arith, here, is)) in
    decode_step word out i (sum % 256) fits room (value ∙ ap (λ (n : ℕ). Ok n) (sym is ∙ byte)) (so_far.right before)

wrong_here : (word out : List ℕ) (i sum : ℕ) → 2 * i + 1 < length word → 256 ≤ sum
    → sum ≡ pair_sum (slice_index word (2 * i)) (slice_index word (2 * i + 1))
    → decode_pairs 0 word ≡ prepend (take i out) (decode_pairs (2 * i) (drop (2 * i) word)) → result_ok (decode_pairs 0 word) ≡ None
wrong_here word out i sum fits great is so_far =
    let bad = pair_wrong (slice_index word (2 * i)) (slice_index word (2 * i + 1)) (2 * i) (omega (arith, great, is)) in
    ap (λ (r : Result (List ℕ) FromHexError). result_ok r) (decode_err word out i bad.0 fits bad.1 so_far)

wrong_more : (word out : List ℕ) (i seen sum : ℕ) → 2 * i + 1 < length word
    → sum ≡ pair_sum (slice_index word (2 * i)) (slice_index word (2 * i + 1)) → ReadSoFar word out i seen → 256 ≤ bit_or seen sum
    → result_ok (decode_pairs 0 word) ≡ None
wrong_more word out i seen sum fits is so_far great = elim (cases_lt seen 256) [
  | inl right ↦ elim (cases_lt sum 256) [
    | inl small ↦ absurd (omega (arith, or_lt 8 seen sum right small))
    | inr here ↦ wrong_here word out i sum fits here is (so_far.right right)
  ]
  | inr before ↦ so_far.wrong before
]

pub pairs_more : (word out : List ℕ) (i seen sum : ℕ) → 2 * i + 1 < length word → i < length out
    → sum ≡ pair_sum (slice_index word (2 * i)) (slice_index word (2 * i + 1)) → ReadSoFar word out i seen
    → ReadSoFar word (slice_set out i (sum % 256)) (i + 1) (bit_or seen sum)
pairs_more word out i seen sum fits room is so_far = record {
  right = λ small. right_more word out i seen sum fits room is so_far small;
  wrong = λ great. wrong_more word out i seen sum fits is so_far great;
}

-- all pairs were read
even : (word out : List ℕ) → length word ≡ 2 * length out → decode_of word ≡ decode_pairs 0 word
even word out long = decode_of-even word (omega (arith, long))

all_right : (word out : List ℕ) (i seen : ℕ) → length word ≡ 2 * length out → length out ≤ i → ReadSoFar word out i seen → seen < 256
    → result_ok (decode_of word) ≡ Some out
all_right word out i seen long past so_far small =
    ap (λ (r : Result (List ℕ) FromHexError). result_ok r)
    (even word out long ∙ decode_done word out i past (omega (arith, long, past)) (so_far.right small))

one_wrong : (word out : List ℕ) (i seen : ℕ) → length word ≡ 2 * length out → ReadSoFar word out i seen → 256 ≤ seen
    → result_ok (decode_of word) ≡ None
one_wrong word out i seen long so_far great = ap (λ (r : Result (List ℕ) FromHexError). result_ok r) (even word out long) ∙ so_far.wrong great

pub pairs_end : (word out : List ℕ) (i seen : ℕ) → length word ≡ 2 * length out → length out ≤ i → ReadSoFar word out i seen
    → result_ok (decode_of word) ≡ (if nat_lt seen 256 then Some out else None)
pairs_end word out i seen long past so_far =
    let P : Bool → Type 0 = λ b. result_ok (decode_of word) ≡ (if b then Some out else None) in
    elim (cases_lt seen 256) [
      | inl small ↦ subst P (sym (lt-ltb seen 256 small)) (all_right word out i seen long past so_far small)
      | inr great ↦ subst P (sym (le-ltb seen 256 great)) (one_wrong word out i seen long so_far great)
    ]
