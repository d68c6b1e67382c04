-- Lines, words, numbers and bytes that are written are read.
use Rattle.std.proofs.Common.{◌≡◌, ℕ, zero, suc, ◌-◌, ◌/◌, ◌%◌, ◌^◌, ◌<◌, ◌≤◌, Bool, true, false, List, []}
use Rattle.std.proofs.Common.{◌∷◌, ◌++◌, length, take, get_or, Some, refl, ap, ◌∙◌, arith, length-append}
use Rattle.std.proofs.Common.{append-nil}
use Rattle.std.specs.Prelude.{nat_lt, nat_le, ◌==◌}
use Rattle.std.specs.List.{list_all, onto_first}
use Rattle.std.specs.Option.{option_and_then}
use Rattle.std.specs.Result.{result_ok}
use Rattle.std.specs.Char.{is_ascii_digit}
use Rattle.std.specs.Fmt.{decimal}
use Rattle.std.specs.Str.Lines.{strip_carriage_return}
use Rattle.std.proofs.lemmas.Bool.{and_parts, ltb-true, lt-ltb, leb-true, ne_eqb}
use Rattle.hex.specs.Hex.{lower_digits, encode_with, encode_lower, IsBytes}
use Rattle.hex.proofs.HexLemmas.{length-encode_with, decode_of-encode_lower}
use Rattle.name_paths.specs.Number.{number_of_digits}
use Rattle.spec_plant.proofs.NumberTexts.{decimal-digits, is_decimal-decimal}
use Rattle.spec_machine.specs.ScriptLines.{lines_of, text_of, words_of}
use Rattle.spec_machine.specs.ScriptWords.{number_of_word, connection_from, connection_of_word, behind, bytes_of_word, bytes_of_words}

-- above the space
abbrev pub is_solid : ℕ → Bool
is_solid b = nat_lt 32 b

-- above the carriage return
abbrev pub is_inked : ℕ → Bool
is_inked b = nat_lt 13 b

abbrev pub is_byte : ℕ → Bool
is_byte b = nat_lt b 256

other : (b n m : ℕ) → nat_lt m b ≡ true → n ≤ m → (b == n) ≡ false
other b n m h low = let above = ltb-true m b h in ne_eqb b n (λ e. omega (arith, e, above, low))

pub inked_of : (xs : List ℕ) → list_all is_solid xs ≡ true → list_all is_inked xs ≡ true
inked_of [] h = refl
inked_of (b ∷ bs) h =
    let (here, more) = and_parts (is_solid b) (list_all is_solid bs) h in
    let above = ltb-true 32 b here in
    rw (lt-ltb 13 b (omega arith), inked_of bs more) refl

all_at : (p : ℕ → Bool) (xs : List ℕ) (k : ℕ) → list_all p xs ≡ true → k < length xs → p (get_or xs k 0) ≡ true
all_at p [] k h within = absurd (omega arith)
all_at p (x ∷ xs) zero h within = (and_parts (p x) (list_all p xs) h).0
all_at p (x ∷ xs) (suc k) h within = all_at p xs k (and_parts (p x) (list_all p xs) h).1 (omega arith)

-- a line goes up to its LF
pub lines_of-line : (text rest : List ℕ) → list_all is_inked text ≡ true → lines_of ((text ++ 10 ∷ []) ++ rest) ≡ (text ++ 10 ∷ []) ∷ lines_of rest
unfolding lines_of
lines_of-line [] rest h = refl
lines_of-line (b ∷ bs) rest h =
    let (here, more) = and_parts (is_inked b) (list_all is_inked bs) h in
    rw (other b 10 13 here (omega arith)) (ap (onto_first b) (lines_of-line bs rest more))

last_at : (xs : List ℕ) (x : ℕ) → get_or (xs ++ x ∷ []) (length xs) 0 ≡ x
last_at [] x = refl
last_at (y ∷ ys) x = last_at ys x

take_front : (xs ys : List ℕ) → take (length xs) (xs ++ ys) ≡ xs
take_front [] ys = refl
take_front (x ∷ xs) ys = ap (λ zs. x ∷ zs) (take_front xs ys)

strip_none : (text : List ℕ) → list_all is_inked text ≡ true → strip_carriage_return text ≡ text
strip_none [] h = refl
strip_none (b ∷ bs) h =
    let last = all_at is_inked (b ∷ bs) (length (b ∷ bs) - 1) h (omega arith) in
    rw (other (get_or (b ∷ bs) (length (b ∷ bs) - 1) 0) 13 13 last (omega arith)) refl

pub text_of-line : (text : List ℕ) → list_all is_inked text ≡ true → text_of (text ++ 10 ∷ []) ≡ text
text_of-line text h =
    let len : length (text ++ 10 ∷ []) - 1 ≡ length text = omega (arith, length-append text (10 ∷ [])) in
    rw (len, last_at text 10, take_front text (10 ∷ [])) (strip_none text h)

-- a word goes up to a space
pub words_of-word : (word rest : List ℕ) → list_all is_solid word ≡ true → words_of ((word ++ 32 ∷ []) ++ rest) ≡ word ∷ words_of rest
words_of-word [] rest h = refl
words_of-word (b ∷ bs) rest h =
    let (here, more) = and_parts (is_solid b) (list_all is_solid bs) h in
    rw (other b 32 32 here (omega arith)) (ap (onto_first b) (words_of-word bs rest more))

pub words_of-last : (word : List ℕ) → list_all is_solid word ≡ true → words_of word ≡ word ∷ []
words_of-last [] h = refl
words_of-last (b ∷ bs) h =
    let (here, more) = and_parts (is_solid b) (list_all is_solid bs) h in
    rw (other b 32 32 here (omega arith)) (ap (onto_first b) (words_of-last bs more))

-- decimal numbers
solid_digits : (ds : List ℕ) → list_all is_ascii_digit ds ≡ true → list_all is_solid ds ≡ true
solid_digits [] h = refl
solid_digits (c ∷ cs) h =
    let (here, more) = and_parts (is_ascii_digit c) (list_all is_ascii_digit cs) h in
    let (low, high) = and_parts (nat_le 48 c) (nat_le c 57) here in
    let least = leb-true 48 c low in
    rw (lt-ltb 32 c (omega arith), solid_digits cs more) refl

pub solid_decimal : (n : ℕ) → n < 2 ^ 64 → list_all is_solid (decimal n) ≡ true
solid_decimal n h = let d = decimal-digits n h in solid_digits (decimal n) d.all

pub number_read : (n : ℕ) → n < 2 ^ 64 → number_of_word (decimal n) ≡ Some n
number_read n h =
    let d = decimal-digits n h in
    let value : number_of_digits (decimal n) ≡ n = d.value in
    rw (is_decimal-decimal n h, value, lt-ltb n (2 ^ 64) h) refl

pub connection_read : (c : ℕ) → 0 < c → c < 2 ^ 32 → connection_of_word (decimal c) ≡ Some c
connection_read c some small =
    let wide : c < 2 ^ 64 = omega arith in
    ap (option_and_then connection_from) (number_read c wide) ∙ rw (lt-ltb 0 c some, lt-ltb c (2 ^ 32) small) refl

-- bytes
pub bytes-at : (xs : List ℕ) → list_all is_byte xs ≡ true → IsBytes xs
bytes-at [] h i = omega arith
bytes-at (b ∷ bs) h zero = ltb-true b 256 (and_parts (is_byte b) (list_all is_byte bs) h).0
bytes-at (b ∷ bs) h (suc i) = bytes-at bs (and_parts (is_byte b) (list_all is_byte bs) h).1 i

word_read : (bytes : List ℕ) → list_all is_byte bytes ≡ true → 0 < length bytes → bytes_of_word (encode_lower bytes) ≡ Some bytes
word_read bytes h some =
    let len = length-encode_with lower_digits bytes in
    let not_empty : (length (encode_lower bytes) == 0) ≡ false = ne_eqb _ 0 (λ e. omega (arith, len, e, some)) in
    rw not_empty (ap result_ok (decode_of-encode_lower bytes (bytes-at bytes h)))

pub hex_read : (bytes : List ℕ) → list_all is_byte bytes ≡ true → 0 < length bytes → bytes_of_words (encode_lower bytes ∷ []) ≡ Some bytes
unfolding bytes_of_words
hex_read bytes h some =
    ap (option_and_then (λ first. behind first (Some []))) (word_read bytes h some) ∙ ap (λ (bs : List ℕ). Some bs) (append-nil bytes)

solid_digit : (k : ℕ) → k < 16 → is_solid (get_or lower_digits k 0) ≡ true
solid_digit k h = all_at is_solid lower_digits k refl (omega arith)

pub solid_hex : (bytes : List ℕ) → list_all is_byte bytes ≡ true → list_all is_solid (encode_lower bytes) ≡ true
unfolding encode_with
solid_hex [] h = refl
solid_hex (b ∷ bs) h =
    let (here, more) = and_parts (is_byte b) (list_all is_byte bs) h in
    let small = ltb-true b 256 here in
    rw (solid_digit (b / 16) (omega arith), solid_digit (b % 16) (omega arith), solid_hex bs more) refl
