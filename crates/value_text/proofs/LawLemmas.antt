-- The laws of values and their texts, form by form.
use Rattle.std.proofs.Common.{◌≡◌, ℕ, zero, suc, ◌-◌, ◌*◌, ◌^◌, ◌<◌, ◌≤◌, List, [], ◌∷◌, ◌++◌, length, get_or}
use Rattle.std.proofs.Common.{take, drop, map, replicate, true, cond, ◌&&◌, eqb, ltb, refl, sym, ap, ◌∙◌}
use Rattle.std.proofs.Common.{subst, inl, inr, arith, lit≤, codes}
use Rattle.std.proofs.lemmas.Bool.{cases_Bool, cases_lt, and_parts, eqb-true, ltb-true}
use Rattle.std.proofs.lemmas.Bool.Decides.{nat_tests}
use Rattle.std.proofs.lemmas.Fmt.{decimal_injective}
use Rattle.std.proofs.lemmas.List.{length-append, length-replicate}
use Rattle.hex.proofs.HexLemmas.{decode_of-encode_lower, decode_of-same}
use Rattle.spec_frames.specs.Number.{number_of, AreBytes}
use Rattle.spec_formats.specs.ValueText.{ValueForm, Signed, Unsigned, Truth, Quoted, Hexadecimal, is_signed}
use Rattle.spec_formats.specs.ValueText.{is_unsigned, form_of, signed_text, before_nul, quoted, truth_text}
use Rattle.spec_formats.specs.ValueText.{text_of, IsNulFree, IsFilledTo, IsReadAs, IsValueOf}
use Rattle.value_text.specs.Parts.{IsNumberSize, HasForm}
use Rattle.std.specs.Char.{to_ascii_lowercase}
use Rattle.value_text.specs.Laws.{value_again, in_lower_case}
use Rattle.value_text.proofs.NumberLemmas.{number_of-lt, decimal-first, signed_text-below, signed_text-above}
use Rattle.value_text.proofs.QuoteLemmas.{quoted-same}
use Rattle.value_text.proofs.HexLemmas.{encode_lower-decode_of}

-- the sizes of the forms
signed_size : (id size : ℕ) → is_signed id size ≡ true → IsNumberSize size
signed_size id size e = grind (arith, nat_tests)

unsigned_size : (id size : ℕ) → is_unsigned id size ≡ true → IsNumberSize size
unsigned_size id size e = grind (arith, nat_tests)

pub HasForm-form_of : (id size : ℕ) → HasForm (form_of id size) size
unfolding form_of
HasForm-form_of id size = elim (cases_Bool (is_signed id size)) [
  | inl signed ↦ rw signed (signed_size id size signed)
  | inr signed ↦ elim (cases_Bool (is_unsigned id size)) [
    | inl unsigned ↦ rw (signed, unsigned) (unsigned_size id size unsigned)
    | inr unsigned ↦ rw (signed, unsigned) (others id size)
  ]
]
  where
    others : (id size : ℕ) → HasForm (cond (eqb id 33 && eqb size 1) Truth (cond (eqb id 30 && ltb 0 size) Quoted Hexadecimal)) size
    others id size = elim (cases_Bool (eqb id 33 && eqb size 1)) [
      | inl e ↦ rw e (eqb-true size 1 (and_parts (eqb id 33) (eqb size 1) e).1)
      | inr e ↦ elim (cases_Bool (eqb id 30 && ltb 0 size)) [
        | inl f ↦ rw (e, f) (ltb-true 0 size (and_parts (eqb id 30) (ltb 0 size) f).1)
        | inr f ↦ rw (e, f) tt
      ]
    ]

number_limit : (size : ℕ) → IsNumberSize size → 256 ^ size ≤ 2 ^ 64
number_limit size (inl e) = rw e (lit≤ tt)
number_limit size (inr (inl e)) = rw e (lit≤ tt)
number_limit size (inr (inr (inl e))) = rw e (lit≤ tt)
number_limit size (inr (inr (inr e))) = rw e (lit≤ tt)

-- bytes by their number
number_of-same : (a b : List ℕ) → AreBytes a → AreBytes b → length a ≡ length b → number_of a ≡ number_of b → a ≡ b
number_of-same [] [] f g len e = refl
number_of-same [] (y ∷ ys) f g len e = absurd (omega arith)
number_of-same (x ∷ xs) [] f g len e = absurd (omega arith)
number_of-same (x ∷ xs) (y ∷ ys) f g len e =
    let first : x ≡ y = omega (arith, f 0, g 0) in
    let others = number_of-same xs ys (λ k. f (suc k)) (λ k. g (suc k)) (omega arith) (omega (arith, f 0, g 0)) in
    cc

signed_text-same : (range m n : ℕ) → range ≤ 2 ^ 64 → m < range → n < range → signed_text range m ≡ signed_text range n → m ≡ n
signed_text-same range m n limit small_m small_n e = elim (cases_lt (2 * m) range) [
  | inl below_m ↦ elim (cases_lt (2 * n) range) [
    | inl below_n ↦ decimal_injective m n (omega arith) (omega arith) (sym (signed_text-below range m below_m) ∙ e ∙ signed_text-below range n below_n)
    | inr above_n ↦ absurd
        (decimal-first m (signed_text range n) (omega arith) (sym e ∙ signed_text-below range m below_m)
        (ap (λ t. get_or t 0 0) (signed_text-above range n above_n)))
  ]
  | inr above_m ↦ elim (cases_lt (2 * n) range) [
    | inl below_n ↦ absurd
        (decimal-first n (signed_text range m) (omega arith) (e ∙ signed_text-below range n below_n)
        (ap (λ t. get_or t 0 0) (signed_text-above range m above_m)))
    | inr above_n ↦ (let lacking = decimal_injective (range - m) (range - n) (omega arith) (omega arith)
        (ap (drop 1) (sym (signed_text-above range m above_m) ∙ e ∙ signed_text-above range n above_n)) in omega arith)
  ]
]

truth-same : (m n : ℕ) → m < 2 → n < 2 → truth_text m ≡ truth_text n → m ≡ n
truth-same zero zero f g e = refl
truth-same zero (suc zero) f g e = absurd (omega (arith, ap (λ t. get_or t 0 0) e))
truth-same (suc zero) zero f g e = absurd (omega (arith, ap (λ t. get_or t 0 0) e))
truth-same (suc zero) (suc zero) f g e = refl
truth-same m (suc (suc n)) f g e = absurd (omega arith)
truth-same (suc (suc m)) n f g e = absurd (omega arith)

one_byte : (value : List ℕ) → length value ≡ 1 → value ≡ get_or value 0 0 ∷ []
one_byte [] e = absurd (omega arith)
one_byte (b ∷ []) e = refl
one_byte (b ∷ (x ∷ bs)) e = absurd (omega arith)

-- two values of one size that one text is read as, form by form
filled-same : (size : ℕ) (content c a b : List ℕ) → c ≡ content → IsFilledTo size content a → IsFilledTo size c b → a ≡ b
filled-same size content c a b same f g =
    f.filled ∙ ap (λ x. x ++ replicate (size - length x) 0) (sym same) ∙ sym g.filled

quoted_one : (text a b : List ℕ) → length a ≡ length b → IsReadAs Quoted text a → IsReadAs Quoted text b → a ≡ b
quoted_one text a b len f g =
    let same = quoted-same f.0 g.0 (sym f.1 ∙ g.1) in
    filled-same (length a) f.0 g.0 a b same f.2 (rw (sym len) at g.2)

one_value : (f : ValueForm) (text a b : List ℕ) → HasForm f (length a) → length a ≡ length b
    → AreBytes a → AreBytes b → IsReadAs f text a → IsReadAs f text b → a ≡ b
unfolding text_of
one_value Signed text a b has len small_a small_b f g =
    let limit = number_limit (length a) has in
    let range = ap (λ k. 256 ^ k) len in
    number_of-same a b small_a small_b len
    (signed_text-same (256 ^ length a) (number_of a) (number_of b) limit (number_of-lt a small_a) (omega (arith, range, number_of-lt b small_b))
    (sym f ∙ g ∙ ap (λ r. signed_text r (number_of b)) (sym range)))
one_value Unsigned text a b has len small_a small_b f g =
    let limit = number_limit (length a) has in
    let range = ap (λ k. 256 ^ k) len in
    number_of-same a b small_a small_b len
    (decimal_injective (number_of a) (number_of b) (omega (arith, limit, number_of-lt a small_a))
    (omega (arith, limit, range, number_of-lt b small_b)) (sym f ∙ g))
one_value Truth text a b has len small_a small_b f g =
    let same = truth-same (get_or a 0 0) (get_or b 0 0) f.1 g.1 (sym f.0 ∙ g.0) in
    one_byte a has ∙ ap (λ x. x ∷ []) same ∙ sym (one_byte b (sym len ∙ has))
one_value Quoted text a b has len small_a small_b f g = quoted_one text a b len f g
one_value Hexadecimal text a b has len small_a small_b f g = decode_of-same (drop 3 text) a b f.1 g.1

pub has_one_value : (id size : ℕ) (text a b : List ℕ) → AreBytes a → AreBytes b → IsValueOf id size text a → IsValueOf id size text b → a ≡ b
has_one_value id size text a b small_a small_b f g =
    let P : ℕ → Type 0 = λ k. HasForm (form_of id size) k in
    one_value (form_of id size) text a b (subst P (sym f.sized) (HasForm-form_of id size)) (f.sized ∙ sym g.sized) small_a small_b f.read_as g.read_as

-- the bytes before the first NUL have none
before_nul-free : (bytes : List ℕ) → IsNulFree (before_nul bytes)
unfolding before_nul
before_nul-free [] = refl
before_nul-free (b ∷ bs) = elim (cases_Bool (eqb b 0)) [
  | inl nul ↦ rw nul refl
  | inr other ↦ rw (other, other) (ap (λ x. b ∷ x) (before_nul-free bs))
]

length-again : (content : List ℕ) (size : ℕ) → length content < size → length (content ++ replicate (size - length content) 0) ≡ size
length-again content size room = simp (length-append, length-replicate) (omega arith)

again : (f : ValueForm) (value : List ℕ) → HasForm f (length value) → AreBytes value → (f ≡ Quoted → length (before_nul value) < length value)
    → (length (value_again f value) ≡ length value) × IsReadAs f (text_of f value) (value_again f value)
unfolding text_of
again Signed value has small nul = (refl, refl)
again Unsigned value has small nul = (refl, refl)
again Truth value has small nul = elim (cases_Bool (eqb (get_or value 0 0) 0)) [
  | inl e ↦ rw e (sym has, (refl, omega arith))
  | inr e ↦ rw e (sym has, (refl, omega arith))
]
again Quoted value has small nul =
    let content = before_nul value in
    let len = length-again content (length value) (nul refl) in (
      len,
      (
        content,
        refl,
        record {
          filled = ap (λ k. content ++ replicate (k - length content) 0) (sym len);
          room = omega (arith, len, nul refl);
          no_nul = before_nul-free value;
        },
      ),
    )
again Hexadecimal value has small nul = (refl, (refl, decode_of-encode_lower value small))

pub is_read_again : (id : ℕ) (value : List ℕ) → AreBytes value → (form_of id (length value) ≡ Quoted → length (before_nul value) < length value)
    → IsValueOf id (length value) (text_of (form_of id (length value)) value) (value_again (form_of id (length value)) value)
is_read_again id value small nul =
    let read = again (form_of id (length value)) value (HasForm-form_of id (length value)) small nul in
    record { sized = read.0; read_as = read.1 }

pub is_refused : (f : ValueForm) (value other : List ℕ) → f ≡ Quoted → before_nul value ≡ value
    → length other ≡ length value → IsReadAs f (text_of f value) other → ⊥
unfolding text_of
is_refused Signed value other e full len read = cc e
is_refused Unsigned value other e full len read = cc e
is_refused Truth value other e full len read = cc e
is_refused Hexadecimal value other e full len read = cc e
is_refused Quoted value other e full len read = refused read
  where
    refused : (content : List ℕ) × (text_of Quoted value ≡ quoted content) × IsFilledTo (length other) content other → ⊥
    refused read =
        let same = quoted-same (before_nul value) read.0 read.1 in
        omega (arith, read.2.room, ap length (same ∙ full))

-- the bytes before the first NUL of a string that is filled
before_nul-filled : (content : List ℕ) (more : ℕ) → IsNulFree content → before_nul (content ++ replicate (suc more) 0) ≡ content
unfolding before_nul
before_nul-filled [] more free = refl
before_nul-filled (b ∷ bs) more free = elim (cases_Bool (eqb b 0)) [
  | inl nul ↦ (let e : [] ≡ b ∷ bs = rw nul at free in absurd (omega (arith, ap length e)))
  | inr other ↦ (let e : b ∷ before_nul bs ≡ b ∷ bs = rw other at free in rw other (ap (λ x. b ∷ x) (before_nul-filled bs more (cc e))))
]

before_nul-of_filled : (size : ℕ) (content value : List ℕ) → IsFilledTo size content value → before_nul value ≡ content
before_nul-of_filled size content value f =
    let room : size - length content ≡ suc (size - length content - 1) = omega (arith, f.room) in
    ap before_nul (f.filled ∙ ap (λ k. content ++ replicate k 0) room) ∙ before_nul-filled content (size - length content - 1) f.no_nul

pub is_written_again : (f : ValueForm) (text value : List ℕ) → IsReadAs f text value → text_of f value ≡ in_lower_case f text
unfolding text_of
is_written_again Signed text value read = sym read
is_written_again Unsigned text value read = sym read
is_written_again Truth text value read = sym read.0
is_written_again Quoted text value read = ap quoted (before_nul-of_filled (length value) read.0 value read.2) ∙ sym read.1
is_written_again Hexadecimal text value read =
    ap (λ x. codes "16#" ++ x) (encode_lower-decode_of (drop 3 text) value read.1) ∙ ap (λ x. take 3 x ++ map to_ascii_lowercase (drop 3 text)) (sym read.0)
