-- A value is found for a text exactly where the text is read as that value.
use Rattle.std.proofs.Common.{◌≡◌, ℕ, zero, suc, ◌+◌, ◌-◌, ◌*◌, ◌/◌, ◌%◌, ◌^◌, ◌<◌, ◌≤◌, List, [], ◌∷◌, ◌++◌}
use Rattle.std.proofs.Common.{length, drop, replicate, flat_map, Bool, true, false, ◌&&◌, refl, sym, ap, ◌∙◌}
use Rattle.std.proofs.Common.{inl, inr, arith, lit≤, append_assoc, ◌≢◌, get_or}
use Rattle.std.specs.Prelude.{codes, Some, None, Result, Ok, Err, is_ok, if◌then◌else◌, ◌==◌, nat_lt, bytes_eq}
use Rattle.std.specs.Fmt.{decimal}
use Rattle.std.specs.Str.Parse.{digits_value}
use Rattle.std.proofs.lemmas.Bool.{cases_Bool, cases_lt, and_parts, eqb-true, ltb-true, lt-ltb, le-ltb, ne_eqb, eq-eqb, false≢true}
use Rattle.std.proofs.lemmas.Bool.Decides.{nat_tests}
use Rattle.std.proofs.lemmas.Fmt.{decimal_is_IsNumeral, decimal_nonempty}
use Rattle.std.proofs.lemmas.Slice.Eq.{bytes_eq-Decides}
use Rattle.hex.specs.Hex.{decode_of}
use Rattle.hex.specs.declared.error.FromHexError.{FromHexError}
use Rattle.spec_frames.specs.Number.{number_of, AreBytes}
use Rattle.value_text.specs.Parts.{IsNumberSize}
use Rattle.spec_formats.specs.ValueText.{is_signed, is_unsigned, form_of, signed_text, truth_text, text_of}
use Rattle.spec_formats.specs.ValueText.{before_nul, is_plain, upper_digit, quoted_byte, quoted, IsFilledTo}
use Rattle.spec_formats.specs.ValueText.{IsReadAs, IsValueOf}
use Rattle.value_text.proofs.NumberLemmas.{number_of-lt, decimal-first, signed_text-below, signed_text-above}
use Rattle.value_text.proofs.QuoteLemmas.{quoted_byte-plain, quoted_byte-escaped, are_bytes-front}
use Rattle.spec_client.specs.ValueReading.{number_bytes, signed_number, digit_of, Plainly, unquoted}
use Rattle.spec_client.specs.ValueReading.{content_of, filled, decoded, made_value, is_quoted_text, is_text_of}
use Rattle.spec_client.specs.ValueReading.{are_bytes, is_value, value_of_text}
use Rattle.value_text.specs.Laws.{FindsValues}

bytes_of-all : (value : List ℕ) → are_bytes value ≡ true → AreBytes value
bytes_of-all [] e k = lit≤ tt
bytes_of-all (b ∷ bs) e zero = ltb-true b 256 (and_parts _ _ e).0
bytes_of-all (b ∷ bs) e (suc k) = bytes_of-all bs (and_parts _ _ e).1 k

all-are_bytes : (value : List ℕ) → AreBytes value → are_bytes value ≡ true
all-are_bytes [] each = refl
all-are_bytes (b ∷ bs) each = rw (lt-ltb b 256 (each 0)) (all-are_bytes bs (λ k. each (suc k)))

both : (a b : Bool) → a ≡ true → b ≡ true → (a && b) ≡ true
both a b e f = rw (e, f) refl

-- the bytes of their number
number_bytes-again : (value : List ℕ) → AreBytes value → number_bytes (length value) (number_of value) ≡ value
number_bytes-again [] each = refl
number_bytes-again (b ∷ bs) each =
    let low : (b + 256 * number_of bs) % 256 ≡ b = omega (arith, each 0) in
    let high : (b + 256 * number_of bs) / 256 ≡ number_of bs = omega (arith, each 0) in
    rw (low, high) (ap (λ x. b ∷ x) (number_bytes-again bs (λ k. each (suc k))))

signed_size : (id size : ℕ) → is_signed id size ≡ true → IsNumberSize size
signed_size id size e = grind (arith, nat_tests)

unsigned_size : (id size : ℕ) → is_unsigned id size ≡ true → IsNumberSize size
unsigned_size id size e = grind (arith, nat_tests)

number_limit : (size : ℕ) → IsNumberSize size → 256 ^ size ≤ 2 ^ 64
number_limit size (inl e) = rw e (lit≤ tt)
number_limit size (inr (inl e)) = rw e (lit≤ tt)
number_limit size (inr (inr (inl e))) = rw e (lit≤ tt)
number_limit size (inr (inr (inr e))) = rw e (lit≤ tt)

no_minus : (range n : ℕ) (text : List ℕ) → n < 2 ^ 64 → text ≡ decimal n → signed_number range text ≡ n
no_minus range n [] small e = absurd (let some = decimal_nonempty n small in let none : length (decimal n) ≡ 0 = ap length (sym e) in omega arith)
no_minus range n (c ∷ cs) small e =
    rw (ne_eqb c 45 (decimal-first n (c ∷ cs) small e)) (ap (digits_value 10) e ∙ (decimal_is_IsNumeral n small).1)

signed_again : (range n : ℕ) (text : List ℕ) → n < range → range ≤ 2 ^ 64 → text ≡ signed_text range n → signed_number range text ≡ n
signed_again range n text within limit e = elim (cases_lt (2 * n) range) [
  | inl below ↦ no_minus range n text (omega arith) (e ∙ signed_text-below range n below)
  | inr above ↦
      let is : text ≡ 45 ∷ decimal (range - n) = e ∙ signed_text-above range n above in
      let value : digits_value 10 (decimal (range - n)) ≡ range - n = (decimal_is_IsNumeral (range - n) (omega arith)).1 in
      let left : range - (range - n) ≡ n = omega arith in
      rw (is, value, left) refl
]

digit_again : (d : ℕ) → d < 16 → digit_of (upper_digit d) ≡ d
digit_again d small = elim (cases_lt d 10) [
  | inl low ↦ rw (lt-ltb d 10 low) (rw (lt-ltb (48 + d) 58 (omega arith)) (omega arith))
  | inr high ↦
      let e = le-ltb d 10 high in
      let f = le-ltb (55 + d) 58 (omega arith) in
      rw e (rw f (omega arith))
]

-- no plain byte is `$` or `'`
plain_is_no : (c b : ℕ) → is_plain c ≡ false → is_plain b ≡ true → b ≢ c
plain_is_no c b other plain e = false≢true (sym other ∙ sym (ap is_plain e) ∙ plain)

first_quoted : (b : ℕ) (bytes rest : List ℕ) → flat_map quoted_byte (b ∷ bytes) ++ rest ≡ quoted_byte b ++ (flat_map quoted_byte bytes ++ rest)
first_quoted b bytes rest = rw append_assoc refl

-- what was quoted, up to the closing quote
unquoted_again : (content : List ℕ) → AreBytes content → unquoted Plainly (flat_map quoted_byte content ++ 39 ∷ []) ≡ content
unfolding unquoted
unquoted_again [] each = refl
unquoted_again (b ∷ bs) each =
    let later = unquoted_again bs (λ k. each (suc k)) in
    rw (first_quoted b bs (39 ∷ [])) (elim (cases_Bool (is_plain b)) [
      | inl plain ↦
          rw (quoted_byte-plain b plain)
          (rw (ne_eqb b 39 (plain_is_no 39 b refl plain)) (rw (ne_eqb b 36 (plain_is_no 36 b refl plain)) (ap (λ x. b ∷ x) later)))
      | inr other ↦
          let high = digit_again (b / 16) (omega (arith, each 0)) in
          let low = digit_again (b % 16) (omega arith) in
          let whole : 16 * (b / 16) + b % 16 ≡ b = omega arith in
          rw (quoted_byte-escaped b other) (rw (high, low, whole) (ap (λ x. b ∷ x) later))
    ])

content_again : (content text : List ℕ) → AreBytes content → text ≡ quoted content → content_of text ≡ content
unfolding quoted
content_again content text each e = rw e (unquoted_again content each)

ok_is : (r : Result (List ℕ) FromHexError) → is_ok r ≡ true → r ≡ Ok (decoded r)
ok_is (Ok bytes) e = refl
ok_is (Err err) e = absurd (let h : false ≡ true = e in cc)

-- which form a type id and a size have
data FormCase (id size : ℕ) : Type 0 where
  CaseSigned : is_signed id size ≡ true → FormCase id size
  CaseUnsigned : is_signed id size ≡ false → is_unsigned id size ≡ true → FormCase id size
  CaseTruth : is_signed id size ≡ false → is_unsigned id size ≡ false → (id == 33 && size == 1) ≡ true → FormCase id size
  CaseQuoted : is_signed id size ≡ false → is_unsigned id size ≡ false → (id == 33 && size == 1) ≡ false
      → (id == 30 && nat_lt 0 size) ≡ true → FormCase id size
  CaseHexadecimal : is_signed id size ≡ false → is_unsigned id size ≡ false → (id == 33 && size == 1) ≡ false
      → (id == 30 && nat_lt 0 size) ≡ false → FormCase id size

form_case : (id size : ℕ) → FormCase id size
form_case id size = elim (cases_Bool (is_signed id size)) [
  | inl s ↦ CaseSigned s
  | inr s ↦ elim (cases_Bool (is_unsigned id size)) [
    | inl u ↦ CaseUnsigned s u
    | inr u ↦ elim (cases_Bool (id == 33 && size == 1)) [
      | inl t ↦ CaseTruth s u t
      | inr t ↦ elim (cases_Bool (id == 30 && nat_lt 0 size)) [
        | inl q ↦ CaseQuoted s u t q
        | inr q ↦ CaseHexadecimal s u t q
      ]
    ]
  ]
]

-- a made value whose text this is is what the text is read as
read_as : (id size : ℕ) (text value : List ℕ) → FormCase id size → made_value id size text ≡ value → length value ≡ size
    → is_text_of id size text value ≡ true → IsReadAs (form_of id size) text value
unfolding made_value is_text_of form_of text_of
read_as id size text value (CaseSigned s) made len e = rw s ((bytes_eq-Decides text _).0 (rw s at e))
read_as id size text value (CaseUnsigned s u) made len e = rw (s, u) ((bytes_eq-Decides text _).0 (rw (s, u) at e))
read_as id size text value (CaseTruth s u t) made len e =
    let parts = and_parts _ _ (rw (s, u, t) at e) in
    rw (s, u, t) ((bytes_eq-Decides text _).0 parts.0, ltb-true _ 2 parts.1)
read_as id size text value (CaseQuoted s u t q) made len e =
    let outer = and_parts _ _ (rw (s, u, t, q) at e) in
    let inner = and_parts _ _ outer.0 in
    let is : filled size (content_of text) ≡ value = rw (s, u, t, q) at made in
    rw (s, u, t, q) (
      content_of text,
      (bytes_eq-Decides text _).0 inner.0,
      record {
        filled = sym is ∙ ap (λ n. content_of text ++ replicate (n - length (content_of text)) 0) (sym len);
        room = rw len (ltb-true _ size inner.1);
        no_nul = (bytes_eq-Decides _ _).0 outer.1;
      },
    )
read_as id size text value (CaseHexadecimal s u t q) made len e =
    let parts = and_parts _ _ (rw (s, u, t, q) at e) in
    let is : decoded (decode_of (drop 3 text)) ≡ value = rw (s, u, t, q) at made in
    rw (s, u, t, q) ((bytes_eq-Decides text _).0 parts.0, ok_is (decode_of (drop 3 text)) parts.1 ∙ ap Ok is)

signed_made : (size : ℕ) (text value : List ℕ) → IsNumberSize size → AreBytes value → length value ≡ size
    → text ≡ signed_text (256 ^ length value) (number_of value) → number_bytes size (signed_number (256 ^ size) text) ≡ value
signed_made size text value has each len e =
    let limit = number_limit size has in
    let below = number_of-lt value each in
    let range : 256 ^ length value ≡ 256 ^ size = ap (λ n. 256 ^ n) len in
    let n = signed_again (256 ^ size) (number_of value) text (omega arith) limit (e ∙ ap (λ r. signed_text r (number_of value)) range) in
    rw n (rw (sym len) (number_bytes-again value each))

unsigned_made : (size : ℕ) (text value : List ℕ) → IsNumberSize size → AreBytes value → length value ≡ size
    → text ≡ decimal (number_of value) → number_bytes size (digits_value 10 text) ≡ value
unsigned_made size text value has each len e =
    let limit = number_limit size has in
    let below = number_of-lt value each in
    let range : 256 ^ length value ≡ 256 ^ size = ap (λ n. 256 ^ n) len in
    let n : digits_value 10 text ≡ number_of value = ap (digits_value 10) e ∙ (decimal_is_IsNumeral (number_of value) (omega arith)).1 in
    rw n (rw (sym len) (number_bytes-again value each))

truth_made : (v t : List ℕ) → length v ≡ 1 → (t ≡ truth_text (get_or v 0 0)) → get_or v 0 0 < 2 → (if bytes_eq t (codes "TRUE") then 1 ∷ [] else 0 ∷ []) ≡ v
truth_made [] t one e small = absurd (omega arith)
truth_made (zero ∷ []) t one e small = rw e refl
truth_made (suc zero ∷ []) t one e small = rw e refl
truth_made (suc (suc n) ∷ []) t one e small = absurd (omega arith)
truth_made (b ∷ (x ∷ bs)) t one e small = absurd (omega arith)

-- a quoted text has its content back
content_back : (content text value : List ℕ) → AreBytes value → text ≡ quoted content → IsFilledTo (length value) content value → content_of text ≡ content
content_back content text value each e f =
    content_again content text (are_bytes-front content (replicate (length value - length content) 0) (rw (sym f.filled) each)) e

quoted_made : (size : ℕ) (text value content : List ℕ) → AreBytes value → length value ≡ size → text ≡ quoted content
    → IsFilledTo (length value) content value → filled size (content_of text) ≡ value
quoted_made size text value content each len e f = rw (content_back content text value each e f) (rw (sym len) (sym f.filled))

quoted_test : (size : ℕ) (text value content : List ℕ) → AreBytes value → length value ≡ size → text ≡ quoted content
    → IsFilledTo (length value) content value → is_quoted_text size text (content_of text) ≡ true
quoted_test size text value content each len e f =
    let room : length content < size = rw len at f.room in
    rw (content_back content text value each e f)
    (both (bytes_eq text (quoted content) && nat_lt (length content) size) (bytes_eq (before_nul content) content)
    (both (bytes_eq text (quoted content)) (nat_lt (length content) size) ((bytes_eq-Decides text (quoted content)).1 e) (lt-ltb (length content) size room))
    ((bytes_eq-Decides (before_nul content) content).1 f.no_nul))

-- what a text is read as is the value that is made of it
made_again : (id size : ℕ) (text value : List ℕ) → FormCase id size → AreBytes value → length value ≡ size
    → IsReadAs (form_of id size) text value → made_value id size text ≡ value
unfolding made_value form_of text_of
made_again id size text value (CaseSigned s) each len e = rw s (signed_made size text value (signed_size id size s) each len (rw s at e))
made_again id size text value (CaseUnsigned s u) each len e =
    rw (s, u) (unsigned_made size text value (unsigned_size id size u) each len (rw (s, u) at e))
made_again id size text value (CaseTruth s u t) each len e =
    let one : size ≡ 1 = eqb-true size 1 (and_parts _ _ t).1 in
    let h = rw (s, u, t) at e in
    rw (s, u, t) (truth_made value text (len ∙ one) h.0 h.1)
made_again id size text value (CaseQuoted s u t q) each len e =
    let h = rw (s, u, t, q) at e in rw (s, u, t, q) (quoted_made size text value h.0 each len h.1 h.2)
made_again id size text value (CaseHexadecimal s u t q) each len e = let h = rw (s, u, t, q) at e in rw (s, u, t, q) (rw h.1 refl)

-- and it is that value's text
text_again : (id size : ℕ) (text value : List ℕ) → FormCase id size → AreBytes value → length value ≡ size
    → IsReadAs (form_of id size) text value → is_text_of id size text value ≡ true
unfolding is_text_of form_of text_of
text_again id size text value (CaseSigned s) each len e = rw s ((bytes_eq-Decides text _).1 (rw s at e))
text_again id size text value (CaseUnsigned s u) each len e = rw (s, u) ((bytes_eq-Decides text _).1 (rw (s, u) at e))
text_again id size text value (CaseTruth s u t) each len e =
    let h = rw (s, u, t) at e in rw (s, u, t) (both _ _ ((bytes_eq-Decides text _).1 h.0) (lt-ltb _ 2 h.1))
text_again id size text value (CaseQuoted s u t q) each len e =
    let h = rw (s, u, t, q) at e in rw (s, u, t, q) (quoted_test size text value h.0 each len h.1 h.2)
text_again id size text value (CaseHexadecimal s u t q) each len e =
    let h = rw (s, u, t, q) at e in rw (s, u, t, q) (both _ _ ((bytes_eq-Decides text _).1 h.0) (rw h.1 refl))

-- what is found is made, and passes the test
found : (b : Bool) (made value : List ℕ) → (if b then Some made else None) ≡ Some value → (b ≡ true) × (made ≡ value)
found true made value e = (refl, cc)
found false made value e = absurd cc

is_read : (id size : ℕ) (text value : List ℕ) → value_of_text id size text ≡ Some value → AreBytes value × IsValueOf id size text value
unfolding value_of_text
is_read id size text value e =
    let h = found (is_value id size text (made_value id size text)) (made_value id size text) value e in
    let test : is_value id size text value ≡ true = ap (is_value id size text) (sym h.1) ∙ h.0 in
    let outer = and_parts _ _ test in
    let inner = and_parts _ _ outer.0 in
    let len = eqb-true _ size inner.1 in
    (bytes_of-all value inner.0, record { sized = len; read_as = read_as id size text value (form_case id size) h.1 len outer.1 })

is_found : (id size : ℕ) (text value : List ℕ) → AreBytes value → IsValueOf id size text value → value_of_text id size text ≡ Some value
unfolding value_of_text
is_found id size text value each h =
    let test = both _ _ (both _ _ (all-are_bytes value each) (eq-eqb _ size h.sized))
    (text_again id size text value (form_case id size) each h.sized h.read_as) in
    rw (made_again id size text value (form_case id size) each h.sized h.read_as) (rw test refl)

pub values_found : FindsValues
values_found id size text value = (λ e. is_read id size text value e, λ h. is_found id size text value h.0 h.1)
