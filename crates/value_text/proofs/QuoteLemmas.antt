-- Texts between single quotes: what a byte looks like there, and that its text is told apart from what follows.
use Rattle.std.proofs.Common.{◌≡◌, ◌≢◌, ◌⊎◌, ℕ, suc, zero, ◌+◌, ◌/◌, ◌%◌, ◌<◌, ◌≤◌, List, [], ◌∷◌, ◌++◌}
use Rattle.std.proofs.Common.{length, get_or, take, drop, flat_map, true, false, eqb, refl, sym, ap, ◌∙◌}
use Rattle.std.proofs.Common.{subst, inl, inr, arith, append_assoc, append-nil, add-one}
use Rattle.std.proofs.lemmas.Bool.{cases_Bool, eq-eqb, ne_eqb, false≢true}
use Rattle.std.proofs.lemmas.Bool.Decides.{nat_tests}
use Rattle.std.proofs.lemmas.List.{take_all, drop_all}
use Rattle.std.proofs.lemmas.List.Concat.{flat_map-append}
use Rattle.spec_frames.specs.Number.{AreBytes}
use Rattle.value_text.specs.Parts.{IsEscaped}
use Rattle.spec_formats.specs.ValueText.{before_nul, is_plain, upper_digit, quoted_byte, quoted, IsNulFree}

-- the bytes before the first NUL, one byte after another
pub before_nul-here : (bytes : List ℕ) (i : ℕ) → i < length bytes → get_or bytes i 0 ≡ 0 → take i bytes ++ before_nul (drop i bytes) ≡ take i bytes
unfolding before_nul
before_nul-here [] i below nul = absurd (omega arith)
before_nul-here (b ∷ bs) zero below nul = rw (eq-eqb b 0 nul) refl
before_nul-here (b ∷ bs) (suc i) below nul = ap (λ x. b ∷ x) (before_nul-here bs i (omega arith) nul)

pub before_nul-more : (bytes : List ℕ) (i : ℕ) → i < length bytes → get_or bytes i 0 ≢ 0
    → take i bytes ++ before_nul (drop i bytes) ≡ take (i + 1) bytes ++ before_nul (drop (i + 1) bytes)
unfolding before_nul
before_nul-more [] i below other = absurd (omega arith)
before_nul-more (b ∷ bs) zero below other = rw (ne_eqb b 0 other) refl
before_nul-more (b ∷ bs) (suc i) below other = rw add-one (ap (λ x. b ∷ x) (before_nul-more bs i (omega arith) other ∙ rw add-one refl))

pub before_nul-end : (bytes : List ℕ) (i : ℕ) → length bytes ≤ i → take i bytes ++ before_nul (drop i bytes) ≡ bytes
unfolding before_nul
before_nul-end bytes i past = rw (take_all i bytes past, drop_all i bytes past) (append-nil bytes)

pub nul_free-none : IsNulFree []
unfolding before_nul
nul_free-none = refl

pub quoted_byte-plain : (b : ℕ) → is_plain b ≡ true → quoted_byte b ≡ b ∷ []
unfolding quoted_byte
quoted_byte-plain b plain = rw plain refl

pub quoted_byte-escaped : (b : ℕ) → is_plain b ≡ false → quoted_byte b ≡ 36 ∷ upper_digit (b / 16) ∷ upper_digit (b % 16) ∷ []
unfolding quoted_byte
quoted_byte-escaped b other = rw other refl

-- how the text of a byte begins, with what stands behind it
abbrev pub BeginsPlain : ℕ → List ℕ → List ℕ → Type 0
BeginsPlain b rest text = (is_plain b ≡ true) × (text ≡ b ∷ rest)

abbrev pub BeginsEscaped : ℕ → List ℕ → List ℕ → Type 0
BeginsEscaped b rest text = (is_plain b ≡ false) × (text ≡ 36 ∷ upper_digit (b / 16) ∷ upper_digit (b % 16) ∷ rest)

pub begins : (b : ℕ) (rest text : List ℕ) → text ≡ quoted_byte b ++ rest → BeginsPlain b rest text ⊎ BeginsEscaped b rest text
begins b rest text e = elim (cases_Bool (is_plain b)) [
  | inl plain ↦ inl (plain, e ∙ ap (λ x. x ++ rest) (quoted_byte-plain b plain))
  | inr other ↦ inr (other, e ∙ ap (λ x. x ++ rest) (quoted_byte-escaped b other))
]

pub plain_first : (text : List ℕ) → 0 < length text → is_plain (get_or text 0 0) ≡ true → text ≡ quoted_byte (get_or text 0 0) ++ drop 1 text
plain_first [] some plain = absurd (omega arith)
plain_first (b ∷ bs) some plain = ap (λ x. x ++ bs) (sym (quoted_byte-plain b plain))

pub escaped_first : (text : List ℕ) (b : ℕ) → 3 ≤ length text → get_or text 0 0 ≡ 36 → is_plain b ≡ false
    → get_or text 1 0 ≡ upper_digit (b / 16) → get_or text 2 0 ≡ upper_digit (b % 16) → text ≡ quoted_byte b ++ drop 3 text
escaped_first [] b three dollar other high low = absurd (omega arith)
escaped_first (x ∷ []) b three dollar other high low = absurd (omega arith)
escaped_first (x ∷ (y ∷ [])) b three dollar other high low = absurd (omega arith)
escaped_first (x ∷ (y ∷ (z ∷ text))) b three dollar other high low = rw (quoted_byte-escaped b other, dollar, high, low) refl

-- no two digits look the same
upper_digit-same : (m n : ℕ) → upper_digit m ≡ upper_digit n → m ≡ n
upper_digit-same m n e = grind (arith, nat_tests)

dollar_is_escaped : (b : ℕ) → is_plain b ≡ true → b ≡ 36 → ⊥
dollar_is_escaped b plain e = false≢true (sym (ap is_plain e) ∙ plain)

quote_is_escaped : (b : ℕ) → is_plain b ≡ true → b ≡ 39 → ⊥
quote_is_escaped b plain e = false≢true (sym (ap is_plain e) ∙ plain)

-- the front of a text stands for one byte
same_byte : (b d : ℕ) (r s text : List ℕ) → text ≡ quoted_byte b ++ r → text ≡ quoted_byte d ++ s → (b ≡ d) × (r ≡ s)
same_byte b d r s text e f = elim (begins b r text e) [
  | inl plain ↦ elim (begins d s text f) [
    | inl plain' ↦ (cc (sym plain.1 ∙ plain'.1), cc (sym plain.1 ∙ plain'.1))
    | inr other' ↦ (let heads : b ≡ 36 = cc (sym plain.1 ∙ other'.1) in absurd (dollar_is_escaped b plain.0 heads))
  ]
  | inr other ↦ elim (begins d s text f) [
    | inl plain' ↦ (let heads : d ≡ 36 = cc (sym other.1 ∙ plain'.1) in absurd (dollar_is_escaped d plain'.0 heads))
    | inr other' ↦ both_escaped b d r s (sym other.1 ∙ other'.1)
  ]
]
  where
    both_escaped : (b d : ℕ) (r s : List ℕ)
        → 36 ∷ upper_digit (b / 16) ∷ upper_digit (b % 16) ∷ r ≡ 36 ∷ upper_digit (d / 16) ∷ upper_digit (d % 16) ∷ s → (b ≡ d) × (r ≡ s)
    both_escaped b d r s e =
        let high = upper_digit-same (b / 16) (d / 16) cc in
        let low = upper_digit-same (b % 16) (d % 16) cc in
        (omega arith, cc)

no_quote : (b : ℕ) (r : List ℕ) → 39 ∷ [] ≡ quoted_byte b ++ r → ⊥
no_quote b r e = elim (begins b r (39 ∷ []) e) [
  | inl plain ↦ (let heads : b ≡ 39 = cc (plain.1) in quote_is_escaped b plain.0 heads)
  | inr other ↦ cc (other.1)
]

-- the first of some bytes, and the others
first_of : (b : ℕ) (bytes rest : List ℕ) → flat_map quoted_byte (b ∷ bytes) ++ rest ≡ quoted_byte b ++ (flat_map quoted_byte bytes ++ rest)
first_of b bytes rest = rw append_assoc refl

-- where a text begins with the texts of some bytes, its bytes begin with them
pub more_of : (content bytes rest : List ℕ) → flat_map quoted_byte content ++ rest ≡ flat_map quoted_byte bytes ++ 39 ∷ []
    → (more : List ℕ) × (bytes ≡ content ++ more) × (rest ≡ flat_map quoted_byte more ++ 39 ∷ [])
more_of [] bytes rest e = (bytes, refl, e)
more_of (b ∷ content) [] rest e = absurd (no_quote b (flat_map quoted_byte content ++ rest) (sym e ∙ first_of b content rest))
more_of (b ∷ content) (d ∷ bytes) rest e =
    let text = quoted_byte b ++ (flat_map quoted_byte content ++ rest) in
    let same = same_byte b d (flat_map quoted_byte content ++ rest) (flat_map quoted_byte bytes ++ 39 ∷ []) text refl
    (sym (first_of b content rest) ∙ e ∙ first_of d bytes (39 ∷ [])) in
    let more = more_of content bytes rest same.1 in
    (more.0, ap (λ x. d ∷ x) more.1 ∙ ap (λ x. x ∷ (content ++ more.0)) (sym same.0), more.2)

-- bytes without a NUL
pub nul_free-push : (content : List ℕ) (b : ℕ) → IsNulFree content → 0 < b → IsNulFree (content ++ b ∷ [])
unfolding before_nul
nul_free-push [] b free some = (let other : eqb b 0 ≡ false = ne_eqb b 0 (λ e. omega arith) in rw other refl)
nul_free-push (x ∷ content) b free some = elim (cases_Bool (eqb x 0)) [
  | inl nul ↦ (let e : [] ≡ x ∷ content = rw nul at free in cc)
  | inr other ↦ (let e : x ∷ before_nul content ≡ x ∷ content = rw other at free in rw other (ap (λ y. x ∷ y) (nul_free-push content b (cc) some)))
]

pub nul_free-at : (content more : List ℕ) (b : ℕ) → IsNulFree (content ++ b ∷ more) → 0 < b
unfolding before_nul
nul_free-at [] more b free = elim (cases_Bool (eqb b 0)) [
  | inl nul ↦ (let e : [] ≡ b ∷ more = rw nul at free in cc)
  | inr other ↦ grind (arith, nat_tests)
]
nul_free-at (x ∷ content) more b free = elim (cases_Bool (eqb x 0)) [
  | inl nul ↦ (let e : [] ≡ x ∷ (content ++ b ∷ more) = rw nul at free in cc)
  | inr other ↦ (let e : x ∷ before_nul (content ++ b ∷ more) ≡ x ∷ (content ++ b ∷ more) = rw other at free in nul_free-at content more b cc)
]

pub are_bytes-at : (content more : List ℕ) (b : ℕ) → AreBytes (content ++ b ∷ more) → b < 256
are_bytes-at [] more b each = each 0
are_bytes-at (x ∷ content) more b each = are_bytes-at content more b (λ k. each (suc k))

pub are_bytes-front : (content more : List ℕ) → AreBytes (content ++ more) → AreBytes content
are_bytes-front [] more each = λ k. omega arith
are_bytes-front (x ∷ content) more each = front (each 0) (are_bytes-front content more (λ j. each (suc j)))
  where
    front : x < 256 → AreBytes content → AreBytes (x ∷ content)
    front first others zero = first
    front first others (suc k) = others k

-- no two strings look the same
pub quoted-same : (content bytes : List ℕ) → quoted content ≡ quoted bytes → bytes ≡ content
unfolding quoted
quoted-same content bytes e = alone (more_of content bytes (39 ∷ []) cc)
  where
    nothing : (more : List ℕ) → 39 ∷ [] ≡ flat_map quoted_byte more ++ 39 ∷ [] → more ≡ []
    nothing [] f = refl
    nothing (b ∷ more) f = absurd (no_quote b (flat_map quoted_byte more ++ 39 ∷ []) (f ∙ first_of b more (39 ∷ [])))

    alone : (more : List ℕ) × (bytes ≡ content ++ more) × (39 ∷ [] ≡ flat_map quoted_byte more ++ 39 ∷ []) → bytes ≡ content
    alone more = more.1 ∙ ap (λ x. content ++ x) (nothing more.0 more.2) ∙ append-nil content

-- what the front of a text that stands for a byte has
pub begins_some : (b : ℕ) (rest text : List ℕ) → text ≡ quoted_byte b ++ rest → 0 < length text
begins_some b rest text e = elim (begins b rest text e) [ inl plain ↦ omega (arith, ap length plain.1) | inr other ↦ omega (arith, ap length other.1) ]

pub begins_other : (b : ℕ) (rest text : List ℕ) → 0 < b → text ≡ quoted_byte b ++ rest → is_plain (get_or text 0 0) ≡ false
    → (3 ≤ length text) × (get_or text 0 0 ≡ 36) × IsEscaped (get_or text 1 0) (get_or text 2 0) b
begins_other b rest text some e first = elim (begins b rest text e) [
  | inl plain ↦ absurd (false≢true (sym first ∙ ap (λ t. is_plain (get_or t 0 0)) plain.1 ∙ plain.0))
  | inr other ↦ (
    omega (arith, ap length other.1),
    ap (λ t. get_or t 0 0) other.1,
    record { not_plain = other.0; no_nul = some; high_digit = ap (λ t. get_or t 1 0) other.1; low_digit = ap (λ t. get_or t 2 0) other.1 },
  )
]

-- a quoted text begins with a quote
pub begins_quoted : (content text : List ℕ) → text ≡ quoted content → (0 < length text) × (get_or text 0 0 ≡ 39)
unfolding quoted
begins_quoted content text e = (omega (arith, ap length e), ap (λ t. get_or t 0 0) e)

pub quote_first : (text : List ℕ) → 0 < length text → get_or text 0 0 ≡ 39 → text ≡ 39 ∷ drop 1 text
quote_first [] some e = absurd (omega arith)
quote_first (b ∷ bs) some e = ap (λ x. x ∷ bs) e

pub quoted-whole : (content text rest : List ℕ) → text ≡ 39 ∷ (flat_map quoted_byte content ++ rest) → rest ≡ 39 ∷ [] → text ≡ quoted content
unfolding quoted
quoted-whole content text rest whole last = whole ∙ ap (λ x. 39 ∷ (flat_map quoted_byte content ++ x)) last

pub one_more : (content rest behind text : List ℕ) (b : ℕ) → text ≡ 39 ∷ (flat_map quoted_byte content ++ rest)
    → rest ≡ quoted_byte b ++ behind → text ≡ 39 ∷ (flat_map quoted_byte (content ++ b ∷ []) ++ behind)
one_more content rest behind text b whole first =
    whole ∙ ap (λ x. 39 ∷ (flat_map quoted_byte content ++ x)) first ∙ ap (λ x. 39 ∷ x) (sym (moved content))
  where
    moved : (content : List ℕ) → flat_map quoted_byte (content ++ b ∷ []) ++ behind ≡ flat_map quoted_byte content ++ (quoted_byte b ++ behind)
    moved content = rw flat_map-append (simp (append_assoc, append-nil))

-- where the front of what is left stands for no byte, the text is no quoted text
pub no_more : (content rest text bytes : List ℕ) → text ≡ 39 ∷ (flat_map quoted_byte content ++ rest) → (rest ≡ 39 ∷ [] → ⊥)
    → ((b : ℕ) (behind : List ℕ) → b < 256 → 0 < b → rest ≢ quoted_byte b ++ behind) → AreBytes bytes → IsNulFree bytes → text ≡ quoted bytes → ⊥
unfolding quoted
no_more content rest text bytes whole open_ none each free e = stuck (more_of content bytes rest cc)
  where
    stuck_at : (more : List ℕ) → bytes ≡ content ++ more → rest ≡ flat_map quoted_byte more ++ 39 ∷ [] → ⊥
    stuck_at [] is left = open_ left
    stuck_at (b ∷ more) is left =
        let P : List ℕ → Type 0 = λ x. AreBytes x in
        let Q : List ℕ → Type 0 = λ x. IsNulFree x in
        none b (flat_map quoted_byte more ++ 39 ∷ []) (are_bytes-at content more b (subst P is each))
        (nul_free-at content more b (subst Q is free)) (left ∙ first_of b more (39 ∷ []))

    stuck : (more : List ℕ) × (bytes ≡ content ++ more) × (rest ≡ flat_map quoted_byte more ++ 39 ∷ []) → ⊥
    stuck more = stuck_at more.0 more.1 more.2

-- what a text is once its closing quote is written
pub quoted-end : (old content out new : List ℕ) (i : ℕ) → length content ≤ i
    → out ≡ (old ++ 39 ∷ []) ++ flat_map quoted_byte (take i content) → new ≡ out ++ 39 ∷ [] → new ≡ old ++ quoted content
unfolding quoted
quoted-end old content out new i past before after =
    after ∙ ap (λ x. x ++ 39 ∷ []) before ∙ rw (take_all i content past) (simp append_assoc)
