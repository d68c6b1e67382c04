-- A payload that was walked over, and the notification that it is.
use Rattle.std.proofs.Common.{◌≡◌, ◌≢◌, ℕ, ◌+◌, ◌≤◌, ◌<◌, Bool, true, false, ◌||◌, cond, eqb, List, length}
use Rattle.std.proofs.Common.{drop, Option, Some, None, IsNone, IsSome, refl, sym, ap, subst, ◌∙◌, inl, inr}
use Rattle.std.proofs.Common.{◌⊎◌}
use Rattle.std.specs.Prelude.{◌↔◌, IfSome, option_map}
use Rattle.std.specs.Option.{option_and_then}
use Rattle.std.proofs.Math.Bool.{or-true}
use Rattle.std.proofs.lemmas.Bool.{le-ltb, lt-ltb, eq-eqb}
use Rattle.std.proofs.lemmas.Bool.Decides.{eqb_tells}
use Rattle.spec_formats.specs.Numbers.{AreBytes, number32}
use Rattle.spec_formats.specs.Notification.{Sample, Stamp, IsNotificationPayload}
use Rattle.spec_formats.specs.NotificationReading.{samples_of, stamps_of, notification_of}
use Rattle.spec_formats.proofs.NotificationLemmas.{text_of-notification_of, notification_of-of_text}
use Rattle.notify_frames.specs.Notes.{samples_in, left_in, IsNoNotification}
use Rattle.notify_frames.specs.Whole.{IsWhole}

-- the stamps, where nothing stands behind them
abbrev alone : List Stamp × List ℕ → Option (List Stamp)
alone x = cond (eqb (length x.1) 0) (Some x.0) None

abbrev rest_of : Option (List Stamp × List ℕ) → Option (List ℕ)
rest_of o = option_map (λ (x : List Stamp × List ℕ). x.1) o

abbrev test : List ℕ → Bool
test p = eqb (number32 0 p + 4) (length p) || eqb (number32 0 p) (length p)

not_equal : (a b : ℕ) → a ≢ b → eqb a b ≡ false
not_equal a b ne = elim (eqb_tells a b) [ inl same ↦ absurd (ne same.1) | inr other ↦ other.0 ]

passes : (p : List ℕ) → (number32 0 p + 4 ≡ length p) ⊎ (number32 0 p ≡ length p) → test p ≡ true
passes p (inl e) = rw (eq-eqb (number32 0 p + 4) (length p) e) refl
passes p (inr e) = rw (eq-eqb (number32 0 p) (length p) e) (or-true (eqb (number32 0 p + 4) (length p)))

-- ---- payloads that are no notification

pub too_short : (p : List ℕ) → length p < 8 → notification_of p ≡ None
unfolding notification_of
too_short p short = rw (lt-ltb (length p) 8 short) refl

pub other_length : (p : List ℕ) → 8 ≤ length p → number32 0 p + 4 ≢ length p → number32 0 p ≢ length p → notification_of p ≡ None
unfolding notification_of
other_length p long first second =
    rw (le-ltb (length p) 8 long, not_equal (number32 0 p + 4) (length p) first, not_equal (number32 0 p) (length p) second) refl

alone_none : (o : Option (List Stamp × List ℕ)) → None ≡ rest_of o → option_and_then alone o ≡ None
alone_none None e = refl
alone_none (Some x) e = absurd cc

alone_more : (o : Option (List Stamp × List ℕ)) (r : List ℕ) → Some r ≡ rest_of o → length r ≢ 0 → option_and_then alone o ≡ None
alone_more None r e more = refl
alone_more (Some x) r e more =
    let same : r ≡ x.1 = cc in
    let other : length x.1 ≢ 0 = λ z. more (ap length same ∙ z) in
    rw (not_equal (length x.1) 0 other) refl

if_test : (p : List ℕ) → 8 ≤ length p → option_and_then alone (stamps_of (number32 4 p) (drop 8 p)) ≡ None → notification_of p ≡ None
unfolding notification_of
if_test p long e = rw (le-ltb (length p) 8 long, e) (elim (test p) as (λ b. cond {A = Option (List Stamp)} b None None ≡ None) [ true ↦ refl | false ↦ refl ])

pub cut_off : (p : List ℕ) (n : ℕ) (rest : List ℕ) → 8 ≤ length p → n ≡ number32 4 p → rest ≡ drop 8 p → None ≡ rest_of (stamps_of n rest)
    → notification_of p ≡ None
cut_off p n rest long en er e = if_test p long (alone_none (stamps_of (number32 4 p) (drop 8 p))
    (e ∙ (ap (λ (k : ℕ). rest_of (stamps_of k rest)) en ∙ ap (λ (l : List ℕ). rest_of (stamps_of (number32 4 p) l)) er)))

pub more_behind : (p : List ℕ) (n : ℕ) (rest r : List ℕ) → 8 ≤ length p → n ≡ number32 4 p → rest ≡ drop 8 p → Some r ≡ rest_of (stamps_of n rest)
    → length r ≢ 0 → notification_of p ≡ None
more_behind p n rest r long en er e more = if_test p long (alone_more (stamps_of (number32 4 p) (drop 8 p)) r
    (e ∙ (ap (λ (k : ℕ). rest_of (stamps_of k rest)) en ∙ ap (λ (l : List ℕ). rest_of (stamps_of (number32 4 p) l)) er)) more)

-- ---- a payload that is one

alone_all : (o : Option (List Stamp × List ℕ)) (r : List ℕ) → Some r ≡ rest_of o → length r ≡ 0
    → (x : List Stamp) × (option_and_then alone o ≡ Some x) × (option_map (λ (y : List Stamp × List ℕ). samples_in y.0) o ≡ Some (samples_in x))
alone_all None r e none = absurd cc
alone_all (Some x) r e none =
    let same : r ≡ x.1 = cc in
    let zero_is : length x.1 ≡ 0 = sym (ap length same) ∙ none in
    (x.0, rw (eq-eqb (length x.1) 0 zero_is) refl, refl)

left_in-stamps : (n : ℕ) (bytes : List ℕ) → left_in 0 0 n bytes ≡ option_map (λ (y : List Stamp × List ℕ). samples_in y.0) (stamps_of n bytes)
unfolding left_in samples_of
left_in-stamps n bytes = refl

read_whole : (p : List ℕ) → 8 ≤ length p → test p ≡ true → (x : List Stamp) → option_and_then alone (stamps_of (number32 4 p) (drop 8 p)) ≡ Some x
    → notification_of p ≡ Some x
unfolding notification_of
read_whole p long t x e = rw (le-ltb (length p) 8 long, t, e) refl

some_is : (o : Option (List (ℕ × Sample))) (x : List (ℕ × Sample)) → o ≡ Some x → IsSome o
some_is o x e = subst (λ (y : Option (List (ℕ × Sample))). IsSome y) (sym e) refl

pub is_whole : (p : List ℕ) (n : ℕ) (rest r : List ℕ) → 8 ≤ length p → (number32 0 p + 4 ≡ length p) ⊎ (number32 0 p ≡ length p)
    → n ≡ number32 4 p → rest ≡ drop 8 p → Some r ≡ rest_of (stamps_of n rest) → length r ≡ 0 → IsWhole p n
is_whole p n rest r long lengths en er e none =
    let a = alone_all (stamps_of (number32 4 p) (drop 8 p)) r
    (e ∙ (ap (λ (k : ℕ). rest_of (stamps_of k rest)) en ∙ ap (λ (l : List ℕ). rest_of (stamps_of (number32 4 p) l)) er)) none in
    let read = read_whole p long (passes p lengths) a.0 a.1 in
    let left : left_in 0 0 n (drop 8 p) ≡ Some (samples_in a.0) =
    ap (λ (k : ℕ). left_in 0 0 k (drop 8 p)) en ∙ (left_in-stamps (number32 4 p) (drop 8 p) ∙ a.2) in
    record {
      long = long;
      found = some_is (left_in 0 0 n (drop 8 p)) (samples_in a.0) left;
      samples = left ∙ sym (ap (λ (o : Option (List Stamp)). option_map samples_in o) read);
    }

-- ---- what the answer says

abbrev IsTextOf : List ℕ → List (ℕ × Sample) → Type 0
IsTextOf p notes = (stamps : List Stamp) × (IsNotificationPayload p stamps × (notes ≡ samples_in stamps))

text_given : (p : List ℕ) → AreBytes p → (o : Option (List Stamp)) → notification_of p ≡ o → IfSome (option_map samples_in o) (IsTextOf p)
text_given p h None is = tt
text_given p h (Some stamps) is = (stamps, (text_of-notification_of p stamps h is, refl))

pub text_read : (result : Option (List (ℕ × Sample))) (p : List ℕ) → AreBytes p → result ≡ option_map samples_in (notification_of p)
    → IfSome result (λ notes. (stamps : List Stamp) × (IsNotificationPayload p stamps × (notes ≡ samples_in stamps)))
text_read result p h e = subst (λ (o : Option (List (ℕ × Sample))). IfSome o (IsTextOf p)) (sym e) (text_given p h (notification_of p) refl)

none_given : (p : List ℕ) → AreBytes p → (o : Option (List Stamp)) → notification_of p ≡ o → IsNone (option_map samples_in o) ↔ IsNoNotification p
none_given p h None is = (λ none. λ stamps text. absurd (cc (is, notification_of-of_text p stamps text)), λ none. refl)
none_given p h (Some stamps) is = (λ some. absurd cc, λ none. absurd (none stamps (text_of-notification_of p stamps h is)))

pub none_read : (result : Option (List (ℕ × Sample))) (p : List ℕ) → AreBytes p → result ≡ option_map samples_in (notification_of p)
    → IsNone result ↔ IsNoNotification p
none_read result p h e = subst (λ (o : Option (List (ℕ × Sample))). IsNone o ↔ IsNoNotification p) (sym e) (none_given p h (notification_of p) refl)
