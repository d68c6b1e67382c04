-- The stamps that are read are the stamps whose text the payload is.
use Rattle.std.proofs.Common.{◌≡◌, ℕ, zero, suc, ◌+◌, ◌≤◌, Bool, true, false, ◌||◌, cond, eqb, ltb, List, []}
use Rattle.std.proofs.Common.{◌∷◌, ◌++◌, length, take, drop, Option, Some, None, refl, sym, ap, subst, ◌∙◌}
use Rattle.std.proofs.Common.{append_assoc, arith, inl, inr, ◌⊎◌}
use Rattle.std.specs.Option.{option_and_then}
use Rattle.std.specs.List.{AllByRecursion, flat_map}
use Rattle.std.specs.Int.{w32, w64, to_le_bytes}
use Rattle.std.proofs.Math.Bool.{or-true}
use Rattle.std.proofs.lemmas.Bool.{ltb-false, le-ltb, eqb-true, eq-eqb}
use Rattle.std.proofs.lemmas.List.{append-nil, length-append, length-drop, length-take-le, take_at, drop_at, take-append-drop, drop-drop}
use Rattle.std.proofs.lemmas.Nat.{from_le_bytes-to_le_bytes_4, from_le_bytes-to_le_bytes_8}
use Rattle.spec_formats.specs.Numbers.{AreBytes, number32, number64}
use Rattle.spec_formats.specs.Notification.{Sample, Stamp, sample_bytes, stamp_bytes, stamps_bytes, FitsSample, FitsStamp, IsNotificationPayload}
use Rattle.spec_formats.specs.NotificationReading.{sample_of, samples_of, stamp_of, stamps_of, notification_of}
use Rattle.spec_formats.proofs.Fields.{AreBytes-drop, number32-front, number64-front, number32-lt, number64-lt, next_field, next32}
use Rattle.spec_formats.proofs.Forms.{empty}

-- ---- a text is read

sample_of-long : (bytes : List ℕ) → 8 + number32 4 bytes ≤ length bytes → sample_of bytes
    ≡ Some (record { handle = number32 0 bytes; bytes = take (number32 4 bytes) (drop 8 bytes) }, drop (8 + number32 4 bytes) bytes)
unfolding sample_of
sample_of-long bytes long = rw (le-ltb (length bytes) (8 + number32 4 bytes) long) refl

pub sample_of-sample_bytes : (s : Sample) (rest : List ℕ) → FitsSample s → sample_of (sample_bytes s ++ rest) ≡ Some (s, rest)
sample_of-sample_bytes s rest f =
    let p = sample_bytes s ++ rest in
    let h : number32 0 p ≡ s.handle = from_le_bytes-to_le_bytes_4 s.handle f.handle in
    let n : number32 4 p ≡ length s.bytes = from_le_bytes-to_le_bytes_4 (length s.bytes) f.size in
    let len : length (s.bytes ++ rest) ≡ length s.bytes + length rest = length-append s.bytes rest in
    let text : take (number32 4 p) (s.bytes ++ rest) ≡ s.bytes = take_at s.bytes rest (number32 4 p) (sym n) in
    let after : drop (8 + number32 4 p) p ≡ rest = drop_at (sample_bytes s) rest (8 + number32 4 p) (omega (arith, n)) in
    let found : Sample × List ℕ = (record { handle = number32 0 p; bytes = take (number32 4 p) (s.bytes ++ rest) }, drop (8 + number32 4 p) p) in
    let same : found ≡ (s, rest) =
    ap (λ (m : ℕ). (record { handle = m; bytes = take (number32 4 p) (s.bytes ++ rest) }, drop (8 + number32 4 p) p)) h
    ∙ (ap (λ (b : List ℕ). (record { handle = s.handle; bytes = b }, drop (8 + number32 4 p) p)) text
    ∙ ap (λ (r : List ℕ). (s, r)) after) in
    sample_of-long p (omega (arith, n, len)) ∙ ap (λ (x : Sample × List ℕ). Some x) same

samples_of-next : (bytes : List ℕ) (s : Sample) (mid : List ℕ) (n : ℕ) (ss : List Sample) (rest : List ℕ) → sample_of bytes ≡ Some (s, mid)
    → samples_of n mid ≡ Some (ss, rest) → samples_of (suc n) bytes ≡ Some (s ∷ ss, rest)
unfolding samples_of
samples_of-next bytes s mid n ss rest e f = rw (e, f) refl

samples_of-none : (bytes : List ℕ) → samples_of 0 bytes ≡ Some ([], bytes)
unfolding samples_of
samples_of-none bytes = refl

pub samples_of-flat_map : (ss : List Sample) (rest : List ℕ) → AllByRecursion FitsSample ss
    → samples_of (length ss) (flat_map sample_bytes ss ++ rest) ≡ Some (ss, rest)
samples_of-flat_map [] rest f = samples_of-none rest
samples_of-flat_map (s ∷ ss) rest f =
    let others = flat_map sample_bytes ss in
    subst (λ (l : List ℕ). samples_of (suc (length ss)) l ≡ Some (s ∷ ss, rest)) (sym (append_assoc (sample_bytes s) others rest))
    (samples_of-next (sample_bytes s ++ (others ++ rest)) s (others ++ rest) (length ss) ss rest
    (sample_of-sample_bytes s (others ++ rest) f.0) (samples_of-flat_map ss rest f.1))

stamp_of-long : (bytes : List ℕ) (ss : List Sample) (rest : List ℕ) → 12 ≤ length bytes → samples_of (number32 8 bytes) (drop 12 bytes) ≡ Some (ss, rest)
    → stamp_of bytes ≡ Some (record { time = number64 0 bytes; samples = ss }, rest)
unfolding stamp_of
stamp_of-long bytes ss rest long e = rw (le-ltb (length bytes) 12 long, e) refl

pub stamp_of-stamp_bytes : (s : Stamp) (rest : List ℕ) → FitsStamp s → stamp_of (stamp_bytes s ++ rest) ≡ Some (s, rest)
stamp_of-stamp_bytes s rest f =
    let p = stamp_bytes s ++ rest in
    let samples = flat_map sample_bytes s.samples ++ rest in
    let t : number64 0 p ≡ s.time = from_le_bytes-to_le_bytes_8 s.time f.time in
    let n : number32 8 p ≡ length s.samples = from_le_bytes-to_le_bytes_4 (length s.samples) f.count in
    let read : samples_of (number32 8 p) samples ≡ Some (s.samples, rest) =
    subst (λ (k : ℕ). samples_of k samples ≡ Some (s.samples, rest)) (sym n) (samples_of-flat_map s.samples rest f.samples) in
    stamp_of-long p s.samples rest (omega arith) read
    ∙ ap (λ (m : ℕ). Some (record { time = m; samples = s.samples }, rest)) t

stamps_of-next : (bytes : List ℕ) (s : Stamp) (mid : List ℕ) (n : ℕ) (ss : List Stamp) (rest : List ℕ) → stamp_of bytes ≡ Some (s, mid)
    → stamps_of n mid ≡ Some (ss, rest) → stamps_of (suc n) bytes ≡ Some (s ∷ ss, rest)
unfolding stamps_of
stamps_of-next bytes s mid n ss rest e f = rw (e, f) refl

stamps_of-none : (bytes : List ℕ) → stamps_of 0 bytes ≡ Some ([], bytes)
unfolding stamps_of
stamps_of-none bytes = refl

pub stamps_of-flat_map : (ss : List Stamp) (rest : List ℕ) → AllByRecursion FitsStamp ss
    → stamps_of (length ss) (flat_map stamp_bytes ss ++ rest) ≡ Some (ss, rest)
stamps_of-flat_map [] rest f = stamps_of-none rest
stamps_of-flat_map (s ∷ ss) rest f =
    let others = flat_map stamp_bytes ss in
    subst (λ (l : List ℕ). stamps_of (suc (length ss)) l ≡ Some (s ∷ ss, rest)) (sym (append_assoc (stamp_bytes s) others rest))
    (stamps_of-next (stamp_bytes s ++ (others ++ rest)) s (others ++ rest) (length ss) ss rest
    (stamp_of-stamp_bytes s (others ++ rest) f.0) (stamps_of-flat_map ss rest f.1))

-- the stated length is one of the two
abbrev length_test : List ℕ → Bool
length_test p = eqb (number32 0 p + 4) (length p) || eqb (number32 0 p) (length p)

either : (a c : ℕ) → (a + 4 ≡ c) ⊎ (a ≡ c) → (eqb (a + 4) c || eqb a c) ≡ true
either a c (inl e) = rw (eq-eqb (a + 4) c e) refl
either a c (inr e) = rw (eq-eqb a c e) (or-true (eqb (a + 4) c))

notification_of-read : (p : List ℕ) (ss : List Stamp) → 8 ≤ length p → length_test p ≡ true
    → stamps_of (number32 4 p) (drop 8 p) ≡ Some (ss, []) → notification_of p ≡ Some ss
unfolding notification_of
notification_of-read p ss long test e = rw (le-ltb (length p) 8 long, test, e) refl

-- a text is read as its stamps
pub notification_of-of_text : (payload : List ℕ) (stamps : List Stamp) → IsNotificationPayload payload stamps → notification_of payload ≡ Some stamps
notification_of-of_text payload stamps is =
    let p = to_le_bytes w32 is.stated ++ stamps_bytes stamps in
    let l : number32 0 p ≡ is.stated = from_le_bytes-to_le_bytes_4 is.stated is.stated_fits in
    let n : number32 4 p ≡ length stamps = from_le_bytes-to_le_bytes_4 (length stamps) is.count in
    let all = flat_map stamp_bytes stamps in
    let read : stamps_of (number32 4 p) all ≡ Some (stamps, []) =
    subst (λ (k : ℕ). stamps_of k all ≡ Some (stamps, [])) (sym n)
    (subst (λ (b : List ℕ). stamps_of (length stamps) b ≡ Some (stamps, [])) (append-nil all) (stamps_of-flat_map stamps [] is.fits)) in
    let test : length_test p ≡ true = either (number32 0 p) (length p)
    (elim is.stated_length [ inl e ↦ inl (omega (arith, l, e)) | inr e ↦ inr (omega (arith, l, e)) ]) in
    subst (λ (b : List ℕ). notification_of b ≡ Some stamps) (sym is.whole) (notification_of-read p stamps (omega arith) test read)

-- ---- what is read stands there

-- the bytes are a text and a rest
record Takes (bytes text rest : List ℕ) : Type 0 where
  whole : bytes ≡ text ++ rest
  rest_bytes : AreBytes rest

-- a test that did not refuse
kept : {X : Type 0} (test : Bool) (value other : X) → cond test None (Some value) ≡ Some other → (test ≡ false) × (value ≡ other)
kept true value other e = absurd cc
kept false value other e = (refl, cc)

-- a step that did not refuse, after a test
kept_step : {X : Type 0} (test : Bool) (o : Option X) (x : X) → cond test None o ≡ Some x → (test ≡ false) × (o ≡ Some x)
kept_step true o x e = absurd cc
kept_step false o x e = (refl, e)

-- the value of a step that did not refuse
step : {X Y : Type 0} (f : X → Option Y) (o : Option X) (y : Y) → option_and_then f o ≡ Some y → (x : X) × (o ≡ Some x) × (f x ≡ Some y)
step f None y e = absurd cc
step f (Some x) y e = (x, refl, e)

Takes-then : (a x b y c : List ℕ) → Takes a x b → Takes b y c → Takes a (x ++ y) c
Takes-then a x b y c p q = record {
  whole = p.whole ∙ (ap (λ (t : List ℕ). x ++ t) q.whole ∙ sym (append_assoc x y c));
  rest_bytes = q.rest_bytes;
}

abbrev sample_at : List ℕ → Sample
sample_at bytes = record { handle = number32 0 bytes; bytes = take (number32 4 bytes) (drop 8 bytes) }

sample-front : (bytes : List ℕ) → AreBytes bytes → 8 + number32 4 bytes ≤ length bytes
    → FitsSample (sample_at bytes) × Takes bytes (sample_bytes (sample_at bytes)) (drop (8 + number32 4 bytes) bytes)
sample-front bytes h long =
    let n = number32 4 bytes in
    let sample = take n (drop 8 bytes) in
    let data_len : length sample ≡ n = length-take-le n (drop 8 bytes) (omega (arith, long, length-drop 8 bytes)) in
    let handle = to_le_bytes w32 (number32 0 bytes) in
    let numbers = next32 handle 4 bytes h (omega (arith, long)) (number32-front 0 bytes h (omega (arith, long))) in
    let numbers_len : (handle ++ to_le_bytes w32 (length sample)) ++ drop 8 bytes ≡ bytes =
    subst (λ (k : ℕ). (handle ++ to_le_bytes w32 k) ++ drop 8 bytes ≡ bytes) (sym data_len) numbers in
    let rest : drop n (drop 8 bytes) ≡ drop (8 + n) bytes = drop-drop n 8 bytes in
    let split : sample ++ drop (8 + n) bytes ≡ drop 8 bytes = ap (λ (l : List ℕ). sample ++ l) (sym rest) ∙ take-append-drop n (drop 8 bytes) in
    let whole = next_field bytes (handle ++ to_le_bytes w32 (length sample)) (drop 8 bytes) sample (drop (8 + n) bytes) numbers_len split in (
      record { handle = number32-lt 0 bytes h; size = omega (arith, data_len, number32-lt 4 bytes h) },
      record { whole = sym whole; rest_bytes = AreBytes-drop (8 + n) bytes h },
    )

text_of-sample_of : (bytes : List ℕ) (s : Sample) (rest : List ℕ) → AreBytes bytes → sample_of bytes ≡ Some (s, rest)
    → FitsSample s × Takes bytes (sample_bytes s) rest
unfolding sample_of
text_of-sample_of bytes s rest h e =
    let k = kept (ltb (length bytes) (8 + number32 4 bytes)) (sample_at bytes, drop (8 + number32 4 bytes) bytes) (s, rest) e in
    let long : 8 + number32 4 bytes ≤ length bytes = ltb-false (length bytes) (8 + number32 4 bytes) k.0 in
    subst (λ (x : Sample × List ℕ). FitsSample x.0 × Takes bytes (sample_bytes x.0) x.1) k.1 (sample-front bytes h long)

-- as many samples as are counted
record AreSamples (n : ℕ) (bytes : List ℕ) (ss : List Sample) (rest : List ℕ) : Type 0 where
  count : length ss ≡ n
  fits : AllByRecursion FitsSample ss
  takes : Takes bytes (flat_map sample_bytes ss) rest

nothing : (bytes : List ℕ) → AreBytes bytes → Takes bytes [] bytes
nothing bytes h = record { whole = refl; rest_bytes = h }

text_of-samples_of : (n : ℕ) (bytes : List ℕ) (ss : List Sample) (rest : List ℕ) → AreBytes bytes
    → samples_of n bytes ≡ Some (ss, rest) → AreSamples n bytes ss rest
unfolding samples_of
text_of-samples_of zero bytes ss rest h e =
    let none : List Sample × List ℕ = ([], bytes) in
    let same : none ≡ (ss, rest) = cc in
    subst (λ (x : List Sample × List ℕ). AreSamples 0 bytes x.0 x.1) same (record { count = refl; fits = tt; takes = nothing bytes h })
text_of-samples_of (suc n) bytes ss rest h e =
    let first = step (λ (x : Sample × List ℕ). option_and_then (λ (y : List Sample × List ℕ). Some (x.0 ∷ y.0, y.1)) (samples_of n x.1))
    (sample_of bytes) (ss, rest) e in
    let x = first.0 in
    let others = step (λ (y : List Sample × List ℕ). Some (x.0 ∷ y.0, y.1)) (samples_of n x.1) (ss, rest) first.2 in
    let y = others.0 in
    let one = text_of-sample_of bytes x.0 x.1 h first.1 in
    let more = text_of-samples_of n x.1 y.0 y.1 one.1.rest_bytes others.1 in
    let both : List Sample × List ℕ = (x.0 ∷ y.0, y.1) in
    let same : both ≡ (ss, rest) = cc in
    subst (λ (z : List Sample × List ℕ). AreSamples (suc n) bytes z.0 z.1) same (record {
      count = ap suc more.count;
      fits = (one.0, more.fits);
      takes = Takes-then bytes (sample_bytes x.0) x.1 (flat_map sample_bytes y.0) y.1 one.1 more.takes;
    })

abbrev stamp_at : List ℕ → List Sample → Stamp
stamp_at bytes ss = record { time = number64 0 bytes; samples = ss }

stamp-front : (bytes : List ℕ) (ss : List Sample) (rest : List ℕ) → AreBytes bytes → 12 ≤ length bytes
    → AreSamples (number32 8 bytes) (drop 12 bytes) ss rest → FitsStamp (stamp_at bytes ss) × Takes bytes (stamp_bytes (stamp_at bytes ss)) rest
stamp-front bytes ss rest h long are =
    let time = to_le_bytes w64 (number64 0 bytes) in
    let numbers = next32 time 8 bytes h (omega (arith, long)) (number64-front 0 bytes h (omega (arith, long))) in
    let counted : (time ++ to_le_bytes w32 (length ss)) ++ drop 12 bytes ≡ bytes =
    subst (λ (k : ℕ). (time ++ to_le_bytes w32 k) ++ drop 12 bytes ≡ bytes) (sym are.count) numbers in
    let whole = next_field bytes (time ++ to_le_bytes w32 (length ss)) (drop 12 bytes) (flat_map sample_bytes ss) rest counted (sym are.takes.whole) in (
      record { time = number64-lt 0 bytes h; count = omega (arith, are.count, number32-lt 8 bytes h); samples = are.fits },
      record { whole = sym whole; rest_bytes = are.takes.rest_bytes },
    )

text_of-stamp_of : (bytes : List ℕ) (s : Stamp) (rest : List ℕ) → AreBytes bytes → stamp_of bytes ≡ Some (s, rest)
    → FitsStamp s × Takes bytes (stamp_bytes s) rest
unfolding stamp_of
text_of-stamp_of bytes s rest h e =
    let f = λ (x : List Sample × List ℕ). Some (stamp_at bytes x.0, x.1) in
    let k = kept_step (ltb (length bytes) 12) (option_and_then f (samples_of (number32 8 bytes) (drop 12 bytes))) (s, rest) e in
    let long : 12 ≤ length bytes = ltb-false (length bytes) 12 k.0 in
    let read = step f (samples_of (number32 8 bytes) (drop 12 bytes)) (s, rest) k.1 in
    let x = read.0 in
    let are = text_of-samples_of (number32 8 bytes) (drop 12 bytes) x.0 x.1 (AreBytes-drop 12 bytes h) read.1 in
    let made : Stamp × List ℕ = (stamp_at bytes x.0, x.1) in
    let same : made ≡ (s, rest) = cc (read.2) in
    subst (λ (z : Stamp × List ℕ). FitsStamp z.0 × Takes bytes (stamp_bytes z.0) z.1) same (stamp-front bytes x.0 x.1 h long are)

record AreStamps (n : ℕ) (bytes : List ℕ) (ss : List Stamp) (rest : List ℕ) : Type 0 where
  count : length ss ≡ n
  fits : AllByRecursion FitsStamp ss
  takes : Takes bytes (flat_map stamp_bytes ss) rest

text_of-stamps_of : (n : ℕ) (bytes : List ℕ) (ss : List Stamp) (rest : List ℕ) → AreBytes bytes
    → stamps_of n bytes ≡ Some (ss, rest) → AreStamps n bytes ss rest
unfolding stamps_of
text_of-stamps_of zero bytes ss rest h e =
    let none : List Stamp × List ℕ = ([], bytes) in
    let same : none ≡ (ss, rest) = cc in
    subst (λ (x : List Stamp × List ℕ). AreStamps 0 bytes x.0 x.1) same (record { count = refl; fits = tt; takes = nothing bytes h })
text_of-stamps_of (suc n) bytes ss rest h e =
    let first = step (λ (x : Stamp × List ℕ). option_and_then (λ (y : List Stamp × List ℕ). Some (x.0 ∷ y.0, y.1)) (stamps_of n x.1))
    (stamp_of bytes) (ss, rest) e in
    let x = first.0 in
    let others = step (λ (y : List Stamp × List ℕ). Some (x.0 ∷ y.0, y.1)) (stamps_of n x.1) (ss, rest) first.2 in
    let y = others.0 in
    let one = text_of-stamp_of bytes x.0 x.1 h first.1 in
    let more = text_of-stamps_of n x.1 y.0 y.1 one.1.rest_bytes others.1 in
    let both : List Stamp × List ℕ = (x.0 ∷ y.0, y.1) in
    let same : both ≡ (ss, rest) = cc in
    subst (λ (z : List Stamp × List ℕ). AreStamps (suc n) bytes z.0 z.1) same (record {
      count = ap suc more.count;
      fits = (one.0, more.fits);
      takes = Takes-then bytes (stamp_bytes x.0) x.1 (flat_map stamp_bytes y.0) y.1 one.1 more.takes;
    })

-- a test that was passed
passed : {X : Type 0} (test : Bool) (o : Option X) (x : X) → cond test o None ≡ Some x → (test ≡ true) × (o ≡ Some x)
passed true o x e = (refl, e)
passed false o x e = absurd cc

one_of : (a b : Bool) → (a || b) ≡ true → (a ≡ true) ⊎ (b ≡ true)
one_of true b e = inl refl
one_of false b e = inr e

stated : (a c : ℕ) → (eqb (a + 4) c || eqb a c) ≡ true → (a + 4 ≡ c) ⊎ (a ≡ c)
stated a c e = elim (one_of (eqb (a + 4) c) (eqb a c) e) [
  | inl t ↦ inl (eqb-true (a + 4) c t)
  | inr t ↦ inr (eqb-true a c t)
]

notification : (p : List ℕ) (stamps : List Stamp) → AreBytes p → 8 ≤ length p → (number32 0 p + 4 ≡ length p) ⊎ (number32 0 p ≡ length p)
    → AreStamps (number32 4 p) (drop 8 p) stamps [] → IsNotificationPayload p stamps
notification p stamps h long lengths are =
    let len = to_le_bytes w32 (number32 0 p) in
    let numbers = next32 len 4 p h (omega (arith, long)) (number32-front 0 p h (omega (arith, long))) in
    let all = flat_map stamp_bytes stamps in
    let counted : (len ++ to_le_bytes w32 (length stamps)) ++ drop 8 p ≡ p =
    subst (λ (k : ℕ). (len ++ to_le_bytes w32 k) ++ drop 8 p ≡ p) (sym are.count) numbers in
    let data_is : drop 8 p ≡ all = are.takes.whole ∙ append-nil all in
    let whole : p ≡ len ++ stamps_bytes stamps = sym (subst (λ (l : List ℕ). (len ++ to_le_bytes w32 (length stamps)) ++ l ≡ p) data_is counted) in
    let size : length p ≡ 8 + length all = omega (arith, long, length-drop 8 p, ap length data_is) in
    record {
      count = omega (arith, are.count, number32-lt 4 p h);
      fits = are.fits;
      stated = number32 0 p;
      stated_fits = number32-lt 0 p h;
      stated_length = elim lengths [ inl e ↦ inl (omega (arith, e, size)) | inr e ↦ inr (omega (arith, e, size)) ];
      whole = whole;
    }

-- what is read is a notification, and its text is the payload
pub text_of-notification_of : (payload : List ℕ) (stamps : List Stamp) → AreBytes payload → notification_of payload ≡ Some stamps
    → IsNotificationPayload payload stamps
unfolding notification_of
text_of-notification_of p stamps h e =
    let f = λ (x : List Stamp × List ℕ). cond (eqb (length x.1) 0) (Some x.0) None in
    let o = option_and_then f (stamps_of (number32 4 p) (drop 8 p)) in
    let k = kept_step (ltb (length p) 8) (cond (length_test p) o None) stamps e in
    let t = passed (length_test p) o stamps k.1 in
    let read = step f (stamps_of (number32 4 p) (drop 8 p)) stamps t.1 in
    let x = read.0 in
    let last = passed (eqb (length x.1) 0) (Some x.0) stamps read.2 in
    let are = text_of-stamps_of (number32 4 p) (drop 8 p) x.0 x.1 (AreBytes-drop 8 p h) read.1 in
    let none : x.1 ≡ [] = empty x.1 (eqb-true (length x.1) 0 last.0) in
    let same : x.0 ≡ stamps = cc (last.1) in
    notification p stamps h (ltb-false (length p) 8 k.0) (stated (number32 0 p) (length p) t.0)
    (subst (λ (ss : List Stamp). AreStamps (number32 4 p) (drop 8 p) ss []) same
    (subst (λ (r : List ℕ). AreStamps (number32 4 p) (drop 8 p) x.0 r) none are))
