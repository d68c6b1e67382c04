-- What is left of a notification, sample by sample and stamp by stamp.
use Rattle.std.proofs.Common.{◌≡◌, ℕ, zero, suc, ◌≤◌, ◌<◌, List, [], ◌∷◌, ◌++◌, length, drop, Option, Some, None, refl, sym, subst, arith}
use Rattle.std.specs.Prelude.{option_map}
use Rattle.std.specs.Option.{option_and_then}
use Rattle.std.proofs.lemmas.Bool.{le-ltb, lt-ltb}
use Rattle.spec_formats.specs.Numbers.{number32, number64}
use Rattle.spec_formats.specs.Notification.{Sample, Stamp}
use Rattle.spec_formats.specs.NotificationReading.{sample_of, samples_of, stamp_of, stamps_of}
use Rattle.notify_frames.specs.Notes.{timed, samples_in, left_in}
use Rattle.notify_frames.proofs.Rests.{made}

pub left_in-none : (time : ℕ) (bytes : List ℕ) → left_in time 0 0 bytes ≡ Some []
unfolding left_in samples_of stamps_of
left_in-none time bytes = refl

-- ---- a sample

-- the samples that were read, and then those of so many stamps
abbrev with_stamps : ℕ → ℕ → List Sample × List ℕ → Option (List (ℕ × Sample))
with_stamps time k x = option_map (λ (y : List Stamp × List ℕ). timed time x.0 ++ samples_in y.0) (stamps_of k x.1)

after_sample : (time : ℕ) (s : Sample) (k : ℕ) (o : Option (List Sample × List ℕ))
    → option_and_then (with_stamps time k) (option_and_then (λ (others : List Sample × List ℕ). Some (s ∷ others.0, others.1)) o)
    ≡ option_map (λ (rest : List (ℕ × Sample)). (time, s) ∷ rest) (option_and_then (with_stamps time k) o)
after_sample time s k None = refl
after_sample time s k (Some x) = elim (stamps_of k x.1) as (λ o. option_map (λ (y : List Stamp × List ℕ). timed time (s ∷ x.0) ++ samples_in y.0) o
    ≡ option_map (λ (rest : List (ℕ × Sample)). (time, s) ∷ rest) (option_map (λ (y : List Stamp × List ℕ). timed time x.0 ++ samples_in y.0) o)) [
      | None ↦ refl
      | Some y ↦ refl
    ]

pub left_in-sample : (time n k : ℕ) (bytes : List ℕ) (s : Sample) (rest : List ℕ) → sample_of bytes ≡ Some (s, rest)
    → left_in time (suc n) k bytes ≡ option_map (λ (l : List (ℕ × Sample)). (time, s) ∷ l) (left_in time n k rest)
unfolding left_in samples_of
left_in-sample time n k bytes s rest e = rw e (after_sample time s k (samples_of n rest))

pub left_in-no_sample : (time n k : ℕ) (bytes : List ℕ) → sample_of bytes ≡ None → left_in time (suc n) k bytes ≡ None
unfolding left_in samples_of
left_in-no_sample time n k bytes e = rw e refl

-- ---- a stamp

after_stamp : (time : ℕ) (k : ℕ) (o : Option (List Sample × List ℕ))
    → option_map (λ (y : List Stamp × List ℕ). samples_in y.0)
    (option_and_then (λ (first : Stamp × List ℕ). option_and_then (λ (others : List Stamp × List ℕ). Some (first.0 ∷ others.0, others.1)) (stamps_of k first.1))
    (option_and_then (λ (ss : List Sample × List ℕ). Some (made time ss.0, ss.1)) o))
    ≡ option_and_then (with_stamps time k) o
after_stamp time k None = refl
after_stamp time k (Some x) = elim (stamps_of k x.1) as (λ o.
    option_map (λ (y : List Stamp × List ℕ). samples_in y.0)
    (option_and_then (λ (others : List Stamp × List ℕ). Some (made time x.0 ∷ others.0, others.1)) o)
    ≡ option_map (λ (y : List Stamp × List ℕ). timed time x.0 ++ samples_in y.0) o) [
      | None ↦ refl
      | Some y ↦ refl
    ]

pub left_in-stamp : (time k : ℕ) (bytes : List ℕ) → 12 ≤ length bytes
    → left_in (number64 0 bytes) (number32 8 bytes) k (drop 12 bytes) ≡ left_in time 0 (suc k) bytes
unfolding left_in stamps_of stamp_of samples_of
left_in-stamp time k bytes long =
    rw (le-ltb (length bytes) 12 long) (sym (after_stamp (number64 0 bytes) k (samples_of (number32 8 bytes) (drop 12 bytes))))

pub left_in-no_stamp : (time k : ℕ) (bytes : List ℕ) → length bytes < 12 → left_in time 0 (suc k) bytes ≡ None
unfolding left_in stamps_of stamp_of samples_of
left_in-no_stamp time k bytes short = rw (lt-ltb (length bytes) 12 short) refl

-- ---- the same, as a step of the reading has them

pub left_in-short : (time n k : ℕ) (bytes : List ℕ) → n ≡ 0 → 0 < k → length bytes < 12 → left_in time n k bytes ≡ None
left_in-short time zero (suc k) bytes none some short = left_in-no_stamp time k bytes short
left_in-short time zero zero bytes none some short = absurd (omega arith)
left_in-short time (suc n) k bytes none some short = absurd (omega arith)

pub left_in-next : (time n k t m j : ℕ) (bytes rest : List ℕ) → n ≡ 0 → k ≡ suc j → 12 ≤ length bytes → t ≡ number64 0 bytes
    → m ≡ number32 8 bytes → rest ≡ drop 12 bytes → left_in t m j rest ≡ left_in time n k bytes
left_in-next time n k t m j bytes rest none some long et em er =
    subst (λ (x : ℕ). left_in t m j rest ≡ left_in time x k bytes) (sym none)
    (subst (λ (x : ℕ). left_in t m j rest ≡ left_in time 0 x bytes) (sym some)
    (subst (λ (x : ℕ). left_in x m j rest ≡ left_in time 0 (suc j) bytes) (sym et)
    (subst (λ (x : ℕ). left_in (number64 0 bytes) x j rest ≡ left_in time 0 (suc j) bytes) (sym em)
    (subst (λ (x : List ℕ). left_in (number64 0 bytes) (number32 8 bytes) j x ≡ left_in time 0 (suc j) bytes) (sym er)
    (left_in-stamp time j bytes long)))))

pub left_in-first : (time n k j : ℕ) (bytes : List ℕ) (s : Sample) (rest : List ℕ) → n ≡ suc j → sample_of bytes ≡ Some (s, rest)
    → left_in time n k bytes ≡ option_map (λ (l : List (ℕ × Sample)). (time, s) ∷ l) (left_in time j k rest)
left_in-first time n k j bytes s rest some e =
    subst (λ (x : ℕ). left_in time x k bytes ≡ option_map (λ (l : List (ℕ × Sample)). (time, s) ∷ l) (left_in time j k rest)) (sym some)
    (left_in-sample time j k bytes s rest e)

pub left_in-no_first : (time n k : ℕ) (bytes : List ℕ) → 0 < n → sample_of bytes ≡ None → left_in time n k bytes ≡ None
left_in-no_first time zero k bytes some e = absurd (omega arith)
left_in-no_first time (suc n) k bytes some e = left_in-no_sample time n k bytes e

pub left_in-last : (time n k : ℕ) (bytes : List ℕ) → n ≡ 0 → k ≡ 0 → left_in time n k bytes ≡ Some []
left_in-last time n k bytes none last =
    subst (λ (x : ℕ). left_in time x k bytes ≡ Some []) (sym none) (subst (λ (x : ℕ). left_in time 0 x bytes ≡ Some []) (sym last) (left_in-none time bytes))
