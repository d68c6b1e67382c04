-- What stands behind samples and stamps.
use Rattle.std.proofs.Common.{◌≡◌, ℕ, zero, suc, ◌≤◌, ◌<◌, List, ◌∷◌, length, drop, Option, Some, None, refl, sym, ap, subst, ◌∙◌, arith}
use Rattle.std.specs.Prelude.{option_map}
use Rattle.std.specs.Option.{option_and_then}
use Rattle.std.proofs.lemmas.Bool.{le-ltb, lt-ltb}
use Rattle.spec_formats.specs.Numbers.{number32, number64}
use Rattle.spec_formats.specs.Notification.{Sample, Stamp}
use Rattle.spec_formats.specs.NotificationReading.{sample_of, samples_of, stamp_of, stamps_of}

abbrev rest_of : {X : Type 0} → Option (X × List ℕ) → Option (List ℕ)
rest_of {X} o = option_map (λ (x : X × List ℕ). x.1) o

-- ---- samples

pairs : (s : Sample) (o : Option (List Sample × List ℕ))
    → rest_of (option_and_then (λ (others : List Sample × List ℕ). Some (s ∷ others.0, others.1)) o) ≡ rest_of o
pairs s None = refl
pairs s (Some x) = refl

samples_of-step : (n : ℕ) (bytes : List ℕ) (s : Sample) (after : List ℕ) → sample_of bytes ≡ Some (s, after)
    → rest_of (samples_of (suc n) bytes) ≡ rest_of (samples_of n after)
unfolding samples_of
samples_of-step n bytes s after e = rw e (pairs s (samples_of n after))

samples_of-stops : (n : ℕ) (bytes : List ℕ) → sample_of bytes ≡ None → rest_of (samples_of (suc n) bytes) ≡ None
unfolding samples_of
samples_of-stops n bytes e = rw e refl

pub samples_go_on : (k j : ℕ) (bytes : List ℕ) (s : Sample) (after : List ℕ) (total : Option (List ℕ)) → k ≡ suc j
    → sample_of bytes ≡ Some (s, after) → rest_of (samples_of k bytes) ≡ total → rest_of (samples_of j after) ≡ total
samples_go_on k j bytes s after total some e t =
    sym (samples_of-step j bytes s after e) ∙ (ap (λ (n : ℕ). rest_of (samples_of n bytes)) (sym some) ∙ t)

pub samples_stop : (k : ℕ) (bytes : List ℕ) (total : Option (List ℕ)) → 0 < k → sample_of bytes ≡ None
    → rest_of (samples_of k bytes) ≡ total → None ≡ total
samples_stop zero bytes total some e t = absurd (omega arith)
samples_stop (suc n) bytes total some e t = sym (samples_of-stops n bytes e) ∙ t

pub samples_end : (k : ℕ) (bytes : List ℕ) (total : Option (List ℕ)) → k ≡ 0 → rest_of (samples_of k bytes) ≡ total → Some bytes ≡ total
unfolding samples_of
samples_end k bytes total none t = subst (λ (n : ℕ). rest_of (samples_of n bytes) ≡ total) none t

-- ---- a stamp

abbrev pub made : ℕ → List Sample → Stamp
made t ss = record { time = t; samples = ss }

stamped : (time : ℕ) (o : Option (List Sample × List ℕ))
    → rest_of o ≡ rest_of (option_and_then (λ (ss : List Sample × List ℕ). Some (made time ss.0, ss.1)) o)
stamped time None = refl
stamped time (Some x) = refl

pub stamp_of-long : (bytes : List ℕ) (count : ℕ) (rest : List ℕ) → 12 ≤ length bytes → count ≡ number32 8 bytes → rest ≡ drop 12 bytes
    → rest_of (samples_of count rest) ≡ rest_of (stamp_of bytes)
unfolding stamp_of
stamp_of-long bytes count rest long ec er =
    rw (le-ltb (length bytes) 12 long, ec, er) (stamped (number64 0 bytes) (samples_of (number32 8 bytes) (drop 12 bytes)))

pub stamp_of-short : (bytes : List ℕ) → length bytes < 12 → None ≡ rest_of (stamp_of bytes)
unfolding stamp_of
stamp_of-short bytes short = rw (lt-ltb (length bytes) 12 short) refl

-- ---- stamps

abbrev with_more : ℕ → Stamp × List ℕ → Option (List Stamp × List ℕ)
with_more n first = option_and_then (λ (others : List Stamp × List ℕ). Some (first.0 ∷ others.0, others.1)) (stamps_of n first.1)

stamp_pairs : (s : Stamp) (o : Option (List Stamp × List ℕ))
    → rest_of (option_and_then (λ (others : List Stamp × List ℕ). Some (s ∷ others.0, others.1)) o) ≡ rest_of o
stamp_pairs s None = refl
stamp_pairs s (Some x) = refl

step_of : (n : ℕ) (o : Option (Stamp × List ℕ)) (after : List ℕ) → Some after ≡ rest_of o
    → rest_of (option_and_then (with_more n) o) ≡ rest_of (stamps_of n after)
step_of n None after e = absurd cc
step_of n (Some x) after e =
    let same : after ≡ x.1 = cc in
    stamp_pairs x.0 (stamps_of n x.1) ∙ ap (λ (l : List ℕ). rest_of (stamps_of n l)) (sym same)

stop_of : (n : ℕ) (o : Option (Stamp × List ℕ)) → None ≡ rest_of o → rest_of (option_and_then (with_more n) o) ≡ None
stop_of n None e = refl
stop_of n (Some x) e = absurd cc

stamps_of-step : (n : ℕ) (bytes after : List ℕ) → Some after ≡ rest_of (stamp_of bytes)
    → rest_of (stamps_of (suc n) bytes) ≡ rest_of (stamps_of n after)
unfolding stamps_of
stamps_of-step n bytes after e = step_of n (stamp_of bytes) after e

stamps_of-stops : (n : ℕ) (bytes : List ℕ) → None ≡ rest_of (stamp_of bytes) → rest_of (stamps_of (suc n) bytes) ≡ None
unfolding stamps_of
stamps_of-stops n bytes e = stop_of n (stamp_of bytes) e

pub stamps_go_on : (k j : ℕ) (bytes after : List ℕ) (total : Option (List ℕ)) → k ≡ suc j
    → Some after ≡ rest_of (stamp_of bytes) → rest_of (stamps_of k bytes) ≡ total → rest_of (stamps_of j after) ≡ total
stamps_go_on k j bytes after total some e t =
    sym (stamps_of-step j bytes after e) ∙ (ap (λ (n : ℕ). rest_of (stamps_of n bytes)) (sym some) ∙ t)

pub stamps_stop : (k : ℕ) (bytes : List ℕ) (total : Option (List ℕ)) → 0 < k → None ≡ rest_of (stamp_of bytes)
    → rest_of (stamps_of k bytes) ≡ total → None ≡ total
stamps_stop zero bytes total some e t = absurd (omega arith)
stamps_stop (suc n) bytes total some e t = sym (stamps_of-stops n bytes e) ∙ t

pub stamps_end : (k : ℕ) (bytes : List ℕ) (total : Option (List ℕ)) → k ≡ 0 → rest_of (stamps_of k bytes) ≡ total → Some bytes ≡ total
unfolding stamps_of
stamps_end k bytes total none t = subst (λ (n : ℕ). rest_of (stamps_of n bytes) ≡ total) none t
