-- A notification that is written in parts.
use Rattle.std.proofs.Common.{◌≡◌, ℕ, ◌+◌, List, [], ◌∷◌, ◌++◌, length, sym, ap, subst, ◌∙◌, arith}
use Rattle.std.specs.List.{flat_map}
use Rattle.std.specs.Int.{w32, w64, to_le_bytes}
use Rattle.std.proofs.lemmas.List.{append-nil, length-map}
use Rattle.spec_formats.specs.Notification.{sample_bytes, stamps_bytes, notification_bytes}
use Rattle.spec_formats.proofs.Appends.{two_parts}
use Rattle.notify_frames.specs.declared.samples.OwnSample.{OwnSample}
use Rattle.notify_frames.specs.Samples.{sample_of, samples_of, stamp_of}

-- the five parts of a notification of one stamp
pub note_parts : (time : ℕ) (samples : List OwnSample) (len : ℕ) (old room a b c d e : List ℕ) → room ≡ old
    → a ≡ room ++ to_le_bytes w32 len → b ≡ a ++ to_le_bytes w32 1 → c ≡ b ++ to_le_bytes w64 time
    → d ≡ c ++ to_le_bytes w32 (length samples) → e ≡ d ++ flat_map sample_bytes (samples_of samples)
    → len ≡ 16 + length (flat_map sample_bytes (samples_of samples))
    → e ≡ old ++ notification_bytes (stamp_of time samples ∷ [])
note_parts time samples len old room a b c d e is ea eb ec ed ee size =
    let all = flat_map sample_bytes (samples_of samples) in
    let count : length samples ≡ length (samples_of samples) = sym (length-map samples sample_of) in
    let head = to_le_bytes w32 len ++ to_le_bytes w32 1 ++ to_le_bytes w64 time in
    let two = two_parts old (to_le_bytes w32 len) (to_le_bytes w32 1) a b (ea ∙ ap (λ (l : List ℕ). l ++ to_le_bytes w32 len) is) eb in
    let three = two_parts old (to_le_bytes w32 len ++ to_le_bytes w32 1) (to_le_bytes w64 time) b c two ec in
    let four = two_parts old head (to_le_bytes w32 (length (samples_of samples))) c d three
    (ed ∙ ap (λ (n : ℕ). c ++ to_le_bytes w32 n) count) in
    let five = two_parts old (head ++ to_le_bytes w32 (length (samples_of samples))) all d e four ee in
    let ended : e ≡ old ++ ((head ++ to_le_bytes w32 (length (samples_of samples))) ++ (all ++ [])) =
    subst (λ (l : List ℕ). e ≡ old ++ ((head ++ to_le_bytes w32 (length (samples_of samples))) ++ l)) (sym (append-nil all)) five in
    let len_is : len ≡ length (stamps_bytes (stamp_of time samples ∷ [])) = omega (arith, size, ap length (append-nil all)) in
    subst (λ (n : ℕ). e ≡ old ++ (to_le_bytes w32 n ++ stamps_bytes (stamp_of time samples ∷ []))) len_is ended
