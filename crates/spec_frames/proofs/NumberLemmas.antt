-- Numbers against Rust's `from_le_bytes` and `to_le_bytes`.
use Rattle.std.proofs.Common.{◌≡◌, ℕ, List, [], ◌∷◌, length, refl, ◌∙◌, arith}
use Rattle.std.specs.Int.{w16, w32, w64, to_le_bytes, from_le_bytes}
use Rattle.std.proofs.lemmas.Nat.{le_bytes_2, le_bytes_4, le_bytes_8}
use Rattle.std.proofs.lemmas.Nat.{from_le_bytes-to_le_bytes_2, from_le_bytes-to_le_bytes_4, from_le_bytes-to_le_bytes_8}
use Rattle.spec_frames.specs.Number.{number_of, AreBytes}
use Rattle.spec_frames.specs.Laws.{ReadsNumbers, WritesNumbers, WritesBack}

two : (bs : List ℕ) → length bs ≡ 2 → number_of bs ≡ from_le_bytes w16 bs
two [] e = absurd (omega arith)
two (a ∷ []) e = absurd (omega arith)
two (a ∷ b ∷ []) e = omega arith
two (a ∷ b ∷ c ∷ bs) e = absurd (omega arith)

four : (bs : List ℕ) → length bs ≡ 4 → number_of bs ≡ from_le_bytes w32 bs
four [] e = absurd (omega arith)
four (a ∷ []) e = absurd (omega arith)
four (a ∷ b ∷ []) e = absurd (omega arith)
four (a ∷ b ∷ c ∷ []) e = absurd (omega arith)
four (a ∷ b ∷ c ∷ d ∷ []) e = omega arith
four (a ∷ b ∷ c ∷ d ∷ x ∷ bs) e = absurd (omega arith)

eight : (bs : List ℕ) → length bs ≡ 8 → number_of bs ≡ from_le_bytes w64 bs
eight [] e = absurd (omega arith)
eight (a ∷ []) e = absurd (omega arith)
eight (a ∷ b ∷ []) e = absurd (omega arith)
eight (a ∷ b ∷ c ∷ []) e = absurd (omega arith)
eight (a ∷ b ∷ c ∷ d ∷ []) e = absurd (omega arith)
eight (a ∷ b ∷ c ∷ d ∷ p ∷ []) e = absurd (omega arith)
eight (a ∷ b ∷ c ∷ d ∷ p ∷ q ∷ []) e = absurd (omega arith)
eight (a ∷ b ∷ c ∷ d ∷ p ∷ q ∷ r ∷ []) e = absurd (omega arith)
eight (a ∷ b ∷ c ∷ d ∷ p ∷ q ∷ r ∷ s ∷ []) e = omega arith
eight (a ∷ b ∷ c ∷ d ∷ p ∷ q ∷ r ∷ s ∷ x ∷ bs) e = absurd (omega arith)

pub reads_numbers : (bytes : List ℕ) → ReadsNumbers bytes
reads_numbers bytes = record { two = two bytes; four = four bytes; eight = eight bytes }

pub writes_numbers : (n : ℕ) → WritesNumbers n
writes_numbers n = record {
  two = λ small. two (to_le_bytes w16 n) refl ∙ from_le_bytes-to_le_bytes_2 n small;
  four = λ small. four (to_le_bytes w32 n) refl ∙ from_le_bytes-to_le_bytes_4 n small;
  eight = λ small. eight (to_le_bytes w64 n) refl ∙ from_le_bytes-to_le_bytes_8 n small;
}

pub writes_back : (bytes : List ℕ) → AreBytes bytes → WritesBack bytes
writes_back bytes each = record {
  two = λ e. le_bytes_2 bytes (number_of bytes) e each (two bytes e);
  four = λ e. le_bytes_4 bytes (number_of bytes) e each (four bytes e);
  eight = λ e. le_bytes_8 bytes (number_of bytes) e each (eight bytes e);
}
