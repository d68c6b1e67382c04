-- Bytes compared as one number.
use Rattle.std.proofs.Common.{◌≡◌, ℕ, List, refl, sym, ap, ◌∙◌, nat_eq, bytes_eq, inl, inr}
use Rattle.std.specs.Int.{Width, from_le_bytes, to_le_bytes}
use Rattle.std.proofs.lemmas.Bool.{cases_Bool, eq-eqb, ne_eqb, false≢true}
use Rattle.std.proofs.lemmas.Slice.Eq.{bytes_eq-Decides}

-- two numbers that stand for their bytes are the same where the bytes are
pub same_numbers : (w : Width) (a b : List ℕ) (n m : ℕ) → n ≡ from_le_bytes w a → m ≡ from_le_bytes w b
    → to_le_bytes w n ≡ a → to_le_bytes w m ≡ b → nat_eq n m ≡ bytes_eq a b
same_numbers w a b n m is_n is_m back_n back_m =
    elim (cases_Bool (bytes_eq a b)) [
      | inl same ↦
          let d = bytes_eq-Decides a b in
          rw (same, eq-eqb n m (is_n ∙ (ap (from_le_bytes w) (d.0 same) ∙ sym is_m))) refl
      | inr other ↦
          let d = bytes_eq-Decides a b in
          rw (other, ne_eqb n m (λ e. false≢true (sym other ∙ d.1 (sym back_n ∙ (ap (to_le_bytes w) e ∙ back_m))))) refl
    ]
