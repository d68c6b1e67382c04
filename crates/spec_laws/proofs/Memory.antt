-- Two memories that agree on some names.
use Rattle.std.proofs.Common.{◌≡◌, List, sym, ◌∙◌, ap, inl, inr, subst, ℕ}
use Rattle.std.specs.Prelude.{option_map}
use Rattle.spec_plant.specs.World.{ByteName, Block, byte_at, with_byte}
pub use Rattle.spec_plant.proofs.BlockLemmas.{same_bytes, same_part-true, same_part-refl, IsBlock, is_block-true, byte_at-same, byte_at-other, cases_name}

-- the names of R have the same bytes
pub record Agree (R : ByteName → Type 0) (m w : List Block) : Type 0 where
  pub same : (n : ByteName) → R n → byte_at m n ≡ byte_at w n

pub agree-back : (R : ByteName → Type 0) (m w : List Block) → Agree R m w → Agree R w m
agree-back R m w g = record { same = λ n r. sym (g.same n r) }

-- the same change in both
pub with_byte-agree : (R : ByteName → Type 0) (m w : List Block) (n : ByteName) (f : ℕ → ℕ) → Agree R m w → Agree R (with_byte m n f) (with_byte w n f)
with_byte-agree R m w n f a = record {
  same = λ x r. elim (cases_name n x) [
    | inl e ↦
        let P : ByteName → Type 0 = λ y. byte_at (with_byte m n f) y ≡ byte_at (with_byte w n f) y in
        subst P e (byte_at-same m n f ∙ ap (option_map f) (a.same n (subst R (sym e) r)) ∙ sym (byte_at-same w n f))
    | inr ne ↦ byte_at-other m n x f ne ∙ a.same x r ∙ sym (byte_at-other w n x f ne)
  ];
}

-- a change outside of R
pub with_byte-outside : (R : ByteName → Type 0) (m w : List Block) (n : ByteName) (f : ℕ → ℕ) → (R n → ⊥) → Agree R m w → Agree R (with_byte m n f) w
with_byte-outside R m w n f out a = record {
  same = λ x r. byte_at-other m n x f (λ e. out (subst R (sym e) r)) ∙ a.same x r;
}
