-- Numbers that are the same, and numbers that are not.
use Rattle.std.proofs.Common.{◌≡◌, true, false, refl, sym, ◌∙◌, ap, subst}
use Rattle.std.specs.Prelude.{ℤ, pos, negsuc}
use Rattle.std.proofs.lemmas.Bool.{eq-eqb, ne_eqb, eqb-true}
use Rattle.spec_plant.specs.AcceptedTypes.{is_same_number}

itself : (z : ℤ) → is_same_number z z ≡ true
itself (pos n) = eq-eqb n n refl
itself (negsuc n) = eq-eqb n n refl

pub same_number : (y z : ℤ) → y ≡ z → is_same_number y z ≡ true
same_number y z e = ap (is_same_number y) (sym e) ∙ itself y

pub other_number : (y z : ℤ) → (y ≡ z → ⊥) → is_same_number y z ≡ false
other_number (pos m) (pos n) h = ne_eqb m n (λ e. h (ap pos e))
other_number (negsuc m) (negsuc n) h = ne_eqb m n (λ e. h (ap negsuc e))
other_number (pos m) (negsuc n) h = refl
other_number (negsuc m) (pos n) h = refl

pub number_is : (y z : ℤ) → is_same_number y z ≡ true → y ≡ z
number_is (pos m) (pos n) e = ap pos (eqb-true m n e)
number_is (negsuc m) (negsuc n) e = ap negsuc (eqb-true m n e)
number_is (pos m) (negsuc n) e = cc
number_is (negsuc m) (pos n) e = cc
