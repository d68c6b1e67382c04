-- Numbers that count up were not given before.
use Rattle.std.proofs.Common.{◌≡◌, ℕ, ◌+◌, ◌<◌, suc, zero, [], ◌∷◌, ◌++◌, false, refl, ap, add-one, arith}
use Rattle.std.specs.Prelude.{not, IsTrue}
use Rattle.std.proofs.lemmas.Grind.{common_steps}
use Rattle.ads_outside.specs.Opened.{is_opened}
use Rattle.ads_edge.specs.Sockets.{numbers_to}

pub never_opened : (n c : ℕ) → n < c → is_opened c (numbers_to n) ≡ false
never_opened zero c h = refl
never_opened (suc n) c h = grind (arith, common_steps, h, never_opened n c (omega (arith, h)))

pub next_is_new : (n : ℕ) → IsTrue (not (is_opened (n + 1) (numbers_to n)))
next_is_new n = ap not (never_opened n (n + 1) (omega arith))

pub next_number : (n : ℕ) → numbers_to (n + 1) ≡ numbers_to n ++ (n + 1) ∷ []
next_number n = rw add-one refl
