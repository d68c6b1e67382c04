-- Bodies that are looked at one tick after another: which are, and how many more are let pass.
use Rattle.std.proofs.Common.{◌≡◌, ℕ, zero, suc, ◌-◌, ◌<◌, List, [], ◌∷◌, ◌++◌, refl, ap, arith}
use Rattle.keep_loop.specs.Bodies.{paced}
use Rattle.keep_loop.specs.Keeping.{left_behind}

pub paced-append : (every left : ℕ) (bodies more : List (List ℕ))
    → paced every left (bodies ++ more) ≡ paced every left bodies ++ paced every (left_behind every left bodies) more
unfolding paced left_behind
paced-append every left [] more = refl
paced-append every zero (body ∷ bodies) more = ap (λ l. body ∷ l) (paced-append every (every - 1) bodies more)
paced-append every (suc left) (body ∷ bodies) more = paced-append every left bodies more

pub left-append : (every left : ℕ) (bodies more : List (List ℕ))
    → left_behind every left (bodies ++ more) ≡ left_behind every (left_behind every left bodies) more
unfolding left_behind
left-append every left [] more = refl
left-append every zero (body ∷ bodies) more = left-append every (every - 1) bodies more
left-append every (suc left) (body ∷ bodies) more = left-append every left bodies more

pub left-none : (every left : ℕ) → left ≡ left_behind every left []
unfolding left_behind
left-none every left = refl

-- a tick that is let pass
pub paced-passed : (every left : ℕ) (body : List ℕ) → 0 < left → paced every left (body ∷ []) ≡ []
unfolding paced
paced-passed every zero body pass = absurd (omega (arith, pass))
paced-passed every (suc left) body pass = refl

pub left-passed : (every left : ℕ) (body : List ℕ) → 0 < left → left - 1 ≡ left_behind every left (body ∷ [])
unfolding left_behind
left-passed every zero body pass = absurd (omega (arith, pass))
left-passed every (suc left) body pass = omega arith

-- one whose body is looked at
pub paced-due : (every left : ℕ) (body : List ℕ) → left ≡ 0 → paced every left (body ∷ []) ≡ body ∷ []
unfolding paced
paced-due every zero body due = refl
paced-due every (suc left) body due = absurd (omega (arith, due))

pub left-due : (every left : ℕ) (body : List ℕ) → left ≡ 0 → every - 1 ≡ left_behind every left (body ∷ [])
unfolding left_behind
left-due every zero body due = refl
left-due every (suc left) body due = absurd (omega (arith, due))
