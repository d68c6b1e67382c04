-- What stands behind a part that was read: each of its values was.
use Rattle.std.proofs.Common.{◌≡◌, ap, Option, Some, None}
use Rattle.spec_rules.specs.Fields.{◌>>=◌}

pub three_read : {A B C : Type 0} (a : Option A) (b : Option B) (c : Option C) (v : A) (w : B) (x : C)
    → ◌≡◌ {A = Option (A × B × C)} (Some (v, w, x)) (a >>= λ q. b >>= λ r. c >>= λ s. Some (q, r, s)) → (a ≡ Some v) × (b ≡ Some w) × (c ≡ Some x)
three_read None b c v w x h = cc
three_read (Some q) None c v w x h = cc
three_read (Some q) (Some r) None v w x h = cc
three_read {A} {B} {C} (Some q) (Some r) (Some s) v w x h =
    let same : ◌≡◌ {A = A × B × C} (q, r, s) (v, w, x) = cc in
    (ap (λ p. Some p.0) same, ap (λ p. Some p.1) same, ap (λ p. Some p.2) same)

pub four_read : {A B C D : Type 0} (a : Option A) (b : Option B) (c : Option C) (d : Option D) (v : A) (w : B) (x : C) (y : D)
    → ◌≡◌ {A = Option (A × B × C × D)} (Some (v, w, x, y)) (a >>= λ q. b >>= λ r. c >>= λ s. d >>= λ t. Some (q, r, s, t))
    → (a ≡ Some v) × (b ≡ Some w) × (c ≡ Some x) × (d ≡ Some y)
four_read None b c d v w x y h = cc
four_read (Some q) None c d v w x y h = cc
four_read (Some q) (Some r) None d v w x y h = cc
four_read (Some q) (Some r) (Some s) None v w x y h = cc
four_read {A} {B} {C} {D} (Some q) (Some r) (Some s) (Some t) v w x y h =
    let same : ◌≡◌ {A = A × B × C × D} (q, r, s, t) (v, w, x, y) = cc in
    (ap (λ p. Some p.0) same, ap (λ p. Some p.1) same, ap (λ p. Some p.2) same, ap (λ p. Some p.3) same)

pub five_read : {A B C D E : Type 0} (a : Option A) (b : Option B) (c : Option C) (d : Option D) (e : Option E) (v : A) (w : B) (x : C) (y : D) (z : E)
    → ◌≡◌ {A = Option (A × B × C × D × E)} (Some (v, w, x, y, z)) (a >>= λ q. b >>= λ r. c >>= λ s. d >>= λ t. e >>= λ u. Some (q, r, s, t, u))
    → (a ≡ Some v) × (b ≡ Some w) × (c ≡ Some x) × (d ≡ Some y) × (e ≡ Some z)
five_read None b c d e v w x y z h = cc
five_read (Some q) None c d e v w x y z h = cc
five_read (Some q) (Some r) None d e v w x y z h = cc
five_read (Some q) (Some r) (Some s) None e v w x y z h = cc
five_read (Some q) (Some r) (Some s) (Some t) None v w x y z h = cc
five_read {A} {B} {C} {D} {E} (Some q) (Some r) (Some s) (Some t) (Some u) v w x y z h =
    let same : ◌≡◌ {A = A × B × C × D × E} (q, r, s, t, u) (v, w, x, y, z) = cc in
    (ap (λ p. Some p.0) same, ap (λ p. Some p.1) same, ap (λ p. Some p.2) same, ap (λ p. Some p.3) same, ap (λ p. Some p.4) same)
