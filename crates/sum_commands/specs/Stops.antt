-- What parts that run one after another leave where memory is wanting: the parts that ran stay done.
use Rattle.std.specs.Prelude.{◌≡◌, ◌≤◌, ◌⊎◌, ℕ, List, ◌∷◌, length, take}
use Rattle.spec_formats.specs.Request.{Request}

-- no further part is run; or the first wants memory, and leaves what a service may leave then; or it is done, and the
-- others stop somewhere
pub data StopsAmong {V S : Type 0} (stands_for : V → S → Type 0) (leaves : S → Request → S) (may_leave : S → Request → V → Type 0)
    : List Request → S → V → Type 0 where
  Stops : {rs : List Request} {s : S} {v : V} → stands_for v s → StopsAmong stands_for leaves may_leave rs s v
  Wants : {r : Request} {rs : List Request} {s : S} {v : V} → may_leave s r v
      → StopsAmong stands_for leaves may_leave (r ∷ rs) s v
  Done : {r : Request} {rs : List Request} {s : S} {v : V} → StopsAmong stands_for leaves may_leave rs (leaves s r) v
      → StopsAmong stands_for leaves may_leave (r ∷ rs) s v

-- a part is done, or wanted memory
abbrev pub MayStop : {V S : Type 0} → (V → S → Type 0) → (S → Request → S) → (S → Request → V → Type 0) → Request → S → V
    → Type 0
MayStop stands_for leaves may_leave r s v = stands_for v (leaves s r) ⊎ may_leave s r v

-- the first n bytes stay
pub record KeepsFront (n : ℕ) (old new : List ℕ) : Type 0 where
  pub long : n ≤ length new
  pub same : take n new ≡ take n old
