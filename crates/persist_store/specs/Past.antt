-- What writes may have left of a file in memory: each of them may have been cut short by a stop before the next sync.
use Rattle.std.specs.Prelude.{◌≡◌, ◌⊎◌, ◌≤◌, ◌<◌, ℕ, List, [], ◌∷◌, filter, ◌==◌}
use Rattle.spec_store.specs.Disk.{Torn}
use Rattle.persist_store.specs.declared.past_write.PastWrite.{PastWrite}

-- a write of what might have been left before, or of what a read gave before it
abbrev pub LeftByWrite : (List ℕ → Type 0) → PastWrite → List ℕ → Type 0
LeftByWrite before w c = (d : List ℕ) × (before d ⊎ (d ≡ w.before)) × Torn w.place w.size d c

-- writes one after another
abbrev pub LeftBy : (List ℕ → Type 0) → List PastWrite → List ℕ → Type 0
LeftBy before [] = before
LeftBy before (w ∷ ws) = LeftBy (LeftByWrite before w) ws

-- what a stop in or behind these writes may leave, before the next sync
abbrev pub LeftIn : List PastWrite → List ℕ → Type 0
LeftIn writes = LeftBy (λ c. ⊥) writes

-- the writes between two syncs
abbrev pub of_period : ℕ → List PastWrite → List PastWrite
of_period p writes = filter (λ (w : PastWrite). w.period == p) writes

-- what a stop may have left in a period since one, before another
pub record LeftInPast (writes : List PastWrite) (since now : ℕ) (c : List ℕ) : Type 0 where
  pub period : ℕ
  pub from : since ≤ period
  pub before : period < now
  pub left : LeftIn (of_period period writes) c
