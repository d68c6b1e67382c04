-- An outlet in memory.
use Rattle.std.specs.Prelude.{ℕ, List, slice_get, ◌++◌, take}
use Rattle.ads_outside.specs.MemWire.{taken_at_most}
use Rattle.ads_outside.specs.Rose.{raised}

-- what it took, how many bytes it takes at most in each call, in order, and how often it was called
pub record HeldOutlet : Type 0 where
  pub bytes : List ℕ
  pub cuts : List ℕ
  pub calls : ℕ

-- how many of so many bytes the next call takes, want of memory aside: all where no number is given
abbrev pub takes_next : HeldOutlet → ℕ → ℕ
takes_next o n = taken_at_most (slice_get o.cuts o.calls) n

-- after a call that took so many
abbrev pub outlet_after : ℕ → HeldOutlet → List ℕ → HeldOutlet
outlet_after n o piece = record o { bytes = o.bytes ++ take n piece; calls = raised o.calls }
