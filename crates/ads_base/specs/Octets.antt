-- Bytes lent for writing, and bytes that were appended to.
use Rattle.std.specs.Prelude.{◌≡◌, ◌≤◌, ℕ, List, length, take}
use Rattle.std.specs.List.{refill}
use Rattle.std.specs.Borrow.{Lends, MutBor, Fml, u8, Array}
use Rattle.ads_base.specs.contracts.octets.Octets.{the_row}

-- the bytes end as those that were last written through the slice, whose length stays
abbrev pub LendsOctets : MutBor (List ℕ) → MutBor (List ℕ) → Fml
LendsOctets octets slice =
    Lends the_row (Array u8 0) octets slice (λ w. refill (length octets.now) octets.now w)

-- new bytes begin with the old ones: a call that appends in parts leaves this after want of memory, and `cut` takes
-- back what was begun
pub record Extends (old new : List ℕ) : Type 0 where
  pub longer : length old ≤ length new
  pub begins : take (length old) new ≡ old
