-- The values of a list lent for writing.
use Rattle.std.specs.Prelude.{List, length}
use Rattle.std.specs.List.{refill}
use Rattle.std.specs.Borrow.{Lends, MutBor, Fml, Array, RattleType}
use Rattle.ads_base.specs.contracts.list_of.ListOf.{the_row}

-- the values end as those that were last written through the slice, whose length stays
abbrev pub LendsList : (T : RattleType) → MutBor (List T.Denot) → MutBor (List T.Denot) → Fml
LendsList T list slice = Lends (the_row T) (Array T 0) list slice (λ w. refill (length list.now) list.now w)
