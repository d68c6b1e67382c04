-- What a sink holds after a piece, where it tells, and why a piece is not whole.
use Rattle.std.specs.Prelude.{◌≡◌, ℕ, List, Option, Some, None, take, ◌++◌}
use Rattle.ads_outside.specs.declared.put.Put.{Put}
use Rattle.ads_outside.specs.declared.put.Put.TheVariants as put
use Rattle.ads_outside.specs.Rose.{Rose}
use Rattle.ads_outside.specs.SinkState.{SinkState}

-- the piece stands behind what stood there
abbrev pub Appends : Option (List ℕ) → Option (List ℕ) → List ℕ → Type 0
Appends None new piece = Unit {0}
Appends (Some old) new piece = new ≡ Some (old ++ piece)

-- some first bytes of the piece stand behind what stood there
abbrev pub AppendsPart : Option (List ℕ) → Option (List ℕ) → List ℕ → Type 0
AppendsPart None new piece = Unit {0}
AppendsPart (Some old) new piece = (n : ℕ) × (new ≡ Some (old ++ take n piece))

-- all of the piece; or a part of it, and a fault or a want of memory was counted
abbrev pub Puts : Put → SinkState → SinkState → List ℕ → Type 0
Puts put.All old new piece = Appends old.held new.held piece
Puts put.Failed old new piece = AppendsPart old.held new.held piece × Rose old.faults new.faults
Puts put.Memory old new piece = AppendsPart old.held new.held piece × Rose old.wants new.wants
