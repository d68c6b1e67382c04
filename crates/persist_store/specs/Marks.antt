-- What a disk may be told of a wire: how far that was while the disk held this. This project's own choice.
use Rattle.std.specs.Prelude.{ℕ, List, [], ◌∷◌, ◌++◌, Option}
use Rattle.ads_outside.specs.WireState.{WireHistory}

pub record Mark : Type 0 where
  -- what had come of the wire
  pub wire : WireHistory
  -- the file that a read of the disk gave then, where it is told
  pub file : Option (List ℕ)

-- a call that marks nothing: each list of marks that may be told before may be told behind it
abbrev pub MarksStay : {D : Type 0} → (D → List Mark → Type 0) → D → D → Type 0
MarksStay marked old new = (marks : List Mark) → marked old marks → marked new marks

-- one mark more may be told
abbrev pub MarksOne : {D : Type 0} → (D → List Mark → Type 0) → D → D → WireHistory → Option (List ℕ) → Type 0
MarksOne marked old new wire file = (marks : List Mark) → marked old marks → marked new (marks ++ record { wire = wire; file = file } ∷ [])
