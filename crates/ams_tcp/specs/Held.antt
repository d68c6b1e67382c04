-- What a splitter keeps, as contracts see it.
use Rattle.std.specs.Prelude.{ℕ, List, Bool}

pub record Held : Type 0 where
  -- how many bytes of frames that were given are kept, until the next piece comes
  pub passed : ℕ
  -- the bytes behind the frames that were given
  pub rest : List ℕ
  -- `next` has answered Broken
  pub told_broken : Bool
