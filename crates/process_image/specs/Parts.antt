-- What an image holds once a part of it that was lent for writing is given back.
use Rattle.std.specs.Prelude.{ℕ, List}
use Rattle.std.specs.Borrow.{Fml, MutBor, Array, Lends, u8}
use Rattle.process_image.specs.contracts.image.Image.{the_row}
use Rattle.process_image.specs.Bytes.{after_loan}

-- the image ends with what was last written through r in the len bytes from the place at on,
-- and else as it was
abbrev pub LendsPart : MutBor (List ℕ) → ℕ → ℕ → MutBor (List ℕ) → Fml
LendsPart i at len r = Lends the_row (Array u8 0) i r (after_loan i.now at len)
