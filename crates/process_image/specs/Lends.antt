-- What a block holds once a part that was lent is given back. No public clause cites this.
use Rattle.std.specs.Prelude.{ℕ, List}
use Rattle.std.specs.Borrow.{Fml, MutBor, Array, Lends, u8}
use Rattle.process_image.specs.declared.block.Block.{Block}
use Rattle.process_image.specs.contracts.block.Block.{the_row}
use Rattle.process_image.specs.Bytes.{after_loan}

-- the block after the loan of the len bytes from the place at on
abbrev pub block_after_loan : Block → ℕ → ℕ → List ℕ → Block
block_after_loan b at len left =
    record { at = b.at; bytes = after_loan b.bytes at len left; room = b.room }

abbrev pub LendsRun : MutBor Block → ℕ → ℕ → MutBor (List ℕ) → Fml
LendsRun b at len r = Lends the_row (Array u8 0) b r (block_after_loan b.now at len)
