-- What stands under the names of bytes, once one byte is changed.
use Rattle.std.specs.Prelude.{◌≡◌, ◌≢◌, ◌↔◌, ℕ, ◌<◌, List, length, true, None, option_map}
use Rattle.spec_plant.specs.World.{Part, ByteName, Block, block_of, byte_at, with_byte}
use Rattle.spec_plant.specs.Named.{is_same_name}

-- a change of one byte: it is changed there, stands elsewhere as it did, and leaves each part as long as it was
pub record ChangesOneByte (blocks : List Block) (n : ByteName) (f : ℕ → ℕ) : Type 0 where
  pub here : byte_at (with_byte blocks n f) n ≡ option_map f (byte_at blocks n)
  pub elsewhere : (x : ByteName) → n ≢ x → byte_at (with_byte blocks n f) x ≡ byte_at blocks x
  pub lengths : (port : ℕ) (part : Part) → length (block_of (with_byte blocks n f) port part) ≡ length (block_of blocks port part)

abbrev pub ChangesAreExact : Type 0
ChangesAreExact = (blocks : List Block) (n : ByteName) (f : ℕ → ℕ) → ChangesOneByte blocks n f

-- A byte stands under a name exactly where the name's part has so many.
abbrev pub StandsWithinPart : Type 0
StandsWithinPart = (blocks : List Block) (n : ByteName) → (n.index < length (block_of blocks n.port n.part)) ↔ (byte_at blocks n ≢ None)

-- Names are told apart by their ports, their parts and their places in them.
abbrev pub TellsNamesApart : Type 0
TellsNamesApart = (a b : ByteName) → (is_same_name a b ≡ true) ↔ (a ≡ b)
