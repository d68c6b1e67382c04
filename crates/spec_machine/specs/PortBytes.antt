-- The bytes of a port as an image of its four areas, one behind another, its two state words and its version; and that
-- they are what stands under the names of these bytes.
use Rattle.std.specs.Prelude.{◌≡◌, ℕ, ◌+◌, ◌<◌, List, [], ◌∷◌, ◌++◌, length, take, drop, slice_get, Option}
use Rattle.std.specs.Prelude.{if◌then◌else◌}
use Rattle.std.specs.Int.{w64, to_le_bytes}
use Rattle.signals.specs.Wave.{Wave, value_of}
use Rattle.spec_plant.specs.Description.{Area, Inputs, Outputs, Memory, Process, Sizes, size_in}
use Rattle.spec_plant.specs.World.{PlantPort, PlantSymbol, symbol_size, Block, byte_at}
use Rattle.spec_plant.specs.Accepted.{image_size}
use Rattle.spec_machine.specs.World.{name_at, own_name, own_bytes, OWN_SIZE}
use Rattle.spec_machine.specs.Ticks.{has_signal}

-- where an area begins in an image
abbrev pub start_in : Sizes → Area → ℕ
start_in sizes Inputs = 0
start_in sizes Outputs = sizes.inputs
start_in sizes Memory = sizes.inputs + sizes.outputs
start_in sizes Process = sizes.inputs + sizes.outputs + sizes.memory

-- the bytes of a port
pub record PortBytes : Type 0 where
  pub image : List ℕ
  pub ads : ℕ
  pub device : ℕ
  pub version : ℕ

-- the byte of an image at an offset of an area
abbrev pub image_byte : Sizes → List ℕ → Area → ℕ → Option ℕ
image_byte sizes image area offset = slice_get image (start_in sizes area + offset)

-- so many bytes of an image from an offset of an area on
abbrev pub image_bytes : Sizes → List ℕ → Area → ℕ → ℕ → List ℕ
image_bytes sizes image area offset len = take len (drop (start_in sizes area + offset) image)

-- an image with bytes in the place of as many, from an offset of an area on
abbrev pub with_image_bytes : Sizes → List ℕ → Area → ℕ → List ℕ → List ℕ
with_image_bytes sizes image area offset bytes = let at_ = start_in sizes area + offset in
    take at_ image ++ (bytes ++ drop (at_ + length bytes) image)

-- These are the bytes of the port: each byte of the image stands under the name of its offset in its area, and so do
-- the port's own.
pub record Holds (memory : List Block) (p : PlantPort) (b : PortBytes) : Type 0 where
  pub long : length b.image ≡ image_size p.sizes
  pub areas : (area : Area) (offset : ℕ) → offset < size_in p.sizes area
      → byte_at memory (name_at p area offset) ≡ image_byte p.sizes b.image area offset
  pub own : (k : ℕ) → k < OWN_SIZE → byte_at memory (own_name p.number k) ≡ slice_get (own_bytes b.ads b.device b.version) k

-- the image after a step of a signal: the first symbol that it writes has the low bytes of its value
abbrev pub image_after_signal : Sizes → ℕ → ℕ → List PlantSymbol → List ℕ → List ℕ
image_after_signal sizes n value [] image = image
image_after_signal sizes n value (s ∷ ss) image =
    if has_signal n s
    then with_image_bytes sizes image s.area s.offset (take (symbol_size s) (to_le_bytes w64 value))
    else image_after_signal sizes n value ss image

-- the image after a step of the signals from the n-th on
abbrev pub image_after_signals : PlantPort → ℕ → List Wave → List ℕ → List ℕ
image_after_signals p n [] image = image
image_after_signals p n (wave ∷ waves) image =
    image_after_signals p (n + 1) waves (image_after_signal p.sizes n (value_of wave) p.symbols image)
