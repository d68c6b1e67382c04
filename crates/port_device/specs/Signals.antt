-- For private contracts, and cited by no public clause: what the signals write into the images of ports at a tick.
use Rattle.std.specs.Prelude.{◌≡◌, ℕ, suc, ◌+◌, List, [], ◌∷◌, map, take, slice_get, Bool, false, ◌==◌, if◌then◌else◌}
use Rattle.std.specs.Prelude.{Option, Some, None, option_map, unwrap_or}
use Rattle.std.specs.Option.{option_map_or}
use Rattle.std.specs.Int.{w64, to_le_bytes}
use Rattle.signals.specs.Wave.{Wave, value_of}
use Rattle.spec_plant.specs.Description.{Sizes}
use Rattle.spec_machine.specs.PortBytes.{with_image_bytes}
use Rattle.symbol_table.specs.Tables.{TableSymbol}
use Rattle.port_device.specs.PortMemory.{PortMemory}
use Rattle.port_device.specs.Changed.{with_image}

-- a signal writes the symbol
abbrev pub is_bound_to : ℕ → TableSymbol → Bool
is_bound_to n s = option_map_or (λ m. m == n) s.signal false

-- the number of the first symbol that a signal writes
abbrev pub symbol_bound_to : ℕ → List TableSymbol → Option ℕ
symbol_bound_to n [] = None
symbol_bound_to n (s ∷ ss) = if is_bound_to n s then Some 0 else option_map (λ k. suc k) (symbol_bound_to n ss)

-- an image with the low bytes of a value at a symbol
abbrev pub with_value_at : Sizes → ℕ → TableSymbol → List ℕ → List ℕ
with_value_at sizes value s image = with_image_bytes sizes image s.area s.offset (take s.size (to_le_bytes w64 value))

-- the image after a step of a signal: the first symbol that it writes has the low bytes of its value
abbrev pub image_after_step : Sizes → ℕ → ℕ → List TableSymbol → List ℕ → List ℕ
image_after_step sizes n value [] image = image
image_after_step sizes n value (s ∷ ss) image =
    if is_bound_to n s then with_value_at sizes value s image else image_after_step sizes n value ss image

-- a port after a step of a signal
abbrev pub port_after_step : ℕ → ℕ → PortMemory → PortMemory
port_after_step n value m = with_image m (image_after_step m.table.sizes n value m.table.symbols m.bytes.image)

-- the ports after the signals from the n-th on have stepped once each
abbrev pub ports_after_steps : ℕ → List Wave → List PortMemory → List PortMemory
ports_after_steps n [] ms = ms
ports_after_steps n (wave ∷ waves) ms = ports_after_steps (n + 1) waves (map (port_after_step n (value_of wave)) ms)

-- what a table of bound symbols has at a signal's number; nothing past its end
abbrev pub bound_at : List (Option ℕ) → ℕ → Option ℕ
bound_at bound n = unwrap_or (slice_get bound n) None

-- the table has the first symbol that each signal writes
abbrev pub AreBound : List (Option ℕ) → List TableSymbol → Type 0
AreBound bound symbols = (n : ℕ) → bound_at bound n ≡ symbol_bound_to n symbols
