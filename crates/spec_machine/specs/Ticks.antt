-- A tick: each signal steps once, and the low bytes of its value become those of its symbol; then the
-- due notifications are checked. Signals are this project's own choice.
use Rattle.std.specs.Prelude.{ℕ, ◌+◌, List, [], ◌∷◌, ◌++◌, map, flat_map, take, Bool, false, ◌==◌}
use Rattle.std.specs.Prelude.{if◌then◌else◌}
use Rattle.std.specs.Option.{option_map_or}
use Rattle.std.specs.Int.{w64, to_le_bytes}
use Rattle.signals.specs.Wave.{Wave, value_of, wave_after_step}
use Rattle.spec_plant.specs.World.{PlantPort, PlantSymbol, symbol_size, lower_name}
use Rattle.spec_machine.specs.Device.{ClientOutcome}
use Rattle.spec_machine.specs.World.{World, symbol_names}
use Rattle.spec_machine.specs.Access.{WholeByte, Put, puts_of, memory_after_puts}
use Rattle.spec_machine.specs.Client.{Client}
use Rattle.spec_machine.specs.Stamps.{frames_of_samples, samples_at, watches_after_tick}

abbrev pub has_signal : ℕ → PlantSymbol → Bool
has_signal n s = option_map_or (λ m. m == n) s.signal false

abbrev pub signal_puts_of_symbol : ℕ → PlantSymbol → ℕ → List Put
signal_puts_of_symbol port s value =
    puts_of (map WholeByte (symbol_names port (lower_name s) 0 (symbol_size s)))
    (take (symbol_size s) (to_le_bytes w64 value))

abbrev pub signal_puts_among : ℕ → ℕ → ℕ → List PlantSymbol → List Put
signal_puts_among port n value [] = []
signal_puts_among port n value (s ∷ ss) =
    if has_signal n s then signal_puts_of_symbol port s value
    else signal_puts_among port n value ss

-- the puts of the signals from the n-th on
abbrev pub signal_puts : List PlantPort → ℕ → List Wave → List Put
signal_puts ports n [] = []
signal_puts ports n (wave ∷ waves) =
    flat_map (λ (p : PlantPort). signal_puts_among p.number n (value_of wave) p.symbols) ports
    ++ signal_puts ports (n + 1) waves

unfoldable pub world_after_tick : World → World
world_after_tick w = record w {
  signals = map wave_after_step w.signals;
  memory = memory_after_puts w.memory (signal_puts w.plant.ports 0 w.signals);
}

-- all due notifications are checked, and their samples sent
unfoldable pub client_after_tick : ℕ → World → Client → ClientOutcome Client
client_after_tick now w c = record {
  client = record c { watches = watches_after_tick w.memory now c.watches };
  frames = frames_of_samples w.plant.net now (samples_at w.memory now c.watches);
}
