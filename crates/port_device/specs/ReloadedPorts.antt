-- For private contracts, and cited by no public clause: ports after a reload.
use Rattle.std.specs.Prelude.{◌≡◌, ℕ, List, [], ◌∷◌, map, length, Option, Some, None}
use Rattle.spec_plant.specs.Listed.{NamedType}
use Rattle.spec_plant.specs.Description.{Port}
use Rattle.spec_machine.specs.Manner.{Manner}
use Rattle.symbol_table.specs.Tables.{TableSymbol}
use Rattle.port_device.specs.PortMemory.{PortMemory, memory_numbered}
use Rattle.port_device.specs.PlacedBytes.{placed_symbol, with_all_bytes}
use Rattle.port_device.specs.Reloaded.{reloaded_bytes}
use Rattle.port_device.specs.FirstPorts.{IsFirstPort}

-- a symbol that begins with as many bytes as it has
abbrev pub BeginsWhole : TableSymbol → Type 0
BeginsWhole s = length s.initial ≡ s.size

-- a port as it begins, with the kept bytes and the state words of an old one
abbrev pub with_kept : PortMemory → PortMemory → PortMemory
with_kept was m = record m {
  bytes = record {
    image = with_all_bytes m.table.sizes m.bytes.image (map (placed_symbol (reloaded_bytes m.types was)) m.table.symbols);
    ads = was.bytes.ads;
    device = was.bytes.device;
    version = m.bytes.version;
  };
}

abbrev pub after_reload : Option PortMemory → PortMemory → PortMemory
after_reload None m = m
after_reload (Some was) m = with_kept was m

-- a port of a description with this symbol version and manner, where these were the old ports
pub record IsReloadedPort (old : List PortMemory) (types : List NamedType) (port : Port) (version : ℕ) (manner : Manner) (m : PortMemory) : Type 0 where
  pub first : PortMemory
  pub is_first : IsFirstPort types port version manner first
  pub is : m ≡ after_reload (memory_numbered port.number old) first

-- each of a list, in the same order
abbrev pub AreReloadedPorts : List PortMemory → List NamedType → ℕ → Manner → List Port → List PortMemory → Type 0
AreReloadedPorts old types version manner [] [] = Unit {0}
AreReloadedPorts old types version manner (p ∷ ps) (m ∷ ms) = IsReloadedPort old types p version manner m × AreReloadedPorts old types version manner ps ms
AreReloadedPorts old types version manner ps ms = ⊥
