-- The persistent symbols of a device: an entry for what each of them holds, and the body text of these entries.
-- This project's own choice.
use Rattle.std.specs.Prelude.{ℕ, List, map, flat_map, filter}
use Rattle.spec_plant.specs.World.{Plant, PlantPort, PlantSymbol, Block, symbol_size, lower_name}
use Rattle.spec_machine.specs.World.{World, symbol_names}
use Rattle.spec_machine.specs.Access.{WholeByte, values_at}
use Rattle.spec_store.specs.BodyText.{StoredEntry, body_text}
use Rattle.type_layout.specs.Forms.{form_of}

-- the bytes that stand under a symbol's names
abbrev pub value_of_symbol : List Block → ℕ → PlantSymbol → List ℕ
value_of_symbol memory port s =
    values_at memory (map WholeByte (symbol_names port (lower_name s) 0 (symbol_size s)))

-- the entry of a symbol, under its declared name
abbrev pub entry_of_symbol : List Block → ℕ → PlantSymbol → StoredEntry
entry_of_symbol memory port s = record {
  port = port;
  name = s.name;
  form = form_of s.type;
  bytes = value_of_symbol memory port s;
}

-- the persistent ones of these symbols, in their order
abbrev pub persistent_symbols : List PlantSymbol → List PlantSymbol
persistent_symbols symbols = filter (λ (s : PlantSymbol). s.persistent) symbols

-- the entries of a port's persistent symbols
abbrev pub entries_of_port : List Block → PlantPort → List StoredEntry
entries_of_port memory p = map (entry_of_symbol memory p.number) (persistent_symbols p.symbols)

-- the entries of all persistent symbols, in the order of ports and symbols
abbrev pub entries_of_ports : List Block → List PlantPort → List StoredEntry
entries_of_ports memory ports = flat_map (entries_of_port memory) ports

-- the body text of a plant that holds these bytes
unfoldable pub body_of : Plant → List Block → List ℕ
body_of plant memory = body_text (entries_of_ports memory plant.ports)

-- the body text of what a world's persistent symbols hold
abbrev pub body_of_world : World → List ℕ
body_of_world w = body_of w.plant w.memory
