-- ReadWrite of the groups that take a name: a handle, a value, infos.
-- Beckhoff Information System, "ADS Read Write".
use Rattle.std.specs.Prelude.{ℕ, ◌+◌, List, ◌++◌, length, map, ◌||◌, nat_lt, nat_le}
use Rattle.std.specs.Prelude.{if◌then◌else◌, Option, Some, None}
use Rattle.std.specs.Int.{w32, to_le_bytes}
use Rattle.spec_plant.specs.Sizes.{type_size}
use Rattle.spec_plant.specs.World.{PlantPort, lower_name}
use Rattle.spec_plant.specs.Finding.{Found, found_of}
use Rattle.spec_formats.specs.Codes.{general_device_error, invalid_group, invalid_size, symbol_not_found}
use Rattle.spec_formats.specs.Groups.{Group, HandleByName, ValueByName, InfoByName, ExtendedInfoByName}
use Rattle.spec_formats.specs.SymbolEntry.{entry_bytes}
use Rattle.spec_machine.specs.World.{Setup}
use Rattle.spec_machine.specs.Access.{WholeByte}
use Rattle.spec_machine.specs.Handles.{live_count}
use Rattle.spec_machine.specs.Client.{Place, names_of_place, Client, Grants}
use Rattle.spec_machine.specs.Acts.{Act, Refusal, fixed_data, reading, changing}
use Rattle.spec_machine.specs.Entries.{group_of_area, entry_of_part}
use Rattle.spec_machine.specs.Reads.{fixed_reply}

-- This project's own choice: how many handles of a client may be live, and how many it is ever given.
abbrev pub MAX_LIVE : ℕ
MAX_LIVE = 4096

abbrev pub MAX_NUMBER : ℕ
MAX_NUMBER = 4294967295

-- the place of what a name leads to
abbrev pub place_of : Found → Place
place_of f = record {
  symbol = lower_name f.symbol;
  first = f.part.first;
  len = type_size f.part.type;
}

-- a handle is one more than those so far
abbrev pub grant_act : Client → PlantPort → Place → Act
grant_act c p place =
    if nat_le MAX_LIVE (live_count c.handles) || nat_le MAX_NUMBER (length c.handles)
    then Refusal general_device_error
    else changing (to_le_bytes w32 (length c.handles + 1)) (Grants p.number place)

-- the first bytes of a value
abbrev pub value_act : PlantPort → ℕ → Place → Act
value_act p len place =
    if nat_lt place.len len then Refusal invalid_size
    else reading (map WholeByte (names_of_place p.number place len))

-- group 4, offset 4, length 4
abbrev pub info_of : Found → List ℕ
info_of f =
    to_le_bytes w32 (group_of_area f.symbol.area) ++ to_le_bytes w32 (f.symbol.offset + f.part.first)
    ++ to_le_bytes w32 (type_size f.part.type)

abbrev pub if_found : Option Found → (Found → Act) → Act
if_found None act = Refusal symbol_not_found
if_found (Some f) act = act f

-- A handle and an info have a fixed length, which is looked at before the name.
unfoldable pub read_write_group : Setup → Client → PlantPort → Option Group → ℕ → List ℕ → Act
read_write_group d c p (Some HandleByName) len name =
    if nat_lt len 4 then Refusal invalid_size
    else if_found (found_of p.symbols name) (λ f. grant_act c p (place_of f))
read_write_group d c p (Some ValueByName) len name =
    if_found (found_of p.symbols name) (λ f. value_act p len (place_of f))
read_write_group d c p (Some InfoByName) len name =
    if nat_lt len 12 then Refusal invalid_size
    else if_found (found_of p.symbols name) (λ f. fixed_data (info_of f))
read_write_group d c p (Some ExtendedInfoByName) len name =
    if_found (found_of p.symbols name) (λ f. fixed_reply len (entry_bytes (entry_of_part d.profile.manner f)))
read_write_group d c p group len name = Refusal invalid_group
