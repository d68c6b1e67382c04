-- Write and WriteControl: who may write what. Beckhoff Information System, "ADS Write", "ADS Write
-- Control".
use Rattle.std.specs.Prelude.{ℕ, List, [], length, Bool, true, false, ◌&&◌, ◌||◌, not, ◌==◌}
use Rattle.std.specs.Prelude.{if◌then◌else◌, Option, Some, None, Result, Ok, Err, bytes_eq, map}
use Rattle.std.specs.List.{list_all, list_any}
use Rattle.spec_plant.specs.Description.{Rights, Read, Write, Control}
use Rattle.spec_plant.specs.World.{PlantPort, PlantSymbol, Part, SymbolPart, AreaPart, StatePart}
pub use Rattle.spec_plant.specs.Named.{symbol_named}
use Rattle.spec_formats.specs.Codes.{invalid_group, not_permitted, invalid_size, invalid_value, symbol_not_found}
use Rattle.spec_formats.specs.Groups.{Group, ReleaseHandle, is_value_group}
use Rattle.spec_formats.specs.Header.{AmsAddress}
use Rattle.spec_formats.specs.Numbers.{number32}
use Rattle.spec_machine.specs.World.{state_names, state_bytes, RUN, STOP}
use Rattle.spec_machine.specs.Access.{Addressed, WholeByte, addressed_name, puts_of}
use Rattle.spec_machine.specs.Handles.{HandleStatus, Never, Released, Outdated, Live, kept_status}
use Rattle.spec_machine.specs.Client.{Place, Client, Releases}
use Rattle.spec_machine.specs.Acts.{Act, Refusal, writing, changing}
use Rattle.spec_machine.specs.Reach.{reach_of}

-- who asks, and what he may do; and the port that he asks
pub record Asker : Type 0 where
  pub port : PlantPort
  pub address : AmsAddress
  pub rights : Rights

abbrev pub may_write : Rights → Bool
may_write Read = false
may_write Write = true
may_write Control = true

abbrev pub may_control : Rights → Bool
may_control Read = false
may_control Write = false
may_control Control = true

-- a read-only symbol is written by nobody, and one with writers by these alone
abbrev pub is_writable_symbol : List ℕ → Option PlantSymbol → Bool
is_writable_symbol net None = true
is_writable_symbol net (Some s) =
    not s.read_only && ((length s.writers == 0) || list_any (bytes_eq net) s.writers)

abbrev pub is_writable_part : List ℕ → PlantPort → Part → Bool
is_writable_part net p (SymbolPart name) = is_writable_symbol net (symbol_named name p.symbols)
is_writable_part net p (AreaPart area) = true
is_writable_part net p StatePart = true

-- whether a peer of this NetId may write each of these
abbrev pub are_writable : List ℕ → PlantPort → List Addressed → Bool
are_writable net p places = list_all (λ a. is_writable_part net p (addressed_name a).part) places

abbrev pub write_act : Asker → List ℕ → Result (List Addressed) ℕ → Act
write_act k bytes (Err code) = Refusal code
write_act k bytes (Ok places) =
    if are_writable k.address.net k.port places then writing (puts_of places bytes)
    else Refusal not_permitted

-- a handle that is live or outdated may be released; its 4 bytes are the data
abbrev pub is_releasable : HandleStatus Place → Bool
is_releasable Never = false
is_releasable Released = false
is_releasable Outdated = true
is_releasable (Live place) = true

abbrev pub release_act : Client → PlantPort → List ℕ → Act
release_act c p bytes =
    if not (length bytes == 4) then Refusal invalid_size
    else if is_releasable (kept_status c.handles (number32 0 bytes) p.number)
    then changing [] (Releases (number32 0 bytes)) else Refusal symbol_not_found

-- Rights are not looked at where a handle is released. Else the group comes first, then the rights,
-- then what is addressed, then what may be written.
unfoldable pub write_group : Client → Asker → Option Group → ℕ → List ℕ → Act
write_group c k None offset bytes = Refusal invalid_group
write_group c k (Some ReleaseHandle) offset bytes = release_act c k.port bytes
write_group c k (Some group) offset bytes =
    if not (is_value_group group) then Refusal invalid_group
    else if not (may_write k.rights) then Refusal not_permitted
    else write_act k bytes (reach_of c k.port (Some group) offset (length bytes))

-- the two state words are set; the data of the request is not looked at
unfoldable pub control_act : Asker → ℕ → ℕ → Act
control_act k ads device =
    if not (may_control k.rights) then Refusal not_permitted
    else if (ads == RUN) || (ads == STOP)
    then writing (puts_of (map WholeByte (state_names k.port)) (state_bytes ads device))
    else Refusal invalid_value
