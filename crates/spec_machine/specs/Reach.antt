-- The bytes that an access addresses, or the code that refuses it: by byte group, bit group or handle.
-- It follows from the description, the client and the request alone.
use Rattle.std.specs.Prelude.{ℕ, List, [], ◌∷◌, map, nat_lt, if◌then◌else◌, Option, Some}
use Rattle.std.specs.Prelude.{Result, Ok, Err}
use Rattle.spec_plant.specs.World.{PlantPort}
use Rattle.spec_formats.specs.Codes.{invalid_group, invalid_size, symbol_not_found, symbol_version_invalid}
use Rattle.spec_formats.specs.Groups.{Group, AreaBytes, AreaBit, ValueByHandle}
use Rattle.spec_formats.specs.Ranges.{Range, Bytes, Bit, Size, range_in}
use Rattle.spec_machine.specs.World.{name_at, names_at}
use Rattle.spec_machine.specs.Access.{Addressed, WholeByte, OneBit}
use Rattle.spec_machine.specs.Handles.{HandleStatus, Never, Released, Outdated, Live, kept_status}
use Rattle.spec_machine.specs.Client.{Place, names_of_place, Client}

abbrev pub addressed_by_range : PlantPort → Result Range ℕ → Result (List Addressed) ℕ
addressed_by_range p (Err code) = Err code
addressed_by_range p (Ok (Bytes area offset len)) = Ok (map WholeByte (names_at p area offset len))
addressed_by_range p (Ok (Bit area offset bit)) = Ok (OneBit (name_at p area offset) bit ∷ [])
addressed_by_range p (Ok (Size area)) = Err invalid_group

-- the first bytes of a place, so many of them
abbrev pub addressed_in_place : ℕ → Place → ℕ → Result (List Addressed) ℕ
addressed_in_place port place len =
    if nat_lt place.len len then Err invalid_size
    else Ok (map WholeByte (names_of_place port place len))

-- a handle that was never granted here or is released is not found; an outdated one says so
abbrev pub addressed_by_status : ℕ → HandleStatus Place → ℕ → Result (List Addressed) ℕ
addressed_by_status port Never len = Err symbol_not_found
addressed_by_status port Released len = Err symbol_not_found
addressed_by_status port Outdated len = Err symbol_version_invalid
addressed_by_status port (Live place) len = addressed_in_place port place len

-- the offset of an access by handle is the handle
unfoldable pub reach_of : Client → PlantPort → Option Group → ℕ → ℕ → Result (List Addressed) ℕ
reach_of c p (Some (AreaBytes area)) offset len =
    addressed_by_range p (range_in (Some (AreaBytes area)) p.sizes offset len)
reach_of c p (Some (AreaBit area)) offset len =
    addressed_by_range p (range_in (Some (AreaBit area)) p.sizes offset len)
reach_of c p (Some ValueByHandle) offset len =
    addressed_by_status p.number (kept_status c.handles offset p.number) len
reach_of c p group offset len = Err invalid_group
