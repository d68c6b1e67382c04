-- What a request means to a server of a profile. To the strict one it is what is written. To the wide one a length that is
-- read by handle or by name is the size of a buffer, a name ends at its first NUL and may have a full stop in front, and a
-- notification in the context of a task is one of the server's ticks. Writes, and reads by group and offset, mean what is
-- written to both.
-- Beckhoff Information System, "ADS Read", "ADS Read Write", "ADS Add Device Notification".
use Rattle.std.specs.Prelude.{ℕ, List, [], ◌∷◌, min, ◌==◌, if◌then◌else◌, Option, Some, None}
use Rattle.std.specs.List.{before_first}
use Rattle.spec_plant.specs.Sizes.{type_size}
use Rattle.spec_plant.specs.World.{PlantPort}
use Rattle.spec_plant.specs.Finding.{Found, found_of}
use Rattle.spec_formats.specs.Request.{Request, Read, AddDeviceNotification, ReadWrite}
use Rattle.spec_formats.specs.Groups.{Group, HandleByName, ValueByHandle, ValueByName, InfoByName, ExtendedInfoByName}
use Rattle.spec_machine.specs.Manner.{Manner, Strict, Wide}
use Rattle.spec_machine.specs.Profile.{Profile}
use Rattle.spec_machine.specs.Handles.{HandleStatus, Live, kept_status}
use Rattle.spec_machine.specs.Client.{Place, Client}
use Rattle.spec_machine.specs.Answers.{answered_group, READ, READ_WRITE}

-- no more bytes than a live handle has
abbrev pub len_by_status : HandleStatus Place → ℕ → ℕ
len_by_status (Live place) len = min len place.len
len_by_status status len = len

abbrev pub len_by_handle : Client → PlantPort → Option Group → ℕ → ℕ → ℕ
len_by_handle c p (Some ValueByHandle) handle len = len_by_status (kept_status c.handles handle p.number) len
len_by_handle c p group offset len = len

-- how many bytes a Read asks for
abbrev pub read_len_in : Manner → Client → PlantPort → Option Group → ℕ → ℕ → ℕ
read_len_in Strict c p group offset len = len
read_len_in Wide c p group offset len = len_by_handle c p group offset len

-- no more bytes than what a name leads to has
abbrev pub len_found : Option Found → ℕ → ℕ
len_found None len = len
len_found (Some f) len = min len (type_size f.part.type)

abbrev pub len_by_name : PlantPort → Option Group → List ℕ → ℕ → ℕ
len_by_name p (Some ValueByName) name len = len_found (found_of p.symbols name) len
len_by_name p group name len = len

-- how many bytes a ReadWrite with this name asks for
abbrev pub value_len_in : Manner → PlantPort → Option Group → List ℕ → ℕ → ℕ
value_len_in Strict p group name len = len
value_len_in Wide p group name len = len_by_name p group name len

-- a name up to its first NUL
abbrev pub up_to_nul : List ℕ → List ℕ
up_to_nul name = before_first (λ c. c == 0) name

-- one full stop in front, as global names of TwinCAT 2 have it, is no part of a name
abbrev pub behind_stop : List ℕ → List ℕ
behind_stop [] = []
behind_stop (c ∷ cs) = if c == 46 then cs else c ∷ cs

abbrev pub meant_name : List ℕ → List ℕ
meant_name bytes = behind_stop (up_to_nul bytes)

-- the data of a ReadWrite: a name, or anything else
abbrev pub name_by_group : Option Group → List ℕ → List ℕ
name_by_group (Some HandleByName) bytes = meant_name bytes
name_by_group (Some ValueByName) bytes = meant_name bytes
name_by_group (Some InfoByName) bytes = meant_name bytes
name_by_group (Some ExtendedInfoByName) bytes = meant_name bytes
name_by_group group bytes = bytes

abbrev pub name_in : Manner → Option Group → List ℕ → List ℕ
name_in Strict group bytes = bytes
name_in Wide group bytes = name_by_group group bytes

-- ADSTRANS_SERVERCYCLE2 and ADSTRANS_SERVERONCHA2 are the modes without a context
abbrev pub without_context : ℕ → ℕ
without_context number = if number == 5 then 3 else if number == 6 then 4 else number

-- the number of a mode
abbrev pub mode_in : Manner → ℕ → ℕ
mode_in Strict number = number
mode_in Wide number = without_context number

abbrev pub by_name : Manner → PlantPort → ℕ → ℕ → ℕ → List ℕ → Request
by_name manner p group offset len name =
    ReadWrite group offset (value_len_in manner p (answered_group READ_WRITE group) name len) name

-- what a request means to a server of this profile
abbrev pub meant_by : Profile → Client → PlantPort → Request → Request
meant_by profile c p (Read group offset len) =
    Read group offset (read_len_in profile.manner c p (answered_group READ group) offset len)
meant_by profile c p (AddDeviceNotification group offset len mode delay cycle) =
    AddDeviceNotification group offset len (mode_in profile.manner mode) delay cycle
meant_by profile c p (ReadWrite group offset len bytes) =
    by_name profile.manner p group offset len (name_in profile.manner (answered_group READ_WRITE group) bytes)
meant_by profile c p r = r
