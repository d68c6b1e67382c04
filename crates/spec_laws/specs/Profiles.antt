-- The two servers of the machine. Each keeps its profile over every log. To the strict one a request is what is written; the
-- wide one differs in what is said here, and in nothing that is written to the device.
use Rattle.std.specs.Prelude.{◌≡◌, ℕ, List, length, map, min, Some}
use Rattle.signals.specs.Wave.{Wave}
use Rattle.spec_plant.specs.Description.{Description}
use Rattle.spec_plant.specs.Finding.{Found, found_of}
use Rattle.ads_outside.specs.declared.moves.Move.{Move}
use Rattle.spec_formats.specs.Groups.{value_by_handle, value_by_name}
use Rattle.spec_formats.specs.Request.{Request, Read, Write, AddDeviceNotification, ReadWrite}
use Rattle.spec_machine.specs.Moves.{state_after}
use Rattle.spec_machine.specs.Manner.{Strict, Wide}
use Rattle.spec_machine.specs.Profile.{Profile}
use Rattle.spec_machine.specs.World.{Setup}
use Rattle.spec_machine.specs.Access.{WholeByte}
use Rattle.spec_machine.specs.Handles.{Live, kept_status}
use Rattle.spec_machine.specs.Client.{Place, names_of_place, Client}
use Rattle.spec_machine.specs.Acts.{Act, reading}
use Rattle.spec_machine.specs.Answers.{answered_group, WRITE, READ_WRITE}
use Rattle.spec_machine.specs.Writes.{Asker, write_group}
use Rattle.spec_machine.specs.ByName.{place_of}
use Rattle.spec_machine.specs.Meanings.{meant_name}
use Rattle.spec_machine.specs.MoreActs.{type_by_text, type_act}
use Rattle.spec_machine.specs.Requests.{plain_act, act_of}
use Rattle.spec_machine.specs.Sums.{sum_of_told_reads, sum_of_short_reads, sum_of_additions, sum_of_deletions}
use Rattle.spec_machine.specs.MoreSums.{sum_told_read, sum_short_read, sum_add, sum_delete}
use Rattle.spec_machine.specs.SumPackets.{sum_of_group, decide_sum, decide_read_write, decide_request}
use Rattle.spec_machine.specs.AdsDevice.{DescriptionReading, server_step}
use Rattle.spec_laws.specs.Isolation.{start_in}

-- No move changes the profile: a reload brings a description and none.
abbrev pub KeepsProfile : Type 0
KeepsProfile = (reading : DescriptionReading) (profile : Profile) (d : Description) (signals : List Wave) (log : List Move)
    → (state_after (server_step reading) (start_in profile d signals) log).world.profile ≡ profile

-- Where the server is strict, each request is decided as it is written.
abbrev pub StrictIsPlain : Type 0
StrictIsPlain = (d : Setup) (c : Client) (k : Asker) (r : Request) → d.profile.manner ≡ Strict → act_of d c k r ≡ plain_act d c k r

-- A write is decided as it is written by both.
abbrev pub WritesArePlain : Type 0
WritesArePlain = (d : Setup) (c : Client) (k : Asker) (group offset : ℕ) (bytes : List ℕ)
    → act_of d c k (Write group offset bytes) ≡ write_group c k (answered_group WRITE group) offset bytes

-- the first bytes of a place, at most so many of them
abbrev pub reading_place : ℕ → Place → ℕ → Act
reading_place port place len = reading (map WholeByte (names_of_place port place (min len place.len)))

-- Where the server is wide, a Read by a live handle reads its value, and no byte beside it, however much is asked.
abbrev pub WideReadsByHandle : Type 0
WideReadsByHandle = (d : Setup) (c : Client) (k : Asker) (handle len : ℕ) (place : Place) → d.profile.manner ≡ Wide
    → kept_status c.handles handle k.port.number ≡ Live place
    → act_of d c k (Read value_by_handle handle len) ≡ reading_place k.port.number place len

-- So does a ReadWrite by a name, without its NULs and its full stop.
abbrev pub WideReadsByName : Type 0
WideReadsByName = (d : Setup) (c : Client) (k : Asker) (offset len : ℕ) (name : List ℕ) (f : Found) → d.profile.manner ≡ Wide
    → found_of k.port.symbols (meant_name name) ≡ Some f
    → act_of d c k (ReadWrite value_by_name offset len name) ≡ reading_place k.port.number (place_of f) len

-- Where the server is wide, a ReadWrite by the text of a type gives its entry.
abbrev pub WideTypes : Type 0
WideTypes = (d : Setup) (c : Client) (k : Asker) (offset len : ℕ) (text : List ℕ) → d.profile.manner ≡ Wide
    → act_of d c k (ReadWrite type_by_text offset len text) ≡ type_act d.plant len text

-- Where the server is wide, an addition in the context of a task is that without.
abbrev pub WideModes : Type 0
WideModes = (d : Setup) (c : Client) (k : Asker) (group offset len delay cycle : ℕ) → d.profile.manner ≡ Wide
    → (act_of d c k (AddDeviceNotification group offset len 5 delay cycle)
    ≡ act_of d c k (AddDeviceNotification group offset len 3 delay cycle))
    × (act_of d c k (AddDeviceNotification group offset len 6 delay cycle)
    ≡ act_of d c k (AddDeviceNotification group offset len 4 delay cycle))

-- Where the server is strict, it knows no sum besides those of all: a ReadWrite is decided by its group.
abbrev pub StrictSums : Type 0
StrictSums = (d : Setup) (c : Client) (k : Asker) (group offset len : ℕ) (bytes : List ℕ) → d.profile.manner ≡ Strict
    → decide_request d c k (ReadWrite group offset len bytes)
    ≡ decide_read_write d c k (sum_of_group (answered_group READ_WRITE group)) group offset len bytes

-- Where the server is wide, the sums of reads that tell their lengths are sums, filled or as long as their data is; so are
-- additions and deletions of notifications.
abbrev pub WideSums : Type 0
WideSums = (d : Setup) (c : Client) (k : Asker) (n len : ℕ) (bytes : List ℕ) → d.profile.manner ≡ Wide
    → (decide_request d c k (ReadWrite sum_told_read n len bytes) ≡ decide_sum d c k n (length bytes) len (sum_of_told_reads n bytes))
    × (decide_request d c k (ReadWrite sum_short_read n len bytes) ≡ decide_sum d c k n (length bytes) len (sum_of_short_reads n bytes))
    × (decide_request d c k (ReadWrite sum_add n len bytes) ≡ decide_sum d c k n (length bytes) len (sum_of_additions n bytes))
    × (decide_request d c k (ReadWrite sum_delete n len bytes) ≡ decide_sum d c k n (length bytes) len (sum_of_deletions n bytes))
