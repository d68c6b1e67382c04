-- The checks of a tick, where what is watched is told by ranges and a port's own bytes. Private: no public clause cites this file.
use Rattle.std.specs.Prelude.{◌≡◌, ℕ, ◌+◌, ◌<◌, ◌≤◌, List, [], map, flat_map, All, Option, Some, None, Result, Ok, Err, IfSome}
use Rattle.std.specs.List.Sorted.{IsStrictlyIncreasing}
use Rattle.spec_plant.specs.Description.{Sizes, size_in}
use Rattle.spec_plant.specs.Named.{port_numbered}
use Rattle.spec_plant.specs.World.{PlantPort}
use Rattle.spec_formats.specs.Ranges.{Range, Bytes, Bit, Size}
use Rattle.spec_machine.specs.Access.{Addressed, WholeByte, values_at}
use Rattle.spec_machine.specs.Reach.{addressed_by_range}
use Rattle.spec_machine.specs.Watches.{Watch, AddressedSample, samples_of, checked_watch}
use Rattle.spec_machine.specs.World.{World, own_names, OWN_SIZE}
use Rattle.spec_machine.specs.WatchedRanges.{Watched, InArea, Own}
use Rattle.notify_table.specs.Table.{WatchTable, IsTable, due_handles, watch_of_handle, table_after, Checked}
use Rattle.notify_table.specs.Rounds.{RoundState}
use Rattle.notify_table.proofs.TickLemmas.{checked_among}
use Rattle.port_device.specs.Holds.{HoldsPorts}
use Rattle.port_device.specs.PortMemory.{PortsMemory}
use Rattle.session.specs.NoteGroups.{GroupText, groups_after, grouped_text}

abbrev pub bytes_there : World → Result (List Addressed) ℕ → List ℕ
bytes_there w (Ok places) = values_at w.memory places
bytes_there w (Err code) = []

-- what a check finds of what is watched at a port
abbrev pub bytes_found : World → Option PlantPort → Watched → List ℕ
bytes_found w None watched = []
bytes_found w (Some p) (InArea range) = bytes_there w (addressed_by_range p (Ok range))
bytes_found w (Some p) (Own first len) = values_at w.memory (map WholeByte (own_names p.number first len))

-- what the check of a notification finds
abbrev pub found_in : World → Watch Watched → List ℕ
found_in w v = bytes_found w (port_numbered v.port w.plant.ports) v.watched

-- a range whose bytes or bit lie in an area, where these are the sizes of the areas
abbrev pub IsInSizes : Sizes → Range → Type 0
IsInSizes sizes (Bytes area offset len) = offset + len ≤ size_in sizes area
IsInSizes sizes (Bit area offset bit) = offset < size_in sizes area
IsInSizes sizes (Size area) = ⊥

-- what is watched is there, where these are the sizes of the areas
abbrev pub IsThereIn : Sizes → Watched → Type 0
IsThereIn sizes (InArea range) = IsInSizes sizes range
IsThereIn sizes (Own first len) = first + len ≤ OWN_SIZE

abbrev pub IsInFound : Option PlantPort → Watched → Type 0
IsInFound None watched = ⊥
IsInFound (Some p) watched = IsThereIn p.sizes watched

-- what a notification watches lies in its port
abbrev pub IsInPort : World → Watch Watched → Type 0
IsInPort w v = IsInFound (port_numbered v.port w.plant.ports) v.watched

-- what is watched lies in these ports
pub record IsReadable (ports : PortsMemory) (port : ℕ) (watched : Watched) : Type 0 where
  pub world : World
  pub holds : HoldsPorts world ports
  pub within : IsInFound (port_numbered port world.plant.ports) watched

-- a port with this number is there
pub record IsThere (ports : PortsMemory) (port : ℕ) : Type 0 where
  pub watched : Watched
  pub readable : IsReadable ports port watched

pub record AreReadable (ports : PortsMemory) (watches : List (Watch Watched)) : Type 0 where
  pub world : World
  pub holds : HoldsPorts world ports
  pub within : All (IsInPort world) watches

-- the sample of a check, if one is sent
abbrev pub samples_for : ℕ → (Watch Watched → List ℕ) → Option (Watch Watched) → List AddressedSample
samples_for now found None = []
samples_for now found (Some v) = samples_of now (found v) v

-- the check of one notification, and what it adds to the groups of samples
pub record IsCheck (w : World) (now handle : ℕ) (old : WatchTable) (before : List GroupText) (new : WatchTable) (after : List GroupText) : Type 0 where
  pub watches : IfSome (watch_of_handle handle old) (λ v. new ≡ table_after old (Checked handle now (found_in w v)))
  pub groups : after ≡ groups_after before (samples_for now (found_in w) (watch_of_handle handle old))

-- the samples of the notifications with these handles
abbrev pub samples_among : ℕ → World → WatchTable → List ℕ → List AddressedSample
samples_among now w t handles = flat_map (λ h. samples_for now (found_in w) (watch_of_handle h t)) handles

-- the checks of the notifications with these handles
pub record AreChecked (w : World) (now : ℕ) (handles : List ℕ) (old new : WatchTable) (made : List GroupText) : Type 0 where
  pub watches : new ≡ record old { watches = map (checked_among now (found_in w) handles) old.watches }
  pub groups : made ≡ grouped_text (samples_among now w old handles)

-- a round before its first check
pub record IsOpened (r : RoundState) : Type 0 where
  pub due : r.handles ≡ due_handles r.moment r.table
  pub rising : IsStrictlyIncreasing r.handles
  pub table : IsTable r.table
  pub none : r.made ≡ 0

-- one check more was made
pub record IsNextRound (old new : RoundState) : Type 0 where
  pub handles : new.handles ≡ old.handles
  pub moment : new.moment ≡ old.moment
  pub made : new.made ≡ old.made + 1

-- the samples of all that is due
abbrev pub samples_found : ℕ → World → List (Watch Watched) → List AddressedSample
samples_found now w watches = flat_map (λ (v : Watch Watched). samples_of now (found_in w v) v) watches

-- the notifications after the checks of all that is due
abbrev pub table_checked : ℕ → World → WatchTable → WatchTable
table_checked now w t = record t { watches = map (λ (v : Watch Watched). checked_watch now (found_in w v) v) t.watches }
