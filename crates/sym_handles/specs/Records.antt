-- Records in a slab, and the list of the handles that they belong to. Private: no public clause cites this file.
use Rattle.std.specs.Prelude.{◌≡◌, ◌≢◌, ℕ, ◌<◌, ◌≤◌, List, map, length, slice_index_or, Bool, IsSome, Option}
use Rattle.std.specs.Prelude.{None, is_some, unwrap_or, count_by, All, AllPairs, filter, ◌||◌, nat_le}
use Rattle.std.specs.Prelude.{if◌then◌else◌, option_and_then}
use Rattle.spec_machine.specs.ByName.{MAX_LIVE, MAX_NUMBER}
use Rattle.symbol_table.specs.declared.kept.KeptPlace.{KeptPlace}
use Rattle.symbol_table.specs.Moves.{moved_place}
use Rattle.sym_handles.specs.declared.records.Record.{Record}
use Rattle.sym_handles.specs.declared.entries.Entry.{Entry}
use Rattle.sym_handles.specs.Kept.{KeptHandle}

-- the records by their keys
abbrev pub Slots : Type 0
Slots = List (Option Record)

abbrev pub record_in : Slots → ℕ → Record
record_in slots key = unwrap_or (slice_index_or slots key None) (record { port = 0; place = None })

-- the handle of an entry
abbrev pub held : Slots → Entry → KeptHandle
held slots e = record { number = e.handle; port = (record_in slots e.key).port; place = (record_in slots e.key).place }

abbrev pub all_held : Slots → List Entry → List KeptHandle
all_held slots entries = map (held slots) entries

abbrev pub is_live : KeptHandle → Bool
is_live h = is_some h.place

-- how many of them are live
abbrev pub live_among : List KeptHandle → ℕ
live_among hs = length (filter is_live hs)

-- how many live handles a record stands for
abbrev pub live_in : Record → ℕ
live_in r = if is_some r.place then 1 else 0

-- how many records are stored
abbrev pub stored_count : Slots → ℕ
stored_count slots = count_by is_some slots

-- each entry has a record of its own, no other record is stored, and the handles rise
pub record IsIndex (slots : Slots) (entries : List Entry) : Type 0 where
  pub filled : All (λ (e : Entry). IsSome (slice_index_or slots e.key None)) entries
  pub no_other : stored_count slots ≡ length entries
  pub apart : AllPairs (λ (e f : Entry). e.key ≢ f.key) entries
  pub rises : AllPairs (λ (e f : Entry). e.handle < f.handle) entries

-- no handle is above those granted, and the live ones are counted
pub record AreHeld (slots : Slots) (entries : List Entry) (granted live : ℕ) : Type 0 where
  pub index : IsIndex slots entries
  pub numbered : All (λ (e : Entry). e.handle ≤ granted) entries
  pub counted : live ≡ live_among (all_held slots entries)

-- a record after a reload
abbrev pub moved_record : List KeptPlace → Record → Record
moved_record kept r = record r { place = option_and_then (moved_place kept r.port) r.place }

-- where a handle stands in the list
pub record IsAt (entries : List Entry) (handle i : ℕ) : Type 0 where
  pub inside : i < length entries
  pub is : (d : Entry) → (slice_index_or entries i d).handle ≡ handle

-- no more can be granted
abbrev pub is_full : ℕ → List KeptHandle → Bool
is_full granted hs = nat_le MAX_LIVE (live_among hs) || nat_le MAX_NUMBER granted
