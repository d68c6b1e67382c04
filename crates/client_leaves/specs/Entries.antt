-- The entries of an upload's types as they are kept.
use Rattle.std.specs.Prelude.{ℕ, List, map, is_some, true, ◌≡◌}
use Rattle.std.specs.List.{All}
use Rattle.spec_formats.specs.TypeEntry as formats
use Rattle.spec_formats.specs.TypeEntryReading.{after_subs_in}
use Rattle.name_index.specs.Numbered.{AreNumbered}
use Rattle.type_upload.specs.declared.entry.TypeEntry.{TypeEntry}
use Rattle.type_upload.specs.Entry.{entry_meant}
use Rattle.client_leaves.specs.declared.entries.Entries.{Entries}

abbrev pub entries_meant : Entries → List formats.TypeEntry
entries_meant es = map entry_meant es.list.items

abbrev pub entry_name : TypeEntry → List ℕ
entry_name e = e.name.now

-- the entry's sub entries stand whole in its bytes
abbrev pub HasSubs : TypeEntry → Type 0
HasSubs e = is_some (after_subs_in e.subs e.sub_bytes.now) ≡ true

-- the index has the places of the entries' names, and each entry its sub entries
pub record IsIndexed (es : Entries) : Type 0 where
  pub names : AreNumbered (map entry_name es.list.items) es.index
  pub subs : All HasSubs es.list.items
