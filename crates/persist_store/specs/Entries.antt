-- Which entry of a body text a value of `StoredEntry` is.
use Rattle.std.specs.Prelude.{ℕ, List}
use Rattle.spec_store.specs.BodyText as body
use Rattle.persist_store.specs.declared.stored_entry.StoredEntry.{StoredEntry}

abbrev pub entry_meant : StoredEntry → body.StoredEntry
entry_meant e = record { port = e.port; name = e.name.now; form = e.form.now; bytes = e.bytes.now }

-- the first bytes of a text, and what stands behind them
abbrev pub split_meant : List ℕ → List ℕ → body.Split
split_meant front behind = record { front = front; behind = behind }

-- an entry, and what stands behind it
abbrev pub entry_read : body.StoredEntry → List ℕ → body.EntryRead
entry_read entry behind = record { entry = entry; behind = behind }
