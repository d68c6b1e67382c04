-- The body of a store: a number of entries, each with the bytes of one symbol. Every number is little-endian.
-- This project's own format.
use Rattle.std.specs.Prelude.{ℕ, zero, suc, ◌<◌, ◌^◌, List, [], ◌∷◌, ◌++◌, length, take, drop, flat_map, Bool}
use Rattle.std.specs.Prelude.{nat_lt, if◌then◌else◌, Option, Some, None, is_some, option_map, option_and_then}
use Rattle.std.specs.Int.{w16, w32, w64, to_le_bytes}
use Rattle.spec_formats.specs.Numbers.{number16, number32, number64}

-- a stored value: the port and name of its symbol, the form of its type, and its bytes
pub record StoredEntry : Type 0 where
  pub port : ℕ
  pub name : List ℕ
  pub form : List ℕ
  pub bytes : List ℕ

-- port 2, name length 2, name, form length 8, form, size 4, bytes
abbrev pub entry_bytes : StoredEntry → List ℕ
entry_bytes e =
    to_le_bytes w16 e.port ++ to_le_bytes w16 (length e.name) ++ e.name
    ++ to_le_bytes w64 (length e.form) ++ e.form ++ to_le_bytes w32 (length e.bytes) ++ e.bytes

-- number of entries 4, entries
abbrev pub body_text : List StoredEntry → List ℕ
body_text entries = to_le_bytes w32 (length entries) ++ flat_map entry_bytes entries

-- each number fits its field
pub record FitsEntry (e : StoredEntry) : Type 0 where
  pub port : e.port < 2 ^ 16
  pub name : length e.name < 2 ^ 16
  pub form : length e.form < 2 ^ 64
  pub bytes : length e.bytes < 2 ^ 32

-- the first bytes of a text, and what stands behind them
pub record Split : Type 0 where
  pub front : List ℕ
  pub behind : List ℕ

-- so many bytes, where they are all there
abbrev pub split_at : ℕ → List ℕ → Option Split
split_at n text =
    if nat_lt (length text) n then None else Some (record { front = take n text; behind = drop n text })

-- an entry, and what stands behind it
pub record EntryRead : Type 0 where
  pub entry : StoredEntry
  pub behind : List ℕ

-- the bytes, as many as their size says
abbrev pub with_bytes_read : ℕ → List ℕ → List ℕ → Split → Option EntryRead
with_bytes_read port name form size = option_map
    (λ (b : Split). record { entry = record { port = port; name = name; form = form; bytes = b.front }; behind = b.behind })
    (split_at (number32 0 size.front) size.behind)

-- the size behind the form
abbrev pub with_form_read : ℕ → List ℕ → Split → Option EntryRead
with_form_read port name form = option_and_then (with_bytes_read port name form.front) (split_at 4 form.behind)

-- the form, as long as its length says
abbrev pub with_form_length_read : ℕ → List ℕ → Split → Option EntryRead
with_form_length_read port name len =
    option_and_then (with_form_read port name) (split_at (number64 0 len.front) len.behind)

-- the form's length behind the name
abbrev pub with_name_read : ℕ → Split → Option EntryRead
with_name_read port name = option_and_then (with_form_length_read port name.front) (split_at 8 name.behind)

-- the name, as long as its length says
abbrev pub with_head_read : Split → Option EntryRead
with_head_read head =
    option_and_then (with_name_read (number16 0 head.front)) (split_at (number16 2 head.front) head.behind)

-- the entry at the front of a text
unfoldable pub entry_of : List ℕ → Option EntryRead
entry_of text = option_and_then with_head_read (split_at 4 text)

-- so many entries and nothing behind them
unfoldable pub entries_in : ℕ → List ℕ → Option (List StoredEntry)
entries_in zero [] = Some []
entries_in zero (b ∷ bs) = None
entries_in (suc n) text = option_and_then
    (λ (r : EntryRead). option_map (λ entries. r.entry ∷ entries) (entries_in n r.behind)) (entry_of text)

-- the entries of a body text, whatever they hold; none where the bytes are no body text
unfoldable pub entries_of : List ℕ → Option (List StoredEntry)
entries_of bytes = option_and_then (λ (count : Split). entries_in (number32 0 count.front) count.behind) (split_at 4 bytes)

abbrev pub is_body_text : List ℕ → Bool
is_body_text bytes = is_some (entries_of bytes)
