-- Type entries as they are read: an entry's fields, its dimensions, its sub entries one after another; bytes behind are skipped.
-- Beckhoff Information System, "AdsDatatypeEntry"; the profile is this project's own. Every number is little-endian.
use Rattle.std.specs.Prelude.{ℕ, zero, suc, ◌+◌, ◌-◌, ◌*◌, List, [], ◌∷◌, length, take, drop, slice_index, Bool, Option, Some, None, is_some, nat_le, ◌==◌}
use Rattle.std.specs.Prelude.{◌&&◌, if◌then◌else◌}
use Rattle.std.specs.Option.{option_and_then}
use Rattle.spec_formats.specs.Numbers.{number16, number32}
use Rattle.spec_formats.specs.TypeEntry.{Dimension, TypeFields, TypeEntry}

-- where name, type, comment and dimensions end; the name begins behind 42 bytes of numbers, each other behind the NUL before it
abbrev pub end_of_name : List ℕ → ℕ
end_of_name bytes = 42 + number16 32 bytes

abbrev pub end_of_type : List ℕ → ℕ
end_of_type bytes = end_of_name bytes + 1 + number16 34 bytes

abbrev pub end_of_comment : List ℕ → ℕ
end_of_comment bytes = end_of_type bytes + 1 + number16 36 bytes

abbrev pub end_of_fields : List ℕ → ℕ
end_of_fields bytes = end_of_comment bytes + 1 + 8 * number16 38 bytes

-- the entry's length covers its dimensions and does not go past the bytes, and each text ends in NUL
unfoldable pub is_fields : List ℕ → Bool
is_fields bytes =
    nat_le (end_of_fields bytes) (number32 0 bytes) && nat_le (number32 0 bytes) (length bytes)
    && (slice_index bytes (end_of_name bytes) == 0) && (slice_index bytes (end_of_type bytes) == 0)
    && (slice_index bytes (end_of_comment bytes) == 0)

-- so many dimensions: lower bound 4, elements 4
abbrev pub dimensions_in : ℕ → List ℕ → List Dimension
dimensions_in zero bytes = []
dimensions_in (suc n) bytes = record { low = number32 0 bytes; count = number32 4 bytes } ∷ dimensions_in n (drop 8 bytes)

-- the fields that stand in front
abbrev pub fields_at : List ℕ → TypeFields
fields_at bytes = record {
  size = number32 16 bytes;
  offset = number32 20 bytes;
  type_id = number32 24 bytes;
  flags = number32 28 bytes;
  name = take (number16 32 bytes) (drop 42 bytes);
  type_name = take (number16 34 bytes) (drop (end_of_name bytes + 1) bytes);
  comment = take (number16 36 bytes) (drop (end_of_type bytes + 1) bytes);
  dimensions = dimensions_in (number16 38 bytes) (drop (end_of_comment bytes + 1) bytes);
}

-- what stands behind the entry
abbrev pub after_entry : List ℕ → List ℕ
after_entry bytes = drop (number32 0 bytes) bytes

-- what stands behind the first sub entry, which has no sub items
unfoldable pub after_sub_in : List ℕ → Option (List ℕ)
after_sub_in bytes = if is_fields bytes && (number16 40 bytes == 0) then Some (after_entry bytes) else None

-- what stands behind so many sub entries
unfoldable pub after_subs_in : ℕ → List ℕ → Option (List ℕ)
after_subs_in zero bytes = Some bytes
after_subs_in (suc n) bytes = option_and_then (λ after. after_subs_in n after) (after_sub_in bytes)

-- the fields of so many sub entries
abbrev pub subs_in : ℕ → List ℕ → List TypeFields
subs_in zero bytes = []
subs_in (suc n) bytes = fields_at bytes ∷ subs_in n (after_entry bytes)

-- what stands behind the dimensions, up to the entry's length
abbrev pub behind_fields : List ℕ → List ℕ
behind_fields bytes = take (number32 0 bytes - end_of_fields bytes) (drop (end_of_fields bytes) bytes)

-- the entry that stands in front
abbrev pub entry_at : List ℕ → TypeEntry
entry_at bytes = record { fields = fields_at bytes; subs = subs_in (number16 40 bytes) (behind_fields bytes) }

-- there are its fields, and behind them as many sub entries as it counts
unfoldable pub is_entry : List ℕ → Bool
is_entry bytes = is_fields bytes && is_some (after_subs_in (number16 40 bytes) (behind_fields bytes))

-- the first entry, and the bytes after it
unfoldable pub type_entry_of : List ℕ → Option (TypeEntry × List ℕ)
type_entry_of bytes = if is_entry bytes then Some (entry_at bytes, after_entry bytes) else None
