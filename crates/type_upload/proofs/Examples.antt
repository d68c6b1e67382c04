-- Worked examples, computed: the entries of the tests as they are read.
use Rattle.std.specs.Prelude.{◌≡◌, ℕ, List, [], ◌∷◌, ◌++◌, take, set, Some, None, codes}
use Rattle.std.proofs.Common.{refl}
use Rattle.spec_formats.specs.TypeEntry.{TypeFields, TypeEntry}
use Rattle.spec_formats.specs.TypeEntryReading.{is_fields, after_sub_in, after_subs_in, is_entry, type_entry_of}

-- the entry of a structure `S` of 4 bytes, id 65, flags 1, version 9, hashes 7 and 8: length 154, two sub items
abbrev numbers_of_s : List ℕ
numbers_of_s = 154 ∷ 0 ∷ 0 ∷ 0 ∷ 9 ∷ 0 ∷ 0 ∷ 0 ∷ 7 ∷ 0 ∷ 0 ∷ 0 ∷ 8 ∷ 0 ∷ 0 ∷ 0 ∷ 4 ∷ 0 ∷ 0 ∷ 0 ∷ 0 ∷ 0 ∷ 0 ∷ 0 ∷ 65 ∷ 0 ∷ 0 ∷ 0
    ∷ 1 ∷ 0 ∷ 0 ∷ 0 ∷ 1 ∷ 0 ∷ 0 ∷ 0 ∷ 0 ∷ 0 ∷ 0 ∷ 0 ∷ 2 ∷ 0 ∷ []

-- its member `a`, 2 INT from index -1 on, id 2, flags 2: length 58, one dimension, a further byte behind it
abbrev member_a : List ℕ
member_a = 58 ∷ 0 ∷ 0 ∷ 0 ∷ 5 ∷ 0 ∷ 0 ∷ 0 ∷ 0 ∷ 0 ∷ 0 ∷ 0 ∷ 0 ∷ 0 ∷ 0 ∷ 0 ∷ 4 ∷ 0 ∷ 0 ∷ 0 ∷ 0 ∷ 0 ∷ 0 ∷ 0 ∷ 2 ∷ 0 ∷ 0 ∷ 0
    ∷ 2 ∷ 0 ∷ 0 ∷ 0 ∷ 1 ∷ 0 ∷ 3 ∷ 0 ∷ 0 ∷ 0 ∷ 1 ∷ 0 ∷ 0 ∷ 0 ∷ codes "a" ++ 0 ∷ codes "INT" ++ 0 ∷ 0
    ∷ 0xff ∷ 0xff ∷ 0xff ∷ 0xff ∷ 2 ∷ 0 ∷ 0 ∷ 0 ∷ 0xee ∷ []

-- its member `b`, of no bytes, at 4: length 49
abbrev member_b : List ℕ
member_b = 49 ∷ 0 ∷ 0 ∷ 0 ∷ 1 ∷ 0 ∷ 0 ∷ 0 ∷ 0 ∷ 0 ∷ 0 ∷ 0 ∷ 0 ∷ 0 ∷ 0 ∷ 0 ∷ 0 ∷ 0 ∷ 0 ∷ 0 ∷ 4 ∷ 0 ∷ 0 ∷ 0 ∷ 2 ∷ 0 ∷ 0 ∷ 0
    ∷ 2 ∷ 0 ∷ 0 ∷ 0 ∷ 1 ∷ 0 ∷ 3 ∷ 0 ∷ 0 ∷ 0 ∷ 0 ∷ 0 ∷ 0 ∷ 0 ∷ codes "b" ++ 0 ∷ codes "INT" ++ 0 ∷ 0 ∷ []

-- the whole, with a further byte behind the last sub entry
abbrev structure : List ℕ
structure = numbers_of_s ++ codes "S" ++ 0 ∷ 0 ∷ 0 ∷ member_a ++ member_b ++ 0xee ∷ []

abbrev said_of : ℕ → ℕ → ℕ → ℕ → List ℕ → List ℕ → TypeFields
said_of size offset id flags name text = record {
  size = size;
  offset = offset;
  type_id = id;
  flags = flags;
  name = name;
  type_name = text;
  comment = [];
  dimensions = [];
}

abbrev said_of_a : TypeFields
said_of_a = record (said_of 4 0 2 2 (codes "a") (codes "INT")) { dimensions = record { low = 0xffffffff; count = 2 } ∷ [] }

abbrev said_of_s : TypeEntry
said_of_s = record { fields = said_of 4 0 65 1 (codes "S") []; subs = said_of_a ∷ said_of 0 4 2 2 (codes "b") (codes "INT") ∷ [] }

record TypeEntryRows : Type 0 where
  -- both further bytes are skipped, and what stands behind the entry is left
  whole : type_entry_of (structure ++ 0x77 ∷ []) ≡ Some (said_of_s, 0x77 ∷ [])
  -- a sub entry is an entry by itself
  sub : type_entry_of (member_a ++ member_b) ≡ Some (record { fields = said_of_a; subs = [] }, member_b)
  -- the last byte is missing
  cut : type_entry_of (take 153 structure) ≡ None
  -- the entry counts three sub items; the first of its two has one of its own; the name of the second does not end in NUL
  three : type_entry_of (set structure 40 3) ≡ None
  items : type_entry_of (set structure 86 1) ≡ None
  nul : type_entry_of (set structure 147 1) ≡ None

type_entry_rows : TypeEntryRows
unfolding is_fields after_sub_in after_subs_in is_entry type_entry_of
type_entry_rows = record { whole = refl; sub = refl; cut = refl; three = refl; items = refl; nul = refl }
