-- A body text, slots and what they stand for, computed.
use Rattle.std.specs.Prelude.{◌≡◌, refl, ℕ, List, [], ◌∷◌, ◌++◌, codes, map, false, Option, Some, None, option_map}
use Rattle.spec_store.specs.BodyText.{StoredEntry, entry_of, entries_in, entries_of}
use Rattle.spec_store.specs.Slots.{Slot, Standing, behind_gate, slot_of, standing_of_slots, standing_of}
use Rattle.spec_store.specs.Saves.{calls_of_save}
use Rattle.spec_store.specs.Stops.{WriteAt, Sync}
use Rattle.spec_frames.proofs.Hex.{hex}

-- one entry: port 851, `Main.title`, `string(7)`, and `Hi`
abbrev body : List ℕ
body = hex (codes "01000000 5303 0a00 4d61696e2e7469746c65 0900000000000000 737472696e67283729 08000000 4869000000000000")

abbrev entry : StoredEntry
entry = record { port = 851; name = codes "Main.title"; form = codes "string(7)"; bytes = hex (codes "4869000000000000") }

read_back : entries_of body ≡ Some (entry ∷ [])
unfolding entry_of entries_in entries_of
read_back = refl

-- a byte less, a byte more, and another number of entries are no body text
one_byte_less : entries_of (hex (codes "01000000 5303 0000 0000000000000000 01000000")) ≡ None
unfolding entry_of entries_in entries_of
one_byte_less = refl

one_byte_more : entries_of (hex (codes "00000000 00")) ≡ None
unfolding entry_of entries_in entries_of
one_byte_more = refl

no_entries : entries_of (hex (codes "00000000")) ≡ Some []
unfolding entry_of entries_in entries_of
no_entries = refl

-- slots: a gate, and what stands behind it
abbrev slot : ℕ → List ℕ → Slot
slot sequence body = record { sequence = sequence; body = body }

abbrev text : ℕ → ℕ → List ℕ → List ℕ
text gate sequence body = gate ∷ behind_gate (slot sequence body)

abbrev empty_body : List ℕ
empty_body = hex (codes "00000000")

open_slot : slot_of (text 1 7 body ++ hex (codes "ffff")) ≡ Some (slot 7 body)
unfolding slot_of entry_of entries_in entries_of
open_slot = refl

-- another gate, a missing byte, and a body that is no body text do not count
closed_slots : map slot_of (text 0 7 body ∷ text 7 7 body ∷ hex (codes "01 0700000000000000 04000000 000000") ∷ text 1 7 (hex (codes "01000000")) ∷ [] ∷ [])
    ≡ None ∷ None ∷ None ∷ None ∷ None ∷ []
unfolding slot_of entry_of entries_in entries_of
closed_slots = refl

abbrev standing_between : List ℕ → List ℕ → Option ℕ
standing_between first second = option_map (λ (s : Standing). s.slot.sequence) (standing_of_slots (slot_of first) (slot_of second))

greater_stands : standing_between (text 1 7 body) (text 1 8 empty_body) ≡ Some 8
unfolding slot_of entry_of entries_in entries_of
greater_stands = refl

first_of_equals : standing_of_slots (slot_of (text 1 7 body)) (slot_of (text 1 7 empty_body)) ≡ Some (record { is_second = false; slot = slot 7 body })
unfolding slot_of entry_of entries_in entries_of
first_of_equals = refl

one_counts : standing_between (text 3 9 body) (text 1 2 empty_body) ≡ Some 2
unfolding slot_of entry_of entries_in entries_of
one_counts = refl

-- an empty file stands for nothing, and its first save goes to the first slot
first_save : calls_of_save [] empty_body ≡ WriteAt 0 (0 ∷ []) ∷ Sync
    ∷ WriteAt 1 (hex (codes "0100000000000000 04000000 00000000")) ∷ Sync ∷ WriteAt 0 (1 ∷ []) ∷ Sync ∷ []
unfolding standing_of slot_of entry_of entries_in entries_of
first_save = refl

-- the second save goes to the second slot, which the file does not reach
second_save : calls_of_save (text 1 1 empty_body) empty_body ≡ WriteAt 1048592 (0 ∷ []) ∷ Sync
    ∷ WriteAt 1048593 (hex (codes "0200000000000000 04000000 00000000")) ∷ Sync ∷ WriteAt 1048592 (1 ∷ []) ∷ Sync ∷ []
unfolding standing_of slot_of entry_of entries_in entries_of
second_save = refl

-- a gate that a stop left as 7 is left as it is
gate_is_left : calls_of_save (text 7 5 body) empty_body ≡ WriteAt 1 (hex (codes "0100000000000000 04000000 00000000")) ∷ Sync ∷ WriteAt 0 (1 ∷ []) ∷ Sync ∷ []
unfolding standing_of slot_of entry_of entries_in entries_of
gate_is_left = refl
