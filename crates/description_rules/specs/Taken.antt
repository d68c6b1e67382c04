-- For private contracts, and cited by no public clause: ranges of bytes that are taken.
use Rattle.std.specs.Prelude.{◌≡◌, ℕ, ◌≤◌, ◌<◌, List, length, slice_index_or, Bool, true, ◌&&◌, ◌||◌, ◌==◌, nat_le}
use Rattle.std.specs.List.{list_all}
use Rattle.description_rules.specs.declared.taken.ByteRange.{ByteRange}

-- no byte belongs to both
abbrev pub are_apart_ranges : ByteRange → ByteRange → Bool
are_apart_ranges r s = nat_le r.end s.start || nat_le s.end r.start

-- each range ends before the later ones start
pub record AreInOrder (ranges : List ByteRange) : Type 0 where
  pub wide : (k : ℕ) (d : ByteRange) → k < length ranges → (slice_index_or ranges k d).start ≤ (slice_index_or ranges k d).end
  pub apart : (i j : ℕ) (d : ByteRange) → i < j → j < length ranges → (slice_index_or ranges i d).end ≤ (slice_index_or ranges j d).start

-- how many ranges end before a byte
pub record IsPlaceOf (start : ℕ) (ranges : List ByteRange) (place : ℕ) : Type 0 where
  pub bound : place ≤ length ranges
  pub before : (k : ℕ) (d : ByteRange) → k < place → (slice_index_or ranges k d).end ≤ start
  pub behind : (k : ℕ) (d : ByteRange) → place ≤ k → k < length ranges → start < (slice_index_or ranges k d).end

-- there is no range at a place, or it starts behind this one
abbrev pub is_free_at : List ByteRange → ℕ → ByteRange → Bool
is_free_at ranges place range = (place == length ranges) || nat_le range.end (slice_index_or ranges place range).start

-- a range is taken where it is apart from those before
pub record Takes (range : ByteRange) (old new : List ByteRange) (free : Bool) : Type 0 where
  pub answer : free ≡ list_all (λ r. are_apart_ranges r range) old
  pub order : free ≡ true → AreInOrder new
  pub taken : free ≡ true → (p : ByteRange → Bool) → list_all p new ≡ (list_all p old && p range)
