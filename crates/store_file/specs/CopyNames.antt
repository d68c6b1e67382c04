-- The names of a store's copies: STORE.before-YYYYMMDDTHHMMSS, and for a second and later one of one moment a count behind it, as -2.
-- This project's own choice.
use Rattle.std.specs.Prelude.{ℕ, ◌+◌, ◌*◌, ◌-◌, ◌^◌, min, List, [], ◌∷◌, length, take, drop, slice_index, Bool, ◌&&◌, ◌||◌, ◌==◌, not}
use Rattle.std.specs.Prelude.{nat_le, nat_lt, if◌then◌else◌, Option, Some, None, option_and_then, bytes_eq}
use Rattle.std.specs.List.{list_all}
use Rattle.store_file.specs.declared.copy_name.Rank.{Rank}

-- what stands behind a front
abbrev pub behind_front : List ℕ → List ℕ → Option (List ℕ)
behind_front front text =
    if nat_le (length front) (length text) && bytes_eq (take (length front) text) front then Some (drop (length front) text) else None

-- ".before-"
abbrev pub before_word : List ℕ
before_word = 46 ∷ 98 ∷ 101 ∷ 102 ∷ 111 ∷ 114 ∷ 101 ∷ 45 ∷ []

-- '0' to '9'
abbrev pub is_digit : ℕ → Bool
is_digit b = nat_le 48 b && nat_le b 57

-- a number with one digit more; no name has so many that it stands still
abbrev pub with_digit : ℕ → ℕ → ℕ
with_digit n b = min (min (n * 10) (2 ^ 64 - 1) + (b - 48)) (2 ^ 64 - 1)

-- the number that digits write behind a number
abbrev pub number_behind : ℕ → List ℕ → ℕ
number_behind n [] = n
number_behind n (b ∷ bs) = number_behind (with_digit n b) bs

-- YYYYMMDDTHHMMSS
abbrev pub is_moment : List ℕ → Bool
is_moment text =
    (length text == 15) && (list_all is_digit (take 8 text) && ((slice_index text 8 == 84) && list_all is_digit (drop 9 text)))

-- '-', and a number from 2 to 9999 without zeros in front
abbrev pub is_count : List ℕ → Bool
is_count text =
    (nat_le 2 (length text) && nat_le (length text) 5)
    && ((slice_index text 0 == 45) && (not (slice_index text 1 == 48)
    && (list_all is_digit (drop 1 text) && nat_le 2 (number_behind 0 (drop 1 text)))))

-- what stands behind the moment: nothing, or a count
abbrev pub is_end : List ℕ → Bool
is_end text = (length text == 0) || is_count text

abbrev pub count_of : List ℕ → ℕ
count_of text = if length text == 0 then 1 else number_behind 0 (drop 1 text)

-- the rank that a moment and what stands behind it tell
unfoldable pub rank_of_parts : List ℕ → List ℕ → Option Rank
rank_of_parts moment end =
    if is_moment moment && is_end end
    then Some (record { moment = number_behind (number_behind 0 (take 8 moment)) (drop 9 moment); count = count_of end })
    else None

abbrev pub rank_in : List ℕ → Option Rank
rank_in text = if nat_lt (length text) 15 then None else rank_of_parts (take 15 text) (drop 15 text)

-- the rank of a copy by its file's name; none where that is no copy's of the store with this file's name
abbrev pub rank_of : List ℕ → List ℕ → Option Rank
rank_of store name = option_and_then rank_in (option_and_then (behind_front before_word) (behind_front store name))
