-- Which copies go. This project's own choice.
use Rattle.std.specs.Prelude.{ℕ, List, length, filter, Bool, ◌&&◌, ◌||◌, ◌==◌, not, nat_le, nat_lt}
use Rattle.store_file.specs.declared.copy_name.Rank.{Rank}

abbrev pub is_later : Rank → Rank → Bool
is_later a b = nat_lt b.moment a.moment || ((b.moment == a.moment) && nat_lt b.count a.count)

abbrev pub is_same : Rank → Rank → Bool
is_same a b = (a.moment == b.moment) && (a.count == b.count)

-- one that is later than another, and not the one that was just made
abbrev pub later_than : Rank → Rank → Rank → Bool
later_than made rank one = is_later one rank && not (is_same one made)

-- whether a copy goes: it was not just made, and at least 19 others are later
abbrev pub goes : List Rank → Rank → Rank → Bool
goes there made rank = not (is_same rank made) && nat_le 19 (length (filter (later_than made rank) there))
