-- A table with a value at a key.
use Rattle.std.specs.Prelude.{ℕ, List}
use Rattle.std.specs.Ordering.{nat_cmp, match_ordering}
use Rattle.std.specs.Cmp.Lexicographic.{slice_cmp}
use Rattle.toml.specs.Data.{Data, Members, no_members, member}

-- the table with this value at this key; the keys ascend
abbrev pub set_member : List ℕ → Data → Members → Members
set_member k d no_members = member k d no_members
set_member k d (member l e ms) =
    match_ordering (slice_cmp nat_cmp k l) (member k d (member l e ms)) (member l d ms) (member l e (set_member k d ms))
