-- What is known of a wire's doors.
use Rattle.std.specs.Prelude.{◌≡◌, ℕ, ℤ, Bool, not, ◌==◌, vec_len, Option, if◌then◌else◌}
use Rattle.ads_outside.specs.Rose.{raised}
use Rattle.ads_edge.specs.UsedUp.{are_used_up}
use Rattle.ads_edge.specs.declared.doors.Doors.{Doors}

-- someone may wait to be let in
abbrev pub knocks : Doors → Bool
knocks d = not (d.left == 0)

-- not all are let in
abbrev pub is_guarded : Doors → Bool
is_guarded d = not (vec_len d.allowed == 0)

-- only which door is asked next, and how many are to be asked, may differ
abbrev pub KeepsDoors : Doors → Doors → Type 0
KeepsDoors old new = new ≡ record old { next = new.next; left = new.left }

-- how often nobody could be accepted since no descriptor was left, after the system refused for a reason with this number
abbrev pub without_then : Option ℤ → ℕ → ℕ
without_then number count = if are_used_up number then raised count else count
