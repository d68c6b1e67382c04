-- Words that say of something whether it is done. This project's own choice.
use Rattle.std.specs.Prelude.{ℕ, List, Bool, true, false, Option, Some, None, bytes_eq, codes, if◌then◌else◌}

-- two words say it
abbrev pub truth_in : List ℕ → Option Bool
truth_in word = if bytes_eq word (codes "true") then Some true else if bytes_eq word (codes "false") then Some false else None

-- a damaged store is begun anew
abbrev pub begins_in : List ℕ → Bool
begins_in word = bytes_eq word (codes "begin")
