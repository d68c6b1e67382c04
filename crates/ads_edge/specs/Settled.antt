-- When other bytes in a description's file are given. This project's own choice.
use Rattle.std.specs.Prelude.{ℕ, ◌-◌, ◌*◌, List, [], Bool, false, ◌&&◌, ◌||◌, ◌==◌, not, nat_le, nat_lt, bytes_eq, Option, Some, None, if◌then◌else◌}
use Rattle.std.specs.Time.{instant_nanos}
use Rattle.ads_edge.specs.declared.found.Found.{Found}

-- the time of the next reading is still to come
abbrev pub is_early : ℕ → ℕ → Bool
is_early due now = nat_lt 0 (due - now)

-- a file was found to hold these bytes at each reading since a time that lies so many seconds back
abbrev pub was_found : ℕ → ℕ → List ℕ → Option Found → Bool
was_found settle now bytes None = false
was_found settle now bytes (Some found) = bytes_eq found.bytes bytes && nat_le (settle * 1_000_000_000) (now - instant_nanos found.since)

-- bytes that a file holds now have stood for so many seconds
abbrev pub has_stood : ℕ → ℕ → List ℕ → Option Found → Bool
has_stood settle now bytes found = settle == 0 || was_found settle now bytes found

-- they are given: they are others than last, and have stood for so long
abbrev pub is_given : ℕ → ℕ → List ℕ → List ℕ → Option Found → Bool
is_given settle now last bytes found = not (bytes_eq bytes last) && has_stood settle now bytes found

-- since when a file holds these bytes at each reading: since it was found so, or since now
abbrev pub found_since : ℕ → List ℕ → Option Found → ℕ
found_since now bytes None = now
found_since now bytes (Some found) = if bytes_eq found.bytes bytes then instant_nanos found.since else now

-- what is first compared with: what is served, or nothing
abbrev pub first_of : Bool → List ℕ → List ℕ
first_of anew first = if anew then [] else first
