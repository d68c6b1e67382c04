-- A notification is added: which modes there are, and how much of what may be watched.
-- Beckhoff Information System, "ADS Add Device Notification".
use Rattle.std.specs.Prelude.{ℕ, ◌+◌, List, [], length, ◌||◌, nat_lt, nat_le, ◌==◌, if◌then◌else◌, Option, Some, None}
use Rattle.std.specs.Prelude.{Result, Ok, Err}
use Rattle.std.specs.Int.{w32, to_le_bytes}
use Rattle.spec_formats.specs.Codes.{invalid_size, mode_not_supported, no_more_notifications, watch_too_big}
use Rattle.spec_formats.specs.Groups.{Group}
use Rattle.spec_machine.specs.Access.{Addressed}
use Rattle.spec_machine.specs.Watches.{Watch, Mode, Cyclic, OnChange}
use Rattle.spec_machine.specs.Client.{Client, Adds}
use Rattle.spec_machine.specs.Acts.{Act, Refusal, changing}
use Rattle.spec_machine.specs.Reach.{reach_of}
use Rattle.spec_machine.specs.Writes.{Asker}
use Rattle.spec_machine.specs.ByName.{MAX_NUMBER}

-- ADSTRANS_SERVERCYCLE and ADSTRANS_SERVERONCHA
abbrev pub mode_of : ℕ → Option Mode
mode_of number =
    if number == 3 then Some Cyclic else if number == 4 then Some OnChange else None

-- This project's own choice: how many bytes a notification may watch, and how many notifications a
-- client may have.
abbrev pub MAX_WATCHED : ℕ
MAX_WATCHED = 2048

abbrev pub MAX_WATCHES : ℕ
MAX_WATCHES = 512

-- the next notification of a client: its handle is one more than the additions so far
abbrev pub next_watch : Client → Asker → Mode → ℕ → List Addressed → Watch (List Addressed)
next_watch c k mode cycle watched = record {
  handle = c.additions + 1;
  port = k.port.number;
  address = k.address;
  watched = watched;
  mode = mode;
  cycle = cycle;
  last = None;
  sent = [];
}

abbrev pub add_watch : Client → Watch (List Addressed) → Act
add_watch c w =
    if nat_le MAX_WATCHES (length c.watches) || nat_le MAX_NUMBER c.additions
    then Refusal no_more_notifications else changing (to_le_bytes w32 w.handle) (Adds w)

-- only bytes, a bit, or a value by handle can be watched, and at least one byte of it
abbrev pub add_reached : Client → Asker → Mode → ℕ → ℕ → Result (List Addressed) ℕ → Act
add_reached c k mode len cycle (Err code) = Refusal code
add_reached c k mode len cycle (Ok watched) =
    if len == 0 then Refusal invalid_size else add_watch c (next_watch c k mode cycle watched)

-- where these are what is to be watched, or the code that refuses it
abbrev pub add_of_reach : Client → Asker → ℕ → ℕ → Option Mode → Result (List Addressed) ℕ → Act
add_of_reach c k len cycle None reached = Refusal mode_not_supported
add_of_reach c k len cycle (Some mode) reached =
    if nat_lt MAX_WATCHED len then Refusal watch_too_big else add_reached c k mode len cycle reached

abbrev pub add_act : Client → Asker → Option Group → ℕ → ℕ → ℕ → Option Mode → Act
add_act c k group offset len cycle mode = add_of_reach c k len cycle mode (reach_of c k.port group offset len)
