-- Notifications of one client, over any kind of bytes that they watch.
-- Beckhoff Information System, "ADS Add Device Notification", "ADS Device Notification".
use Rattle.std.specs.Prelude.{ℕ, ◌-◌, max, List, [], ◌∷◌, Bool, true, ◌||◌, ◌&&◌, not}
use Rattle.std.specs.Prelude.{nat_le, bytes_eq, if◌then◌else◌, Option, Some, None, option_map}
use Rattle.std.specs.Prelude.{filter_map, filter, is_some}
use Rattle.spec_formats.specs.Header.{AmsAddress}
use Rattle.spec_formats.specs.Notification.{Sample}

-- ADSTRANS_SERVERCYCLE and ADSTRANS_SERVERONCHA
pub data Mode : Type 0 where
  Cyclic : Mode
  OnChange : Mode

-- a notification: its handle; the port and the client address that it was added for; what it
-- watches; its mode and its cycle in 100 ns; its last check, and the bytes that it last sent
pub record Watch (R : Type 0) : Type 0 where
  pub handle : ℕ
  pub port : ℕ
  pub address : AmsAddress
  pub watched : R
  pub mode : Mode
  pub cycle : ℕ
  pub last : Option ℕ
  pub sent : List ℕ

-- it is due at its first tick, and then where the cycle has passed since its last check. That a
-- cycle is counted in 100 ns is this project's own choice.
abbrev pub is_due_after : ℕ → ℕ → Option ℕ → Bool
is_due_after now cycle None = true
is_due_after now cycle (Some last) = nat_le (max cycle 1) (now - last)

abbrev pub is_due : {R : Type 0} → ℕ → Watch R → Bool
is_due now w = is_due_after now w.cycle w.last

-- a check that is not the first sends the bytes by the mode
abbrev pub sends_by_mode : Mode → Bool → Bool
sends_by_mode Cyclic is_same = true
sends_by_mode OnChange is_same = not is_same

abbrev pub is_sent : {R : Type 0} → List ℕ → Watch R → Bool
is_sent bytes w = not (is_some w.last) || sends_by_mode w.mode (bytes_eq bytes w.sent)

abbrev pub after_check : {R : Type 0} → ℕ → List ℕ → Watch R → Watch R
after_check now bytes w =
    if is_sent bytes w then record w { last = Some now; sent = bytes }
    else record w { last = Some now }

-- a notification after a tick at which its bytes are these
abbrev pub checked_watch : {R : Type 0} → ℕ → List ℕ → Watch R → Watch R
checked_watch now bytes w = if is_due now w then after_check now bytes w else w

-- a sample, and the port and the client address that it goes between
pub record AddressedSample : Type 0 where
  pub port : ℕ
  pub address : AmsAddress
  pub sample : Sample

abbrev pub addressed_sample : {R : Type 0} → List ℕ → Watch R → AddressedSample
addressed_sample bytes w = record {
  port = w.port;
  address = w.address;
  sample = record { handle = w.handle; bytes = bytes };
}

-- the sample that the tick sends, if any
abbrev pub samples_of : {R : Type 0} → ℕ → List ℕ → Watch R → List AddressedSample
samples_of now bytes w =
    if is_due now w && is_sent bytes w then addressed_sample bytes w ∷ [] else []

-- A reload, which for a port and what is watched there tells what is watched from then on, or none.
abbrev pub watch_after_reload : {R : Type 0} → (ℕ → R → Option R) → Watch R → Option (Watch R)
watch_after_reload moves w =
    option_map (λ watched. record w { watched = watched }) (moves w.port w.watched)

unfoldable pub watches_after_reload : {R : Type 0} → (ℕ → R → Option R) → List (Watch R)
    → List (Watch R)
watches_after_reload moves watches = filter_map (watch_after_reload moves) watches

-- the notifications that a reload ends
unfoldable pub ended_watches : {R : Type 0} → (ℕ → R → Option R) → List (Watch R) → List (Watch R)
ended_watches {R} moves watches =
    filter (λ (w : Watch R). not (is_some (moves w.port w.watched))) watches
