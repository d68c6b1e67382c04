-- Which AMS packets say nothing to a client, and are passed over. Beckhoff Information System, "AMS Header".
use Rattle.std.specs.Prelude.{ℕ, ◌+◌, ◌%◌, List, [], ◌∷◌, length, Bool, true, false, not, ◌==◌, Option, Some, None, if◌then◌else◌}
use Rattle.spec_formats.specs.Commands.{DEVICE_NOTIFICATION}
use Rattle.spec_formats.specs.Header.{AmsHeader, header_of, payload_of}
use Rattle.spec_formats.specs.Notification.{Stamp}
use Rattle.spec_formats.specs.NotificationReading.{notification_of}
use Rattle.spec_client.specs.Heard.{StampedSample, samples_of_stamps}

-- a response carries the flag 0x0001
abbrev pub is_response : AmsHeader → Bool
is_response h = (h.flags % 2) == 1

abbrev pub is_any : List StampedSample → Bool
is_any [] = false
is_any (s ∷ ss) = true

-- a notification has samples, or it is off its text
abbrev pub notification_says : Option (List Stamp) → Bool
notification_says None = true
notification_says (Some stamps) = is_any (samples_of_stamps stamps)

-- a packet with a wrong data length, a response, or a notification
abbrev pub header_says : Option AmsHeader → List ℕ → Bool
header_says None packet = false
header_says (Some h) packet =
    if not (32 + h.len == length packet) then true
    else if is_response h then true
    else if h.command == DEVICE_NOTIFICATION then notification_says (notification_of (payload_of packet))
    else false

unfoldable pub says_something : List ℕ → Bool
says_something packet = header_says (header_of packet) packet
