-- What a client hears next. Beckhoff Information System, "AMS Header", "ADS Device Notification".
use Rattle.std.specs.Prelude.{ℕ, ◌+◌, List, [], ◌∷◌, length, take, Bool, not, ◌==◌, ◌&&◌, Option, Some, None, is_none, unwrap_or, sum_by, filter, if◌then◌else◌}
use Rattle.std.specs.List.{list_any}
use Rattle.std.specs.Option.{option_map_or}
use Rattle.ads_base.specs.declared.peer.Peer.{Peer}
use Rattle.ads_base.specs.declared.peer.Peer.TheVariants as peer
use Rattle.spec_frames.specs.Division.{Front, Whole, Open, Broken, front_of, rest_of}
use Rattle.spec_formats.specs.Codes.{no_error}
use Rattle.spec_formats.specs.Header.{AmsHeader, is_same_address, header_of, payload_of}
use Rattle.spec_formats.specs.NotificationReading.{notification_of}
use Rattle.spec_formats.specs.Notification.{Stamp}
use Rattle.spec_formats.specs.Reply.{reply_of}
use Rattle.spec_formats.specs.Commands.{DEVICE_NOTIFICATION}
use Rattle.spec_client.specs.Heard.{Heard, Answered, Stray, TimedOut, NotYet, StampedSample, samples_of_stamps, heard_of_sample}
use Rattle.spec_client.specs.Heard as heard
use Rattle.spec_client.specs.Unanswered.{Unanswered, is_outstanding_at, is_timed_out, is_timed_out_at, next_timeout, without_first}
use Rattle.spec_client.specs.PassedOver.{is_response}
use Rattle.spec_client.specs.Client.{Client, packets_left}

-- what is heard, and the client after it
pub record Hearing : Type 0 where
  pub heard : Heard
  pub client : Client

abbrev pub hearing : Heard → Client → Hearing
hearing h c = record { heard = h; client = c }

-- from then on it is broken
abbrev pub broken_hearing : Client → Peer → Hearing
broken_hearing c p = hearing (heard.Broken p) (record c { broken = Some p })

-- a response answers an outstanding request of its id and its command, from the peer to the client
abbrev pub is_answer : Client → AmsHeader → Bool
is_answer c h =
    list_any (λ (u : Unanswered). is_outstanding_at h.id u && (u.command == h.command)) c.unanswered
    && is_same_address h.source c.peer && is_same_address h.target c.me

-- without an AMS error an answer's payload is a reply's text
abbrev pub is_off_its_text : AmsHeader → List ℕ → Bool
is_off_its_text h payload = (h.error == no_error) && is_none (reply_of h.command payload)

abbrev pub answer_hearing : Client → AmsHeader → List ℕ → Hearing
answer_hearing c h packet =
    if is_off_its_text h (payload_of packet) then broken_hearing c (peer.Text packet)
    else hearing (Answered h.id h.error h.command (payload_of packet)) (record c { unanswered = without_first (is_outstanding_at h.id) c.unanswered })

abbrev pub response_hearing : Client → AmsHeader → List ℕ → Hearing
response_hearing c h packet = if is_answer c h then answer_hearing c h packet else hearing (Stray h.id) c

-- the first of these samples is heard, and the others are left
abbrev pub samples_hearing : Client → List StampedSample → Option Hearing
samples_hearing c [] = None
samples_hearing c (s ∷ ss) = Some (hearing (heard_of_sample s) (record c { samples = ss }))

abbrev pub notification_hearing : Client → List ℕ → Option (List Stamp) → Option Hearing
notification_hearing c packet None = Some (broken_hearing c (peer.Text packet))
notification_hearing c packet (Some stamps) = samples_hearing c (samples_of_stamps stamps)

-- what a packet with this header leads to, or nothing where it is passed over
abbrev pub header_hearing : Client → Option AmsHeader → List ℕ → Option Hearing
header_hearing c None packet = None
header_hearing c (Some h) packet =
    if not (32 + h.len == length packet) then Some (broken_hearing c (peer.Text packet))
    else if is_response h then Some (response_hearing c h packet)
    else if h.command == DEVICE_NOTIFICATION then notification_hearing c packet (notification_of (payload_of packet))
    else None

unfoldable pub packet_hearing : Client → List ℕ → Option Hearing
packet_hearing c packet = header_hearing c (header_of packet) packet

-- behind all whole frames
abbrev pub rest_hearing : Client → Front → Hearing
rest_hearing c Whole = hearing NotYet c
rest_hearing c Open = hearing NotYet c
rest_hearing c Broken = broken_hearing c (peer.Frame (take 6 (rest_of c.received)))

abbrev pub with_one_taken : Client → Client
with_one_taken c = record c { taken = c.taken + 1 }

-- the first of these packets that says something, or what stands behind them
unfoldable pub packets_hearing : Client → List (List ℕ) → Hearing
packets_hearing c [] = rest_hearing c (front_of (rest_of c.received))
packets_hearing c (packet ∷ packets) =
    let later = packets_hearing (with_one_taken c) packets in
    unwrap_or (packet_hearing (with_one_taken c) packet) later

abbrev pub hearing_of_samples : Client → List StampedSample → Hearing
hearing_of_samples c [] = packets_hearing c (packets_left c)
hearing_of_samples c (s ∷ ss) = hearing (heard_of_sample s) (record c { samples = ss })

abbrev pub hearing_unless_broken : Client → Option Peer → Hearing
hearing_unless_broken c (Some p) = hearing (heard.Broken p) c
hearing_unless_broken c None = hearing_of_samples c c.samples

abbrev pub hearing_of_timeout : Client → Option Unanswered → Hearing
hearing_of_timeout c None = hearing_unless_broken c c.broken
hearing_of_timeout c (Some u) =
    hearing (TimedOut u.id u.sent (unwrap_or u.timed_out 0)) (record c { unanswered = without_first (is_timed_out_at u.id) c.unanswered })

-- timeouts come first, then what is broken, then the samples that are left, then the frames
unfoldable pub next_hearing : Client → Hearing
next_hearing c = hearing_of_timeout c (next_timeout c.unanswered)

-- how many samples a packet has, where it is a notification
abbrev pub samples_in : List ℕ → ℕ
samples_in packet = option_map_or (λ stamps. length (samples_of_stamps stamps)) (notification_of (payload_of packet)) 0

-- at most so many things are heard until all bytes are heard, or the peer is broken
abbrev pub hearings_left : Client → ℕ
hearings_left c =
    1 + length (filter is_timed_out c.unanswered) + length c.samples + sum_by (λ packet. 1 + samples_in packet) (packets_left c)
