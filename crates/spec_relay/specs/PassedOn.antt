-- What passages bring: frames to connections, requests that are passed on, and those that responses answer.
use Rattle.std.specs.Prelude.{ℕ, List, [], ◌∷◌, flat_map, filter, map, Bool, false, ◌==◌, ◌%◌, if◌then◌else◌, Option, Some, None}
use Rattle.spec_frames.specs.Frame.{frame_bytes}
use Rattle.spec_formats.specs.Header.{AmsHeader, header_of}
use Rattle.spec_formats.specs.Commands.{DEVICE_NOTIFICATION}
use Rattle.spec_relay.specs.RelayState.{Request}
use Rattle.spec_relay.specs.Routing.{Fate, Asked, Answered, NotFound, Dropped, not_found_packet, request_from}
use Rattle.spec_relay.specs.Passages.{Passage}

-- the frames that a connection was given by a passage: the frame itself, or what tells its sender that the target is not found
abbrev pub told_frames : Option AmsHeader → List (List ℕ)
told_frames None = []
told_frames (Some h) = frame_bytes (not_found_packet h) ∷ []

abbrev pub frames_by_fate : ℕ → Passage → Fate → List (List ℕ)
frames_by_fate d p (Asked n) = if n == d then frame_bytes p.packet ∷ [] else []
frames_by_fate d p (Answered n) = if n == d then frame_bytes p.packet ∷ [] else []
frames_by_fate d p (NotFound told) =
    if told then (if p.sender == d then told_frames (header_of p.packet) else []) else []
frames_by_fate d p Dropped = []

abbrev pub frames_to : ℕ → Passage → List (List ℕ)
frames_to d p = frames_by_fate d p p.fate

-- all frames that a connection was given
abbrev pub all_frames_to : ℕ → List Passage → List (List ℕ)
all_frames_to d passages = flat_map (frames_to d) passages

-- the packets that a connection sent
abbrev pub packets_from : ℕ → List Passage → List (List ℕ)
packets_from c passages =
    map (λ (p : Passage). p.packet) (filter (λ (p : Passage). p.sender == c) passages)

-- the request that a frame was passed on as; nothing of a notification
abbrev pub asked_by_header : Passage → Fate → Option AmsHeader → List Request
asked_by_header p (Asked d) (Some h) =
    if h.command == DEVICE_NOTIFICATION then [] else request_from p.sender d h ∷ []
asked_by_header p fate header = []

abbrev pub asked_in : Passage → List Request
asked_in p = asked_by_header p p.fate (header_of p.packet)

-- the request that a response, which a connection was given, answers: of that connection to its sender, with the addresses
-- exchanged and the same command and id
abbrev pub request_to : ℕ → ℕ → AmsHeader → Request
request_to asker asked h = request_from asker asked (record h { source = h.target; target = h.source })

abbrev pub answered_by_header : Passage → Fate → Option AmsHeader → List Request
answered_by_header p (Answered d) (Some h) = request_to d p.sender h ∷ []
answered_by_header p fate header = []

abbrev pub answered_in : Passage → List Request
answered_in p = answered_by_header p p.fate (header_of p.packet)

abbrev pub all_asked : List Passage → List Request
all_asked passages = flat_map asked_in passages

abbrev pub all_answered : List Passage → List Request
all_answered passages = flat_map answered_in passages

-- whether a packet is a response
abbrev pub is_response : Option AmsHeader → Bool
is_response None = false
is_response (Some h) = h.flags % 2 == 1

abbrev pub is_response_packet : List ℕ → Bool
is_response_packet packet = is_response (header_of packet)
