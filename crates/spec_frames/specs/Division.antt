-- The division of a stream into frames and a rest: a function of all bytes since the opening.
use Rattle.std.specs.Prelude.{◌≡◌, ◌⊎◌, ℕ, zero, suc, ◌+◌, List, [], ◌∷◌, ◌++◌, length, take, drop}
use Rattle.std.specs.Prelude.{Bool, true, false, ◌&&◌, ◌==◌, nat_le, nat_lt, if◌then◌else◌}
use Rattle.std.specs.Prelude.{slice_index, All}
use Rattle.std.specs.List.{flat_map}
use Rattle.std.specs.Int.{w32, from_le_bytes}
use Rattle.spec_frames.specs.Frame.{IsAmsPacket, frame_bytes, IsOpenText, IsBrokenText}

-- frames, told by their AMS packets, and a rest that is open or broken
pub record Divides (stream : List ℕ) (packets : List (List ℕ)) (rest : List ℕ) : Type 0 where
  pub whole : stream ≡ flat_map frame_bytes packets ++ rest
  pub packets_fit : All IsAmsPacket packets
  pub no_frame_behind : IsOpenText rest ⊎ IsBrokenText rest

-- the AMS length in the first six bytes of a text
unfoldable pub ams_length_of : List ℕ → ℕ
ams_length_of text = from_le_bytes w32 (take 4 (drop 2 text))

-- the first six bytes are those of a frame
unfoldable pub is_header : List ℕ → Bool
is_header text = (slice_index text 0 == 0) && (slice_index text 1 == 0)
    && nat_le 32 (ams_length_of text) && nat_le (ams_length_of text) 2097152

-- what stands at the front of a text: a whole frame, or the text is open or broken
pub data Front : Type 0 where
  Whole : Front
  Open : Front
  Broken : Front

-- a text is open where it is shorter than a header, or shorter than the frame of its header
abbrev pub front : Bool → Bool → Bool → Front
front has_no_header is_header_of_a_frame is_short =
    if has_no_header then Open else if is_header_of_a_frame then (if is_short then Open else Whole) else Broken

unfoldable pub front_of : List ℕ → Front
front_of text = front (nat_lt (length text) 6) (is_header text) (nat_lt (length text) (6 + ams_length_of text))

abbrev pub is_whole : Front → Bool
is_whole Whole = true
is_whole Open = false
is_whole Broken = false

abbrev pub is_broken : Front → Bool
is_broken Whole = false
is_broken Open = false
is_broken Broken = true

-- the AMS packet of the frame at the front
unfoldable pub packet_of : List ℕ → List ℕ
packet_of text = take (ams_length_of text) (drop 6 text)

-- what stands behind the frame at the front
unfoldable pub behind_frame : List ℕ → List ℕ
behind_frame text = drop (6 + ams_length_of text) text

-- the AMS packets of the frames that follow, once so many bytes are passed over
unfoldable pub frames_from : ℕ → List ℕ → List (List ℕ)
frames_from skip [] = []
frames_from (suc skip) (b ∷ bs) = frames_from skip bs
frames_from zero (b ∷ bs) = if is_whole (front_of (b ∷ bs))
    then packet_of (b ∷ bs) ∷ frames_from (5 + ams_length_of (b ∷ bs)) bs else []

-- the AMS packets of the frames of a stream, in their order
unfoldable pub frames_of : List ℕ → List (List ℕ)
frames_of stream = frames_from zero stream

-- what is left of a stream behind so many frames
unfoldable pub left_behind : ℕ → List ℕ → List ℕ
left_behind zero stream = stream
left_behind (suc n) stream = left_behind n (behind_frame stream)

-- what is left of a stream behind all its frames
unfoldable pub rest_of : List ℕ → List ℕ
rest_of stream = left_behind (length (frames_of stream)) stream
