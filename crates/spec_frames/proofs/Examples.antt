-- Numbers, frames and the division, computed on examples that were worked out by hand.
use Rattle.std.proofs.Common.{◌≡◌, ℕ, List, [], ◌∷◌, ◌++◌, refl}
use Rattle.std.specs.Prelude.{codes}
use Rattle.spec_frames.specs.Number.{number_of}
use Rattle.spec_frames.specs.Frame.{frame_bytes}
use Rattle.spec_frames.specs.Division.{Open, Broken, front_of, is_header, ams_length_of, packet_of, behind_frame, frames_from, frames_of, left_behind, rest_of}
use Rattle.spec_frames.proofs.Hex.{hex}

-- 851 is 0x0353, the low byte first
port : number_of (hex (codes "5303")) ≡ 851
port = refl

greatest : number_of (hex (codes "ffffffff")) ≡ 4294967295
greatest = refl

-- a ReadState request of 32 bytes to 5.1.2.3.1.1:851
ams : List ℕ
ams = hex (codes "0501020301015303 c0a8000901018980 0400040000000000 0000000001000000")

state_request : frame_bytes ams ≡ hex (codes "000020000000 0501020301015303 c0a8000901018980 0400040000000000 0000000001000000")
unfolding ams
state_request = refl

-- the six bytes of a frame decide, as soon as they are there
reserved_byte : front_of (hex (codes "010020000000")) ≡ Broken
unfolding front_of is_header ams_length_of
reserved_byte = refl

second_reserved_byte : front_of (hex (codes "00ff20000000")) ≡ Broken
unfolding front_of is_header ams_length_of
second_reserved_byte = refl

length_31 : front_of (hex (codes "00001f000000")) ≡ Broken
unfolding front_of is_header ams_length_of
length_31 = refl

length_32 : front_of (hex (codes "000020000000")) ≡ Open
unfolding front_of is_header ams_length_of
length_32 = refl

-- 2,097,152 is the greatest AMS length, 2,097,153 is above it
greatest_length : front_of (hex (codes "000000002000")) ≡ Open
unfolding front_of is_header ams_length_of
greatest_length = refl

length_above : front_of (hex (codes "000001002000")) ≡ Broken
unfolding front_of is_header ams_length_of
length_above = refl

-- fewer than six bytes are open, whatever they are
five_bytes : front_of (hex (codes "0100200000")) ≡ Open
unfolding front_of is_header ams_length_of
five_bytes = refl

-- two frames and five bytes of a third
two_frames : frames_of (frame_bytes ams ++ frame_bytes ams ++ hex (codes "0000200000")) ≡ ams ∷ ams ∷ []
unfolding frames_of frames_from front_of is_header ams_length_of packet_of ams
two_frames = refl

third_begun : rest_of (frame_bytes ams ++ frame_bytes ams ++ hex (codes "0000200000")) ≡ hex (codes "0000200000")
unfolding rest_of left_behind behind_frame frames_of frames_from front_of is_header ams_length_of packet_of ams
third_begun = refl

-- bytes behind a broken header are no frames
nothing_behind : frames_of (frame_bytes ams ++ hex (codes "00ff20000000") ++ frame_bytes ams) ≡ ams ∷ []
unfolding frames_of frames_from front_of is_header ams_length_of packet_of ams
nothing_behind = refl

broken_behind : rest_of (frame_bytes ams ++ hex (codes "00ff20000000 00")) ≡ hex (codes "00ff20000000 00")
unfolding rest_of left_behind behind_frame frames_of frames_from front_of is_header ams_length_of packet_of ams
broken_behind = refl

nothing : frames_of [] ≡ []
unfolding frames_of frames_from
nothing = refl
