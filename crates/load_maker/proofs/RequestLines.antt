-- The line of a request that was made by parts.
use Rattle.std.proofs.Common.{◌≡◌, ℕ, List, ◌++◌, length, refl}
use Rattle.spec_frames.specs.Frame.{frame_bytes}
use Rattle.spec_formats.specs.Header.{AmsHeader, header_bytes, request_flags}
use Rattle.spec_formats.specs.Request.{Request, command_of, request_bytes}
use Rattle.load_maker.specs.MadeLines.{Sends, line_text}
use Rattle.load_maker.specs.LoadScript.{plant_address, client_address, request_packet, request_line}

abbrev pub header_made : ℕ → ℕ → ℕ → ℕ → AmsHeader
header_made c id command len = record {
  target = plant_address;
  source = client_address c;
  command = command;
  flags = request_flags;
  len = len;
  error = 0;
  id = id;
}

pub line-made : (out new frame packet : List ℕ) (c id command len : ℕ) (r : Request) (header : AmsHeader)
    → command ≡ command_of r → len ≡ length (request_bytes r) → header ≡ header_made c id command len
    → packet ≡ header_bytes header ++ request_bytes r → frame ≡ frame_bytes packet → new ≡ out ++ line_text (Sends c frame)
    → new ≡ out ++ line_text (request_line c id r)
unfolding request_packet
line-made out new frame packet c id command len r header is_command is_len is_header is_packet is_frame sent =
    rw (sent, is_frame, is_packet, is_header, is_command, is_len) refl
