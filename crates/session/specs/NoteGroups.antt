-- The samples that go from one port to one address, as text. Private: no public clause cites this file.
use Rattle.std.specs.Prelude.{ℕ, ◌+◌, ◌-◌, List, [], ◌∷◌, ◌++◌, length, fold, Bool, ◌&&◌, ◌==◌, if◌then◌else◌}
use Rattle.std.specs.Int.{w32, w64, to_le_bytes}
use Rattle.spec_formats.specs.Codes.{no_error}
use Rattle.spec_formats.specs.Commands.{DEVICE_NOTIFICATION}
use Rattle.spec_formats.specs.Header.{AmsAddress, AmsHeader, is_same_address, header_bytes, request_flags}
use Rattle.spec_formats.specs.Notification.{Sample, sample_bytes}
use Rattle.spec_frames.specs.Frame.{frame_bytes}
use Rattle.spec_machine.specs.Device.{Produced, Notification}
use Rattle.spec_machine.specs.Watches.{AddressedSample}

-- how many samples, and their text
pub record GroupText : Type 0 where
  pub port : ℕ
  pub address : AmsAddress
  pub count : ℕ
  pub text : List ℕ

-- groups, and a number that none has more samples than
pub record GroupTexts : Type 0 where
  pub groups : List GroupText
  pub added : ℕ

abbrev pub no_groups : GroupTexts
no_groups = record { groups = []; added = 0 }

abbrev pub is_group_for : ℕ → AmsAddress → GroupText → Bool
is_group_for port address g = (port == g.port) && is_same_address address g.address

abbrev pub no_samples : ℕ → AmsAddress → GroupText
no_samples port address = record { port = port; address = address; count = 0; text = [] }

abbrev pub sample : ℕ → List ℕ → Sample
sample handle bytes = record { handle = handle; bytes = bytes }

abbrev pub addressed : ℕ → AmsAddress → ℕ → List ℕ → AddressedSample
addressed port address handle bytes = record { port = port; address = address; sample = sample handle bytes }

-- one more sample
abbrev pub group_with : Sample → GroupText → GroupText
group_with s g = record g { count = g.count + 1; text = g.text ++ sample_bytes s }

-- a sample joins the first group that is for it, or begins one behind all others
abbrev pub groups_with : AddressedSample → List GroupText → List GroupText
groups_with s [] = group_with s.sample (no_samples s.port s.address) ∷ []
groups_with s (g ∷ gs) =
    if is_group_for s.port s.address g then group_with s.sample g ∷ gs
    else g ∷ groups_with s gs

-- one after another
abbrev pub groups_after : List GroupText → List AddressedSample → List GroupText
groups_after groups samples = fold (λ (gs : List GroupText) (s : AddressedSample). groups_with s gs) groups samples

abbrev pub grouped_text : List AddressedSample → List GroupText
grouped_text samples = groups_after [] samples

-- number of stamps 4, time 8, number of samples 4, samples
abbrev pub stamp_text : ℕ → GroupText → List ℕ
stamp_text moment g =
    to_le_bytes w32 1 ++ to_le_bytes w64 moment ++ to_le_bytes w32 g.count ++ g.text

abbrev pub payload_text : ℕ → GroupText → List ℕ
payload_text moment g = to_le_bytes w32 (length (stamp_text moment g)) ++ stamp_text moment g

-- a packet without an invoke id
abbrev pub notification_header : AmsAddress → AmsAddress → ℕ → AmsHeader
notification_header to from len = record {
  target = to;
  source = from;
  command = DEVICE_NOTIFICATION;
  flags = request_flags;
  len = len;
  error = no_error;
  id = 0;
}

abbrev pub header_of_group : List ℕ → ℕ → GroupText → AmsHeader
header_of_group net len g = notification_header g.address (record { net = net; port = g.port }) len

-- the frame of a group
unfoldable pub frame_of_group : List ℕ → ℕ → GroupText → Produced
frame_of_group net moment g =
    Notification g.count (frame_bytes (header_bytes (header_of_group net (length (payload_text moment g)) g) ++ payload_text moment g))

-- reserved 2, length of the AMS packet 4
abbrev pub lead_text : ℕ → List ℕ
lead_text len = 0 ∷ 0 ∷ to_le_bytes w32 len

-- length of the stamp 4, number of stamps 4, time 8, number of samples 4
abbrev pub stamp_head_text : ℕ → ℕ → ℕ → List ℕ
stamp_head_text len moment count =
    to_le_bytes w32 len ++ to_le_bytes w32 1 ++ to_le_bytes w64 moment ++ to_le_bytes w32 count

-- what stands before the samples of a frame with this header
unfoldable pub head_text : AmsHeader → ℕ → ℕ → List ℕ
head_text h moment count =
    lead_text (h.len + 32) ++ header_bytes h ++ stamp_head_text (h.len - 4) moment count
