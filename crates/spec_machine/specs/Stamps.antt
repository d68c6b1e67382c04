-- The frames of notifications: at a tick, and of those that a reload ends. One frame for each port and
-- client address, in the order of the least handle in it.
-- Beckhoff Information System, "ADS Device Notification".
use Rattle.std.specs.Prelude.{ℕ, List, [], ◌∷◌, ◌++◌, length, map, flat_map, Bool}
use Rattle.std.specs.Prelude.{◌&&◌}
use Rattle.std.specs.Prelude.{◌==◌, if◌then◌else◌}
use Rattle.spec_plant.specs.World.{Block}
use Rattle.spec_formats.specs.Codes.{no_error}
use Rattle.spec_formats.specs.Commands.{DEVICE_NOTIFICATION}
use Rattle.spec_formats.specs.Header.{AmsAddress, is_same_address, header_bytes, request_flags}
use Rattle.spec_formats.specs.Notification.{Sample, notification_bytes}
use Rattle.spec_frames.specs.Frame.{frame_bytes}
use Rattle.spec_machine.specs.Device.{Produced, Notification}
use Rattle.spec_machine.specs.Access.{Addressed, values_at}
use Rattle.spec_machine.specs.Watches.{Watch, AddressedSample, samples_of, addressed_sample, checked_watch}

-- the samples that go from one port to one address
pub record SampleGroup : Type 0 where
  pub port : ℕ
  pub address : AmsAddress
  pub samples : List Sample

abbrev pub goes_with : AddressedSample → SampleGroup → Bool
goes_with s g = (s.port == g.port) && is_same_address s.address g.address

abbrev pub group_of_sample : AddressedSample → SampleGroup
group_of_sample s = record { port = s.port; address = s.address; samples = s.sample ∷ [] }

-- a sample joins its group, or begins one behind all others
abbrev pub with_sample : List SampleGroup → AddressedSample → List SampleGroup
with_sample [] s = group_of_sample s ∷ []
with_sample (g ∷ gs) s =
    if goes_with s g then record g { samples = g.samples ++ s.sample ∷ [] } ∷ gs
    else g ∷ with_sample gs s

unfoldable pub grouped : List SampleGroup → List AddressedSample → List SampleGroup
grouped groups [] = groups
grouped groups (s ∷ ss) = grouped (with_sample groups s) ss

-- the payload: one stamp of the moment
abbrev pub stamp_payload : ℕ → List Sample → List ℕ
stamp_payload moment samples =
    notification_bytes (record { time = moment; samples = samples } ∷ [])

-- a packet from this NetId, without an invoke id
abbrev pub notification_packet : List ℕ → SampleGroup → List ℕ → List ℕ
notification_packet net g payload = header_bytes (record {
  target = g.address;
  source = record { net = net; port = g.port };
  command = DEVICE_NOTIFICATION;
  flags = request_flags;
  len = length payload;
  error = no_error;
  id = 0;
}) ++ payload

abbrev pub notification_frame : List ℕ → ℕ → SampleGroup → Produced
notification_frame net moment g =
    Notification (length g.samples)
    (frame_bytes (notification_packet net g (stamp_payload moment g.samples)))

-- the frames of samples that one connection is sent at a moment, from this NetId
unfoldable pub frames_of_samples : List ℕ → ℕ → List AddressedSample → List Produced
frames_of_samples net moment samples = map (notification_frame net moment) (grouped [] samples)

-- the samples of a tick, by rising handle
unfoldable pub samples_at : List Block → ℕ → List (Watch (List Addressed)) → List AddressedSample
samples_at memory now watches =
    flat_map (λ (w : Watch (List Addressed)). samples_of now (values_at memory w.watched) w) watches

unfoldable pub watches_after_tick : List Block → ℕ → List (Watch (List Addressed))
    → List (Watch (List Addressed))
watches_after_tick memory now watches =
    map (λ (w : Watch (List Addressed)). checked_watch now (values_at memory w.watched) w) watches

-- the samples of notifications that ended: of no byte
abbrev pub end_samples : List (Watch (List Addressed)) → List AddressedSample
end_samples watches = map (λ (w : Watch (List Addressed)). addressed_sample [] w) watches
