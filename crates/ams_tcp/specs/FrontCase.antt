-- What stands at the front of a text, as the code tells it. No public clause cites this file.
use Rattle.std.specs.Prelude.{◌≡◌, ℕ, ◌≤◌, List, length}
use Rattle.spec_frames.specs.Frame.{IsAmsPacket}
use Rattle.spec_frames.specs.Division.{Whole, Open, Broken, front_of, packet_of}
use Rattle.ams_tcp.specs.declared.peeked.Peeked.{Peeked}
use Rattle.ams_tcp.specs.declared.peeked.Peeked.TheVariants as peeked

pub record IsWhole (text packet : List ℕ) : Type 0 where
  pub front : front_of text ≡ Whole
  pub packet_is : packet ≡ packet_of text
  pub fits : IsAmsPacket packet

pub record IsBroken (text : List ℕ) : Type 0 where
  pub front : front_of text ≡ Broken
  pub six : 6 ≤ length text

abbrev pub IsFront : List ℕ → Peeked → Type 0
IsFront text (peeked.Frame packet) = IsWhole text packet.now
IsFront text peeked.NotYet = front_of text ≡ Open
IsFront text peeked.Broken = IsBroken text
