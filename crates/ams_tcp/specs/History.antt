-- The framing law: what a splitter answers is a function of all bytes that it was fed.
use Rattle.std.specs.Prelude.{◌≡◌, ℕ, ◌+◌, ◌≤◌, List, [], ◌++◌, length, take, slice_get}
use Rattle.std.specs.Prelude.{Bool, true, false, if◌then◌else◌, Option, Some, None}
use Rattle.spec_frames.specs.Frame.{IsAmsPacket}
use Rattle.spec_frames.specs.Division.{Front, Whole, Open, Broken, front_of, frames_of, left_behind, rest_of}
use Rattle.ams_tcp.specs.Held.{Held}
use Rattle.ams_tcp.specs.declared.cut.Cut.{Cut}
use Rattle.ams_tcp.specs.declared.cut.Cut.TheVariants as cut
use Rattle.ams_tcp.specs.declared.peeked.Peeked.{Peeked}
use Rattle.ams_tcp.specs.declared.peeked.Peeked.TheVariants as peeked

-- what happened to a splitter: all bytes fed, the number of frames given, and whether Broken was answered
pub record History : Type 0 where
  pub fed : List ℕ
  pub given : ℕ
  pub told_broken : Bool

abbrev pub nothing_fed : History
nothing_fed = record { fed = []; given = 0; told_broken = false }

abbrev pub after_feed : History → List ℕ → History
after_feed h piece = record h { fed = h.fed ++ piece }

-- behind the frames: NotYet for an open rest, Broken for a broken one
abbrev pub answer_for_rest : Front → Cut
answer_for_rest Whole = cut.NotYet
answer_for_rest Open = cut.NotYet
answer_for_rest Broken = cut.Broken

-- the next frame, where one is left
abbrev pub answer_for : Option (List ℕ) → List ℕ → Cut
answer_for (Some ams) rest = cut.Frame ams
answer_for None rest = answer_for_rest (front_of rest)

-- the answers are the frames of all bytes fed, in their order, and then what the rest says
unfoldable pub answer_of : History → Cut
answer_of h = answer_for (slice_get (frames_of h.fed) h.given) (rest_of h.fed)

abbrev pub after_answer : Cut → History → History
after_answer (cut.Frame ams) h = record h { given = h.given + 1 }
after_answer cut.NotYet h = h
after_answer cut.Broken h = record h { told_broken = true }

abbrev pub after_next : History → History
after_next h = after_answer (answer_of h) h

-- the six bytes at the broken place, once Broken was answered
abbrev pub broken_of : History → Option (List ℕ)
broken_of h = if h.told_broken then Some (take 6 (rest_of h.fed)) else None

-- what is kept stands for this history
pub record Represents (held : Held) (h : History) : Type 0 where
  pub rest : held.rest ≡ left_behind h.given h.fed
  pub given : h.given ≤ length (frames_of h.fed)
  pub told_broken : held.told_broken ≡ h.told_broken

abbrev pub IsFrameCut : Cut → Type 0
IsFrameCut (cut.Frame ams) = Unit {0}
IsFrameCut cut.NotYet = ⊥
IsFrameCut cut.Broken = ⊥

-- a frame that is given holds an AMS packet
abbrev pub HoldsPacket : Cut → Type 0
HoldsPacket (cut.Frame ams) = IsAmsPacket ams
HoldsPacket cut.NotYet = Unit {0}
HoldsPacket cut.Broken = Unit {0}

-- the answer that is shown, with the packet lent
abbrev pub cut_of : Peeked → Cut
cut_of (peeked.Frame packet) = cut.Frame packet.now
cut_of peeked.NotYet = cut.NotYet
cut_of peeked.Broken = cut.Broken
