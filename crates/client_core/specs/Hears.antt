-- What the steps of a client do, over every client that is stood for. No public clause cites this file.
use Rattle.std.specs.Prelude.{◌≡◌, ℕ, ◌+◌, List, [], ◌∷◌, take, Bool, true, Option, Some, None, Result, Ok, Err}
use Rattle.ads_base.specs.declared.peer.Peer.TheVariants as peer
use Rattle.spec_frames.specs.Division.{rest_of}
use Rattle.spec_formats.specs.Header.{AmsAddress}
use Rattle.spec_client.specs.Heard as spec
use Rattle.spec_client.specs.Client.{Client, packets_left}
use Rattle.spec_client.specs.Hearing.{Hearing, hearing, broken_hearing, next_hearing, with_one_taken, packet_hearing, packets_hearing, samples_hearing}
use Rattle.spec_client.specs.Heard.{StampedSample, heard_of_sample}
use Rattle.spec_client.specs.Unanswered.{Unanswered, is_outstanding_at, without_first}
use Rattle.ams_tcp.specs.declared.cut.Cut.{Cut}
use Rattle.ams_tcp.specs.declared.cut.Cut.TheVariants as cut
use Rattle.client_core.specs.Kept.{Kept}
use Rattle.client_core.specs.Represents.{StandsFor}
use Rattle.client_core.specs.Heard.{heard_meant}
use Rattle.client_core.specs.declared.heard.Heard.{Heard}
use Rattle.client_core.specs.declared.verdict.Verdict.{Verdict}
use Rattle.client_core.specs.declared.verdict.Verdict.TheVariants as verdict

-- it stands for what it stood for
abbrev pub StandsStill : Kept → Kept → Type 0
StandsStill old new = (c : Client) → StandsFor old c → StandsFor new c

-- this is heard, and what is kept stands for the client behind it
pub record IsHearing (new : Kept) (heard : Heard) (x : Hearing) : Type 0 where
  pub heard_is : heard_meant heard ≡ x.heard
  pub stands : StandsFor new x.client

abbrev pub Hears : Kept → Kept → Heard → Type 0
Hears old new heard = (c : Client) → StandsFor old c → IsHearing new heard (next_hearing c)

-- what is heard of the packets that are left
abbrev pub hearing_in_frames : Client → Hearing
hearing_in_frames c = packets_hearing c (packets_left c)

abbrev pub HearsFrames : Kept → Kept → Heard → Type 0
HearsFrames old new heard = (c : Client) → StandsFor old c → IsHearing new heard (hearing_in_frames c)

-- a packet is passed over, or something is heard
abbrev pub HeardAt : Kept → Option Heard → Client → Type 0
HeardAt new None c = StandsFor new c
HeardAt new (Some heard) c = IsHearing new heard (hearing_in_frames c)

abbrev pub Turns : Kept → Kept → Option Heard → Type 0
Turns old new heard = (c : Client) → StandsFor old c → HeardAt new heard c

-- what is kept with a packet that waits
abbrev pub with_waiting : Kept → List ℕ → Kept
with_waiting k packet = record k { waiting = Some packet }

-- no packet is left, and no frame is broken
pub record IsQuiet (new : Kept) (c : Client) : Type 0 where
  pub quiet : hearing_in_frames c ≡ hearing spec.NotYet c
  pub stands : StandsFor new c

-- no packet is left, and what is behind is broken
pub record IsAtBroken (new : Kept) (c : Client) : Type 0 where
  pub broken : hearing_in_frames c ≡ broken_hearing c (peer.Frame (take 6 (rest_of c.received)))
  pub told : new.stream.told_broken ≡ true
  pub stands : StandsFor new c

-- a packet that was cut is the next one: put back it would wait
abbrev pub CutFor : Kept → Cut → Client → Type 0
CutFor new (cut.Frame packet) c = StandsFor (with_waiting new packet) c
CutFor new cut.NotYet c = IsQuiet new c
CutFor new cut.Broken c = IsAtBroken new c

abbrev pub Cuts : Kept → Kept → Cut → Type 0
Cuts old new answer = (c : Client) → StandsFor old c → CutFor new answer c

-- a client with these addresses and requests
pub record HasRequests (c : Client) (me peer : AmsAddress) (unanswered : List Unanswered) : Type 0 where
  pub me_is : c.me ≡ me
  pub peer_is : c.peer ≡ peer
  pub unanswered_is : c.unanswered ≡ unanswered

-- the verdict on a packet that leads to this
abbrev pub IsVerdictOf : Verdict → List ℕ → Client → Option Hearing → Type 0
IsVerdictOf verdict.Passes packet c x = x ≡ None
IsVerdictOf (verdict.Answers id heard) packet c x =
    x ≡ Some (hearing (heard_meant heard) (record c { unanswered = without_first (is_outstanding_at id) c.unanswered }))
IsVerdictOf (verdict.Says heard) packet c x = x ≡ Some (hearing (heard_meant heard) c)
IsVerdictOf (verdict.Holds samples) packet c x = x ≡ samples_hearing c samples.items
IsVerdictOf (verdict.Breaks copy) packet c x = (x ≡ Some (broken_hearing c (peer.Text packet))) × (copy ≡ packet)

abbrev pub IsVerdict : Verdict → List ℕ → Client → Type 0
IsVerdict v packet c = IsVerdictOf v packet c (packet_hearing c packet)

-- the first of these samples is heard, if there is one
abbrev pub HoldsFirst : Kept → Kept → List StampedSample → Heard → Type 0
HoldsFirst old new [] heard = ⊥
HoldsFirst old new (s ∷ ss) heard = (heard_meant heard ≡ heard_of_sample s) × (new ≡ record old { samples = ss })

abbrev pub Holds : Kept → Kept → List StampedSample → Option Heard → Type 0
Holds old new samples None = (samples ≡ []) × (new ≡ old)
Holds old new samples (Some heard) = HoldsFirst old new samples heard

-- the packet breaks the protocol
abbrev pub Breaks : Verdict → List ℕ → Type 0
Breaks verdict.Passes packet = ⊥
Breaks (verdict.Answers id heard) packet = ⊥
Breaks (verdict.Says heard) packet = ⊥
Breaks (verdict.Holds samples) packet = ⊥
Breaks (verdict.Breaks copy) packet = copy ≡ packet

-- what becomes of the verdict on the packet that would wait
abbrev pub Applies : Kept → Kept → List ℕ → Verdict → Option Heard → Type 0
Applies old new packet v heard = (c : Client) → StandsFor (with_waiting old packet) c → IsVerdict v packet (with_one_taken c) → HeardAt new heard c
