-- What the checks of a packet lead to, by what was found of its source, its port and its request.
use Rattle.std.proofs.Common.{◌≡◌, ◌<◌, ℕ, List, length, true, false, cond, refl, sym, ◌∙◌, ap}
use Rattle.std.specs.Prelude.{Bool, Option, Some, None, is_none}
use Rattle.std.specs.Option.{option_or}
use Rattle.std.proofs.lemmas.Bool.{false≢true}
use Rattle.spec_plant.specs.Description as plant
use Rattle.spec_plant.specs.World.{PlantPort}
use Rattle.spec_formats.specs.Header.{AmsHeader, header_of, payload_of}
use Rattle.spec_formats.proofs.HeaderLemmas.{header_of-short}
use Rattle.spec_machine.specs.Client.{Client}
use Rattle.spec_machine.specs.Decisions.{Decision, NoAnswer}
use Rattle.spec_machine.specs.GivenRights.{given_rights}
use Rattle.spec_machine.specs.Packets.{decide, decide_header}
use Rattle.spec_machine.specs.World.{World, setup_of, port_numbered}
use Rattle.port_device.specs.PortMemory.{PortMemory, PortsMemory, memory_numbered}
use Rattle.port_device.specs.Holds.{HoldsPorts, HoldsFound}
use Rattle.port_device.proofs.PortsLemmas.{found_is_held}
use Rattle.net_routes.specs.Admitted.{Admitted}
use Rattle.session.specs.PacketChecks.{HasPassed}
use Rattle.session.specs.Takes.{HasAddress}

-- a port is held exactly where it is there
held-there : (w : World) (o : Option PlantPort) (m : Option PortMemory) → HoldsFound w o m → is_none o ≡ is_none m
held-there w None None h = refl
held-there w (Some p) (Some m) h = refl
held-there w None (Some m) h = absurd h
held-there w (Some p) None h = absurd h

pub port-there : (w : World) (ports : PortsMemory) (number : ℕ) → HoldsPorts w ports
    → is_none (port_numbered number w.plant.ports) ≡ is_none (memory_numbered number ports.ports)
port-there w ports number h = held-there w (port_numbered number w.plant.ports) (memory_numbered number ports.ports) (found_is_held w ports number h)

-- the rights of a NetId are those that the server gives
pub given-are : (w : World) (net : List ℕ) (admitted : Admitted) → HasAddress w net admitted → (n : List ℕ)
    → given_rights admitted.others n admitted.routes ≡ given_rights w.profile.others n w.plant.routes
given-are w net admitted h n =
    ap (λ o. given_rights o n admitted.routes) h.others_are ∙ ap (λ (o : Option plant.Rights). option_or o w.profile.others) (h.routes_are n)

-- too few bytes for a header
pub headless : (w : World) (c : Client) (ams : List ℕ) → length ams < 32 → decide (setup_of w) c ams ≡ NoAnswer
unfolding decide
headless w c ams short = ap (decide_header (setup_of w) c (payload_of ams)) (header_of-short ams short)

-- a packet with a header, before the checks
pub none-passed : (w : World) (c : Client) (ams : List ℕ) (h : AmsHeader) → header_of ams ≡ Some h → HasPassed 0 w c ams h
unfolding decide
none-passed w c ams h header = record { header = header; decision = ap (decide_header (setup_of w) c (payload_of ams)) header }

-- a check that stops a packet decides, and after one that does not the others do
pub stopped : (d e f : Decision) (b : Bool) → d ≡ cond b e f → b ≡ true → d ≡ e
stopped d e f b decision stops = decision ∙ ap (λ x. cond x e f) stops

pub passed : (d e f : Decision) (b : Bool) → d ≡ cond b e f → b ≡ false → d ≡ f
passed d e f b decision passes = decision ∙ ap (λ x. cond x e f) passes

pub some-of : {A : Type 0} (o : Option A) → is_none o ≡ false → (x : A) × (o ≡ Some x)
some-of (Some x) there = (x, refl)
some-of None there = absurd (false≢true (sym there))
