-- What stays of the descriptions of ports where one of them has other bytes.
use Rattle.std.proofs.Common.{◌≡◌, ℕ, List, [], ◌∷◌, cond, refl, sym, subst, true, false}
use Rattle.std.specs.Prelude.{Bool, ◌==◌, Some}
use Rattle.port_device.specs.PortMemory.{PortMemory, PortsMemory, memory_numbered, with_numbered, with_port}
use Rattle.port_device.specs.Endings.{KeepsDescription}
use Rattle.session.specs.Served.{KeepEach, KeepDescriptions}

each-same : (ms : List PortMemory) → KeepEach ms ms
each-same [] = tt
each-same (m ∷ ms) = (refl, each-same ms)

pub keep-same : (m : PortsMemory) → KeepDescriptions m m
keep-same m = record { types = refl; version = refl; ports = each-same m.ports }

each-with : (number : ℕ) (old new : PortMemory) (ms : List PortMemory) → memory_numbered number ms ≡ Some old → KeepsDescription old new
    → KeepEach ms (with_numbered number new ms)
each-with number old new [] found keeps = tt
each-with number old new (m ∷ ms) found keeps = go (m.number == number) found (λ behind. each-with number old new ms behind keeps)
  where
    go : (b : Bool) → cond b (Some m) (memory_numbered number ms) ≡ Some old
        → (memory_numbered number ms ≡ Some old → KeepEach ms (with_numbered number new ms))
        → KeepEach (m ∷ ms) (cond b (new ∷ ms) (m ∷ with_numbered number new ms))
    go true is rest =
        let same : m ≡ old = cc in
        let P : PortMemory → Type 0 = λ x. KeepsDescription x new in
        (subst P (sym same) keeps, each-same ms)
    go false is rest = (refl, rest is)

-- a port that was found has other bytes
pub keep-with : (m : PortsMemory) (number : ℕ) (old new : PortMemory) → memory_numbered number m.ports ≡ Some old → KeepsDescription old new
    → KeepDescriptions m (with_port m number new)
keep-with m number old new found keeps = record { types = refl; version = refl; ports = each-with number old new m.ports found keeps }
