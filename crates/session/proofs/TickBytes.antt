-- What a check finds in a range of a port.
use Rattle.std.proofs.Common.{◌≡◌, ℕ, ◌+◌, ◌/◌, ◌%◌, ◌^◌, ◌<◌, ◌≤◌, List, [], ◌∷◌, length, take, drop, get_or, Option, Some, None}
use Rattle.std.proofs.Common.{refl, sym, ap, subst, ◌∙◌, arith}
use Rattle.std.proofs.Math.Nat.{div-eq_of_lt}
use Rattle.std.proofs.Math.Pow.{pow_mono}
use Rattle.spec_plant.specs.Description.{Area}
use Rattle.spec_plant.specs.Named.{port_numbered}
use Rattle.spec_plant.specs.World.{PlantPort}
use Rattle.spec_formats.specs.Ranges.{Bytes, Bit}
use Rattle.spec_machine.specs.WatchedRanges.{Watched, InArea, Own}
use Rattle.spec_machine.specs.World.{World, names_at, numbers_from, own_bytes}
use Rattle.spec_machine.proofs.PortBytesLemmas.{reads_own}
use Rattle.port_device.proofs.PortsLemmas.{found_is_held}
use Rattle.port_device.specs.Holds.{HoldsPort, HoldsPorts, HoldsFound}
use Rattle.port_device.specs.PortMemory.{PortMemory, PortsMemory, memory_numbered}
use Rattle.session.specs.Checks.{bytes_found, IsThereIn, IsInFound, IsReadable, IsThere}

-- the plant's sizes are the table's
same_sizes : (w : World) (p : PlantPort) (m : PortMemory) → HoldsPort w p m → p.sizes ≡ m.table.sizes
same_sizes w p m h = ap (λ (q : PlantPort). q.sizes) h.plant ∙ sym (ap (λ t. t.sizes) h.table.same)

-- the port of the plant that is held by the one that was found
pub port_found : (w : World) (m : PortsMemory) (number : ℕ) (f : PortMemory) → HoldsPorts w m
    → memory_numbered number m.ports ≡ Some f
    → (p : PlantPort) × (port_numbered number w.plant.ports ≡ Some p) × HoldsPort w p f
port_found w m number f holds found =
    by_found (port_numbered number w.plant.ports) (memory_numbered number m.ports) (found_is_held w m number holds) found
  where
    by_found : (o : Option PlantPort) (q : Option PortMemory) → HoldsFound w o q → q ≡ Some f
        → (p : PlantPort) × (o ≡ Some p) × HoldsPort w p f
    by_found (Some p) (Some g) held same = (p, refl, (let e : g ≡ f = cc in subst (λ (x : PortMemory). HoldsPort w p x) e held))
    by_found (Some p) None held same = absurd held
    by_found None (Some g) held same = absurd held
    by_found None None held same = absurd cc

-- what can be read lies in the port that was found
pub in_found : (m : PortsMemory) (number : ℕ) (range : Watched) (f : PortMemory) → IsReadable m number range
    → memory_numbered number m.ports ≡ Some f → IsThereIn f.table.sizes range
in_found m number range f readable found =
    let (p, at, held) = port_found readable.world m number f readable.holds found in
    let within : IsThereIn p.sizes range = subst (λ (o : Option PlantPort). IsInFound o range) at readable.within in
    subst (λ sizes. IsThereIn sizes range) (same_sizes readable.world p f held) within

-- and it was found
pub not_missing : (m : PortsMemory) (number : ℕ) (range : Watched) → IsReadable m number range
    → memory_numbered number m.ports ≡ None → ⊥
not_missing m number range readable missing =
    by_found (port_numbered number readable.world.plant.ports) (memory_numbered number m.ports)
    (found_is_held readable.world m number readable.holds) readable.within missing
  where
    by_found : (o : Option PlantPort) (q : Option PortMemory) → HoldsFound readable.world o q → IsInFound o range → q ≡ None → ⊥
    by_found None q held within same = within
    by_found (Some p) None held within same = held
    by_found (Some p) (Some g) held within same = cc

-- the own bytes that were found are those under their names
pub own_found : (w : World) (o : Option PlantPort) (p : PlantPort) (f : PortMemory) (first len : ℕ) → o ≡ Some p → HoldsPort w p f → first + len ≤ 5
    → take len (drop first (own_bytes f.bytes.ads f.bytes.device f.bytes.version)) ≡ bytes_found w o (Own first len)
own_found w o p f first len e held within =
    sym (reads_own w.memory p f.bytes first len held.holds within) ∙ ap (λ x. bytes_found w x (Own first len)) (sym e)

-- a bit that can be read stands in a byte that can
pub byte_of_bit : (m : PortsMemory) (number : ℕ) (area : Area) (at_ bit : ℕ) → IsReadable m number (InArea (Bit area at_ bit))
    → IsReadable m number (InArea (Bytes area at_ 1))
byte_of_bit m number area at_ bit readable = record {
  world = readable.world;
  holds = readable.holds;
  within = whole (port_numbered number readable.world.plant.ports) readable.within;
}
  where
    whole : (o : Option PlantPort) → IsInFound o (InArea (Bit area at_ bit)) → IsInFound o (InArea (Bytes area at_ 1))
    whole None within = within
    whole (Some p) within = omega (arith, within)

-- a bit of the byte that was found
pub bit_found : (w : World) (o : Option PlantPort) (area : Area) (at_ bit value : ℕ) (bytes : List ℕ)
    → bytes ≡ bytes_found w o (InArea (Bytes area at_ 1)) → length bytes ≡ 1 → value ≡ (get_or bytes 0 0 / 2 ^ bit) % 2
    → value ∷ [] ≡ bytes_found w o (InArea (Bit area at_ bit))
unfolding names_at numbers_from
bit_found w None area at_ bit value bytes found one is = absurd (let none = rw found at one in omega (arith, none))
bit_found w (Some p) area at_ bit value bytes found one is = rw (is, found) refl

-- a byte has no bit above its eighth
pub no_bit : (byte bit : ℕ) → byte < 256 → 8 ≤ bit → 0 ≡ (byte / 2 ^ bit) % 2
no_bit byte bit small high =
    let power : 2 ^ 8 ≤ 2 ^ bit = pow_mono high in
    let none : byte / 2 ^ bit ≡ 0 = div-eq_of_lt (omega (arith, power)) in
    rw none refl
