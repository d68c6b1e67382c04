-- Addresses as numbers.
use Rattle.std.proofs.Common.{◌≡◌, ℕ, ◌+◌, ◌*◌, ◌/◌, ◌%◌, ◌^◌, ◌<◌, ◌≤◌, List, [], ◌∷◌, length, slice_index, refl, ap, ◌∙◌, arith}
use Rattle.std.proofs.Math.Nat.{div-eq_of_lt, pow-le-pow_right}
use Rattle.std.specs.Int.{w32, w128, from_be_bytes}
use Rattle.std.specs.Net.Addr.{IsIpv4Addr, embedded_segments, ipv4_bits, ipv6_bits, ipv6_segments, octets_of, segments_of}
use Rattle.std.specs.declared.net.ipv4_addr.Ipv4Addr.{Ipv4Addr}
use Rattle.std.specs.declared.net.ipv6_addr.Ipv6Addr.{Ipv6Addr}
use Rattle.std.specs.declared.net.ip_addr.IpAddr.TheVariants.{V4, V6}
use Rattle.ads_edge.specs.AllowedNet.{numbered, numbered_v6}

-- nothing is left of a number of 128 bits without so many
pub nothing_left : (n b : ℕ) → n < 2 ^ 128 → 128 ≤ b → n / 2 ^ b ≡ 0
nothing_left n b small wide =
    let more : 2 ^ 128 ≤ 2 ^ b = pow-le-pow_right (omega arith) wide in
    div-eq_of_lt (omega (arith, small, more))

-- the octets of a segment
high_octet : (a b : ℕ) → b < 256 → (a * 256 + b) / 256 ≡ a
high_octet a b small = omega (arith, small)

low_octet : (a b : ℕ) → b < 256 → (a * 256 + b) % 256 ≡ b
low_octet a b small = omega (arith, small)

-- the number of ::ffff:a.b.c.d, and that of a.b.c.d
record IsMapped (octets : List ℕ) : Type 0 where
  whole : from_be_bytes w128 (octets_of (0 ∷ 0 ∷ 0 ∷ 0 ∷ 0 ∷ 0xffff ∷ segments_of octets)) ≡ 0xffff * 2 ^ 32 + from_be_bytes w32 octets
  small : from_be_bytes w32 octets < 2 ^ 32

mapped_octets : (a b c d : ℕ) → a < 256 → b < 256 → c < 256 → d < 256 → IsMapped (a ∷ b ∷ c ∷ d ∷ [])
mapped_octets a b c d ha hb hc hd = record {
  whole = rw (high_octet a b hb, low_octet a b hb, high_octet c d hd, low_octet c d hd) (omega arith);
  small = omega (arith, ha, hb, hc, hd);
}

mapped_list : (octets : List ℕ) → length octets ≡ 4 → ((k : ℕ) → slice_index octets k < 2 ^ 8) → IsMapped octets
mapped_list (a ∷ b ∷ c ∷ d ∷ []) four fits = mapped_octets a b c d (fits 0) (fits 1) (fits 2) (fits 3)
mapped_list [] four fits = omega (arith, four)
mapped_list (a ∷ []) four fits = omega (arith, four)
mapped_list (a ∷ b ∷ []) four fits = omega (arith, four)
mapped_list (a ∷ b ∷ c ∷ []) four fits = omega (arith, four)
mapped_list (a ∷ b ∷ c ∷ d ∷ e ∷ more) four fits = omega (arith, four)

-- a number of 128 bits in which 0xffff stands before the last 32
numbered_mapped : (n v : ℕ) → n ≡ 0xffff * 2 ^ 32 + v → v < 2 ^ 32 → numbered_v6 n ≡ record { width = 32; value = v }
numbered_mapped n v e small =
    let high : n / 2 ^ 32 ≡ 0xffff = omega (arith, e, small) in
    let low : n % 2 ^ 32 ≡ v = omega (arith, e, small) in
    rw (high, low) refl

pub mapped_number : (m : Ipv6Addr) (a : Ipv4Addr) → IsIpv4Addr a → ipv6_segments m ≡ embedded_segments 0xffff a
    → numbered (V6 m) ≡ numbered (V4 a)
unfolding ipv4_bits ipv6_bits
mapped_number m a fits same =
    let mapped : IsMapped a.octets = mapped_list a.octets fits.0 fits.1 in
    numbered_mapped (from_be_bytes w128 (octets_of m.segments)) (from_be_bytes w32 a.octets)
    (ap (λ segments. from_be_bytes w128 (octets_of segments)) same ∙ mapped.whole) mapped.small
