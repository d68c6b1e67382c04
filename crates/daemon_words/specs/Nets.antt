-- Nets of an allow list, as texts. This project's own choice; addresses are written as RFC 4291 and the usual four numbers have it.
use Rattle.std.specs.Prelude.{◌≡◌, ◌≤◌, ◌⊎◌, ℕ, List, ◌∷◌, ◌++◌, decimal}
use Rattle.std.specs.Net.Addr.{IsIpv4Mapped, ipv6_segments}
use Rattle.std.specs.Net.Grammar.{IsIpText}
use Rattle.std.specs.declared.net.ip_addr.IpAddr.{IpAddr}
use Rattle.std.specs.declared.net.ip_addr.IpAddr.TheVariants.{V4, V6}
use Rattle.daemon_words.specs.declared.ip_net.IpNet.{IpNet}

-- how many bits an address has
abbrev pub width : IpAddr → ℕ
width (V4 a) = 32
width (V6 a) = 128

-- it is no IPv4 address that is written as an IPv6 address, ::ffff:a.b.c.d
abbrev pub IsPlain : IpAddr → Type 0
IsPlain (V4 a) = Unit {0}
IsPlain (V6 a) = IsIpv4Mapped (ipv6_segments a) → ⊥

-- an address alone, of which all bits count
abbrev pub IsLone : List ℕ → IpNet → Type 0
IsLone text net = IsIpText text net.address × (net.bits ≡ width net.address)

-- an address and how many of its first bits count
abbrev pub HasParts : List ℕ → List ℕ → IpNet → Type 0
HasParts address bits net = IsIpText address net.address × (bits ≡ decimal net.bits) × (net.bits ≤ width net.address)

-- such an address, a slash, and how many of its first bits count
abbrev pub IsSlashed : List ℕ → IpNet → Type 0
IsSlashed text net = (address bits : List ℕ) × (text ≡ address ++ 47 ∷ bits) × HasParts address bits net

-- a text is that of a net
abbrev pub IsNetText : List ℕ → IpNet → Type 0
IsNetText text net = IsPlain net.address × (IsLone text net ⊎ IsSlashed text net)
