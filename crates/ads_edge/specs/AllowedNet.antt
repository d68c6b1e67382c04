-- Which IP addresses a list of nets lets in. This project's own choice: a list in CIDR notation, as RFC 4632 and RFC 4291 write nets.
use Rattle.std.specs.Prelude.{ℕ, ◌-◌, ◌/◌, ◌%◌, ◌^◌, ◌==◌, ◌&&◌, ◌||◌, List, length, Bool, if◌then◌else◌}
use Rattle.std.specs.List.{list_any}
use Rattle.std.specs.Net.Addr.{ipv4_bits, ipv6_bits}
use Rattle.std.specs.declared.net.ip_addr.IpAddr.{IpAddr}
use Rattle.std.specs.declared.net.ip_addr.IpAddr.TheVariants.{V4, V6}
use Rattle.ads_edge.specs.declared.allowed_net.AllowedNet.{AllowedNet}

-- an address as a number: how many bits it has, and its value, the first octet the greatest
pub record Numbered : Type 0 where
  pub width : ℕ
  pub value : ℕ

-- of 128 bits; ::ffff:a.b.c.d is the IPv4 address a.b.c.d, which its last 32 bits are
abbrev pub numbered_v6 : ℕ → Numbered
numbered_v6 n = if n / 2 ^ 32 == 0xffff then record { width = 32; value = n % 2 ^ 32 } else record { width = 128; value = n }

-- of 32 bits or 128
abbrev pub numbered : IpAddr → Numbered
numbered (V4 a) = record { width = 32; value = ipv4_bits a }
numbered (V6 a) = numbered_v6 (ipv6_bits a)

-- so many first bits of a number, which are all where it has no more; the others are cut off
abbrev pub first_bits : ℕ → Numbered → ℕ
first_bits bits n = n.value / 2 ^ (n.width - bits)

-- both addresses are of one family, and so many first bits are the same
abbrev pub share_bits : ℕ → Numbered → Numbered → Bool
share_bits bits a b = a.width == b.width && first_bits bits a == first_bits bits b

-- the net holds the address
abbrev pub holds : AllowedNet → IpAddr → Bool
holds net a = share_bits net.bits (numbered net.address) (numbered a)

-- a net of the list holds the address, or the list is empty
abbrev pub allows : List AllowedNet → IpAddr → Bool
allows nets a = length nets == 0 || list_any (λ net. holds net a) nets
