-- The walk over connections that looks for the one that is silent longest.
use Rattle.std.proofs.Common.{◌≡◌, ℕ, ◌-◌, ◌<◌, ◌≤◌, List, length, get_or, arith}
use Rattle.std.specs.Prelude.{Option, Some, None, IfSome, IfNone, OnSome}
use Rattle.std.specs.List.{remove}
use Rattle.ads_edge.specs.declared.connection.Connection.{Connection}
use Rattle.ads_edge.specs.declared.peers.Peers.{Peers}
use Rattle.ads_edge.specs.Peers.{ClosesSilent, IsLongestSilent, NoneIsSilent}

-- this place's connection had its last sign of life then, long ago
pub record IsFound (connections : List Connection) (now least place : ℕ) : Type 0 where
  pub within : place < length connections
  pub long : least < now - 29_999
  pub here : (d : Connection) → (get_or connections place d).alive ≡ least

-- of the connections that were seen none had its last sign of life before the one that was found
pub record IsLeastSoFar (connections : List Connection) (now least seen : ℕ) (found : Option ℕ) : Type 0 where
  pub above : least ≤ now - 29_999
  pub some : IfSome found (IsFound connections now least)
  pub none : IfNone found (least ≡ now - 29_999)
  pub before : (k : ℕ) (d : Connection) → k < seen → least ≤ (get_or connections k d).alive

pub found_longest : (connections : List Connection) (now least : ℕ) (found : Option ℕ)
    → IsLeastSoFar connections now least (length connections) found → IfSome found (IsLongestSilent connections now)
found_longest connections now least None s = tt
found_longest connections now least (Some place) s = record {
  within = s.some.within;
  long = λ d. omega (arith, s.some.long, s.some.here d);
  longest = λ d k e below. omega (arith, s.some.here d, s.before k e below);
}

pub found_none : (connections : List Connection) (now least : ℕ) (found : Option ℕ)
    → IsLeastSoFar connections now least (length connections) found → IfNone found (NoneIsSilent connections now)
found_none connections now least None s = λ k d below. omega (arith, s.none, s.before k d below)
found_none connections now least (Some place) s = tt

pub closes_silent : {T : Type 0} (answer : Option T) (old new : Peers) (place : ℕ) → IsLongestSilent old.connections.items old.beat place
    → new.connections.items ≡ remove old.connections.items place → OnSome answer (ClosesSilent old new)
closes_silent None old new place silent gone = tt
closes_silent (Some x) old new place silent gone = record { place = place; silent = silent; gone = gone }
