-- What is known of a wire's connections, and of what is to be done for them.
use Rattle.std.specs.Prelude.{ℕ, ◌≡◌, ◌≤◌, ◌<◌, ◌-◌, List, [], ◌++◌, Bool, false, not, ◌==◌, ◌||◌, length, All}
use Rattle.std.specs.List.{HoldsAt, remove}
use Rattle.std.specs.VecDeque.{deque_len}
use Rattle.std.specs.declared.net.socket_addr.SocketAddr.{SocketAddr}
use Rattle.ads_edge.specs.declared.connection.Connection.{Connection}
use Rattle.ads_edge.specs.declared.peers.Peers.{Peers}
use Rattle.ads_edge.specs.declared.silence.TheConstants.{SILENT_BEATS}

-- something is to be done without a wait
abbrev pub is_busy : Peers → Bool
is_busy p = not (deque_len p.to_read == 0) || not (deque_len p.to_send == 0) || not (deque_len p.to_tell == 0)

-- there is no connection, and nothing is to be done
pub record IsEmpty (p : Peers) : Type 0 where
  pub nobody : p.connections.items ≡ []
  pub nothing_to_do : is_busy p ≡ false
  pub no_turns : p.turns ≡ 0

-- the connection at this place is silent for five minutes at least, and none is silent for longer
pub record IsLongestSilent (connections : List Connection) (now : ℕ) (place : ℕ) : Type 0 where
  pub within : place < length connections
  pub long : HoldsAt (λ (c : Connection). SILENT_BEATS ≤ now - c.alive) connections place
  pub longest : HoldsAt (λ (c : Connection). All (λ (d : Connection). c.alive ≤ d.alive) connections) connections place

-- none is silent for five minutes
abbrev pub NoneIsSilent : List Connection → ℕ → Type 0
NoneIsSilent connections now = All (λ (c : Connection). now - c.alive < SILENT_BEATS) connections

-- a connection with this number is there, and that is its peer
pub record IsPeerOf (connections : List Connection) (number : ℕ) (peer : SocketAddr) : Type 0 where
  pub place : ℕ
  pub within : place < length connections
  pub numbered : HoldsAt (λ (c : Connection). c.number ≡ number) connections place
  pub from : HoldsAt (λ (c : Connection). c.peer ≡ peer) connections place

-- the connection that was silent longest is gone, and all others stay as they are
pub record ClosesSilent (old new : Peers) : Type 0 where
  pub place : ℕ
  pub silent : IsLongestSilent old.connections.items old.beat place
  pub gone : new.connections.items ≡ remove old.connections.items place

-- what is to be done for connections stays as it is
pub record KeepsQueues (old new : Peers) : Type 0 where
  pub to_read : new.to_read ≡ old.to_read
  pub turns : new.turns ≡ old.turns
  pub to_send : new.to_send ≡ old.to_send
  pub to_tell : new.to_tell ≡ old.to_tell
  pub beat : new.beat ≡ old.beat

-- those that stood in a queue keep their order, and others come behind them
pub record IsLongerBy (old new : List ℕ) : Type 0 where
  pub more : List ℕ
  pub behind : new ≡ old ++ more
