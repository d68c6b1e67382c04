-- Frames are taken one after another. No public clause cites this file.
use Rattle.std.specs.Prelude.{◌≡◌, ◌+◌, List, ℕ, Bool, true, false, if◌then◌else◌}
use Rattle.spec_machine.specs.Piece.{packets_left, after_packets, after_answer, with_client, end_of_piece}
use Rattle.spec_machine.specs.Summary.{count_of}
use Rattle.connections.specs.Outlets.{given, is_fitting}
use Rattle.connections.specs.declared.outlet.Outlet.{Outlet}
use Rattle.server_core.specs.declared.summary.Summary.{Summary}
use Rattle.server_core.specs.declared.device.Device.{Device}
use Rattle.server_core.specs.Served.{served, ServedExchange}
use Rattle.server_core.specs.Stands.{Conn, Goes}

-- one more reply
abbrev pub one_reply : Summary → Summary
one_reply s = record s { replies = count_of (s.replies + 1) }

-- a packet that was taken is answered
abbrev pub answered : List ℕ → ServedExchange → ServedExchange
answered packet x =
    let o = served.take x.world x.connection.client packet in
    record { world = o.world; connection = after_answer o.answer (with_client o.client x.connection) }

-- all frames that are left are taken, and a broken rest closes
unfoldable pub settled : ServedExchange → ServedExchange
settled x = end_of_piece (after_packets served (packets_left x.connection) x)

-- some frames were taken, and what is left leads to the same end
pub record TakesSome (new : Conn) (device : Device) (old_counts new_counts : Summary) (x : ServedExchange) : Type 0 where
  pub next : ServedExchange
  pub goes : Goes new device old_counts new_counts x next
  pub is_open : next.connection.closing ≡ false
  pub same_end : settled next ≡ settled x

-- more is to be taken, or the end is reached
abbrev pub Takes : Bool → Conn → Device → Summary → Summary → ServedExchange → Type 0
Takes true new device old_counts new_counts x = TakesSome new device old_counts new_counts x
Takes false new device old_counts new_counts x = Goes new device old_counts new_counts x (settled x)

-- a reply waits and is counted, or closes the connection
pub record Waits (frame : List ℕ) (old new : Outlet) (old_counts new_counts : Summary) : Type 0 where
  pub outlet : new ≡ given frame old
  pub counted : new_counts ≡ (if is_fitting frame old then one_reply old_counts else old_counts)

-- only the ports of the device are others
pub record KeepsDevice (old new : Device) : Type 0 where
  pub net : new.net ≡ old.net
  pub admission : new.admission ≡ old.admission
  pub signals : new.signals ≡ old.signals
  pub moment : new.moment ≡ old.moment
