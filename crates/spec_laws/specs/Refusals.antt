-- A refusal changes nothing, and a handle that is not live touches nothing.
use Rattle.std.specs.Prelude.{◌≡◌, ◌≢◌, ◌⊎◌, ℕ, ◌+◌, ◌≤◌, List, length, true, false, Option, Some, ◌<◌}
use Rattle.std.specs.Prelude.{None, Err}
use Rattle.spec_plant.specs.World.{Block}
use Rattle.spec_formats.specs.Codes.{no_error, not_permitted, symbol_not_found}
use Rattle.spec_formats.specs.Codes.{symbol_version_invalid}
use Rattle.spec_formats.specs.Groups.{ValueByHandle, value_by_handle}
use Rattle.spec_formats.specs.Request.{Read, Write, AddDeviceNotification, ReadWrite}
use Rattle.ads_outside.specs.declared.event.Event.TheVariants as event
use Rattle.ads_outside.specs.declared.moves.Move.{Move}
use Rattle.ads_outside.specs.declared.moves.Move.TheVariants as move
use Rattle.spec_machine.specs.Device.{DescriptionFault}
use Rattle.spec_machine.specs.Connection.{Connection, connection_of}
use Rattle.spec_machine.specs.MachineState.{MachineState}
use Rattle.spec_machine.specs.Moves.{state_after_move, state_after}
use Rattle.spec_machine.specs.Manner.{Manner, Strict, Wide}
use Rattle.spec_machine.specs.World.{World, Setup, setup_of}
use Rattle.spec_machine.specs.Handles.{HandleStatus, Never, Released, Outdated, Live, kept_status}
use Rattle.spec_machine.specs.Watches.{Mode}
use Rattle.spec_machine.specs.Client.{Place, Client, client_after}
use Rattle.spec_machine.specs.Acts.{Act, Refusal, outcome_of, outcomes_of, memory_after, effect_of}
use Rattle.spec_machine.specs.Answers.{answered_group, READ, WRITE}
use Rattle.spec_machine.specs.Answers.{ADD_DEVICE_NOTIFICATION}
use Rattle.spec_machine.specs.Writes.{Asker, may_write}
use Rattle.spec_machine.specs.Meanings.{mode_in}
use Rattle.spec_machine.specs.MoreActs.{is_own_group}
use Rattle.spec_machine.specs.Requests.{MAX_WATCHED, mode_of, act_of}
use Rattle.spec_machine.specs.Decisions.{Decision, NoAnswer, EndConnection, AmsError, Perform}
use Rattle.spec_machine.specs.Packets.{decide}
use Rattle.spec_machine.specs.Replies.{outcome_in_all, performed}
use Rattle.spec_machine.specs.AdsDevice.{DescriptionReading, server_step}

-- the bytes and the client after a request whose result is not 0
pub record ChangesNothing (memory : List Block) (c : Client) (a : Act) : Type 0 where
  pub memory_stays : memory_after memory a ≡ memory
  pub client_stays : client_after c (effect_of a) ≡ c

abbrev pub RefusalChangesNothing : Type 0
RefusalChangesNothing = (memory : List Block) (c : Client) (a : Act)
    → (outcome_of memory a).code ≢ no_error → ChangesNothing memory c a

-- a packet that gets an AMS error or no answer, or that ends the connection
abbrev pub IsTurnedAway : Decision → Type 0
IsTurnedAway decision =
    (decision ≡ NoAnswer) ⊎ ((decision ≡ EndConnection) ⊎ ((code : ℕ) × (decision ≡ AmsError code)))

-- the result that the reply to a packet tells, over the bytes before it; 0 where no reply tells one
abbrev pub result_told : Decision → List Block → ℕ
result_told (Perform acts form) memory = (outcome_in_all form (outcomes_of memory acts)).code
result_told decision memory = no_error

pub record LeavesAll (w : World) (c : Client) (packet : List ℕ) : Type 0 where
  pub world_stays : (performed (decide (setup_of w) c packet) packet w c).world ≡ w
  pub client_stays : (performed (decide (setup_of w) c packet) packet w c).client ≡ c

abbrev pub TurnedAwayChangesNothing : Type 0
TurnedAwayChangesNothing = (w : World) (c : Client) (packet : List ℕ)
    → IsTurnedAway (decide (setup_of w) c packet) → LeavesAll w c packet

-- A packet whose reply tells a result other than 0 leaves the world and its client.
abbrev pub ResultChangesNothing : Type 0
ResultChangesNothing = (w : World) (c : Client) (packet : List ℕ)
    → result_told (decide (setup_of w) c packet) w.memory ≢ no_error → LeavesAll w c packet

-- A reload whose description is refused leaves all but its count.
abbrev pub RefusedReloadCounts : Type 0
RefusedReloadCounts = (reading : DescriptionReading)
    (s : MachineState World Client) (bytes : List ℕ) (fault : DescriptionFault)
    → reading bytes (length s.world.signals) ≡ Err fault
    → state_after_move (server_step reading) s (move.Event (event.Reload bytes))
    ≡ record s { refused = s.refused + 1 }

-- the code of a handle that is not live
abbrev pub dead_code : HandleStatus Place → Option ℕ
dead_code Never = Some symbol_not_found
dead_code Released = Some symbol_not_found
dead_code Outdated = Some symbol_version_invalid
dead_code (Live place) = None

-- a Read, a Write and an addition by such a handle: they are refused with its code, unless a check
-- that comes before refuses them with another
pub record RefusesHandle (d : Setup) (c : Client) (k : Asker) (handle code : ℕ) : Type 0 where
  pub read : (len : ℕ) → answered_group READ value_by_handle ≡ Some ValueByHandle
      → act_of d c k (Read value_by_handle handle len) ≡ Refusal code
  pub write : (bytes : List ℕ) → answered_group WRITE value_by_handle ≡ Some ValueByHandle
      → may_write k.rights ≡ true
      → act_of d c k (Write value_by_handle handle bytes) ≡ Refusal code
  pub write_without_right : (bytes : List ℕ)
      → answered_group WRITE value_by_handle ≡ Some ValueByHandle
      → may_write k.rights ≡ false
      → act_of d c k (Write value_by_handle handle bytes) ≡ Refusal not_permitted
  pub add : (len number delay cycle : ℕ) (mode : Mode)
      → answered_group ADD_DEVICE_NOTIFICATION value_by_handle ≡ Some ValueByHandle
      → mode_of number ≡ Some mode → len ≤ MAX_WATCHED
      → act_of d c k (AddDeviceNotification value_by_handle handle len number delay cycle)
      ≡ Refusal code

-- it is refused, so it reads, writes and changes nothing
abbrev pub IsRefused : Act → Type 0
IsRefused a = (code : ℕ) × (a ≡ Refusal code)

-- a group that additions do not have
abbrev pub IsUnwatched : Manner → ℕ → Type 0
IsUnwatched Strict group = answered_group ADD_DEVICE_NOTIFICATION group ≡ None
IsUnwatched Wide group = (answered_group ADD_DEVICE_NOTIFICATION group ≡ None) × (is_own_group group ≡ false)

-- an addition of a mode that the server does not know, of too many bytes or of none, or of a group that additions do not
-- have
abbrev pub IsBadAddition : Manner → ℕ → ℕ → ℕ → Type 0
IsBadAddition manner group len number =
    (mode_of (mode_in manner number) ≡ None) ⊎ ((MAX_WATCHED < len) ⊎ ((len ≡ 0) ⊎ IsUnwatched manner group))

-- Such an addition is refused, and so touches no name.
abbrev pub BadAdditionsAreRefused : Type 0
BadAdditionsAreRefused = (d : Setup) (c : Client) (k : Asker)
    (group offset len number delay cycle : ℕ) → IsBadAddition d.profile.manner group len number
    → IsRefused (act_of d c k (AddDeviceNotification group offset len number delay cycle))

-- any access by such a handle, whatever is asked and whatever is answered
pub record RefusesAnyForm (d : Setup) (c : Client) (k : Asker) (handle : ℕ) : Type 0 where
  pub read : (len : ℕ) → IsRefused (act_of d c k (Read value_by_handle handle len))
  pub write : (bytes : List ℕ) → IsRefused (act_of d c k (Write value_by_handle handle bytes))
  pub add : (len mode delay cycle : ℕ)
      → IsRefused (act_of d c k (AddDeviceNotification value_by_handle handle len mode delay cycle))
  pub read_write : (len : ℕ) (bytes : List ℕ)
      → IsRefused (act_of d c k (ReadWrite value_by_handle handle len bytes))

abbrev pub DeadHandleTouchesNothing : Type 0
DeadHandleTouchesNothing = (d : Setup) (c : Client) (k : Asker)
    (handle code : ℕ) → dead_code (kept_status c.handles handle k.port.number) ≡ Some code
    → RefusesHandle d c k handle code × RefusesAnyForm d c k handle

-- what a connection was granted and added only grows, and the next number is one more than that
pub record NumbersGrow (k l : Connection Client) : Type 0 where
  pub handles : length k.client.handles ≤ length l.client.handles
  pub additions : k.client.additions ≤ l.client.additions

-- So no number of a handle or a notification is given twice.
abbrev pub NumbersNeverFall : Type 0
NumbersNeverFall = (reading : DescriptionReading)
    (s : MachineState World Client) (c : ℕ) (log : List Move) (k : Connection Client)
    → connection_of c s.connections ≡ Some k
    → (l : Connection Client)
    × (connection_of c (state_after (server_step reading) s log).connections ≡ Some l)
    × NumbersGrow k l
