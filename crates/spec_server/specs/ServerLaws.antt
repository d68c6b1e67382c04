-- Laws of the server that the program is: of every description, all signals and every log.
use Rattle.std.specs.Prelude.{◌≡◌, ◌+◌, ◌≤◌, ℕ, List, length, false, Some, if◌then◌else◌}
use Rattle.signals.specs.Wave.{Wave}
use Rattle.ads_outside.specs.declared.event.Event.TheVariants as event
use Rattle.ads_outside.specs.declared.moves.Move.{Move}
use Rattle.ads_outside.specs.declared.moves.Move.TheVariants as move
use Rattle.spec_plant.specs.Description.{Description}
use Rattle.spec_plant.specs.Accepted.{IsAccepted}
use Rattle.spec_rules.specs.TextVerdict.{Breaks, text_verdict}
use Rattle.spec_rules.specs.TextVerdict as text
use Rattle.spec_formats.specs.Codes.{not_permitted}
use Rattle.spec_formats.specs.Groups.{value_by_handle}
use Rattle.spec_formats.specs.Request.{Read, Write, AddDeviceNotification, ReadWrite}
use Rattle.spec_machine.specs.Device.{DescriptionFault, BreaksRule, NoDocument}
use Rattle.spec_machine.specs.MachineState.{MachineState}
use Rattle.spec_machine.specs.Moves.{state_after_move}
use Rattle.spec_machine.specs.Offers.{taken_of}
use Rattle.spec_machine.specs.Turns.{KeepsTurns}
use Rattle.spec_machine.specs.ScriptLine.{ScriptLine}
use Rattle.spec_machine.specs.Delivery.{IsPrefix, AreOffers, is_short, is_cut_off}
use Rattle.spec_machine.specs.World.{World, Setup}
use Rattle.spec_machine.specs.Handles.{kept_status}
use Rattle.spec_machine.specs.Watches.{Mode}
use Rattle.spec_machine.specs.Client.{Client}
use Rattle.spec_machine.specs.Acts.{Refusal}
use Rattle.spec_machine.specs.Writes.{Asker, may_write}
use Rattle.spec_machine.specs.Requests.{MAX_WATCHED, mode_of, act_of}
use Rattle.spec_machine.specs.Outcomes.{ReloadRefused, outcome_of_event}
use Rattle.spec_machine.specs.Projection.{projection_of}
use Rattle.spec_laws.specs.Isolation.{IsUntouched}
use Rattle.spec_laws.specs.Soundness.{ReadsAccepted}
use Rattle.spec_laws.specs.Reachable.{AllFits}
use Rattle.spec_laws.specs.RepliesFit.{AllAnswersFit}
use Rattle.spec_laws.specs.Refusals.{TurnedAwayChangesNothing, ResultChangesNothing, RefusedReloadCounts, dead_code}
use Rattle.spec_laws.specs.Refusals as laws
use Rattle.spec_server.specs.Server.{read_description, server_device, server, server_start, server_after, server_output, server_play}

-- Each description that is read is an accepted one.
abbrev pub ReadsDescriptions : Type 0
ReadsDescriptions = ReadsAccepted read_description

-- a reload that is refused is told why, and leaves all but its count
pub record IsRefused (s : MachineState World Client) (bytes : List ℕ) (fault : DescriptionFault) : Type 0 where
  pub outcome : outcome_of_event server_device s (event.Reload bytes) ≡ ReloadRefused fault
  pub state : state_after_move server s (move.Event (event.Reload bytes)) ≡ record s { refused = s.refused + 1 }

-- A text that breaks a rule is told the least one and the least item in it that does; any other text that is
-- no description is told that it is no TOML document.
pub record TellsReload (s : MachineState World Client) (bytes : List ℕ) : Type 0 where
  pub rule : (rule item : ℕ) → text_verdict (length s.world.signals) bytes ≡ Breaks rule item
      → IsRefused s bytes (BreaksRule rule item)
  pub syntax : text_verdict (length s.world.signals) bytes ≡ text.NoDocument → IsRefused s bytes NoDocument

abbrev pub TellsReloads : Type 0
TellsReloads = (s : MachineState World Client) (bytes : List ℕ) → TellsReload s bytes

-- The play of a script keeps the turns, so what is said of such logs is said of it.
abbrev pub ServerPlaysInTurns : Type 0
ServerPlaysInTurns = (description : Description) (signals : List Wave) (lines : List ScriptLine)
    → KeepsTurns server (server_start description signals) (server_play description signals lines)

-- none of the bytes that a connection reads, were it alone, is written by another
abbrev pub IsUntouchedHere : Description → List Wave → ℕ → List Move → Type 0
IsUntouchedHere description signals c log = IsUntouched read_description description signals c log

-- A client is given what it would be given alone, where no other writes what it reads.
abbrev pub ServerIsIsolated : Type 0
ServerIsIsolated = (description : Description) (signals : List Wave) (c : ℕ) (log : List Move)
    → IsUntouchedHere description signals c log
    → server_output description signals c log ≡ server_output description signals c (projection_of c log)

-- What such a client took begins what it would be given alone, wherever the log ends; and at the end of a
-- turn it is all of that, unless its last offer was short, or it was closed by its peer or lost.
pub record TakesAsAloneHere (description : Description) (signals : List Wave) (c : ℕ) (log : List Move) : Type 0 where
  pub begins : AreOffers server (server_start description signals) log
      → IsPrefix (taken_of c log) (server_output description signals c (projection_of c log))
  pub all : KeepsTurns server (server_start description signals) log
      → is_short c log ≡ false → is_cut_off c log ≡ false
      → taken_of c log ≡ server_output description signals c (projection_of c log)

abbrev pub ServerTakesAsAlone : Type 0
ServerTakesAsAlone = (description : Description) (signals : List Wave) (c : ℕ) (log : List Move)
    → IsUntouchedHere description signals c log → TakesAsAloneHere description signals c log

-- In every state all bytes are there, live handles lie within their symbols, and watched bytes are there.
abbrev pub ServerStateFits : Type 0
ServerStateFits = (description : Description) (signals : List Wave) → IsAccepted description (length signals)
    → (log : List Move) → AllFits (server_after description signals log)

-- In every state each reply has at most 2,000,000 bytes of data.
abbrev pub ServerRepliesFit : Type 0
ServerRepliesFit = (description : Description) (signals : List Wave) → IsAccepted description (length signals)
    → (log : List Move) → AllAnswersFit server_device (server_after description signals log)

-- any access by a handle that is not live is refused, so it touches nothing: by its code, unless a check that comes before refuses it
pub record ServerRefuses (d : Setup) (c : Client) (k : Asker) (handle code : ℕ) : Type 0 where
  pub read : (len : ℕ) → act_of d c k (Read value_by_handle handle len) ≡ Refusal code
  pub write : (bytes : List ℕ)
      → act_of d c k (Write value_by_handle handle bytes) ≡ Refusal (if may_write k.rights then code else not_permitted)
  pub add : (len number delay cycle : ℕ) (mode : Mode) → mode_of number ≡ Some mode → len ≤ MAX_WATCHED
      → act_of d c k (AddDeviceNotification value_by_handle handle len number delay cycle) ≡ Refusal code
  pub any_add : (len number delay cycle : ℕ)
      → laws.IsRefused (act_of d c k (AddDeviceNotification value_by_handle handle len number delay cycle))
  pub read_write : (len : ℕ) (bytes : List ℕ) → laws.IsRefused (act_of d c k (ReadWrite value_by_handle handle len bytes))

abbrev pub ServerRefusesDeadHandles : Type 0
ServerRefusesDeadHandles = (d : Setup) (c : Client) (k : Asker) (handle code : ℕ)
    → dead_code (kept_status c.handles handle k.port.number) ≡ Some code → ServerRefuses d c k handle code

-- A refusal leaves no trace: a packet that is turned away, or is told a result other than 0, leaves the world and its client, with
-- handles and notifications, as it found them; and a reload whose description is refused leaves all but its count.
pub record ServerLeavesAllAtRefusals : Type 0 where
  pub turned_away : TurnedAwayChangesNothing
  pub results : ResultChangesNothing
  pub reloads : RefusedReloadCounts
