-- A handle that is live before and after a reload reads afterwards what it read before; and each handle is what its history says.
use Rattle.std.specs.Prelude.{◌≡◌, ℕ, List, [], ◌∷◌, ◌++◌, length, true, false, Some}
use Rattle.signals.specs.Wave.{Wave}
use Rattle.ads_outside.specs.declared.event.Event.TheVariants as event
use Rattle.ads_outside.specs.declared.moves.Move.{Move}
use Rattle.ads_outside.specs.declared.moves.Move.TheVariants as move
use Rattle.spec_plant.specs.Description.{Description}
use Rattle.spec_plant.specs.Accepted.{IsAccepted}
use Rattle.spec_formats.specs.Groups.{value_by_handle}
use Rattle.spec_formats.specs.Request.{Read}
use Rattle.spec_machine.specs.Profile.{Profile, strict}
use Rattle.spec_machine.specs.Connection.{Connection, connection_of, is_deaf}
use Rattle.spec_machine.specs.MachineState.{MachineState}
use Rattle.spec_machine.specs.World.{World, setup_of}
use Rattle.spec_machine.specs.Handles.{is_live, kept_status, status_of}
use Rattle.spec_machine.specs.Client.{Client}
use Rattle.spec_machine.specs.Acts.{Outcome}
use Rattle.spec_machine.specs.SumLaws.{single_outcome}
use Rattle.spec_machine.specs.Writes.{Asker}
use Rattle.spec_laws.specs.Histories.{handle_history}
use Rattle.spec_server.specs.Server.{read_description, start_in, server_after_in}

-- what a connection reads by a handle, so many bytes
abbrev pub read_by_handle : MachineState World Client → Connection Client → Asker → ℕ → ℕ → Outcome
read_by_handle s k asker handle len =
    single_outcome (setup_of s.world) asker (record { client = k.client; memory = s.world.memory })
    (Read value_by_handle handle len)

-- a connection that is heard before and after; and one who asks the same port, as it was and as it is
pub record IsHeardAgain (s t : MachineState World Client) (c : ℕ) (k l : Connection Client) (asker later : Asker) : Type 0 where
  pub before : connection_of c s.connections ≡ Some k
  pub heard : is_deaf k ≡ false
  pub after : connection_of c t.connections ≡ Some l
  pub same_port : later.port.number ≡ asker.port.number

-- each handle that is live in both states reads the same in both
abbrev pub ReadsAsBefore : MachineState World Client → MachineState World Client → Type 0
ReadsAsBefore s t = (c : ℕ) (k l : Connection Client) (asker later : Asker) → IsHeardAgain s t c k l asker later
    → (handle : ℕ) → is_live (kept_status k.client.handles handle asker.port.number) ≡ true
    → is_live (kept_status l.client.handles handle asker.port.number) ≡ true
    → (len : ℕ) → read_by_handle t l later handle len ≡ read_by_handle s k asker handle len

-- at a reload that follows a log
abbrev pub KeepsHandlesIn : Profile → Description → List Wave → List Move → List ℕ → Type 0
KeepsHandlesIn profile d waves before bytes =
    ReadsAsBefore (server_after_in profile d waves before)
    (server_after_in profile d waves (before ++ move.Event (event.Reload bytes) ∷ []))

-- So at each reload of every log over an accepted description, of the server of each profile.
abbrev pub EachKeepsHandles : Type 0
EachKeepsHandles = (profile : Profile) (d : Description) (waves : List Wave) → IsAccepted d (length waves)
    → (before : List Move) (bytes : List ℕ) → KeepsHandlesIn profile d waves before bytes

-- and so of the program `ads`, which is the strict one, without a right for others
abbrev pub KeepsHandles : Description → List Wave → List Move → List ℕ → Type 0
KeepsHandles d waves before bytes = KeepsHandlesIn strict d waves before bytes

abbrev pub ServerKeepsHandles : Type 0
ServerKeepsHandles = (d : Description) (waves : List Wave) → IsAccepted d (length waves)
    → (before : List Move) (bytes : List ℕ) → KeepsHandles d waves before bytes

-- In the state after a log each handle of a connection has the status that its history gives it.
abbrev pub HandlesAreHistoryIn : Profile → Description → List Wave → List Move → Type 0
HandlesAreHistoryIn profile d waves log = (c : ℕ) (k : Connection Client)
    → connection_of c (server_after_in profile d waves log).connections ≡ Some k
    → (handle port : ℕ) → kept_status k.client.handles handle port
    ≡ status_of (handle_history read_description c (start_in profile d waves) log) handle port

-- So of the server of each profile, over every description and every log.
abbrev pub EachHandleIsHistory : Type 0
EachHandleIsHistory = (profile : Profile) (d : Description) (waves : List Wave) (log : List Move) → HandlesAreHistoryIn profile d waves log
