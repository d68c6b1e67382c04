-- What an accepted write does: the bytes that it addresses hold afterwards the bytes that it carries, in their order, and a
-- read that follows answers them. By group and offset, by bit, by handle; alone, or as a part of a sum.
use Rattle.std.specs.Prelude.{◌≡◌, ℕ, ◌+◌, ◌/◌, ◌%◌, ◌≤◌, min, List, [], ◌∷◌, ◌++◌, length, take, drop, map, true, false}
use Rattle.std.specs.Prelude.{Option, Some}
use Rattle.std.specs.Option.{option_map_or}
use Rattle.signals.specs.Wave.{Wave}
use Rattle.ads_outside.specs.declared.event.Event.TheVariants as event
use Rattle.ads_outside.specs.declared.moves.Move.{Move}
use Rattle.ads_outside.specs.declared.moves.Move.TheVariants as move
use Rattle.spec_plant.specs.Description.{Area, Description}
use Rattle.spec_plant.specs.Accepted.{IsAccepted}
use Rattle.spec_plant.specs.World.{PlantPort, Block, byte_or_zero}
use Rattle.spec_formats.specs.Codes.{no_error}
use Rattle.spec_formats.specs.Groups.{Group, AreaBytes, AreaBit, ValueByHandle, ReleaseHandle, is_value_group}
use Rattle.spec_formats.specs.Request.{Read, Write, ReadState, WriteControl}
use Rattle.spec_machine.specs.Profile.{Profile, strict}
use Rattle.spec_machine.specs.World.{name_at, content_of, state_names, state_bytes}
use Rattle.spec_machine.specs.Access.{WholeByte, values_at}
use Rattle.spec_machine.specs.Handles.{Live, kept_status}
use Rattle.spec_machine.specs.Client.{Place, names_of_place, Client}
use Rattle.spec_machine.specs.Acts.{writes_of_acts}
use Rattle.spec_machine.specs.Answers.{answered_group, WRITE}
use Rattle.spec_machine.specs.SumLaws.{single_outcome}
use Rattle.spec_machine.specs.Projection.{acts_of_move}
use Rattle.spec_laws.specs.ExactWrites.{IsBitPut}
use Rattle.spec_laws.specs.Soundness.{Each}
use Rattle.spec_server.specs.Server.{read_description, server_after_in}
use Rattle.spec_promises.specs.Asked.{Asked, outcome_of_asked, after_asked, asked_of_move, names_written, Leads}

-- the area has these bytes from the offset on, and is else as it was
abbrev pub HoldsBytes : List Block → List Block → PlantPort → Area → ℕ → List ℕ → Type 0
HoldsBytes before after p area offset bytes =
    content_of after p area
    ≡ take offset (content_of before p area) ++ (bytes ++ drop (offset + length bytes) (content_of before p area))

-- a byte of an area
abbrev pub area_byte : List Block → PlantPort → Area → ℕ → ℕ
area_byte memory p area offset = byte_or_zero memory (name_at p area offset)

-- the bit is the one value that was written, 0 for 0 and 1 for any other, and its byte is else as it was; the offset counts
-- bits
abbrev pub HoldsBit : List Block → List Block → PlantPort → Area → ℕ → List ℕ → Type 0
HoldsBit before after p area offset (value ∷ []) =
    IsBitPut (offset % 8) (min value 1) (area_byte before p area (offset / 8)) (area_byte after p area (offset / 8))
HoldsBit before after p area offset bytes = ⊥

-- the handle is live, and the first bytes of its place are these
pub record HoldsByHandle (after : List Block) (c : Client) (p : PlantPort) (handle : ℕ) (bytes : List ℕ) : Type 0 where
  pub place : Place
  pub live : kept_status c.handles handle p.number ≡ Live place
  pub fits : length bytes ≤ place.len
  pub holds : values_at after (map WholeByte (names_of_place p.number place (length bytes))) ≡ bytes

-- by the group of the write; the data of a release is a handle, and is put nowhere
abbrev pub HoldsAt : Option Group → List Block → List Block → Client → PlantPort → ℕ → List ℕ → Type 0
HoldsAt (Some (AreaBytes area)) before after c p offset bytes = HoldsBytes before after p area offset bytes
HoldsAt (Some (AreaBit area)) before after c p offset bytes = HoldsBit before after p area offset bytes
HoldsAt (Some ValueByHandle) before after c p handle bytes = HoldsByHandle after c p handle bytes
HoldsAt (Some ReleaseHandle) before after c p offset bytes = after ≡ before
HoldsAt group before after c p offset bytes = ⊥

-- what is read where these bytes were written: of a bit 0 or 1
abbrev pub read_back : Option Group → List ℕ → List ℕ
read_back (Some (AreaBit area)) bytes = map (λ b. min b 1) bytes
read_back group bytes = bytes

-- the group that a write names
abbrev pub written_group : ℕ → Option Group
written_group number = answered_group WRITE number

abbrev pub IsReadBack : Asked → ℕ → ℕ → List ℕ → Type 0
IsReadBack a group offset bytes =
    single_outcome a.setup a.asker (after_asked a) (Read group offset (length bytes))
    ≡ record { code = no_error; bytes = read_back (written_group group) bytes }

-- what an accepted write leaves, and what the same client reads there with its next request
pub record IsWritten (a : Asked) (group offset : ℕ) (bytes : List ℕ) : Type 0 where
  pub holds : HoldsAt (written_group group) a.before.memory (after_asked a).memory a.before.client
      a.asker.port offset bytes
  pub read : option_map_or is_value_group (written_group group) false ≡ true → IsReadBack a group offset bytes

-- a write that is accepted is done
abbrev pub IsDone : Asked → Type 0
IsDone a = (group offset : ℕ) (bytes : List ℕ) → a.request ≡ Write group offset bytes
    → (outcome_of_asked a).code ≡ no_error → IsWritten a group offset bytes

-- what an accepted control leaves: the two state words of the port that was asked, which the next ReadState answers
pub record StatesAreSet (a : Asked) (ads device : ℕ) : Type 0 where
  pub holds : values_at (after_asked a).memory (map WholeByte (state_names a.asker.port))
      ≡ state_bytes ads device
  pub read : single_outcome a.setup a.asker (after_asked a) ReadState
      ≡ record { code = no_error; bytes = state_bytes ads device }

-- a control that is accepted is done
abbrev pub IsControlled : Asked → Type 0
IsControlled a = (ads device : ℕ) (bytes : List ℕ) → a.request ≡ WriteControl ads device bytes
    → (outcome_of_asked a).code ≡ no_error → StatesAreSet a ads device

-- the requests of a move of the log of a server, and what they make of it
abbrev pub asked_at_move : Profile → Description → List Wave → List Move → Move → List Asked
asked_at_move profile d waves before m = asked_of_move (server_after_in profile d waves before) m

abbrev pub memory_at : Profile → Description → List Wave → List Move → List Block
memory_at profile d waves log = (server_after_in profile d waves log).world.memory

-- a piece changes the bytes by its requests, one after another
abbrev pub ChangesByRequests : Profile → Description → List Wave → List Move → Move → Type 0
ChangesByRequests profile d waves before (move.Event (event.Piece c bytes)) =
    Leads (memory_at profile d waves before) (asked_at_move profile d waves before (move.Event (event.Piece c bytes)))
    (memory_at profile d waves (before ++ move.Event (event.Piece c bytes) ∷ []))
ChangesByRequests profile d waves before m = Unit {0}

-- at a move that follows a log
pub record HoldsWritesIn (profile : Profile) (d : Description) (waves : List Wave) (before : List Move) (m : Move) : Type 0 where
  -- its requests are all that it does, one after another
  pub requests : ChangesByRequests profile d waves before m
  -- the names that they write are those that the move may change
  pub names : names_written (asked_at_move profile d waves before m)
      ≡ writes_of_acts (acts_of_move read_description (server_after_in profile d waves before) m)
  -- and each write among them that is accepted is done, as is each control
  pub writes : Each IsDone (asked_at_move profile d waves before m)
  pub controls : Each IsControlled (asked_at_move profile d waves before m)

-- So at each move of every log over an accepted description, of the server of each profile.
abbrev pub EachHoldsWrites : Type 0
EachHoldsWrites = (profile : Profile) (d : Description) (waves : List Wave) → IsAccepted d (length waves)
    → (before : List Move) (m : Move) → HoldsWritesIn profile d waves before m

-- and so of the program `ads`, which is the strict one, without a right for others
abbrev pub HoldsWrites : Description → List Wave → List Move → Move → Type 0
HoldsWrites d waves before m = HoldsWritesIn strict d waves before m

abbrev pub ServerHoldsWrites : Type 0
ServerHoldsWrites = (d : Description) (waves : List Wave) → IsAccepted d (length waves)
    → (before : List Move) (m : Move) → HoldsWrites d waves before m
