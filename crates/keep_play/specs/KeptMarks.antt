-- The marks of a script's play over a store: behind which tick each save stands.
use Rattle.std.specs.Prelude.{◌≡◌, ℕ, List, [], length, Option, Some}
use Rattle.ads_outside.specs.declared.moves.Move.{Move}
use Rattle.ads_outside.specs.WireState.{WireHistory}
use Rattle.signals.specs.Wave.{Wave}
use Rattle.spec_plant.specs.Description.{Description}
use Rattle.spec_machine.specs.MachineState.{MachineState}
use Rattle.spec_machine.specs.Moves.{EventStep}
use Rattle.spec_machine.specs.Play.{play_of}
use Rattle.spec_machine.specs.ScriptLine.{ScriptLine}
use Rattle.spec_server.specs.Server.{server, server_start, server_play}
use Rattle.spec_store.specs.Slots.{Standing}
use Rattle.persist_store.specs.Marks.{Mark}
use Rattle.keep_loop.specs.Bodies.{BodyOf, bodies_looked_at, bodies_to_end}
use Rattle.keep_loop.specs.Marking.{HoldsSaves, MarksLook, AreMarks, MarksLast, MarksMore}
use Rattle.keep_play.specs.KeptDisk.{DiskUse}
use Rattle.keep_play.specs.KeptSaves.{body_of_world, description_kept}

-- the wire had logged these moves
abbrev pub HasLogged : WireHistory → List Move → Type 0
HasLogged wire moves = wire.log ≡ Some moves

-- The marks of a whole play: one behind the turn of each tick and before the next event, and one at the end.
pub record MarksPlay (bodies : List Move → List (List ℕ)) (to_end : List (List ℕ)) (Holds : List (List ℕ) → Option (List ℕ) → Type 0)
    (play : List Move) (marks : List Mark) : Type 0 where
  pub looks : List Mark
  pub each : length looks ≡ length (bodies play)
  pub are : AreMarks (MarksLook bodies HasLogged Holds play) 0 looks
  pub last : MarksLast to_end (λ wire. HasLogged wire play) Holds [] looks marks

-- those of a script's play on a machine, whose disk told this file at the beginning; at a pace of one tick
abbrev pub MarksScript : {W C : Type 0} → BodyOf W → EventStep W C → MachineState W C → List ScriptLine → Option (List ℕ) → Option Standing
    → List Mark → Type 0
MarksScript body_of step s lines told standing marks =
    MarksPlay (bodies_looked_at 1 body_of step s) (bodies_to_end 1 body_of step s (play_of step s lines)) (HoldsSaves told standing) (play_of step s lines)
    marks

-- those of a script's play over a description
abbrev pub MarksOver : Description → List Wave → List ScriptLine → Option (List ℕ) → Option Standing → List Mark → Type 0
MarksOver d waves lines told standing marks =
    MarksPlay (bodies_looked_at 1 body_of_world server (server_start d waves))
    (bodies_to_end 1 body_of_world server (server_start d waves) (server_play d waves lines)) (HoldsSaves told standing) (server_play d waves lines) marks

-- whatever may be told of a disk before such a play, these marks may be told behind it
abbrev pub MarkedOver : Description → List Wave → List ScriptLine → DiskUse → Option Standing → Type 0
MarkedOver d waves lines disk standing =
    (marks : List Mark) → disk.marked marks → MarksMore disk.marked_new marks (MarksOver d waves lines disk.file standing)

-- the same of a script's play over a store
abbrev pub AllMarked : Description → List Wave → List ScriptLine → DiskUse → Option Standing → Type 0
AllMarked d waves lines disk standing = MarkedOver (description_kept d standing) waves lines disk standing
