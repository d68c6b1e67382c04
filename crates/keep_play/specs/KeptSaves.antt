-- A script over a store: the description that the server begins with, the bodies of its play, and the saves among them.
use Rattle.std.specs.Prelude.{ℕ, List, [], ◌∷◌, ◌++◌, length, codes, Option, option_map}
use Rattle.std.specs.Fmt.{decimal}
use Rattle.signals.specs.Wave.{Wave}
use Rattle.spec_plant.specs.Description.{Description}
use Rattle.spec_machine.specs.ScriptLine.{ScriptLine}
pub use Rattle.spec_persistent.specs.Persistent.{body_of_world}
use Rattle.spec_persistent.specs.Stored.{description_with_stored}
use Rattle.spec_server.specs.Server.{server, server_start, server_play, server_text}
use Rattle.spec_store.specs.Slots.{Standing}
use Rattle.stored_values.specs.StoredBodies.{entries_stored}
use Rattle.keep_loop.specs.Bodies.{bodies_of_run, saves_in}

-- the body that stands
abbrev pub body_standing : Option Standing → Option (List ℕ)
body_standing standing = option_map (λ (s : Standing). s.slot.body) standing

-- the description that the server begins with: its persistent symbols with the bytes of the body that stands
abbrev pub description_kept : Description → Option Standing → Description
description_kept d standing = description_with_stored (entries_stored (body_standing standing)) d

-- the bodies of a script's play: that behind each tick, and that at the end
abbrev pub bodies_of_play : Description → List Wave → List ScriptLine → List (List ℕ)
bodies_of_play d waves lines = bodies_of_run body_of_world server (server_start d waves) (server_play d waves lines)

-- the saves of a script's play over a description, where this body stood: of these bodies those that differ from the one before,
-- the first of them from what stood, if anything did
unfoldable pub saves_over : Description → List Wave → List ScriptLine → Option (List ℕ) → List (List ℕ)
saves_over d waves lines stood = saves_in stood (bodies_of_play d waves lines)

-- the saves of a script's play over a store
abbrev pub saves_of_play : Description → List Wave → List ScriptLine → Option Standing → List (List ℕ)
saves_of_play d waves lines standing = saves_over (description_kept d standing) waves lines (body_standing standing)

-- the line that tells how many saves were done
abbrev pub saved_line : ℕ → List ℕ
saved_line count = codes "saved " ++ decimal count ++ 10 ∷ []

-- what is printed of a play over a description, and of so many saves
abbrev pub saved_text : Description → List Wave → List ScriptLine → ℕ → List ℕ
saved_text d waves lines count = server_text d waves lines ++ saved_line count

-- what is printed where all saves are done
abbrev pub kept_text : Description → List Wave → List ScriptLine → Option Standing → List ℕ
kept_text d waves lines standing =
    saved_text (description_kept d standing) waves lines (length (saves_of_play d waves lines standing))
