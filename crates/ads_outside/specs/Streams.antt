-- The bytes that each connection took, whatever pieces they were offered in.
use Rattle.std.specs.Prelude.{ℕ, List, [], ◌∷◌, ◌++◌, ◌==◌, if◌then◌else◌}
use Rattle.ads_outside.specs.declared.moves.Move.{Move}
use Rattle.ads_outside.specs.declared.moves.Move.TheVariants as move

-- all bytes that the connection of a number took
abbrev pub Streams : Type 0
Streams = ℕ → List ℕ

-- no connection took a byte
abbrev pub none_taken : Streams
none_taken = λ n. []

-- a connection took these bytes more, and no other took any
abbrev pub grown : ℕ → List ℕ → Streams → Streams
grown c bytes streams = λ n. if c == n then streams n ++ bytes else streams n

abbrev pub streams_after_move : Streams → Move → Streams
streams_after_move streams (move.Event e) = streams
streams_after_move streams (move.Took c offered bytes) = grown c bytes streams
streams_after_move streams (move.Lost c) = streams
streams_after_move streams (move.Shut c) = streams

-- what was taken after these moves
unfoldable pub streams_after : Streams → List Move → Streams
streams_after streams [] = streams
streams_after streams (m ∷ ms) = streams_after (streams_after_move streams m) ms
