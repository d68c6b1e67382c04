-- The numbers of connections that events open.
use Rattle.std.specs.Prelude.{ℕ, List, [], ◌∷◌, ◌++◌, Bool, true, not, ◌&&◌, ◌==◌}
use Rattle.std.specs.List.{list_any, flat_map}
use Rattle.ads_outside.specs.declared.event.Event.{Event}
use Rattle.ads_outside.specs.declared.event.Event.TheVariants as event
use Rattle.ads_outside.specs.declared.moves.Move.{Move}
use Rattle.ads_outside.specs.declared.moves.Move.TheVariants as move

-- the number that an event opens
abbrev pub opened_by : Event → List ℕ
opened_by (event.Opened c) = c ∷ []
opened_by (event.Piece c bytes) = []
opened_by (event.Closed c) = []
opened_by (event.Tick t) = []
opened_by (event.Reload bytes) = []
opened_by (event.Writable c) = []

abbrev pub opened_by_move : Move → List ℕ
opened_by_move (move.Event e) = opened_by e
opened_by_move (move.Took c offered bytes) = []
opened_by_move (move.Lost c) = []
opened_by_move (move.Shut c) = []

-- all numbers that a log opens, in order
abbrev pub opened_in : List Move → List ℕ
opened_in log = flat_map opened_by_move log

abbrev pub is_opened : ℕ → List ℕ → Bool
is_opened c opened = list_any (λ n. n == c) opened

-- an event opens no number that was opened before
abbrev pub is_new : Event → List ℕ → Bool
is_new (event.Opened c) opened = not (is_opened c opened)
is_new (event.Piece c bytes) opened = true
is_new (event.Closed c) opened = true
is_new (event.Tick t) opened = true
is_new (event.Reload bytes) opened = true
is_new (event.Writable c) opened = true

-- nor does any of these, one after another
unfoldable pub are_new : List Event → List ℕ → Bool
are_new [] opened = true
are_new (e ∷ es) opened = is_new e opened && are_new es (opened ++ opened_by e)
