-- How the connections of a script answer offers: each takes all, or as much as its room holds, or
-- the offer fails.
use Rattle.std.specs.Prelude.{ℕ, ◌-◌, List, [], ◌∷◌, ◌++◌, length, take, min, Bool}
use Rattle.std.specs.Prelude.{nat_lt, ◌==◌, if◌then◌else◌}
use Rattle.ads_outside.specs.declared.moves.Move.{Move}
use Rattle.ads_outside.specs.declared.moves.Move.TheVariants as move
use Rattle.spec_machine.specs.Offers.{blocked_after_move, is_among}

-- how many further bytes a connection takes
pub record Room : Type 0 where
  pub number : ℕ
  pub left : ℕ

-- the peers of a script: the connections with a room, those whose next offer fails, and those
-- that are blocked; any other takes all that it is offered
pub record Peers : Type 0 where
  pub rooms : List Room
  pub failing : List ℕ
  pub blocked : List ℕ

abbrev pub first_peers : Peers
first_peers = record { rooms = []; failing = []; blocked = [] }

-- a room takes the place of the connection's last one
abbrev pub with_room : ℕ → ℕ → Peers → Peers
with_room c n peers = record peers { rooms = record { number = c; left = n } ∷ peers.rooms }

abbrev pub with_failing : ℕ → Peers → Peers
with_failing c peers = record peers { failing = c ∷ peers.failing }

-- how many of so many bytes a connection takes
abbrev pub taken_by : List Room → ℕ → ℕ → ℕ
taken_by [] c n = n
taken_by (r ∷ rs) c n = if r.number == c then min r.left n else taken_by rs c n

-- the rooms after a connection took so many bytes
abbrev pub rooms_after : List Room → ℕ → ℕ → List Room
rooms_after [] c n = []
rooms_after (r ∷ rs) c n =
    if r.number == c then record r { left = r.left - n } ∷ rs else r ∷ rooms_after rs c n

-- The offers to a connection for which these frames wait: of the whole rest of the first frame,
-- until nothing waits or one is not taken whole.
unfoldable pub offers_to : List Room → ℕ → List (List ℕ) → List Move
offers_to rooms c [] = []
offers_to rooms c (f ∷ fs) =
    move.Took c (length f) (take (taken_by rooms c (length f)) f)
    ∷ (if nat_lt (taken_by rooms c (length f)) (length f) then []
    else offers_to (rooms_after rooms c (length f)) c fs)

-- the moves of a connection that is not lost: the offers, and its end where it is closing
abbrev pub served_moves : Bool → ℕ → List Move → List Move
served_moves closing c offers = if closing then offers ++ move.Shut c ∷ [] else offers

-- The moves of one connection after an event: where something waits and it is not blocked, either
-- the offer fails, or the offers are taken.
abbrev pub moves_of_connection : Peers → ℕ → Bool → List (List ℕ) → List Move
moves_of_connection peers c closing [] = served_moves closing c []
moves_of_connection peers c closing (f ∷ fs) =
    if is_among c peers.blocked then served_moves closing c []
    else if is_among c peers.failing then move.Lost c ∷ []
    else served_moves closing c (offers_to peers.rooms c (f ∷ fs))

-- the peers after a move
abbrev pub rooms_after_move : List Room → Move → List Room
rooms_after_move rooms (move.Took c offered bytes) = rooms_after rooms c (length bytes)
rooms_after_move rooms m = rooms

abbrev pub peers_after_move : Peers → Move → Peers
peers_after_move peers m = record peers {
  rooms = rooms_after_move peers.rooms m;
  blocked = blocked_after_move peers.blocked m;
}

unfoldable pub peers_after : Peers → List Move → Peers
peers_after peers [] = peers
peers_after peers (m ∷ ms) = peers_after (peers_after_move peers m) ms
