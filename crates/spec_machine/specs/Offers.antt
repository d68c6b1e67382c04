-- What waits to be offered, what a log took, and which connections are blocked.
use Rattle.std.specs.Prelude.{ℕ, ◌-◌, List, [], ◌∷◌, ◌++◌, length, drop, map}
use Rattle.std.specs.Prelude.{filter, Bool, false, ◌||◌, not, nat_lt, nat_le, ◌==◌}
use Rattle.std.specs.Prelude.{if◌then◌else◌, Option, Some, None}
use Rattle.ads_outside.specs.declared.event.Event.TheVariants as event
use Rattle.ads_outside.specs.declared.moves.Move.{Move}
use Rattle.ads_outside.specs.declared.moves.Move.TheVariants as move
use Rattle.spec_machine.specs.Connection.{Connection, connection_of, bytes_of}
use Rattle.spec_machine.specs.MachineState.{MachineState}

-- what is left of these frames after so many bytes; no empty frame is ever left
unfoldable pub left_after : ℕ → List (List ℕ) → List (List ℕ)
left_after n [] = []
left_after n (f ∷ fs) =
    if nat_le (length f) n then left_after (n - length f) fs else drop n f ∷ left_after 0 fs

-- the frames of a connection that are not wholly taken, the first without its taken bytes
abbrev pub not_taken : {C : Type 0} → Option (Connection C) → List (List ℕ)
not_taken None = []
not_taken (Some k) = left_after k.bytes_taken (map bytes_of k.produced)

-- those that wait to be offered: none where the connection is gone
abbrev pub waiting_of : {C : Type 0} → Option (Connection C) → List (List ℕ)
waiting_of None = []
waiting_of (Some k) = if k.gone then [] else not_taken (Some k)

abbrev pub waiting_at : {W C : Type 0} → ℕ → MachineState W C → List (List ℕ)
waiting_at c s = waiting_of (connection_of c s.connections)

abbrev pub is_closing : {C : Type 0} → Option (Connection C) → Bool
is_closing None = false
is_closing (Some k) = k.closing

abbrev pub is_gone : {C : Type 0} → Option (Connection C) → Bool
is_gone None = false
is_gone (Some k) = k.gone

abbrev pub is_closing_at : {W C : Type 0} → ℕ → MachineState W C → Bool
is_closing_at c s = is_closing (connection_of c s.connections)

abbrev pub is_gone_at : {W C : Type 0} → ℕ → MachineState W C → Bool
is_gone_at c s = is_gone (connection_of c s.connections)

-- the connections whose last offer was short, and that were not writable since
abbrev pub blocked_after_move : List ℕ → Move → List ℕ
blocked_after_move blocked (move.Took c offered bytes) =
    if nat_lt (length bytes) offered then c ∷ blocked else blocked
blocked_after_move blocked (move.Event (event.Writable c)) =
    filter (λ b. not (b == c)) blocked
blocked_after_move blocked m = blocked

unfoldable pub blocked_after : List ℕ → List Move → List ℕ
blocked_after blocked [] = blocked
blocked_after blocked (m ∷ ms) = blocked_after (blocked_after_move blocked m) ms

abbrev pub is_among : ℕ → List ℕ → Bool
is_among c [] = false
is_among c (b ∷ bs) = (b == c) || is_among c bs

-- all bytes that a connection took
unfoldable pub taken_of : ℕ → List Move → List ℕ
taken_of c [] = []
taken_of c (move.Took n offered bytes ∷ ms) =
    if n == c then bytes ++ taken_of c ms else taken_of c ms
taken_of c (m ∷ ms) = taken_of c ms
