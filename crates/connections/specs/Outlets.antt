-- What waits for connections, by their numbers in the order of opening: what is read of it, and how it changes.
use Rattle.std.specs.Prelude.{ℕ, ◌+◌, zero, suc, List, [], ◌∷◌, ◌++◌, length, map, filter, nat_lt, nat_le, slice_get}
use Rattle.std.specs.Prelude.{Bool, true, false, ◌||◌, ◌&&◌, not, ◌==◌, if◌then◌else◌, Option, Some, None, is_some}
use Rattle.std.specs.Map.{values_of}
use Rattle.out_queue.specs.Queue.{QUEUE_LIMIT, queued, frames_after}
use Rattle.connections.specs.Offering.{offer_of, offers_of, run_of, first_left}
use Rattle.connections.specs.declared.outlet.Outlet.{Outlet}

abbrev pub Outlets : Type 0
Outlets = List (ℕ × Outlet)

-- nothing waits, and it is open
abbrev pub fresh_outlet : Outlet
fresh_outlet = record { out = []; closing = false; blocked = false }

-- bytes of its first frame were taken; where a part of it is left, it is blocked
abbrev pub taken : ℕ → Outlet → Outlet
taken n o = record o { out = frames_after n o.out; blocked = nat_lt n (length (first_left o.out)) }

-- all that waited was taken
abbrev pub emptied : Outlet → Outlet
emptied o = record o { out = []; blocked = false }

-- it is writable again
abbrev pub freed : Outlet → Outlet
freed o = record o { blocked = false }

-- it is to be shut
abbrev pub closed : Outlet → Outlet
closed o = record o { closing = true }

-- no frame waits while its queue is open
abbrev pub with_nothing : Outlet → Outlet
with_nothing o = record o { out = [] }

-- these frames wait, and it is closing where it was, or where that was told
abbrev pub holding : List (List ℕ) → Bool → Outlet → Outlet
holding frames closes o = record o { out = frames; closing = o.closing || closes }

-- a frame has room behind those that wait
unfoldable pub has_room : List ℕ → Outlet → Bool
has_room frame o = nat_le (queued o.out + length frame) QUEUE_LIMIT

-- a frame waits behind the others; one without room closes it
unfoldable pub given : List ℕ → Outlet → Outlet
given frame o = if o.closing then o else if has_room frame o then record o { out = o.out ++ frame ∷ [] } else closed o

-- whether a frame that is given waits
abbrev pub is_fitting : List ℕ → Outlet → Bool
is_fitting frame o = not o.closing && has_room frame o

-- the outlet of a number changes, where it is there
abbrev pub change_of : (Outlet → Outlet) → ℕ → Outlets → Outlets
change_of change n [] = []
change_of change n (e ∷ es) = if e.0 == n then (e.0, change e.1) ∷ es else e ∷ change_of change n es

-- the outlet of a number goes, where it is there
abbrev pub without_number : ℕ → Outlets → Outlets
without_number n [] = []
without_number n (e ∷ es) = if e.0 == n then es else e ∷ without_number n es

-- the outlet at a place changes, where one is there
abbrev pub change_at : (Outlet → Outlet) → ℕ → Outlets → Outlets
change_at change i [] = []
change_at change zero (e ∷ es) = (e.0, change e.1) ∷ es
change_at change (suc i) (e ∷ es) = e ∷ change_at change i es

-- the outlet at a place
abbrev pub outlet_at : Outlets → ℕ → Option Outlet
outlet_at es i = slice_get (values_of es) i

-- the frames that wait of one that may be there
abbrev pub frames_in : Option Outlet → List (List ℕ)
frames_in None = []
frames_in (Some o) = o.out

-- whether what is there passes a test
abbrev pub test_in : {X : Type 0} → (X → Bool) → Option X → Bool
test_in test None = false
test_in test (Some x) = test x

abbrev pub is_closing : Outlet → Bool
is_closing o = o.closing

abbrev pub closing_at : Outlets → ℕ → Bool
closing_at es i = test_in is_closing (outlet_at es i)

-- what is read of the outlet of a number
abbrev pub read_among : {X : Type 0} → (Outlet → X) → X → Outlets → ℕ → X
read_among read none [] n = none
read_among read none (e ∷ es) n = if e.0 == n then read e.1 else read_among read none es n

-- what a connection is offered: what is left of its first frame, unless it is blocked
abbrev pub offer_of_outlet : Outlet → Option (List ℕ)
offer_of_outlet o = offer_of o.blocked o.out

abbrev pub offer_among : Outlets → ℕ → Option (List ℕ)
offer_among es n = read_among offer_of_outlet None es n

-- what is lent of a connection: the frames that wait for it, unless it is blocked
abbrev pub run_of_outlet : Outlet → Option (List (List ℕ))
run_of_outlet o = run_of o.blocked o.out

abbrev pub run_among : Outlets → ℕ → Option (List (List ℕ))
run_among es n = read_among run_of_outlet None es n

-- how many frames wait for it, unless it is blocked
abbrev pub offers_of_outlet : Outlet → ℕ
offers_of_outlet o = offers_of o.blocked o.out

abbrev pub offers_among : Outlets → ℕ → ℕ
offers_among es n = read_among offers_of_outlet 0 es n

abbrev pub closing_among : Outlets → ℕ → Bool
closing_among es n = read_among is_closing false es n

-- something is offered to it, or it is to be shut
abbrev pub is_due_outlet : Outlet → Bool
is_due_outlet o = is_some (offer_of_outlet o) || o.closing

abbrev pub numbers_of : Outlets → List ℕ
numbers_of es = map (λ (e : ℕ × Outlet). e.0) es

-- the numbers of those to whom something is offered, or who are to be shut
abbrev pub numbers_due : Outlets → List ℕ
numbers_due es = numbers_of (filter (λ (e : ℕ × Outlet). is_due_outlet e.1) es)

-- of a column that stands beside them, what stands at the place of a number
abbrev pub beside : {X : Type 0} → ℕ → Outlets → List X → Option X
beside n [] xs = None
beside n (e ∷ es) [] = None
beside n (e ∷ es) (x ∷ xs) = if e.0 == n then Some x else beside n es xs
