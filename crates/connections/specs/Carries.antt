-- What is kept of connections stands for those of a machine that are there, place by place.
use Rattle.std.specs.Prelude.{◌≡◌, ℕ, ◌≤◌, List, [], ◌∷◌, length, map, false, None}
use Rattle.ams_tcp.specs.Held.{Held}
use Rattle.ams_tcp.specs.History.{Represents}
use Rattle.spec_machine.specs.Connection.{Connection, connection_of, bytes_of, bytes_of_all}
use Rattle.spec_machine.specs.Offers.{is_among, left_after}
use Rattle.ads_served.specs.Opened.{AreApart}
use Rattle.connections.specs.declared.outlet.Outlet.{Outlet}
use Rattle.connections.specs.Outlets.{Outlets}
use Rattle.connections.specs.Present.{present}

-- each element of a column stands for the connection at its place
abbrev pub EachBeside : {X C : Type 0} → (X → Connection C → Type 0) → List X → List (Connection C) → Type 0
EachBeside Stands [] [] = Unit {0}
EachBeside Stands [] (k ∷ ks) = ⊥
EachBeside Stands (x ∷ xs) [] = ⊥
EachBeside Stands (x ∷ xs) (k ∷ ks) = Stands x k × EachBeside Stands xs ks

-- what waits for a connection
pub record IsOutlet {C : Type 0} (o : Outlet) (k : Connection C) : Type 0 where
  pub waiting : o.out ≡ left_after k.bytes_taken (map bytes_of k.produced)
  pub bytes_taken : k.bytes_taken ≤ length (bytes_of_all k.produced)
  pub closing : o.closing ≡ k.closing

-- the same by its number
pub record IsEntryOf {C : Type 0} (e : ℕ × Outlet) (k : Connection C) : Type 0 where
  pub number : e.0 ≡ k.number
  pub outlet : IsOutlet e.1 k

abbrev pub EachOutlet : {C : Type 0} → Outlets → List (Connection C) → Type 0
EachOutlet es ks = EachBeside IsEntryOf es ks

-- the stream of a connection: what it was fed, and how many frames it gave
abbrev pub IsStreamOf : {C : Type 0} → Held → Connection C → Type 0
IsStreamOf held k = Represents held (record { fed = k.received; given = k.frames_taken; told_broken = held.told_broken })

abbrev pub EachStream : {C : Type 0} → List Held → List (Connection C) → Type 0
EachStream helds ks = EachBeside IsStreamOf helds ks

-- the marks are those of a list of numbers
abbrev pub EachMarked : List ℕ → Outlets → Type 0
EachMarked blocked [] = Unit {0}
EachMarked blocked (e ∷ es) = (let o = e.1 in o.blocked ≡ is_among e.0 blocked) × EachMarked blocked es

-- outlets stand for the connections of a machine that are there, and for those of them that are blocked
pub record Carries {C : Type 0} (es : Outlets) (blocked : List ℕ) (ks : List (Connection C)) : Type 0 where
  pub each : EachOutlet es (present ks)
  pub apart : AreApart ks
  pub marked : EachMarked blocked es
  -- whoever is blocked was opened
  pub known : (n : ℕ) → connection_of n ks ≡ None → is_among n blocked ≡ false
