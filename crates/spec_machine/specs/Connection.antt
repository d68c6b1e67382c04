-- A connection, and what it produces. Beckhoff Information System, "AMS/TCP Header".
use Rattle.std.specs.Prelude.{ℕ, ◌+◌, ◌-◌, List, [], ◌∷◌, ◌++◌, length, flat_map, Bool, true, false}
use Rattle.std.specs.Prelude.{◌||◌, nat_le, ◌==◌, if◌then◌else◌, Option, Some, None}
use Rattle.spec_machine.specs.Device.{Produced, Reply, Notification}

-- A connection stays in the machine when it is gone: what it was given can still be read off.
pub record Connection (C : Type 0) : Type 0 where
  pub number : ℕ
  -- all bytes that came since it was opened
  pub received : List ℕ
  -- how many of its frames were taken
  pub frames_taken : ℕ
  pub client : C
  pub produced : List Produced
  -- how many bytes of the produced frames were taken by its peer
  pub bytes_taken : ℕ
  -- it is to be shut
  pub closing : Bool
  -- it was closed, lost or shut
  pub gone : Bool

abbrev pub fresh_connection : {C : Type 0} → C → ℕ → Connection C
fresh_connection client number = record {
  number = number;
  received = [];
  frames_taken = 0;
  client = client;
  produced = [];
  bytes_taken = 0;
  closing = false;
  gone = false;
}

-- a connection that is closing or gone takes and produces nothing
abbrev pub is_deaf : {C : Type 0} → Connection C → Bool
is_deaf k = k.closing || k.gone

-- the bytes of a produced frame
abbrev pub bytes_of : Produced → List ℕ
bytes_of (Reply bytes) = bytes
bytes_of (Notification samples bytes) = bytes

abbrev pub bytes_of_all : List Produced → List ℕ
bytes_of_all produced = flat_map bytes_of produced

-- This project's own choice: at most so many produced bytes wait to be taken.
abbrev pub MAX_QUEUED : ℕ
MAX_QUEUED = 4194304

-- how many produced bytes wait
abbrev pub queued_of : {C : Type 0} → Connection C → ℕ
queued_of k = length (bytes_of_all k.produced) - k.bytes_taken

abbrev pub with_closing : {C : Type 0} → Connection C → Connection C
with_closing k = record k { closing = true }

abbrev pub with_frame : {C : Type 0} → Produced → Connection C → Connection C
with_frame frame k = record k { produced = k.produced ++ frame ∷ [] }

-- a frame is produced where it fits; else the connection is closing
abbrev pub fits : {C : Type 0} → Produced → Connection C → Bool
fits frame k = nat_le (queued_of k + length (bytes_of frame)) MAX_QUEUED

unfoldable pub produce : {C : Type 0} → Produced → Connection C → Connection C
produce frame k =
    if k.closing then k else if fits frame k then with_frame frame k else with_closing k

unfoldable pub produce_all : {C : Type 0} → List Produced → Connection C → Connection C
produce_all [] k = k
produce_all (frame ∷ frames) k = produce_all frames (produce frame k)

-- the connection of a number
unfoldable pub connection_of : {C : Type 0} → ℕ → List (Connection C) → Option (Connection C)
connection_of number [] = None
connection_of number (k ∷ ks) = if k.number == number then Some k else connection_of number ks

-- a connection takes the place of the one of its number
unfoldable pub put_back : {C : Type 0} → Connection C → List (Connection C) → List (Connection C)
put_back new [] = []
put_back new (k ∷ ks) = if k.number == new.number then new ∷ ks else k ∷ put_back new ks
