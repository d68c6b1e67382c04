-- What waits for a connection while bytes of it are taken, or a frame is produced.
use Rattle.std.proofs.Common.{◌≡◌, ℕ, ◌+◌, ◌-◌, ◌<◌, List, [], ◌∷◌, ◌++◌, length, true, false, cond, refl, sym, ap, ◌∙◌, subst, arith}
use Rattle.std.specs.Prelude.{Bool, map, nat_le}
use Rattle.std.proofs.lemmas.List.{map-append, length-append}
use Rattle.std.proofs.lemmas.List.Concat.{flat_map-append}
use Rattle.spec_machine.specs.Device.{Produced}
use Rattle.spec_machine.specs.Connection.{Connection, bytes_of, bytes_of_all, queued_of, fits, with_frame, with_closing, produce}
use Rattle.spec_machine.specs.Offers.{left_after}
use Rattle.spec_machine.proofs.Waiting.{joined, joined_bytes}
use Rattle.out_queue.specs.Queue.{queued, frames_after, FitsFront}
use Rattle.connections.specs.declared.outlet.Outlet.{Outlet}
use Rattle.connections.specs.Offering.{FitsFirst}
use Rattle.connections.specs.Outlets.{taken, freed, given, closed, has_room}
use Rattle.connections.specs.Carries.{IsOutlet}
use Rattle.connections.proofs.QueueLemmas.{left_after-push, queued-left_after, left_after-took, took_fits, fits_front}

-- its mark stays
pub given_mark : (o : Outlet) (frame : List ℕ) → (let g = given frame o in g.blocked) ≡ o.blocked
unfolding given
given_mark o frame = by o.closing (has_room frame o)
  where
    by : (a b : Bool) → (let g = cond a o (cond b (record o { out = o.out ++ frame ∷ [] }) (closed o)) in g.blocked) ≡ o.blocked
    by true b = refl
    by false true = refl
    by false false = refl

module _ {C : Type 0} where
  -- so many more bytes are taken
  abbrev pub with_taken : ℕ → Connection C → Connection C
  with_taken m k = record k { bytes_taken = k.bytes_taken + m }

  pub taken_stands : (o : Outlet) (k : Connection C) (m : ℕ) → IsOutlet o k → FitsFirst m o.out → IsOutlet (taken m o) (with_taken m k)
  taken_stands o k m s first =
      let frames = map bytes_of k.produced in
      let fits = subst (λ fs. FitsFront m fs) s.waiting (fits_front m o.out first) in
      let all : length (joined frames) ≡ length (bytes_of_all k.produced) = ap (λ (bs : List ℕ). length bs) (joined_bytes k.produced) in
      record {
        waiting = ap (λ fs. frames_after m fs) s.waiting ∙ left_after-took frames k.bytes_taken m fits;
        bytes_taken = omega (arith, took_fits frames k.bytes_taken m (omega (arith, all, s.bytes_taken)) fits, all);
        closing = s.closing;
      }

  -- it is writable again
  pub freed_stands : (o : Outlet) (k : Connection C) → IsOutlet o k → IsOutlet (freed o) k
  freed_stands o k s = record { waiting = s.waiting; bytes_taken = s.bytes_taken; closing = s.closing }

  -- it is to be shut
  pub closed_stands : (o : Outlet) (k : Connection C) → IsOutlet o k → IsOutlet (closed o) (with_closing k)
  closed_stands o k s = record { waiting = s.waiting; bytes_taken = s.bytes_taken; closing = refl }

  -- the bytes that wait are those of the machine
  pub queued_bytes : (o : Outlet) (k : Connection C) → IsOutlet o k → queued o.out ≡ queued_of k
  queued_bytes o k s =
      ap queued s.waiting ∙ queued-left_after (map bytes_of k.produced) k.bytes_taken
      ∙ ap (λ (bs : List ℕ). length bs - k.bytes_taken) (joined_bytes k.produced)

  -- a frame fits where it has room
  pub room_is : (o : Outlet) (k : Connection C) (f : Produced) → IsOutlet o k → has_room (bytes_of f) o ≡ fits f k
  unfolding has_room
  room_is o k f s = ap (λ n. nat_le (n + length (bytes_of f)) 4194304) (queued_bytes o k s)

  with_frame_is : (o : Outlet) (k : Connection C) (f : Produced) → IsOutlet o k → 0 < length (bytes_of f)
      → IsOutlet (record o { out = o.out ++ bytes_of f ∷ [] }) (with_frame f k)
  with_frame_is o k f s some =
      let all : length (joined (map bytes_of k.produced)) ≡ length (bytes_of_all k.produced) = ap (λ (bs : List ℕ). length bs) (joined_bytes k.produced) in
      let more = ap (λ (bs : List ℕ). length bs) (flat_map-append bytes_of k.produced (f ∷ []))
      ∙ length-append (bytes_of_all k.produced) (bytes_of_all (f ∷ [])) in
      record {
        waiting = ap (λ fs. fs ++ bytes_of f ∷ []) s.waiting
            ∙ sym (left_after-push (map bytes_of k.produced) k.bytes_taken (bytes_of f) (omega (arith, s.bytes_taken, all)) some)
            ∙ ap (λ fs. left_after k.bytes_taken fs) (sym (map-append bytes_of k.produced (f ∷ [])));
        bytes_taken = omega (arith, s.bytes_taken, more);
        closing = s.closing;
      }

  -- a frame is produced: it waits, or closes the connection
  pub given_stands : (o : Outlet) (k : Connection C) (f : Produced) → IsOutlet o k → 0 < length (bytes_of f) → IsOutlet (given (bytes_of f) o) (produce f k)
  unfolding given produce
  given_stands o k f s some = by o.closing k.closing (has_room (bytes_of f) o) (fits f k) s.closing (room_is o k f s)
    where
      by : (a b c d : Bool) → a ≡ b → c ≡ d
          → IsOutlet (cond a o (cond c (record o { out = o.out ++ bytes_of f ∷ [] }) (closed o))) (cond b k (cond d (with_frame f k) (with_closing k)))
      by true true c d same room = s
      by true false c d same room = absurd (cc)
      by false true c d same room = absurd (cc)
      by false false true true same room = with_frame_is o k f s some
      by false false false false same room = closed_stands o k s
      by false false true false same room = absurd (cc)
      by false false false true same room = absurd (cc)

  -- what the connection of the machine keeps of its number and whether it is gone
  pub produce_number : (f : Produced) (k : Connection C) → (let l = produce f k in l.number) ≡ k.number
  unfolding produce
  produce_number f k = by k.closing (fits f k)
    where
      by : (a b : Bool) → (let l = cond a k (cond b (with_frame f k) (with_closing k)) in l.number) ≡ k.number
      by true b = refl
      by false true = refl
      by false false = refl

  pub produce_gone : (f : Produced) (k : Connection C) → (let l = produce f k in l.gone) ≡ k.gone
  unfolding produce
  produce_gone f k = by k.closing (fits f k)
    where
      by : (a b : Bool) → (let l = cond a k (cond b (with_frame f k) (with_closing k)) in l.gone) ≡ k.gone
      by true b = refl
      by false true = refl
      by false false = refl
