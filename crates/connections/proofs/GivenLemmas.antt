-- A frame that is given to an outlet: it waits, or the connection closes.
use Rattle.std.proofs.Common.{◌≡◌, ◌+◌, ◌<◌, ℕ, List, [], ◌∷◌, ◌++◌, length, true, false, not, sym, ap, ◌∙◌, inl, inr}
use Rattle.std.specs.Prelude.{◌&&◌}
use Rattle.std.proofs.lemmas.Bool.{cases_lt, le-leb, lt-leb, cond-true, cond-false}
use Rattle.out_queue.specs.Queue.{queued}
use Rattle.connections.specs.declared.outlet.Outlet.{Outlet}
use Rattle.connections.specs.Outlets.{has_room, given, closed, is_fitting}

has_room-true : (frame : List ℕ) (o : Outlet) → (4194304 < queued o.out + length frame → ⊥) → has_room frame o ≡ true
unfolding has_room
has_room-true frame o room = elim (cases_lt 4194304 (queued o.out + length frame)) [
  | inl over ↦ absurd (room over)
  | inr fits ↦ le-leb (queued o.out + length frame) 4194304 fits
]

has_room-false : (frame : List ℕ) (o : Outlet) → 4194304 < queued o.out + length frame → has_room frame o ≡ false
unfolding has_room
has_room-false frame o over = lt-leb (queued o.out + length frame) 4194304 over

pub given_closing : (frame : List ℕ) (o : Outlet) → o.closing ≡ true → o ≡ given frame o
unfolding given
given_closing frame o closing = sym (cond-true o.closing o _ closing)

pub given_done : (frame : List ℕ) (o : Outlet) (out : List (List ℕ)) → o.closing ≡ false → (4194304 < queued o.out + length frame → ⊥)
    → out ≡ o.out ++ frame ∷ [] → record o { out = out } ≡ given frame o
unfolding given
given_done frame o out open_ room pushed =
    ap (λ fs. record o { out = fs }) pushed
    ∙ sym (cond-false o.closing o _ open_ ∙ cond-true (has_room frame o) (record o { out = o.out ++ frame ∷ [] }) (closed o) (has_room-true frame o room))

pub given_over : (frame : List ℕ) (o : Outlet) (out : List (List ℕ)) → o.closing ≡ false → 4194304 < queued o.out + length frame
    → out ≡ o.out → closed (record o { out = out }) ≡ given frame o
unfolding given
given_over frame o out open_ over same =
    ap (λ fs. closed (record o { out = fs })) same
    ∙ sym (cond-false o.closing o _ open_ ∙ cond-false (has_room frame o) (record o { out = o.out ++ frame ∷ [] }) (closed o) (has_room-false frame o over))

pub fitting_done : (frame : List ℕ) (o : Outlet) → o.closing ≡ false → (4194304 < queued o.out + length frame → ⊥) → true ≡ is_fitting frame o
fitting_done frame o open_ room = sym (ap (λ b. not b && has_room frame o) open_ ∙ has_room-true frame o room)

pub fitting_over : (frame : List ℕ) (o : Outlet) → o.closing ≡ false → 4194304 < queued o.out + length frame → false ≡ is_fitting frame o
fitting_over frame o open_ over = sym (ap (λ b. not b && has_room frame o) open_ ∙ has_room-false frame o over)
