-- A reply that is written where it waits.
use Rattle.std.proofs.Common.{◌≡◌, ℕ, ◌+◌, ◌<◌, ◌≤◌, List, [], ◌∷◌, ◌++◌, length, drop, true, false, not, sym, ap, ◌∙◌, subst}
use Rattle.std.specs.Prelude.{◌&&◌}
use Rattle.std.proofs.lemmas.Bool.{cond-true, cond-false, le-leb, lt-leb}
use Rattle.spec_machine.specs.Device.{Reply}
use Rattle.out_queue.specs.Queue.{queued}
use Rattle.connections.specs.Carries.{IsOutlet}
use Rattle.connections.specs.Outlets.{closed, given, has_room, is_fitting}
use Rattle.connections.specs.declared.outlet.Outlet.{Outlet}
use Rattle.session.specs.Takes.{AppendsAnswer}
use Rattle.session.specs.declared.told.Told.{Told}
use Rattle.session.specs.declared.told.Told.TheVariants as told
use Rattle.server_core.specs.declared.summary.Summary.{Summary}
use Rattle.server_core.specs.Served.{ServedConnection}
use Rattle.server_core.specs.Taking.{Waits, one_reply}
use Rattle.server_core.proofs.ProduceLemmas.{Produces, produces}

-- a frame was appended
pub appends_frame : (t : Told) (old new : List ℕ) → t ≡ told.Answer → AppendsAnswer t old new → new ≡ old ++ drop (length old) new
appends_frame t old new is appends = subst (λ (u : Told). AppendsAnswer u old new) is appends

-- or nothing
pub silent_appends : (t : Told) (old new : List ℕ) → t ≡ told.Silent → AppendsAnswer t old new → new ≡ old
silent_appends t old new is appends = subst (λ (u : Told). AppendsAnswer u old new) is appends

pub close_appends : (t : Told) (old new : List ℕ) → t ≡ told.Close → AppendsAnswer t old new → new ≡ old
close_appends t old new is appends = subst (λ (u : Told). AppendsAnswer u old new) is appends

-- it waits behind the others
pub waits_fitting : (frame : List ℕ) (o : Outlet) (out : List (List ℕ)) (s t : Summary) → o.closing ≡ false
    → queued o.out + length frame ≤ 4194304 → out ≡ o.out ++ frame ∷ [] → t ≡ one_reply s → Waits frame o (record o { out = out }) s t
unfolding given has_room
waits_fitting frame o out s t is_open room more counts =
    let has : has_room frame o ≡ true = le-leb (queued o.out + length frame) 4194304 room in
    let fits : is_fitting frame o ≡ true = ap (λ b. not b && has_room frame o) is_open ∙ has in
    record {
      outlet = ap (λ (fs : List (List ℕ)). record o { out = fs }) more
          ∙ sym (cond-true (has_room frame o) (record o { out = o.out ++ frame ∷ [] }) (closed o) has) ∙ sym (cond-false o.closing o _ is_open);
      counted = counts ∙ sym (cond-true (is_fitting frame o) (one_reply s) s fits);
    }

-- or does not fit, and closes the connection
pub waits_over : (frame : List ℕ) (o : Outlet) (out : List (List ℕ)) (s : Summary) → o.closing ≡ false
    → 4194304 < queued o.out + length frame → out ≡ o.out → Waits frame o (record o { out = out; closing = true }) s s
unfolding given has_room
waits_over frame o out s is_open over same =
    let has : has_room frame o ≡ false = lt-leb (queued o.out + length frame) 4194304 over in
    let fits : is_fitting frame o ≡ false = ap (λ b. not b && has_room frame o) is_open ∙ has in
    record {
      outlet = ap (λ (fs : List (List ℕ)). record o { out = fs; closing = true }) same
          ∙ sym (cond-false (has_room frame o) (record o { out = o.out ++ frame ∷ [] }) (closed o) has) ∙ sym (cond-false o.closing o _ is_open);
      counted = sym (cond-false (is_fitting frame o) (one_reply s) s fits);
    }

-- either is what the machine produces
pub waits_produces : (frame : List ℕ) (o p : Outlet) (s t : Summary) (k : ServedConnection) → Waits frame o p s t → IsOutlet o k → 0 < length frame
    → Produces p s t (Reply frame) k
waits_produces frame o p s t k waits st some =
    subst (λ (q : Outlet). Produces q s t (Reply frame) k) (sym waits.outlet)
    (subst (λ (u : Summary). Produces (given frame o) s u (Reply frame) k) (sym waits.counted) (produces o s k (Reply frame) st some))
