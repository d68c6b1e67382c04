-- A frame that is produced, in the code and in the machine.
use Rattle.std.proofs.Common.{◌≡◌, ℕ, ◌+◌, ◌<◌, List, [], ◌∷◌, ◌++◌, length, Bool, true, false, cond, not, refl, sym, ap, ◌∙◌, subst, inl, inr, arith}
use Rattle.std.specs.Prelude.{◌&&◌, map, sum, sum_by}
use Rattle.std.proofs.lemmas.Bool.{cases_Bool, cond-true}
use Rattle.std.proofs.lemmas.List.Sums.{sum_by-append, sum_by-cons, sum-map}
use Rattle.spec_machine.specs.Device.{Produced, Reply, Notification}
use Rattle.spec_machine.specs.Connection.{bytes_of, fits, with_frame, with_closing, produce}
use Rattle.spec_machine.specs.Summary.{count_of, replies_in, samples_in}
use Rattle.ams_tcp.specs.Held.{Held}
use Rattle.ams_tcp.specs.History.{Represents}
use Rattle.spec_plant.specs.World.{Plant}
use Rattle.session.specs.SessionState.{SessionState}
use Rattle.session.specs.StandsFor.{StandsFor}
use Rattle.connections.specs.Carries.{IsOutlet, IsStreamOf}
use Rattle.connections.specs.Outlets.{given, is_fitting, has_room}
use Rattle.connections.specs.declared.outlet.Outlet.{Outlet}
use Rattle.connections.proofs.OutputLemmas.{given_stands, room_is}
use Rattle.server_core.specs.declared.summary.Summary.{Summary}
use Rattle.server_core.specs.Served.{ServedConnection}
use Rattle.server_core.specs.Stands.{IsClientOf}
use Rattle.server_core.specs.Counts.{Counts, replies_of, samples_of}
use Rattle.server_core.proofs.CountLemmas.{same_count, same_counts, more}

pub produce-closing : (frame : Produced) (k : ServedConnection) → k.closing ≡ true → produce frame k ≡ k
unfolding produce
produce-closing frame k closing = cond-true k.closing k _ closing

-- what a connection has received and taken stays, and its client
pub record SameStream (k l : ServedConnection) : Type 0 where
  pub number : l.number ≡ k.number
  pub received : l.received ≡ k.received
  pub frames_taken : l.frames_taken ≡ k.frames_taken
  pub client : l.client ≡ k.client
  pub gone : l.gone ≡ k.gone

pub produce-stream : (frame : Produced) (k : ServedConnection) → SameStream k (produce frame k)
unfolding produce
produce-stream frame k = at_closing k.closing (fits frame k)
  where
    same : SameStream k k
    same = record { number = refl; received = refl; frames_taken = refl; client = refl; gone = refl }

    at_closing : (closing room : Bool) → SameStream k (cond closing k (cond room (with_frame frame k) (with_closing k)))
    at_closing true room = same
    at_closing false true = record { number = refl; received = refl; frames_taken = refl; client = refl; gone = refl }
    at_closing false false = record { number = refl; received = refl; frames_taken = refl; client = refl; gone = refl }

-- so a stream stands for it as before, and a session for its client, unless it closes
pub stream_on : (held : Held) (k l : ServedConnection) → SameStream k l → IsStreamOf held k → IsStreamOf held l
stream_on held k l same st =
    subst (λ (taken : ℕ). Represents held (record { fed = l.received; given = taken; told_broken = held.told_broken })) (sym same.frames_taken)
    (subst (λ (bytes : List ℕ). Represents held (record { fed = bytes; given = k.frames_taken; told_broken = held.told_broken })) (sym same.received) st)

pub client_on : (plant : Plant) (session : SessionState) (k l : ServedConnection) → SameStream k l → (l.closing ≡ false → k.closing ≡ false)
    → IsClientOf plant session k → IsClientOf plant session l
client_on plant session k l same opens st = λ is_open. subst (λ c. StandsFor plant c session) (sym same.client) (st (opens is_open))

-- no frame opens a connection that is closing
pub produce-open : (frame : Produced) (k : ServedConnection) → (produce frame k).closing ≡ false → k.closing ≡ false
produce-open frame k is_open = elim (cases_Bool k.closing) [
  | inl closing ↦ ap (λ (l : ServedConnection). l.closing) (sym (produce-closing frame k closing)) ∙ is_open
  | inr opened ↦ opened
]

-- a frame of this kind is counted: as a reply, or by its samples
abbrev pub counted_with : Produced → Summary → Summary
counted_with (Reply bytes) s = record s { replies = count_of (s.replies + 1) }
counted_with (Notification samples bytes) s = record s { samples = count_of (s.samples + samples) }

sum_by-nil : (f : Produced → ℕ) → sum_by f [] ≡ 0
sum_by-nil f = refl

push_sum : (f : Produced → ℕ) (k : ServedConnection) (frame : Produced) → sum (map f (k.produced ++ frame ∷ [])) ≡ sum (map f k.produced) + f frame
push_sum f k frame = sum-map f (k.produced ++ frame ∷ []) ∙ sum_by-append f k.produced (frame ∷ [])
    ∙ omega (arith, sum-map f k.produced, sum_by-cons f frame [], sum_by-nil f)

pub counts_frame : (s t : Summary) (k : ServedConnection) (frame : Produced) → t ≡ counted_with frame s → Counts s t k (with_frame frame k)
counts_frame s t k (Reply bytes) e =
    let replies : replies_of (with_frame (Reply bytes) k) ≡ replies_of k + 1 = push_sum replies_in k (Reply bytes) in
    let samples : samples_of (with_frame (Reply bytes) k) ≡ samples_of k = push_sum samples_in k (Reply bytes) ∙ omega arith in
    record {
      connections = ap (λ (x : Summary). x.connections) e;
      requests = λ others f. ap (λ (x : Summary). x.requests) e ∙ f;
      replies = λ others f. ap (λ (x : Summary). x.replies) e ∙ more s.replies (replies_of k) 1 others f ∙ ap (λ n. count_of (others + n)) (sym replies);
      samples = λ others f. ap (λ (x : Summary). x.samples) e ∙ f ∙ ap (λ n. count_of (others + n)) (sym samples);
      accepted = ap (λ (x : Summary). x.accepted) e;
      refused = ap (λ (x : Summary). x.refused) e;
    }
counts_frame s t k (Notification count bytes) e =
    let replies : replies_of (with_frame (Notification count bytes) k) ≡ replies_of k = push_sum replies_in k (Notification count bytes) ∙ omega arith in
    let samples : samples_of (with_frame (Notification count bytes) k) ≡ samples_of k + count = push_sum samples_in k (Notification count bytes) in
    record {
      connections = ap (λ (x : Summary). x.connections) e;
      requests = λ others f. ap (λ (x : Summary). x.requests) e ∙ f;
      replies = λ others f. ap (λ (x : Summary). x.replies) e ∙ f ∙ ap (λ n. count_of (others + n)) (sym replies);
      samples = λ others f. ap (λ (x : Summary). x.samples) e ∙ more s.samples (samples_of k) count others f ∙ ap (λ n. count_of (others + n)) (sym samples);
      accepted = ap (λ (x : Summary). x.accepted) e;
      refused = ap (λ (x : Summary). x.refused) e;
    }

pub counts_closing : (s : Summary) (k : ServedConnection) → Counts s s k (with_closing k)
counts_closing s k = record {
  connections = refl;
  requests = same_count s.requests k.frames_taken;
  replies = same_count s.replies (replies_of k);
  samples = same_count s.samples (samples_of k);
  accepted = refl;
  refused = refl;
}

-- what is counted of a frame: nothing where it does not wait
abbrev pub counted_if : Bool → Produced → Summary → Summary
counted_if waits frame s = cond waits (counted_with frame s) s

pub counts_produced : (s : Summary) (k : ServedConnection) (frame : Produced)
    → Counts s (counted_if (not k.closing && fits frame k) frame s) k (produce frame k)
unfolding produce
counts_produced s k frame = at_closing k.closing (fits frame k)
  where
    at_closing : (closing room : Bool)
        → Counts s (counted_if (not closing && room) frame s) k (cond closing k (cond room (with_frame frame k) (with_closing k)))
    at_closing true room = same_counts s k
    at_closing false true = counts_frame s (counted_with frame s) k frame refl
    at_closing false false = counts_closing s k

-- a frame that is produced waits and is counted, or closes the connection
pub record Produces (new : Outlet) (old_counts new_counts : Summary) (frame : Produced) (k : ServedConnection) : Type 0 where
  pub stands : IsOutlet new (produce frame k)
  pub counted : Counts old_counts new_counts k (produce frame k)

pub produces : (o : Outlet) (s : Summary) (k : ServedConnection) (frame : Produced) → IsOutlet o k → 0 < length (bytes_of frame)
    → Produces (given (bytes_of frame) o) s (counted_if (is_fitting (bytes_of frame) o) frame s) frame k
produces o s k frame stands some =
    let fitting : is_fitting (bytes_of frame) o ≡ (not k.closing && fits frame k) =
    ap (λ b. not b && has_room (bytes_of frame) o) stands.closing ∙ ap (λ b. not k.closing && b) (room_is o k frame stands) in
    record {
      stands = given_stands o k frame stands some;
      counted = subst (λ b. Counts s (counted_if b frame s) k (produce frame k)) (sym fitting) (counts_produced s k frame);
    }
