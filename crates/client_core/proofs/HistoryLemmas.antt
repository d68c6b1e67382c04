-- What a client keeps stands for the history with one move more.
use Rattle.std.proofs.Common.{◌≡◌, ℕ, ◌+◌, ◌<◌, ◌≤◌, zero, suc, Bool, true, false, List, [], ◌∷◌, ◌++◌, length, take, drop, refl, sym, ap, ◌∙◌, subst, arith}
use Rattle.std.specs.Prelude.{Option, Some, None, Result, Ok, Err, OnOk, slice_get, map, filter, is_err, OnErr, MatchResult}
use Rattle.std.proofs.lemmas.List.{take-append-le}
use Rattle.spec_frames.specs.Division.{frames_of, rest_of}
use Rattle.spec_frames.proofs.DivisionLemmas.{frames_of-append}
use Rattle.spec_formats.specs.Header.{AmsAddress}
use Rattle.ams_tcp.specs.Held.{Held}
use Rattle.ams_tcp.specs.History as stream
use Rattle.spec_client.specs.Client.{Client, new_client, client_after_feed, client_after_tick}
use Rattle.spec_client.specs.Unanswered.{Unanswered, after_tick_of}
use Rattle.spec_client.specs.Heard.{StampedSample}
use Rattle.spec_client.specs.PassedOver.{says_something}
use Rattle.spec_client.specs.Hearing.{next_hearing}
use Rattle.spec_client.specs.History.{ClientMove, ClientHistory, Fed, Tick, Next, client_after_move, client_after, heard_after}
use Rattle.client_core.specs.Kept.{Kept, waiting_count}
use Rattle.client_core.specs.Represents.{IsNextFrame, Streams, StandsFor, Represents}
use Rattle.client_core.specs.Heard.{heard_meant}
use Rattle.ads_base.specs.declared.no_memory.NoMemory.{NoMemory}
use Rattle.client_core.specs.Hears.{Hears, StandsStill}
use Rattle.client_core.specs.declared.heard.Heard.{Heard}

pub client_after-append : (c : Client) (h : ClientHistory) (move : ClientMove) → client_after c (h ++ move ∷ []) ≡ client_after_move (client_after c h) move
unfolding client_after
client_after-append c [] move = refl
client_after-append c (first ∷ h) move = client_after-append (client_after_move c first) h move

-- a step over every client that is stood for is one over every history
pub one_move : (old new : Kept) (move : ClientMove) → ((c : Client) → StandsFor old c → StandsFor new (client_after_move c move))
    → (me peer : AmsAddress) (h : ClientHistory) → Represents me peer old h → Represents me peer new (h ++ move ∷ [])
one_move old new move steps me peer h stands =
    rw (client_after-append (new_client me peer) h move) (steps (client_after (new_client me peer) h) stands)

slice_get-more : {X : Type 0} (xs ys : List X) (i : ℕ) (x : X) → slice_get xs i ≡ Some x → slice_get (xs ++ ys) i ≡ Some x
slice_get-more [] ys i x e = absurd (none_is x e)
  where
    none_is : {X : Type 0} (x : X) → None ≡ Some x → ⊥
    none_is x e = cc
slice_get-more (z ∷ zs) ys zero x e = e
slice_get-more (z ∷ zs) ys (suc i) x e = slice_get-more zs ys i x e

waits_still : (o : Option (List ℕ)) (given : ℕ) (received piece : List ℕ) → IsNextFrame o given received → IsNextFrame o given (received ++ piece)
waits_still None given received piece next = tt
waits_still (Some packet) given received piece next =
    rw (frames_of-append piece received) (slice_get-more (frames_of received) (frames_of (rest_of received ++ piece)) given packet next)

abbrev pub Feeds : Held → Held → List ℕ → Type 0
Feeds old new piece = (h : stream.History) → stream.Represents old h → stream.Represents new (stream.after_feed h piece)

fed_streams : (k : Kept) (new : Held) (piece : List ℕ) → Feeds k.stream new piece → (c : Client) → Streams k c
    → Streams (record k { stream = new }) (client_after_feed c piece)
fed_streams k new piece feeds c s =
    let after = feeds (record { fed = c.received; given = s.given + waiting_count k.waiting; told_broken = k.stream.told_broken }) s.stream in
    let fits : s.given + waiting_count k.waiting ≤ length (frames_of c.received) = s.stream.given in
    let within : s.given ≤ length (frames_of c.received) = omega arith in
    record {
      given = s.given;
      stream = record { rest = after.rest; given = after.given; told_broken = refl };
      waiting = waits_still k.waiting s.given c.received piece s.waiting;
      taken = rw (frames_of-append piece c.received, take-append-le) s.taken;
    }

pub fed : (k : Kept) (new : Held) (piece : List ℕ) → Feeds k.stream new piece → (c : Client) → StandsFor k c
    → StandsFor (record k { stream = new }) (client_after_move c (Fed piece))
unfolding client_after_move
fed k new piece feeds c s = record {
  me = s.me;
  peer = s.peer;
  last_id = s.last_id;
  unanswered = s.unanswered;
  streams = fed_streams k new piece feeds c s.streams;
  samples = s.samples;
  broken = s.broken;
}

pub ticked : (k : Kept) (now : ℕ) (us : List Unanswered) → us ≡ map (after_tick_of now) k.unanswered → (c : Client) → StandsFor k c
    → StandsFor (record k { unanswered = us }) (client_after_move c (Tick now))
unfolding client_after_move client_after_tick
ticked k now us e c s = record {
  me = s.me;
  peer = s.peer;
  last_id = s.last_id;
  unanswered = e ∙ ap (map (after_tick_of now)) s.unanswered;
  streams = record { given = s.streams.given; stream = s.streams.stream; waiting = s.streams.waiting; taken = s.streams.taken };
  samples = s.samples;
  broken = s.broken;
}

-- the same, where the old value is seen through its model
pub moved : (old k new : Kept) (move : ClientMove) → k ≡ old → ((c : Client) → StandsFor k c → StandsFor new (client_after_move c move))
    → (me peer : AmsAddress) (h : ClientHistory) → Represents me peer old h → Represents me peer new (h ++ move ∷ [])
moved old k new move e steps =
    subst (λ (o : Kept). (me peer : AmsAddress) (h : ClientHistory) → Represents me peer o h → Represents me peer new (h ++ move ∷ [])) e
    (one_move k new move steps)

pub on_ok : {A E : Type 0} (P Q : Type 0) → (P → Q) → (r : Result A E) → OnOk r P → OnOk r Q
on_ok P Q f (Ok a) p = f p
on_ok P Q f (Err e) p = tt

pub fed_all : (old k : Kept) → k ≡ old → (new : Held) (piece : List ℕ) {A E : Type 0} (r : Result A E) → OnOk r (Feeds k.stream new piece)
    → OnOk r ((me peer : AmsAddress) (h : ClientHistory) → Represents me peer old h → Represents me peer (record k { stream = new }) (h ++ Fed piece ∷ []))
fed_all old k e new piece r = on_ok _ _ (λ feeds. moved old k (record k { stream = new }) (Fed piece) e (fed k new piece feeds)) r

pub ticked_all : (old k : Kept) → k ≡ old → (now : ℕ) (us : List Unanswered) → us ≡ map (after_tick_of now) k.unanswered
    → (me peer : AmsAddress) (h : ClientHistory) → Represents me peer old h → Represents me peer (record k { unanswered = us }) (h ++ Tick now ∷ [])
ticked_all old k e now us is = moved old k (record k { unanswered = us }) (Tick now) e (ticked k now us is)

-- nothing happened yet
pub new_stands : (me peer : AmsAddress) (held : Held) (us : List Unanswered) (ss : List StampedSample)
    → stream.Represents held stream.nothing_fed → us ≡ [] → ss ≡ []
    → StandsFor (record { me = me; peer = peer; last_id = 0; unanswered = us; stream = held; waiting = None; samples = ss; broken = None })
    (client_after (new_client me peer) [])
unfolding client_after
new_stands me peer held us ss s no_requests no_samples = record {
  me = refl;
  peer = refl;
  last_id = refl;
  unanswered = no_requests;
  streams = record {
    given = 0;
    stream = record { rest = s.rest; given = s.given; told_broken = refl };
    waiting = tt;
    taken = refl;
  };
  samples = no_samples;
  broken = refl;
}

-- what was heard is what the history says
pub next_heard : (old new : Kept) (heard : Heard) → Hears old new heard → (me peer : AmsAddress) (h : ClientHistory) → Represents me peer old h
    → heard_meant heard ≡ heard_after me peer h
next_heard old new heard hears me peer h s = (hears (client_after (new_client me peer) h) s).heard_is

stands_next : (new : Kept) (c : Client) → StandsFor new (next_hearing c).client → StandsFor new (client_after_move c Next)
unfolding client_after_move
stands_next new c s = s

pub next_stands : (old new : Kept) (heard : Heard) → Hears old new heard → (me peer : AmsAddress) (h : ClientHistory) → Represents me peer old h
    → Represents me peer new (h ++ Next ∷ [])
next_stands old new heard hears = one_move old new Next (λ c s. stands_next new c (hears c s).stands)

take_written : {X : Type 0} (ws ys : List X) → take (length ws) (ws ++ ys) ≡ ws
take_written [] ys = refl
take_written (w ∷ ws) ys = ap (λ zs. w ∷ zs) (take_written ws ys)

-- a vector whose elements were written through a slice
pub written : {X : Type 0} (n : ℕ) (ws xs : List X) → length ws ≡ n → take n (ws ++ drop (length ws) xs) ≡ ws
written n ws xs e = rw (← e) (take_written ws (drop (length ws) xs))

-- a call that passes its answer on
pub next_ok : (old new : Kept) (r : Result Heard NoMemory) → MatchResult r (Hears old new) (λ wants. StandsStill old new)
    → OnOk r ((me peer : AmsAddress) (h : ClientHistory) → Represents me peer old h → Represents me peer new (h ++ Next ∷ []))
next_ok old new (Ok heard) hears = next_stands old new heard hears
next_ok old new (Err wants) still = tt

pub next_err : (old new : Kept) (r : Result Heard NoMemory) → MatchResult r (Hears old new) (λ wants. StandsStill old new)
    → OnErr r ((me peer : AmsAddress) (h : ClientHistory) → Represents me peer old h → Represents me peer new h)
next_err old new (Ok heard) hears = tt
next_err old new (Err wants) still = λ me peer h s. still (client_after (new_client me peer) h) s

pub match_err : {A E : Type 0} (r : Result A E) (P : A → Type 0) (Q : Type 0) → is_err r ≡ true → Q → MatchResult r P (λ e. Q)
match_err (Ok a) P Q e q = absurd (let h : false ≡ true = e in cc)
match_err (Err wants) P Q e q = q
