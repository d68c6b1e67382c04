-- What the answers of the wire inside say of the state that is seen.
use Rattle.std.proofs.Common.{◌≡◌, ℕ, ◌+◌, ◌≤◌, List, [], ◌∷◌, length, take, refl, ap, ◌∙◌, arith}
use Rattle.std.specs.Prelude.{Bool, true, false, Option, Some, None, min}
use Rattle.ads_outside.specs.declared.event.Event.{Event}
use Rattle.ads_outside.specs.declared.listening.Listening.{Listening}
use Rattle.ads_outside.specs.declared.moves.Move.{Move}
use Rattle.ads_outside.specs.declared.moves.Move.TheVariants as move
use Rattle.ads_outside.specs.declared.next.Next.{Next}
use Rattle.ads_outside.specs.declared.next.Next.TheVariants as next
use Rattle.ads_outside.specs.declared.offer.Offer.{Offer}
use Rattle.ads_outside.specs.declared.offer.Offer.TheVariants as offer
use Rattle.ads_outside.specs.declared.shut.Shut.{Shut}
use Rattle.ads_outside.specs.declared.shut.Shut.TheVariants as shut
use Rattle.ads_outside.specs.declared.started.Started.{Started}
use Rattle.ads_outside.specs.declared.started.Started.TheVariants as started
use Rattle.ads_outside.specs.Rose.{Rose}
use Rattle.ads_outside.specs.Wholes.{wholes}
use Rattle.ads_outside.specs.WireAnswers.{Wants, Starts, Gives, Takes, TakesRun, Shuts}
use Rattle.ads_outside.specs.WireState.{WireState, WireHistory, logged, bytes_taken, event_given, history_after}
use Rattle.local_router.specs.Seen.{wants_seen, history_seen, state_seen}

-- a count of wants is seen to rise where one of its two parts rises
sum_rose : (own a b most : ℕ) → min (a + 1) most ≤ b → min (own + a + 1) most ≤ own + b
sum_rose own a b most rose = omega (arith, rose)

pub own_rose : (own a b most : ℕ) → a ≤ b → min (own + a + 1) most ≤ min (own + 1) most + b
own_rose own a b most later = omega (arith, later)

module _ {Net : Type 0} where
  inside_rose : (net : Option Net) (own a b : ℕ) → Rose a b → Rose (wants_seen net own a) (wants_seen net own b)
  inside_rose None own a b rose = rose
  inside_rose (Some net) own a b rose = sum_rose own a b _ rose

  pub wants_later : (net : Option Net) (own a b : ℕ) → a ≤ b → wants_seen net own a ≤ wants_seen net own b
  wants_later None own a b later = later
  wants_later (Some net) own a b later = omega (arith, later)

  pub own_later : (net : Option Net) (own more a b : ℕ) → own ≤ more → a ≤ b → wants_seen net own a ≤ wants_seen net more b
  own_later None own more a b risen later = later
  own_later (Some net) own more a b risen later = omega (arith, risen, later)

  logged_seen : (net : Option Net) (n : ℕ) (m : Move) (h : WireHistory) → history_seen net n (logged m h) ≡ logged m (history_seen net n h)
  logged_seen None n m h = refl
  logged_seen (Some net) n m h = refl

  taken_seen : (net : Option Net) (n c offered : ℕ) (bytes : List ℕ) (h : WireHistory)
      → history_seen net n (bytes_taken c offered bytes h) ≡ bytes_taken c offered bytes (history_seen net n h)
  taken_seen None n c offered bytes h = refl
  taken_seen (Some net) n c offered bytes h = refl

  wants_seen_so : (net : Option Net) (n w : ℕ) (old new : WireState) → Wants old new → Wants (state_seen net n w old) (state_seen net n w new)
  wants_seen_so net n w old new wants = record {
    same = ap (history_seen net n) wants.same;
    wanted = inside_rose net w old.wants new.wants wants.wanted;
  }

  pub takes_seen : (answer : Offer) (net : Option Net) (n w : ℕ) (old new : WireState) (c : ℕ) (bytes : List ℕ) → Takes answer old new c bytes
      → Takes answer (state_seen net n w old) (state_seen net n w new) c bytes
  takes_seen (offer.Took k) net n w old new c bytes took =
      (took.0, ap (history_seen net n) took.1 ∙ taken_seen net n c (length bytes) (take k bytes) old.history)
  takes_seen offer.Failed net n w old new c bytes lost = (ap (history_seen net n) lost.0 ∙ logged_seen net n _ old.history, lost.1)
  takes_seen offer.Memory net n w old new c bytes wants = wants_seen_so net n w old new wants

  pub shuts_seen : (answer : Shut) (net : Option Net) (n w : ℕ) (old new : WireState) (c : ℕ) → Shuts answer old new c
      → Shuts answer (state_seen net n w old) (state_seen net n w new) c
  shuts_seen shut.Done net n w old new c done = ap (history_seen net n) done ∙ logged_seen net n _ old.history
  shuts_seen shut.Memory net n w old new c wants = wants_seen_so net n w old new wants

  pub starts_seen : (answer : Started) (net : Option Net) (n w : ℕ) (old new : WireState) (a : Listening) → Starts answer old new a
      → Starts answer (state_seen net n w old) (state_seen net n w new) a
  starts_seen started.Ready net n w old new a ready = ap (history_seen net n) ready
  starts_seen started.Failed net n w old new a stops =
      record { same = ap (history_seen net n) stops.same; stopped = stops.stopped; faulted = stops.faulted }
  starts_seen started.Memory net n w old new a wants = wants_seen_so net n w old new wants

  run_seen : (net : Option Net) (n c : ℕ) (frames : List (List ℕ)) (h : WireHistory)
      → history_seen net n (history_after h (wholes c frames)) ≡ history_after (history_seen net n h) (wholes c frames)
  unfolding history_after
  run_seen net n c [] h = refl
  run_seen net n c (f ∷ fs) h =
      run_seen net n c fs (bytes_taken c (length f) f h)
      ∙ ap (λ g. history_after g (wholes c fs)) (taken_seen net n c (length f) f h)

  pub takes_run_seen : (taken : Bool) (net : Option Net) (n w : ℕ) (old new : WireState) (c : ℕ) (run : List ℕ) → TakesRun taken old new c run
      → TakesRun taken (state_seen net n w old) (state_seen net n w new) c run
  takes_run_seen true net n w old new c run taken = λ frames are. ap (history_seen net n) (taken frames are) ∙ run_seen net n c frames old.history
  takes_run_seen false net n w old new c run same = ap (state_seen net n w) same

  -- without a router
  event_none : (net : Option Net) (n : ℕ) (e : Event) (h g : WireHistory) → net ≡ None → g ≡ event_given e h
      → history_seen net n g ≡ event_given e (history_seen net n h)
  event_none None n e h g none is =
      ap (λ (x : WireHistory). record h {
        log = x.log;
        streams = x.streams;
        starts = x.starts;
        opened = x.opened;
        events = x.events;
        ends = x.ends;
        stops = x.stops;
      }) is
  event_none (Some net) n e h g none is = absurd (let wrong : Some net ≡ None = none in cc)

  pub gives_none : (net : Option Net) (answer : Next) (n w : ℕ) (old new : WireState) → net ≡ None → Gives answer old new
      → Gives answer (state_seen net n w old) (state_seen net n w new)
  gives_none net (next.Event e) n w old new none gives =
      (gives.0, event_none net n e old.history new.history none gives.1)
  gives_none net next.End n w old new none gives = ap (history_seen net n) gives
  gives_none net next.Failed n w old new none stops =
      record { same = ap (history_seen net n) stops.same; stopped = stops.stopped; faulted = stops.faulted }
  gives_none net next.Memory n w old new none wants = wants_seen_so net n w old new wants

  pub gives_end : (net : Option Net) (n w : ℕ) (old new : WireState) → Gives next.End old new
      → Gives next.End (state_seen net n w old) (state_seen net n w new)
  gives_end net n w old new ended = ap (history_seen net n) ended

  pub gives_failed : (net : Option Net) (n w : ℕ) (old new : WireState) → Gives next.Failed old new
      → Gives next.Failed (state_seen net n w old) (state_seen net n w new)
  gives_failed net n w old new stops = record { same = ap (history_seen net n) stops.same; stopped = stops.stopped; faulted = stops.faulted }

  pub gives_memory : (net : Option Net) (n w : ℕ) (old new : WireState) → Gives next.Memory old new
      → Gives next.Memory (state_seen net n w old) (state_seen net n w new)
  gives_memory net n w old new wants = wants_seen_so net n w old new wants
