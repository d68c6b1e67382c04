-- The connections that are there are served one after another; those that are left out are idle.
use Rattle.std.proofs.Common.{◌≡◌, ◌≢◌, ℕ, ◌+◌, ◌<◌, ◌≤◌, length, drop, slice_index_or, add-one, List, [], ◌∷◌}
use Rattle.std.proofs.Common.{◌++◌, true, false, refl, sym, ap, ◌∙◌, subst, append_assoc, append-nil, inl, inr}
use Rattle.std.specs.Prelude.{Bool, ◌||◌, ◌==◌, filter, None, if◌then◌else◌}
use Rattle.std.specs.List.{flat_map}
use Rattle.std.proofs.Math.Seq.{drop-cons}
use Rattle.std.proofs.lemmas.List.{drop_all}
use Rattle.std.proofs.lemmas.Bool.{cases_Bool, cond-true, cond-false}
use Rattle.ads_outside.specs.declared.moves.Move.{Move}
use Rattle.spec_machine.specs.Connection.{connection_of}
use Rattle.spec_machine.specs.Delivery.{AreOffers}
use Rattle.spec_machine.specs.MachineState.{present_numbers}
use Rattle.spec_machine.specs.Moves.{EventStep, state_after}
use Rattle.spec_machine.specs.Offers.{is_among, is_closing, is_closing_at, is_gone, is_gone_at, waiting_at, waiting_of, blocked_after}
use Rattle.spec_machine.specs.Running.{Running, offer_at, first_frame}
use Rattle.spec_machine.specs.Turns.{Serves, ServesEach}
use Rattle.spec_machine.proofs.Find.{test_same}
use Rattle.ads_served.specs.Due.{IsIdle, LeavesOutIdle}
use Rattle.ads_served.specs.Opened.{AreApart}
use Rattle.ads_served.specs.Standing.{running_after_all}
use Rattle.serve_loop.specs.Serving.{ServesOne, Ends, EndsWhereThere, ServesAll, ServesAllOf}
use Rattle.serve_loop.proofs.LeadLemmas.{AreOffers-append}
use Rattle.serve_loop.proofs.OfferLemmas.{none_at, running-append}
use Rattle.serve_loop.proofs.ServeLemmas.{IsSameAt, same_then, serves-other, to_be_shut}
use Rattle.serve_loop.proofs.PresentLemmas.{AreDistinct, distinct, are_there}

abbrev joined : List (List Move) → List Move
joined mss = flat_map (λ ms. ms) mss

abbrev Each : {W C : Type 0} → EventStep W C → List ℕ → Running W C → List (List Move) → Type 0
Each step cs x mss = ServesEach step cs x.blocked x.state mss

-- by some moves connections were served, and these are left
pub record Round {W C : Type 0} (step : EventStep W C) (x : Running W C) (left : List ℕ) (ms : List Move) : Type 0 where
  pub so_far : (rest : List (List Move)) → Each step left (running_after_all step x ms) rest
      → (each : List (List Move)) × (ms ++ joined rest ≡ joined each) × Each step (present_numbers x.state) x each
  pub same : (d : ℕ) → is_among d left ≡ true → IsSameAt d x (running_after_all step x ms)
  pub apart : AreDistinct left
  pub there : (d : ℕ) → is_among d left ≡ true → is_gone_at d x.state ≡ false
  pub offers : AreOffers step x.state ms

-- none is served yet
pub round_begins : {W C : Type 0} (step : EventStep W C) (x : Running W C) → AreApart x.state.connections → Round step x (present_numbers x.state) []
unfolding state_after blocked_after AreOffers
round_begins step x apart = record {
  so_far = λ rest each. (rest, refl, each);
  same = λ d among. record { found = refl; blocked = refl };
  apart = distinct x.state apart;
  there = are_there x.state apart;
  offers = tt;
}

among_first : (c : ℕ) (cs : List ℕ) → is_among c (c ∷ cs) ≡ true
among_first c cs = let t = test_same c c refl in rw t refl

among_later : (d c : ℕ) (cs : List ℕ) → is_among d cs ≡ true → is_among d (c ∷ cs) ≡ true
among_later d c cs among = later (c == d) (is_among d cs) among
  where
    later : (a b : Bool) → b ≡ true → (a || b) ≡ true
    later true b e = refl
    later false b e = e

-- an idle connection is served by no move
idle_serves : {W C : Type 0} (step : EventStep W C) (x y : Running W C) (c : ℕ)
    → IsSameAt c x y → is_gone_at c x.state ≡ false → IsIdle x c → ServesOne step c y []
unfolding Serves
idle_serves step x y c same there idle =
    let offer : offer_at c y ≡ None =
    ap (λ b. if b then None else first_frame (waiting_at c y.state)) same.blocked
    ∙ (ap (λ o. if is_among c x.blocked then None else first_frame (waiting_of o)) same.found ∙ idle.no_offer) in
    let closing : is_closing_at c y.state ≡ false =
    ap is_closing same.found ∙ (sym (to_be_shut (connection_of c x.state.connections) there) ∙ idle.stays) in
    (none_at y c offer, closing)

-- an idle one is passed over
round_passes : {W C : Type 0} (step : EventStep W C) (x : Running W C) (c : ℕ) (cs : List ℕ) (ms : List Move)
    → Round step x (c ∷ cs) ms → IsIdle x c → Round step x cs ms
unfolding ServesEach state_after blocked_after
round_passes step x c cs ms round idle = record {
  so_far = λ rest each. round.so_far ([] ∷ rest)
      (idle_serves step x (running_after_all step x ms) c (round.same c (among_first c cs)) (round.there c (among_first c cs)) idle, each);
  same = λ d among. round.same d (among_later d c cs among);
  apart = round.apart.1;
  there = λ d among. round.there d (among_later d c cs among);
  offers = round.offers;
}

-- another that is left
differs_later : (d c : ℕ) (cs : List ℕ) → is_among c cs ≡ false → is_among d cs ≡ true → c ≢ d
differs_later d c cs apart among same = let both = sym apart ∙ (ap (λ n. is_among n cs) same ∙ among) in cc

-- the first that is left is there
pub round_there : {W C : Type 0} (step : EventStep W C) (x : Running W C) (c : ℕ) (cs : List ℕ) (ms : List Move)
    → Round step x (c ∷ cs) ms → is_gone_at c (running_after_all step x ms).state ≡ false
round_there step x c cs ms round = ap is_gone (round.same c (among_first c cs)).found ∙ round.there c (among_first c cs)

-- it is served
pub round_serves : {W C : Type 0} (step : EventStep W C) (x : Running W C) (c : ℕ) (cs : List ℕ) (ms ns : List Move)
    → Round step x (c ∷ cs) ms → Ends step c (running_after_all step x ms) ns → Round step x cs (ms ++ ns)
unfolding ServesEach
round_serves {W} {C} step x c cs ms ns round ends =
    let y = running_after_all step x ms in
    let both = running-append step x ms ns in
    record {
      so_far = λ rest each.
          let P : Running W C → Type 0 = λ z. Each step cs z rest in
          let all = round.so_far (ns ∷ rest) (ends.served, subst P both each) in
          (all.0, append_assoc ms ns (joined rest) ∙ all.1, all.2);
      same = λ d among.
          let Q : Running W C → Type 0 = λ z. IsSameAt d x z in
          subst Q (sym both) (same_then d x y (running_after_all step y ns) (round.same d (among_later d c cs among))
          (serves-other step d c ns y (differs_later d c cs round.apart.0 among) ends.served));
      apart = round.apart.1;
      there = λ d among. round.there d (among_later d c cs among);
      offers = AreOffers-append step x ms ns round.offers ends.offers;
    }

-- of those that are left the ones of these numbers are to be served, all others are idle
pub record RoundOf {W C : Type 0} (step : EventStep W C) (is_in : ℕ → Bool) (numbers : List ℕ) (x : Running W C) (ms : List Move) : Type 0 where
  pub left : List ℕ
  pub are : numbers ≡ filter is_in left
  pub round : Round step x left ms

pub record FirstOf {W C : Type 0} (step : EventStep W C) (is_in : ℕ → Bool) (c : ℕ) (numbers : List ℕ) (x : Running W C) (ms : List Move) : Type 0 where
  pub behind : List ℕ
  pub are : numbers ≡ filter is_in behind
  pub round : Round step x (c ∷ behind) ms

-- the first of the numbers
pub first_of_round : {W C : Type 0} (step : EventStep W C) (is_in : ℕ → Bool) (x : Running W C) (ms : List Move) → ((c : ℕ) → is_in c ≡ false → IsIdle x c)
    → (left : List ℕ) (c : ℕ) (numbers : List ℕ) → c ∷ numbers ≡ filter is_in left → Round step x left ms → FirstOf step is_in c numbers x ms
first_of_round step is_in x ms idle [] c numbers are round = cc
first_of_round {W} {C} step is_in x ms idle (d ∷ ds) c numbers are round = elim (cases_Bool (is_in d)) [
  | inl yes_ ↦
      let both : c ∷ numbers ≡ d ∷ filter is_in ds = are ∙ cond-true (is_in d) (d ∷ filter is_in ds) (filter is_in ds) yes_ in
      let same : d ≡ c = cc in
      let P : ℕ → Type 0 = λ n. Round step x (n ∷ ds) ms in
      record { behind = ds; are = (let rest : numbers ≡ filter is_in ds = cc in rest); round = subst P same round }
  | inr no_ ↦ first_of_round step is_in x ms idle ds c numbers
      (are ∙ cond-false (is_in d) (d ∷ filter is_in ds) (filter is_in ds) no_) (round_passes step x d ds ms round (idle d no_))
]

-- there is none any more
pub last_of_round : {W C : Type 0} (step : EventStep W C) (is_in : ℕ → Bool) (x : Running W C) (ms : List Move) → ((c : ℕ) → is_in c ≡ false → IsIdle x c)
    → (left : List ℕ) → [] ≡ filter is_in left → Round step x left ms → Round step x [] ms
last_of_round step is_in x ms idle [] are round = round
last_of_round step is_in x ms idle (d ∷ ds) are round = elim (cases_Bool (is_in d)) [
  | inl yes_ ↦ (let both : [] ≡ d ∷ filter is_in ds = are ∙ cond-true (is_in d) (d ∷ filter is_in ds) (filter is_in ds) yes_ in cc)
  | inr no_ ↦ last_of_round step is_in x ms idle ds
      (are ∙ cond-false (is_in d) (d ∷ filter is_in ds) (filter is_in ds) no_) (round_passes step x d ds ms round (idle d no_))
]

-- all are served
pub round_ends : {W C : Type 0} (step : EventStep W C) (x : Running W C) (ms : List Move) → Round step x [] ms → ServesAll step x ms
unfolding ServesEach
round_ends step x ms round =
    let all = round.so_far [] tt in
    record { each = all.0; are = sym (append-nil ms) ∙ all.1; served = all.2; offers = round.offers }

-- where these are the numbers of all that are due: the connections of the numbers before a place are served
pub record RoundFrom {W C : Type 0} (step : EventStep W C) (numbers : List ℕ) (i : ℕ) (x : Running W C) (ms : List Move) : Type 0 where
  pub offers : AreOffers step x.state ms
  pub of_ : (due : LeavesOutIdle x numbers) → AreApart x.state.connections → RoundOf step due.is_in (drop i numbers) x ms

pub from_first : {W C : Type 0} (step : EventStep W C) (numbers : List ℕ) (x : Running W C) → RoundFrom step numbers 0 x []
unfolding AreOffers
from_first step numbers x =
    record { offers = tt; of_ = λ due apart. record { left = present_numbers x.state; are = due.are; round = round_begins step x apart } }

-- one more is served
pub from_next : {W C : Type 0} (step : EventStep W C) (numbers : List ℕ) (i : ℕ) → i < length numbers → (x : Running W C) (ms ns : List Move)
    → RoundFrom step numbers i x ms → EndsWhereThere step (slice_index_or numbers i 0) (running_after_all step x ms) ns
    → RoundFrom step numbers (i + 1) x (ms ++ ns)
from_next step numbers i within x ms ns from ends = record {
  offers = AreOffers-append step x ms ns from.offers ends.offers;
  of_ = λ due apart.
      let now = from.of_ due apart in
      let c = slice_index_or numbers i 0 in
      let cut : drop i numbers ≡ c ∷ drop (i + 1) numbers = rw add-one (drop-cons numbers i 0 within) in
      let first = first_of_round step due.is_in x ms due.idle now.left c (drop (i + 1) numbers) (sym cut ∙ now.are) now.round in
      let served = ends.served (round_there step x c first.behind ms first.round) in
      record {
        left = first.behind;
        are = first.are;
        round = round_serves step x c first.behind ms ns first.round (record { served = served; offers = ends.offers });
      };
}

-- all are
pub from_last : {W C : Type 0} (step : EventStep W C) (numbers : List ℕ) (i : ℕ) → length numbers ≤ i
    → (x : Running W C) (ms : List Move) → RoundFrom step numbers i x ms → ServesAllOf step numbers x ms
from_last step numbers i past x ms from due apart =
    let now = from.of_ due apart in
    round_ends step x ms (last_of_round step due.is_in x ms due.idle now.left (sym (drop_all i numbers past) ∙ now.are) now.round)
