-- One offer to a connection, and the end of its offers.
use Rattle.std.proofs.Common.{◌≡◌, ℕ, ◌≤◌, List, [], ◌∷◌, ◌++◌, length, take, true, false, refl, sym, ap, ◌∙◌, subst, inl, inr}
use Rattle.std.specs.Prelude.{Bool, ◌⊎◌, Some, None, if◌then◌else◌}
use Rattle.ads_outside.specs.declared.moves.Move.{Move}
use Rattle.ads_outside.specs.declared.moves.Move.TheVariants as move
use Rattle.spec_machine.specs.Delivery.{AreOffers}
use Rattle.spec_machine.specs.Moves.{EventStep, state_after}
use Rattle.spec_machine.specs.Offers.{waiting_at, is_among, blocked_after, blocked_after_move}
use Rattle.spec_machine.specs.Running.{Running, offer_at, first_frame}
use Rattle.spec_machine.specs.Turns.{IsOffer, IsServed, Serves}
use Rattle.spec_machine.proofs.Changes.{state_after-append}
use Rattle.spec_machine.proofs.Emptied.{took-gone}
use Rattle.std.proofs.lemmas.List.{length-take-le}
use Rattle.ads_served.specs.Standing.{running_after_all}
use Rattle.serve_loop.specs.Serving.{Begins, Ends, BeginsAll}

-- what is offered is the first frame that waits, and the connection is not blocked
pub record Offers_ {W C : Type 0} (x : Running W C) (c : ℕ) (left : List ℕ) : Type 0 where
  pub not_blocked : is_among c x.blocked ≡ false
  pub others : List (List ℕ)
  pub waits : waiting_at c x.state ≡ left ∷ others

first_of : (fs : List (List ℕ)) (left : List ℕ) → first_frame fs ≡ Some left → (others : List (List ℕ)) × (fs ≡ left ∷ others)
first_of [] left e = cc
first_of (f ∷ fs) left e = (fs, (let same : f ≡ left = cc in ap (λ g. g ∷ fs) same))

offered_if : (blocked : Bool) (fs : List (List ℕ)) (left : List ℕ)
    → (if blocked then None else first_frame fs) ≡ Some left → (blocked ≡ false) × (first_frame fs ≡ Some left)
offered_if true fs left e = cc
offered_if false fs left e = (refl, e)

pub offered_at : {W C : Type 0} (x : Running W C) (c : ℕ) (left : List ℕ) → offer_at c x ≡ Some left → Offers_ x c left
offered_at x c left e =
    let both = offered_if (is_among c x.blocked) (waiting_at c x.state) left e in
    let first = first_of (waiting_at c x.state) left both.1 in
    record { not_blocked = both.0; others = first.0; waits = first.1 }

none_first : (fs : List (List ℕ)) → first_frame fs ≡ None → fs ≡ []
none_first [] e = refl
none_first (f ∷ fs) e = cc

none_if : (blocked : Bool) (fs : List (List ℕ)) → (if blocked then None else first_frame fs) ≡ None → (fs ≡ []) ⊎ (blocked ≡ true)
none_if true fs e = inr refl
none_if false fs e = inl (none_first fs e)

-- nothing is offered: nothing waits, or the connection is blocked
pub none_at : {W C : Type 0} (x : Running W C) (c : ℕ) → offer_at c x ≡ None → IsServed c x.blocked x.state
none_at x c e = none_if (is_among c x.blocked) (waiting_at c x.state) e

take_short : (n : ℕ) (f : List ℕ) → n ≤ length f → length (take n f) ≡ n
take_short n f e = length-take-le n f e

-- so many bytes of it are an offer
offer_of_first : {W C : Type 0} (x : Running W C) (c : ℕ) (left : List ℕ) (n : ℕ)
    → Offers_ x c left → n ≤ length left → IsOffer (waiting_at c x.state) (length left) (take n left)
offer_of_first x c left n o fits =
    let is = take_short n left fits in
    let P : List (List ℕ) → Type 0 = λ fs. IsOffer fs (length left) (take n left) in
    subst P (sym o.waits) (refl, rw is fits, rw is refl)

-- an offer of which so many bytes are taken
pub begins_took : {W C : Type 0} (step : EventStep W C) (x : Running W C) (c : ℕ) (left : List ℕ) (n : ℕ) → offer_at c x ≡ Some left → n ≤ length left
    → Begins step c x (move.Took c (length left) (take n left) ∷ [])
unfolding Serves AreOffers state_after blocked_after
begins_took step x c left n e fits =
    let o = offered_at x c left e in
    let is_offer = offer_of_first x c left n o fits in
    record {
      so_far = λ rest serves. (refl, o.not_blocked, is_offer, serves);
      offers = (is_offer, tt);
      stays = λ there. took-gone step c (length left) (take n left) x.state ∙ there;
    }

-- one that failed
pub ends_lost : {W C : Type 0} (step : EventStep W C) (x : Running W C) (c : ℕ) (left : List ℕ) → offer_at c x ≡ Some left → Ends step c x (move.Lost c ∷ [])
unfolding Serves AreOffers
ends_lost step x c left e =
    let o = offered_at x c left e in
    record { served = (refl, ((λ none. (let both : left ∷ o.others ≡ [] = sym o.waits ∙ none in cc)), o.not_blocked), refl); offers = (tt, tt) }

-- nothing is to be offered
pub begins_none : {W C : Type 0} (step : EventStep W C) (x : Running W C) (c : ℕ) → offer_at c x ≡ None → BeginsAll step c x []
unfolding AreOffers state_after blocked_after
begins_none step x c e = record { begins = record { so_far = λ rest serves. serves; offers = tt; stays = λ there. there }; no_offer = e }

pub blocked_after-append : (ms ns : List Move) (b : List ℕ) → blocked_after b (ms ++ ns) ≡ blocked_after (blocked_after b ms) ns
unfolding blocked_after
blocked_after-append [] ns b = refl
blocked_after-append (m ∷ ms) ns b = blocked_after-append ms ns (blocked_after_move b m)

pub running-append : {W C : Type 0} (step : EventStep W C) (x : Running W C) (ms ns : List Move)
    → running_after_all step x (ms ++ ns) ≡ running_after_all step (running_after_all step x ms) ns
running-append step x ms ns = ap (λ s. record { state = s; blocked = blocked_after x.blocked (ms ++ ns) }) (state_after-append step ms ns x.state)
    ∙ ap (λ b. record { state = state_after step (state_after step x.state ms) ns; blocked = b }) (blocked_after-append ms ns x.blocked)
