-- What a wire with a router gives opens what came, and all else of its state follows.
use Rattle.std.proofs.Common.{◌≡◌, ℕ, ◌≤◌, List, [], ◌++◌, refl, ap, sym, ◌∙◌, subst, append-nil, arith}
use Rattle.std.specs.Prelude.{Bool, true, false, Option, Some, None, IsTrue}
use Rattle.ads_outside.specs.declared.event.Event.{Event}
use Rattle.ads_outside.specs.declared.event.Event.TheVariants as event
use Rattle.ads_outside.specs.declared.next.Next.{Next}
use Rattle.ads_outside.specs.declared.next.Next.TheVariants as next
use Rattle.ads_outside.specs.Opened.{opened_by, is_new}
use Rattle.ads_outside.specs.Rose.{raised}
use Rattle.ads_outside.specs.WireAnswers.{Gives, Wants}
use Rattle.ads_outside.specs.WireState.{WireState, WireHistory, event_given}
use Rattle.local_router.specs.declared.local.Rest.{Rest}
use Rattle.local_router.specs.declared.local.Rest.TheVariants as rest
use Rattle.local_router.specs.Routes.{Waiting, Leaves, RoutesPiece, RoutesEvent, Routes, IfEvent}
use Rattle.local_router.proofs.SeenLemmas.{own_rose}
use Rattle.local_router.specs.Seen.{history_seen, state_seen, SameBeside}

-- an event opens the numbers that another opens
record SameOpening (came given : Event) : Type 0 where
  pub opens : opened_by given ≡ opened_by came
  pub news : (opened : List ℕ) → IsTrue (is_new came opened) → IsTrue (is_new given opened)

same_event : (came given : Event) → given ≡ came → SameOpening came given
same_event came given is = record { opens = ap opened_by is; news = λ opened new. subst (λ g. IsTrue (is_new g opened)) (sym is) new }

as_piece : (c : ℕ) (bytes left : List ℕ) (given : Event) → given ≡ event.Piece c left → SameOpening (event.Piece c bytes) given
as_piece c bytes left given is = record { opens = ap opened_by is; news = λ opened new. subst (λ g. IsTrue (is_new g opened)) (sym is) refl }

as_closed : (c : ℕ) (bytes : List ℕ) (given : Event) → given ≡ event.Closed c → SameOpening (event.Piece c bytes) given
as_closed c bytes given is = record { opens = ap opened_by is; news = λ opened new. subst (λ g. IsTrue (is_new g opened)) (sym is) refl }

leaves_opening : (whole : Bool) (left : Rest) (c : ℕ) (bytes : List ℕ) (before after : Waiting) (given : Event)
    → Leaves whole left c before after given → SameOpening (event.Piece c bytes) given
leaves_opening true (rest.Waits text) c bytes before after given leaves = as_piece c bytes [] given leaves.0
leaves_opening true (rest.Passes left) c bytes before after given leaves = as_piece c bytes left given leaves.0
leaves_opening false left c bytes before after given leaves = as_closed c bytes given leaves.0

piece_opening : (net : List ℕ) (c : ℕ) (bytes : List ℕ) (text : Option (List ℕ)) (before after : Waiting) (old new : WireHistory) (given : Event)
    → RoutesPiece net c bytes text before after old new given → SameOpening (event.Piece c bytes) given
piece_opening net c bytes None before after old new given routes = same_event _ given routes.0.same
piece_opening net c bytes (Some text) before after old new given routes = leaves_opening routes.whole _ c bytes _ _ given routes.leaves

opening : (net : List ℕ) (came : Event) (before after : Waiting) (old new : WireHistory) (given : Event)
    → RoutesEvent net came before after old new given → SameOpening came given
opening net (event.Opened c) before after old new given routes = same_event _ given routes.0.same
opening net (event.Piece c bytes) before after old new given routes = piece_opening net c bytes (before c) before after old new given routes
opening net (event.Closed c) before after old new given routes = same_event _ given routes.0.same
opening net (event.Tick t) before after old new given routes = same_event _ given routes.0.same
opening net (event.Reload text) before after old new given routes = same_event _ given routes.0.same
opening net (event.Writable c) before after old new given routes = same_event _ given routes.0.same

abbrev with_opened : WireHistory → List ℕ → WireHistory
with_opened h opened = record h { opened = opened }

module _ {Net : Type 0} (net : Option Net) (some : Net) (is_some : net ≡ Some some) (n w : ℕ) (old mid new : WireState) (came : Event)
    (gave : Gives (next.Event came) old mid) (same : SameBeside mid.history new.history) where
  -- what is seen of the histories, whatever is logged
  seen_behind : (k : ℕ) → history_seen (Some some) k new.history ≡ history_seen (Some some) k (event_given came old.history)
  seen_behind k = ap (λ (h : WireHistory). record h { events = k }) same ∙ ap (history_seen (Some some) k) gave.1

  pub gives_event : (text : List ℕ) (before after : Waiting) (given : Event) → RoutesEvent text came before after mid.history new.history given
      → Gives (next.Event given) (state_seen net n w old) (state_seen net (raised n) w new)
  gives_event text before after given routes =
      let opens : SameOpening came given = opening text came before after mid.history new.history given routes in
      subst (λ o. Gives (next.Event given) (state_seen o n w old) (state_seen o (raised n) w new)) (sym is_some) (
        opens.news old.history.opened gave.0,
        seen_behind (raised n) ∙ ap (λ (o : List ℕ). with_opened (history_seen (Some some) (raised n) old.history) (old.history.opened ++ o)) (sym opens.opens),
      )

  nothing_opened : opened_by came ≡ [] → history_seen (Some some) n new.history ≡ history_seen (Some some) n old.history
  nothing_opened none = seen_behind n
      ∙ ap (with_opened (history_seen (Some some) n old.history)) (ap (λ o. old.history.opened ++ o) none ∙ append-nil old.history.opened)

  pub wants_behind : opened_by came ≡ [] → old.wants ≤ mid.wants → mid.wants ≤ new.wants
      → Gives next.Memory (state_seen net n w old) (state_seen net n (raised w) new)
  wants_behind none first then = subst (λ o. Wants (state_seen o n w old) (state_seen o n (raised w) new)) (sym is_some)
      (record { same = nothing_opened none; wanted = own_rose w old.wants new.wants _ (omega (arith, first, then)) })

-- memory was wanting before anything came
pub wants_before : {Net : Type 0} (net : Option Net) (some : Net) (n w : ℕ) (old : WireState) → net ≡ Some some
    → Gives next.Memory (state_seen net n w old) (state_seen net n (raised w) old)
wants_before net some n w old is_some = subst (λ o. Wants (state_seen o n w old) (state_seen o n (raised w) old)) (sym is_some)
    (record { same = refl; wanted = own_rose w old.wants old.wants _ (omega arith) })

-- what is given of an event, by what waited before the room for it was made
pub routes_event : (answer : Next) (net : List ℕ) (came : Event) (first before after : Waiting) (inside old mid : WireState) (new : WireHistory)
    → ((n : ℕ) → before n ≡ first n) → inside ≡ old → Gives (next.Event came) inside mid
    → IfEvent answer (RoutesEvent net came before after mid.history new) → IfEvent answer (Routes net first after old.history new)
routes_event (next.Event given) net came first before after inside old mid new same is gave routes = record {
  came = came;
  opens_new = subst (λ s. IsTrue (is_new came s.history.opened)) is gave.0;
  routes = subst (λ h. RoutesEvent net came first after h new given) (gave.1 ∙ ap (λ s. event_given came s.history) is)
      (subst (λ f. RoutesEvent net came f after mid.history new given) (λ i n. same n i) routes);
}
routes_event next.End net came first before after inside old mid new same is gave routes = tt
routes_event next.Failed net came first before after inside old mid new same is gave routes = tt
routes_event next.Memory net came first before after inside old mid new same is gave routes = tt
