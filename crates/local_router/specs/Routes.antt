-- What a wire with a router gives for an event of the wire inside: the same event, but a piece has what is left of it behind the
-- packets to the router, and the connection is closed where it does not take their answer whole at once.
use Rattle.std.specs.Prelude.{◌≡◌, ◌⊎◌, ℕ, ◌<◌, List, [], ◌∷◌, length, take, Bool, true, false, IsTrue, Option, Some, None, ◌==◌, if◌then◌else◌}
use Rattle.ads_outside.specs.declared.event.Event.{Event}
use Rattle.ads_outside.specs.declared.event.Event.TheVariants as event
use Rattle.ads_outside.specs.declared.moves.Move.{Move}
use Rattle.ads_outside.specs.declared.moves.Move.TheVariants as move
use Rattle.ads_outside.specs.declared.next.Next.{Next}
use Rattle.ads_outside.specs.declared.next.Next.TheVariants as next
use Rattle.ads_outside.specs.declared.offer.Offer.{Offer}
use Rattle.ads_outside.specs.declared.offer.Offer.TheVariants as offer
use Rattle.ads_outside.specs.Opened.{is_new}
use Rattle.ads_outside.specs.WireState.{WireHistory, event_given, history_after}
use Rattle.local_router.specs.declared.local.Local.{Local}
use Rattle.local_router.specs.declared.local.Rest.{Rest}
use Rattle.local_router.specs.declared.local.Rest.TheVariants as rest
use Rattle.local_router.specs.Heard.{heard, local_of}

-- what waits on each connection that is open and has sent nothing for the server
abbrev pub Waiting : Type 0
Waiting = ℕ → Option (List ℕ)

-- on one connection this waits
abbrev pub with_waiting : ℕ → Option (List ℕ) → Waiting → Waiting
with_waiting c text before = λ n. if c == n then text else before n

-- an answer that is taken whole, where there is one
abbrev pub whole_moves : ℕ → List ℕ → List Move
whole_moves c [] = []
whole_moves c (b ∷ bs) = move.Took c (length (b ∷ bs)) (b ∷ bs) ∷ []

-- an answer of which a part is taken: the connection is shut
pub record IsCutOff (c : ℕ) (reply : List ℕ) (moves : List Move) : Type 0 where
  pub taken : ℕ
  pub part : taken < length reply
  pub is : moves ≡ move.Took c (length reply) (take taken reply) ∷ move.Shut c ∷ []

-- an answer is taken whole, or the connection is lost or shut
abbrev pub IsOffered : Bool → ℕ → List ℕ → List Move → Type 0
IsOffered true c reply moves = moves ≡ whole_moves c reply
IsOffered false c reply moves = (moves ≡ move.Lost c ∷ []) ⊎ IsCutOff c reply moves

-- an answer is offered to a connection
pub record Answers (whole : Bool) (c : ℕ) (reply : List ℕ) (old new : WireHistory) : Type 0 where
  pub moves : List Move
  pub offered : IsOffered whole c reply moves
  pub history : new ≡ history_after old moves

-- the event that is given once the answer was offered, and what waits then
abbrev pub Leaves : Bool → Rest → ℕ → Waiting → Waiting → Event → Type 0
Leaves true (rest.Waits text) c before after given =
    (given ≡ event.Piece c []) × ((n : ℕ) → after n ≡ with_waiting c (Some text) before n)
Leaves true (rest.Passes bytes) c before after given = (given ≡ event.Piece c bytes) × ((n : ℕ) → after n ≡ before n)
Leaves false left c before after given = (given ≡ event.Closed c) × ((n : ℕ) → after n ≡ before n)

-- what came on a connection is answered so far as it goes to the router
pub record Hears (l : Local) (c : ℕ) (before after : Waiting) (old new : WireHistory) (given : Event) : Type 0 where
  pub whole : Bool
  pub answers : Answers whole c l.reply old new
  pub leaves : Leaves whole l.rest c before after given

-- an event passes as it is
pub record Passes (came : Event) (old new : WireHistory) (given : Event) : Type 0 where
  pub same : given ≡ came
  pub history : new ≡ old

-- a piece on a connection on which this waits, or nothing does
abbrev pub RoutesPiece : List ℕ → ℕ → List ℕ → Option (List ℕ) → Waiting → Waiting → WireHistory → WireHistory → Event → Type 0
RoutesPiece net c bytes None before after old new given =
    Passes (event.Piece c bytes) old new given × ((n : ℕ) → after n ≡ before n)
RoutesPiece net c bytes (Some text) before after old new given =
    Hears (local_of net (heard text bytes)) c (with_waiting c None before) after old new given

-- any event, by the histories behind it
abbrev pub RoutesEvent : List ℕ → Event → Waiting → Waiting → WireHistory → WireHistory → Event → Type 0
RoutesEvent net (event.Opened c) before after old new given =
    Passes (event.Opened c) old new given × ((n : ℕ) → after n ≡ with_waiting c (Some []) before n)
RoutesEvent net (event.Piece c bytes) before after old new given = RoutesPiece net c bytes (before c) before after old new given
RoutesEvent net (event.Closed c) before after old new given =
    Passes (event.Closed c) old new given × ((n : ℕ) → after n ≡ with_waiting c None before n)
RoutesEvent net (event.Tick t) before after old new given =
    Passes (event.Tick t) old new given × ((n : ℕ) → after n ≡ before n)
RoutesEvent net (event.Reload text) before after old new given =
    Passes (event.Reload text) old new given × ((n : ℕ) → after n ≡ before n)
RoutesEvent net (event.Writable c) before after old new given =
    Passes (event.Writable c) old new given × ((n : ℕ) → after n ≡ before n)

-- an event came of the wire inside, and what is given is made of it
pub record Routes (net : List ℕ) (before after : Waiting) (old new : WireHistory) (given : Event) : Type 0 where
  pub came : Event
  pub opens_new : IsTrue (is_new came old.opened)
  pub routes : RoutesEvent net came before after (event_given came old) new given

-- where an event is given
abbrev pub IfEvent : Next → (Event → Type 0) → Type 0
IfEvent (next.Event e) P = P e
IfEvent next.End P = Unit {0}
IfEvent next.Failed P = Unit {0}
IfEvent next.Memory P = Unit {0}

-- what waits once bytes were offered: nothing more on a connection that is lost
abbrev pub WaitsAfter : Offer → ℕ → Waiting → Waiting → Type 0
WaitsAfter (offer.Took taken) c before after = (n : ℕ) → after n ≡ before n
WaitsAfter offer.Failed c before after = (n : ℕ) → after n ≡ with_waiting c None before n
WaitsAfter offer.Memory c before after = (n : ℕ) → after n ≡ before n
