-- What a call of `recv` gives, by what was taken before and behind a tick.
use Rattle.std.proofs.Common.{◌≡◌, ℕ, ◌<◌, ◌≤◌, List, take, length, true, false, ap, ◌∙◌, subst, sym, inl, inr, arith}
use Rattle.ads_outside.specs.declared.event.Event.TheVariants as event
use Rattle.ads_outside.specs.declared.received.Received.TheVariants as received
use Rattle.ads_outside.specs.LinkState.{LinkHistory, bytes_came, quiet_came, closed_came}
use Rattle.spec_machine.specs.Running.{is_to_be_shut_at}
use Rattle.spec_local.specs.LocalCall.{LAST_MOMENT, next_tick}
use Rattle.spec_local.proofs.Came.{ticked}
use Rattle.server_core.specs.CoreState.{CoreState, after_event}
use Rattle.server_core.specs.Served.{ServedState, served_step}
use Rattle.server_core.specs.Serves.{CoreView, Serves}
use Rattle.local_link.specs.Link.{LocalView, unblocked, StandsFor, TakesFirst, TakesNext}
use Rattle.local_link.specs.Giving.{Takes, Gives}
use Rattle.local_link.proofs.Waits.{taken_bytes, taken_nothing}
use Rattle.local_link.proofs.Moves.{gives_waiting, gives_closed, stays_open, ticks, gives_later, gives_quiet}

-- from a core to another so many bytes are taken into a buffer
abbrev TakesTo : ℕ → List ℕ → CoreView → CoreView → Type 0
TakesTo n buf old new = (s : ServedState) → Serves old (unblocked s) → Takes n buf new s

bytes_at_once_of : (old new : LocalView) (n now size : ℕ) (buf : List ℕ) → TakesTo n buf old.core new.core → 0 < n → n ≤ size → now ≡ old.history.moment
    → new.history ≡ bytes_came now old.history → new.wanting ≡ old.wanting → Gives (received.Bytes n now) size buf old new
bytes_at_once_of old new n now size buf takes some fit moment history wanting = record {
  receives = record { some = some; fit = fit; history = history };
  later = (let last : new.history.moment ≡ now = ap (λ (h : LinkHistory). h.moment) history in omega (arith, moment, last));
  follows = record {
    wanting = wanting;
    follows = λ s stands.
        let t = taken_bytes n buf new.core s some (takes s stands.core) in
        let long : 0 < length (take n buf) = (let len = t.0 in omega (arith, len, some)) in
        gives_waiting new s (take n buf) now long t.1 (moment ∙ stands.moment) (ap (λ (h : LinkHistory). h.moment) history);
  };
}

closed_at_once_of : (old new : LocalView) (n now size : ℕ) (buf : List ℕ) → TakesTo n buf old.core new.core → n ≤ 0
    → ((x : CoreState) → Serves new.core x → true ≡ is_to_be_shut_at 1 x) → now ≡ old.history.moment
    → new.history ≡ closed_came now old.history → new.wanting ≡ old.wanting → Gives (received.Closed now) size buf old new
closed_at_once_of old new n now size buf takes none shut moment history wanting = record {
  receives = history;
  later = (let last : new.history.moment ≡ now = ap (λ (h : LinkHistory). h.moment) history in omega (arith, moment, last));
  follows = record {
    wanting = wanting;
    follows = λ s stands.
        gives_closed new s now (taken_nothing n buf new.core s none (takes s stands.core)) shut
        (moment ∙ stands.moment) (ap (λ (h : LinkHistory). h.moment) history);
  };
}

-- nothing waited, the connection is not to be shut, and a tick was made
pub record Ticks (old : LocalView) (mid later : CoreView) (now : ℕ) : Type 0 where
  pub n : ℕ
  pub buf : List ℕ
  pub takes : (s : ServedState) → Serves old.core (unblocked s) → Takes n buf mid s
  pub none : n ≤ 0
  pub stays : (x : CoreState) → Serves mid x → false ≡ is_to_be_shut_at 1 x
  pub tick : (x : CoreState) → Serves mid x → Unit {0} → Serves later (after_event x (event.Tick now))
  pub last : old.history.moment ≤ LAST_MOMENT
  pub moment : now ≡ next_tick old.history.moment

next_moment : (s : ServedState) (old : LocalView) (now : ℕ) → StandsFor old s → now ≡ next_tick old.history.moment → now ≡ next_tick s.moment
next_moment s old now stands moment = moment ∙ ap next_tick stands.moment

last_of : (s : ServedState) (old : LocalView) → StandsFor old s → old.history.moment ≤ LAST_MOMENT → s.moment ≤ LAST_MOMENT
last_of s old stands last = subst (λ m. m ≤ LAST_MOMENT) stands.moment last

bytes_later_of : (old new : LocalView) (mid later : CoreView) (n now size : ℕ) (buf : List ℕ)
    → Ticks old mid later now → TakesTo n buf later new.core → 0 < n → n ≤ size
    → new.history ≡ bytes_came now old.history → new.wanting ≡ old.wanting → Gives (received.Bytes n now) size buf old new
bytes_later_of old new mid later n now size buf t takes some fit history wanting = record {
  receives = record { some = some; fit = fit; history = history };
  later = (let last : new.history.moment ≡ now = ap (λ (h : LinkHistory). h.moment) history in
      let le = t.last in let is = t.moment in omega (arith, is, le, last));
  follows = record {
    wanting = wanting;
    follows = λ s stands.
        let nothing = taken_nothing t.n t.buf mid s t.none (t.takes s stands.core) in
        let at_s = next_moment s old now stands t.moment in
        let bytes = taken_bytes n buf new.core (ticked served_step s) some (takes (ticked served_step s) (ticks mid later s now nothing at_s t.tick)) in
        let long : 0 < length (take n buf) = (let len = bytes.0 in omega (arith, len, some)) in
        gives_later new mid s (take n buf) now (last_of s old stands t.last) nothing
        (stays_open mid s nothing t.stays) long bytes.1 at_s (ap (λ (h : LinkHistory). h.moment) history);
  };
}

nothing_later_of : (old new : LocalView) (mid later : CoreView) (n now size : ℕ) (buf : List ℕ) → Ticks old mid later now → TakesTo n buf later new.core → n ≤ 0
    → new.history ≡ quiet_came now old.history → new.wanting ≡ old.wanting → Gives (received.Quiet now) size buf old new
nothing_later_of old new mid later n now size buf t takes none history wanting = record {
  receives = history;
  later = (let last : new.history.moment ≡ now = ap (λ (h : LinkHistory). h.moment) history in
      let le = t.last in let is = t.moment in omega (arith, is, le, last));
  follows = record {
    wanting = wanting;
    follows = λ s stands.
        let nothing = taken_nothing t.n t.buf mid s t.none (t.takes s stands.core) in
        let at_s = next_moment s old now stands t.moment in
        let still = taken_nothing n buf new.core (ticked served_step s) none (takes (ticked served_step s) (ticks mid later s now nothing at_s t.tick)) in
        gives_quiet new mid s now (last_of s old stands t.last) nothing
        (stays_open mid s nothing t.stays) still at_s (ap (λ (h : LinkHistory). h.moment) history);
  };
}

-- the same of the link as its caller sees it
pub bytes_at_once : (old self new : LocalView) (n now size : ℕ) (buf : List ℕ) → old ≡ self
    → TakesTo n buf old.core new.core → 0 < n → n ≤ size → now ≡ old.history.moment
    → new.history ≡ bytes_came now old.history → new.wanting ≡ old.wanting → Gives (received.Bytes n now) size buf self new
bytes_at_once old self new n now size buf is takes some fit moment history wanting =
    subst (λ l. Gives (received.Bytes n now) size buf l new) is (bytes_at_once_of old new n now size buf takes some fit moment history wanting)

pub closed_at_once : (old self new : LocalView) (n now size : ℕ) (buf : List ℕ) → old ≡ self → TakesTo n buf old.core new.core → n ≤ 0
    → ((x : CoreState) → Serves new.core x → true ≡ is_to_be_shut_at 1 x) → now ≡ old.history.moment
    → new.history ≡ closed_came now old.history → new.wanting ≡ old.wanting → Gives (received.Closed now) size buf self new
closed_at_once old self new n now size buf is takes none shut moment history wanting =
    subst (λ l. Gives (received.Closed now) size buf l new) is (closed_at_once_of old new n now size buf takes none shut moment history wanting)

pub bytes_later : (old self new : LocalView) (mid later : CoreView) (n now size : ℕ) (buf : List ℕ)
    → old ≡ self → Ticks old mid later now → TakesTo n buf later new.core → 0 < n → n ≤ size
    → new.history ≡ bytes_came now old.history → new.wanting ≡ old.wanting → Gives (received.Bytes n now) size buf self new
bytes_later old self new mid later n now size buf is t takes some fit history wanting =
    subst (λ l. Gives (received.Bytes n now) size buf l new) is (bytes_later_of old new mid later n now size buf t takes some fit history wanting)

pub nothing_later : (old self new : LocalView) (mid later : CoreView) (n now size : ℕ) (buf : List ℕ)
    → old ≡ self → Ticks old mid later now → TakesTo n buf later new.core → n ≤ 0
    → new.history ≡ quiet_came now old.history → new.wanting ≡ old.wanting → Gives (received.Quiet now) size buf self new
nothing_later old self new mid later n now size buf is t takes none history wanting =
    subst (λ l. Gives (received.Quiet now) size buf l new) is (nothing_later_of old new mid later n now size buf t takes none history wanting)

-- as many bytes of the first frame that waits as a buffer takes
abbrev pub TakesWhole : ℕ → ℕ → CoreView → Type 0
TakesWhole n size core = 0 < n → (s : ServedState) → Serves core (unblocked s) → TakesFirst n size s

pub whole_at_once : (old self : LocalView) (n size : ℕ) (s : ServedState) → old ≡ self → TakesWhole n size old.core → 0 < n
    → StandsFor self s → TakesNext n size s
whole_at_once old self n size s is whole some stands = inl (whole some s (subst (λ (l : LocalView). Serves l.core (unblocked s)) (sym is) stands.core))

whole_later_of : (old : LocalView) (mid later : CoreView) (n now size : ℕ) (s : ServedState) → Ticks old mid later now → TakesWhole n size later → 0 < n
    → StandsFor old s → TakesNext n size s
whole_later_of old mid later n now size s t whole some stands =
    let nothing = taken_nothing t.n t.buf mid s t.none (t.takes s stands.core) in
    let at_s = next_moment s old now stands t.moment in
    inr (whole some (ticked served_step s) (ticks mid later s now nothing at_s t.tick))

pub whole_later : (old self : LocalView) (mid later : CoreView) (n now size : ℕ) (s : ServedState) → old ≡ self → Ticks old mid later now
    → TakesWhole n size later → 0 < n → StandsFor self s → TakesNext n size s
whole_later old self mid later n now size s is t whole some stands =
    whole_later_of old mid later n now size s t whole some (subst (λ (l : LocalView). StandsFor l s) (sym is) stands)
