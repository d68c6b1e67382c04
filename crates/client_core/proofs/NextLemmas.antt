-- What is heard next: timeouts, then what is broken, then samples, then the frames.
use Rattle.std.proofs.Common.{◌≡◌, ℕ, suc, List, [], ◌∷◌, length, drop, refl, sym, ap, ◌∙◌, subst, arith}
use Rattle.std.specs.Prelude.{Option, Some, None, Result, Ok, Err, MatchResult, unwrap_or, ◌++◌}
use Rattle.ads_base.specs.declared.no_memory.NoMemory.{NoMemory}
use Rattle.ads_base.specs.declared.peer.Peer.{Peer}
use Rattle.spec_client.specs.Heard as spec
use Rattle.spec_client.specs.Heard.{StampedSample, heard_of_sample}
use Rattle.spec_client.specs.Unanswered.{Unanswered, is_timed_out_at, next_timeout, without_first}
use Rattle.spec_client.specs.Client.{Client}
use Rattle.spec_client.specs.Hearing.{Hearing, hearing, hearing_of_samples, hearing_unless_broken, hearing_of_timeout, next_hearing}
use Rattle.client_core.specs.Kept.{Kept}
use Rattle.client_core.specs.Represents.{StandsFor}
use Rattle.client_core.specs.Heard.{heard_meant}
use Rattle.client_core.specs.Unanswered.{TakesTimeout}
use Rattle.client_core.specs.Hears.{StandsStill, IsHearing, Hears, HearsFrames, hearing_in_frames}
use Rattle.client_core.specs.declared.heard.Heard.{Heard}
use Rattle.client_core.specs.declared.heard.Heard.TheVariants as value
use Rattle.client_core.proofs.Verdicts.{unanswered_changed, samples_changed}

heard_of : (new : Kept) (heard : Heard) (x y : Hearing) → x ≡ y → IsHearing new heard y → IsHearing new heard x
heard_of new heard x y e is = subst (λ (z : Hearing). IsHearing new heard z) (sym e) is

stands_inside : (old k : Kept) → k ≡ old → (c : Client) → StandsFor old c → StandsFor k c
stands_inside old k e c s = subst (λ (o : Kept). StandsFor o c) (sym e) s

pub hears_timeout : (old k : Kept) → k ≡ old → (us : List Unanswered) (u : Unanswered) (id sent now : ℕ)
    → id ≡ u.id → sent ≡ u.sent → now ≡ unwrap_or u.timed_out 0
    → TakesTimeout k.unanswered us (Some u) → Hears old (record k { unanswered = us }) (value.TimedOut id sent now)
unfolding next_hearing
hears_timeout old k e us u id sent now is_id is_sent is_now took c s =
    let stands = stands_inside old k e c s in
    let next : next_timeout c.unanswered ≡ Some u = ap (λ vs. next_timeout vs) (sym stands.unanswered) ∙ took.0 in
    let left : us ≡ without_first (is_timed_out_at u.id) c.unanswered = took.1 ∙ ap (λ vs. without_first (is_timed_out_at u.id) vs) stands.unanswered in
    heard_of (record k { unanswered = us }) (value.TimedOut id sent now) (next_hearing c) _ (ap (λ o. hearing_of_timeout c o) next) (record {
      heard_is = rw (is_id, is_sent, is_now) refl;
      stands = unanswered_changed k us c (without_first (is_timed_out_at u.id) c.unanswered) stands left;
    })

-- no timeout is to be told
no_timeout : (k : Kept) (us : List Unanswered) → TakesTimeout k.unanswered us None
    → (c : Client) → StandsFor k c → next_hearing c ≡ hearing_unless_broken c c.broken
unfolding next_hearing
no_timeout k us took c s = ap (λ o. hearing_of_timeout c o) (ap (λ vs. next_timeout vs) (sym s.unanswered) ∙ took.0)

stands_on : (k : Kept) (us : List Unanswered) → TakesTimeout k.unanswered us None → (c : Client) → StandsFor k c → StandsFor (record k { unanswered = us }) c
stands_on k us took c s = unanswered_changed k us c c.unanswered s (took.1 ∙ s.unanswered)

pub hears_broken : (old k : Kept) → k ≡ old → (us : List Unanswered) → TakesTimeout k.unanswered us None → (p copy : Peer) → k.broken ≡ Some p → copy ≡ p
    → Hears old (record k { unanswered = us }) (value.Broken copy)
hears_broken old k e us took p copy is same c s =
    let stands = stands_inside old k e c s in
    let broken : c.broken ≡ Some p = sym stands.broken ∙ is in
    heard_of (record k { unanswered = us }) (value.Broken copy) (next_hearing c) _
    (no_timeout k us took c stands ∙ ap (λ o. hearing_unless_broken c o) broken) (record {
      heard_is = ap (λ q. spec.Broken q) same;
      stands = stands_on k us took c stands;
    })

-- the peer is not broken
no_break : (k : Kept) (us : List Unanswered) → TakesTimeout k.unanswered us None → k.broken ≡ None → (c : Client) → StandsFor k c
    → next_hearing c ≡ hearing_of_samples c c.samples
no_break k us took whole c s = no_timeout k us took c s ∙ ap (λ o. hearing_unless_broken c o) (sym s.broken ∙ whole)

pub hears_sample : (old k : Kept) → k ≡ old → (us : List Unanswered) → TakesTimeout k.unanswered us None
    → k.broken ≡ None → (first : StampedSample) (rest : List StampedSample)
    → k.samples ≡ first ∷ rest → (heard : Heard) → heard_meant heard ≡ heard_of_sample first → Hears old (record k { unanswered = us; samples = rest }) heard
hears_sample old k e us took whole first rest is heard same c s =
    let stands = stands_inside old k e c s in
    let samples : c.samples ≡ first ∷ rest = sym stands.samples ∙ is in
    heard_of (record k { unanswered = us; samples = rest }) heard (next_hearing c) _
    (no_break k us took whole c stands ∙ ap (λ ss. hearing_of_samples c ss) samples) (record {
      heard_is = same;
      stands = samples_changed (record k { unanswered = us }) rest c rest (stands_on k us took c stands) refl;
    })

-- behind all samples
behind_samples : (k : Kept) (us : List Unanswered) (ss : List StampedSample)
    → TakesTimeout k.unanswered us None → k.samples ≡ [] → ss ≡ [] → (c : Client) → StandsFor k c
    → StandsFor (record k { unanswered = us; samples = ss }) c
behind_samples k us ss took none e c s = samples_changed (record k { unanswered = us }) ss c c.samples (stands_on k us took c s) (e ∙ sym none ∙ s.samples)

pub hears_frames : (old k : Kept) → k ≡ old → (us : List Unanswered) (ss : List StampedSample)
    → TakesTimeout k.unanswered us None → k.broken ≡ None → k.samples ≡ [] → ss ≡ []
    → (new : Kept) (heard : Heard) → HearsFrames (record k { unanswered = us; samples = ss }) new heard → Hears old new heard
hears_frames old k e us ss took whole none empty new heard hears c s =
    let stands = stands_inside old k e c s in
    let samples : c.samples ≡ [] = sym stands.samples ∙ none in
    heard_of new heard (next_hearing c) (hearing_in_frames c) (no_break k us took whole c stands ∙ ap (λ ts. hearing_of_samples c ts) samples)
    (hears c (behind_samples k us ss took none empty c stands))

pub still_kept : (old k : Kept) → k ≡ old → (us : List Unanswered) → TakesTimeout k.unanswered us None → StandsStill old (record k { unanswered = us })
still_kept old k e us took c s = stands_on k us took c (stands_inside old k e c s)

pub still_frames : (old k : Kept) → k ≡ old → (us : List Unanswered) (ss : List StampedSample) → TakesTimeout k.unanswered us None → k.samples ≡ [] → ss ≡ []
    → (new : Kept) → StandsStill (record k { unanswered = us; samples = ss }) new → StandsStill old new
still_frames old k e us ss took none empty new still c s = still c (behind_samples k us ss took none empty c (stands_inside old k e c s))

-- what the frames give is passed on; the samples were none, and are none
pub hears_result : (old k : Kept) → k ≡ old → (us : List Unanswered) (ss : List StampedSample)
    → TakesTimeout k.unanswered us None → k.broken ≡ None → k.samples ≡ [] ++ ss
    → (new : Kept) (r : Result Heard NoMemory)
    → MatchResult r (HearsFrames (record k { unanswered = us; samples = ss }) new) (λ wants. StandsStill (record k { unanswered = us; samples = ss }) new)
    → k.samples ≡ [] → MatchResult r (Hears old new) (λ wants. StandsStill old new)
hears_result old k e us ss took whole same new (Ok heard) hears none = hears_frames old k e us ss took whole none (sym same ∙ none) new heard hears
hears_result old k e us ss took whole same new (Err wants) still none = still_frames old k e us ss took none (sym same ∙ none) new still

-- a list that is its own rest is empty
pub none_left : (xs ys : List StampedSample) → xs ≡ [] ++ ys → ys ≡ drop 1 xs → xs ≡ []
none_left [] ys e f = refl
none_left (x ∷ xs) ys e f =
    let longer : suc (length xs) ≡ length ys = ap length e in
    let same : length ys ≡ length xs = ap length f in
    absurd (omega arith)
