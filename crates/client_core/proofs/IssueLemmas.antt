-- What is issued, and what stands then.
use Rattle.std.proofs.Common.{◌≡◌, ℕ, ◌<◌, ◌≤◌, List, [], ◌∷◌, ◌++◌, length, Bool, true, false, refl, sym, ap, ◌∙◌, subst, arith}
use Rattle.std.specs.Prelude.{Option, Some, None, nat_le}
use Rattle.std.proofs.lemmas.Bool.Decides.{nat_tests}
use Rattle.spec_formats.specs.Header.{AmsAddress}
use Rattle.spec_formats.specs.Request.{Request, command_of}
use Rattle.spec_frames.specs.Frame.{frame_bytes}
use Rattle.spec_client.specs.Unanswered.{Unanswered, outstanding_count, id_after, free_id}
use Rattle.spec_client.specs.Client.{Client, Issued, new_client, is_full, next_id, request_packet, request_frame, issued_by, with_request, client_after_issue}
use Rattle.spec_client.specs.History.{ClientHistory, Issue, client_after, client_after_move, issued_after}
use Rattle.client_core.specs.Kept.{Kept}
use Rattle.client_core.specs.Represents.{StandsFor, Represents}
use Rattle.client_core.proofs.HistoryLemmas.{moved}

full_is : (n : ℕ) → 64 ≤ n → nat_le 64 n ≡ true
full_is n many = grind (arith, nat_tests)

room_is : (n : ℕ) → n < 64 → nat_le 64 n ≡ false
room_is n few = grind (arith, nat_tests)

is_full_by : (k : Kept) (b : Bool) → nat_le 64 (outstanding_count k.unanswered) ≡ b → (c : Client) → StandsFor k c → is_full c ≡ b
is_full_by k b e c s = ap (λ us. nat_le 64 (outstanding_count us)) (sym s.unanswered) ∙ e

pub refused : (old k : Kept) → k ≡ old → 64 ≤ outstanding_count k.unanswered
    → (me peer : AmsAddress) (h : ClientHistory) (r : Request) → Represents me peer old h
    → None ≡ issued_after me peer h r
unfolding issued_by
refused old k e many me peer h r s =
    let c = client_after (new_client me peer) h in
    let full : is_full c ≡ true = is_full_by k true (full_is (outstanding_count k.unanswered) many) c (subst (λ (o : Kept). StandsFor o c) (sym e) s) in
    rw full refl

refused_step : (k : Kept) → 64 ≤ outstanding_count k.unanswered → (r : Request) (now : ℕ) (c : Client)
    → StandsFor k c → StandsFor k (client_after_move c (Issue r now))
unfolding client_after_move client_after_issue
refused_step k many r now c s =
    let full : is_full c ≡ true = is_full_by k true (full_is (outstanding_count k.unanswered) many) c s in
    rw full s

pub refused_stands : (old k : Kept) → k ≡ old → 64 ≤ outstanding_count k.unanswered → (r : Request) (now : ℕ)
    → (me peer : AmsAddress) (h : ClientHistory) → Represents me peer old h → Represents me peer k (h ++ Issue r now ∷ [])
refused_stands old k e many r now = moved old k k (Issue r now) e (refused_step k many r now)

next_id_is : (k : Kept) (id : ℕ) → id ≡ free_id (length k.unanswered) k.unanswered (id_after k.last_id) → (c : Client) → StandsFor k c → id ≡ next_id c
next_id_is k id e c s = e ∙ rw (s.unanswered, s.last_id) refl

pub issued_is : (old k : Kept) → k ≡ old → outstanding_count k.unanswered < 64 → (id : ℕ) (frame : List ℕ) (r : Request)
    → id ≡ free_id (length k.unanswered) k.unanswered (id_after k.last_id) → frame ≡ frame_bytes (request_packet k.me k.peer id r)
    → (me peer : AmsAddress) (h : ClientHistory) → Represents me peer old h → Some (record { id = id; frame = frame }) ≡ issued_after me peer h r
unfolding issued_by
issued_is old k e few id frame r is_id is_frame me peer h s =
    let c = client_after (new_client me peer) h in
    let stands : StandsFor k c = subst (λ (o : Kept). StandsFor o c) (sym e) s in
    let room : is_full c ≡ false = is_full_by k false (room_is (outstanding_count k.unanswered) few) c stands in
    let same : id ≡ next_id c = next_id_is k id is_id c stands in
    let framed : frame ≡ request_frame c id r =
    is_frame ∙ ap (λ a. frame_bytes (request_packet a k.peer id r)) stands.me ∙ ap (λ a. frame_bytes (request_packet c.me a id r)) stands.peer in
    let issue : ℕ → Option Issued = λ i. Some (record { id = i; frame = request_frame c i r }) in
    rw room (ap (λ f. Some (record { id = id; frame = f })) framed ∙ ap issue same)

issued_step : (k : Kept) → outstanding_count k.unanswered < 64 → (id : ℕ) (us : List Unanswered) (r : Request) (now : ℕ)
    → id ≡ free_id (length k.unanswered) k.unanswered (id_after k.last_id)
    → us ≡ k.unanswered ++ record { id = id; command = command_of r; sent = now; timed_out = None } ∷ []
    → (c : Client) → StandsFor k c → StandsFor (record k { last_id = id; unanswered = us }) (client_after_move c (Issue r now))
unfolding client_after_move client_after_issue
issued_step k few id us r now is_id is_us c s =
    let room : is_full c ≡ false = is_full_by k false (room_is (outstanding_count k.unanswered) few) c s in
    let same : id ≡ next_id c = next_id_is k id is_id c s in
    let put : List Unanswered → ℕ → List Unanswered = λ vs i. vs ++ record { id = i; command = command_of r; sent = now; timed_out = None } ∷ [] in
    rw room (record {
      me = s.me;
      peer = s.peer;
      last_id = same;
      unanswered = is_us ∙ ap (λ vs. put vs id) s.unanswered ∙ ap (λ i. put c.unanswered i) same;
      streams = record { given = s.streams.given; stream = s.streams.stream; waiting = s.streams.waiting; taken = s.streams.taken };
      samples = s.samples;
      broken = s.broken;
    })

pub issued_stands : (old k : Kept) → k ≡ old → outstanding_count k.unanswered < 64 → (id : ℕ) (us : List Unanswered) (r : Request) (now : ℕ)
    → id ≡ free_id (length k.unanswered) k.unanswered (id_after k.last_id)
    → us ≡ k.unanswered ++ record { id = id; command = command_of r; sent = now; timed_out = None } ∷ []
    → (me peer : AmsAddress) (h : ClientHistory) → Represents me peer old h
    → Represents me peer (record k { last_id = id; unanswered = us }) (h ++ Issue r now ∷ [])
issued_stands old k e few id us r now is_id is_us =
    moved old k (record k { last_id = id; unanswered = us }) (Issue r now) e (issued_step k few id us r now is_id is_us)

-- what the calls within tell
pub counted : (n : ℕ) (seen us : List Unanswered) → n ≡ outstanding_count seen → seen ≡ us → 64 ≤ n → 64 ≤ outstanding_count us
counted n seen us e same many = subst (λ (vs : List Unanswered). 64 ≤ outstanding_count vs) same (subst (λ (x : ℕ). 64 ≤ x) e many)

pub counted_few : (n : ℕ) (seen us : List Unanswered) → n ≡ outstanding_count seen → seen ≡ us → n < 64 → outstanding_count us < 64
counted_few n seen us e same few = subst (λ (vs : List Unanswered). outstanding_count vs < 64) same (subst (λ (x : ℕ). x < 64) e few)

pub next_of : (id : ℕ) (seen us : List Unanswered) (last : ℕ)
    → id ≡ free_id (length seen) seen (id_after last) → seen ≡ us → id ≡ free_id (length us) us (id_after last)
next_of id seen us last e same = e ∙ ap (λ vs. free_id (length vs) vs (id_after last)) same

pub put_of : (us vs : List Unanswered) (u : Unanswered) (id command number now : ℕ)
    → vs ≡ us ++ u ∷ [] → u ≡ record { id = id; command = number; sent = now; timed_out = None }
    → number ≡ command → vs ≡ us ++ record { id = id; command = command; sent = now; timed_out = None } ∷ []
put_of us vs u id command number now e is same =
    e ∙ ap (λ w. us ++ w ∷ []) is ∙ ap (λ k. us ++ record { id = id; command = k; sent = now; timed_out = None } ∷ []) same

pub refused_still : (old : Kept) → 64 ≤ outstanding_count old.unanswered → (r : Request) (now : ℕ)
    → (me peer : AmsAddress) (h : ClientHistory) → Represents me peer old h → Represents me peer old (h ++ Issue r now ∷ [])
refused_still old many r now = moved old old old (Issue r now) refl (refused_step old many r now)

pub counted_old : (old k : Kept) → k ≡ old → 64 ≤ outstanding_count k.unanswered → 64 ≤ outstanding_count old.unanswered
counted_old old k e many = subst (λ (o : Kept). 64 ≤ outstanding_count o.unanswered) e many
