-- The verdict on a packet, header by header.
use Rattle.std.proofs.Common.{◌≡◌, ◌≢◌, ℕ, ◌+◌, ◌%◌, ◌<◌, List, length, Bool, true, false, refl, sym, ap, ◌∙◌, subst, arith}
use Rattle.std.specs.Prelude.{Option, Some, None, Result, Ok, Err, IfOk, ◌==◌}
use Rattle.std.proofs.lemmas.Bool.{eq-eqb, ne_eqb, lt-ltb}
use Rattle.spec_formats.specs.Commands.{DEVICE_NOTIFICATION}
use Rattle.spec_formats.specs.Header.{AmsAddress, AmsHeader, header_of, payload_of}
use Rattle.spec_formats.specs.NotificationReading.{notification_of}
use Rattle.spec_client.specs.PassedOver.{is_response}
use Rattle.ads_base.specs.declared.no_memory.NoMemory.{NoMemory}
use Rattle.spec_client.specs.Unanswered.{Unanswered}
use Rattle.spec_client.specs.Client.{Client}
use Rattle.spec_client.specs.Hearing.{Hearing, response_hearing, notification_hearing, header_hearing, packet_hearing}
use Rattle.client_core.specs.declared.verdict.Verdict.{Verdict}
use Rattle.client_core.specs.declared.verdict.Verdict.TheVariants as verdict
use Rattle.client_core.specs.Hears.{HasRequests, IsVerdictOf, IsVerdict, Breaks}

short_hearing : (packet : List ℕ) (c : Client) → length packet < 32 → packet_hearing c packet ≡ None
unfolding packet_hearing header_of
short_hearing packet c short = rw (lt-ltb (length packet) 32 short) refl

pub short_passes : (packet : List ℕ) → length packet < 32 → (c : Client) → IsVerdict verdict.Passes packet c
short_passes packet short c = short_hearing packet c short

with_header : (packet : List ℕ) (h : AmsHeader) (c : Client) → header_of packet ≡ Some h → packet_hearing c packet ≡ header_hearing c (Some h) packet
unfolding packet_hearing
with_header packet h c e = ap (λ o. header_hearing c o packet) e

verdict_as : (v : Verdict) (packet : List ℕ) (c : Client) (x y : Option Hearing) → x ≡ y → IsVerdictOf v packet c y → IsVerdictOf v packet c x
verdict_as v packet c x y e is = subst (λ (z : Option Hearing). IsVerdictOf v packet c z) (sym e) is

breaks_so : (v : Verdict) (packet : List ℕ) (c : Client) (x : Option Hearing) → x ≡ packet_hearing c packet
    → Breaks v packet → ((copy : List ℕ) → copy ≡ packet → IsVerdictOf (verdict.Breaks copy) packet c x)
    → IsVerdictOf v packet c x
breaks_so verdict.Passes packet c x e b f = absurd b
breaks_so (verdict.Answers id heard) packet c x e b f = absurd b
breaks_so (verdict.Says heard) packet c x e b f = absurd b
breaks_so (verdict.Holds samples) packet c x e b f = absurd b
breaks_so (verdict.Breaks copy) packet c x e b f = f copy b

pub wrong_length : (packet : List ℕ) (h : AmsHeader) (v : Verdict) → header_of packet ≡ Some h
    → h.len + 32 ≢ length packet → Breaks v packet → (c : Client) → IsVerdict v packet c
wrong_length packet h v e other b c =
    let other_way : 32 + h.len ≢ length packet = λ same. other (omega arith) in
    let wrong : (32 + h.len == length packet) ≡ false = ne_eqb (32 + h.len) (length packet) other_way in
    breaks_so v packet c (packet_hearing c packet) refl b (λ copy is. (with_header packet h c e ∙ rw wrong refl, is))

right_length : (packet : List ℕ) (h : AmsHeader) → h.len + 32 ≡ length packet → (32 + h.len == length packet) ≡ true
right_length packet h same = eq-eqb (32 + h.len) (length packet) (omega arith)

pub by_response : (packet : List ℕ) (h : AmsHeader) (v : Verdict) (c : Client) → header_of packet ≡ Some h → h.len + 32 ≡ length packet → h.flags % 2 ≡ 1
    → IsVerdictOf v packet c (Some (response_hearing c h packet)) → IsVerdict v packet c
by_response packet h v c e same flag is =
    let response : is_response h ≡ true = eq-eqb (h.flags % 2) 1 flag in
    verdict_as v packet c (packet_hearing c packet) (Some (response_hearing c h packet))
    (with_header packet h c e ∙ rw (right_length packet h same, response) refl) is

pub by_notification : (packet : List ℕ) (h : AmsHeader) (v : Verdict) (c : Client)
    → header_of packet ≡ Some h → h.len + 32 ≡ length packet → h.flags % 2 ≢ 1 → h.command ≡ 8
    → IsVerdictOf v packet c (notification_hearing c packet (notification_of (payload_of packet))) → IsVerdict v packet c
by_notification packet h v c e same flag command is =
    let response : is_response h ≡ false = ne_eqb (h.flags % 2) 1 flag in
    let notification : (h.command == DEVICE_NOTIFICATION) ≡ true = eq-eqb h.command 8 command in
    verdict_as v packet c (packet_hearing c packet) _ (with_header packet h c e ∙ rw (right_length packet h same, response, notification) refl) is

pub by_nothing : (packet : List ℕ) (h : AmsHeader) (c : Client) → header_of packet ≡ Some h → h.len + 32 ≡ length packet → h.flags % 2 ≢ 1 → h.command ≢ 8
    → IsVerdict verdict.Passes packet c
by_nothing packet h c e same flag command =
    let response : is_response h ≡ false = ne_eqb (h.flags % 2) 1 flag in
    let other : (h.command == DEVICE_NOTIFICATION) ≡ false = ne_eqb h.command 8 command in
    with_header packet h c e ∙ rw (right_length packet h same, response, other) refl

-- the same of what a call answers
pub if_breaks : (packet : List ℕ) (h : AmsHeader) (me peer : AmsAddress) (us : List Unanswered)
    → header_of packet ≡ Some h → h.len + 32 ≢ length packet → (r : Result Verdict NoMemory)
    → IfOk r (λ v. Breaks v packet) → IfOk r (λ v. (c : Client) → HasRequests c me peer us → IsVerdict v packet c)
if_breaks packet h me peer us e other (Ok v) b = λ c requests. wrong_length packet h v e other b c
if_breaks packet h me peer us e other (Err wants) b = tt

pub if_response : (packet : List ℕ) (h : AmsHeader) (me peer : AmsAddress) (us : List Unanswered)
    → header_of packet ≡ Some h → h.len + 32 ≡ length packet → h.flags % 2 ≡ 1 → (r : Result Verdict NoMemory)
    → IfOk r (λ v. (c : Client) → HasRequests c me peer us → IsVerdictOf v packet c (Some (response_hearing c h packet)))
    → IfOk r (λ v. (c : Client) → HasRequests c me peer us → IsVerdict v packet c)
if_response packet h me peer us e same flag (Ok v) b = λ c requests. by_response packet h v c e same flag (b c requests)
if_response packet h me peer us e same flag (Err wants) b = tt

pub if_notification : (packet : List ℕ) (h : AmsHeader) (payload : List ℕ) (me peer : AmsAddress) (us : List Unanswered) → payload ≡ payload_of packet
    → header_of packet ≡ Some h → h.len + 32 ≡ length packet → h.flags % 2 ≢ 1 → h.command ≡ 8 → (r : Result Verdict NoMemory)
    → IfOk r (λ v. (c : Client) → IsVerdictOf v packet c (notification_hearing c packet (notification_of payload)))
    → IfOk r (λ v. (c : Client) → HasRequests c me peer us → IsVerdict v packet c)
if_notification packet h payload me peer us behind e same flag command (Ok v) b =
    λ c requests. by_notification packet h v c e same flag command
    (subst (λ (p : List ℕ). IsVerdictOf v packet c (notification_hearing c packet (notification_of p))) behind (b c))
if_notification packet h payload me peer us behind e same flag command (Err wants) b = tt
