-- What a request that is read, or refused, says of its payload.
use Rattle.std.proofs.Common.{◌≡◌, ℕ, List, Option, Some, None, Err, refl, sym}
use Rattle.std.specs.Prelude.{◌↔◌, IfOk, option_map, ok_or}
use Rattle.ads_commands.specs.declared.request.Request.{Request}
use Rattle.ads_commands.specs.declared.fault.ReadFault.TheVariants.{BadSize}
use Rattle.spec_formats.specs.Numbers.{AreBytes}
use Rattle.spec_formats.specs.Request.{IsRequestPayload, request_of}
use Rattle.spec_formats.proofs.RequestLemmas.{request_of-of_text, text_of-request_of}
use Rattle.ads_commands.specs.Request.{IsCommand, IsNoRequest, request_meant}

pub text_read : (o : Option Request) (command : ℕ) (p : List ℕ) → AreBytes p → option_map request_meant o ≡ request_of command p
    → IfOk (ok_or o BadSize) (λ r. IsRequestPayload command p (request_meant r))
text_read None command p h e = tt
text_read (Some r) command p h e = text_of-request_of command p (request_meant r) h (sym e)

pub refused_size : (o : Option Request) (command : ℕ) (p : List ℕ) → AreBytes p → IsCommand command
    → option_map request_meant o ≡ request_of command p
    → (ok_or o BadSize ≡ Err BadSize) ↔ (IsCommand command × IsNoRequest command p)
refused_size None command p h is e = (λ same. (is, λ r text. absurd (cc (e, request_of-of_text command p r text))), λ none. refl)
refused_size (Some r) command p h is e =
    (λ same. absurd cc, λ none. absurd (none.1 (request_meant r) (text_of-request_of command p (request_meant r) h (sym e))))
