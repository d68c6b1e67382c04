-- What is told is promised.
use Rattle.std.proofs.Common.{◌≡◌, ℕ, List, refl, sym, ◌∙◌}
use Rattle.std.specs.Prelude.{Result, Ok, Err, MatchResult, IfOk}
use Rattle.ads_base.specs.declared.no_memory.NoMemory.{NoMemory}
use Rattle.spec_formats.specs.Header.{AmsAddress}
use Rattle.spec_client.specs.Client.{new_client}
use Rattle.spec_client.specs.Heard as spec
use Rattle.spec_client.specs.History.{ClientHistory, client_after, heard_after}
use Rattle.spec_client_laws.proofs.FateLemmas.{answers_are_of_requests, timeouts_are_of_requests}
use Rattle.client_core.specs.Kept.{Kept}
use Rattle.client_core.specs.Heard.{heard_meant}
use Rattle.client_core.specs.Hears.{StandsStill, Hears}
use Rattle.client_core.specs.Promised.{IsPromised}
use Rattle.client_core.specs.Represents.{Represents}
use Rattle.client_core.specs.declared.heard.Heard.{Heard}

told_so : (me peer : AmsAddress) (h : ClientHistory) (x : spec.Heard) → heard_after me peer h ≡ x → IsPromised me peer h x
told_so me peer h (spec.Answered id error command payload) e = answers_are_of_requests me peer h id error command payload e
told_so me peer h (spec.TimedOut id sent now) e = timeouts_are_of_requests me peer h id sent now e
told_so me peer h x e = tt

pub promised : (old new : Kept) (r : Result Heard NoMemory) → MatchResult r (Hears old new) (λ _. StandsStill old new)
    → IfOk r (λ heard. (me peer : AmsAddress) (h : ClientHistory) → Represents me peer old h → IsPromised me peer h (heard_meant heard))
promised old new (Ok heard) hears =
    λ me peer h stands. told_so me peer h (heard_meant heard) (sym (hears (client_after (new_client me peer) h) stands).heard_is)
promised old new (Err e) hears = tt
