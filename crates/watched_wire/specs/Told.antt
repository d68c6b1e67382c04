-- What an onlooker is told of a wire's answers.
use Rattle.std.specs.Prelude.{◌≡◌, ◌⊎◌, ℕ, List, [], ◌∷◌, length, Bool, true, false}
use Rattle.ads_outside.specs.declared.next.Next.{Next}
use Rattle.ads_outside.specs.declared.next.Next.TheVariants as next
use Rattle.ads_outside.specs.declared.offer.Offer.{Offer}
use Rattle.ads_outside.specs.declared.offer.Offer.TheVariants as offer
use Rattle.ads_outside.specs.declared.shut.Shut.{Shut}
use Rattle.ads_outside.specs.declared.shut.Shut.TheVariants as shut
use Rattle.ads_outside.specs.declared.started.Started.{Started}
use Rattle.ads_outside.specs.declared.started.Started.TheVariants as started
use Rattle.daemon_outside.specs.declared.stop_cause.StopCause.{StopCause}
use Rattle.daemon_outside.specs.Sights.{Sight, Sees}
use Rattle.daemon_outside.specs.Sights as sight

abbrev pub sights_of_start : Started → List ℕ → List ℕ → List ℕ → List Sight
sights_of_start started.Ready listen name first = sight.Listens listen name first ∷ []
sights_of_start started.Failed listen name first = sight.CannotListen listen ∷ []
sights_of_start started.Memory listen name first = sight.LackedMemory ∷ []

abbrev pub sights_of_next : Next → List Sight
sights_of_next (next.Event e) = sight.Saw e ∷ []
sights_of_next next.End = sight.Ended ∷ []
sights_of_next next.Failed = sight.Failed ∷ []
sights_of_next next.Memory = sight.LackedMemory ∷ []

abbrev pub sights_of_offer : Offer → ℕ → List ℕ → List Sight
sights_of_offer (offer.Took n) conn bytes = sight.Offered conn bytes n ∷ []
sights_of_offer offer.Failed conn bytes = sight.Lost conn ∷ []
sights_of_offer offer.Memory conn bytes = sight.LackedMemory ∷ []

-- a run that was taken is one offer
abbrev pub sights_of_run : Bool → ℕ → List ℕ → List Sight
sights_of_run true conn run = sight.Offered conn run (length run) ∷ []
sights_of_run false conn run = []

abbrev pub sights_of_shut : Shut → ℕ → List Sight
sights_of_shut shut.Done conn = sight.Shut conn ∷ []
sights_of_shut shut.Memory conn = sight.LackedMemory ∷ []

-- where a stop is asked for its cause is told, and else nothing
abbrev pub TellsStop : {O : Type 0} → (O → List Sight → Type 0) → Bool → O → O → Type 0
TellsStop seen true old new = (cause : StopCause) × Sees seen (sight.Stops cause ∷ []) old new
TellsStop seen false old new = new ≡ old

-- an answer is told, once; or it ends by a stop, of which the cause is told
abbrev pub TellsNext : {O : Type 0} → (O → List Sight → Type 0) → Next → O → O → Type 0
TellsNext seen answer old new = Sees seen (sights_of_next answer) old new ⊎ ((answer ≡ next.End) × TellsStop seen true old new)
