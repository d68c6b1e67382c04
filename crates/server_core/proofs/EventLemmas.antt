-- An event that is no tick and no reload is taken.
use Rattle.std.proofs.Common.{◌≡◌, ℕ, List, [], ◌++◌, refl, sym, ap, ◌∙◌}
use Rattle.std.proofs.lemmas.List.{append-nil}
use Rattle.signals.specs.Wave.{Wave}
use Rattle.ads_outside.specs.declared.event.Event.{Event}
use Rattle.ads_outside.specs.declared.event.Event.TheVariants as event
use Rattle.spec_machine.specs.Outcomes.{outcome_of_event}
use Rattle.spec_machine.specs.Outcomes as machine
use Rattle.spec_machine.specs.RunText.{notes_of_event}
use Rattle.server_core.specs.declared.outcome.Outcome.TheVariants.{Done}
use Rattle.server_core.specs.Served.{served}
use Rattle.server_core.specs.CoreState.{CoreState, OpensNew, after_event}
use Rattle.server_core.specs.Outcomes.{TakesEvent}
use Rattle.server_core.specs.ServerView.{ServerView}
use Rattle.server_core.specs.Serves.{ServesEach, ServesSome, FollowsEach}

-- nothing is told of it and noted
pub record IsPlain (e : Event) : Type 0 where
  pub told : (x : CoreState) → machine.Done ≡ outcome_of_event served x.state e
  pub noted : (x : CoreState) → notes_of_event served x.state e ≡ []

pub takes_plain : (old new : ServerView) (waves ws : List Wave) (e : Event) → IsPlain e
    → ((x : CoreState) → ServesEach old waves x → OpensNew x e → FollowsEach old new ws x (after_event x e)) → new.notes ≡ old.notes → ServesSome new ws
    → TakesEvent old new waves ws e Done
takes_plain old new waves ws e plain follows notes some = record {
  follows = follows;
  told = λ x s. plain.told x;
  noted = λ x s. notes ∙ sym (append-nil old.notes) ∙ ap (λ ns. old.notes ++ ns) (sym (plain.noted x));
  some = some;
}

pub piece_plain : (n : ℕ) (bytes : List ℕ) → IsPlain (event.Piece n bytes)
piece_plain n bytes = record { told = λ x. refl; noted = λ x. refl }

pub closed_plain : (n : ℕ) → IsPlain (event.Closed n)
closed_plain n = record { told = λ x. refl; noted = λ x. refl }

pub tick_plain : (moment : ℕ) → IsPlain (event.Tick moment)
tick_plain moment = record { told = λ x. refl; noted = λ x. refl }

pub writable_plain : (n : ℕ) → IsPlain (event.Writable n)
writable_plain n = record { told = λ x. refl; noted = λ x. refl }

-- there is a state after an event that each state follows
pub event_some : (old new : ServerView) (waves ws : List Wave) (e : Event) (s : ServesSome old waves)
    → ((x : CoreState) → ServesEach old waves x → FollowsEach old new ws x (after_event x e)) → ServesSome new ws
event_some old new waves ws e s follows = record { state = after_event s.state e; serves = (follows s.state s.serves).serves }
