-- The promises of a relay's log.
use Rattle.std.proofs.Common.{◌≡◌, ◌≢◌, List, refl}
use Rattle.std.specs.Prelude.{Option, Some, None, Result, Ok, Err, OnOk}
use Rattle.ads_outside.specs.declared.end.End.{End}
use Rattle.ads_outside.specs.declared.end.End.TheVariants as end
use Rattle.ads_outside.specs.declared.moves.Move.{Move}
use Rattle.spec_plant.specs.Description.{Description}
use Rattle.serve_loop.specs.ToldLog.{WhereTold, LogsOffers, LogsTurns}
use Rattle.spec_relay.specs.RelayState.{relay_start}
use Rattle.spec_relay.specs.RelayMoves.{relay_after_event}
use Rattle.spec_relay.proofs.PromiseLemmas.{turns_keep_promises, offers_keep_promises}
use Rattle.ams_relay.specs.Relays.{RelayStanding, LogsPromises, nothing_noted, standing_at_start}

by_turns : (ended : End) → (ended ≢ end.Memory) → (d : Description) (serves : RelayStanding → Type 0) (old : Option (List Move)) (new : Option (List Move))
    → WhereTold old (λ log. LogsTurns relay_after_event nothing_noted serves (standing_at_start (relay_start d)) log new)
    → WhereTold old (λ log. LogsPromises ended d log new)
by_turns ended ne d serves None new told = tt
by_turns end.Memory ne d serves (Some log) new told = absurd (ne refl)
by_turns end.Done ne d serves (Some log) new told =
    record { moves = told.moves; told = told.told; promises = turns_keep_promises d told.moves (told.keeps refl) }
by_turns end.Budget ne d serves (Some log) new told =
    record { moves = told.moves; told = told.told; promises = turns_keep_promises d told.moves (told.keeps refl) }
by_turns end.LinkFault ne d serves (Some log) new told =
    record { moves = told.moves; told = told.told; promises = turns_keep_promises d told.moves (told.keeps refl) }

by_offers : (d : Description) (old : Option (List Move)) (new : Option (List Move))
    → WhereTold old (λ log. LogsOffers relay_after_event (relay_start d) log new)
    → WhereTold old (λ log. LogsPromises end.Memory d log new)
by_offers d None new told = tt
by_offers d (Some log) new told = record { moves = told.moves; told = told.told; promises = offers_keep_promises d told.moves told.offers }

pub log_promises : (ended : End) (d : Description) (serves : RelayStanding → Type 0) (old : Option (List Move)) (new : Option (List Move))
    → (ended ≢ end.Memory → WhereTold old (λ log. LogsTurns relay_after_event nothing_noted serves (standing_at_start (relay_start d)) log new))
    → WhereTold old (λ log. LogsOffers relay_after_event (relay_start d) log new) → WhereTold old (λ log. LogsPromises ended d log new)
log_promises end.Done d serves old new turns offers =
    by_turns end.Done (λ e. let no : end.Done ≡ end.Memory = e in cc) d serves old new (turns (λ e. let no : end.Done ≡ end.Memory = e in cc))
log_promises end.Budget d serves old new turns offers =
    by_turns end.Budget (λ e. let no : end.Budget ≡ end.Memory = e in cc) d serves old new (turns (λ e. let no : end.Budget ≡ end.Memory = e in cc))
log_promises end.LinkFault d serves old new turns offers =
    by_turns end.LinkFault (λ e. let no : end.LinkFault ≡ end.Memory = e in cc) d serves old new (turns (λ e. let no : end.LinkFault ≡ end.Memory = e in cc))
log_promises end.Memory d serves old new turns offers = by_offers d old new offers

-- what holds of a value holds where there is one
pub on_ok : {A E : Type 0} {P Q : Type 0} (r : Result A E) → (P → Q) → OnOk r P → OnOk r Q
on_ok (Ok a) f h = f h
on_ok (Err e) f h = h

pub on_both : {A E : Type 0} {P Q S : Type 0} (r : Result A E) → (P → Q → S) → OnOk r P → OnOk r Q → OnOk r S
on_both (Ok a) f p q = f p q
on_both (Err e) f p q = p
