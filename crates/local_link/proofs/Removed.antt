-- A connection that was shut and forgotten is not found any more, so one of its number may be opened.
use Rattle.std.proofs.Common.{◌≡◌, ℕ, List, [], ◌∷◌, true, refl, sym, ap, ◌∙◌, subst, inl, inr}
use Rattle.std.specs.Prelude.{Option, Some, None}
use Rattle.std.proofs.lemmas.Bool.{cases_Bool, cases_eq}
use Rattle.ads_outside.specs.declared.event.Event.TheVariants as event
use Rattle.ads_outside.specs.declared.moves.Move.TheVariants as move
use Rattle.spec_machine.specs.Connection.{connection_of, put_back}
use Rattle.spec_machine.specs.MachineState.{after_exchange, exchange_of, with_exchange}
use Rattle.spec_machine.specs.MachineState.{without_gone as forgets_gone}
use Rattle.spec_machine.specs.Moves.{state_after_move, with_gone}
use Rattle.spec_machine.proofs.Find.{number_of_found}
use Rattle.spec_local.specs.LinkLog.{without_connection}
use Rattle.ads_served.specs.Opened.{AreApart}
use Rattle.server_core.specs.CoreState.{CoreState, after_event, after_move, OpensNew}
use Rattle.server_core.specs.Served.{ServedState, ServedConnection, served_step}
use Rattle.connections.specs.Present.{present}
use Rattle.connections.proofs.StateLemmas.{present-gone, present-there, connection_of-other, put_back-same, put_back-other}
use Rattle.server_core.specs.Serves.{CoreView, Serves, without_gone}
use Rattle.connections.proofs.ForgottenLemmas.{none_present}
use Rattle.local_link.specs.Link.{unblocked}

forgotten : (n : ℕ) (l k : ServedConnection) (ks : List ServedConnection) → AreApart ks → connection_of n ks ≡ Some k → l.number ≡ n → l.gone ≡ true
    → connection_of n (present (put_back l ks)) ≡ None
unfolding connection_of
forgotten n l k [] apart found number gone = absurd cc
forgotten n l k (j ∷ ks) apart found number gone =
    let P : List ServedConnection → Type 0 = λ js. connection_of n (present js) ≡ None in
    elim (cases_eq j.number n) [
      | inl q ↦ subst P (sym (put_back-same l j ks (q ∙ sym number)))
          (ap (λ (ps : List ServedConnection). connection_of n ps) (present-gone l ks gone)
          ∙ none_present n ks (ap (λ m. connection_of m ks) (sym q) ∙ apart.0))
      | inr q ↦
          let rest = forgotten n l k ks apart.1 (sym (connection_of-other n j ks q) ∙ found) number gone in
          subst P (sym (put_back-other l j ks (λ r. q (r ∙ number)))) (elim (cases_Bool j.gone) [
            | inl u ↦ ap (λ (ps : List ServedConnection). connection_of n ps) (present-gone j (put_back l ks) u) ∙ rest
            | inr u ↦ ap (λ (ps : List ServedConnection). connection_of n ps) (present-there j (put_back l ks) u)
                ∙ connection_of-other n j (present (put_back l ks)) q ∙ rest
          ])
    ]

anew : (shut new : CoreView) (s : ServedState) (o : Option ServedConnection) → connection_of 1 s.connections ≡ o → AreApart s.connections
    → Serves shut (unblocked (after_exchange o with_gone s))
    → ((core : CoreView) (x : CoreState) → Serves core x → Serves core (without_gone x))
    → ((x : CoreState) → Serves shut x → OpensNew x (event.Opened 1) → Serves new (after_event x (event.Opened 1)))
    → Serves new (unblocked (served_step (without_connection o s) (event.Opened 1)))
unfolding state_after_move
anew shut new s None e apart serves forgets opens = opens (unblocked s) serves e
anew shut new s (Some k) e apart serves forgets opens =
    let t = with_exchange (with_gone (exchange_of s k)) s in
    let kept = forgets shut (unblocked t) serves in
    opens (unblocked (forgets_gone t)) kept (forgotten 1 (record k { gone = true }) k s.connections apart e (number_of_found 1 k s.connections e) refl)

-- the core behind a removal and an opening stands for the machine whose connection 1 was opened anew
pub opens_anew : (shut new : CoreView) (s : ServedState) → AreApart s.connections
    → Serves shut (after_move (unblocked s) (move.Shut 1))
    → ((core : CoreView) (x : CoreState) → Serves core x → Serves core (without_gone x))
    → ((x : CoreState) → Serves shut x → OpensNew x (event.Opened 1) → Serves new (after_event x (event.Opened 1)))
    → Serves new (unblocked (served_step (without_connection (connection_of 1 s.connections) s) (event.Opened 1)))
unfolding state_after_move
opens_anew shut new s apart serves forgets opens = anew shut new s (connection_of 1 s.connections) refl apart serves forgets opens
