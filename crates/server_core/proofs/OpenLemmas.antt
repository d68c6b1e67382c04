-- A connection is opened.
use Rattle.std.proofs.Common.{◌≡◌, ℕ, ◌+◌, List, [], ◌∷◌, sym, ap, ◌∙◌}
use Rattle.std.specs.Prelude.{None}
use Rattle.std.proofs.lemmas.List.{map-append}
use Rattle.signals.specs.Wave.{Wave}
use Rattle.ads_outside.specs.declared.event.Event.TheVariants as event
use Rattle.spec_machine.specs.Connection.{connection_of}
use Rattle.spec_machine.specs.Summary.{count_of}
use Rattle.connections.specs.Entries.{IsEntry, IsNoEntry}
use Rattle.connections.specs.Carries.{EachOutlet}
use Rattle.connections.specs.Outlets.{Outlets}
use Rattle.connections.specs.Present.{present}
use Rattle.connections.proofs.EntryLemmas.{no_first, none_behind_first}
use Rattle.connections.proofs.StateLemmas.{connection_of-other, none_of_nil}
use Rattle.server_core.specs.Served.{served, ServedConnection}
use Rattle.server_core.specs.declared.server.Server.{Server}
use Rattle.server_core.specs.declared.turned.Turned.{Turned}
use Rattle.server_core.specs.Columns.{Opens}
use Rattle.server_core.specs.CoreState.{CoreState, after_event}
use Rattle.server_core.specs.ServerView.{ServerView, sessions_of, view_of}
use Rattle.server_core.specs.Serves.{ServesEach, ServesSome, FollowsEach, without_gone}
use Rattle.server_core.proofs.Forgotten.{serves_present}
use Rattle.server_core.proofs.ServeLemmas.{served_at, opened_follows}

-- a number that is there is not new
pub opened_again : (v : ServerView) (waves : List Wave) (x : CoreState) (n i : ℕ)
    → ServesEach v waves x → IsEntry v.outlets n i → connection_of n x.state.connections ≡ None → ⊥
opened_again v waves x n i s place new =
    let at = served_at v waves x n i s place in
    let both = sym new ∙ at.found in cc

pub opens_new : (old new : Server) (n : ℕ) (waves : List Wave) (x : CoreState) → Opens n old.clients new.clients → new.device ≡ old.device
    → new.summary ≡ (let s = old.summary in record s { connections = count_of (s.connections + 1) })
    → ServesEach (view_of old) waves x → connection_of n x.state.connections ≡ None
    → FollowsEach (view_of old) (view_of new) waves x (after_event x (event.Opened n))
unfolding served
opens_new old new n waves x opens device counts s is_new =
    let t = opens.turned in
    opened_follows (view_of old) (view_of new) waves x n opens.stream t.session s is_new opens.nothing opens.fresh.client device counts
    opens.outlets opens.streams
    (ap sessions_of opens.sessions ∙ map-append (λ (u : Turned). u.session) old.clients.sessions.items (t ∷ []))

-- no connection that is there has a number that is not kept
not_present : (n : ℕ) (es : Outlets) (ps : List ServedConnection) → EachOutlet es ps → IsNoEntry es n → connection_of n ps ≡ None
not_present n [] [] each none = none_of_nil n
not_present n [] (p ∷ ps) each none = absurd each
not_present n (e ∷ es) [] each none = absurd each
not_present n (e ∷ es) (p ∷ ps) each none =
    connection_of-other n p ps (λ same. no_first e es n none (each.0.number ∙ same)) ∙ not_present n es ps each.1 (none_behind_first e es n none)

-- there is a state after an opening whose number is not there
pub opened_some : (old new : Server) (n : ℕ) (waves : List Wave)
    → IsNoEntry old.clients.outlets n → Opens n old.clients new.clients → new.device ≡ old.device
    → new.summary ≡ (let s = old.summary in record s { connections = count_of (s.connections + 1) })
    → ServesSome (view_of old) waves → ServesSome (view_of new) waves
opened_some old new n waves none opens device counts s =
    let v = view_of old in
    let x = without_gone s.state in
    let here = serves_present v waves s.state s.serves in
    let is_new = not_present n v.outlets (present s.state.state.connections) s.serves.outlets.each none in
    record {
      state = after_event x (event.Opened n);
      serves = (opens_new old new n waves x opens device counts here is_new).serves;
    }
