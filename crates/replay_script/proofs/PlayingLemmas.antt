-- A run over a script's wire is the script's play, and ends with it.
use Rattle.std.proofs.Common.{◌≡◌, ℕ, ◌+◌, ◌<◌, ◌≤◌, List, [], ◌++◌, length, refl, sym, ap, ◌∙◌, subst, arith}
use Rattle.std.specs.Prelude.{Some, None}
use Rattle.ads_outside.specs.declared.moves.Move.{Move}
use Rattle.ads_outside.specs.Opened.{opened_in}
use Rattle.ads_outside.specs.Rose.{raised}
use Rattle.ads_outside.specs.WireState.{WireHistory}
use Rattle.spec_machine.specs.Connection.{Connection, connection_of}
use Rattle.spec_machine.specs.Moves.{EventStep}
use Rattle.spec_machine.specs.Peers.{first_peers}
use Rattle.spec_machine.specs.ScriptLine.{ScriptLine}
use Rattle.ads_served.specs.Standing.{Standing, Noting, standing_after_all}
use Rattle.serve_loop.specs.Leads.{events_in}
use Rattle.serve_loop.specs.ToldLog.{WhereTold, LogsTurns}
use Rattle.serve_loop.specs.TurnTaken.{StandsOver, TakesTurns}
use Rattle.serve_loop.proofs.EndLemmas.{log-after}
use Rattle.replay_script.specs.Answering.{AnsweredBy}
use Rattle.replay_script.specs.Playing.{IsUnused, IsPlay}
use Rattle.replay_script.specs.ScriptWire.{PlayedScript, state_of_played, unplayed, IsPlayed}
use Rattle.replay_script.proofs.PlayedLemmas.{log_is_play}

none_found : {C : Type 0} (n : ℕ) (ks : List (Connection C)) → ks ≡ [] → connection_of n ks ≡ None
unfolding connection_of
none_found n ks e = ap (connection_of n) e

same_some : (a b : List Move) → Some a ≡ Some b → a ≡ b
same_some a b e = cc

-- the script was played to its end
pub play_done : {W C : Type 0} (step : EventStep W C) (noted : Noting W C) (old_serves new_serves : Standing W C → Type 0)
    (lines : List ScriptLine) (old new : PlayedScript) → old ≡ unplayed lines → new.lines ≡ old.lines → new.ends ≡ raised old.ends → IsPlayed new
    → ((x : Standing W C) → StandsOver old_serves (opened_in old.log) x
    → WhereTold (Some old.log) (λ log. LogsTurns step noted new_serves x log (Some new.log)))
    → (x : Standing W C) → old_serves x → IsUnused x → IsPlay step noted new_serves x lines new.log
play_done {W} {C} step noted old_serves new_serves lines old new first kept ended played turns x serves unused =
    let over : StandsOver old_serves (opened_in old.log) x =
    record { stands = serves; numbers = λ n other. none_found n x.running.state.connections unused.none } in
    let told = turns x over in
    let empty : old.log ≡ [] = ap (λ (w : PlayedScript). w.log) first in
    let log : new.log ≡ told.moves = same_some new.log told.moves (told.told ∙ ap (λ l. Some (l ++ told.moves)) empty) in
    let over_now : 0 < new.ends =
    (let none : old.ends ≡ 0 = ap (λ (w : PlayedScript). w.ends) first in let one : raised old.ends ≡ 1 = ap raised none in omega arith) in
    let of_ : new.lines ≡ lines = kept ∙ ap (λ (w : PlayedScript). w.lines) first in
    let A : List ScriptLine → Type 0 = λ ls. AnsweredBy first_peers ls new.log in
    let B : List Move → Type 0 = λ l. AnsweredBy first_peers lines l in
    let S : List Move → Type 0 = λ l. new_serves (standing_after_all step noted x l) in
    record {
      is = log ∙ log_is_play step x.running.state lines told.moves (told.keeps unused.free) (subst B log (subst A of_ (played over_now)));
      stands = subst S (sym log) told.stands;
    }

-- more events than lines are never given
pub never_more : {W C : Type 0} (step : EventStep W C) (noted : Noting W C) (old_serves new_serves : Standing W C → Type 0)
    (lines : List ScriptLine) (old new : PlayedScript) (log : List Move) (limit : ℕ) → old ≡ unplayed lines → new.lines ≡ old.lines → log ≡ new.log
    → events_in log ≤ length new.lines → limit ≡ length lines + 1
    → TakesTurns step noted old_serves new_serves (state_of_played old).history (state_of_played new).history limit → ⊥
never_more step noted old_serves new_serves lines old new log limit first kept is few more turns =
    let empty : old.log ≡ [] = ap (λ (w : PlayedScript). w.log) first in
    let told : Some new.log ≡ Some (old.log ++ turns.moves) =
    ap (λ (h : WireHistory). h.log) turns.logged ∙ log-after turns.moves (state_of_played old).history old.log refl in
    let moves : new.log ≡ turns.moves = same_some new.log turns.moves (told ∙ ap (λ l. Some (l ++ turns.moves)) empty) in
    let count : events_in log ≡ limit = ap events_in (is ∙ moves) ∙ turns.events in
    let of_ : length new.lines ≡ length lines = ap length (kept ∙ ap (λ (w : PlayedScript). w.lines) first) in
    omega arith
