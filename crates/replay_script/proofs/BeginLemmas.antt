-- A log that is answered by a first part of a script, and begins the script's play.
use Rattle.std.proofs.Common.{◌≡◌, ℕ, List, [], ◌∷◌, ◌++◌, refl, sym, ap, ◌∙◌, append_assoc}
use Rattle.std.specs.List.{flat_map}
use Rattle.std.proofs.lemmas.List.Concat.{flat_map-append}
use Rattle.ads_outside.specs.declared.event.Event.{Event}
use Rattle.ads_outside.specs.declared.event.Event.TheVariants as event
use Rattle.ads_outside.specs.declared.moves.Move.{Move}
use Rattle.ads_outside.specs.declared.moves.Move.TheVariants as move
use Rattle.spec_machine.specs.Moves.{EventStep}
use Rattle.spec_machine.specs.Peers.{Peers, first_peers, with_room, with_failing, peers_after_move}
use Rattle.spec_machine.specs.Play.{Scene, scene_after_turn, with_peers, turns_of, turn_of, play_of}
use Rattle.spec_machine.specs.ScriptLine.{ScriptLine, Happens, TakesAtMost, FailsNext}
use Rattle.spec_machine.specs.Turns.{moves_of_turn}
use Rattle.replay_script.specs.declared.rooms.Rooms.{Rooms}
use Rattle.replay_script.specs.Answering.{AnsweredBy, AnsweredSoFar, BeginsItsPlay, IsAnsweredAtEachCut}
use Rattle.replay_script.specs.ScriptWire.{PlaysOn, lines_ahead}
use Rattle.replay_script.proofs.AnswerLemmas.{BeginsTurn, fails_answered}
use Rattle.replay_script.proofs.PlayedLemmas.{log_is_play}

-- whatever answers these moves and others behind them, a first part of it answers these moves
abbrev Cuts : List Move → List Move → Type 0
Cuts log later = (peers : Peers) (lines : List ScriptLine) → AnsweredBy peers lines (log ++ later) → AnsweredSoFar peers lines log

-- a line more was read
read_more : (peers after : Peers) (line : ScriptLine) (lines : List ScriptLine) (log more : List Move) → AnsweredSoFar after lines log
    → ((ls : List ScriptLine) → AnsweredBy after ls log → AnsweredBy peers (line ∷ ls) more) → AnsweredSoFar peers (line ∷ lines) more
read_more peers after line lines log more rest so = record {
  read = line ∷ rest.read;
  left = rest.left;
  whole = ap (λ ls. line ∷ ls) rest.whole;
  answered = so rest.read rest.answered;
}

event_first : (e : Event) (log later : List Move) → Cuts log later → (lines : List ScriptLine) (peers : Peers)
    → AnsweredBy peers lines (move.Event e ∷ (log ++ later)) → AnsweredSoFar peers lines (move.Event e ∷ log)
unfolding AnsweredBy
event_first e log later again [] peers answered = absurd answered
event_first e log later again (Happens d ∷ lines) peers answered =
    let after = peers_after_move peers (move.Event e) in
    read_more peers after (Happens d) lines log (move.Event e ∷ log) (again after lines answered.1) (λ ls so. (answered.0, so))
event_first e log later again (TakesAtMost c n ∷ lines) peers answered =
    let after = peers_after_move (with_room c n peers) (move.Event e) in
    read_more peers after (TakesAtMost c n) lines log (move.Event e ∷ log) (again after lines answered.1) (λ ls so. (answered.0, so))
event_first e log later again (FailsNext c ∷ lines) peers answered =
    read_more peers (with_failing c peers) (FailsNext c) lines (move.Event e ∷ log) (move.Event e ∷ log)
    (event_first e log later again lines (with_failing c peers) answered) (λ ls so. so)

-- an offer or an end first
offer_first : (m : Move) (log : List Move) (peers after : Peers) (lines : List ScriptLine)
    → AnsweredSoFar after lines log → ((ls : List ScriptLine) → AnsweredBy after ls log → AnsweredBy peers ls (m ∷ log))
    → AnsweredSoFar peers lines (m ∷ log)
offer_first m log peers after lines rest so = record { read = rest.read; left = rest.left; whole = rest.whole; answered = so rest.read rest.answered }

pub cut_answered : (log later : List Move) → Cuts log later
unfolding AnsweredBy
cut_answered [] later peers lines answered = record { read = []; left = lines; whole = refl; answered = refl }
cut_answered (move.Event e ∷ log) later peers lines answered = event_first e log later (λ p ls a. cut_answered log later p ls a) lines peers answered
cut_answered (move.Took c offered bytes ∷ log) later peers lines answered =
    let m = move.Took c offered bytes in
    let after = peers_after_move peers m in
    offer_first m log peers after lines (cut_answered log later after lines answered.1) (λ ls so. (answered.0, so))
cut_answered (move.Lost c ∷ log) later peers lines answered =
    let m = move.Lost c in
    let after = peers_after_move peers m in
    offer_first m log peers after lines (cut_answered log later after lines answered.1) (λ ls so. (answered.0, so))
cut_answered (move.Shut c ∷ log) later peers lines answered =
    let m = move.Shut c in
    let after = peers_after_move peers m in
    offer_first m log peers after lines (cut_answered log later after lines answered.1) (λ ls so. (answered.0, so))

-- what was read is a first part still where less is looked at
still_first : (peers : Peers) (lines read left : List ScriptLine) (log : List Move)
    → lines ≡ read ++ left → AnsweredSoFar peers read log → AnsweredSoFar peers lines log
still_first peers lines read left log whole first = record {
  read = first.read;
  left = first.left ++ left;
  whole = whole ∙ (ap (λ ls. ls ++ left) first.whole ∙ append_assoc first.read first.left left);
  answered = first.answered;
}

pub answered_at_each_cut : IsAnsweredAtEachCut
answered_at_each_cut lines log later so_far =
    still_first first_peers lines so_far.read so_far.left log so_far.whole (cut_answered log later first_peers so_far.read so_far.answered)

-- the events of some lines, and nothing else
bare_events : List ScriptLine → List Move
bare_events [] = []
bare_events (Happens e ∷ lines) = move.Event e ∷ bare_events lines
bare_events (TakesAtMost c n ∷ lines) = move.Event (event.Writable c) ∷ bare_events lines
bare_events (FailsNext c ∷ lines) = bare_events lines

bare_begin : (lines : List ScriptLine) → BeginsTurn (bare_events lines)
unfolding bare_events
bare_begin [] = tt
bare_begin (Happens e ∷ lines) = tt
bare_begin (TakesAtMost c n ∷ lines) = tt
bare_begin (FailsNext c ∷ lines) = bare_begin lines

bare_answered : (lines : List ScriptLine) (peers : Peers) → AnsweredBy peers lines (bare_events lines)
unfolding AnsweredBy bare_events
bare_answered [] peers = refl
bare_answered (Happens e ∷ lines) peers = (refl, bare_answered lines (peers_after_move peers (move.Event e)))
bare_answered (TakesAtMost c n ∷ lines) peers = (refl, bare_answered lines (peers_after_move (with_room c n peers) (move.Event (event.Writable c))))
bare_answered (FailsNext c ∷ lines) peers = fails_answered peers c lines (bare_events lines) (bare_begin lines) (bare_answered lines (with_failing c peers))

-- the log of a wire that plays a script
pub plays_so_far : (lines left : List ScriptLine) (log : List Move) (rooms : Rooms) (failing : List ℕ) (settled ends : ℕ)
    → PlaysOn lines left log rooms failing settled ends → AnsweredSoFar first_peers lines log
plays_so_far lines left log rooms failing settled ends plays =
    let rest = lines_ahead plays.ahead left in
    cut_answered log (bare_events rest) first_peers lines (plays.so_far (bare_events rest) (bare_answered rest plays.peers))

-- the turns of a first part of some lines come first
record PlaysFirst {W C : Type 0} (step : EventStep W C) (x : Scene W C) (first left : List ScriptLine) : Type 0 where
  later : Scene W C
  turns : turns_of step x (first ++ left) ≡ turns_of step x first ++ turns_of step later left

turns_first : {W C : Type 0} (step : EventStep W C) (first left : List ScriptLine) (x : Scene W C) → PlaysFirst step x first left
unfolding turns_of
turns_first step [] left x = record { later = x; turns = refl }
turns_first step (Happens e ∷ first) left x =
    let rest = turns_first step first left (scene_after_turn step x e) in
    record { later = rest.later; turns = ap (λ ts. turn_of step x e ∷ ts) rest.turns }
turns_first step (TakesAtMost c n ∷ first) left x =
    let roomy = with_peers (with_room c n x.peers) x in
    let rest = turns_first step first left (scene_after_turn step roomy (event.Writable c)) in
    record { later = rest.later; turns = ap (λ ts. turn_of step roomy (event.Writable c) ∷ ts) rest.turns }
turns_first step (FailsNext c ∷ first) left x =
    let rest = turns_first step first left (with_peers (with_failing c x.peers) x) in
    record { later = rest.later; turns = rest.turns }

pub log_begins_play : {W C : Type 0} → BeginsItsPlay W C
log_begins_play {W} {C} step s lines log keeps so_far =
    let x : Scene W C = record { peers = first_peers; state = s } in
    let first = turns_first step so_far.read so_far.left x in
    let behind = turns_of step first.later so_far.left in (
      flat_map moves_of_turn behind,
      ap (play_of step s) so_far.whole ∙ (ap (flat_map moves_of_turn) first.turns ∙ (flat_map-append moves_of_turn (turns_of step x so_far.read) behind
          ∙ ap (λ ms. ms ++ flat_map moves_of_turn behind) (sym (log_is_play step s so_far.read log keeps so_far.answered)))),
    )
