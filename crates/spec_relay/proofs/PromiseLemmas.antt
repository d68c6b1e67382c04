-- The promises of a log.
use Rattle.std.proofs.Common.{List}
use Rattle.ads_outside.specs.declared.moves.Move.{Move}
use Rattle.spec_plant.specs.Description.{Description}
use Rattle.spec_machine.specs.ScriptLine.{ScriptLine}
use Rattle.spec_machine.proofs.Played.{play_keeps_turns}
use Rattle.spec_machine.proofs.TurnsKept.{takes_output}
use Rattle.spec_relay.specs.RelayState.{RelayWorld, Owned, relay_start}
use Rattle.spec_relay.specs.RelayMoves.{relay_after_event}
use Rattle.spec_relay.specs.RelaySummary.{relay_play}
use Rattle.spec_relay.specs.RelayPromises.{PassesRightly, TurnsKeepPromises, OffersKeepPromises, RelayPlayKeepsPromises}
use Rattle.spec_relay.proofs.GivenLemmas.{gives_passages}
use Rattle.spec_relay.proofs.TakenLemmas.{takes_in_order}
use Rattle.spec_relay.proofs.AnswerLemmas.{answers_each_once}
use Rattle.spec_relay.proofs.MarkLemmas.{passes_by_mark}
use Rattle.spec_relay.proofs.RelayDelivered.{relay_only_adds, relay_delivers, relay_delivers_all}

passes_rightly : (d : Description) (log : List Move) → PassesRightly d log
passes_rightly d log = record {
  given = λ c. gives_passages d c log;
  taken = λ c. takes_in_order d c log;
  once = λ test. answers_each_once d log test;
  marked = passes_by_mark d log;
}

pub turns_keep_promises : TurnsKeepPromises
turns_keep_promises d log turns = record {
  turns = turns;
  passes = passes_rightly d log;
  begins = λ c. relay_delivers d c log turns;
  all = λ c whole cut. relay_delivers_all d c log turns whole cut;
}

pub offers_keep_promises : OffersKeepPromises
offers_keep_promises d log offers = record {
  passes = passes_rightly d log;
  begins = λ c. takes_output RelayWorld Owned relay_after_event _ c log relay_only_adds offers;
}

pub relay_play_keeps_promises : (d : Description) (lines : List ScriptLine) → RelayPlayKeepsPromises d lines
relay_play_keeps_promises d lines =
    turns_keep_promises d (relay_play (relay_start d) lines) (play_keeps_turns RelayWorld Owned relay_after_event (relay_start d) lines)
