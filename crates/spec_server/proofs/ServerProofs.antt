-- The laws of the closed server, from those over every table and reading.
use Rattle.std.proofs.Common.{◌≡◌, ℕ, List, length, refl, ◌∙◌, ap, inl, inr}
use Rattle.std.specs.Prelude.{Option, Some, None, Result, Ok, Err, nat_lt}
use Rattle.std.proofs.lemmas.Bool.{cases_Bool}
use Rattle.toml.specs.Data.{Members}
use Rattle.spec_plant.specs.Description.{Description}
use Rattle.spec_plant.specs.Accepted.{IsAccepted}
use Rattle.spec_rules.specs.Verdict.{BrokenRule, table_verdict}
use Rattle.spec_rules.specs.TextVerdict.{TextVerdict, Described, Breaks, DESCRIPTION_LIMIT, verdict_of_rules, verdict_of_document, document_of, text_verdict}
use Rattle.spec_rules.specs.TextVerdict as text
use Rattle.spec_rules.proofs.Accepts.{table_verdict-accepted}
use Rattle.spec_formats.specs.Groups.{group_in, group_of}
use Rattle.spec_machine.specs.Device.{DescriptionFault, BreaksRule, NoDocument}
use Rattle.spec_machine.specs.MachineState.{MachineState}
use Rattle.spec_machine.specs.Profile.{strict}
use Rattle.spec_machine.specs.World.{World}
use Rattle.spec_machine.specs.Client.{Client}
use Rattle.spec_machine.specs.Answers.{answered_group}
use Rattle.spec_machine.specs.Writes.{may_write}
use Rattle.spec_machine.specs.Outcomes.{outcome_of_reload}
use Rattle.spec_machine.specs.AdsDevice.{reloading}
use Rattle.spec_machine.proofs.Played.{play_keeps_turns}
use Rattle.spec_laws.proofs.Isolated.{isolated, takes_as_alone, takes_all_as_alone}
use Rattle.spec_laws.proofs.EveryState.{every_state_fits}
use Rattle.spec_laws.proofs.RepliesFit.{replies_fit}
use Rattle.spec_laws.proofs.Profiles.{keeps_profile}
use Rattle.spec_laws.proofs.Refused.{turned_away_changes_nothing, result_changes_nothing, refused_reload_counts, dead_handle_touches_nothing}
use Rattle.spec_server.specs.Server.{read_of_verdict, read_description, server, start_in}
use Rattle.spec_server.specs.ServerLaws.{ReadsDescriptions, IsRefused, TellsReloads, ServerPlaysInTurns}
use Rattle.spec_server.specs.ServerLaws.{ServerIsIsolated, ServerTakesAsAlone, ServerStateFits}
use Rattle.spec_server.specs.ServerLaws.{ServerRepliesFit, ServerRefusesDeadHandles, ServerLeavesAllAtRefusals}
use Rattle.spec_server.specs.ProfileLaws.{ServerKeepsProfile, ServerIsStrict, EachPlaysInTurns, EachIsIsolated}
use Rattle.spec_server.specs.ProfileLaws.{EachTakesAsAlone, EachStateFits, EachRepliesFit}

rules-accepted : (signals : ℕ) (table : Members) (x : Description)
    → read_of_verdict (verdict_of_rules (table_verdict signals table)) ≡ Ok x → IsAccepted x signals
rules-accepted signals table x h = go (table_verdict signals table) refl h
  where
    go : (r : Result Description BrokenRule) → table_verdict signals table ≡ r → read_of_verdict (verdict_of_rules r) ≡ Ok x → IsAccepted x signals
    go (Ok y) e q = let same : y ≡ x = cc in table_verdict-accepted signals table x (e ∙ ap (λ (d : Description). Ok d) same)
    go (Err fault) e q = cc

document-accepted : (signals : ℕ) (o : Option Members) (x : Description) → read_of_verdict (verdict_of_document signals o) ≡ Ok x → IsAccepted x signals
document-accepted signals None x h = cc
document-accepted signals (Some table) x h = rules-accepted signals table x h

pub reads_descriptions : ReadsDescriptions
unfolding text_verdict
reads_descriptions bytes signals x h =
    elim (cases_Bool (nat_lt DESCRIPTION_LIMIT (length bytes))) [
      | inl t ↦ let g : Err (BreaksRule 1 0) ≡ Ok x = rw t at h in cc
      | inr t ↦ document-accepted signals (document_of bytes) x (rw t at h)
    ]

refused : (s : MachineState World Client) (bytes : List ℕ) (v : TextVerdict) (fault : DescriptionFault)
    → text_verdict (length s.world.signals) bytes ≡ v → read_of_verdict v ≡ Err fault → IsRefused s bytes fault
refused s bytes v fault e r =
    let read : read_description bytes (length s.world.signals) ≡ Err fault = ap read_of_verdict e ∙ r in
    record {
      outcome = ap (λ (q : Result Description DescriptionFault). outcome_of_reload (reloading s.world q)) read;
      state = refused_reload_counts read_description s bytes fault read;
    }

pub tells_reloads : TellsReloads
tells_reloads s bytes = record {
  rule = λ rule item e. refused s bytes (Breaks rule item) (BreaksRule rule item) e refl;
  syntax = λ e. refused s bytes text.NoDocument NoDocument e refl;
}

pub server_keeps_profile : ServerKeepsProfile
server_keeps_profile profile description signals log = keeps_profile read_description profile description signals log

pub server_is_strict : ServerIsStrict
server_is_strict description signals log = server_keeps_profile strict description signals log

pub each_plays_in_turns : EachPlaysInTurns
each_plays_in_turns profile description signals lines =
    play_keeps_turns World Client server (start_in profile description signals) lines

pub server_plays_in_turns : ServerPlaysInTurns
server_plays_in_turns description signals lines = each_plays_in_turns strict description signals lines

pub each_is_isolated : EachIsIsolated
each_is_isolated profile description signals c log apart = isolated read_description profile description signals c log apart

pub server_is_isolated : ServerIsIsolated
server_is_isolated description signals c log apart = each_is_isolated strict description signals c log apart

pub each_takes_as_alone : EachTakesAsAlone
each_takes_as_alone profile description signals c log apart = record {
  begins = λ offers. takes_as_alone read_description profile description signals c log offers apart;
  all = λ turns whole there. takes_all_as_alone read_description profile description signals c log turns whole there apart;
}

pub server_takes_as_alone : ServerTakesAsAlone
server_takes_as_alone description signals c log apart =
    let each = each_takes_as_alone strict description signals c log apart in
    record { begins = each.begins; all = each.all }

pub each_state_fits : EachStateFits
each_state_fits profile description signals accepted log =
    every_state_fits read_description reads_descriptions profile description signals accepted log

pub server_state_fits : ServerStateFits
server_state_fits description signals accepted log = each_state_fits strict description signals accepted log

pub each_replies_fit : EachRepliesFit
each_replies_fit profile description signals accepted log =
    replies_fit read_description reads_descriptions profile description signals accepted log

pub server_replies_fit : ServerRepliesFit
server_replies_fit description signals accepted log = each_replies_fit strict description signals accepted log

pub server_refuses_dead_handles : ServerRefusesDeadHandles
unfolding answered_group group_of group_in
server_refuses_dead_handles d c k handle code dead =
    let refused = dead_handle_touches_nothing d c k handle code dead in
    record {
      read = λ len. refused.0.read len refl;
      write = λ bytes. elim (cases_Bool (may_write k.rights)) [
        | inl may ↦ rw may (refused.0.write bytes refl may)
        | inr may ↦ rw may (refused.0.write_without_right bytes refl may)
      ];
      add = λ len number delay cycle mode known few. refused.0.add len number delay cycle mode refl known few;
      any_add = refused.1.add;
      read_write = refused.1.read_write;
    }

pub server_leaves_all_at_refusals : ServerLeavesAllAtRefusals
server_leaves_all_at_refusals = record {
  turned_away = turned_away_changes_nothing;
  results = result_changes_nothing;
  reloads = refused_reload_counts;
}
