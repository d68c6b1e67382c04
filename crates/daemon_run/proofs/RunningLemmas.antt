-- What a core leaves that was served over an open store.
use Rattle.std.proofs.Common.{◌≡◌, ◌<◌, ℕ, List, ◌++◌, inr, subst, sym}
use Rattle.std.specs.Prelude.{Option, Some, None}
use Rattle.ads_outside.specs.declared.end.End.{End}
use Rattle.ads_outside.specs.declared.end.End.TheVariants as end
use Rattle.ads_outside.specs.declared.listening.Listening.{Listening}
use Rattle.ads_outside.specs.Rose.{Rose}
use Rattle.ads_outside.specs.SinkState.{SinkState}
use Rattle.ads_outside.specs.WireState.{WireState, WireHistory}
use Rattle.ads_served.specs.Standing.{Standing, Noting}
use Rattle.signals.specs.Wave.{Wave}
use Rattle.spec_plant.specs.Description.{Description}
use Rattle.spec_machine.specs.Profile.{Profile}
use Rattle.spec_machine.specs.MachineState.{MachineState}
use Rattle.spec_store.specs.Slots as slots
use Rattle.serve_loop.specs.TurnTaken.{StandsOver, AfterServe}
use Rattle.server_core.specs.Served.{World, Client, served_step}
use Rattle.keep_loop.specs.declared.kept_on.KeptOn.{KeptOn}
use Rattle.keep_loop.specs.declared.save_counts.SaveCounts.{SaveCounts}
use Rattle.keep_loop.specs.declared.save_end.SaveEnd.{SaveEnd}
use Rattle.persist_store.specs.Marks.{Mark}
use Rattle.keep_loop.specs.KeepingOn.{ServesAndKeeps}
use Rattle.keep_loop.specs.Marking.{HoldsWhole, MarksRun, MarksMore, comes_to_end}
use Rattle.keep_play.specs.KeptSaves.{body_of_world, description_kept, saved_line}
use Rattle.run_tasks.specs.declared.status.Status.{Status}
use Rattle.run_tasks.specs.declared.status.Status.TheVariants as status
use Rattle.run_tasks.specs.Service.{server_counts}
use Rattle.plant_commands.specs.FileOutcomes.{at_start_in}
use Rattle.plant_commands.specs.Machine.{RunsMachine, StandsAnew}
use Rattle.plant_commands.specs.Serving.{IsStarted}
use Rattle.plant_commands.proofs.MachineLemmas.{counted_after, moves_made, runs_machine}
use Rattle.daemon_run.specs.Endless.{endless_kept}
use Rattle.daemon_run.specs.Kept.{status_by, status_kept}
use Rattle.daemon_run.specs.Printed.{PrintsSo}
use Rattle.daemon_run.specs.Running.{EndsOn, RunsOn, StandsForSomeAnew}

-- what a core without a store comes to, and what was printed of it
pub served_so : (noted : Noting World Client) (serves serves_new : Standing World Client → Type 0) (x : Standing World Client) (r : End) (limit : ℕ)
    (s : Status) (out out_new : SinkState) (old new : WireState) → AfterServe r served_step noted serves serves_new old new limit
    → PrintsSo r status.Done None serves_new s out out_new → StandsAnew serves x
    → RunsMachine served_step server_counts x limit s out out_new old.history new.history
served_so noted serves serves_new x end.Done limit s out out_new old new after prints stands =
    runs_machine served_step noted serves serves_new server_counts x end.Done limit s out out_new old new after prints stands
served_so noted serves serves_new x end.Budget limit s out out_new old new after prints stands =
    runs_machine served_step noted serves serves_new server_counts x end.Budget limit s out out_new old new after prints stands
served_so noted serves serves_new x end.LinkFault limit s out out_new old new after prints stands =
    runs_machine served_step noted serves serves_new server_counts x end.LinkFault limit s out out_new old new after prints stands
served_so noted serves serves_new x end.Memory limit s out out_new old new after prints stands =
    runs_machine served_step noted serves serves_new server_counts x end.Memory limit s out out_new old new after prints stands

-- the counts, and how many saves were done
abbrev pub saved_counts : ℕ → MachineState World Client → List ℕ
saved_counts saved state = server_counts state ++ saved_line saved

module _ {D : Type 0} (noted : Noting World Client) (serves serves_new : Standing World Client → Type 0) (every : ℕ)
    (contents : D → Option (List ℕ)) (may_leave : D → List ℕ → Type 0) (moment : D → ℕ) (left_since : D → ℕ → List ℕ → Type 0)
    (marked : D → List Mark → Type 0) (faults : D → ℕ)
    (old_disk new_disk : D) (standing : Option slots.Standing) (old new : WireState) (s : Status) (out out_new : SinkState) where
  abbrev pub Keeps : KeptOn → Type 0
  Keeps kept = ServesAndKeeps kept every body_of_world served_step noted serves serves_new contents may_leave moment left_since old_disk new_disk
      standing old new endless_kept

  abbrev pub Runs : Standing World Client → Type 0
  Runs x = RunsOn every x standing s out out_new contents may_leave moment left_since marked faults old_disk new_disk old.history new.history

  -- the marks of its looks
  abbrev pub Marks : KeptOn → Type 0
  Marks kept = (x : Standing World Client) → StandsOver serves old.history.opened x → (marks : List Mark) → marked old_disk marks
      → MarksMore (marked new_disk) marks (MarksRun (comes_to_end kept.ended) every body_of_world served_step x.running.state
      (HoldsWhole kept.counts (contents old_disk) standing) old.history new.history)

  ended_so : (x : Standing World Client) (r : End) (last : Option SaveEnd) (counts : SaveCounts)
      → Keeps (record { ended = r; last = last; counts = counts }) → Marks (record { ended = r; last = last; counts = counts })
      → (0 < counts.failed → Rose (faults old_disk) (faults new_disk))
      → PrintsSo r (status_by last counts) (Some counts.saved) serves_new s out out_new → StandsAnew serves x → Runs x
  ended_so x end.Done last counts h marks failed prints stands =
      let over = stands old.history.opened in
      record {
        kept = record { ended = end.Done; last = last; counts = counts };
        moves = h.serve.turns.moves;
        wire = moves_made served_step noted serves serves_new x end.Done endless_kept old new h.serve stands;
        keeps = h.keeps x over;
        failed = failed;
        marks = marks x over;
        prints = counted_after served_step noted serves_new (saved_counts counts.saved) x h.serve.turns.moves (status_by last counts) s out out_new
            (h.serve.turns.stands x over).stands prints;
      }
  ended_so x end.Budget last counts h marks failed prints stands =
      let over = stands old.history.opened in
      record {
        kept = record { ended = end.Budget; last = last; counts = counts };
        moves = h.serve.moves;
        wire = moves_made served_step noted serves serves_new x end.Budget endless_kept old new h.serve stands;
        keeps = h.keeps x over;
        failed = failed;
        marks = marks x over;
        prints = counted_after served_step noted serves_new (saved_counts counts.saved) x h.serve.moves status.Budget s out out_new
            (h.serve.stands x over).stands prints;
      }
  ended_so x end.LinkFault last counts h marks failed prints stands =
      let over = stands old.history.opened in
      record {
        kept = record { ended = end.LinkFault; last = last; counts = counts };
        moves = h.serve.turns.moves;
        wire = moves_made served_step noted serves serves_new x end.LinkFault endless_kept old new h.serve stands;
        keeps = h.keeps x over;
        failed = failed;
        marks = marks x over;
        prints = prints;
      }
  ended_so x end.Memory last counts h marks failed prints stands =
      let over = stands old.history.opened in
      record {
        kept = record { ended = end.Memory; last = last; counts = counts };
        moves = h.serve.breaks.moves;
        wire = moves_made served_step noted serves serves_new x end.Memory endless_kept old new h.serve stands;
        keeps = h.keeps x over;
        failed = failed;
        marks = marks x over;
        prints = prints;
      }

  pub runs_on : (x : Standing World Client) (kept : KeptOn) → Keeps kept → Marks kept → (0 < kept.counts.failed → Rose (faults old_disk) (faults new_disk))
      → PrintsSo kept.ended (status_kept kept) (Some kept.counts.saved) serves_new s out out_new → StandsAnew serves x → Runs x
  runs_on x kept h marks failed prints stands = ended_so x kept.ended kept.last kept.counts h marks failed prints stands

-- the wire was started, and then that ran
pub ran_so : {D : Type 0} (every : ℕ) (a : Listening) (x : Standing World Client) (standing : Option slots.Standing) (s : Status)
    (out between out_new : SinkState) (contents : D → Option (List ℕ)) (may_leave : D → List ℕ → Type 0) (moment : D → ℕ)
    (left_since : D → ℕ → List ℕ → Type 0) (marked : D → List Mark → Type 0) (faults : D → ℕ) (old_disk new_disk : D) (old started new : WireHistory)
    → IsStarted a out between old started
    → RunsOn every x standing s between out_new contents may_leave moment left_since marked faults old_disk new_disk started new
    → EndsOn every a x standing s out out_new contents may_leave moment left_since marked faults old_disk new_disk old new
ran_so every a x standing s out between out_new contents may_leave moment left_since marked faults old_disk new_disk old started new is runs =
    let P : WireHistory → Type 0 = λ h. RunsOn every x standing s between out_new contents may_leave moment left_since marked faults old_disk new_disk h new in
    inr (record { between = between; told = is.told; runs = subst P is.ready runs })

-- it stands for x, whatever numbers a wire has opened
pub some_anew : (serves : Standing World Client → Type 0) (x : Standing World Client) → StandsAnew serves x → StandsForSomeAnew serves
some_anew serves x stands = λ opened. record { standing = x; stands = stands opened }

-- the same description, and the same words
pub ends_on_as : {D : Type 0} (every : ℕ) (a : Listening) (profile : Profile) (waves : List Wave) (d stored : Description) (standing : Option slots.Standing)
    (listen name bytes : List ℕ) (s : Status) (out out_new : SinkState) (contents : D → Option (List ℕ)) (may_leave : D → List ℕ → Type 0)
    (moment : D → ℕ) (left_since : D → ℕ → List ℕ → Type 0) (marked : D → List Mark → Type 0) (faults : D → ℕ) (old_disk new_disk : D) (old new : WireHistory)
    → ◌≡◌ {A = Listening} (record { listen = listen; name = name; first = bytes }) a → stored ≡ description_kept d standing
    → EndsOn every a (at_start_in profile stored waves) standing s out out_new contents may_leave moment left_since marked faults old_disk new_disk old new
    → EndsOn every (record { listen = listen; name = name; first = bytes }) (at_start_in profile (description_kept d standing) waves) standing
    s out out_new contents may_leave moment left_since marked faults old_disk new_disk old new
ends_on_as every a profile waves d stored standing listen name bytes s out out_new contents may_leave moment left_since marked faults old_disk new_disk old new
    is kept h =
    let P : Listening → Type 0 = λ l.
    EndsOn every l (at_start_in profile stored waves) standing s out out_new contents may_leave moment left_since marked faults old_disk new_disk old new in
    let b : Listening = record { listen = listen; name = name; first = bytes } in
    let Q : Description → Type 0 = λ x.
    EndsOn every b (at_start_in profile x waves) standing s out out_new contents may_leave moment left_since marked faults old_disk new_disk old new in
    subst Q kept (subst P (sym is) h)
