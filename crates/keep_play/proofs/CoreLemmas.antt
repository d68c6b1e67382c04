-- The play of a script on a core: its saves are those of the server's play, and what is printed of it.
use Rattle.std.proofs.Common.{◌≡◌, ℕ, List, [], ◌++◌, length, refl, sym, ap, ◌∙◌, subst}
use Rattle.std.specs.Prelude.{Option, Result, Ok, Err, IfOk}
use Rattle.ads_base.specs.declared.no_memory.NoMemory.{NoMemory}
use Rattle.signals.specs.Wave.{Wave}
use Rattle.ads_outside.specs.declared.moves.Move.{Move}
use Rattle.ads_outside.specs.declared.reload_note.ReloadNote.{ReloadNote}
use Rattle.spec_plant.specs.Description.{Description}
use Rattle.spec_plant.specs.Accepted.{IsAccepted}
use Rattle.spec_machine.specs.LogText.{log_text_of}
use Rattle.spec_machine.specs.MachineState.{MachineState}
use Rattle.spec_machine.specs.Moves.{state_after}
use Rattle.spec_machine.specs.RunText.{notes_of_event, notes_of, text_of_log}
use Rattle.spec_machine.specs.ScriptLine.{ScriptLine}
use Rattle.spec_machine.specs.Summary.{summary_of}
use Rattle.spec_machine.specs.SummaryText.{summary_text_of}
use Rattle.spec_persistent.specs.Stored.{description_with_stored}
use Rattle.spec_persistent.specs.Otherwise.{MayBegin}
use Rattle.spec_persistent.proofs.StoredLemmas.{stored_may_begin}
use Rattle.spec_server.specs.Server.{server_start, server_text}
use Rattle.spec_store.specs.Slots as slots
use Rattle.ads_served.specs.Standing.{Standing, standing_after_all}
use Rattle.replay_script.specs.Playing.{IsUnused}
use Rattle.replay_script.proofs.StandingPlayed.{state_played, notes_played}
use Rattle.server_core.specs.CoreState.{started}
use Rattle.server_core.specs.Served.{World, Client, served, served_step}
use Rattle.server_core.specs.Serves.{CoreView, Serves, HasCounts, StandsAt}
use Rattle.persist_store.specs.Marks.{Mark}
use Rattle.keep_loop.specs.Keeping.{FileStandsFor}
use Rattle.keep_loop.specs.Marking.{MarksMore}
use Rattle.keep_loop.specs.Saving.{LeavesEach}
use Rattle.stored_values.specs.StoredBodies.{entries_stored}
use Rattle.keep_play.specs.declared.played.Played.{Played}
use Rattle.keep_play.specs.declared.kept_play.KeptPlay.{KeptPlay}
use Rattle.keep_play.specs.Begun.{begun}
use Rattle.keep_play.specs.KeptDisk.{DiskUse, disk_used, FileStands}
use Rattle.keep_play.specs.KeptMarks.{MarksScript, MarksOver, MarkedOver, AllMarked}
use Rattle.keep_play.specs.KeptPlay.{AllSaved, EndsSo}
use Rattle.keep_play.specs.KeptSaves.{body_standing, body_of_world, description_kept, saves_over, saves_of_play, saved_line, saved_text, kept_text}
use Rattle.keep_play.specs.KeptScript.{saves_of_script, ServesUnused, StandsAfter, IsWholePlay, EndsPlay}

pub unused_begun : (d : Description) (waves : List Wave) → IsUnused (begun d waves)
unused_begun d waves = record { none = refl; free = refl }

pub stands_begun : (core : CoreView) (d : Description) (waves : List Wave) → Serves core (started d waves) → HasCounts core (started d waves)
    → core.server.notes ≡ [] → StandsAt core (begun d waves)
stands_begun core d waves serves counted notes = record { serves = serves; counted = counted; notes = notes }

pub serves_begun : (core : CoreView) (d : Description) (waves : List Wave) → Serves core (started d waves) → HasCounts core (started d waves)
    → core.server.notes ≡ [] → ServesUnused (StandsAt core)
serves_begun core d waves serves counted notes = record {
  standing = begun d waves;
  stands = stands_begun core d waves serves counted notes;
  unused = unused_begun d waves;
}

-- the saves on the core are those of the server's play
pub saves_are : (d : Description) (waves : List Wave) (lines : List ScriptLine) (stood : Option (List ℕ))
    → saves_of_script body_of_world served_step (begun d waves).running.state lines stood ≡ saves_over d waves lines stood
unfolding saves_of_script saves_over served
saves_are d waves lines stood = refl

pub core_left : {D : Type 0} (contents : D → Option (List ℕ)) (moment : D → ℕ) (left_since : D → ℕ → List ℕ → Type 0) (old new : D)
    (standing : Option slots.Standing) (d : Description) (waves : List Wave) (lines : List ScriptLine) (stood : Option (List ℕ))
    → LeavesEach contents moment left_since old new standing (saves_of_script body_of_world served_step (begun d waves).running.state lines stood)
    → LeavesEach contents moment left_since old new standing (saves_over d waves lines stood)
core_left contents moment left_since old new standing d waves lines stood left =
    let P : List (List ℕ) → Type 0 = λ saves. LeavesEach contents moment left_since old new standing saves in
    subst P (saves_are d waves lines stood) left

pub core_ends : (end : Played) (new : CoreView) (d : Description) (waves : List Wave) (lines : List ScriptLine) (standing : Option slots.Standing)
    (stood : Option (List ℕ)) (Stands : List (List ℕ) → Type 0) (Marked : Type 0)
    → EndsPlay end served_step (notes_of_event served) (StandsAt new) (begun d waves) lines standing
    (saves_of_script body_of_world served_step (begun d waves).running.state lines stood) Stands Marked
    → EndsPlay end served_step (notes_of_event served) (StandsAt new) (begun d waves) lines standing (saves_over d waves lines stood) Stands Marked
core_ends end new d waves lines standing stood Stands Marked ends =
    let P : List (List ℕ) → Type 0 =
    λ saves. EndsPlay end served_step (notes_of_event served) (StandsAt new) (begun d waves) lines standing saves Stands Marked in
    subst P (saves_are d waves lines stood) ends

-- the marks of the core's play are those of the server's
marks_are : (d : Description) (waves : List Wave) (lines : List ScriptLine) (told : Option (List ℕ)) (standing : Option slots.Standing) (marks : List Mark)
    → MarksScript body_of_world served_step (begun d waves).running.state lines told standing marks → MarksOver d waves lines told standing marks
unfolding served
marks_are d waves lines told standing marks are = are

pub core_marked : (Marked Now : List Mark → Type 0) (d : Description) (waves : List Wave) (lines : List ScriptLine) (told : Option (List ℕ))
    (standing : Option slots.Standing)
    → ((marks : List Mark) → Marked marks
    → MarksMore Now marks (MarksScript body_of_world served_step (begun d waves).running.state lines told standing))
    → (marks : List Mark) → Marked marks → MarksMore Now marks (MarksOver d waves lines told standing)
core_marked Marked Now d waves lines told standing marked marks here =
    let m = marked marks here in
    record { more = m.more; told = m.told; are = marks_are d waves lines told standing m.more m.are }

-- what the core's log, its counts and the number of saves come to
pub text_saved : (core : CoreView) (d : Description) (waves : List Wave) (lines : List ScriptLine) (log : List Move) (count : ℕ) (text : List ℕ)
    (standing : Option slots.Standing) (saves : List (List ℕ)) (Stands : List (List ℕ) → Type 0) (Marked : Type 0)
    → IsWholePlay served_step (notes_of_event served) (StandsAt core) (begun d waves) lines log count standing saves Stands Marked
    → ((x : Standing World Client) → StandsAt core x → text ≡ (log_text_of x.notes log ++ summary_text_of (summary_of x.running.state)) ++ saved_line count)
    → text ≡ saved_text d waves lines (length saves)
unfolding served
text_saved core d waves lines log count text standing saves Stands Marked whole told =
    let x = begun d waves in
    let y = standing_after_all served_step (notes_of_event served) x log in
    let notes : y.notes ≡ notes_of served (server_start d waves) log = notes_played served x log in
    let state : y.running.state ≡ state_after served_step (server_start d waves) log = state_played served_step (notes_of_event served) x log in
    told y whole.play.stands
    ∙ (ap (λ (ns : List ReloadNote). (log_text_of ns log ++ summary_text_of (summary_of y.running.state)) ++ saved_line count) notes
    ∙ (ap (λ (s : MachineState World Client). (log_text_of (notes_of served (server_start d waves) log) log ++ summary_text_of (summary_of s)) ++ saved_line
    count) state
    ∙ (ap (λ (l : List Move). text_of_log served (server_start d waves) l ++ saved_line count) whole.play.is
    ∙ ap (λ n. server_text d waves lines ++ saved_line n) whole.counted)))

file_stands : {D : Type 0} (contents : D → Option (List ℕ)) (may_leave : D → List ℕ → Type 0) (moment : D → ℕ) (left_since : D → ℕ → List ℕ → Type 0)
    (marked : D → List Mark → Type 0) (faults : D → ℕ) (old new : D) (standing : Option slots.Standing)
    → FileStandsFor contents may_leave new standing → FileStands (disk_used contents may_leave moment left_since marked faults old new) standing
file_stands contents may_leave moment left_since marked faults old new standing f = record {
  file = f.now;
  told = f.here.told;
  only = f.here.only;
  stands = f.standing_is;
}

pub all_saved : {D : Type 0} (contents : D → Option (List ℕ)) (may_leave : D → List ℕ → Type 0) (moment : D → ℕ) (left_since : D → ℕ → List ℕ → Type 0)
    (marked : D → List Mark → Type 0) (faults : D → ℕ) (old new : D)
    (core : CoreView) (d : Description) (waves : List Wave) (lines : List ScriptLine) (log : List Move) (count : ℕ) (standing : Option slots.Standing)
    (saves : List (List ℕ)) (Marked : Type 0)
    → IsWholePlay served_step (notes_of_event served) (StandsAt core) (begun d waves) lines log count standing saves
    (StandsAfter contents may_leave old new standing) Marked
    → AllSaved (disk_used contents may_leave moment left_since marked faults old new) standing saves
all_saved contents may_leave moment left_since marked faults old new core d waves lines log count standing saves Marked whole = record {
  within = whole.within;
  stands = λ file told. file_stands contents may_leave moment left_since marked faults old new _ (whole.stands file told);
}

-- the description that the server begins with
pub kept_is : (d stored : Description) (lent : Option (List ℕ)) (standing : Option slots.Standing)
    → stored ≡ description_with_stored (entries_stored lent) d → lent ≡ body_standing standing → stored ≡ description_kept d standing
kept_is d stored lent standing is lent_is = is ∙ ap (λ (b : Option (List ℕ)). description_with_stored (entries_stored b) d) lent_is

pub kept_may_begin : (d stored : Description) (standing : Option slots.Standing) (signals : ℕ) → IsAccepted d signals → stored ≡ description_kept d standing
    → MayBegin stored signals
kept_may_begin d stored standing signals accepted is =
    subst (λ (x : Description). MayBegin x signals) (sym is) (stored_may_begin (entries_stored (body_standing standing)) d signals accepted)

pub left_kept : {D : Type 0} (contents : D → Option (List ℕ)) (moment : D → ℕ) (left_since : D → ℕ → List ℕ → Type 0) (old new : D)
    (d stored : Description) (waves : List Wave) (lines : List ScriptLine) (standing : Option slots.Standing) → stored ≡ description_kept d standing
    → LeavesEach contents moment left_since old new standing (saves_over stored waves lines (body_standing standing))
    → LeavesEach contents moment left_since old new standing (saves_of_play d waves lines standing)
left_kept contents moment left_since old new d stored waves lines standing is left =
    let P : Description → Type 0 = λ x. LeavesEach contents moment left_since old new standing (saves_over x waves lines (body_standing standing)) in
    subst P is left

pub ends_kept : (result : Result KeptPlay NoMemory) (disk : DiskUse) (d stored : Description) (waves : List Wave) (lines : List ScriptLine)
    (standing : Option slots.Standing) → stored ≡ description_kept d standing
    → IfOk result (λ end. EndsSo (saved_text stored waves lines (length (saves_over stored waves lines (body_standing standing))))
    (MarkedOver stored waves lines disk standing) disk end standing
    (saves_over stored waves lines (body_standing standing)))
    → IfOk result (λ end. EndsSo (kept_text d waves lines standing) (AllMarked d waves lines disk standing) disk end standing
    (saves_of_play d waves lines standing))
ends_kept (Ok end) disk d stored waves lines standing is ends =
    let P : Description → Type 0 = λ x. EndsSo (saved_text x waves lines (length (saves_over x waves lines (body_standing standing))))
    (MarkedOver x waves lines disk standing) disk end standing
    (saves_over x waves lines (body_standing standing)) in
    subst P is ends
ends_kept (Err e) disk d stored waves lines standing is ends = ends

-- where it ends at a place, whatever is played there
pub ends_at : (result : Result KeptPlay NoMemory) (core : CoreView) (d : Description) (waves : List Wave) (Ends : KeptPlay → Description → List Wave → Type 0)
    → StandsAt core (begun d waves)
    → IfOk result (λ end. (d : Description) (waves : List Wave) → StandsAt core (begun d waves) → Ends end d waves)
    → IfOk result (λ end. Ends end d waves)
ends_at (Ok end) core d waves Ends stands ends = ends d waves stands
ends_at (Err e) core d waves Ends stands ends = ends
