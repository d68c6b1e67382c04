-- What a plant comes to that was served over a store, seen from before the store was opened.
use Rattle.std.proofs.Common.{◌≡◌, ◌≤◌, ◌<◌, ℕ, List, [], refl, sym, ap, ◌∙◌, subst, inl, inr, arith}
use Rattle.std.specs.Prelude.{◌⊎◌, Option, Some, None}
use Rattle.ads_outside.specs.Rose.{Rose}
use Rattle.ads_outside.specs.SinkState.{SinkState}
use Rattle.ads_outside.specs.WireState.{WireHistory}
use Rattle.signals.specs.Wave.{Wave}
use Rattle.spec_machine.specs.Moves.{state_after}
use Rattle.spec_machine.specs.Profile.{Profile}
use Rattle.spec_server.specs.Server.{server, start_in}
use Rattle.spec_store.specs.Disk.{LeavesOnly}
use Rattle.spec_store.specs.Slots.{Standing, standing_of}
use Rattle.persist_store.proofs.Moments.{weaker, joins, started}
use Rattle.server_core.specs.Served.{served}
use Rattle.persist_store.specs.Marks.{Mark, MarksStay}
use Rattle.keep_loop.specs.Keeping.{FileStandsFor}
use Rattle.keep_loop.specs.declared.kept_on.KeptOn.{KeptOn}
use Rattle.keep_loop.specs.KeepingOn.{Begun, FileHolds, KeepsOn, LooksAt, SavedEach, StoodOnce}
use Rattle.keep_loop.specs.Marking.{HoldsWhole, MarksRun, MarksMore, comes_to_end}
use Rattle.keep_play.specs.KeptDisk.{DiskUse, FileStands, disk_used}
use Rattle.keep_play.specs.KeptSaves.{body_standing, body_of_world, description_kept}
use Rattle.run_tasks.specs.declared.status.Status.{Status}
use Rattle.run_tasks.specs.declared.status.Status.TheVariants as status
use Rattle.run_tasks.specs.Ending.{line_alone}
use Rattle.run_tasks.specs.EndsOr.{EndsOr, WantsMemory}
use Rattle.run_tasks.specs.Prints.{PrintsEnding}
use Rattle.plant_commands.specs.FileOutcomes.{at_start_in}
use Rattle.plant_commands.specs.Serving.{CannotRun, EndsService}
use Rattle.plant_commands.proofs.PromiseLemmas.{holds_accepted}
use Rattle.plant_commands.proofs.ServiceLemmas.{server_promises}
use Rattle.daemon_run.specs.Kept.{EndsKept, HoldsBody, KeepsBodies, RunsKept, SavesEach}
use Rattle.daemon_run.specs.Plant.{Plant, Serving, service_of, serves_plant, serving}
use Rattle.daemon_run.specs.PlantEnds.{EndsBy, EndsPlant}
use Rattle.daemon_run.specs.Running.{EndsOn, RunsOn}

-- what a file stands for, where there is one
standing_in : Option (List ℕ) → Option Standing
standing_in None = None
standing_in (Some file) = standing_of file

standing_told : (o : Option (List ℕ)) (file : List ℕ) → o ≡ Some file → standing_in o ≡ standing_of file
unfolding standing_in standing_of
standing_told o file told = ap standing_in told

rose_later : (a b c : ℕ) → a ≤ b → Rose b c → Rose a c
rose_later a b c le rose = omega (arith, le, rose)

module _ {D : Type 0} (contents : D → Option (List ℕ)) (may_leave : D → List ℕ → Type 0) (moment : D → ℕ) (left_since : D → ℕ → List ℕ → Type 0)
    (marked : D → List Mark → Type 0) (faults : D → ℕ) where
  abbrev pub Used : D → D → DiskUse
  Used old new = disk_used contents may_leave moment left_since marked faults old new

  stands_for : (old new : D) (standing : Option Standing) → FileStandsFor contents may_leave new standing → FileStands (Used old new) standing
  stands_for old new standing f = record { file = f.now; told = f.here.told; only = f.here.only; stands = f.standing_is }

  all_saved : (old mid new : D) (standing : Option Standing) (looked : List (List ℕ)) (begun : List Begun) → contents mid ≡ contents old
      → SavedEach contents may_leave mid new standing (body_standing standing) looked begun → SavesEach (Used old new) standing looked begun
  all_saved old mid new standing looked begun same saved = record {
    are = saved.are;
    all = record {
      within = saved.within;
      stands = λ file told. stands_for old new _ (saved.stands file (same ∙ told));
    };
  }

  holds_body : (old new : D) (body : List ℕ) → FileHolds contents may_leave new body → HoldsBody (Used old new) body
  holds_body old new body f = record { file = f.now; told = f.here.told; only = f.here.only; stands = f.stands }

  bodies_kept : (old mid new : D) (kept : KeptOn) (Looks : List (List ℕ) → Type 0) (last : List ℕ) (standing : Option Standing)
      → contents mid ≡ contents old → faults old ≤ faults mid
      → (k : KeepsOn kept Looks last contents may_leave moment left_since mid new standing)
      → (0 < kept.counts.failed → Rose (faults mid) (faults new))
      → KeepsBodies kept Looks last (Used old new) standing k.begun
  bodies_kept old mid new kept Looks last standing same later k failed = record {
    looked = k.looked;
    are = k.are;
    some = k.some;
    counted = k.counted;
    each = λ whole. all_saved old mid new standing k.looked k.begun same (k.each whole);
    leaves = λ file told. k.leaves file (same ∙ told);
    holds = λ is file told. holds_body old new last (k.holds is file (same ∙ told));
    failed = λ some. rose_later (faults old) (faults mid) (faults new) later (failed some);
    over = k.over;
  }

  left_from : (old mid new : D) (standing : Option Standing) (begun : List Begun) → contents mid ≡ contents old
      → LeavesOnly moment left_since old mid (may_leave old)
      → ((file : List ℕ) → contents mid ≡ Some file → LeavesOnly moment left_since mid new (λ c. StoodOnce standing begun (standing_of c)))
      → (file : List ℕ) → contents old ≡ Some file → (c : List ℕ) → left_since new (moment old) c
      → may_leave old c ⊎ StoodOnce standing begun (standing_of c)
  left_from old mid new standing begun same opened left file told =
      let P : List ℕ → Type 0 = λ c. may_leave old c ⊎ StoodOnce standing begun (standing_of c) in
      (joins moment left_since old mid new P (weaker moment left_since old mid (may_leave old) P (λ c before. inl before) opened)
      (weaker moment left_since mid new (λ c. StoodOnce standing begun (standing_of c)) P (λ c one. inr one) (left file (same ∙ told)))).each

  -- the store was opened, and the plant was served
  runs_kept : (profile : Profile) (waves : List Wave) (store : List ℕ) (every : ℕ) (x : Plant) (standing : Option Standing) (old mid new : D) (s : Status)
      (between out_new : SinkState) (wire wire_new : WireHistory) → contents mid ≡ contents old → faults old ≤ faults mid → MarksStay marked old mid
      → (r : RunsOn every (at_start_in profile (description_kept x.description standing) waves) standing s between out_new
      contents may_leave moment left_since marked faults mid new wire wire_new)
      → RunsKept (serving profile waves (Some store) every) x standing r.keeps.begun s between out_new (Used old new) wire wire_new
  unfolding served
  runs_kept profile waves store every x standing old mid new s between out_new wire wire_new same later stay r =
      let d = description_kept x.description standing in
      let s0 = start_in profile d waves in
      record {
        kept = r.kept;
        moves = r.moves;
        wire = record {
          grown = r.wire.grown;
          logged = r.wire.logged;
          streamed = r.wire.streamed;
          count = r.wire.count;
          most = r.wire.most;
          promises = server_promises r.kept.ended profile d waves r.moves r.wire.turns r.wire.offers;
        };
        over_accepted = holds_accepted profile d waves r.moves;
        bodies = bodies_kept old mid new r.kept (LooksAt r.kept.ended every body_of_world server s0 r.moves)
            (body_of_world (state_after server s0 r.moves).world) standing same later r.keeps r.failed;
        marks = λ marks told.
            let P : Option (List ℕ) → Type 0 = λ file. MarksMore (marked new) marks
            (MarksRun (comes_to_end r.kept.ended) every body_of_world server s0 (HoldsWhole r.kept.counts file standing) wire wire_new) in
            subst P same (r.marks marks (stay marks told));
        prints = r.prints;
      }

  -- the store was opened, and the wire started or not
  pub kept_opened : (profile : Profile) (waves : List Wave) (store : List ℕ) (every : ℕ) (x : Plant) (standing : Option Standing) (old mid new : D) (s : Status)
      (out out_new : SinkState) (wire wire_new : WireHistory) → contents mid ≡ contents old → LeavesOnly moment left_since old mid (may_leave old)
      → faults old ≤ faults mid → MarksStay marked old mid → ((file : List ℕ) → contents old ≡ Some file → standing ≡ standing_of file)
      → EndsOn every x.start (at_start_in profile (description_kept x.description standing) waves) standing s out out_new
      contents may_leave moment left_since marked faults mid new wire wire_new
      → EndsKept (serving profile waves (Some store) every) x s out out_new (Used old new) wire wire_new
  kept_opened profile waves store every x standing old mid new s out out_new wire wire_new same opened later stay stood (inl (still, cannot)) =
      let P : D → Type 0 = λ d. LeavesOnly moment left_since old d (may_leave old) in
      record {
        standing = standing;
        stood = stood;
        begun = [];
        left = λ file told c left. inl ((subst P (sym still) opened).each c left);
        ends = inl (refl, inr cannot);
      }
  kept_opened profile waves store every x standing old mid new s out out_new wire wire_new same opened later stay stood (inr h) = record {
    standing = standing;
    stood = stood;
    begun = h.runs.keeps.begun;
    left = left_from old mid new standing h.runs.keeps.begun same opened h.runs.keeps.left;
    ends = inr (record {
      between = h.between;
      told = h.told;
      runs = runs_kept profile waves store every x standing old mid new s h.between out_new _ wire_new same later stay h.runs;
    });
  }

  -- the store was not opened
  pub kept_unopened : (h : Serving) (x : Plant) (old new : D) (s : Status) (out out_new : SinkState) (wire : WireHistory)
      → LeavesOnly moment left_since old new (may_leave old) → Rose (faults old) (faults new) → PrintsEnding (line_alone status.StoreFault) s out out_new
      → EndsKept h x s out out_new (Used old new) wire wire
  kept_unopened h x old new s out out_new wire opened rose printed = record {
    standing = standing_in (contents old);
    stood = λ file told. standing_told (contents old) file told;
    begun = [];
    left = λ file told c left. inl (opened.each c left);
    ends = inl (refl, inl (refl, rose, printed));
  }

  -- the wire was not started, and of the disk at most the store was opened
  pub kept_unstarted : (h : Serving) (x : Plant) (old new : D) (s : Status) (out out_new : SinkState) (wire wire_new : WireHistory)
      → LeavesOnly moment left_since old new (may_leave old) → CannotRun x.start s out out_new wire wire_new
      → EndsKept h x s out out_new (Used old new) wire wire_new
  kept_unstarted h x old new s out out_new wire wire_new opened cannot = record {
    standing = standing_in (contents old);
    stood = λ file told. standing_told (contents old) file told;
    begun = [];
    left = λ file told c left. inl (opened.each c left);
    ends = inl (refl, inr cannot);
  }

  -- memory was wanting before anything was called
  pub wants_by : (store : Option (List ℕ)) (h : Serving) (x : Plant) (disk : D) (s : Status) (out out_new : SinkState) (wire : WireHistory)
      → ((c : List ℕ) → left_since disk (moment disk) c → may_leave disk c) → WantsMemory s out out_new
      → EndsBy store h x s out out_new (Used disk disk) wire wire
  wants_by None h x disk s out out_new wire only wants = inl (inr (refl, wants.0, wants.1))
  wants_by (Some name) h x disk s out out_new wire only wants =
      kept_unstarted h x disk disk s out out_new wire wire (started moment left_since disk (may_leave disk) only) (inl (inr (refl, wants.0, wants.1)))

  -- the verdict of a plant for which memory was wanting
  pub plant_wanting : (h : Serving) (x : Plant) (Still : Type 0) (disk : D) (s : Status) (out out_new : SinkState) (wire : WireHistory)
      → ((c : List ℕ) → left_since disk (moment disk) c → may_leave disk c) → WantsMemory s out out_new
      → EndsOr (serves_plant h) (λ y. EndsPlant h y s out out_new (Used disk disk) wire wire) Still (serves_plant h x) s out out_new
  plant_wanting h x Still disk s out out_new wire only wants =
      inr (record { made = x; is = refl; comes = wants_by h.store h x disk s out out_new wire only wants })

-- a plant that was served without a store
pub without_store : (profile : Profile) (waves : List Wave) (store : Option (List ℕ)) (every : ℕ) (x : Plant) (s : Status) (out out_new : SinkState)
    (disk : DiskUse) (wire wire_new : WireHistory) → store ≡ None
    → EndsService (service_of (serving profile waves None 1) x) s out out_new wire wire_new
    → EndsPlant (serving profile waves store every) x s out out_new disk wire wire_new
without_store profile waves store every x s out out_new disk wire wire_new none ends =
    let P : Option (List ℕ) → Type 0 = λ o. EndsBy o (serving profile waves o every) x s out out_new disk wire wire_new in
    subst P (sym none) ends

-- and one with a store
pub with_store : (profile : Profile) (waves : List Wave) (store : Option (List ℕ)) (name : List ℕ) (every : ℕ) (x : Plant) (s : Status)
    (out out_new : SinkState) (disk : DiskUse) (wire wire_new : WireHistory) → store ≡ Some name
    → EndsKept (serving profile waves (Some name) every) x s out out_new disk wire wire_new
    → EndsPlant (serving profile waves store every) x s out out_new disk wire wire_new
with_store profile waves store name every x s out out_new disk wire wire_new some ends =
    let P : Option (List ℕ) → Type 0 = λ o. EndsBy o (serving profile waves o every) x s out out_new disk wire wire_new in
    subst P (sym some) ends

-- a plant that was run
pub plant_run : (h : Serving) (x : Plant) (Still : Type 0) (s : Status) (out out_new : SinkState) (disk : DiskUse) (wire wire_new : WireHistory)
    → EndsPlant h x s out out_new disk wire wire_new
    → EndsOr (serves_plant h) (λ y. EndsPlant h y s out out_new disk wire wire_new) Still (serves_plant h x) s out out_new
plant_run h x Still s out out_new disk wire wire_new ends = inr (record { made = x; is = refl; comes = ends })
