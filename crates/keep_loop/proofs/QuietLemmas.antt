-- A call of the disk that changes nothing of its file, behind what was done before it.
use Rattle.std.proofs.Common.{ℕ, ◌≤◌, List, refl, sym, ◌∙◌}
use Rattle.std.specs.Prelude.{Option}
use Rattle.ads_outside.specs.WireState.{WireState}
use Rattle.spec_machine.specs.Moves.{EventStep, state_after}
use Rattle.ads_served.specs.Standing as served
use Rattle.ads_served.specs.Standing.{Noting}
use Rattle.spec_store.specs.Disk.{LeavesOnly}
use Rattle.spec_store.specs.Slots.{Standing, standing_of}
use Rattle.spec_store.specs.Runs.{IsOneOf}
use Rattle.persist_store.proofs.Moments.{started, weaker, joins}
use Rattle.persist_store.specs.Steps.{IsAt, Passes}
use Rattle.persist_store.specs.Store.{StoreState, IsReady}
use Rattle.keep_loop.specs.declared.keep_end.KeepEnd.{KeepEnd}
use Rattle.keep_loop.specs.declared.keep_end.KeepEnd.TheVariants as keep
use Rattle.keep_loop.specs.declared.kept_on.KeptOn.{KeptOn}
use Rattle.keep_loop.specs.Bodies.{BodyOf, saves_in}
use Rattle.keep_loop.specs.Keeping.{AllButLast, AfterKeep, StandsAfterSaves, StandsAtEnd}
use Rattle.keep_loop.specs.KeepingOn.{FileHolds, KeepsOn, LooksAt, ServesAndKeeps, body_standing, moves_served}
use Rattle.keep_loop.specs.Looking.{FileSoFar}
use Rattle.keep_loop.specs.Saving.{LeavesEach, StaysTold}
use Rattle.keep_loop.specs.KeepingOn.{Begun, StoodOnce}

module _ {D : Type 0} (contents : D → Option (List ℕ)) (may_leave : D → List ℕ → Type 0) (moment : D → ℕ) (left_since : D → ℕ → List ℕ → Type 0)
    (counts : (d : D) (t : ℕ) (c : List ℕ) → t ≤ moment d → may_leave d c → left_since d t c) where
  abbrev Quiet : D → D → Type 0
  Quiet mid new = Passes contents may_leave moment left_since mid new

  only_quiet : (old mid new : D) (P : List ℕ → Type 0) → LeavesOnly moment left_since old mid P → Quiet mid new → LeavesOnly moment left_since old new P
  only_quiet old mid new P first quiet =
      joins moment left_since old mid new P first
      (weaker moment left_since mid new (may_leave mid) P (λ c left. first.each c (counts mid (moment old) c first.later left)) quiet.since)

  pub left_quiet : (old mid new : D) (standing : Option Standing) (saves : List (List ℕ)) → LeavesEach contents moment left_since old mid standing saves
      → Quiet mid new → LeavesEach contents moment left_since old new standing saves
  left_quiet old mid new standing saves left quiet = λ file told.
      only_quiet old mid new (λ c. IsOneOf standing saves (standing_of c)) (left file told) quiet

  pub told_quiet : (old mid new : D) → StaysTold contents old mid → Quiet mid new → StaysTold contents old new
  told_quiet old mid new told quiet = λ file here. let now = told file here in (now.0, quiet.same ∙ now.1)

  pub ready_quiet : (mid new : D) (store : StoreState) → IsReady contents may_leave mid store → Quiet mid new → IsReady contents may_leave new store
  ready_quiet mid new store ready quiet = λ file told open_.
      let is = ready file (sym quiet.same ∙ told) open_ in
      (λ c left. is.0 c (quiet.stop c left), is.1)

  at_quiet : (mid new : D) (file : List ℕ) → IsAt contents may_leave mid file → Quiet mid new → IsAt contents may_leave new file
  at_quiet mid new file here quiet = record { told = quiet.same ∙ here.told; only = λ c left. here.only c (quiet.stop c left) }

  after_quiet : (old mid new : D) (standing : Option Standing) (saves : List (List ℕ)) → Quiet mid new
      → StandsAfterSaves contents may_leave old mid standing saves → StandsAfterSaves contents may_leave old new standing saves
  after_quiet old mid new standing saves quiet stands = λ file told.
      let f = stands file told in record { now = f.now; here = at_quiet mid new f.now f.here quiet; standing_is = f.standing_is }

  but_last_quiet : (old mid new : D) (standing : Option Standing) (saves : List (List ℕ)) → Quiet mid new
      → AllButLast contents may_leave old mid standing saves → AllButLast contents may_leave old new standing saves
  but_last_quiet old mid new standing saves quiet a = record {
    before = a.before;
    last = a.last;
    are = a.are;
    one = a.one;
    within = a.within;
    leaves = λ file told c left. a.leaves file told c (quiet.stop c left);
  }

  stands_quiet : (end : KeepEnd) (old mid new : D) (standing : Option Standing) (saves : List (List ℕ)) → Quiet mid new
      → StandsAtEnd end contents may_leave old mid standing saves → StandsAtEnd end contents may_leave old new standing saves
  stands_quiet (keep.Done n) old mid new standing saves quiet stands = after_quiet old mid new standing saves quiet stands
  stands_quiet (keep.LinkFault n) old mid new standing saves quiet stands = after_quiet old mid new standing saves quiet stands
  stands_quiet (keep.Budget n) old mid new standing saves quiet stands = after_quiet old mid new standing saves quiet stands
  stands_quiet keep.StoreFault old mid new standing saves quiet stands = but_last_quiet old mid new standing saves quiet stands
  stands_quiet keep.StoreLimit old mid new standing saves quiet stands = but_last_quiet old mid new standing saves quiet stands
  stands_quiet keep.Memory old mid new standing saves quiet stands = but_last_quiet old mid new standing saves quiet stands

  -- a run with a store
  pub kept_quiet : (end : KeepEnd) (Took Counted : List (List ℕ) → Type 0) (old mid new : D) (standing : Option Standing)
      → AfterKeep Took (LeavesEach contents moment left_since old mid standing) Counted (StandsAtEnd end contents may_leave old mid standing)
      → Quiet mid new
      → AfterKeep Took (LeavesEach contents moment left_since old new standing) Counted (StandsAtEnd end contents may_leave old new standing)
  kept_quiet end Took Counted old mid new standing k quiet = record {
    saves = k.saves;
    took = k.took;
    left = left_quiet old mid new standing k.saves k.left quiet;
    counted = k.counted;
    stands = stands_quiet end old mid new standing k.saves quiet k.stands;
  }

  -- what the saves that were begun left of the file
  pub file_quiet : (old mid new : D) (standing : Option Standing) (begun : List Begun) → FileSoFar contents may_leave moment left_since old mid standing begun
      → Quiet mid new → FileSoFar contents may_leave moment left_since old new standing begun
  file_quiet old mid new standing begun f quiet = record {
    told = told_quiet old mid new f.told quiet;
    left = λ file told. only_quiet old mid new (λ c. StoodOnce standing begun (standing_of c)) (f.left file told) quiet;
    leaves = λ file told c left. f.leaves file told c (quiet.stop c left);
  }

  holds_quiet : (mid new : D) (body : List ℕ) → Quiet mid new → FileHolds contents may_leave mid body → FileHolds contents may_leave new body
  holds_quiet mid new body quiet f = record { now = f.now; here = at_quiet mid new f.now f.here quiet; stands = f.stands }

  -- a run that serves on
  keeps_on_quiet : (r : KeptOn) (Looked : List (List ℕ) → Type 0) (last : List ℕ) (old mid new : D) (standing : Option Standing)
      → KeepsOn r Looked last contents may_leave moment left_since old mid standing → Quiet mid new
      → KeepsOn r Looked last contents may_leave moment left_since old new standing
  keeps_on_quiet r Looked last old mid new standing k quiet = record {
    looked = k.looked;
    are = k.are;
    begun = k.begun;
    some = k.some;
    counted = k.counted;
    over = k.over;
    each = λ whole.
        let s = k.each whole in
        let saves = saves_in (body_standing standing) k.looked in
        record { are = s.are; within = s.within; stands = after_quiet old mid new standing saves quiet s.stands };
    left = λ file told. only_quiet old mid new (λ c. StoodOnce standing k.begun (standing_of c)) (k.left file told) quiet;
    leaves = λ file told c left. k.leaves file told c (quiet.stop c left);
    holds = λ kept file told. holds_quiet mid new last quiet (k.holds kept file told);
  }

  pub serves_quiet : {W C : Type 0} (r : KeptOn) (every : ℕ) (body_of : BodyOf W) (step : EventStep W C) (noted : Noting W C)
      (old_serves new_serves : served.Standing W C → Type 0) (old mid new : D) (standing : Option Standing) (wire wire_new : WireState) (limit : ℕ)
      → ServesAndKeeps r every body_of step noted old_serves new_serves contents may_leave moment left_since old mid standing wire wire_new limit
      → Quiet mid new
      → ServesAndKeeps r every body_of step noted old_serves new_serves contents may_leave moment left_since old new standing wire wire_new limit
  serves_quiet r every body_of step noted old_serves new_serves old mid new standing wire wire_new limit k quiet = record {
    serve = k.serve;
    keeps = λ x over.
        let moves = moves_served r.ended step noted old_serves new_serves wire wire_new limit k.serve in
        keeps_on_quiet r (LooksAt r.ended every body_of step x.running.state moves) (body_of (state_after step x.running.state moves).world)
        old mid new standing (k.keeps x over) quiet;
  }

-- nothing was called
pub quiet_none : {D : Type 0} (contents : D → Option (List ℕ)) (may_leave : D → List ℕ → Type 0) (moment : D → ℕ) (left_since : D → ℕ → List ℕ → Type 0)
    (disk : D) → ((c : List ℕ) → left_since disk (moment disk) c → may_leave disk c) → Passes contents may_leave moment left_since disk disk
quiet_none contents may_leave moment left_since disk only =
    record { same = refl; stop = λ c left. left; since = started moment left_since disk (may_leave disk) only }
