-- What a saver that goes on has done goes on with one body more.
use Rattle.std.proofs.Common.{◌≡◌, ℕ, ◌+◌, ◌-◌, ◌<◌, ◌≤◌, List, [], ◌∷◌, ◌++◌, length, false, refl, sym, ap, ◌∙◌, subst, append-nil, arith}
use Rattle.std.proofs.Math.Nat.{le_refl, le_trans}
use Rattle.std.proofs.lemmas.List.{length-append}
use Rattle.std.specs.Prelude.{Option, Some, None}
use Rattle.ads_outside.specs.Rose.{Rose}
use Rattle.serve_loop.specs.Looks.{Look}
use Rattle.persist_store.proofs.NameLemmas.{only_none, only_join}
use Rattle.persist_store.specs.Disk.{OpensOnly}
use Rattle.persist_store.specs.Marks.{Mark, MarksOne, MarksStay}
use Rattle.persist_store.specs.Steps.{Passes}
use Rattle.persist_store.specs.Store.{StoreState, IsReady}
use Rattle.keep_loop.specs.declared.save_counts.SaveCounts.{SaveCounts}
use Rattle.keep_loop.specs.declared.save_end.SaveEnd.{SaveEnd}
use Rattle.keep_loop.specs.declared.save_end.SaveEnd.TheVariants as save
use Rattle.keep_loop.specs.Bodies.{paced}
use Rattle.keep_loop.specs.Keeping.{left_behind}
use Rattle.keep_loop.specs.Looking.{none_counted, counted, AreFew, AfterLook, LookedSoFar}
use Rattle.keep_loop.specs.Marking.{HoldsWhole}
use Rattle.keep_loop.specs.SavingOn.{Saver, saver, MayBeShown, BeginsAnew, SavesShown}
use Rattle.keep_loop.specs.Shown.{bodies_shown, looked_at}
use Rattle.keep_loop.proofs.LookLemmas.{looked_first, looked_more}
use Rattle.keep_loop.proofs.OnLemmas.{none_rose, few_more, failed_rose, rose_so_far}
use Rattle.keep_loop.proofs.OnMarkLemmas.{holds_looked, later_counted}
use Rattle.keep_loop.proofs.PaceLemmas.{left-none, left-passed, left-due, left-append, paced-passed, paced-due, paced-append}
use Rattle.keep_loop.proofs.QuietLemmas.{file_quiet}
use Rattle.keep_loop.proofs.ShownLemmas.{shown-append, marked_shown_none, marked_shown_passed, marked_shown_looked}

-- one body more
looked_at-more : (every left : ℕ) (looks : List Look) (look : Look) → left ≡ left_behind every (every - 1) (bodies_shown looks)
    → looked_at every (looks ++ look ∷ []) ≡ looked_at every looks ++ paced every left (look.body ∷ [])
looked_at-more every left looks look pace =
    ap (paced every (every - 1)) (shown-append looks (look ∷ []))
    ∙ (paced-append every (every - 1) (bodies_shown looks) (look.body ∷ [])
    ∙ ap (λ n. looked_at every looks ++ paced every n (look.body ∷ [])) (sym pace))

pace-more : (every left then_ : ℕ) (looks : List Look) (look : Look) → left ≡ left_behind every (every - 1) (bodies_shown looks)
    → then_ ≡ left_behind every left (look.body ∷ []) → then_ ≡ left_behind every (every - 1) (bodies_shown (looks ++ look ∷ []))
pace-more every left then_ looks look pace next =
    next ∙ (ap (λ n. left_behind every n (look.body ∷ [])) pace
    ∙ (sym (left-append every (every - 1) (bodies_shown looks) (look.body ∷ []))
    ∙ ap (left_behind every (every - 1)) (sym (shown-append looks (look ∷ [])))))

-- behind a look one less may be shown
pub due_more : {D : Type 0} (contents : D → Option (List ℕ)) (may_leave : D → List ℕ → Type 0) (by : SaveEnd) (n : ℕ) (old new : D) (s : Saver)
    (store : StoreState) (counts : SaveCounts) → counts ≡ counted by s.counts → IsReady contents may_leave new store
    → MayBeShown contents may_leave (n + 1) old s
    → MayBeShown contents may_leave n new (saver store s.every (s.every - 1) counts s.name)
due_more contents may_leave by n old new s store counts is ready may = record {
  every = may.every;
  most = may.most + 1;
  few = subst (λ c. AreFew c (may.most + 1)) (sym is) (few_more by s.counts may.most may.few);
  room = (let room = may.room in omega (arith, room));
  ready = ready;
}

module _ {D : Type 0} (contents : D → Option (List ℕ)) (may_leave : D → List ℕ → Type 0) (moment : D → ℕ) (left_since : D → ℕ → List ℕ → Type 0)
    (marked : D → List Mark → Type 0) (names : D → Option (List (List ℕ))) (fault_count : D → ℕ) where
  abbrev Shown : D → D → Saver → Saver → List Look → Type 0
  Shown start disk first now looks = SavesShown contents may_leave moment left_since marked names fault_count start disk first now looks

  abbrev Looked : D → D → StoreState → StoreState → SaveCounts → List (List ℕ) → Type 0
  Looked old_disk new_disk first now counts looked = LookedSoFar contents may_leave moment left_since old_disk new_disk first now counts looked

  -- nothing was shown: over an open store, and nothing is counted
  pub begins_anew : ((d : D) (c : List ℕ) → left_since d (moment d) c → may_leave d c) → (disk : D) (s : Saver)
      → IsReady contents may_leave disk s.store → s.store.shut ≡ false → s.left ≡ s.every - 1 → s.counts ≡ none_counted
      → BeginsAnew contents may_leave moment left_since marked names fault_count disk s
  unfolding paced
  begins_anew only disk s ready open_ left none = record {
    every = refl;
    name = refl;
    pace = left ∙ left-none s.every (s.every - 1);
    looked = subst (λ counts. Looked disk disk s.store s.store counts []) (sym none)
        (looked_first contents may_leave moment left_since disk s.store only ready open_);
    failed = λ more. none_rose (Rose (fault_count disk) (fault_count disk)) s.counts none more;
    untold = λ e. e;
    named = only_none (names disk) (names disk) s.name refl;
    later = le_refl (fault_count disk);
    marks = λ marks told. marked_shown_none s.every (HoldsWhole s.counts (contents disk) s.store.standing) (marked disk) marks told;
  }

  -- a tick that is let pass
  pub on_passed : (start disk : D) (first mid : Saver) (looks : List Look) (look : Look) → 0 < mid.left → Shown start disk first mid looks
      → Shown start disk first (saver mid.store mid.every (mid.left - 1) mid.counts mid.name) (looks ++ look ∷ [])
  on_passed start disk first mid looks look pass shown = λ begins.
      let so_far = shown begins in
      let more = looked_at-more first.every mid.left looks look so_far.pace in
      let before = looked_at first.every looks in
      let same : looked_at first.every (looks ++ look ∷ []) ≡ before =
      more ∙ (ap (λ l. before ++ l) (paced-passed first.every mid.left look.body pass) ∙ append-nil before) in
      let Holds : List (List ℕ) → Option (List ℕ) → Type 0 = HoldsWhole mid.counts (contents start) first.store.standing in
      record {
        every = so_far.every;
        name = so_far.name;
        pace = pace-more first.every mid.left (mid.left - 1) looks look so_far.pace (left-passed first.every mid.left look.body pass);
        looked = subst (λ l. Looked start disk first.store mid.store mid.counts l) (sym same) so_far.looked;
        failed = so_far.failed;
        untold = so_far.untold;
        named = so_far.named;
        later = so_far.later;
        marks = λ marks told. marked_shown_passed first.every Holds Holds looks look marks (λ l file holds. holds) (marked disk) same (so_far.marks marks told);
      }

  -- one whose body is looked at, and marked
  pub on_due : ((d : D) (file : List ℕ) → contents d ≡ Some file → may_leave d file)
      → ((d : D) (t : ℕ) (c : List ℕ) → t ≤ moment d → may_leave d c → left_since d t c)
      → (start old mid disk : D) (first saves : Saver) (store : StoreState) (counts : SaveCounts) (by : SaveEnd) (looks : List Look) (look : Look)
      → saves.left ≡ 0 → counts ≡ counted by saves.counts
      → AfterLook by look.body contents may_leave moment left_since old mid saves.store store → IsReady contents may_leave mid store
      → (contents old ≡ None → contents mid ≡ None) → OpensOnly (names old) (names mid) saves.name → MarksStay marked old mid
      → fault_count old ≤ fault_count mid → (by ≡ save.Failed → Rose (fault_count old) (fault_count mid))
      → MarksOne marked mid disk look.wire (contents mid) → Passes contents may_leave moment left_since mid disk → names disk ≡ names mid
      → fault_count mid ≤ fault_count disk → Shown start old first saves looks
      → Shown start disk first (saver store saves.every (saves.every - 1) counts saves.name) (looks ++ look ∷ [])
  on_due here laws start old mid disk first saves store counts by looks look due is looked ready untold named stay later failed mark quiet names_same
      mark_later shown = λ begins.
      let so_far = shown begins in
      let before = looked_at first.every looks in
      let more : looked_at first.every (looks ++ look ∷ []) ≡ before ++ look.body ∷ [] =
      looked_at-more first.every saves.left looks look so_far.pace ∙ ap (λ l. before ++ l) (paced-due first.every saves.left look.body due) in
      let all : Looked start mid first.store store (counted by saves.counts) (before ++ look.body ∷ []) =
      looked_more contents may_leave moment left_since by start old mid first.store saves.store store saves.counts before look.body here laws
      so_far.looked looked in
      let Old : List (List ℕ) → Option (List ℕ) → Type 0 = HoldsWhole saves.counts (contents start) first.store.standing in
      let Then : List (List ℕ) → Option (List ℕ) → Type 0 = HoldsWhole counts (contents start) first.store.standing in
      let at_mid : Looked start mid first.store store counts (looked_at first.every (looks ++ look ∷ [])) =
      subst (λ l. Looked start mid first.store store counts l) (sym more)
      (subst (λ c. Looked start mid first.store store c (before ++ look.body ∷ [])) (sym is) all) in
      record {
        every = so_far.every;
        name = so_far.name;
        pace = pace-more first.every saves.left (saves.every - 1) looks look so_far.pace
            (ap (λ n. n - 1) so_far.every ∙ left-due first.every saves.left look.body due);
        looked = record {
          begun = at_mid.begun;
          some = at_mid.some;
          saved_is = at_mid.saved_is;
          over = at_mid.over;
          whole = at_mid.whole;
          file = file_quiet contents may_leave moment left_since laws start mid disk first.store.standing at_mid.begun at_mid.file quiet;
        };
        failed = λ again.
            let rose = rose_so_far (fault_count start) (fault_count old) (fault_count mid) saves.counts.failed so_far.later later so_far.failed
            (failed_rose by saves.counts (Rose (fault_count old) (fault_count mid)) failed (subst (λ (c : SaveCounts). 0 < c.failed) is again)) in
            omega (arith, rose, mark_later);
        untold = λ none. quiet.same ∙ untold (so_far.untold none);
        named = subst (λ n. OpensOnly (names start) n first.name) (sym names_same)
            (only_join (names start) (names old) (names mid) first.name so_far.named
            (subst (λ n. OpensOnly (names old) (names mid) n) so_far.name named));
        later = le_trans (le_trans so_far.later later) mark_later;
        marks = λ marks told.
            marked_shown_looked first.every Old Then looks look marks (later_counted (contents start) first.store by saves.counts counts is) (marked old)
            (marked disk) (record { wire = look.wire; file = contents mid })
            (ap length more ∙ length-append before (look.body ∷ [])) refl
            (holds_looked contents may_leave moment left_since start mid first.store store counts (looked_at first.every (looks ++ look ∷ [])) at_mid ready)
            (λ l here. mark l (stay l here)) (so_far.marks marks told);
      }
