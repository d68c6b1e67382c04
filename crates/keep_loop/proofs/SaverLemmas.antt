-- What a saver that stops has done goes on with one body more.
use Rattle.std.proofs.Common.{◌≡◌, ℕ, ◌+◌, ◌-◌, ◌<◌, ◌≤◌, List, [], ◌∷◌, ◌++◌, length, false, refl, sym, ap, ◌∙◌, append-nil, arith}
use Rattle.std.proofs.Math.Nat.{le_trans}
use Rattle.std.specs.Prelude.{Option}
use Rattle.spec_store.specs.Runs as runs
use Rattle.serve_loop.specs.Looks.{Look}
use Rattle.persist_store.specs.Marks.{Mark, MarksOne, MarksStay}
use Rattle.persist_store.specs.Steps.{Passes}
use Rattle.persist_store.specs.Store.{StoreState, IsReady, body_of}
use Rattle.keep_loop.specs.Bodies.{saves_in}
use Rattle.keep_loop.specs.Keeping.{left_behind}
use Rattle.keep_loop.specs.Marking.{HoldsSaves}
use Rattle.keep_loop.specs.Saver.{MayBeShown, SavesShown, KeepsDisk}
use Rattle.keep_loop.specs.Saving.{StaysTold, StaysSame, IsSaved}
use Rattle.keep_loop.specs.Shown.{bodies_shown, looked_at, MarksShownSoFar}
use Rattle.keep_loop.proofs.KeepLemmas.{length_one, same_adds, other_adds}
use Rattle.keep_loop.proofs.MarkLemmas.{holds_saves}
use Rattle.keep_loop.proofs.PaceLemmas.{paced-passed, left-passed, paced-due, left-due}
use Rattle.keep_loop.proofs.QuietLemmas.{told_quiet, left_quiet}
use Rattle.keep_loop.proofs.SaveLemmas.{over_then, standing_then, left_then, left_same, told_then, told_same}
use Rattle.keep_loop.proofs.ShownLemmas.{looked_at-more, pace-more}
use Rattle.keep_loop.proofs.ShownLemmas.{marked_shown_passed, marked_shown_looked}
use Rattle.keep_loop.proofs.TurnLemmas.{saves_more}

-- behind a look one more may be saved
pub saved_shown : {D : Type 0} (contents : D → Option (List ℕ)) (may_leave : D → List ℕ → Type 0) (n every saved then_ : ℕ) (old now : StoreState)
    (old_disk disk : D) → then_ ≤ saved + 1 → MayBeShown contents may_leave (n + 1) every saved old old_disk → IsReady contents may_leave disk now
    → now.shut ≡ false → MayBeShown contents may_leave n every then_ now disk
saved_shown contents may_leave n every saved then_ old now old_disk disk most may ready open_ =
    record { some = may.some; few = (let few = may.few in omega (arith, few, most)); ready = ready; open_ = open_ }

-- a body is due
pub due_more : (every left : ℕ) (looks : List Look) (look : Look) → left ≡ 0 → left ≡ left_behind every (every - 1) (bodies_shown looks)
    → looked_at every (looks ++ look ∷ []) ≡ looked_at every looks ++ look.body ∷ []
due_more every left looks look due pace =
    looked_at-more every left looks look pace ∙ ap (λ l. looked_at every looks ++ l) (paced-due every left look.body due)

-- no file is opened, in one and then in another
pub disk_then : {D : Type 0} (contents : D → Option (List ℕ)) (names : D → Option (List (List ℕ))) (fault_count : D → ℕ) (old mid new : D)
    → KeepsDisk contents names fault_count old mid → KeepsDisk contents names fault_count mid new → KeepsDisk contents names fault_count old new
disk_then contents names fault_count old mid new first second = record {
  untold = λ e. second.untold (first.untold e);
  named = second.named ∙ first.named;
  later = le_trans first.later second.later;
}

module _ {D : Type 0} (contents : D → Option (List ℕ)) (may_leave : D → List ℕ → Type 0) (moment : D → ℕ) (left_since : D → ℕ → List ℕ → Type 0)
    (marked : D → List Mark → Type 0) (names : D → Option (List (List ℕ))) (fault_count : D → ℕ) where
  abbrev Sees : ℕ → ℕ → ℕ → ℕ → StoreState → StoreState → D → D → List (List ℕ) → List Look → Type 0
  Sees every every_now left saved first now start disk saves looks =
      SavesShown contents moment left_since marked names fault_count every every_now left saved first now start disk saves looks

  -- a body that is let pass
  pub sees_passed : (every every_now left saved : ℕ) (first now : StoreState) (start disk : D) (saves : List (List ℕ)) (looks : List Look) (look : Look)
      → 0 < left → Sees every every_now left saved first now start disk saves looks
      → Sees every every_now (left - 1) saved first now start disk saves (looks ++ look ∷ [])
  sees_passed every every_now left saved first now start disk saves looks look pass s =
      let Holds : List (List ℕ) → Option (List ℕ) → Type 0 = HoldsSaves (contents start) first.standing in
      let same : looked_at every (looks ++ look ∷ []) ≡ looked_at every looks =
      looked_at-more every left looks look s.pace
      ∙ (ap (λ l. looked_at every looks ++ l) (paced-passed every left look.body pass) ∙ append-nil (looked_at every looks)) in
      record {
        same = s.same;
        are = s.are ∙ ap (saves_in (body_of first)) (sym same);
        pace = pace-more every left (left - 1) looks look s.pace (left-passed every left look.body pass);
        counted = s.counted;
        within = s.within;
        standing = s.standing;
        open_ = s.open_;
        told = s.told;
        left = s.left;
        marks = λ marks told.
            marked_shown_passed every Holds Holds looks look marks (λ looked file holds. holds) (marked disk) same (s.marks marks told);
        keeps = s.keeps;
      }

  -- the disk is marked behind a look
  marked_look : (every left saved : ℕ) (first now : StoreState) (start mid disk last : D) (saves : List (List ℕ)) (looks : List Look) (look : Look)
      → left ≡ 0 → left ≡ left_behind every (every - 1) (bodies_shown looks)
      → saves ≡ saves_in (body_of first) (looked_at every (looks ++ look ∷ []))
      → StaysTold contents start disk → IsReady contents may_leave disk now → now.shut ≡ false
      → now.standing ≡ runs.standing_after_all first.standing saves
      → MarksStay marked mid disk → MarksOne marked disk last look.wire (contents disk)
      → ((marks : List Mark) → marked start marks → MarksShownSoFar (marked mid) marks every (HoldsSaves (contents start) first.standing) looks)
      → (marks : List Mark) → marked start marks
      → MarksShownSoFar (marked last) marks every (HoldsSaves (contents start) first.standing) (looks ++ look ∷ [])
  marked_look every left saved first now start mid disk last saves looks look due pace are told ready open_ standing stays one so_far marks here =
      let Holds : List (List ℕ) → Option (List ℕ) → Type 0 = HoldsSaves (contents start) first.standing in
      marked_shown_looked every Holds Holds looks look marks (λ looked file holds. holds) (marked mid) (marked last)
      (record { wire = look.wire; file = contents disk })
      (ap length (due_more every left looks look due pace) ∙ length_one (looked_at every looks) look.body) refl
      (holds_saves contents may_leave start disk first now saves (looked_at every (looks ++ look ∷ [])) told ready open_ standing are)
      (λ l marked. one l (stays l marked)) (so_far marks here)

  -- one that stands already
  pub sees_same : ((d : D) (t : ℕ) (c : List ℕ) → t ≤ moment d → may_leave d c → left_since d t c)
      → (IsBody : List ℕ → Type 0) (every every_now left saved : ℕ) (first mid_store now : StoreState) (start mid disk last : D) (saves : List (List ℕ))
      (looks : List Look) (look : Look) → left ≡ 0 → Sees every every_now left saved first mid_store start mid saves looks
      → ((body : List ℕ) → IsBody body → body ≡ look.body) → StaysSame IsBody mid disk mid_store now → IsReady contents may_leave disk now
      → MarksStay marked mid disk → KeepsDisk contents names fault_count mid disk → MarksOne marked disk last look.wire (contents disk)
      → Passes contents may_leave moment left_since disk last → names last ≡ names disk → fault_count disk ≤ fault_count last
      → Sees every every_now (every_now - 1) saved first now start last saves (looks ++ look ∷ [])
  sees_same counts IsBody every every_now left saved first mid_store now start mid disk last saves looks look due s body same ready stays keeps one quiet
      named later =
      let told : StaysTold contents start disk = told_same contents moment left_since start mid disk s.told same.disk in
      let open_ : now.shut ≡ false = ap (λ (t : StoreState). t.shut) same.store ∙ s.open_ in
      let standing : now.standing ≡ runs.standing_after_all first.standing saves = ap (λ (t : StoreState). t.standing) same.store ∙ s.standing in
      let are : saves ≡ saves_in (body_of first) (looked_at every (looks ++ look ∷ [])) =
      sym (append-nil saves) ∙ saves_more (body_of first) saves (looked_at every looks) (look.body ∷ []) [] (looked_at every (looks ++ look ∷ [])) s.are
      (same_adds first mid_store saves same.body look.body s.standing same.stands (body same.body same.is)) (due_more every left looks look due s.pace) in
      record {
        same = s.same;
        are = are;
        pace = pace-more every left (every_now - 1) looks look s.pace (ap (λ n. n - 1) s.same ∙ left-due every left look.body due);
        counted = s.counted;
        within = s.within;
        standing = standing;
        open_ = open_;
        told = told_quiet contents may_leave moment left_since counts start disk last told quiet;
        left = left_quiet contents may_leave moment left_since counts start disk last first.standing saves
            (left_same contents moment left_since start mid disk first.standing saves s.left same.disk) quiet;
        marks = marked_look every left saved first now start mid disk last saves looks look due s.pace are told ready open_ standing stays one s.marks;
        keeps = disk_then contents names fault_count start mid last s.keeps (disk_then contents names fault_count mid disk last keeps (record {
          untold = λ
              e. quiet.same ∙ e;
          named = named;
          later = later;
        }));
      }

  -- one that was saved
  pub sees_saved : ((d : D) (t : ℕ) (c : List ℕ) → t ≤ moment d → may_leave d c → left_since d t c)
      → (IsBody : List ℕ → Type 0) (every every_now left saved : ℕ) (first mid_store now : StoreState) (start mid disk last : D) (saves : List (List ℕ))
      (looks : List Look) (look : Look) → left ≡ 0 → Sees every every_now left saved first mid_store start mid saves looks
      → ((body : List ℕ) → IsBody body → body ≡ look.body) → (made : IsSaved IsBody contents moment left_since mid disk mid_store now)
      → IsReady contents may_leave disk now
      → MarksStay marked mid disk → KeepsDisk contents names fault_count mid disk → MarksOne marked disk last look.wire (contents disk)
      → Passes contents may_leave moment left_since disk last → names last ≡ names disk → fault_count disk ≤ fault_count last
      → Sees every every_now (every_now - 1) (saved + 1) first now start last (saves ++ made.body ∷ []) (looks ++ look ∷ [])
  sees_saved counts IsBody every every_now left saved first mid_store now start mid disk last saves looks look due s body made ready stays keeps one quiet named
      later =
      let all = saves ++ made.body ∷ [] in
      let told : StaysTold contents start disk = told_then contents moment left_since start mid disk s.told made.told in
      let open_ : now.shut ≡ false = ap (λ (t : StoreState). t.shut) made.store in
      let standing : now.standing ≡ runs.standing_after_all first.standing all =
      ap (λ (t : StoreState). t.standing) made.store ∙ standing_then saves made.body first.standing mid_store.standing s.standing in
      let are : all ≡ saves_in (body_of first) (looked_at every (looks ++ look ∷ [])) =
      saves_more (body_of first) saves (looked_at every looks) (look.body ∷ []) (made.body ∷ []) (looked_at every (looks ++ look ∷ [])) s.are
      (other_adds first mid_store saves made.body look.body s.standing made.differs (body made.body made.is)) (due_more every left looks look due s.pace) in
      record {
        same = s.same;
        are = are;
        pace = pace-more every left (every_now - 1) looks look s.pace (ap (λ n. n - 1) s.same ∙ left-due every left look.body due);
        counted = ap (λ n. n + 1) s.counted ∙ sym (length_one saves made.body);
        within = over_then saves made.body first.standing mid_store.standing false s.within s.standing made.within;
        standing = standing;
        open_ = open_;
        told = told_quiet contents may_leave moment left_since counts start disk last told quiet;
        left = left_quiet contents may_leave moment left_since counts start disk last first.standing all
            (left_then contents moment left_since start mid disk first.standing mid_store.standing saves (made.body ∷ []) s.left s.told s.standing made.left)
            quiet;
        marks = marked_look every left saved first now start mid disk last all looks look due s.pace are told ready open_ standing stays one s.marks;
        keeps = disk_then contents names fault_count start mid last s.keeps (disk_then contents names fault_count mid disk last keeps (record {
          untold = λ
              e. quiet.same ∙ e;
          named = named;
          later = later;
        }));
      }
