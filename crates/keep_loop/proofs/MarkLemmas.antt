-- Marks behind looks go on with a turn.
use Rattle.std.proofs.Common.{◌≡◌, ℕ, ◌+◌, ◌≤◌, List, [], ◌∷◌, ◌++◌, length, true, false, refl, sym, ap, ◌∙◌, subst, append_assoc, append-nil, inl, inr, arith}
use Rattle.std.specs.Prelude.{Bool, Option}
use Rattle.ads_outside.specs.declared.moves.Move.{Move}
use Rattle.ads_outside.specs.WireState.{WireState, WireHistory, history_after}
use Rattle.spec_machine.specs.MachineState.{MachineState}
use Rattle.spec_machine.specs.Moves.{EventStep}
use Rattle.spec_store.specs.Runs as runs
use Rattle.serve_loop.specs.Leads.{events_in}
use Rattle.persist_store.specs.Marks.{Mark}
use Rattle.persist_store.specs.Store.{StoreState, body_of, IsReady}
use Rattle.keep_loop.specs.Bodies.{BodyOf, bodies_looked_at, bodies_to_end, saves_in}
use Rattle.keep_loop.specs.Keeping.{EndsAfter}
use Rattle.keep_loop.specs.Marking.{HoldsSaves, MarksLook, AreMarks, IsBehind, IsUpToEnd, MarksRun, MarksMore, MarksSoFar, MarksBeforeEnd, MarksAtEnd}
use Rattle.keep_loop.specs.Saving.{StaysTold}

pub marks_more : (Is : ℕ → Mark → Type 0) (count : ℕ) (looks : List Mark) (mark : Mark) → AreMarks Is count looks → Is (count + length looks) mark
    → AreMarks Is count (looks ++ mark ∷ [])
marks_more Is count [] mark are is =
    let none : count + length {A = Mark} [] ≡ count = omega arith in
    (subst (λ n. Is n mark) none is, tt)
marks_more Is count (look ∷ looks) mark are is =
    let next : count + length (look ∷ looks) ≡ count + 1 + length looks = omega arith in
    (are.0, marks_more Is (count + 1) looks mark are.1 (subst (λ n. Is n mark) next is))

-- what holds of a file and of bodies, in other words
abbrev pub Follows : (List (List ℕ) → Option (List ℕ) → Type 0) → (List (List ℕ) → Option (List ℕ) → Type 0) → Type 0
Follows Holds Then = (looked : List (List ℕ)) (file : Option (List ℕ)) → Holds looked file → Then looked file

pub marks_later : (bodies : List Move → List (List ℕ)) (IsAt : WireHistory → List Move → Type 0) (Holds Then : List (List ℕ) → Option (List ℕ) → Type 0)
    (moves more : List Move) (count : ℕ) (looks : List Mark) → Follows Holds Then
    → AreMarks (MarksLook bodies IsAt Holds moves) count looks → AreMarks (MarksLook bodies IsAt Then (moves ++ more)) count looks
marks_later bodies IsAt Holds Then moves more count [] follows are = tt
marks_later bodies IsAt Holds Then moves more count (look ∷ looks) follows are =
    let is = are.0 in (
      record {
        before = is.before;
        turn = is.turn;
        later = is.later ++ more;
        are = ap (λ l. l ++ more) is.are ∙ append_assoc (is.before ++ is.turn) is.later more;
        one = is.one;
        so_far = is.so_far;
        due = is.due;
        wire = is.wire;
        holds = follows (bodies (is.before ++ is.turn)) look.file is.holds;
      },
      marks_later bodies IsAt Holds Then moves more (count + 1) looks follows are.1,
    )

up_to_end : (old new : WireState) (last : WireHistory) → EndsAfter old new last → IsUpToEnd new.history last
up_to_end old new last (inl same) = subst (λ h. IsUpToEnd h last) (sym same) refl
up_to_end old new last (inr (inl ended)) = subst (λ h. IsUpToEnd h last) (sym ended) refl
up_to_end old new last (inr (inr stops)) =
    stops.same ∙ ap (λ n. record last { ends = n; stops = new.history.stops }) (sym (ap (λ (h : WireHistory). h.ends) stops.same))

-- how a run ends that was marked so far: with these moves behind the whole turns
pub marked_before : {W C : Type 0} (every : ℕ) (of_world : BodyOf W) (step : EventStep W C) (s : MachineState W C)
    (Holds Then : List (List ℕ) → Option (List ℕ) → Type 0) (old : WireState) (mid : WireHistory) (new : WireState) (moves : List Move)
    (Marked Now : List Mark → Type 0) (marks : List Mark) → Follows Holds Then → (to_end : Bool) (file : Option (List ℕ)) (later : List Move)
    → events_in later ≤ 1 → mid ≡ history_after old.history moves → EndsAfter old new (history_after mid later) → ((l : List Mark) → Marked l → Now l)
    → (to_end ≡ true → later ≡ []) → (to_end ≡ true → Then (bodies_to_end every of_world step s moves) file)
    → MarksSoFar Marked marks (bodies_looked_at every of_world step s) old.history Holds moves
    → MarksMore Now marks (MarksBeforeEnd to_end every of_world step s Then file old.history new.history)
marked_before every of_world step s Holds Then old mid new moves Marked Now marks follows to_end file later few logged ended stay whole holds so_far = record {
  more = so_far.looks;
  told = stay (marks ++ so_far.looks) so_far.told;
  are = record {
    run = record {
      moves = moves;
      later = later;
      few = few;
      ended = subst (λ h. IsUpToEnd new.history (history_after h later)) logged (up_to_end old new (history_after mid later) ended);
      looks = so_far.looks;
      each = so_far.each;
      are =
          let P : List Move → Type 0 = λ l. AreMarks (MarksLook (bodies_looked_at every of_world step s) (IsBehind old.history) Then l) 0 so_far.looks in
          subst P (append-nil moves)
          (marks_later (bodies_looked_at every of_world step s) (IsBehind old.history) Holds Then moves [] 0 so_far.looks follows so_far.are);
      all = refl;
    };
    whole = whole;
    holds = holds;
  };
}

-- the mark of the end
pub marked_end : {W C D : Type 0} (every : ℕ) (of_world : BodyOf W) (step : EventStep W C) (s : MachineState W C)
    (Holds : List (List ℕ) → Option (List ℕ) → Type 0) (marked : D → List Mark → Type 0) (mid disk : D) (marks : List Mark) (to_end : Bool)
    (file : Option (List ℕ)) (old new : WireHistory) → MarksAtEnd to_end marked mid disk new file
    → MarksMore (marked mid) marks (MarksBeforeEnd to_end every of_world step s Holds file old new)
    → MarksMore (marked disk) marks (MarksRun to_end every of_world step s Holds old new)
marked_end every of_world step s Holds marked mid disk marks false file old new stay m =
    record { more = m.more; told = stay (marks ++ m.more) m.told; are = m.are.run }
marked_end every of_world step s Holds marked mid disk marks true file old new adds m =
    let mark : Mark = record { wire = new; file = file } in
    let r = m.are.run in
    record {
      more = m.more ++ mark ∷ [];
      told = subst (marked disk) (append_assoc marks m.more (mark ∷ [])) (adds (marks ++ m.more) m.told);
      are = record {
        moves = r.moves;
        later = r.later;
        few = r.few;
        ended = r.ended;
        looks = r.looks;
        each = r.each;
        are = r.are;
        all = record {
          whole = m.are.whole refl;
          last = mark;
          are = ap (λ l. l ++ mark ∷ []) r.all;
          wire = refl;
          holds = m.are.holds refl;
        };
      };
    }

-- the file behind some saves, where the store is ready
pub holds_saves : {D : Type 0} (contents : D → Option (List ℕ)) (may_leave : D → List ℕ → Type 0) (old_disk disk : D) (first now : StoreState)
    (saves looked : List (List ℕ)) → StaysTold contents old_disk disk → IsReady contents may_leave disk now → now.shut ≡ false
    → now.standing ≡ runs.standing_after_all first.standing saves → saves ≡ saves_in (body_of first) looked
    → HoldsSaves (contents old_disk) first.standing looked (contents disk)
holds_saves contents may_leave old_disk disk first now saves looked told ready open_ standing are = λ file here.
    let there = told file here in (
      there.0,
      there.1,
      (ready there.0 there.1 open_).1 ∙ (standing ∙ ap (runs.standing_after_all first.standing) are),
    )
