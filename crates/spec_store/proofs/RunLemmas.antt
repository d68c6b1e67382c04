-- Saves one after another.
use Rattle.std.proofs.Common.{◌≡◌, ℕ, ◌+◌, ◌^◌, ◌≤◌, List, [], ◌∷◌, ◌++◌, length, refl, sym, subst, ◌∙◌, ap, inl, inr, arith}
use Rattle.std.specs.Prelude.{Option, Some}
use Rattle.spec_store.specs.Disk.{written}
use Rattle.spec_store.specs.Slots.{Standing, standing_of}
use Rattle.spec_store.specs.Stops.{DiskCall, WriteAt, Sync, file_after, torn_from, LeavesAlways, LeavesBehind}
use Rattle.spec_store.specs.Saves.{next_sequence, standing_after, calls_of_save}
use Rattle.spec_store.specs.Laws.{MaySave, IsBeforeOrAfter, Survives}
use Rattle.spec_store.specs.Runs.{calls_of_saves, standing_after_all, AreBodies, IsOneOf, AllSurvive, SavesSurvive}
use Rattle.spec_store.proofs.SaveLemmas.{save_survives}

-- what a stop may leave where it might have left less before
torn-more : (at : ℕ) (bytes : List ℕ) (less more : List ℕ → Type 0) → ((c : List ℕ) → less c → more c)
    → (c : List ℕ) → torn_from at bytes less c → torn_from at bytes more c
torn-more at bytes less more h c (old, left, torn) = (old, h old left, torn)

always-less : (P : List ℕ → Type 0) (calls : List DiskCall) (file : List ℕ) (less more : List ℕ → Type 0)
    → ((c : List ℕ) → less c → more c) → LeavesAlways P file more calls → LeavesAlways P file less calls
unfolding LeavesAlways
always-less P [] file less more h l = λ c left. l c (h c left)
always-less P (WriteAt at bytes ∷ calls) file less more h l = (
  (λ c left. l.0 c (h c left)),
  always-less P calls (written at bytes file) (torn_from at bytes less) (torn_from at bytes more) (torn-more at bytes less more h) (l.1),
)
always-less P (Sync ∷ calls) file less more h l = ((λ c left. l.0 c (h c left)), l.1)

always-weaker : (P Q : List ℕ → Type 0) → ((c : List ℕ) → P c → Q c) → (calls : List DiskCall) (file : List ℕ) (may_leave : List ℕ → Type 0)
    → LeavesAlways P file may_leave calls → LeavesAlways Q file may_leave calls
unfolding LeavesAlways
always-weaker P Q h [] file may_leave l = λ c left. h c (l c left)
always-weaker P Q h (WriteAt at bytes ∷ calls) file may_leave l =
    ((λ c left. h c (l.0 c left)), always-weaker P Q h calls (written at bytes file) (torn_from at bytes may_leave) (l.1))
always-weaker P Q h (Sync ∷ calls) file may_leave l = ((λ c left. h c (l.0 c left)), always-weaker P Q h calls file (λ new. new ≡ file) (l.1))

behind-less : (P : List ℕ → Type 0) (calls : List DiskCall) (file : List ℕ) (less more : List ℕ → Type 0)
    → ((c : List ℕ) → less c → more c) → LeavesBehind P file more calls → LeavesBehind P file less calls
unfolding LeavesBehind
behind-less P [] file less more h l = λ c left. l c (h c left)
behind-less P (WriteAt at bytes ∷ calls) file less more h l =
    behind-less P calls (written at bytes file) (torn_from at bytes less) (torn_from at bytes more) (torn-more at bytes less more h) l
behind-less P (Sync ∷ calls) file less more h l = l

-- calls behind calls after which nothing is pending
always-append : (P : List ℕ → Type 0) (calls more : List DiskCall) (file : List ℕ) (may_leave : List ℕ → Type 0)
    → LeavesAlways P file may_leave calls → LeavesBehind (λ c. c ≡ file_after file calls) file may_leave calls
    → LeavesAlways P (file_after file calls) (λ c. c ≡ file_after file calls) more → LeavesAlways P file may_leave (calls ++ more)
unfolding LeavesAlways LeavesBehind file_after
always-append P [] more file may_leave l settled others = always-less P more file may_leave (λ c. c ≡ file) settled others
always-append P (WriteAt at bytes ∷ calls) more file may_leave l settled others =
    (l.0, always-append P calls more (written at bytes file) (torn_from at bytes may_leave) (l.1) settled others)
always-append P (Sync ∷ calls) more file may_leave l settled others = (l.0, always-append P calls more file (λ new. new ≡ file) (l.1) settled others)

behind-append : (P : List ℕ → Type 0) (calls more : List DiskCall) (file : List ℕ) (may_leave : List ℕ → Type 0)
    → LeavesBehind (λ c. c ≡ file_after file calls) file may_leave calls
    → LeavesBehind P (file_after file calls) (λ c. c ≡ file_after file calls) more → LeavesBehind P file may_leave (calls ++ more)
unfolding LeavesBehind file_after
behind-append P [] more file may_leave settled others = behind-less P more file may_leave (λ c. c ≡ file) settled others
behind-append P (WriteAt at bytes ∷ calls) more file may_leave settled others =
    behind-append P calls more (written at bytes file) (torn_from at bytes may_leave) settled others
behind-append P (Sync ∷ calls) more file may_leave settled others = behind-append P calls more file (λ new. new ≡ file) settled others

file_after-append : (calls more : List DiskCall) (file : List ℕ) → file_after file (calls ++ more) ≡ file_after (file_after file calls) more
unfolding file_after
file_after-append [] more file = refl
file_after-append (WriteAt at bytes ∷ calls) more file = file_after-append calls more (written at bytes file)
file_after-append (Sync ∷ calls) more file = file_after-append calls more file

first-one : (standing : Option Standing) (bodies : List (List ℕ)) → IsOneOf standing bodies standing
unfolding IsOneOf
first-one standing [] = refl
first-one standing (body ∷ bodies) = inl refl

next-after : (standing : Option Standing) (body : List ℕ) → next_sequence (Some (standing_after standing body)) ≡ next_sequence standing + 1
next-after standing body = refl

numbered : (bodies : List (List ℕ)) (standing : Option Standing) → next_sequence (standing_after_all standing bodies) ≡ next_sequence standing + length bodies
unfolding standing_after_all
numbered [] standing = omega arith
numbered (body ∷ bodies) standing = omega (arith, numbered bodies (Some (standing_after standing body)), next-after standing body)

all_survive : (bodies : List (List ℕ)) (file : List ℕ) → AreBodies bodies → next_sequence (standing_of file) + length bodies ≤ 2 ^ 64 → AllSurvive file bodies
unfolding calls_of_saves standing_after_all AreBodies IsOneOf file_after LeavesAlways LeavesBehind
all_survive [] file are few = record { always = λ c e. ap standing_of e; behind = λ c e. e; standing = refl; number = numbered [] (standing_of file) }
all_survive (body ∷ bodies) file are few =
    let m : MaySave file body = record { is_text = are.0; short = are.1; number = omega (arith, few) } in
    let s : Survives file body = save_survives file body m in
    let calls = calls_of_save file body in
    let f : List ℕ = file_after file calls in
    let now : standing_of f ≡ Some (standing_after (standing_of file) body) = s.standing in
    let n = ap next_sequence now ∙ next-after (standing_of file) body in
    let others : AllSurvive f bodies = all_survive bodies f (are.2) (omega (arith, few, n)) in
    let more = calls_of_saves f bodies in
    let P : List ℕ → Type 0 = λ c. IsOneOf (standing_of file) (body ∷ bodies) (standing_of c) in
    let later : (c : List ℕ) → IsOneOf (standing_of f) bodies (standing_of c) → P c =
    λ c one. inr (subst (λ (x : Option Standing). IsOneOf x bodies (standing_of c)) now one) in
    record {
      always = always-append P calls more file (λ c. c ≡ file)
          (always-weaker (IsBeforeOrAfter file body) P (λ c one. either c one) calls file (λ c. c ≡ file) s.always) s.behind
          (always-weaker (λ c. IsOneOf (standing_of f) bodies (standing_of c)) P later more f (λ c. c ≡ f) others.always);
      behind = subst (λ (g : List ℕ). LeavesBehind (λ c. c ≡ g) file (λ c. c ≡ file) (calls ++ more)) (sym (file_after-append calls more file))
          (behind-append (λ c. c ≡ file_after f more) calls more file (λ c. c ≡ file) s.behind others.behind);
      standing = ap standing_of (file_after-append calls more file) ∙ others.standing ∙ ap (λ (x : Option Standing). standing_after_all x bodies) now;
      number = numbered (body ∷ bodies) (standing_of file);
    }
  where
    either : (c : List ℕ) → IsBeforeOrAfter file body c → IsOneOf (standing_of file) (body ∷ bodies) (standing_of c)
    either c (inl e) = inl e
    either c (inr e) = inr (subst (λ (x : Option Standing). IsOneOf x bodies (standing_of c)) e (first-one (standing_of c) bodies))

pub saves_survive : SavesSurvive
saves_survive file bodies are few = all_survive bodies file are few
