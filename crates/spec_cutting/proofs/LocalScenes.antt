-- An answer of the server's machine to a call is some answers of one byte.
use Rattle.std.proofs.Common.{◌≡◌, ℕ, zero, suc, ◌+◌, List, [], ◌∷◌, ◌++◌, length, take, drop, Bool, true}
use Rattle.std.proofs.Common.{false, refl, sym, ap, ◌∙◌, arith, subst, inl, inr, append_assoc}
use Rattle.std.specs.Prelude.{◌⊎◌, Option, Some, None, if◌then◌else◌}
use Rattle.std.proofs.lemmas.Bool.{cases_Bool}
use Rattle.std.proofs.lemmas.List.{append-nil, take-append-drop}
use Rattle.std.proofs.Math.Seq.{drop-append_seam}
use Rattle.ads_outside.specs.declared.event.Event.TheVariants as event
use Rattle.spec_machine.specs.Connection.{Connection, connection_of}
use Rattle.spec_machine.specs.Device.{Device}
use Rattle.spec_machine.specs.Events.{state_after_event}
use Rattle.spec_machine.specs.MachineState.{MachineState}
use Rattle.spec_machine.specs.Moves.{state_after_move}
use Rattle.spec_machine.specs.Offers.{is_closing, is_closing_at}
use Rattle.spec_machine.specs.Running.{is_to_be_shut}
use Rattle.spec_samples.specs.Row.{Row}
use Rattle.spec_client.specs.Conversation.{LinkAnswer, Bytes, Quiet, Closed, LoopEnd, moment_of, runner_after_answer}
use Rattle.spec_client.specs.Runner.{Runner, turns, Turns}
use Rattle.spec_local.specs.LocalCall.{Answered, answered, waiting_or, waiting_bytes, next_tick, bytes_taken, answer_after_tick, local_answer}
use Rattle.spec_cutting.proofs.Views.{View, view_of, requests_by, view_unless, view_after}
use Rattle.spec_cutting.proofs.JoinedCalls.{cut_in_two, end_cases}
use Rattle.spec_cutting.proofs.Takes.{HasOne, taken_by, behind_pieces, some_one, take_twice, one_behind_take}
use Rattle.spec_cutting.proofs.Takes.{pieces_and_take, pieces-append, pieces_moment, taken_moment}
use Rattle.spec_cutting.proofs.Takes.{waits_behind}

one_plus : (n : ℕ) → 1 + n ≡ suc n
one_plus n = omega arith

zero_plus : (n : ℕ) → 0 + n ≡ n
zero_plus n = omega arith

suc_plus : (m n : ℕ) → suc m + n ≡ suc (m + n)
suc_plus m n = omega arith

-- a machine and the view of a call over it; without the machine where the call is over
pub record Scene (W C : Type 0) : Type 0 where
  pub machine : Option (MachineState W C)
  pub view : View

abbrev pub seen_by : {W C : Type 0} → Option LoopEnd → MachineState W C → View → Scene W C
seen_by None s v = record { machine = Some s; view = v }
seen_by (Some end) s v = record { machine = None; view = v }

abbrev pub seen : {W C : Type 0} → MachineState W C → View → Scene W C
seen s v = seen_by v.end s v

-- what the call sends behind an answer
abbrev pub new_requests : View → View → List (List ℕ)
new_requests old new = drop (length old.sent) new.sent

-- the scene behind an answer of a machine
abbrev pub behind : {W C : Type 0} → Device W C → View → Answered W C → Scene W C
behind device v a = let new = view_after v a.answer in seen (behind_pieces device (new_requests v new) a.machine) new

abbrev pub next_by : {W C : Type 0} → Device W C → ℕ → View → Option (MachineState W C) → Scene W C
next_by device most v None = record { machine = None; view = v }
next_by device most v (Some s) = behind device v (local_answer (state_after_event device) most s)

-- the next scene, where an answer has at most so many bytes and one
abbrev pub next : {W C : Type 0} → Device W C → ℕ → Scene W C → Scene W C
next device most x = next_by device most x.view x.machine

-- so many answers on, byte by byte
abbrev pub steps : {W C : Type 0} → Device W C → ℕ → Scene W C → Scene W C
steps device zero x = x
steps device (suc n) x = steps device n (next device 0 x)

-- nothing waits where what the call sends behind an answer closes the connection
abbrev pub ClosesAloneBehind : {W C : Type 0} → Device W C → View → Answered W C → Type 0
ClosesAloneBehind device v a = is_closing_at 1 a.machine ≡ false
    → is_closing_at 1 (behind_pieces device (new_requests v (view_after v a.answer)) a.machine) ≡ true
    → waiting_bytes a.machine ≡ []

abbrev pub ClosesAloneBy : {W C : Type 0} → Device W C → View → Option (MachineState W C) → Type 0
ClosesAloneBy device v None = Unit {0}
ClosesAloneBy device v (Some s) = ClosesAloneBehind device v (local_answer (state_after_event device) 0 s)

abbrev pub ClosesAloneIn : {W C : Type 0} → Device W C → Scene W C → Type 0
ClosesAloneIn device x = ClosesAloneBy device x.view x.machine

pub steps-add : {W C : Type 0} (device : Device W C) (m n : ℕ) (x : Scene W C) → steps device (m + n) x ≡ steps device n (steps device m x)
steps-add device zero n x = ap (λ k. steps device k x) (zero_plus n)
steps-add device (suc m) n x =
    ap (λ k. steps device k x) (suc_plus m n) ∙ steps-add device m n (next device 0 x)

over_next : {W C : Type 0} (device : Device W C) (x : Scene W C) (most : ℕ) → x.machine ≡ None → next device most x ≡ x
over_next {W} {C} device x most over =
    ap (next_by device most x.view) over ∙ ap (λ (o : Option (MachineState W C)). record { machine = o; view = x.view }) (sym over)

pub over_steps : {W C : Type 0} (device : Device W C) (n : ℕ) (x : Scene W C) → x.machine ≡ None → steps device n x ≡ x
over_steps device zero x over = refl
over_steps device (suc n) x over = ap (steps device n) (over_next device x 0 over) ∙ over_steps device n x over

-- more is sent, and nothing else
record SendsMore (v w : View) : Type 0 where
  more : List (List ℕ)
  is : w.sent ≡ v.sent ++ more

view_of_sent : (r : Runner) (q : ℕ) (s : List (List ℕ)) (t : List ℕ) (k : List Row) (o : Option LoopEnd) → (view_of r q s t k o).sent ≡ s
view_of_sent r q s t k None = refl
view_of_sent r q s t k (Some e) = refl

sends_so : (v : View) (a : LinkAnswer) (o : Option LoopEnd) → SendsMore v (view_unless o v a)
sends_so v a None =
    let ts : Turns = turns (moment_of a) (runner_after_answer v.runner a) in
    record { more = requests_by ts.steps; is = view_of_sent _ _ (v.sent ++ requests_by ts.steps) _ _ _ }
sends_so v a (Some e) = record { more = []; is = sym (append-nil v.sent) }

sends_more : (v : View) (a : LinkAnswer) → SendsMore v (view_after v a)
unfolding view_after
sends_more v a = sends_so v a v.end

new_are_more : (v w : View) (m : SendsMore v w) → new_requests v w ≡ m.more
new_are_more v w m = ap (drop (length v.sent)) m.is ∙ drop-append_seam v.sent m.more

-- what is sent behind two answers
new_in_parts : (u v w : View) → SendsMore u v → SendsMore v w → new_requests u w ≡ new_requests u v ++ new_requests v w
new_in_parts u v w m n =
    let all : w.sent ≡ u.sent ++ (m.more ++ n.more) = n.is ∙ ap (λ l. l ++ n.more) m.is ∙ append_assoc u.sent m.more n.more in
    ap (drop (length u.sent)) all ∙ drop-append_seam u.sent (m.more ++ n.more)
    ∙ sym (ap (λ l. l ++ new_requests v w) (new_are_more u v m) ∙ ap (λ l. m.more ++ l) (new_are_more v w n))

-- an answer of the first bytes that wait
abbrev taken : {W C : Type 0} → MachineState W C → List ℕ → Answered W C
taken s bytes = answered (Bytes bytes s.moment) (taken_by (length bytes) s)

-- some bytes at once are so many answers of one byte
pub record IsSteps {W C : Type 0} (device : Device W C) (x y : Scene W C) : Type 0 where
  pub steps_of : ℕ
  pub is : x ≡ steps device steps_of y

abbrev pub AllCloseAlone : {W C : Type 0} → Device W C → Scene W C → Type 0
AllCloseAlone device x = (n : ℕ) → ClosesAloneIn device (steps device n x)

first_answer : {W C : Type 0} (device : Device W C) (most : ℕ) (s : MachineState W C) (b : ℕ) (bs : List ℕ) → waiting_bytes s ≡ b ∷ bs
    → local_answer (state_after_event device) most s ≡ taken s (b ∷ take most bs)
unfolding local_answer bytes_taken state_after_move
first_answer device most s b bs waits = ap (waiting_or (state_after_event device) most s _) waits

seen_over : {W C : Type 0} (s t : MachineState W C) (v : View) (e : LoopEnd) → v.end ≡ Some e → seen s v ≡ seen t v
seen_over {W} {C} s t v e over = ap (λ o. seen_by {W = W} {C = C} o s v) over ∙ sym (ap (λ o. seen_by o t v) over)

ended_view : (v : View) (a : LinkAnswer) (e : LoopEnd) → v.end ≡ Some e → view_after v a ≡ v
unfolding view_after
ended_view v a e over = ap (λ o. view_unless o v a) over

pub seen_on : {W C : Type 0} (s : MachineState W C) (v : View) → v.end ≡ None → seen s v ≡ record { machine = Some s; view = v }
seen_on s v on = ap (λ o. seen_by o s v) on

open_or : {W C : Type 0} (device : Device W C) (pieces : List (List ℕ)) (s : MachineState W C) (k : Connection C)
    → HasOne s k → (b : ℕ) (bs : List ℕ) → waiting_bytes s ≡ b ∷ bs
    → (is_closing_at 1 s ≡ false → is_closing_at 1 (behind_pieces device pieces s) ≡ true → waiting_bytes s ≡ [])
    → (k.closing ≡ true) ⊎ (is_closing_at 1 (behind_pieces device pieces s) ≡ false)
open_or {W} {C} device pieces s k one b bs waits alone = elim (cases_Bool k.closing) [
  | inl closing ↦ inl closing
  | inr is_open ↦ elim (cases_Bool (is_closing_at 1 (behind_pieces device pieces s))) [
    | inl closes ↦
        let none = alone (ap (λ o. is_closing o) one.is ∙ is_open) closes in
        absurd (let e : b ∷ bs ≡ [] = sym waits ∙ none in cc)
    | inr stays ↦ inr stays
  ]
]

abbrev first_byte : {W C : Type 0} → Device W C → View → MachineState W C → ℕ → Scene W C
first_byte device v s b = behind device v (taken s (b ∷ []))

-- behind a byte, and behind the others
behind_rest : {W C : Type 0} (device : Device W C) (v : View) (s : MachineState W C) (b c : ℕ) (bytes rest : List ℕ) → waiting_bytes s ≡ b ∷ c ∷ bytes ++ rest
    → ClosesAloneBehind device v (taken s (b ∷ [])) → let v1 = view_after v (Bytes (b ∷ []) s.moment) in
    let s1 = behind_pieces device (new_requests v v1) (taken_by 1 s) in
    behind device v (taken s (b ∷ c ∷ bytes)) ≡ behind device v1 (taken s1 (c ∷ bytes))
behind_rest {W} {C} device v s b c bytes rest waits alone =
    let now = s.moment in
    let v1 = view_after v (Bytes (b ∷ []) now) in
    let v2 = view_after v1 (Bytes (c ∷ bytes) now) in
    let t = taken_by 1 s in
    let s1 = behind_pieces device (new_requests v v1) t in
    let n = suc (length bytes) in
    let found = some_one s b (c ∷ bytes ++ rest) waits in
    let old = one_behind_take 1 s found.connection found.one in
    let others = waits_behind device [] s b (c ∷ bytes ++ rest) waits in
    let or_open = open_or device (new_requests v v1) t _ old c (bytes ++ rest ++ others.more) others.waits alone in
    let moment : s1.moment ≡ now = pieces_moment device (new_requests v v1) t ∙ taken_moment 1 s in
    let machine : behind_pieces device (new_requests v v2) (taken_by (suc n) s) ≡ behind_pieces device (new_requests v1 v2) (taken_by n s1) =
    ap (λ l. behind_pieces device l (taken_by (suc n) s)) (new_in_parts v v1 v2 (sends_more v _) (sends_more v1 _))
    ∙ pieces-append device (new_requests v v1) (new_requests v1 v2) (taken_by (suc n) s)
    ∙ ap (behind_pieces device (new_requests v1 v2))
    (ap (behind_pieces device (new_requests v v1)) (sym (take_twice 1 n s found.connection found.one ∙ ap (λ m. taken_by m s) (one_plus n)))
    ∙ pieces_and_take device (new_requests v v1) n t _ old or_open) in
    ap (λ w. seen (behind_pieces device (new_requests v w) (taken_by (suc n) s)) w) (sym (cut_in_two v now (b ∷ []) (c ∷ bytes)))
    ∙ ap (λ m. seen m v2) machine
    ∙ ap (λ t. behind device v1 (answered (Bytes (c ∷ bytes) t) (taken_by n s1))) (sym moment)

bytes_are_steps : {W C : Type 0} (device : Device W C) (bytes : List ℕ) (v : View) (s : MachineState W C) (b : ℕ) (rest : List ℕ)
    → waiting_bytes s ≡ b ∷ bytes ++ rest
    → ClosesAloneBehind device v (taken s (b ∷ [])) → AllCloseAlone device (first_byte device v s b)
    → IsSteps device (behind device v (taken s (b ∷ bytes))) (first_byte device v s b)
bytes_are_steps device [] v s b rest waits alone later = record { steps_of = 0; is = refl }
bytes_are_steps {W} {C} device (c ∷ bytes) v s b rest waits alone later =
    let v1 = view_after v (Bytes (b ∷ []) s.moment) in
    let s1 = behind_pieces device (new_requests v v1) (taken_by 1 s) in
    let both = behind_rest device v s b c bytes rest waits alone in
    elim (end_cases v1.end) [
      | inr over ↦
          let same = ended_view v1 (Bytes (c ∷ bytes) s1.moment) over.0 over.1 in
          record {
            steps_of = 0;
            is = both
                ∙ ap (λ w. seen (behind_pieces device (new_requests v1 w) (taken_by (suc (length bytes)) s1)) w) same
                ∙ seen_over _ s1 v1 over.0 over.1;
          }
      | inl on ↦
          let more = waits_behind device (new_requests v v1) s b (c ∷ bytes ++ rest) waits in
          let waits_so : waiting_bytes s1 ≡ c ∷ bytes ++ (rest ++ more.more) = more.waits ∙ ap (λ l. c ∷ l) (append_assoc bytes rest more.more) in
          let here : first_byte device v s b ≡ record { machine = Some s1; view = v1 } = seen_on s1 v1 on in
          let answer : local_answer (state_after_event device) 0 s1 ≡ taken s1 (c ∷ []) = first_answer device 0 s1 c (bytes ++ (rest ++ more.more)) waits_so in
          let next_is : next device 0 (first_byte device v s b) ≡ first_byte device v1 s1 c = ap (next device 0) here ∙ ap (behind device v1) answer in
          let at_once : ClosesAloneIn device (record { machine = Some s1; view = v1 }) = subst (ClosesAloneIn device) here (later 0) in
          let r = bytes_are_steps device bytes v1 s1 c (rest ++ more.more) waits_so
          (subst (ClosesAloneBehind device v1) answer at_once) (subst (AllCloseAlone device) next_is (λ n. later (suc n))) in
          record { steps_of = suc r.steps_of; is = both ∙ r.is ∙ ap (steps device r.steps_of) (sym next_is) }
    ]

-- an answer is some answers of at most one byte
abbrev pub AnswerIsSteps : {W C : Type 0} → Device W C → View → Answered W C → Answered W C → Type 0
AnswerIsSteps device v a b = ClosesAloneBehind device v b → AllCloseAlone device (behind device v b) → IsSteps device (behind device v a) (behind device v b)

waiting_steps : {W C : Type 0} (device : Device W C) (most : ℕ) (v : View) (s : MachineState W C) (other other_byte : Answered W C) (ws : List ℕ)
    → waiting_bytes s ≡ ws
    → AnswerIsSteps device v other other_byte
    → AnswerIsSteps device v (waiting_or (state_after_event device) most s other ws) (waiting_or (state_after_event device) 0 s other_byte ws)
unfolding bytes_taken state_after_move
waiting_steps device most v s other other_byte [] waits otherwise alone later = otherwise alone later
waiting_steps device most v s other other_byte (b ∷ bs) waits otherwise alone later =
    bytes_are_steps device (take most bs) v s b (drop most bs) (waits ∙ ap (λ l. b ∷ l) (sym (take-append-drop most bs))) alone later

same_steps : {W C : Type 0} (device : Device W C) (v : View) (a : Answered W C) → AnswerIsSteps device v a a
same_steps device v a alone later = record { steps_of = 0; is = refl }

tick_steps : {W C : Type 0} (device : Device W C) (most : ℕ) (v : View) (s : MachineState W C)
    → AnswerIsSteps device v (answer_after_tick (state_after_event device) most s) (answer_after_tick (state_after_event device) 0 s)
unfolding answer_after_tick
tick_steps device most v s =
    let quiet = answered (Quiet s.moment) s in waiting_steps device most v s quiet quiet (waiting_bytes s) refl (same_steps device v quiet)

shut_steps : {W C : Type 0} (device : Device W C) (v : View) (shut : Bool) (c a b : Answered W C) → AnswerIsSteps device v a b
    → AnswerIsSteps device v (if shut then c else a) (if shut then c else b)
shut_steps device v true c a b same = same_steps device v c
shut_steps device v false c a b same = same

pub answer_steps : {W C : Type 0} (device : Device W C) (most : ℕ) (v : View) (s : MachineState W C)
    → AnswerIsSteps device v (local_answer (state_after_event device) most s) (local_answer (state_after_event device) 0 s)
unfolding local_answer
answer_steps device most v s =
    let step = state_after_event device in
    let ticked = step s (event.Tick (next_tick s.moment)) in
    waiting_steps device most v s _ _ (waiting_bytes s) refl
    (shut_steps device v (is_to_be_shut (connection_of 1 s.connections)) (answered (Closed s.moment) s)
    (answer_after_tick step most ticked) (answer_after_tick step 0 ticked)
    (tick_steps device most v ticked))
