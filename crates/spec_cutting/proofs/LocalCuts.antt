-- A local call over the server's machine is the one whose answers come byte by byte.
use Rattle.std.proofs.Common.{◌≡◌, ℕ, zero, suc, ◌+◌, ◌-◌, ◌<◌, ◌≤◌, List, [], ◌∷◌, length, drop, map, refl, sym, ap, ◌∙◌, arith, subst, inl, inr}
use Rattle.std.specs.Prelude.{◌⊎◌, Option, Some, None}
use Rattle.std.proofs.lemmas.Bool.{cases_lt}
use Rattle.spec_formats.specs.Header.{AmsAddress}
use Rattle.spec_machine.specs.Device.{Device}
use Rattle.spec_machine.specs.Events.{state_after_event}
use Rattle.spec_machine.specs.MachineState.{MachineState}
use Rattle.spec_machine.specs.Offers.{is_closing_at}
use Rattle.spec_client.specs.Calls.{Call}
use Rattle.spec_client.specs.Conversation.{Sent, LoopEnd, Conversation, MAX_ANSWERS, conversation_after, conversation_after_turns}
use Rattle.spec_local.specs.LocalCall.{Cutting, LocalScene, Answered, machine_after_pieces, scene_after}
use Rattle.spec_local.specs.LocalCall.{answer_in, scene_behind, scene_begun, scene_after_answers, local_call}
use Rattle.spec_local.specs.LinkLog.{cutting_of}
use Rattle.spec_local.proofs.CallLogs.{calls_are_local}
use Rattle.spec_local.proofs.Scenes.{one_more, scene_stays, scene_goes_on}
use Rattle.spec_cutting.specs.Joining.{bytes_sent, IsSameCall}
use Rattle.spec_cutting.specs.Laws.{byte_by_byte, ClosesAlone, HasRoom, CuttingsAreOne, LinksAreOne}
use Rattle.spec_cutting.proofs.Views.{View, view, view_after, view_after_answer, view_end}
use Rattle.spec_cutting.proofs.JoinedCalls.{end_cases, view_sent, same_views}
use Rattle.spec_cutting.proofs.LocalScenes.{Scene, seen_by, seen, new_requests, next, steps, ClosesAloneIn}
use Rattle.spec_cutting.proofs.LocalScenes.{AllCloseAlone, steps-add, over_steps, seen_on, answer_steps}
use Rattle.spec_cutting.proofs.Takes.{behind_pieces}

-- sums and orders of the counts below
below_zero : (a : ℕ) → 0 ≤ a
below_zero a = omega arith

as_much : (a b : ℕ) → b ≡ a → a ≤ b
as_much a b same = omega (arith, same)

one_up : (a b c d : ℕ) → d ≡ c → b ≡ a + 1 → b ≤ c → a < d
one_up a b c d same one more = omega (arith, same, one, more)

still_up : (a b c d : ℕ) → d ≡ c → b ≡ a + 1 → b ≤ c → a ≤ d
still_up a b c d same one more = omega (arith, same, one, more)

no_more : (a b m : ℕ) → b ≡ a → b ≤ m → a ≤ m
no_more a b m same few = omega (arith, same, few)

fewer : (a b m : ℕ) → a ≤ b → b ≤ m → a ≤ m
fewer a b m less few = omega (arith, less, few)

fewer_yet : (a b m : ℕ) → a < b → b ≤ m → a < m
fewer_yet a b m less few = omega (arith, less, few)

one_more_sum : (a b c d k : ℕ) → d ≡ c → b ≡ a + 1 → c ≡ b + k → d ≡ a + suc k
one_more_sum a b c d k same one rest = omega (arith, same, one, rest)

none_added : (a b : ℕ) → b ≡ a → b ≡ a + 0
none_added a b same = omega (arith, same)

both_up : (a b c d : ℕ) → a ≡ c → b ≡ d → d ≤ c → b ≤ a
both_up a b c d first second less = omega (arith, first, second, less)

both_up_yet : (a b c d : ℕ) → a ≡ c → b ≡ d → d < c → b < a
both_up_yet a b c d first second less = omega (arith, first, second, less)

same_both : (a b c : ℕ) → a ≡ c → b ≡ c → b ≤ a
same_both a b c first second = omega (arith, first, second)

suc_below : (a b : ℕ) → a ≤ b → suc a ≤ suc b
suc_below a b less = omega (arith, less)

not_below_zero : (a : ℕ) → suc a ≤ 0 → ⊥
not_below_zero a less = omega (arith, less)

room_left : (a l m : ℕ) → a + suc l ≤ m → a < m
room_left a l m few = omega (arith, few)

difference : (a b : ℕ) → a ≤ b → b ≡ a + (b - a)
difference a b less = omega (arith, less)

difference_yet : (a b : ℕ) → a < b → a + (b - a) ≡ b
difference_yet a b less = omega (arith, less)

one_left : (a b l m : ℕ) → b ≡ a + 1 → a + suc l ≤ m → b + 0 ≤ m
one_left a b l m one few = omega (arith, one, few)

rest_left : (a b j d l m : ℕ) → b ≡ a + 1 → suc j + d ≡ suc l → a + suc l ≤ m → b + d ≤ m
rest_left a b j d l m one sum few = omega (arith, one, sum, few)

rest_within : (j d l n : ℕ) → suc j + d ≡ suc l → suc l ≤ suc n → d ≤ n
rest_within j d l n sum within = omega (arith, sum, within)

used_up : (a c k n m : ℕ) → a ≡ 1 → n ≡ m → c ≤ m → c ≡ a + k → k ≡ n → ⊥
used_up a c k n m first all few sum whole = omega (arith, first, all, few, sum, whole)

sum_within : (a c k m : ℕ) → c ≡ a + k → c ≤ m → a + k ≤ m
sum_within a c k m sum few = omega (arith, sum, few)

-- a scene of a call, seen so
abbrev scene_of : {W C : Type 0} → LocalScene W C → Scene W C
scene_of x = seen x.machine (view x.conversation)

pieces_are : {W C : Type 0} (device : Device W C) (sent : List Sent) (s : MachineState W C)
    → machine_after_pieces (state_after_event device) s sent ≡ behind_pieces device (map (λ (p : Sent). p.bytes) sent) s
unfolding machine_after_pieces state_after_event
pieces_are device [] s = refl
pieces_are device (p ∷ ps) s = pieces_are device ps _

map-drop : {X Y : Type 0} (f : X → Y) (n : ℕ) (xs : List X) → map f (drop n xs) ≡ drop n (map f xs)
map-drop f zero xs = refl
map-drop f (suc n) [] = refl
map-drop f (suc n) (x ∷ xs) = map-drop f n xs

map-length : {X Y : Type 0} (f : X → Y) (xs : List X) → length (map f xs) ≡ length xs
map-length f [] = refl
map-length f (x ∷ xs) = ap suc (map-length f xs)

-- what is sent is the same in the view
new_sent : (c d : Conversation) → map (λ (p : Sent). p.bytes) (drop (length c.sent) d.sent) ≡ new_requests (view c) (view d)
new_sent c d =
    map-drop (λ (p : Sent). p.bytes) (length c.sent) d.sent
    ∙ ap (λ n. drop n (bytes_sent d)) (sym (map-length (λ (p : Sent). p.bytes) c.sent) ∙ ap length (sym (view_sent c)))
    ∙ ap (drop (length (view c).sent)) (sym (view_sent d))

-- the machine behind an answer and what the call sends then
machine_behind : {W C : Type 0} (device : Device W C) (c : Conversation) (a : Answered W C) → (c.end ≡ None → c.answers < MAX_ANSWERS)
    → machine_after_pieces (state_after_event device) a.machine (drop (length c.sent) (conversation_after c a.answer).sent)
    ≡ behind_pieces device (new_requests (view c) (view_after (view c) a.answer)) a.machine
machine_behind device c a few =
    pieces_are device (drop (length c.sent) (conversation_after c a.answer).sent) a.machine
    ∙ ap (λ l. behind_pieces device l a.machine) (new_sent c (conversation_after c a.answer) ∙ ap (new_requests (view c)) (view_after_answer c a.answer few))

scene_next : {W C : Type 0} (device : Device W C) (cutting : Cutting) (x : LocalScene W C) → x.conversation.end ≡ None → x.conversation.answers < MAX_ANSWERS
    → scene_of (scene_behind (state_after_event device) cutting x) ≡ next device (cutting x.conversation.answers) (scene_of x)
unfolding scene_after
scene_next {W} {C} device cutting x on few =
    let step = state_after_event device in
    let c = x.conversation in
    let a = answer_in step cutting x in
    ap (λ m. seen m (view (conversation_after c a.answer))) (machine_behind device c a (λ e. few))
    ∙ ap (λ v. seen (behind_pieces device (new_requests (view c) (view_after (view c) a.answer)) a.machine) v) (view_after_answer c a.answer (λ e. few))
    ∙ sym (ap (next device (cutting c.answers)) (seen_on x.machine (view c) (view_end c ∙ on)))

scene_over : {W C : Type 0} (x : LocalScene W C) (e : LoopEnd) → x.conversation.end ≡ Some e → (scene_of x).machine ≡ None
scene_over {W} {C} x e over = ap (λ o. (seen_by {W = W} {C = C} o x.machine (view x.conversation)).machine) (view_end x.conversation ∙ over)

some_none : (o : Option LoopEnd) (e : LoopEnd) → o ≡ Some e → o ≡ None → ⊥
some_none o e some none = cc

some_is_none : {X : Type 0} (o : Option X) (x : X) → o ≡ Some x → o ≡ None → ⊥
some_is_none o x some none = cc

over_scene : {W C : Type 0} (x : LocalScene W C) → (scene_of x).machine ≡ None → x.conversation.end ≡ None → ⊥
over_scene {W} {C} x over on =
    some_is_none (scene_of x).machine x.machine
    (ap (λ o. (seen_by {W = W} {C = C} o x.machine (view x.conversation)).machine) (view_end x.conversation ∙ on)) over

abbrev run : {W C : Type 0} → Device W C → ℕ → LocalScene W C → LocalScene W C
run device n x = scene_after_answers (state_after_event device) byte_by_byte n x

abbrev count : {W C : Type 0} → LocalScene W C → ℕ
count x = x.conversation.answers

one_counted : {W C : Type 0} (device : Device W C) (cutting : Cutting) (x : LocalScene W C)
    → x.conversation.end ≡ None → count (scene_behind (state_after_event device) cutting x) ≡ count x + 1
unfolding scene_after
one_counted device cutting x on = one_more x.conversation (answer_in (state_after_event device) cutting x).answer on

counted : {W C : Type 0} (x y : LocalScene W C) → x ≡ y → count x ≡ count y
counted x y same = ap (λ z. count z) same

run_counts : {W C : Type 0} (device : Device W C) (n : ℕ) (x : LocalScene W C) → count x ≤ count (run device n x)
unfolding scene_after_answers
run_counts device zero x = as_much (count x) (count x) refl
run_counts {W} {C} device (suc n) x = elim (end_cases x.conversation.end) [
  | inl on ↦
      let same = counted _ _ (scene_goes_on (state_after_event device) byte_by_byte n x on) in
      let one = one_counted device byte_by_byte x on in
      let more = run_counts device n (scene_behind (state_after_event device) byte_by_byte x) in
      still_up _ _ _ _ same one more
  | inr over ↦ as_much _ _ (counted _ _ (scene_stays (state_after_event device) byte_by_byte (suc n) x over.0 over.1))
]

-- the scenes of the call byte by byte, one after another
run_is_steps : {W C : Type 0} (device : Device W C) (n : ℕ) (x : LocalScene W C)
    → count (run device n x) ≤ MAX_ANSWERS → scene_of (run device n x) ≡ steps device n (scene_of x)
unfolding scene_after_answers
run_is_steps device zero x few = refl
run_is_steps {W} {C} device (suc n) x few = elim (end_cases x.conversation.end) [
  | inl on ↦
      let y = scene_behind (state_after_event device) byte_by_byte x in
      let goes = scene_goes_on (state_after_event device) byte_by_byte n x on in
      let same = counted _ _ goes in
      let one = one_counted device byte_by_byte x on in
      let more = run_counts device n y in
      ap (λ z. scene_of z) goes ∙ run_is_steps device n y (no_more _ _ MAX_ANSWERS same few)
      ∙ ap (steps device n) (scene_next device byte_by_byte x on (fewer_yet _ _ MAX_ANSWERS (one_up _ _ _ _ same one more) few))
  | inr over ↦
      ap (λ z. scene_of z) (scene_stays (state_after_event device) byte_by_byte (suc n) x over.0 over.1)
      ∙ sym (over_steps device (suc n) (scene_of x) (scene_over x over.0 over.1))
]

-- the call byte by byte ends, and is over after so many answers
record Ends {W C : Type 0} (device : Device W C) (n : ℕ) (x : LocalScene W C) : Type 0 where
  answers : ℕ
  within : answers ≤ n
  same : run device answers x ≡ run device n x
  counted_so : count (run device n x) ≡ count x + answers
  ends : (answers ≡ n) ⊎ ((e : LoopEnd) × ((run device n x).conversation.end ≡ Some e))

ends_so : {W C : Type 0} (device : Device W C) (n : ℕ) (x : LocalScene W C) → Ends device n x
unfolding scene_after_answers
ends_so device zero x = record { answers = 0; within = below_zero 0; same = refl; counted_so = none_added (count x) (count x) refl; ends = inl refl }
ends_so {W} {C} device (suc n) x = elim (end_cases x.conversation.end) [
  | inl on ↦
      let y = scene_behind (state_after_event device) byte_by_byte x in
      let r = ends_so device n y in
      let goes = scene_goes_on (state_after_event device) byte_by_byte n x on in
      let sum = counted _ _ goes in
      let one = one_counted device byte_by_byte x on in
      let rest = r.counted_so in
      record {
        answers = suc r.answers;
        within = suc_below r.answers n r.within;
        same = scene_goes_on (state_after_event device) byte_by_byte r.answers x on ∙ r.same ∙ sym goes;
        counted_so = one_more_sum _ _ _ _ r.answers sum one rest;
        ends = elim r.ends [
          | inl all ↦ inl (ap suc all)
          | inr over ↦ inr (over.0, ap (λ (z : LocalScene W C). z.conversation.end) goes ∙ over.1)
        ];
      }
  | inr over ↦
      let stays = scene_stays (state_after_event device) byte_by_byte (suc n) x over.0 over.1 in
      let same = counted _ _ stays in
      record {
        answers = 0;
        within = below_zero (suc n);
        same = sym stays;
        counted_so = none_added _ _ same;
        ends = inr (over.0, ap (λ (z : LocalScene W C). z.conversation.end) stays ∙ over.1);
      }
]

-- behind the end nothing more is counted
counts_within : {W C : Type 0} (device : Device W C) (n m : ℕ) (x : LocalScene W C) (e : LoopEnd)
    → (run device n x).conversation.end ≡ Some e → count (run device m x) ≤ count (run device n x)
unfolding scene_after_answers
counts_within device n zero x e ends = run_counts device n x
counts_within {W} {C} device zero (suc m) x e ends =
    let same = counted _ _ (scene_stays (state_after_event device) byte_by_byte (suc m) x e ends) in no_more _ _ _ (sym same) (as_much _ _ refl)
counts_within {W} {C} device (suc n) (suc m) x e ends = elim (end_cases x.conversation.end) [
  | inl on ↦
      let y = scene_behind (state_after_event device) byte_by_byte x in
      let goes = scene_goes_on (state_after_event device) byte_by_byte n x on in
      let first = counted _ _ goes in
      let second = counted _ _ (scene_goes_on (state_after_event device) byte_by_byte m x on) in
      let less = counts_within device n m y e (sym (ap (λ (z : LocalScene W C). z.conversation.end) goes) ∙ ends) in
      both_up _ _ _ _ first second less
  | inr over ↦
      let first = counted _ _ (scene_stays (state_after_event device) byte_by_byte (suc n) x over.0 over.1) in
      let second = counted _ _ (scene_stays (state_after_event device) byte_by_byte (suc m) x over.0 over.1) in
      same_both _ _ _ first second
]

-- a call whose answers are cut so, where byte by byte it is over after so many
cut_runs : {W C : Type 0} (device : Device W C) (cutting : Cutting) (n left : ℕ) (x : LocalScene W C) → left ≤ n
    → (steps device left (scene_of x)).machine ≡ None → count x + left ≤ MAX_ANSWERS → AllCloseAlone device (scene_of x)
    → scene_of (scene_after_answers (state_after_event device) cutting n x) ≡ steps device left (scene_of x)
unfolding scene_after_answers
cut_runs {W} {C} device cutting n zero x within over few alone =
    elim (end_cases x.conversation.end) [
      | inl on ↦ absurd (over_scene x over on)
      | inr end ↦ ap (λ z. scene_of z) (scene_stays (state_after_event device) cutting n x end.0 end.1)
    ]
cut_runs {W} {C} device cutting zero (suc left) x within over few alone = absurd (not_below_zero left within)
cut_runs {W} {C} device cutting (suc n) (suc left) x within over few alone = elim (end_cases x.conversation.end) [
  | inr end ↦
      ap (λ z. scene_of z) (scene_stays (state_after_event device) cutting (suc n) x end.0 end.1)
      ∙ sym (over_steps device (suc left) (scene_of x) (scene_over x end.0 end.1))
  | inl on ↦
      let step = state_after_event device in
      let y = scene_behind step cutting x in
      let most = cutting (count x) in
      let here : scene_of x ≡ record { machine = Some x.machine; view = view x.conversation } =
      seen_on x.machine (view x.conversation) (view_end x.conversation ∙ on) in
      let one = one_counted device cutting x on in
      let r = answer_steps device most (view x.conversation) x.machine (subst (ClosesAloneIn device) here (alone 0))
      (subst (λ z. AllCloseAlone device (next device 0 z)) here (λ m. alone (suc m))) in
      let there : scene_of y ≡ steps device (suc r.steps_of) (scene_of x)
      = scene_next device cutting x on (room_left (count x) left MAX_ANSWERS few)
      ∙ ap (next device most) here ∙ r.is ∙ ap (λ z. steps device r.steps_of (next device 0 z)) (sym here) in
      let again : (m : ℕ) → steps device m (scene_of y) ≡ steps device (suc r.steps_of + m) (scene_of x)
      = λ m. ap (steps device m) there ∙ sym (steps-add device (suc r.steps_of) m (scene_of x)) in
      let goes = ap (λ z. scene_of z) (scene_goes_on step cutting n x on) in
      elim (cases_lt (suc r.steps_of) (suc left)) [
        | inr passed ↦
            let d = suc r.steps_of - suc left in
            let sum : suc r.steps_of ≡ suc left + d = difference (suc left) (suc r.steps_of) passed in
            let end_is : scene_of y ≡ steps device (suc left) (scene_of x)
            = there ∙ ap (λ m. steps device m (scene_of x)) sum ∙ steps-add device (suc left) d (scene_of x)
            ∙ over_steps device d (steps device (suc left) (scene_of x)) over in
            goes ∙ cut_runs device cutting n 0 y (below_zero n) (ap (λ (z : Scene W C). z.machine) end_is ∙ over)
            (one_left (count x) (count y) left MAX_ANSWERS one few)
            (λ m. subst (ClosesAloneIn device) (sym (again m)) (alone (suc r.steps_of + m))) ∙ end_is
        | inl not_yet ↦
            let d = suc left - suc r.steps_of in
            let sum : suc r.steps_of + d ≡ suc left = difference_yet (suc r.steps_of) (suc left) not_yet in
            let end_is : steps device d (scene_of y) ≡ steps device (suc left) (scene_of x) = again d ∙ ap (λ m. steps device m (scene_of x)) sum in
            goes ∙ cut_runs device cutting n d y (rest_within r.steps_of d left n sum within)
            (ap (λ (z : Scene W C). z.machine) end_is ∙ over) (rest_left (count x) (count y) r.steps_of d left MAX_ANSWERS one sum few)
            (λ m. subst (ClosesAloneIn device) (sym (again m)) (alone (suc r.steps_of + m))) ∙ end_is
      ]
]

-- the premise, in views
alone_so : {W C : Type 0} (device : Device W C) (x : LocalScene W C) → (x.conversation.end ≡ None → count x < MAX_ANSWERS)
    → ClosesAlone (state_after_event device) x → ClosesAloneIn device (scene_of x)
unfolding scene_after
alone_so {W} {C} device x few alone = elim (end_cases x.conversation.end) [
  | inr over ↦ subst (ClosesAloneIn device) (sym (ap (λ o. seen_by o x.machine (view x.conversation)) (view_end x.conversation ∙ over.1))) tt
  | inl on ↦
      let a = answer_in (state_after_event device) byte_by_byte x in
      let machine = machine_behind device x.conversation a few in
      subst (ClosesAloneIn device) (sym (seen_on x.machine (view x.conversation) (view_end x.conversation ∙ on)))
      (λ is_open closes. alone is_open (ap (λ m. is_closing_at 1 m) machine ∙ closes))
]

-- where it goes on, more is counted to come
goes_on_within : {W C : Type 0} (device : Device W C) (n m : ℕ) (x : LocalScene W C) (e : LoopEnd)
    → (run device n x).conversation.end ≡ Some e → (run device m x).conversation.end ≡ None
    → count (run device m x) < count (run device n x)
unfolding scene_after_answers
goes_on_within device zero zero x e ends on = absurd (some_none x.conversation.end e ends on)
goes_on_within {W} {C} device (suc n) zero x e ends on =
    let goes = counted _ _ (scene_goes_on (state_after_event device) byte_by_byte n x on) in
    let one = one_counted device byte_by_byte x on in
    let more = run_counts device n (scene_behind (state_after_event device) byte_by_byte x) in
    one_up _ _ _ _ goes one more
goes_on_within {W} {C} device zero (suc m) x e ends on =
    absurd (some_none x.conversation.end e ends
    (sym (ap (λ (z : LocalScene W C). z.conversation.end) (scene_stays (state_after_event device) byte_by_byte (suc m) x e ends)) ∙ on))
goes_on_within {W} {C} device (suc n) (suc m) x e ends on = elim (end_cases x.conversation.end) [
  | inl begun ↦
      let y = scene_behind (state_after_event device) byte_by_byte x in
      let goes = scene_goes_on (state_after_event device) byte_by_byte n x begun in
      let goes_too = scene_goes_on (state_after_event device) byte_by_byte m x begun in
      let first = counted _ _ goes in
      let second = counted _ _ goes_too in
      let less = goes_on_within device n m y e (sym (ap (λ (z : LocalScene W C). z.conversation.end) goes) ∙ ends)
      (sym (ap (λ (z : LocalScene W C). z.conversation.end) goes_too) ∙ on) in
      both_up_yet _ _ _ _ first second less
  | inr over ↦
      absurd (some_none x.conversation.end over.0 over.1
      (sym (ap (λ (z : LocalScene W C). z.conversation.end) (scene_stays (state_after_event device) byte_by_byte (suc m) x over.0 over.1)) ∙ on))
]

seen_view : {W C : Type 0} (o : Option LoopEnd) (s : MachineState W C) (v : View) → (seen_by o s v).view ≡ v
seen_view None s v = refl
seen_view (Some e) s v = refl

begun_counts : {W C : Type 0} (device : Device W C) (s : MachineState W C) (me peer : AmsAddress) (call : Call)
    → count (scene_begun (state_after_event device) s me peer call) ≡ 1
unfolding conversation_after_turns
begun_counts device s me peer call = refl

-- a call that ends within so many answers, byte by byte
one_cutting : {W C : Type 0} (device : Device W C) (cutting : Cutting) (n : ℕ) (x : LocalScene W C)
    → count x ≡ 1 → n ≡ MAX_ANSWERS → count (run device n x) ≤ MAX_ANSWERS
    → ((m : ℕ) → ClosesAlone (state_after_event device) (run device m x))
    → IsSameCall (scene_after_answers (state_after_event device) cutting n x).conversation (run device n x).conversation
one_cutting {W} {C} device cutting n x first all few alone =
    let r = ends_so device n x in
    let sum = r.counted_so in
    let within = r.within in
    elim r.ends [
      | inl whole ↦ absurd (used_up (count x) (count (run device n x)) r.answers n MAX_ANSWERS first all few sum whole)
      | inr over ↦
          let steps_are : (m : ℕ) → scene_of (run device m x) ≡ steps device m (scene_of x)
          = λ m. run_is_steps device m x (fewer _ _ MAX_ANSWERS (counts_within device n m x over.0 over.1) few) in
          let all_alone : AllCloseAlone device (scene_of x)
          = λ m. subst (ClosesAloneIn device) (steps_are m)
          (alone_so device (run device m x) (λ on. fewer_yet _ _ MAX_ANSWERS (goes_on_within device n m x over.0 over.1 on) few) (alone m)) in
          let end_is : steps device r.answers (scene_of x) ≡ scene_of (run device n x) = sym (steps_are r.answers) ∙ ap (λ z. scene_of z) r.same in
          let cut = scene_after_answers (state_after_event device) cutting n x in
          let same : scene_of cut ≡ scene_of (run device n x)
          = cut_runs device cutting n r.answers x within (ap (λ (z : Scene W C). z.machine) end_is ∙ scene_over (run device n x) over.0 over.1)
          (sum_within (count x) (count (run device n x)) r.answers MAX_ANSWERS sum few) all_alone ∙ end_is in
          let whole = run device n x in
          same_views cut.conversation whole.conversation
          (sym (seen_view (view cut.conversation).end cut.machine (view cut.conversation)) ∙ ap (λ (z : Scene W C). z.view) same
          ∙ seen_view (view whole.conversation).end whole.machine (view whole.conversation))
    ]

by_bytes : {W C : Type 0} (device : Device W C) (cutting : Cutting) (s : MachineState W C) (me peer : AmsAddress) (call : Call)
    → HasRoom (state_after_event device) s me peer call
    → IsSameCall (local_call (state_after_event device) cutting s me peer call) (local_call (state_after_event device) byte_by_byte s me peer call)
by_bytes device cutting s me peer call room =
    one_cutting device cutting MAX_ANSWERS (scene_begun (state_after_event device) s me peer call)
    (begun_counts device s me peer call) refl room.answers_left room.closes_alone

pub cuttings_are_one : {W C : Type 0} → CuttingsAreOne W C
cuttings_are_one device cutting other s me peer call room =
    let first = by_bytes device cutting s me peer call room in
    let second = by_bytes device other s me peer call room in
    record {
      sent = first.sent ∙ sym second.sent;
      text = first.text ∙ sym second.text;
      kept = first.kept ∙ sym second.kept;
      entries = first.entries ∙ sym second.entries;
      end = first.end ∙ sym second.end;
    }

pub links_are_one : {W C : Type 0} → LinksAreOne W C
links_are_one device cutting s me peer call to now answers none logs over room =
    let local = (calls_are_local (state_after_event device) s me peer call to now answers none logs).over over in
    subst (λ c. IsSameCall c (local_call (state_after_event device) cutting s me peer call)) local
    (cuttings_are_one device (cutting_of answers) cutting s me peer call room)
