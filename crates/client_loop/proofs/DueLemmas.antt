-- The text that is due where a call breaks off.
use Rattle.std.proofs.Common.{◌≡◌, ℕ, List, [], ◌∷◌, ◌++◌, take, Option, None, refl, sym, ap, ◌∙◌, subst, append_assoc}
use Rattle.std.proofs.lemmas.List.{append-nil}
use Rattle.ads_outside.specs.Puts.{Appends, AppendsPart}
use Rattle.spec_client.specs.CallOver.{conversation_after_all}
use Rattle.spec_client.specs.Conversation.{LinkAnswer, Conversation, printed_by, conversation_after}
use Rattle.spec_client.specs.Runner.{CallStep, Send, Print}
use Rattle.client_loop.specs.Due.{AtSend, AtPrint, Anywhere, StopsAt, turns_after, steps_last, text_up_to}
use Rattle.client_loop.specs.Called.{AreAwaited}
use Rattle.client_loop.proofs.GoingLemmas.{text_after}
use Rattle.client_loop.proofs.RestLemmas.{printed-append}
use Rattle.client_loop.proofs.SaidLemmas.{puts_nothing, puts_then, puts_none, puts_part, puts_more}

-- steps that stop so also do where more would have followed
abbrev pub StopsLonger : (List CallStep → Type 0) → Type 0
StopsLonger IsStop = (left more : List CallStep) → IsStop left → IsStop (left ++ more)

pub send_longer : StopsLonger AtSend
send_longer (Send bytes ∷ left) more at = tt
send_longer left more at = absurd at

pub print_longer : StopsLonger AtPrint
print_longer (Print text ∷ left) more at = tt
print_longer left more at = absurd at

pub any_longer : StopsLonger Anywhere
any_longer left more at = tt

-- the first step is not given, or in part
pub stops_at_once : (IsStop : List CallStep → Type 0) (step : CallStep) (held new : Option (List ℕ)) → IsStop (step ∷ [])
    → AppendsPart held new (printed_by (step ∷ [])) → StopsAt IsStop [] (step ∷ []) held new
stops_at_once IsStop step held new stop part =
    record { given = []; left = step ∷ []; all = refl; stop = stop; mid = held; put = puts_nothing held; part = part }

-- none is given
pub stops_before : (steps : List CallStep) (held : Option (List ℕ)) → StopsAt Anywhere [] steps held held
stops_before steps held =
    record { given = []; left = steps; all = refl; stop = tt; mid = held; put = puts_nothing held; part = puts_none held (printed_by (take 1 steps)) }

-- all are
pub stops_behind_all : (steps : List CallStep) (held new : Option (List ℕ)) → Appends held new (printed_by steps) → StopsAt Anywhere [] steps held new
stops_behind_all steps held new put =
    record { given = steps; left = []; all = sym (append-nil steps); stop = tt; mid = new; put = put; part = puts_none new [] }

pub stops_anywhere : (IsStop : List CallStep → Type 0) (before : List ℕ) (steps : List CallStep) (held new : Option (List ℕ))
    → StopsAt IsStop before steps held new → StopsAt Anywhere before steps held new
stops_anywhere IsStop before steps held new s =
    record { given = s.given; left = s.left; all = s.all; stop = tt; mid = s.mid; put = s.put; part = s.part }

-- behind a text that was put
pub stops_on : (IsStop : List CallStep → Type 0) (before : List ℕ) (steps : List CallStep) (held mid new : Option (List ℕ))
    → Appends held mid before → StopsAt IsStop [] steps mid new → StopsAt IsStop before steps held new
stops_on IsStop before steps held mid new first s = record {
  given = s.given;
  left = s.left;
  all = s.all;
  stop = s.stop;
  mid = s.mid;
  put = puts_then held mid s.mid before (printed_by s.given) first s.put;
  part = s.part;
}

-- behind steps that were given
pub stops_then : (IsStop : List CallStep → Type 0) (a b : List CallStep) (held mid new : Option (List ℕ))
    → Appends held mid (printed_by a) → StopsAt IsStop [] b mid new → StopsAt IsStop [] (a ++ b) held new
stops_then IsStop a b held mid new first s = record {
  given = a ++ s.given;
  left = s.left;
  all = ap (λ x. a ++ x) s.all ∙ sym (append_assoc a s.given s.left);
  stop = s.stop;
  mid = s.mid;
  put = subst (λ t. Appends held s.mid t) (sym (printed-append a s.given)) (puts_then held mid s.mid (printed_by a) (printed_by s.given) first s.put);
  part = s.part;
}

part_longer : (left more : List CallStep) (mid new : Option (List ℕ)) → AppendsPart mid new (printed_by (take 1 left))
    → AppendsPart mid new (printed_by (take 1 (left ++ more)))
part_longer [] more mid new part = puts_more mid new [] (printed_by (take 1 more)) part
part_longer (step ∷ left) more mid new part = part

-- and more steps would have followed
pub stops_longer : (IsStop : List CallStep → Type 0) → StopsLonger IsStop → (before : List ℕ) (a b : List CallStep) (held new : Option (List ℕ))
    → StopsAt IsStop before a held new → StopsAt IsStop before (a ++ b) held new
stops_longer IsStop longer before a b held new s = record {
  given = s.given;
  left = s.left ++ b;
  all = ap (λ x. x ++ b) s.all ∙ append_assoc s.given s.left b;
  stop = longer s.left b s.stop;
  mid = s.mid;
  put = s.put;
  part = part_longer s.left b s.mid new s.part;
}

abbrev IsNone : List CallStep → Type 0
IsNone [] = Unit {0}
IsNone (step ∷ steps) = ⊥

some_left : (steps : List CallStep) → [] ≡ steps → IsNone steps
some_left steps none = subst (λ (x : List CallStep). IsNone x) none tt

whole_by : (IsStop : List CallStep → Type 0) (before : List ℕ) (steps given left : List CallStep) (held mid new : Option (List ℕ))
    → [] ≡ given ++ left → IsStop left → Appends held mid ((before ++ printed_by steps) ++ printed_by given)
    → AppendsPart mid new (printed_by (take 1 left)) → StopsAt IsStop before steps held new
whole_by IsStop before steps [] [] held mid new all stop put part = record {
  given = steps;
  left = [];
  all = sym (append-nil steps);
  stop = stop;
  mid = mid;
  put = subst (λ t. Appends held mid t) (append-nil (before ++ printed_by steps)) put;
  part = part;
}
whole_by IsStop before steps [] (step ∷ left) held mid new all stop put part = absurd (some_left (step ∷ left) all)
whole_by IsStop before steps (step ∷ given) left held mid new all stop put part = absurd (some_left (step ∷ given ++ left) all)

-- steps that were all given are no longer left
pub stops_whole : (IsStop : List CallStep → Type 0) (before : List ℕ) (steps : List CallStep) (held new : Option (List ℕ))
    → StopsAt IsStop (before ++ printed_by steps) [] held new → StopsAt IsStop before steps held new
stops_whole IsStop before steps held new s = whole_by IsStop before steps s.given s.left held s.mid new s.all s.stop s.put s.part

left_in_part : (left : List CallStep) (mid new : Option (List ℕ)) → AppendsPart mid new (printed_by (take 1 left)) → AppendsPart mid new (printed_by left)
left_in_part [] mid new part = part
left_in_part (step ∷ left) mid new part =
    subst (λ t. AppendsPart mid new t) (sym (printed-append (step ∷ []) left)) (puts_more mid new (printed_by (step ∷ [])) (printed_by left) part)

-- so some first bytes of the whole text stand
pub stops_in_part : (IsStop : List CallStep → Type 0) (before : List ℕ) (steps : List CallStep) (held new : Option (List ℕ))
    → StopsAt IsStop before steps held new → AppendsPart held new (before ++ printed_by steps)
stops_in_part IsStop before steps held new s =
    let two : before ++ printed_by steps ≡ (before ++ printed_by s.given) ++ printed_by s.left =
    ap (λ (x : List CallStep). before ++ printed_by x) s.all ∙ ap (λ t. before ++ t) (printed-append s.given s.left)
    ∙ sym (append_assoc before (printed_by s.given) (printed_by s.left)) in
    subst (λ t. AppendsPart held new t) (sym two)
    (puts_part held s.mid new (before ++ printed_by s.given) (printed_by s.left) s.put (left_in_part s.left s.mid new s.part))

-- the text before the last answer, and that of the steps behind it
pub text_in_two : (text : List ℕ) (steps : List CallStep) (c : Conversation) (answers : List LinkAnswer) → c.text ≡ text ++ printed_by steps
    → AreAwaited c answers → (conversation_after_all c answers).text ≡ text_up_to text c answers ++ printed_by (steps_last steps c answers)
unfolding conversation_after_all text_up_to steps_last
text_in_two text steps c [] is awaited = is
text_in_two text steps c (a ∷ answers) is awaited =
    text_in_two c.text (turns_after c a).steps (conversation_after c a) answers (text_after c a awaited.0) awaited.1

pub text_up_to_append : (text : List ℕ) (c : Conversation) (front : List LinkAnswer) (b : LinkAnswer) (more : List LinkAnswer)
    → text_up_to text c (front ++ b ∷ more) ≡ text_up_to (conversation_after_all c front).text (conversation_after_all c front) (b ∷ more)
unfolding text_up_to conversation_after_all
text_up_to_append text c [] b more = refl
text_up_to_append text c (a ∷ front) b more = text_up_to_append c.text (conversation_after c a) front b more

pub steps_last_append : (steps : List CallStep) (c : Conversation) (front : List LinkAnswer) (b : LinkAnswer) (more : List LinkAnswer)
    → steps_last steps c (front ++ b ∷ more) ≡ steps_last [] (conversation_after_all c front) (b ∷ more)
unfolding steps_last conversation_after_all
steps_last_append steps c [] b more = refl
steps_last_append steps c (a ∷ front) b more = steps_last_append (turns_after c a).steps (conversation_after c a) front b more

-- they stop behind answers that were heard whole
pub stops_behind_answers : (IsStop : List CallStep → Type 0) (more : List LinkAnswer) (c : Conversation) (front : List LinkAnswer)
    (held new : Option (List ℕ)) → AreAwaited c front → let x = conversation_after_all c front in
    StopsAt IsStop (text_up_to x.text x more) (steps_last [] x more) held new
    → StopsAt IsStop (text_up_to c.text c (front ++ more)) (steps_last [] c (front ++ more)) held new
unfolding text_up_to steps_last
stops_behind_answers IsStop [] c front held new awaited s =
    let two = text_in_two c.text [] c front (sym (append-nil c.text)) awaited in
    subst (λ answers. StopsAt IsStop (text_up_to c.text c answers) (steps_last [] c answers) held new) (sym (append-nil front))
    (stops_whole IsStop (text_up_to c.text c front) (steps_last [] c front) held new (subst (λ t. StopsAt IsStop t [] held new) two s))
stops_behind_answers IsStop (b ∷ more) c front held new awaited s =
    let x = conversation_after_all c front in
    subst (λ t. StopsAt IsStop t (steps_last [] c (front ++ b ∷ more)) held new) (sym (text_up_to_append c.text c front b more))
    (subst (λ (steps : List CallStep). StopsAt IsStop (text_up_to x.text x (b ∷ more)) steps held new) (sym (steps_last_append [] c front b more)) s)

-- they stop behind the first steps, which were given, or behind these an answer
pub stops_behind_first : (IsStop : List CallStep → Type 0) (steps : List CallStep) (c : Conversation) (answers : List LinkAnswer)
    (held new : Option (List ℕ)) → c.text ≡ printed_by steps
    → StopsAt IsStop (text_up_to c.text c answers) (steps_last [] c answers) held new
    → StopsAt IsStop (text_up_to [] c answers) (steps_last steps c answers) held new
unfolding text_up_to steps_last
stops_behind_first IsStop steps c [] held new is s = stops_whole IsStop [] steps held new (subst (λ t. StopsAt IsStop t [] held new) is s)
stops_behind_first IsStop steps c (b ∷ more) held new is s = s
