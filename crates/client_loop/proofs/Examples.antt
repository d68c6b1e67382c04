-- Worked examples of the text that is due where a call breaks off: it prints "1" and then sends, and to send fails.
use Rattle.std.proofs.Common.{◌≡◌, ℕ, List, [], ◌∷◌, ◌++◌, Option, Some, refl, sym, ap, ◌∙◌, subst}
use Rattle.std.specs.Prelude.{take}
use Rattle.ads_outside.specs.Puts.{AppendsPart}
use Rattle.spec_client.specs.Conversation.{printed_by}
use Rattle.spec_client.specs.Runner.{CallStep, Send, Print}
use Rattle.client_loop.specs.Due.{AtSend, StopsAt}

abbrev print_and_send : List CallStep
print_and_send = Print (49 ∷ []) ∷ Send (2 ∷ []) ∷ []

-- the text stands
pub put_before_a_send : StopsAt AtSend [] print_and_send (Some []) (Some (49 ∷ []))
put_before_a_send = record {
  given = Print (49 ∷ []) ∷ [];
  left = Send (2 ∷ []) ∷ [];
  all = refl;
  stop = tt;
  mid = Some (49 ∷ []);
  put = refl;
  part = (0, refl);
}

print_given : (given left : List CallStep) → print_and_send ≡ given ++ left → AtSend left → given ≡ Print (49 ∷ []) ∷ []
print_given [] left all at = absurd (subst (λ (x : List CallStep). AtSend x) (sym all) at)
print_given (a ∷ []) left all at = cc
print_given (a ∷ (b ∷ [])) [] all at = absurd at
print_given (a ∷ (b ∷ [])) (c ∷ left) all at = cc
print_given (a ∷ (b ∷ (c ∷ given))) left all at = cc

abbrev HoldsNone : Option (List ℕ) → Type 0
HoldsNone (Some []) = Unit {0}
HoldsNone other = ⊥

-- it may not be dropped
pub not_dropped : StopsAt AtSend [] print_and_send (Some []) (Some []) → ⊥
not_dropped s =
    let mid : s.mid ≡ Some (49 ∷ []) = s.put ∙ ap (λ (x : List CallStep). Some (printed_by x)) (print_given s.given s.left s.all s.stop) in
    let part = subst (λ m. AppendsPart m (Some []) (printed_by (take 1 s.left))) mid s.part in
    subst (λ o. HoldsNone o) part.1 tt
