-- What is heard does not hang on the pieces in which bytes come.
use Rattle.std.proofs.Common.{◌≡◌, ℕ, List, [], ◌∷◌, ◌++◌, refl, ap, sym, ◌∙◌, append_assoc}
use Rattle.local_router.specs.declared.ask.Ask.{Ask}
use Rattle.local_router.specs.declared.front.Front.{Front}
use Rattle.local_router.specs.declared.front.Front.TheVariants as front
use Rattle.local_router.specs.declared.local.Rest.{Rest}
use Rattle.local_router.specs.declared.local.Rest.TheVariants as rest
use Rattle.local_router.specs.Fronts.{front_of}
use Rattle.local_router.specs.Heard.{Heard, heard, heard_at, heard_then, asked_before}

asked_then : (a : Ask) (asks : List Ask) (left : Rest) (more : List ℕ) → asked_before a (heard_then asks left more) ≡ heard_then (a ∷ asks) left more
asked_then a asks (rest.Waits text) more = refl
asked_then a asks (rest.Passes bytes) more = refl

-- by what the text with one byte more is
joined_at : (f : Front) (anew anew2 on on2 : Heard) (all all2 more : List ℕ)
    → anew2 ≡ heard_then anew.asks anew.rest more → on2 ≡ heard_then on.asks on.rest more → all2 ≡ all ++ more
    → heard_at f anew2 on2 all2 ≡ heard_then (heard_at f anew on all).asks (heard_at f anew on all).rest more
joined_at (front.Asks a) anew anew2 on on2 all all2 more one two three = ap (asked_before a) one ∙ asked_then a anew.asks anew.rest more
joined_at front.Begun anew anew2 on on2 all all2 more one two three = two
joined_at front.Foreign anew anew2 on on2 all all2 more one two three = ap foreign three
  where
    foreign : List ℕ → Heard
    foreign bytes = record { asks = []; rest = rest.Passes bytes }

pub joined : (text bytes more : List ℕ) → heard text (bytes ++ more) ≡ heard_then (heard text bytes).asks (heard text bytes).rest more
unfolding heard
joined text [] more = refl
joined text (b ∷ bs) more =
    joined_at (front_of (text ++ b ∷ [])) (heard [] bs) (heard [] (bs ++ more)) (heard (text ++ b ∷ []) bs) (heard (text ++ b ∷ []) (bs ++ more))
    (text ++ b ∷ bs) (text ++ b ∷ (bs ++ more)) more (joined [] bs more) (joined (text ++ b ∷ []) bs more) (sym (append_assoc text (b ∷ bs) more))
