-- After a walk each part stands at its span, and all else is as it was.
use Rattle.std.specs.Prelude.{◌≡◌, ℕ, ◌+◌, ◌-◌, ◌<◌, ◌≤◌, ◌⊎◌, get_or, List, [], ◌∷◌, ◌++◌, length, take, drop, refl}
use Rattle.std.proofs.Common.{sym, ◌∙◌, ap, subst, arith, length-append, length-take, length-drop, take_at, drop_at, take-take, inl, inr}
use Rattle.std.proofs.Math.ListN.{get_or-append}
use Rattle.std.proofs.lemmas.List.{take-append-le, drop-take, get_or-take, get_or-drop, get_or-append_right}
use Rattle.process_image.specs.declared.span.Span.{Span}
use Rattle.process_image.specs.Bytes.{with_part}
use Rattle.process_image.specs.Spans.{IsWalk}
use Rattle.process_image.specs.Walked.{walked, FitSpans, StandIn, IsOutside}
use Rattle.process_image.proofs.Walks.{IsWalk-le}

length-with_part : (bytes : List ℕ) (at len : ℕ) (part : List ℕ) → length part ≡ len
    → at + len ≤ length bytes → length (with_part bytes at len part) ≡ length bytes
length-with_part bytes at len part long within =
    let rest = drop (at + len) bytes in
    omega (arith, long, within, length-append (take at bytes) (part ++ rest), length-append part rest, length-take at bytes, length-drop (at + len) bytes)

take-with_part : (bytes : List ℕ) (at len : ℕ) (part : List ℕ) (n : ℕ) → n ≤ at → at ≤ length bytes → take n (with_part bytes at len part) ≡ take n bytes
take-with_part bytes at len part n le within =
    take-append-le n (take at bytes) (part ++ drop (at + len) bytes) (omega (arith, le, within, length-take at bytes)) ∙ take-take n at bytes le

part-with_part : (bytes : List ℕ) (at len : ℕ) (part : List ℕ) → length part ≡ len → at ≤ length bytes → take len (drop at (with_part bytes at len part)) ≡ part
part-with_part bytes at len part long within =
    let rest = part ++ drop (at + len) bytes in
    ap (take len) (drop_at (take at bytes) rest at (omega (arith, within, length-take at bytes))) ∙ take_at part (drop (at + len) bytes) len long

-- a walk from a place on leaves what is before it
take-walked : (bytes : List ℕ) (spans : List Span) (parts : List (List ℕ)) (from : ℕ) → IsWalk spans from (length bytes) → FitSpans parts spans
    → take from (walked bytes spans parts) ≡ take from bytes
take-walked bytes [] parts from walk fit = refl
take-walked bytes (s ∷ spans) [] from walk fit = refl
take-walked bytes (s ∷ spans) (part ∷ parts) from walk fit =
    let end = s.at + s.len in let next = with_part bytes s.at s.len part in
    let within : end ≤ length bytes = IsWalk-le spans end (length bytes) walk.1 in
    let same = length-with_part bytes s.at s.len part fit.0 within in
    let later = take-walked next spans parts end (subst (IsWalk spans end) (sym same) walk.1) fit.1 in
    let le : from ≤ end = omega (arith, walk.0) in
    sym (take-take from end (walked next spans parts) le) ∙ (ap (take from) later ∙ (take-take from end next le
    ∙ take-with_part bytes s.at s.len part from walk.0 (omega (arith, within))))

pub StandIn-walked : (bytes : List ℕ) (spans : List Span) (parts : List (List ℕ)) (from : ℕ) → IsWalk spans from (length bytes) → FitSpans parts spans
    → StandIn (walked bytes spans parts) parts spans
StandIn-walked bytes [] [] from walk fit = tt
StandIn-walked bytes [] (part ∷ parts) from walk fit = absurd fit
StandIn-walked bytes (s ∷ spans) [] from walk fit = absurd fit
StandIn-walked bytes (s ∷ spans) (part ∷ parts) from walk fit =
    let end = s.at + s.len in let next = with_part bytes s.at s.len part in
    let within : end ≤ length bytes = IsWalk-le spans end (length bytes) walk.1 in
    let same = length-with_part bytes s.at s.len part fit.0 within in
    let on = subst (IsWalk spans end) (sym same) walk.1 in (
      sym (drop-take s.at s.len (walked next spans parts)) ∙ (ap (drop s.at) (take-walked next spans parts end on fit.1)
          ∙ (drop-take s.at s.len next ∙ part-with_part bytes s.at s.len part fit.0 (omega (arith, within)))),
      StandIn-walked next spans parts end on fit.1,
    )

outside-with_part : (bytes : List ℕ) (at len : ℕ) (part : List ℕ) (k : ℕ) → length part ≡ len → at + len ≤ length bytes → (k < at) ⊎ (at + len ≤ k)
    → get_or (with_part bytes at len part) k 0 ≡ get_or bytes k 0
outside-with_part bytes at len part k long within (inl before) =
    get_or-append (take at bytes) (part ++ drop (at + len) bytes) 0 k (omega (arith, before, within, length-take at bytes)) ∙ get_or-take at bytes k 0 before
outside-with_part bytes at len part k long within (inr behind) =
    let rest = drop (at + len) bytes in let back : at + len + (k - at - len) ≡ k = omega (arith, behind) in
    get_or-append_right (take at bytes) (part ++ rest) at k 0 (omega (arith, within, length-take at bytes)) (omega (arith, behind))
    ∙ (get_or-append_right part rest len (k - at) 0 long (omega (arith, behind))
    ∙ (get_or-drop (at + len) bytes (k - at - len) 0 ∙ ap (λ j. get_or bytes j 0) back))

pub outside-walked : (bytes : List ℕ) (spans : List Span) (parts : List (List ℕ)) (from k : ℕ)
    → IsWalk spans from (length bytes) → FitSpans parts spans → IsOutside k spans
    → get_or (walked bytes spans parts) k 0 ≡ get_or bytes k 0
outside-walked bytes [] parts from k walk fit out = refl
outside-walked bytes (s ∷ spans) [] from k walk fit out = refl
outside-walked bytes (s ∷ spans) (part ∷ parts) from k walk fit out =
    let end = s.at + s.len in let next = with_part bytes s.at s.len part in
    let within : end ≤ length bytes = IsWalk-le spans end (length bytes) walk.1 in
    let on = subst (IsWalk spans end) (sym (length-with_part bytes s.at s.len part fit.0 within)) walk.1 in
    outside-walked next spans parts end k on fit.1 out.1 ∙ outside-with_part bytes s.at s.len part k fit.0 within out.0

-- a walk that goes on
pub walked-append : (bytes : List ℕ) (spans more : List Span) (parts rest : List (List ℕ)) → FitSpans parts spans
    → walked bytes (spans ++ more) (parts ++ rest) ≡ walked (walked bytes spans parts) more rest
walked-append bytes [] more [] rest fit = refl
walked-append bytes [] more (part ∷ parts) rest fit = absurd fit
walked-append bytes (s ∷ spans) more [] rest fit = absurd fit
walked-append bytes (s ∷ spans) more (part ∷ parts) rest fit = walked-append (with_part bytes s.at s.len part) spans more parts rest fit.1
