-- What is heard, one byte after another.
use Rattle.std.proofs.Common.{◌≡◌, ℕ, ◌+◌, ◌<◌, ◌≤◌, List, [], ◌∷◌, ◌++◌, drop, length, get_or, refl, ap, sym, ◌∙◌, add-one, append-nil, append_assoc}
use Rattle.std.proofs.Math.Seq.{drop-cons}
use Rattle.std.proofs.lemmas.List.{drop_all}
use Rattle.std.specs.List.{flat_map}
use Rattle.local_router.specs.declared.ask.Ask.{Ask}
use Rattle.local_router.specs.declared.front.Front.{Front}
use Rattle.local_router.specs.declared.front.Front.TheVariants as front
use Rattle.local_router.specs.declared.local.Local.{Local}
use Rattle.local_router.specs.declared.local.Rest.{Rest}
use Rattle.local_router.specs.declared.local.Rest.TheVariants as rest
use Rattle.local_router.specs.Asks.{reply_bytes}
use Rattle.local_router.specs.Fronts.{front_of}
use Rattle.local_router.specs.Heard.{Heard, heard, heard_at, local_of, answered_before}

abbrev pub answered : List ℕ → Rest → Local
answered reply left = record { reply = reply; rest = left }

-- nothing is answered yet
pub begins : (l : Local) → answered_before [] l ≡ l
begins l = refl

-- the bytes at a place and behind it
at_place : (bytes : List ℕ) (i : ℕ) → i < length bytes → drop i bytes ≡ get_or bytes i 0 ∷ drop (i + 1) bytes
at_place bytes i within = rw add-one (drop-cons bytes i 0 within)

-- one byte more, which makes this of the text
one_byte : (text bytes : List ℕ) (i : ℕ) (f : Front) → i < length bytes → front_of (text ++ get_or bytes i 0 ∷ []) ≡ f
    → heard text (drop i bytes) ≡ heard_at f (heard [] (drop (i + 1) bytes)) (heard (text ++ get_or bytes i 0 ∷ []) (drop (i + 1) bytes))
    (text ++ get_or bytes i 0 ∷ drop (i + 1) bytes)
unfolding heard
one_byte text bytes i f within is =
    ap (heard text) (at_place bytes i within)
    ∙ ap (λ g. heard_at g (heard [] (drop (i + 1) bytes)) (heard (text ++ get_or bytes i 0 ∷ []) (drop (i + 1) bytes))
    (text ++ get_or bytes i 0 ∷ drop (i + 1) bytes)) is

module _ (net reply text text1 bytes : List ℕ) (i : ℕ) (all : Local) (within : i < length bytes) (one : text1 ≡ text ++ get_or bytes i 0 ∷ [])
    (so_far : answered_before reply (local_of net (heard text (drop i bytes))) ≡ all) where
  -- what is heard of a text and the bytes that are left
  abbrev at_front : Front → List ℕ → List ℕ → Heard
  at_front f t = heard_at f (heard [] (drop (i + 1) bytes)) (heard t (drop (i + 1) bytes))

  by_front : (f : Front) → f ≡ front_of text1 → answered_before reply (local_of net (at_front f text1 (text1 ++ drop (i + 1) bytes))) ≡ all
  by_front f is =
      ap (λ t. answered_before reply (local_of net (at_front f t (t ++ drop (i + 1) bytes)))) one
      ∙ ap (λ t. answered_before reply (local_of net (at_front f (text ++ get_or bytes i 0 ∷ []) t)))
      (append_assoc text (get_or bytes i 0 ∷ []) (drop (i + 1) bytes))
      ∙ sym (ap (λ h. answered_before reply (local_of net h)) (one_byte text bytes i f within (sym (is ∙ ap front_of one))))
      ∙ so_far

  pub when_asked : (a : Ask) (reply1 text2 : List ℕ) → front.Asks a ≡ front_of text1 → reply1 ≡ reply ++ reply_bytes net a → text2 ≡ []
      → answered_before reply1 (local_of net (heard text2 (drop (i + 1) bytes))) ≡ all
  when_asked a reply1 text2 is more empty =
      ap (λ r. answered_before r (local_of net (heard text2 (drop (i + 1) bytes)))) more
      ∙ ap (λ t. answered_before (reply ++ reply_bytes net a) (local_of net (heard t (drop (i + 1) bytes)))) empty
      ∙ ap (λ r. answered r (heard [] (drop (i + 1) bytes)).rest)
      (append_assoc reply (reply_bytes net a) (flat_map (reply_bytes net) (heard [] (drop (i + 1) bytes)).asks))
      ∙ by_front (front.Asks a) is

  pub when_begun : (reply1 text2 : List ℕ) → front.Begun ≡ front_of text1 → reply1 ≡ reply → text2 ≡ text1
      → answered_before reply1 (local_of net (heard text2 (drop (i + 1) bytes))) ≡ all
  when_begun reply1 text2 is same begun =
      ap (λ r. answered_before r (local_of net (heard text2 (drop (i + 1) bytes)))) same
      ∙ ap (λ t. answered_before reply (local_of net (heard t (drop (i + 1) bytes)))) begun
      ∙ by_front front.Begun is

  pub when_foreign : (text2 : List ℕ) → front.Foreign ≡ front_of text1 → text2 ≡ text1 ++ drop (i + 1) bytes
      → answered reply (rest.Passes text2) ≡ all
  when_foreign text2 is more =
      ap (λ t. answered reply (rest.Passes t)) more
      ∙ ap (λ r. answered r (rest.Passes (text1 ++ drop (i + 1) bytes))) (sym (append-nil reply))
      ∙ by_front front.Foreign is

-- behind the last byte
pub when_all : (net reply text bytes : List ℕ) (i : ℕ) (all : Local) → length bytes ≤ i
    → answered_before reply (local_of net (heard text (drop i bytes))) ≡ all → answered reply (rest.Waits text) ≡ all
unfolding heard
when_all net reply text bytes i all passed so_far =
    ap (λ r. answered r (rest.Waits text)) (sym (append-nil reply))
    ∙ sym (ap (λ bs. answered_before reply (local_of net (heard text bs))) (drop_all i bytes passed))
    ∙ so_far
