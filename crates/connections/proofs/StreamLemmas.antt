-- What an answer of the splitter says of the packets that a connection has left.
use Rattle.std.proofs.Common.{◌≡◌, ℕ, ◌+◌, List, [], ◌∷◌, length, drop, Bool, true, false, refl, sym, ap, ◌∙◌, subst, inl, inr}
use Rattle.std.specs.Prelude.{slice_get, Option, Some, None}
use Rattle.std.proofs.lemmas.Bool.{cases_lt}
use Rattle.std.proofs.lemmas.List.{drop_more, drop_all}
use Rattle.std.proofs.lemmas.Option.{slice_get-get_or, slice_get_within, get_or_from_slice_get}
use Rattle.spec_frames.specs.Division.{Front, Whole, Open, Broken, front_of, frames_of, rest_of, is_broken}
use Rattle.ams_tcp.specs.Held.{Held}
use Rattle.ams_tcp.specs.History.{History, Represents, answer_of, answer_for, answer_for_rest, after_next, after_answer}
use Rattle.ams_tcp.specs.declared.cut.Cut.TheVariants as cut

-- the rest gives no frame
no_frame : (packet : List ℕ) (f : Front) → cut.Frame packet ≡ answer_for_rest f → ⊥
no_frame packet Whole e = cc
no_frame packet Open e = cc
no_frame packet Broken e = cc

rest_open : (f : Front) → cut.NotYet ≡ answer_for_rest f → is_broken f ≡ false
rest_open Whole e = refl
rest_open Open e = refl
rest_open Broken e = cc

rest_broken : (f : Front) → cut.Broken ≡ answer_for_rest f → is_broken f ≡ true
rest_broken Whole e = cc
rest_broken Open e = cc
rest_broken Broken e = refl

frame_is_there : (packet : List ℕ) (o : Option (List ℕ)) (rest : List ℕ) → cut.Frame packet ≡ answer_for o rest → o ≡ Some packet
frame_is_there packet (Some ams) rest e = cc
frame_is_there packet None rest e = absurd (no_frame packet (front_of rest) e)

none_is_open : (o : Option (List ℕ)) (rest : List ℕ) → cut.NotYet ≡ answer_for o rest → (o ≡ None) × (is_broken (front_of rest) ≡ false)
none_is_open (Some ams) rest e = absurd (let no : cut.NotYet ≡ cut.Frame ams = e in cc)
none_is_open None rest e = (refl, rest_open (front_of rest) e)

none_is_broken : (o : Option (List ℕ)) (rest : List ℕ) → cut.Broken ≡ answer_for o rest → (o ≡ None) × (is_broken (front_of rest) ≡ true)
none_is_broken (Some ams) rest e = absurd (let no : cut.Broken ≡ cut.Frame ams = e in cc)
none_is_broken None rest e = (refl, rest_broken (front_of rest) e)

-- the packets of a connection whose stream has this history
pub packet_is_next : (h : History) (packet : List ℕ) → cut.Frame packet ≡ answer_of h
    → drop h.given (frames_of h.fed) ≡ packet ∷ drop (h.given + 1) (frames_of h.fed)
unfolding answer_of
packet_is_next h packet e =
    let some = frame_is_there packet (slice_get (frames_of h.fed) h.given) (rest_of h.fed) e in
    let within = slice_get_within (frames_of h.fed) h.given packet some in
    drop_more (frames_of h.fed) h.given [] within
    ∙ ap (λ x. x ∷ drop (h.given + 1) (frames_of h.fed)) (get_or_from_slice_get (frames_of h.fed) h.given packet [] some)

no_packets : (xs : List (List ℕ)) (i : ℕ) → slice_get xs i ≡ None → drop i xs ≡ []
no_packets xs i e = elim (cases_lt i (length xs)) [
  | inl below ↦ absurd (let some = sym e ∙ slice_get-get_or xs i [] below in cc)
  | inr above ↦ drop_all i xs above
]

pub record IsAtRest (h : History) (broken : Bool) : Type 0 where
  pub none_left : drop h.given (frames_of h.fed) ≡ []
  pub rest : is_broken (front_of (rest_of h.fed)) ≡ broken

pub rest_is_open : (h : History) → cut.NotYet ≡ answer_of h → IsAtRest h false
unfolding answer_of
rest_is_open h e =
    let both = none_is_open (slice_get (frames_of h.fed) h.given) (rest_of h.fed) e in
    record { none_left = no_packets (frames_of h.fed) h.given both.0; rest = both.1 }

pub rest_is_broken : (h : History) → cut.Broken ≡ answer_of h → IsAtRest h true
unfolding answer_of
rest_is_broken h e =
    let both = none_is_broken (slice_get (frames_of h.fed) h.given) (rest_of h.fed) e in
    record { none_left = no_packets (frames_of h.fed) h.given both.0; rest = both.1 }

-- the mark of the history is that of the splitter
pub own_mark : (held : Held) (h : History) → Represents held h → Represents held (record h { told_broken = held.told_broken })
own_mark held h s = record { rest = s.rest; given = s.given; told_broken = refl }

pub after_frame : (held : Held) (h : History) (packet : List ℕ) → cut.Frame packet ≡ answer_of h → Represents held (after_next h)
    → Represents held (record { fed = h.fed; given = h.given + 1; told_broken = held.told_broken })
after_frame held h packet e s = own_mark held (record h { given = h.given + 1 }) (subst (λ x. Represents held (after_answer x h)) (sym e) s)
