-- What is kept stands for the history, after a piece and after each answer.
use Rattle.std.proofs.Common.{◌≡◌, ◌≢◌, ℕ, ◌+◌, ◌-◌, ◌≤◌, List, [], ◌++◌, length, take, drop, cond, true, refl, sym, ap, ◌∙◌, subst, inl, inr, arith}
use Rattle.std.specs.Prelude.{Some, None}
use Rattle.std.proofs.lemmas.Bool.{cases_lt}
use Rattle.std.proofs.lemmas.List.{length-append}
use Rattle.std.proofs.lemmas.Option.{slice_get-get_or, slice_get_past}
use Rattle.spec_frames.specs.Division.{Whole, Open, Broken, front_of, frames_of, left_behind, rest_of, packet_of, behind_frame, ams_length_of}
use Rattle.spec_frames.proofs.DivisionLemmas.{frames_of-append, left_behind-append, left_behind-more, next_frame, is_next, is_rest}
use Rattle.ams_tcp.specs.Held.{Held}
use Rattle.ams_tcp.specs.History.{History, Represents, after_feed, answer_of, answer_for, answer_for_rest, after_next, after_answer, broken_of}
use Rattle.ams_tcp.specs.declared.cut.Cut.TheVariants as cut

pub fed_more : (held new : Held) (h : History) (piece : List ℕ) → new.rest ≡ held.rest ++ piece → new.told_broken ≡ held.told_broken
    → Represents held h → Represents new (after_feed h piece)
fed_more held new h piece rest told s = record {
  rest = rest ∙ ap (λ bs. bs ++ piece) s.rest ∙ sym (left_behind-append h.given h.fed piece s.given);
  given = rw (frames_of-append piece h.fed, length-append) (omega (arith, s.given));
  told_broken = told ∙ s.told_broken;
}

-- a whole frame in front of what is kept is the next one
pub answer_of-frame : (held : Held) (h : History) → front_of held.rest ≡ Whole → Represents held h → answer_of h ≡ cut.Frame (packet_of held.rest)
unfolding answer_of
answer_of-frame held h e s =
    let whole : front_of (left_behind h.given h.fed) ≡ Whole = ap (λ t. front_of t) (sym s.rest) ∙ e in
    let below = is_next h.given h.fed s.given whole in
    let some = slice_get-get_or (frames_of h.fed) h.given [] below in
    ap (λ o. answer_for o (rest_of h.fed)) some
    ∙ ap (λ ams. cut.Frame ams) ((next_frame h.given h.fed below).packet [] ∙ ap (λ t. packet_of t) (sym s.rest))

past : (held : Held) (h : History) → front_of held.rest ≢ Whole → Represents held h → length (frames_of h.fed) ≤ h.given
past held h no_frame s = elim (cases_lt h.given (length (frames_of h.fed))) [
  | inl below ↦ absurd (no_frame (ap (λ t. front_of t) s.rest ∙ (next_frame h.given h.fed below).whole))
  | inr above ↦ above
]

-- and else the rest decides
pub answer_of-rest : (held : Held) (h : History) → front_of held.rest ≢ Whole → Represents held h → answer_of h ≡ answer_for_rest (front_of held.rest)
unfolding answer_of
answer_of-rest held h no_frame s =
    let rest = is_rest h.given h.fed s.given (λ e. no_frame (ap (λ t. front_of t) s.rest ∙ e)) in
    let none = slice_get_past (frames_of h.fed) h.given (past held h no_frame s) in
    ap (λ o. answer_for o (rest_of h.fed)) none ∙ ap (λ t. answer_for_rest (front_of t)) (sym rest ∙ sym s.rest)

pub given_frame : (held new : Held) (h : History) → front_of held.rest ≡ Whole → new.rest ≡ behind_frame held.rest → new.told_broken ≡ held.told_broken
    → Represents held h → Represents new (after_next h)
given_frame held new h e rest told s =
    let below = is_next h.given h.fed s.given (ap (λ t. front_of t) (sym s.rest) ∙ e) in
    subst (λ x. Represents new (after_answer x h)) (sym (answer_of-frame held h e s)) (record {
      rest = rest ∙ ap (λ t. behind_frame t) s.rest ∙ sym (left_behind-more h.given h.fed);
      given = omega arith;
      told_broken = told ∙ s.told_broken;
    })

pub answer_not_yet : (held : Held) (h : History) → front_of held.rest ≡ Open → Represents held h → answer_of h ≡ cut.NotYet
answer_not_yet held h e s = answer_of-rest held h (λ w. let both : Open ≡ Whole = sym e ∙ w in cc) s ∙ ap answer_for_rest e

pub given_not_yet : (held : Held) (h : History) → front_of held.rest ≡ Open → Represents held h → Represents held (after_next h)
given_not_yet held h e s = subst (λ x. Represents held (after_answer x h)) (sym (answer_not_yet held h e s)) s

pub answer_broken : (held : Held) (h : History) → front_of held.rest ≡ Broken → Represents held h → answer_of h ≡ cut.Broken
answer_broken held h e s = answer_of-rest held h (λ w. let both : Broken ≡ Whole = sym e ∙ w in cc) s ∙ ap answer_for_rest e

pub given_broken : (held new : Held) (h : History) → front_of held.rest ≡ Broken → new.rest ≡ held.rest → new.told_broken ≡ true
    → Represents held h → Represents new (after_next h)
given_broken held new h e rest told s =
    subst (λ x. Represents new (after_answer x h)) (sym (answer_broken held h e s)) (record { rest = rest ∙ s.rest; given = s.given; told_broken = told })

-- once Broken was answered the rest is behind all frames, and begins with the broken bytes
pub told_bytes : (held : Held) (h : History) (bytes : List ℕ) → held.told_broken ≡ true → front_of held.rest ≡ Broken → Represents held h
    → bytes ≡ take 6 held.rest → Some bytes ≡ broken_of h
told_bytes held h bytes told e s six =
    let rest = s.rest ∙ is_rest h.given h.fed s.given (λ w. let both : Broken ≡ Whole = sym e ∙ ap (λ t. front_of t) s.rest ∙ w in cc) in
    ap (λ x. Some x) (six ∙ ap (λ bs. take 6 bs) rest) ∙ sym (ap (λ b. cond b (Some (take 6 (rest_of h.fed))) None) (sym s.told_broken ∙ told))

pub packet_is : (text : List ℕ) (len : ℕ) → len ≡ ams_length_of text → take (6 + len - 6) (drop 6 text) ≡ packet_of text
unfolding packet_of
packet_is text len e = let same : 6 + len - 6 ≡ ams_length_of text = omega (arith, e) in rw same refl

pub behind_is : (text : List ℕ) (len : ℕ) → len ≡ ams_length_of text → drop (6 + len) text ≡ behind_frame text
unfolding behind_frame
behind_is text len e = rw e refl
