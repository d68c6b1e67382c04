-- What waits for connection 1, and what is taken of it.
use Rattle.std.proofs.Common.{◌≡◌, ℕ, zero, suc, ◌<◌, ◌≤◌, ◌-◌, List, [], ◌∷◌, length, take, drop, flat_map}
use Rattle.std.proofs.Common.{refl, sym, ap, ◌∙◌, subst, inl, inr, arith, length-drop, length-take, true}
use Rattle.std.proofs.Common.{false, Bool}
use Rattle.std.specs.Prelude.{Option, Some, None, min, nat_le, nat_lt, if◌then◌else◌, filter, not, ◌==◌}
use Rattle.std.proofs.lemmas.Bool.{cases_Bool, cond-true, cond-false}
use Rattle.std.proofs.lemmas.Bool.Decides.{nat_tests}
use Rattle.std.proofs.lemmas.List.{take-append-le}
use Rattle.ads_outside.specs.declared.event.Event.TheVariants as event
use Rattle.ads_outside.specs.declared.moves.Move.TheVariants as move
use Rattle.spec_machine.specs.Connection.{Connection, connection_of}
use Rattle.spec_machine.specs.Events.{state_after_event}
use Rattle.spec_machine.specs.Moves.{state_after_move}
use Rattle.spec_machine.specs.Offers.{left_after, waiting_of, waiting_at}
use Rattle.spec_machine.specs.Running.{first_frame, offer_at}
use Rattle.spec_local.specs.LocalCall.{waiting_bytes}
use Rattle.server_core.specs.CoreState.{CoreState, after_event, after_move, OpensNew}
use Rattle.server_core.specs.Served.{Client, ServedState, served_step}
use Rattle.server_core.specs.Serves.{CoreView, Serves, Follows, offer_in}
use Rattle.local_link.specs.Link.{unblocked, TakesFirst}
use Rattle.local_link.specs.Giving.{CopiesOffer, TakesBytes, TakesNothing, Takes}

-- no empty frame is left
left_some : (fs : List (List ℕ)) (n : ℕ) (left : List ℕ) → first_frame (left_after n fs) ≡ Some left → 0 < length left
unfolding left_after
left_some [] n left e = absurd cc
left_some (f ∷ fs) n left e =
    elim (cases_Bool (nat_le (length f) n)) [
      | inl le ↦ left_some fs (n - length f) left (ap first_frame (sym (cond-true (nat_le (length f) n) _ _ le)) ∙ e)
      | inr gt ↦
          let first : Some (drop n f) ≡ Some left = ap first_frame (sym (cond-false (nat_le (length f) n) _ _ gt)) ∙ e in
          let same : drop n f ≡ left = cc in
          let len : length left ≡ length f - n = ap length (sym same) ∙ length-drop n f in
          let lt : n < length f = grind (arith, nat_tests, gt) in
          omega (arith, len, lt)
    ]

some_of : (o : Option (Connection Client)) (left : List ℕ) → first_frame (waiting_of o) ≡ Some left → 0 < length left
some_of None left e = absurd cc
some_of (Some k) left e = elim (cases_Bool k.gone) [
  | inl gone ↦ absurd (let none : None ≡ Some left = ap first_frame (sym (cond-true k.gone _ _ gone)) ∙ e in cc)
  | inr there ↦ left_some _ k.bytes_taken left (ap first_frame (sym (cond-false k.gone _ _ there)) ∙ e)
]

nothing_in : (ws : List (List ℕ)) → first_frame ws ≡ None → flat_map (λ f. f) ws ≡ []
nothing_in [] e = refl
nothing_in (f ∷ fs) e = absurd cc

first_in : (ws : List (List ℕ)) (left : List ℕ) (n : ℕ) → first_frame ws ≡ Some left → n ≤ length left → take n (flat_map (λ f. f) ws) ≡ take n left
first_in [] left n e le = absurd cc
first_in (f ∷ fs) left n e le =
    let same : f ≡ left = cc in
    let fits : n ≤ length f = omega (arith, le, ap length same) in
    take-append-le n f (flat_map (λ g. g) fs) fits ∙ ap (take n) same

-- after a Writable connection 1 is not blocked
freed : (b : Bool) → filter (λ c. not (c == 1)) (if b then 1 ∷ [] else []) ≡ []
freed true = refl
freed false = refl

takes_some : (n : ℕ) (buf : List ℕ) (new : CoreView) (s : ServedState) → 0 < n → length (take n buf) ≡ n → TakesBytes (take n buf) new s → Takes n buf new s
takes_some zero buf new s some len takes = absurd (omega (arith, some))
takes_some (suc n) buf new s some len takes = (len, takes)

took_of : (old mid new : CoreView) (s : ServedState) (n : ℕ) (buf : List ℕ) (o : Option (List ℕ)) → offer_in old 1 ≡ o → 0 < n → CopiesOffer n o buf
    → ((x : CoreState) → Serves old x → offer_in old 1 ≡ offer_at 1 x)
    → ((x : CoreState) (left bytes : List ℕ) → Serves old x → offer_in old 1 ≡ Some left
    → length bytes ≡ n → Follows old mid x (after_move x (move.Took 1 (length left) bytes)))
    → ((x : CoreState) → Serves mid x → OpensNew x (event.Writable 1) → Serves new (after_event x (event.Writable 1)))
    → Serves old (unblocked s) → Takes n buf new s
unfolding state_after_move state_after_event
took_of old mid new s n buf None e some copies machine took writes serves = absurd (omega (arith, some, copies))
took_of old mid new s n buf (Some left) e some copies machine took writes serves =
    let bytes = take n buf in
    let cut = length-take n buf in
    let fit = copies.fit in
    let len : length bytes ≡ n = omega (arith, cut, fit) in
    let first : first_frame (waiting_at 1 s) ≡ Some left = sym (machine (unblocked s) serves) ∙ e in
    let mid_state = after_move (unblocked s) (move.Took 1 (length left) bytes) in
    let taken = took (unblocked s) left bytes serves e len in
    let written = writes mid_state taken.serves tt in
    let t = state_after_move served_step s (move.Took 1 (length bytes) bytes) in
    takes_some n buf new s some len (record {
      first = ap (λ m. take m (waiting_bytes s)) len ∙ first_in (waiting_at 1 s) left n first copies.offered ∙ sym copies.copied;
      serves = subst (λ (bs : List ℕ). Serves new (record { state = t; blocked = bs })) (freed (nat_lt (length bytes) (length left))) written;
    })

none_of : (old : CoreView) (s : ServedState) (buf : List ℕ) (o : Option (List ℕ)) → offer_in old 1 ≡ o → CopiesOffer 0 o buf
    → ((x : CoreState) → Serves old x → offer_in old 1 ≡ offer_at 1 x)
    → Serves old (unblocked s) → TakesNothing old s
none_of old s buf None e copies machine serves = record { none = nothing_in (waiting_at 1 s) (sym (machine (unblocked s) serves) ∙ e); serves = serves }
none_of old s buf (Some left) e copies machine serves =
    absurd (let some = some_of (connection_of 1 s.connections) left (sym (machine (unblocked s) serves) ∙ e) in
    let empty : length left ≡ 0 = ap length (copies.some refl) in omega (arith, some, empty))

-- bytes of the offer were taken, and connection 1 was writable again
pub took_some : (old mid new : CoreView) (s : ServedState) (n : ℕ) (buf : List ℕ) → 0 < n → CopiesOffer n (offer_in old 1) buf
    → ((x : CoreState) → Serves old x → offer_in old 1 ≡ offer_at 1 x)
    → ((x : CoreState) (left bytes : List ℕ) → Serves old x → offer_in old 1 ≡ Some left
    → length bytes ≡ n → Follows old mid x (after_move x (move.Took 1 (length left) bytes)))
    → ((x : CoreState) → Serves mid x → OpensNew x (event.Writable 1) → Serves new (after_event x (event.Writable 1)))
    → Serves old (unblocked s) → Takes n buf new s
took_some old mid new s n buf some copies machine took freed_by serves =
    took_of old mid new s n buf (offer_in old 1) refl some copies machine took freed_by serves

-- nothing was offered
pub took_none : (old : CoreView) (s : ServedState) (buf : List ℕ) → CopiesOffer 0 (offer_in old 1) buf
    → ((x : CoreState) → Serves old x → offer_in old 1 ≡ offer_at 1 x)
    → Serves old (unblocked s) → TakesNothing old s
took_none old s buf copies machine serves = none_of old s buf (offer_in old 1) refl copies machine serves

-- as many as the offer has, or as the buffer takes
whole_of : (old : CoreView) (s : ServedState) (n size : ℕ) (buf : List ℕ) (o : Option (List ℕ)) → offer_in old 1 ≡ o → length buf ≡ size → 0 < n
    → CopiesOffer n o buf
    → ((x : CoreState) → Serves old x → offer_in old 1 ≡ offer_at 1 x) → Serves old (unblocked s) → TakesFirst n size s
whole_of old s n size buf None e long some copies machine serves = absurd (omega (arith, some, copies))
whole_of old s n size buf (Some left) e long some copies machine serves = record {
  left = left;
  first = sym (machine (unblocked s) serves) ∙ e;
  whole = copies.whole ∙ ap (min (length left)) long;
}

pub took_whole : (old : CoreView) (s : ServedState) (n size : ℕ) (buf : List ℕ) → length buf ≡ size → 0 < n → CopiesOffer n (offer_in old 1) buf
    → ((x : CoreState) → Serves old x → offer_in old 1 ≡ offer_at 1 x) → Serves old (unblocked s) → TakesFirst n size s
took_whole old s n size buf long some copies machine serves = whole_of old s n size buf (offer_in old 1) refl long some copies machine serves

pub taken_bytes : (n : ℕ) (buf : List ℕ) (new : CoreView) (s : ServedState) → 0 < n
    → Takes n buf new s → (length (take n buf) ≡ n) × TakesBytes (take n buf) new s
taken_bytes zero buf new s some takes = absurd (omega (arith, some))
taken_bytes (suc n) buf new s some takes = takes

pub taken_nothing : (n : ℕ) (buf : List ℕ) (new : CoreView) (s : ServedState) → n ≤ 0 → Takes n buf new s → TakesNothing new s
taken_nothing zero buf new s none takes = takes
taken_nothing (suc n) buf new s none takes = absurd (omega (arith, none))
