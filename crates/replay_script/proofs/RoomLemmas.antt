-- Rooms, as they are kept and as the machine's script has them.
use Rattle.std.proofs.Common.{◌≡◌, ◌≢◌, ℕ, ◌-◌, ◌≤◌, ◌<◌, List, [], ◌∷◌, length, true, false, cond, refl, sym, ap, ◌∙◌, subst, min, inl, inr, arith}
use Rattle.std.specs.Prelude.{◌==◌, nat_eq, Option, Some, None, Result, Ok, Err, OnOk, OnErr}
use Rattle.indexmap.specs.IndexMap.{IndexMap, get, Updates}
use Rattle.std.specs.Option.{option_map}
use Rattle.std.proofs.lemmas.Bool.{cases_eq}
use Rattle.std.proofs.lemmas.List.{nil_from_length}
use Rattle.spec_machine.specs.Peers.{Room, taken_by, rooms_after}
use Rattle.spec_machine.proofs.Find.{test_same, test_other}
use Rattle.replay_script.specs.declared.rooms.Rooms.{Rooms}
use Rattle.replay_script.specs.Rooms.{room_at}

abbrev pub taken_of : Option ℕ → ℕ → ℕ
taken_of None n = n
taken_of (Some left) n = min left n

if_taken : (b : _) (left n : ℕ) (o : Option ℕ) (m : ℕ) → m ≡ taken_of o n → cond b (min left n) m ≡ taken_of (cond b (Some left) o) n
if_taken true left n o m e = refl
if_taken false left n o m e = e

pub taken_by-room : (rs : List Room) (c n : ℕ) → taken_by rs c n ≡ taken_of (room_at rs c) n
taken_by-room [] c n = refl
taken_by-room (r ∷ rs) c n = if_taken (r.number == c) r.left n (room_at rs c) (taken_by rs c n) (taken_by-room rs c n)

-- the room of the connection that took bytes
pub after-own : (rs : List Room) (c n : ℕ) → room_at (rooms_after rs c n) c ≡ option_map (λ left. left - n) (room_at rs c)
after-own [] c n = refl
after-own (r ∷ rs) c n = elim (cases_eq r.number c) [
  | inl e ↦ let t = test_same r.number c e in rw (t, t) refl
  | inr e ↦ let t = test_other r.number c e in rw (t, t) (after-own rs c n)
]

-- and of another
pub after-other : (rs : List Room) (c n d : ℕ) → c ≢ d → room_at (rooms_after rs c n) d ≡ room_at rs d
after-other [] c n d differs = refl
after-other (r ∷ rs) c n d differs = elim (cases_eq r.number c) [
  | inl e ↦ let t = test_same r.number c e in let u = test_other r.number d (λ f. differs (sym e ∙ f)) in rw (t, u) refl
  | inr e ↦ let t = test_other r.number c e in rw t (ap (λ o. cond (r.number == d) (Some r.left) o) (after-other rs c n d differs))
]

-- what a connection takes: what is left, all, or all since it is not bounded
pub takes_left : (rs : List Room) (c n left : ℕ) → Some left ≡ room_at rs c → left < n → left ≡ taken_by rs c n
takes_left rs c n left found less = let least : left ≡ min left n = omega arith in least ∙ sym (taken_by-room rs c n ∙ ap (λ o. taken_of o n) (sym found))

pub takes_all : (rs : List Room) (c n left : ℕ) → Some left ≡ room_at rs c → n ≤ left → n ≡ taken_by rs c n
takes_all rs c n left found more = let least : n ≡ min left n = omega arith in least ∙ sym (taken_by-room rs c n ∙ ap (λ o. taken_of o n) (sym found))

pub takes_free : (rs : List Room) (c n : ℕ) → None ≡ room_at rs c → n ≡ taken_by rs c n
takes_free rs c n found = sym (taken_by-room rs c n ∙ ap (λ o. taken_of o n) (sym found))

-- a connection that is not bounded stays so
pub free_after : (rs : List Room) (c n : ℕ) → None ≡ room_at rs c → (d : ℕ) → room_at rs d ≡ room_at (rooms_after rs c n) d
free_after rs c n found d = elim (cases_eq c d) [
  | inl e ↦ (let own : room_at (rooms_after rs c n) c ≡ room_at rs c = after-own rs c n ∙ (ap (option_map (λ left. left - n)) (sym found) ∙ found) in
      let P = ap (λ k. room_at rs k) e in sym P ∙ (sym own ∙ ap (λ k. room_at (rooms_after rs c n) k) e))
  | inr e ↦ sym (after-other rs c n d e)
]

pub was_put : {T E U A : Type 0} (r : Result T E) → OnOk r U → OnErr r A → (A → ⊥) → U
was_put (Ok v) put absent there = put
was_put (Err e) put absent there = absurd (there absent)

-- what is put in a map
pub after_put : {S : Type 0} (rs : List Room) (c n left less : ℕ) (old new : IndexMap ℕ ℕ S)
    → get nat_eq old c ≡ Some left → less ≡ left - n → Updates nat_eq old new c (Some less)
    → ((d : ℕ) → get nat_eq old d ≡ room_at rs d) → (d : ℕ) → get nat_eq new d ≡ room_at (rooms_after rs c n) d
after_put rs c n left less old new found is put holds d = elim (cases_eq c d) [
  | inl e ↦ (let here : get nat_eq new c ≡ room_at (rooms_after rs c n) c = put.1
      ∙ (ap Some is ∙ sym (after-own rs c n ∙ ap (option_map (λ l. l - n)) (sym (holds c) ∙ found))) in
      let P : ℕ → Type 0 = λ k. get nat_eq new k ≡ room_at (rooms_after rs c n) k in subst P e here)
  | inr e ↦ put.2 d (test_other c d e) ∙ (holds d ∙ sym (after-other rs c n d e))
]

-- no connection is bounded
pub none_bounded : (rooms : Rooms) (c : ℕ) → length rooms.map.entries ≡ 0 → None ≡ get nat_eq rooms.map c
none_bounded rooms c none = let empty = nil_from_length rooms.map.entries none in rw empty refl
