-- The slot at the front of a text.
use Rattle.std.proofs.Common.{◌≡◌, ◌≢◌, ℕ, ◌+◌, ◌-◌, ◌^◌, ◌<◌, ◌≤◌, List, ◌∷◌, ◌++◌, length, get_or, take}
use Rattle.std.proofs.Common.{drop, true, false, refl, sym, ◌∙◌, ap, inl, inr, arith, length-append}
use Rattle.std.specs.Prelude.{Some, None}
use Rattle.std.specs.Int.{w32, w64, from_le_bytes}
use Rattle.std.proofs.lemmas.Bool.{and_parts, and_from, and_left, leb-true, le-leb, eqb-true, eq-eqb, ne_eqb, cases_Bool}
use Rattle.std.proofs.lemmas.List.{length-take, take-take, take_at, drop-take, get_or-take}
use Rattle.std.proofs.lemmas.Nat.{from_le_bytes-to_le_bytes_4, from_le_bytes-to_le_bytes_8}
use Rattle.spec_formats.specs.Numbers.{number64}
use Rattle.spec_store.specs.BodyText.{is_body_text}
use Rattle.spec_store.specs.Slots.{MAX_BODY, Slot, behind_gate, is_open, body_length, body_at, counts, slot_of}

pub record Counted (t : List ℕ) : Type 0 where
  pub gate : is_open t ≡ true
  pub short : body_length t ≤ MAX_BODY
  pub whole : 13 + body_length t ≤ length t
  pub is_text : is_body_text (body_at t) ≡ true

abbrev pub slot_read : List ℕ → Slot
slot_read t = record { sequence = number64 1 t; body = body_at t }

pub counted : (t : List ℕ) → counts t ≡ true → Counted t
counted t h =
    let p = and_parts _ _ h in
    let q = and_parts _ _ (p.0) in
    let r = and_parts _ _ (q.1) in
    record {
      gate = q.0;
      short = leb-true (body_length t) MAX_BODY (r.0);
      whole = leb-true (13 + body_length t) (length t) (r.1);
      is_text = p.1;
    }

pub counts_from : (t : List ℕ) → Counted t → counts t ≡ true
counts_from t c =
    and_from _ _ (and_from _ _ c.gate (and_from _ _ (le-leb (body_length t) MAX_BODY c.short) (le-leb (13 + body_length t) (length t) c.whole))) c.is_text

pub slot_of-counting : (t : List ℕ) → counts t ≡ true → slot_of t ≡ Some (slot_read t)
unfolding slot_of
slot_of-counting t h = rw h refl

pub slot_of-not : (t : List ℕ) → counts t ≡ false → slot_of t ≡ None
unfolding slot_of
slot_of-not t h = rw h refl

pub slot_counts : (t : List ℕ) (s : Slot) → slot_of t ≡ Some s → Counted t
slot_counts t s e = elim (cases_Bool (counts t)) [
  | inl h ↦ counted t h
  | inr h ↦ absurd (let f : None ≡ Some s = sym (slot_of-not t h) ∙ e in cc)
]

pub slot_of-short : (t : List ℕ) → length t < 13 → slot_of t ≡ None
slot_of-short t lt = elim (cases_Bool (counts t)) [
  | inl h ↦ absurd (omega (arith, lt, (counted t h).whole))
  | inr h ↦ slot_of-not t h
]

pub slot_of-closed : (g : ℕ) (t : List ℕ) → g ≢ 1 → slot_of (g ∷ t) ≡ None
slot_of-closed g t ne = slot_of-not (g ∷ t) (and_left _ _ (and_left _ _ (ne_eqb g 1 ne)))

field : (i k n : ℕ) (xs : List ℕ) → i + k ≤ n → take k (drop i (take n xs)) ≡ take k (drop i xs)
field i k n xs le =
    let e : n ≡ i + (n - i) = omega (arith, le) in
    ap (λ (j : ℕ). take k (drop i (take j xs))) e ∙ ap (λ (l : List ℕ). take k l) (drop-take i (n - i) xs) ∙ take-take k (n - i) (drop i xs) (omega (arith, le))

field_same : (i k n : ℕ) (t u : List ℕ) → i + k ≤ n → take n u ≡ take n t → take k (drop i u) ≡ take k (drop i t)
field_same i k n t u le e = sym (field i k n u le) ∙ ap (λ (l : List ℕ). take k (drop i l)) e ∙ field i k n t le

-- a slot that counts is told by its own bytes
pub same_slot : (n : ℕ) (t u : List ℕ) → Counted t → 13 + body_length t ≤ n → take n u ≡ take n t → slot_of u ≡ slot_of t
same_slot n t u c le e =
    let gate : get_or u 0 0 ≡ get_or t 0 0 =
    sym (get_or-take n u 0 0 (omega (arith, le))) ∙ ap (λ (l : List ℕ). get_or l 0 0) e ∙ get_or-take n t 0 0 (omega (arith, le)) in
    let len : body_length u ≡ body_length t = ap (λ (l : List ℕ). from_le_bytes w32 l) (field_same 9 4 n t u (omega (arith, le)) e) in
    let sequence : number64 1 u ≡ number64 1 t = ap (λ (l : List ℕ). from_le_bytes w64 l) (field_same 1 8 n t u (omega (arith, le)) e) in
    let body : body_at u ≡ body_at t = ap (λ (k : ℕ). take k (drop 13 u)) len ∙ field_same 13 (body_length t) n t u le e in
    let open_gate : is_open u ≡ true = eq-eqb (get_or u 0 0) 1 (gate ∙ eqb-true (get_or t 0 0) 1 c.gate) in
    let lengths : length (take n u) ≡ length (take n t) = ap (λ (l : List ℕ). length l) e in
    let counted_u : Counted u = record {
      gate = open_gate;
      short = omega (arith, len, c.short);
      whole = omega (arith, len, le, lengths, length-take n u, length-take n t, c.whole);
      is_text = ap is_body_text body ∙ c.is_text;
    } in
    let same : slot_read u ≡ slot_read t = cc in
    slot_of-counting u (counts_from u counted_u) ∙ ap Some same ∙ sym (slot_of-counting t (counts_from t c))

abbrev slot_with : ℕ → List ℕ → Slot
slot_with sequence body = record { sequence = sequence; body = body }

-- a slot that is written is read
pub slot_of-written : (s : Slot) (rest : List ℕ) → s.sequence < 2 ^ 64 → length s.body ≤ MAX_BODY
    → is_body_text s.body ≡ true → slot_of (1 ∷ (behind_gate s ++ rest)) ≡ Some s
slot_of-written s rest number short is_text =
    let t : List ℕ = 1 ∷ (behind_gate s ++ rest) in
    let sequence : number64 1 t ≡ s.sequence = from_le_bytes-to_le_bytes_8 s.sequence number in
    let len : body_length t ≡ length s.body = from_le_bytes-to_le_bytes_4 (length s.body) (omega (arith, short)) in
    let body : body_at t ≡ s.body = ap (λ (k : ℕ). take k (s.body ++ rest)) len ∙ take_at s.body rest (length s.body) refl in
    let same : slot_read t ≡ s = ap (λ (q : ℕ). slot_with q (body_at t)) sequence ∙ ap (slot_with s.sequence) body in
    let c : Counted t = record {
      gate = refl;
      short = omega (arith, len, short);
      whole = omega (arith, len, length-append s.body rest);
      is_text = ap is_body_text body ∙ is_text;
    } in
    slot_of-counting t (counts_from t c) ∙ ap Some same
