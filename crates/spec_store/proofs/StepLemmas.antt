-- The three steps of a save: what a stop in one of them leaves, and what stands behind it.
use Rattle.std.proofs.Common.{◌≡◌, ◌≢◌, ◌⊎◌, ℕ, ◌+◌, ◌^◌, ◌<◌, ◌≤◌, min, List, [], ◌∷◌, ◌++◌, length, get_or}
use Rattle.std.proofs.Common.{take, drop, Bool, true, false, refl, sym, ◌∙◌, ap, inl, inr, arith}
use Rattle.std.specs.Prelude.{Option, Some, None, not, nat_lt, ◌==◌}
use Rattle.std.proofs.lemmas.Bool.{and_cases, and_parts, and_from, cases_Bool, cases_lt, cases_eq, lt-ltb, ltb-true, eqb-true, not-true, false≢true, true≢false}
use Rattle.std.proofs.lemmas.List.{length-drop, take-take, drop-drop, drop_more, get_or-take, get_or-drop}
use Rattle.spec_store.specs.Disk.{written, Torn}
use Rattle.spec_store.specs.BodyText.{is_body_text}
use Rattle.spec_store.specs.Slots.{MAX_BODY, SECOND_SLOT, Slot, behind_gate, is_open, slot_of, standing_of}
use Rattle.spec_store.specs.Saves.{place_of, goes_second, next_sequence, next_slot, standing_after, has_closed_gate}
use Rattle.spec_store.specs.Laws.{IsBeforeOrAfter, ClosesGate, IsFilled, FillsSlot, OpensGate}
use Rattle.spec_store.proofs.DiskLemmas.{drop-written, length-written, torn-written, torn_front, torn_behind, torn_byte}
use Rattle.spec_store.proofs.SlotLemmas.{slot_counts, slot_of-short, slot_of-closed, same_slot, slot_of-written}
use Rattle.spec_store.proofs.StandingLemmas.{without_first, without_second, first_there, with_first, with_second}

-- the slot that a save goes to
abbrev pub own : Bool → List ℕ → Option Slot
own b c = slot_of (drop (place_of b) c)

-- the other slot is as it was
abbrev pub SameOther : Bool → List ℕ → List ℕ → Type 0
SameOther false f c = slot_of (drop SECOND_SLOT c) ≡ slot_of (drop SECOND_SLOT f)
SameOther true f c = slot_of c ≡ slot_of f

-- a write into a slot leaves the other one
pub torn_other : (b : Bool) (at n : ℕ) (f c : List ℕ) → goes_second (standing_of f) ≡ b
    → place_of b ≤ at → at + n ≤ place_of b + 1048589 → Torn at n f c → SameOther b f c
unfolding standing_of
torn_other false at n f c e from to torn = ap slot_of (torn_behind at n SECOND_SLOT f c (omega (arith, to)) torn)
torn_other true at n f c e from to torn =
    let a = first_there (slot_of f) (slot_of (drop SECOND_SLOT f)) e in
    let k = slot_counts f (a.0) (a.1) in
    let m = min SECOND_SLOT (length f) in
    let new_part : take m (take (min at (length f)) c) ≡ take m c = take-take m (min at (length f)) c (omega (arith, from)) in
    let old_part : take m (take at f) ≡ take m f = take-take m at f (omega (arith, from)) in
    same_slot m f c k (omega (arith, k.short, k.whole)) (sym new_part ∙ ap (λ (l : List ℕ). take m l) torn.before ∙ old_part)

-- where the own slot does not count, or is as it was, the file stands for what it stood for
pub stands_on : (b : Bool) (f c : List ℕ) → goes_second (standing_of f) ≡ b
    → SameOther b f c → (own b c ≡ None) ⊎ (own b c ≡ own b f) → standing_of c ≡ standing_of f
unfolding standing_of
stands_on false f c e other (inl none) = rw (none, other) (without_first (slot_of f) (slot_of (drop SECOND_SLOT f)) e)
stands_on false f c e other (inr same) = rw (same, other) refl
stands_on true f c e other (inl none) = rw (none, other) (without_second (slot_of f) (slot_of (drop SECOND_SLOT f)) e)
stands_on true f c e other (inr same) = rw (same, other) refl

-- where the own slot is the new one, the file stands for it
pub stands_new : (b : Bool) (f c body : List ℕ) → goes_second (standing_of f) ≡ b → SameOther b f c
    → own b c ≡ Some (next_slot (standing_of f) body) → standing_of c ≡ Some (standing_after (standing_of f) body)
unfolding standing_of
stands_new false f c body e other new = rw (new, other) (with_first (slot_of f) (slot_of (drop SECOND_SLOT f)) body e)
stands_new true f c body e other new = rw (new, other) (with_second (slot_of f) (slot_of (drop SECOND_SLOT f)) body e)

-- a gate that is not closed in the file is open, or the file does not reach it
gate_open : (place : ℕ) (f : List ℕ) → has_closed_gate place f ≡ false → place < length f → drop place f ≡ 1 ∷ drop (place + 1) f
gate_open place f h lt =
    let gate = drop_more f place 0 lt in
    elim (and_cases (nat_lt place (length f)) (not (is_open (drop place f))) h) [
      | inl t ↦ absurd (false≢true (sym t ∙ lt-ltb place (length f) lt))
      | inr t ↦
          elim (cases_Bool (is_open (drop place f))) [
            | inl o ↦
                let is : get_or f place 0 ≡ 1 =
                ap (λ (i : ℕ). get_or f i 0) (omega arith) ∙ sym (get_or-drop place f 0 0) ∙ eqb-true (get_or (drop place f) 0 0) 1 o in
                gate ∙ ap (λ (g : ℕ). g ∷ drop (place + 1) f) is
            | inr o ↦ absurd (true≢false (rw o at t))
          ]
    ]

pub close_own : (b : Bool) (f c : List ℕ) → has_closed_gate (place_of b) f ≡ false → Torn (place_of b) 1 f c → (own b c ≡ None) ⊎ (own b c ≡ own b f)
close_own b f c h torn = elim (cases_lt place (length f)) [
  | inl lt ↦
      let is = torn_byte place f c (omega (arith, lt)) torn in
      let was = gate_open place f h lt in
      elim (cases_eq (get_or c place 0) 1) [
        | inl one ↦ inr (ap slot_of (is ∙ ap (λ (g : ℕ). g ∷ drop (place + 1) f) one ∙ sym was))
        | inr ne ↦ inl (ap slot_of is ∙ slot_of-closed (get_or c place 0) (drop (place + 1) f) ne)
      ]
  | inr ge ↦ inl (slot_of-short (drop place c) (omega (arith, length-drop place c, torn.no_longer, ge)))
]
  where
    place : ℕ
    place = place_of b

pub closes_gate : (b : Bool) (f : List ℕ) → goes_second (standing_of f) ≡ b → has_closed_gate (place_of b) f ≡ false → ClosesGate f (place_of b)
closes_gate b f e h =
    let place = place_of b in
    let stop : (c : List ℕ) → Torn place 1 f c → standing_of c ≡ standing_of f =
    λ c torn. stands_on b f c e (torn_other b place 1 f c e (omega arith) (omega arith) torn) (close_own b f c h torn) in
    record {
      stop = stop;
      standing = stop (written place (0 ∷ []) f) (torn-written place (0 ∷ []) f);
      closed = and_from _ _ (lt-ltb place (length (written place (0 ∷ []) f)) (omega (arith, length-written place (0 ∷ []) f)))
          (ap (λ (l : List ℕ). not (is_open l)) (drop-written place (0 ∷ []) f));
    }

-- what a closed gate is
record GateShut (place : ℕ) (f : List ℕ) : Type 0 where
  there : place < length f
  shut : get_or f place 0 ≢ 1

gate_shut : (place : ℕ) (f : List ℕ) → has_closed_gate place f ≡ true → GateShut place f
gate_shut place f h =
    let p = and_parts (nat_lt place (length f)) (not (is_open (drop place f))) h in
    let o : is_open (drop place f) ≡ false = not-true (is_open (drop place f)) (p.1) in
    record {
      there = ltb-true place (length f) (p.0);
      shut = λ one. false≢true (sym o ∙ opened one);
    }
  where
    opened : get_or f place 0 ≡ 1 → is_open (drop place f) ≡ true
    opened one =
        let same : get_or (drop place f) 0 0 ≡ 1 = get_or-drop place f 0 0 ∙ ap (λ (i : ℕ). get_or f i 0) (omega arith) ∙ one in
        ap (λ (g : ℕ). g == 1) same

-- a write behind a closed gate leaves it closed
fill_gate : (place n : ℕ) (f c : List ℕ) → GateShut place f → Torn (place + 1) n f c → get_or c place 0 ≢ 1
fill_gate place n f c g torn one =
    let front = torn_front (place + 1) n f c (omega (arith, g.there)) torn in
    g.shut (sym (get_or-take (place + 1) f place 0 (omega arith))
    ∙ ap (λ (l : List ℕ). get_or l place 0) (sym front) ∙ get_or-take (place + 1) c place 0 (omega arith) ∙ one)

length-behind_gate : (s : Slot) → length (behind_gate s) ≡ 12 + length s.body
length-behind_gate s = omega arith

pub fills_slot : (b : Bool) (f : List ℕ) (slot : Slot) → goes_second (standing_of f) ≡ b
    → has_closed_gate (place_of b) f ≡ true → length slot.body ≤ MAX_BODY → FillsSlot f (place_of b) slot
fills_slot b f slot e h short =
    let place = place_of b in
    let n = length (behind_gate slot) in
    let g = gate_shut place f h in
    let shut : (c : List ℕ) → Torn (place + 1) n f c → own b c ≡ None = λ c torn.
    ap slot_of (drop_more c place 0 (omega (arith, g.there, torn.no_shorter)))
    ∙ slot_of-closed (get_or c place 0) (drop (place + 1) c) (fill_gate place n f c g torn) in
    let stop : (c : List ℕ) → Torn (place + 1) n f c → standing_of c ≡ standing_of f = λ c torn.
    stands_on b f c e (torn_other b (place + 1) n f c e (omega arith) (omega (arith, short, length-behind_gate slot)) torn) (inl (shut c torn)) in
    let w = written (place + 1) (behind_gate slot) f in
    let whole = torn-written (place + 1) (behind_gate slot) f in
    record {
      stop = stop;
      standing = stop w whole;
      filled = record {
        gate = get_or w place 0;
        rest = drop (place + 1 + n) f;
        not_open = fill_gate place n f w g whole;
        is = drop_more w place 0 (omega (arith, g.there, whole.no_shorter))
            ∙ ap (λ (l : List ℕ). get_or w place 0 ∷ l) (drop-written (place + 1) (behind_gate slot) f);
      };
    }

pub opens_gate : (b : Bool) (f body : List ℕ) → goes_second (standing_of f) ≡ b
    → is_body_text body ≡ true → length body ≤ MAX_BODY → next_sequence (standing_of f) < 2 ^ 64
    → IsFilled (place_of b) (next_slot (standing_of f) body) f → OpensGate f body (place_of b)
opens_gate b f body e is_text short number filled =
    let place = place_of b in
    let slot = next_slot (standing_of f) body in
    let bytes = behind_gate slot ++ filled.rest in
    let long : length (drop place f) ≡ length (filled.gate ∷ bytes) = ap (λ (l : List ℕ). length l) filled.is in
    let there : place + 1 ≤ length f = omega (arith, long, length-drop place f) in
    let behind : drop (place + 1) f ≡ bytes = sym (drop-drop 1 place f) ∙ ap (λ (l : List ℕ). drop 1 l) filled.is in
    let other : (c : List ℕ) → Torn place 1 f c → SameOther b f c = λ c torn. torn_other b place 1 f c e (omega arith) (omega arith) torn in
    let new : own b f ≡ own b f → slot_of (1 ∷ bytes) ≡ Some slot = λ r. slot_of-written slot filled.rest number short is_text in
    let stop : (c : List ℕ) → Torn place 1 f c → IsBeforeOrAfter f body c = λ c torn.
    let is : drop place c ≡ get_or c place 0 ∷ bytes = torn_byte place f c there torn ∙ ap (λ (l : List ℕ). get_or c place 0 ∷ l) behind in
    elim (cases_eq (get_or c place 0) 1) [
      | inl one ↦ inr (stands_new b f c body e (other c torn) (ap slot_of (is ∙ ap (λ (g : ℕ). g ∷ bytes) one) ∙ new refl))
      | inr ne ↦ inl (stands_on b f c e (other c torn) (inl (ap slot_of is ∙ slot_of-closed (get_or c place 0) bytes ne)))
    ] in
    let w = written place (1 ∷ []) f in
    record {
      stop = stop;
      standing = stands_new b f w body e (other w (torn-written place (1 ∷ []) f))
          (ap slot_of (drop-written place (1 ∷ []) f ∙ ap (λ (l : List ℕ). 1 ∷ l) behind) ∙ new refl);
    }
