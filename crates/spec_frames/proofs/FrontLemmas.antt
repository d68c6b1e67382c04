-- What stands at the front of a text, and what appended bytes leave of it.
use Rattle.std.proofs.Common.{◌≡◌, ◌⊎◌, ℕ, ◌+◌, ◌<◌, ◌≤◌, List, ◌++◌, length, take, drop, get_or, Bool, true, false, ◌&&◌, refl, ap, ◌∙◌, inl, inr, arith}
use Rattle.std.specs.Prelude.{◌==◌, nat_lt, nat_le}
use Rattle.std.proofs.lemmas.Bool.{ltb-true, ltb-false, lt-ltb, le-ltb, and_parts, leb-true}
use Rattle.std.proofs.lemmas.List.{take-append-le, drop-append-le, get_or_append_left, length-append, length-drop, length-take-le}
use Rattle.std.specs.Int.{w32, from_le_bytes}
use Rattle.spec_frames.specs.Division.{Whole, Open, Broken, front, front_of, is_header, ams_length_of, packet_of, behind_frame}

-- a whole frame at the front: its header, and all its bytes
pub record HasFrame (text : List ℕ) : Type 0 where
  pub six : 6 ≤ length text
  pub header : is_header text ≡ true
  pub all_there : 6 + ams_length_of text ≤ length text

pub record HasBrokenHeader (text : List ℕ) : Type 0 where
  pub six : 6 ≤ length text
  pub header : is_header text ≡ false

whole_front : (s h c : Bool) → front s h c ≡ Whole → (s ≡ false) × (h ≡ true) × (c ≡ false)
whole_front true h c e = absurd (cc)
whole_front false false c e = absurd (cc)
whole_front false true true e = absurd (cc)
whole_front false true false e = (refl, refl, refl)

broken_front : (s h c : Bool) → front s h c ≡ Broken → (s ≡ false) × (h ≡ false)
broken_front true h c e = absurd (cc)
broken_front false true true e = absurd (cc)
broken_front false true false e = absurd (cc)
broken_front false false c e = (refl, refl)

open_front : (s h c : Bool) → front s h c ≡ Open → (s ≡ true) ⊎ ((h ≡ true) × (c ≡ true))
open_front true h c e = inl refl
open_front false true true e = inr (refl, refl)
open_front false true false e = absurd (cc)
open_front false false c e = absurd (cc)

pub has_frame : (text : List ℕ) → front_of text ≡ Whole → HasFrame text
unfolding front_of
has_frame text e =
    let parts = whole_front (nat_lt (length text) 6) (is_header text) (nat_lt (length text) (6 + ams_length_of text)) e in
    record {
      six = ltb-false (length text) 6 parts.0;
      header = parts.1;
      all_there = ltb-false (length text) (6 + ams_length_of text) parts.2;
    }

pub front_of-whole : (text : List ℕ) → HasFrame text → front_of text ≡ Whole
unfolding front_of
front_of-whole text h = rw (le-ltb (length text) 6 h.six, h.header, le-ltb (length text) (6 + ams_length_of text) h.all_there) refl

pub has_broken_header : (text : List ℕ) → front_of text ≡ Broken → HasBrokenHeader text
unfolding front_of
has_broken_header text e =
    let parts = broken_front (nat_lt (length text) 6) (is_header text) (nat_lt (length text) (6 + ams_length_of text)) e in
    record { six = ltb-false (length text) 6 parts.0; header = parts.1 }

pub front_of-broken : (text : List ℕ) → HasBrokenHeader text → front_of text ≡ Broken
unfolding front_of
front_of-broken text h = rw (le-ltb (length text) 6 h.six, h.header) refl

pub open_cases : (text : List ℕ) → front_of text ≡ Open
    → (length text < 6) ⊎ ((is_header text ≡ true) × (length text < 6 + ams_length_of text))
unfolding front_of
open_cases text e = elim (open_front (nat_lt (length text) 6) (is_header text) (nat_lt (length text) (6 + ams_length_of text)) e) [
  | inl short ↦ inl (ltb-true (length text) 6 short)
  | inr parts ↦ inr (parts.0, ltb-true (length text) (6 + ams_length_of text) parts.1)
]

pub front_of-short : (text : List ℕ) → length text < 6 → front_of text ≡ Open
unfolding front_of
front_of-short text h = rw (lt-ltb (length text) 6 h) refl

pub front_of-begun : (text : List ℕ) → 6 ≤ length text → is_header text ≡ true → length text < 6 + ams_length_of text → front_of text ≡ Open
unfolding front_of
front_of-begun text six header short =
    rw (le-ltb (length text) 6 six, header, lt-ltb (length text) (6 + ams_length_of text) short) refl

-- what a header says of the length
pub record HasSize (text : List ℕ) : Type 0 where
  pub least : 32 ≤ ams_length_of text
  pub most : ams_length_of text ≤ 2097152

pub has_size : (text : List ℕ) → is_header text ≡ true → HasSize text
unfolding is_header
has_size text e =
    let parts = and_parts ((get_or text 0 0 == 0) && (get_or text 1 0 == 0) && nat_le 32 (ams_length_of text)) (nat_le (ams_length_of text) 2097152) e in
    let left = and_parts ((get_or text 0 0 == 0) && (get_or text 1 0 == 0)) (nat_le 32 (ams_length_of text)) parts.0 in
    record { least = leb-true 32 (ams_length_of text) left.1; most = leb-true (ams_length_of text) 2097152 parts.1 }

-- appended bytes change nothing of a header that is there
pub ams_length_of-append : (text more : List ℕ) → 6 ≤ length text → ams_length_of (text ++ more) ≡ ams_length_of text
unfolding ams_length_of
ams_length_of-append text more six =
    let two : 2 ≤ length text = omega arith in
    let four : 4 ≤ length (drop 2 text) = simp length-drop (omega arith) in
    ap (λ field. from_le_bytes w32 field) (ap (λ behind. take 4 behind) (drop-append-le 2 text more two) ∙ take-append-le 4 (drop 2 text) more four)

pub is_header-append : (text more : List ℕ) → 6 ≤ length text → is_header (text ++ more) ≡ is_header text
unfolding is_header
is_header-append text more six =
    rw (ams_length_of-append text more six, get_or_append_left text more 0 0 (omega arith), get_or_append_left text more 0 1 (omega arith)) refl

pub has_frame-append : (text more : List ℕ) → HasFrame text → HasFrame (text ++ more)
has_frame-append text more h = record {
  six = simp length-append (omega (arith, h.six));
  header = is_header-append text more h.six ∙ h.header;
  all_there = rw (ams_length_of-append text more h.six, length-append text more) (omega (arith, h.all_there));
}

pub front_of-append_whole : (text more : List ℕ) → front_of text ≡ Whole → front_of (text ++ more) ≡ Whole
front_of-append_whole text more e = front_of-whole (text ++ more) (has_frame-append text more (has_frame text e))

pub front_of-append_broken : (text more : List ℕ) → front_of text ≡ Broken → front_of (text ++ more) ≡ Broken
front_of-append_broken text more e =
    let h = has_broken_header text e in
    front_of-broken (text ++ more) (record { six = simp length-append (omega (arith, h.six)); header = is_header-append text more h.six ∙ h.header })

pub packet_of-append : (text more : List ℕ) → front_of text ≡ Whole → packet_of (text ++ more) ≡ packet_of text
unfolding packet_of
packet_of-append text more e =
    let h = has_frame text e in
    let fits : ams_length_of text ≤ length (drop 6 text) = simp length-drop (omega (arith, h.all_there)) in
    rw (ams_length_of-append text more h.six, drop-append-le 6 text more h.six) (take-append-le (ams_length_of text) (drop 6 text) more fits)

pub behind_frame-append : (text more : List ℕ) → front_of text ≡ Whole → behind_frame (text ++ more) ≡ behind_frame text ++ more
unfolding behind_frame
behind_frame-append text more e =
    let h = has_frame text e in
    rw (ams_length_of-append text more h.six) (drop-append-le (6 + ams_length_of text) text more h.all_there)

-- the AMS packet of a frame has the length that the header says
pub length-packet_of : (text : List ℕ) → front_of text ≡ Whole → length (packet_of text) ≡ ams_length_of text
unfolding packet_of
length-packet_of text e =
    let h = has_frame text e in
    length-take-le (ams_length_of text) (drop 6 text) (simp length-drop (omega (arith, h.all_there)))

pub length-behind_frame : (text : List ℕ) → front_of text ≡ Whole → 6 + ams_length_of text + length (behind_frame text) ≡ length text
unfolding behind_frame
length-behind_frame text e =
    let h = has_frame text e in
    rw (length-drop (6 + ams_length_of text) text) (omega (arith, h.all_there))
