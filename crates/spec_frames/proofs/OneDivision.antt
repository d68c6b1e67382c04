-- A stream of bytes has one division into frames and a rest, and it is that of `frames_of` and `rest_of`.
use Rattle.std.proofs.Common.{◌≡◌, ◌≢◌, ◌⊎◌, ℕ, ◌+◌, ◌<◌, ◌≤◌, List, [], ◌∷◌, ◌++◌, length, take, drop, get_or}
use Rattle.std.proofs.Common.{true, ◌&&◌, replicate, refl, sym, ap, ◌∙◌, subst, inl, inr, arith}
use Rattle.std.specs.Prelude.{◌==◌, nat_le}
use Rattle.std.specs.List.{flat_map}
use Rattle.std.specs.Int.{w32, from_le_bytes, to_le_bytes}
use Rattle.std.proofs.lemmas.Bool.{cases_lt, cases_Bool, and_parts, and_from, le-leb, eqb-true, eq-eqb, false≢true}
use Rattle.std.proofs.lemmas.List.{append_assoc, take-append-drop, drop_at, take_at, get_or-drop, get_or-take}
use Rattle.std.proofs.lemmas.List.{get_or_past, length-append, length-take, drop-drop, drop-take}
use Rattle.std.proofs.lemmas.List.{length-replicate}
use Rattle.std.proofs.lemmas.List.Elements.{All-nil, All-cons, All-head, All-tail}
use Rattle.std.proofs.lemmas.Nat.{le_bytes_4, from_le_bytes-to_le_bytes_4}
use Rattle.spec_frames.specs.Number.{AreBytes}
use Rattle.spec_frames.specs.Frame.{IsAmsPacket, header_bytes, frame_bytes, Begins, IsBrokenText, IsBegunFrame, IsOpenText}
use Rattle.spec_frames.specs.Division.{Divides, Front, Whole, Open, Broken, front_of, is_header, ams_length_of, packet_of, behind_frame, frames_of, rest_of}
use Rattle.spec_frames.proofs.FrontLemmas.{has_frame, front_of-whole, has_broken_header, front_of-broken}
use Rattle.spec_frames.proofs.FrontLemmas.{open_cases, front_of-short, front_of-begun, has_size}
use Rattle.spec_frames.proofs.FrontLemmas.{length-packet_of}
use Rattle.spec_frames.proofs.DivisionLemmas.{by_frames, frames_of-none, frames_of-whole, rest_of-none, rest_of-whole}

pub AreBytes-drop : (n : ℕ) (bs : List ℕ) → AreBytes bs → AreBytes (drop n bs)
AreBytes-drop n bs each k = rw (get_or-drop n bs k 0) (each (n + k))

pub AreBytes-take : (n : ℕ) (bs : List ℕ) → AreBytes bs → AreBytes (take n bs)
AreBytes-take n bs each k = elim (cases_lt k n) [
  | inl below ↦ rw (get_or-take n bs k 0 below) (each k)
  | inr above ↦ rw (get_or_past (take n bs) k 0 (simp length-take (omega arith))) (omega arith)
]

pub AreBytes-behind_frame : (s : List ℕ) → AreBytes s → AreBytes (behind_frame s)
unfolding behind_frame
AreBytes-behind_frame s each = AreBytes-drop (6 + ams_length_of s) s each

-- the first six bytes of a text whose header is that of a frame
six_bytes : (s : List ℕ) → AreBytes s → 6 ≤ length s → is_header s ≡ true → take 6 s ≡ 0 ∷ 0 ∷ to_le_bytes w32 (ams_length_of s)
unfolding is_header ams_length_of
six_bytes [] each six header = absurd (omega arith)
six_bytes (a ∷ []) each six header = absurd (omega arith)
six_bytes (a ∷ b ∷ []) each six header = absurd (omega arith)
six_bytes (a ∷ b ∷ c ∷ []) each six header = absurd (omega arith)
six_bytes (a ∷ b ∷ c ∷ d ∷ []) each six header = absurd (omega arith)
six_bytes (a ∷ b ∷ c ∷ d ∷ p ∷ []) each six header = absurd (omega arith)
six_bytes (a ∷ b ∷ c ∷ d ∷ p ∷ q ∷ t) each six header =
    let field = c ∷ d ∷ p ∷ q ∷ [] in
    let l = from_le_bytes w32 field in
    let high = and_parts ((a == 0) && (b == 0) && nat_le 32 l) (nat_le l 2097152) header in
    let low = and_parts ((a == 0) && (b == 0)) (nat_le 32 l) high.0 in
    let zeros = and_parts (a == 0) (b == 0) low.0 in
    let first = eqb-true a 0 zeros.0 in
    let second = eqb-true b 0 zeros.1 in
    let back = le_bytes_4 field l refl (AreBytes-take 4 (drop 2 (a ∷ b ∷ c ∷ d ∷ p ∷ q ∷ t)) (AreBytes-drop 2 (a ∷ b ∷ c ∷ d ∷ p ∷ q ∷ t) each)) refl in
    ap (λ x. x ∷ b ∷ field) first ∙ ap (λ x. 0 ∷ x ∷ field) second ∙ ap (λ bs. 0 ∷ 0 ∷ bs) (sym back)

-- the AMS packet at the front of a text, and the header before it
pub begins_with : (s : List ℕ) → AreBytes s → front_of s ≡ Whole → Begins s (packet_of s)
begins_with s each e =
    let h = has_frame s e in
    let size = has_size s h.header in
    let len = length-packet_of s e in (
      record { least = omega (arith, size.least, len); most = omega (arith, size.most, len) },
      six_bytes s each h.six h.header ∙ ap (λ n. 0 ∷ 0 ∷ to_le_bytes w32 n) (sym len),
    )

-- a text that begins with a frame is that frame and what stands behind it
pub frame_split : (s : List ℕ) → AreBytes s → front_of s ≡ Whole → s ≡ frame_bytes (packet_of s) ++ behind_frame s
unfolding packet_of behind_frame
frame_split s each e =
    let l = ams_length_of s in
    let six : take 6 s ≡ header_bytes (take l (drop 6 s)) = unfold packet_of in (begins_with s each e).1 in
    let behind : drop l (drop 6 s) ≡ drop (6 + l) s = drop-drop l 6 s in
    sym (take-append-drop 6 s)
    ∙ ap (λ bs. take 6 s ++ bs) (sym (take-append-drop l (drop 6 s)))
    ∙ rw (six, behind) (sym (append_assoc (header_bytes (take l (drop 6 s))) (take l (drop 6 s)) (drop (6 + l) s)))

-- the header of an AMS packet is that of a frame, and says its length
record SaysSize (s ams : List ℕ) : Type 0 where
  six : 6 ≤ length s
  size : ams_length_of s ≡ length ams
  header : is_header s ≡ true

says_size : (s ams : List ℕ) → Begins s ams → SaysSize s ams
unfolding is_header ams_length_of
says_size s ams (fits, head) =
    let six : 6 ≤ length s = (let e = sym (length-take 6 s) ∙ ap (λ bs. length bs) head in omega (arith, e)) in
    let field : take 4 (drop 2 s) ≡ to_le_bytes w32 (length ams) = sym (drop-take 2 4 s) ∙ ap (λ bs. drop 2 bs) head in
    let size : ams_length_of s ≡ length ams = ap (λ bs. from_le_bytes w32 bs) field ∙ from_le_bytes-to_le_bytes_4 (length ams) (omega (arith, fits.most)) in
    let first : get_or s 0 0 ≡ 0 = sym (get_or-take 6 s 0 0 (omega arith)) ∙ ap (λ bs. get_or bs 0 0) head in
    let second : get_or s 1 0 ≡ 0 = sym (get_or-take 6 s 1 0 (omega arith)) ∙ ap (λ bs. get_or bs 1 0) head in
    record {
      six = six;
      size = size;
      header = and_from _ _ (and_from _ _ (and_from _ _ (eq-eqb _ 0 first) (eq-eqb _ 0 second)) (le-leb 32 (ams_length_of s) (omega (arith, size, fits.least))))
          (le-leb (ams_length_of s) 2097152 (omega (arith, size, fits.most)));
    }

-- an open or a broken text begins with no whole frame
no_frame_in_front : (s : List ℕ) → AreBytes s → IsOpenText s ⊎ IsBrokenText s → front_of s ≢ Whole
no_frame_in_front s each (inl (inl short)) e = absurd (let h = has_frame s e in omega (arith, h.six))
no_frame_in_front s each (inl (inr begun)) e =
    absurd (let h = has_frame s e in let size = (says_size s begun.ams begun.begins).size in omega (arith, h.all_there, size, begun.short))
no_frame_in_front s each (inr broken) e = broken.no_frame (packet_of s) (begins_with s each e)

-- a frame in front, and what stands behind it
pub record FrameInFront (ams behind : List ℕ) : Type 0 where
  pub whole : front_of (frame_bytes ams ++ behind) ≡ Whole
  pub packet : packet_of (frame_bytes ams ++ behind) ≡ ams
  pub behind_it : behind_frame (frame_bytes ams ++ behind) ≡ behind

pub frame_begins : (ams behind : List ℕ) → IsAmsPacket ams → Begins (frame_bytes ams ++ behind) ams
frame_begins ams behind fits = (fits, refl)

pub frame_in_front : (ams behind : List ℕ) → IsAmsPacket ams → FrameInFront ams behind
unfolding packet_of behind_frame
frame_in_front ams behind fits =
    let s = frame_bytes ams ++ behind in
    let says = says_size s ams (frame_begins ams behind fits) in
    let split : s ≡ header_bytes ams ++ (ams ++ behind) = append_assoc (header_bytes ams) ams behind in
    let tail : drop 6 s ≡ ams ++ behind = ap (λ bs. drop 6 bs) split ∙ drop_at (header_bytes ams) (ams ++ behind) 6 refl in
    record {
      whole = front_of-whole s (record {
        six = says.six;
        header = says.header;
        all_there = let e = ap (λ bs. length bs) split ∙ length-append (header_bytes ams) (ams ++ behind) in
            let f = length-append ams behind in let six : length (header_bytes ams) ≡ 6 = refl in omega (arith, e, f, six, says.size);
      });
      packet = rw (says.size, tail) (take_at ams behind (length ams) refl);
      behind_it = ap (λ n. drop (6 + n) s) says.size ∙ (sym (drop-drop (length ams) 6 s) ∙ rw tail (drop_at ams behind (length ams) refl));
    }

-- a header that is there, without its whole frame
begun_frame : (s : List ℕ) → AreBytes s → 6 ≤ length s → is_header s ≡ true → length s < 6 + ams_length_of s → IsBegunFrame s
begun_frame s each six header short =
    let l = ams_length_of s in
    let ams = replicate l 0 in
    let size = has_size s header in
    let len : length ams ≡ l = length-replicate l 0 in
    record {
      ams = ams;
      begins = (
        record { least = omega (arith, size.least, len); most = omega (arith, size.most, len) },
        six_bytes s each six header ∙ ap (λ n. 0 ∷ 0 ∷ to_le_bytes w32 n) (sym len),
      );
      short = omega (arith, short, len);
    }

pub open_text : (s : List ℕ) → AreBytes s → front_of s ≡ Open → IsOpenText s
open_text s each e = elim (cases_lt (length s) 6) [
  | inl short ↦ inl short
  | inr six ↦ elim (open_cases s e) [
    | inl short ↦ inl short
    | inr begun ↦ inr (begun_frame s each six begun.0 begun.1)
  ]
]

pub broken_text : (s : List ℕ) → front_of s ≡ Broken → IsBrokenText s
broken_text s e =
    let h = has_broken_header s e in
    record { six = h.six; no_frame = λ ams begins. false≢true (sym h.header ∙ (says_size s ams begins).header) }

pub open_front : (s : List ℕ) → IsOpenText s → front_of s ≡ Open
open_front s (inl short) = front_of-short s short
open_front s (inr begun) =
    let says = says_size s begun.ams begun.begins in
    front_of-begun s says.six says.header (omega (arith, says.size, begun.short))

pub broken_front : (s : List ℕ) → AreBytes s → IsBrokenText s → front_of s ≡ Broken
broken_front s each broken = elim (cases_Bool (is_header s)) [
  | inl header ↦ absurd (elim (cases_lt (length s) (6 + ams_length_of s)) [
    | inl short ↦ (let begun = begun_frame s each broken.six header short in broken.no_frame begun.ams begun.begins)
    | inr all ↦ broken.no_frame (packet_of s) (begins_with s each (front_of-whole s (record { six = broken.six; header = header; all_there = all })))
  ])
  | inr header ↦ front_of-broken s (record { six = broken.six; header = header })
]

-- what does not begin with a whole frame is open or broken
behind_all : (s : List ℕ) → AreBytes s → front_of s ≢ Whole → IsOpenText s ⊎ IsBrokenText s
behind_all s each n = at_front (front_of s) refl
  where
    at_front : (f : Front) → front_of s ≡ f → IsOpenText s ⊎ IsBrokenText s
    at_front Whole e = absurd (n e)
    at_front Open e = inl (open_text s each e)
    at_front Broken e = inr (broken_text s e)

-- the division exists
pub divides : (s : List ℕ) → AreBytes s → Divides s (frames_of s) (rest_of s)
divides = by_frames (λ s. AreBytes s → Divides s (frames_of s) (rest_of s)) at_rest at_frame
  where
    at_rest : (s : List ℕ) → front_of s ≢ Whole → AreBytes s → Divides s (frames_of s) (rest_of s)
    at_rest s n each = rw (frames_of-none s n, rest_of-none s n)
        (record { whole = refl; packets_fit = All-nil IsAmsPacket; no_frame_behind = behind_all s each n })

    at_frame : (s : List ℕ) → front_of s ≡ Whole
        → (AreBytes (behind_frame s) → Divides (behind_frame s) (frames_of (behind_frame s)) (rest_of (behind_frame s)))
        → AreBytes s → Divides s (frames_of s) (rest_of s)
    at_frame s e behind each =
        let rest = behind (AreBytes-behind_frame s each) in
        let fits = (begins_with s each e).0 in
        rw (frames_of-whole s e, rest_of-whole s e) (record {
          whole = frame_split s each e ∙ ap (λ bs. frame_bytes (packet_of s) ++ bs) rest.whole
              ∙ sym (append_assoc (frame_bytes (packet_of s)) (flat_map frame_bytes (frames_of (behind_frame s))) (rest_of (behind_frame s)));
          packets_fit = All-cons IsAmsPacket (packet_of s) (frames_of (behind_frame s)) fits rest.packets_fit;
          no_frame_behind = rest.no_frame_behind;
        })

-- and there is no other
pub one_division : (packets : List (List ℕ)) (s rest : List ℕ) → AreBytes s → Divides s packets rest → (packets ≡ frames_of s) × (rest ≡ rest_of s)
one_division [] s rest each d =
    let n = no_frame_in_front s each (subst (λ t. IsOpenText t ⊎ IsBrokenText t) (sym d.whole) d.no_frame_behind) in
    (sym (frames_of-none s n), sym d.whole ∙ sym (rest_of-none s n))
one_division (ams ∷ packets) s rest each d =
    let behind = flat_map frame_bytes packets ++ rest in
    let split : s ≡ frame_bytes ams ++ behind = d.whole ∙ append_assoc (frame_bytes ams) (flat_map frame_bytes packets) rest in
    let front = frame_in_front ams behind (All-head IsAmsPacket ams packets d.packets_fit) in
    let whole : front_of s ≡ Whole = ap (λ t. front_of t) split ∙ front.whole in
    let packet : packet_of s ≡ ams = ap (λ t. packet_of t) split ∙ front.packet in
    let tail : behind_frame s ≡ behind = ap (λ t. behind_frame t) split ∙ front.behind_it in
    let others = one_division packets behind rest (subst (λ t. AreBytes t) tail (AreBytes-behind_frame s each))
    (record { whole = refl; packets_fit = All-tail IsAmsPacket ams packets d.packets_fit; no_frame_behind = d.no_frame_behind }) in (
      sym (frames_of-whole s whole ∙ rw (packet, tail) (ap (λ fs. ams ∷ fs) (sym others.0))),
      others.1 ∙ sym (rest_of-whole s whole ∙ ap (λ t. rest_of t) tail),
    )
