-- A head that is written in three parts, and the frame that it makes.
use Rattle.std.proofs.Common.{◌≡◌, ℕ, ◌+◌, ◌-◌, ◌≤◌, List, ◌++◌, length, take, drop, refl, sym, ap, subst, ◌∙◌, arith}
use Rattle.std.proofs.Common.{length-append, append_assoc}
use Rattle.std.specs.Int.{w32, w64, to_le_bytes}
use Rattle.std.proofs.Math.Seq.{take-append_seam}
use Rattle.std.proofs.lemmas.Slice.{drop-append-drop}
use Rattle.spec_formats.specs.Header.{header_bytes}
use Rattle.spec_frames.specs.Frame.{frame_bytes}
use Rattle.spec_machine.specs.Device.{Notification}
use Rattle.session.specs.NoteGroups.{GroupText, header_of_group, payload_text, stamp_text, frame_of_group, head_text}
use Rattle.session.specs.NoteGroups.{lead_text}

-- one more part behind those that are written
written_next : (b front part r : List ℕ) (k n : ℕ) → length front ≡ k → k ≤ n → r ≡ front ++ drop k b
    → take k r ++ part ++ drop n r ≡ (front ++ part) ++ drop n b
written_next b front part r k n len more e =
    let before : take k (front ++ drop k b) ≡ front =
    subst (λ (i : ℕ). take i (front ++ drop k b) ≡ front) len (take-append_seam front (drop k b)) in
    let behind : drop n (front ++ drop k b) ≡ drop n b = drop-append-drop k b front n more len in
    rw (e, before, behind) refl

-- three parts one behind another, each written over what stands there
pub three_written : (b r s t lead h st : List ℕ) → length lead ≡ 6 → length h ≡ 32 → length st ≡ 20
    → r ≡ take 0 b ++ lead ++ drop (0 + length lead) b → s ≡ take 6 r ++ h ++ drop (6 + length h) r
    → t ≡ take 38 s ++ st ++ drop (38 + length st) s
    → (x y z : List ℕ) → lead ≡ x → h ≡ y → st ≡ z
    → t ≡ (x ++ y ++ z) ++ drop 58 b
three_written b r s t lead h st ll lh ls er es et x y z ex ey ez =
    let at_lead : 0 + length lead ≡ 6 = omega arith in
    let first : r ≡ lead ++ drop 6 b = rw at_lead at er in
    let at_header : 6 + length h ≡ 38 = omega arith in
    let second : s ≡ (lead ++ h) ++ drop 38 b =
    (rw at_header at es) ∙ written_next b lead h r 6 38 ll (omega arith) first in
    let at_stamp : 38 + length st ≡ 58 = omega arith in
    let front : length (lead ++ h) ≡ 38 = omega (arith, length-append lead h) in
    let third : t ≡ (lead ++ h ++ st) ++ drop 58 b =
    (rw at_stamp at et) ∙ written_next b (lead ++ h) st s 38 58 front (omega arith) second in
    cc

regroup : (lead header size one time count text : List ℕ)
    → lead ++ (header ++ (size ++ (((one ++ time) ++ count) ++ text)))
    ≡ ((lead ++ header) ++ (((size ++ one) ++ time) ++ count)) ++ text
regroup lead header size one time count text = simp append_assoc

-- behind its head stand the samples of a frame
pub frame_written : (net : List ℕ) (moment n : ℕ) (g : GroupText) (t : List ℕ) → n ≡ 20 + length g.text
    → length (header_bytes (header_of_group net n g)) ≡ 32
    → t ≡ head_text (header_of_group net n g) moment g.count ++ g.text
    → Notification g.count t ≡ frame_of_group net moment g
unfolding frame_of_group head_text
frame_written net moment n g t len header is =
    let payload_len : n ≡ length (payload_text moment g) = omega arith in
    let stamp_len : n - 4 ≡ length (stamp_text moment g) = omega arith in
    let ams_len : n + 32 ≡ length (header_bytes (header_of_group net n g) ++ payload_text moment g) =
    omega (arith, length-append (header_bytes (header_of_group net n g)) (payload_text moment g), header, payload_len) in
    let whole : frame_bytes (header_bytes (header_of_group net n g) ++ payload_text moment g) ≡ t =
    (ap (λ (l : ℕ). lead_text l ++ (header_bytes (header_of_group net n g) ++ payload_text moment g)) (sym ams_len)
    ∙ (ap (λ (l : ℕ). lead_text (n + 32) ++ (header_bytes (header_of_group net n g) ++ (to_le_bytes w32 l ++ stamp_text moment g))) (sym stamp_len)
    ∙ regroup (lead_text (n + 32)) (header_bytes (header_of_group net n g)) (to_le_bytes w32 (n - 4)) (to_le_bytes w32 1) (to_le_bytes w64 moment)
    (to_le_bytes w32 g.count) g.text)) ∙ sym is in
    ap (λ (l : List ℕ). Notification g.count l) (sym whole)
    ∙ ap (λ (l : ℕ). Notification g.count (frame_bytes (header_bytes (header_of_group net l g) ++ payload_text moment g))) payload_len
