-- The headers in front of a payload, and the frame behind other bytes.
use Rattle.std.proofs.Common.{◌≡◌, ℕ, ◌+◌, ◌-◌, ◌≤◌, ◌<◌, ◌^◌, List, [], ◌∷◌, ◌++◌, length, take, drop, refl, sym, ◌∙◌, ap}
use Rattle.std.proofs.Common.{arith, append_assoc, length-append, length-take, length-drop, take_at, drop_at, take-take}
use Rattle.std.specs.Int.{w32, to_le_bytes}
use Rattle.std.specs.Prelude.{Result, Ok, Err, OnErr}
use Rattle.std.proofs.lemmas.List.{drop-drop}
use Rattle.ads_base.specs.Octets.{Extends}
use Rattle.spec_formats.specs.Header.{AmsHeader, header_bytes, response_header}
use Rattle.spec_frames.specs.Frame.{frame_bytes}
use Rattle.spec_machine.specs.Replies.{response_packet}
use Rattle.session.specs.Answered.{AppendsFrame}

pub framed-is : (h : AmsHeader) (error start total : ℕ) (out f1 f2 f3 zeros le header : List ℕ) → start + 38 ≤ length out → total ≡ length out - start
    → zeros ≡ 0 ∷ 0 ∷ [] → le ≡ to_le_bytes w32 (total - 6) → header ≡ header_bytes (response_header h error (total - 38)) → length header ≡ 32
    → f1 ≡ take start out ++ zeros ++ drop (start + 2) out → f2 ≡ take (start + 2) f1 ++ le ++ drop (start + 2 + length le) f1
    → f3 ≡ take (start + 6) f2 ++ header ++ drop (start + 6 + length header) f2
    → f3 ≡ take start out ++ frame_bytes (response_packet h error (drop (start + 38) out))
unfolding response_packet
framed-is h error start total out f1 f2 f3 zeros le header long is_total is_zeros is_le is_header thirty_two first second third =
    let payload = drop (start + 38) out in
    let front = take start out in
    let two : length zeros ≡ 2 = ap length is_zeros in
    let four : length le ≡ 4 = ap length is_le in
    let to_two : length (front ++ zeros) ≡ start + 2 = omega (arith, length-append front zeros, length-take start out, two, long) in
    let f1_front : take (start + 2) f1 ≡ front ++ zeros = ap (take (start + 2)) first ∙ take_at (front ++ zeros) (drop (start + 2) out) (start + 2) to_two in
    let f1_behind : drop (start + 2) f1 ≡ drop (start + 2) out =
    ap (drop (start + 2)) first ∙ drop_at (front ++ zeros) (drop (start + 2) out) (start + 2) to_two in
    let six : start + 2 + 4 ≡ start + 6 = omega arith in
    let f1_rest : drop (start + 2 + 4) f1 ≡ drop (start + 6) out =
    sym (drop-drop 4 (start + 2) f1) ∙ ap (drop 4) f1_behind ∙ drop-drop 4 (start + 2) out ∙ ap (λ n. drop n out) six in
    let head = front ++ zeros ++ le in
    let f2_is : f2 ≡ head ++ drop (start + 6) out =
    second ∙ ap (λ n. take (start + 2) f1 ++ le ++ drop (start + 2 + n) f1) four ∙ ap (λ x. x ++ le ++ drop (start + 2 + 4) f1) f1_front
    ∙ ap (λ x. head ++ x) f1_rest in
    let to_six : length head ≡ start + 6 = omega (arith, length-append (front ++ zeros) le, to_two, four) in
    let f2_front : take (start + 6) f2 ≡ head = ap (take (start + 6)) f2_is ∙ take_at head (drop (start + 6) out) (start + 6) to_six in
    let f2_behind : drop (start + 6) f2 ≡ drop (start + 6) out = ap (drop (start + 6)) f2_is ∙ drop_at head (drop (start + 6) out) (start + 6) to_six in
    let all : start + 6 + 32 ≡ start + 38 = omega arith in
    let f2_rest : drop (start + 6 + 32) f2 ≡ payload =
    sym (drop-drop 32 (start + 6) f2) ∙ ap (drop 32) f2_behind ∙ drop-drop 32 (start + 6) out ∙ ap (λ n. drop n out) all in
    let count : length payload ≡ total - 38 = omega (arith, length-drop (start + 38) out, is_total, long) in
    let own : header ≡ header_bytes (response_header h error (length payload)) = is_header ∙ ap (λ n. header_bytes (response_header h error n)) (sym count) in
    let packet_len : length (header ++ payload) ≡ total - 6 = omega (arith, length-append header payload, thirty_two, count, is_total, long) in
    third ∙ ap (λ n. take (start + 6) f2 ++ header ++ drop (start + 6 + n) f2) thirty_two ∙ ap (λ x. x ++ header ++ drop (start + 6 + 32) f2) f2_front
    ∙ ap (λ x. head ++ header ++ x) f2_rest ∙ append_assoc head header payload
    ∙ ap (λ x. x ++ (header ++ payload)) (append_assoc front zeros le) ∙ append_assoc front (zeros ++ le) (header ++ payload)
    ∙ ap (λ x. front ++ ((x ++ le) ++ (header ++ payload))) is_zeros
    ∙ ap (λ x. front ++ ((0 ∷ 0 ∷ x) ++ (header ++ payload))) (is_le ∙ ap (to_le_bytes w32) (sym packet_len))
    ∙ ap (λ x. front ++ frame_bytes (x ++ payload)) own

-- what stood in front of the room of the headers stands there
pub kept-front : (old room out : List ℕ) (start : ℕ) → start ≡ length old → length room ≡ length old + 38 → take (length old) room ≡ old → Extends room out
    → take start out ≡ old
kept-front old room out start is_start long begins more =
    let within : length old ≤ length room = omega (arith, long) in
    ap (λ n. take n out) is_start ∙ sym (take-take (length old) (length room) out within) ∙ ap (take (length old)) more.begins ∙ begins

-- the frame behind what stood there
pub frame-behind : (h : AmsHeader) (error start : ℕ) (old room out payload new : List ℕ) → start ≡ length old → length room ≡ length old + 38
    → out ≡ room ++ payload → take start out ≡ old → new ≡ take start out ++ frame_bytes (response_packet h error (drop (start + 38) out))
    → new ≡ old ++ frame_bytes (response_packet h error payload)
frame-behind h error start old room out payload new is_start long is_out kept is_new =
    let whole : length room ≡ start + 38 = omega (arith, long, is_start) in
    let behind : drop (start + 38) out ≡ payload = ap (drop (start + 38)) is_out ∙ drop_at room payload (start + 38) whole in
    is_new ∙ ap (λ x. x ++ frame_bytes (response_packet h error (drop (start + 38) out))) kept
    ∙ ap (λ x. old ++ frame_bytes (response_packet h error x)) behind

pub behind-old : (old frame new : List ℕ) → new ≡ old ++ frame → drop (length old) new ≡ frame
behind-old old frame new is = ap (drop (length old)) is ∙ drop_at old frame (length old) refl

pub begins-old : (old frame new : List ℕ) → new ≡ old ++ frame → new ≡ old ++ drop (length old) new
begins-old old frame new is = is ∙ ap (λ x. old ++ x) (sym (behind-old old frame new is))

pub begins-kept : (old front frame new : List ℕ) → new ≡ front ++ frame → front ≡ old → new ≡ old ++ drop (length old) new
begins-kept old front frame new is kept = begins-old old frame new (is ∙ ap (λ x. x ++ frame) kept)

pub appends-frame : (start : ℕ) (old frame new : List ℕ) → start ≡ length old → new ≡ old ++ frame
    → (start + 38 ≤ length new) × (length new < start + 2 ^ 32) → AppendsFrame old new
appends-frame start old frame new is_start is fits = record {
  begins = begins-old old frame new is;
  headed = omega (arith, length-drop (length old) new, is_start, fits.0);
  short = omega (arith, length-drop (length old) new, is_start, fits.1);
}

pub err-then : {T E : Type 0} (r : Result T E) (P Q : Type 0) → (P → Q) → OnErr r P → OnErr r Q
err-then (Ok x) P Q f h = tt
err-then (Err e) P Q f h = f h

pub on-err : {T E : Type 0} (r : Result T E) (Q : Type 0) → Q → OnErr r Q
on-err (Ok x) Q h = tt
on-err (Err e) Q h = h
