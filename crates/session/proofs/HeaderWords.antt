-- The headers of an answer, written from the numbers of the packet that is answered.
use Rattle.std.proofs.Common.{◌≡◌, ◌+◌, ◌≤◌, ℕ, List, ◌++◌, length, take, drop, refl, sym, ◌∙◌, ap, arith}
use Rattle.std.proofs.Common.{append_assoc, length-append, length-drop, length-take-le, take_at}
use Rattle.std.proofs.lemmas.List.{take_all}
use Rattle.std.proofs.lemmas.Nat.{le_bytes_4, le_bytes_8}
use Rattle.std.specs.Prelude.{Some}
use Rattle.std.specs.Int.{w16, w32, w64, from_le_bytes, to_le_bytes}
use Rattle.spec_formats.specs.Codes.{no_error}
use Rattle.spec_formats.specs.Header.{AmsHeader, address_at, address_bytes, header_bytes, header_of, response_flags, response_header}
use Rattle.spec_formats.specs.Numbers.{AreBytes, number16, number32, number64}
use Rattle.spec_formats.proofs.Fields.{AreBytes-drop, AreBytes-take, bytes-front, next_field, number16-front}
use Rattle.spec_formats.proofs.HeaderLemmas.{header_at, header_of-long}
use Rattle.spec_frames.specs.Frame.{frame_bytes}
use Rattle.spec_machine.specs.Replies.{response_packet}
use Rattle.session.specs.Plain.{answer_fields, answer_headers, data_payload, frame_front}

-- the eight bytes of an address
address-text : (at : ℕ) (ams : List ℕ) → AreBytes ams → at + 8 ≤ length ams → take 8 (drop at ams) ≡ address_bytes (address_at at ams)
address-text at ams bytes within =
    let a = drop at ams in
    let long : 8 ≤ length a = omega (arith, length-drop at ams) in
    let whole = next_field a (take 6 a) (drop 6 a) _ (drop 8 a) (bytes-front 0 6 a) (number16-front 6 a (AreBytes-drop at ams bytes) long) in
    let count : length (address_bytes (address_at at ams)) ≡ 8 =
    omega (arith, length-append (take 6 a) (to_le_bytes w16 (number16 6 a)), length-take-le 6 a (omega (arith, long)), two (number16 6 a)) in
    ap (take 8) (sym whole) ∙ take_at (address_bytes (address_at at ams)) (drop 8 a) 8 count
  where
    two : (n : ℕ) → length (to_le_bytes w16 n) ≡ 2
    two n = refl

-- the same as a number
address-number : (at : ℕ) (ams : List ℕ) → AreBytes ams → at + 8 ≤ length ams → to_le_bytes w64 (number64 at ams) ≡ address_bytes (address_at at ams)
address-number at ams bytes within =
    let eight : length (take 8 (drop at ams)) ≡ 8 = length-take-le 8 (drop at ams) (omega (arith, length-drop at ams)) in
    le_bytes_8 (take 8 (drop at ams)) _ eight (AreBytes-take 8 (drop at ams) (AreBytes-drop at ams bytes)) refl ∙ address-text at ams bytes within

-- five fields behind a front
behind-front : (front a b c d e : List ℕ) → front ++ (a ++ b ++ c ++ d ++ e) ≡ front ++ a ++ b ++ c ++ d ++ e
behind-front front a b c d e =
    sym (append_assoc front (a ++ b ++ c ++ d) e) ∙ ap (λ x. x ++ e) (sym (append_assoc front (a ++ b ++ c) d)
    ∙ ap (λ x. x ++ d) (sym (append_assoc front (a ++ b) c) ∙ ap (λ x. x ++ c) (sym (append_assoc front a b))))

header-text : (ams : List ℕ) (n : ℕ) → AreBytes ams → 32 ≤ length ams
    → (to_le_bytes w64 (number64 8 ams) ++ to_le_bytes w64 (number64 0 ams)) ++ answer_fields (number16 16 ams) n (number32 28 ams)
    ≡ header_bytes (response_header (header_at ams) no_error n)
header-text ams n bytes long =
    let h = header_at ams in
    let fields = answer_fields h.command n h.id in
    ap (λ x. (x ++ to_le_bytes w64 (number64 0 ams)) ++ fields) (address-number 8 ams bytes (omega (arith, long)))
    ∙ ap (λ x. (address_bytes h.source ++ x) ++ fields) (address-number 0 ams bytes (omega (arith, long)))
    ∙ behind-front (address_bytes h.source ++ address_bytes h.target) (to_le_bytes w16 h.command) (to_le_bytes w16 response_flags) (to_le_bytes w32 n)
    (to_le_bytes w32 no_error) (to_le_bytes w32 h.id)

-- both headers, by the numbers of the packet
pub headers-text : (h : AmsHeader) (ams headers : List ℕ) (n source target command id : ℕ) → AreBytes ams → 32 ≤ length ams → header_of ams ≡ Some h
    → source ≡ number64 8 ams → target ≡ number64 0 ams → command ≡ number16 16 ams → id ≡ number32 28 ams
    → headers ≡ frame_front (n + 32) ++ ((to_le_bytes w64 source ++ to_le_bytes w64 target) ++ answer_fields command n id)
    → headers ≡ answer_headers h n
headers-text h ams headers n source target command id bytes long is_h is_source is_target is_command is_id is =
    let at : header_at ams ≡ h = some-same _ _ (sym (header_of-long ams long) ∙ is_h) in
    let front = frame_front (n + 32) in
    is ∙ ap (λ x. front ++ ((to_le_bytes w64 x ++ to_le_bytes w64 target) ++ answer_fields command n id)) is_source
    ∙ ap (λ x. front ++ ((to_le_bytes w64 (number64 8 ams) ++ to_le_bytes w64 x) ++ answer_fields command n id)) is_target
    ∙ ap (λ x. front ++ ((to_le_bytes w64 (number64 8 ams) ++ to_le_bytes w64 (number64 0 ams)) ++ answer_fields x n id)) is_command
    ∙ ap (λ x. front ++ ((to_le_bytes w64 (number64 8 ams) ++ to_le_bytes w64 (number64 0 ams)) ++ answer_fields (number16 16 ams) n x)) is_id
    ∙ ap (λ x. front ++ x) (header-text ams n bytes long)
    ∙ ap (λ (x : AmsHeader). front ++ header_bytes (response_header x no_error n)) at
  where
    some-same : (a b : AmsHeader) → Some a ≡ Some b → a ≡ b
    some-same a b e = cc

-- and they make a frame of the payload behind them
pub headed-frame : (h : AmsHeader) (n : ℕ) (headers payload : List ℕ) → headers ≡ answer_headers h n → length headers ≡ 38 → n ≡ length payload
    → headers ++ payload ≡ frame_bytes (response_packet h no_error payload)
unfolding response_packet
headed-frame h n headers payload is count is_len =
    let header = header_bytes (response_header h no_error n) in
    let front = frame_front (n + 32) in
    let long : length header ≡ 32 = omega (arith, count, ap length is, length-append front header, six (n + 32)) in
    let total : length (header ++ payload) ≡ n + 32 = omega (arith, length-append header payload, long, is_len) in
    ap (λ x. x ++ payload) is ∙ append_assoc front header payload ∙ ap (λ k. frame_front k ++ (header ++ payload)) (sym total)
    ∙ ap (λ k. frame_bytes (header_bytes (response_header h no_error k) ++ payload)) is_len
  where
    six : (k : ℕ) → length (frame_front k) ≡ 6
    six k = refl

-- written one behind another
pub headed-behind : (h : AmsHeader) (n : ℕ) (old headers mid payload new : List ℕ) → headers ≡ answer_headers h n → length headers ≡ 38 → n ≡ length payload
    → mid ≡ old ++ headers → new ≡ mid ++ payload → new ≡ old ++ frame_bytes (response_packet h no_error payload)
headed-behind h n old headers mid payload new is count is_len first second =
    second ∙ ap (λ x. x ++ payload) first ∙ append_assoc old headers payload ∙ ap (λ x. old ++ x) (headed-frame h n headers payload is count is_len)

pub data-behind : (h : AmsHeader) (n len : ℕ) (old headers one two three bytes new : List ℕ) → headers ≡ answer_headers h n → length headers ≡ 38
    → n ≡ len + 8 → len ≡ length bytes → one ≡ old ++ headers → two ≡ one ++ to_le_bytes w32 0 → three ≡ two ++ to_le_bytes w32 len → new ≡ three ++ bytes
    → new ≡ old ++ frame_bytes (response_packet h no_error (data_payload no_error bytes))
data-behind h n len old headers one two three bytes new is count is_n is_len first second third fourth =
    let le = to_le_bytes w32 len in
    let payload : new ≡ one ++ (to_le_bytes w32 0 ++ (le ++ bytes)) =
    fourth ∙ ap (λ x. x ++ bytes) (third ∙ ap (λ x. x ++ le) second) ∙ append_assoc (one ++ to_le_bytes w32 0) le bytes
    ∙ append_assoc one (to_le_bytes w32 0) (le ++ bytes) in
    headed-behind h n old headers one (data_payload no_error bytes) new is count (omega (arith, is_n, is_len, eight bytes)) first
    (payload ∙ ap (λ k. one ++ (to_le_bytes w32 0 ++ (to_le_bytes w32 k ++ bytes))) is_len)
  where
    eight : (xs : List ℕ) → length (data_payload no_error xs) ≡ length xs + 8
    eight xs = omega (arith)

-- bytes of a field are those of its number
pub field-bytes : (bytes payload : List ℕ) (n : ℕ) → AreBytes bytes → length bytes ≡ 4 → n ≡ number32 0 bytes
    → payload ≡ data_payload no_error (to_le_bytes w32 n) → payload ≡ data_payload no_error bytes
field-bytes bytes payload n are four is_n is =
    is ∙ ap (data_payload no_error) (le_bytes_4 bytes n four are (is_n ∙ ap (from_le_bytes w32) (take_all 4 bytes (omega (arith, four)))))
