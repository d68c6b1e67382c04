-- A payload and a packet are longer than the data that a request gave by their fixed fields alone.
use Rattle.std.proofs.Common.{◌≡◌, ℕ, ◌+◌, ◌-◌, ◌≤◌, List, [], ◌∷◌, ◌++◌, length, Bool, true, false, cond, refl, arith, inl, inr}
use Rattle.std.specs.Prelude.{Option, Some, None, drop, take, nat_lt, ◌==◌}
use Rattle.std.specs.Int.{w16, w32, to_le_bytes}
use Rattle.std.proofs.lemmas.Bool.{cases_Bool}
use Rattle.std.proofs.lemmas.List.{length-append, length-drop}
use Rattle.spec_formats.specs.Header.{AmsAddress, AmsHeader, header_of, header_bytes, address_bytes, response_header, response_flags}
use Rattle.spec_formats.specs.Ranges.{greatest_len}
use Rattle.spec_formats.specs.Reply.{Reply, ReadDeviceInfo, Read, Write, ReadState, WriteControl}
use Rattle.spec_formats.specs.Reply.{AddDeviceNotification, DeleteDeviceNotification, ReadWrite, facts_at}
use Rattle.spec_formats.specs.Reply.{result_of, reply_bytes, refused_bytes, written_bytes}
use Rattle.spec_machine.specs.Acts.{Outcome}
use Rattle.spec_machine.specs.Replies.{OutcomeForm, outcome_forms, reply_in_forms, reply_payload, response_packet}
use Rattle.spec_laws.specs.Soundness.{Each}

-- a payload of a result, a length and data of at most 2,000,000 bytes
pub record IsShortReply (r : Reply) : Type 0 where
  pub short : length (written_bytes r) ≤ 8 + greatest_len

written-short : (r : Reply) → length (reply_bytes r) ≤ 8 + greatest_len → length (refused_bytes r) ≤ 24 → IsShortReply r
unfolding written_bytes
written-short r h g =
    elim (cases_Bool (result_of r == 0)) [
      | inl t ↦ record { short = rw t h }
      | inr t ↦ record { short = rw t (omega (arith, g)) }
    ]

reply_if : (b : Bool) (x y : Reply) → IsShortReply x → IsShortReply y → IsShortReply (cond b x y)
reply_if true x y p q = p
reply_if false x y p q = q

IsShortForm : OutcomeForm → Type 0
IsShortForm f = (o : Outcome) → length o.bytes ≤ greatest_len → IsShortReply (f.reply o)

in-forms : (fs : List OutcomeForm) (command : ℕ) (o : Outcome) → length o.bytes ≤ greatest_len
    → Each IsShortForm fs → IsShortReply (reply_in_forms fs command o)
unfolding reply_in_forms IsShortForm
in-forms [] command o h e = written-short (Write o.code) (omega arith) (omega arith)
in-forms (f ∷ fs) command o h e = reply_if (f.command == command) (f.reply o) (reply_in_forms fs command o) (e.0 o h) (in-forms fs command o h (e.1))

facts-short : IsShortForm (record { command = 1; reply = λ o. ReadDeviceInfo o.code (facts_at 0 o.bytes) })
unfolding IsShortForm
facts-short o h = let l = length-drop 4 o.bytes in written-short (ReadDeviceInfo o.code (facts_at 0 o.bytes)) (omega (arith, h, l)) (omega arith)

read-form : IsShortForm (record { command = 2; reply = λ o. Read o.code o.bytes })
unfolding IsShortForm
read-form o h = written-short (Read o.code o.bytes) (omega (arith, h)) (omega arith)

write-form : IsShortForm (record { command = 3; reply = λ o. Write o.code })
unfolding IsShortForm
write-form o h = written-short (Write o.code) (omega arith) (omega arith)

state-form : IsShortForm
    (record {
      command = 4;
      reply = λ o. ReadState o.code (Rattle.spec_formats.specs.Numbers.number16 0 o.bytes) (Rattle.spec_formats.specs.Numbers.number16 2 o.bytes);
    })
unfolding IsShortForm
state-form o h = written-short (ReadState o.code _ _) (omega arith) (omega arith)

control-form : IsShortForm (record { command = 5; reply = λ o. WriteControl o.code })
unfolding IsShortForm
control-form o h = written-short (WriteControl o.code) (omega arith) (omega arith)

add-form : IsShortForm (record { command = 6; reply = λ o. AddDeviceNotification o.code (Rattle.spec_formats.specs.Numbers.number32 0 o.bytes) })
unfolding IsShortForm
add-form o h = written-short (AddDeviceNotification o.code _) (omega arith) (omega arith)

delete-form : IsShortForm (record { command = 7; reply = λ o. DeleteDeviceNotification o.code })
unfolding IsShortForm
delete-form o h = written-short (DeleteDeviceNotification o.code) (omega arith) (omega arith)

read_write-form : IsShortForm (record { command = 9; reply = λ o. ReadWrite o.code o.bytes })
unfolding IsShortForm
read_write-form o h = written-short (ReadWrite o.code o.bytes) (omega (arith, h)) (omega arith)

pub payload-short : (command : ℕ) (o : Outcome) → length o.bytes ≤ greatest_len → length (reply_payload command o) ≤ 8 + greatest_len
payload-short command o h =
    (in-forms outcome_forms command o h
    (facts-short, (read-form, (write-form, (state-form, (control-form, (add-form, (delete-form, (read_write-form, tt))))))))).short

-- the header of a packet has NetIds of at most 6 bytes

pub record IsShortHeader (h : AmsHeader) : Type 0 where
  pub target : length h.target.net ≤ 6
  pub source : length h.source.net ≤ 6

abbrev pub MaybeShort : Option AmsHeader → Type 0
MaybeShort None = Unit {0}
MaybeShort (Some h) = IsShortHeader h

six : (bytes : List ℕ) → length (take 6 bytes) ≤ 6
six bytes = go 6 bytes
  where
    go : (n : ℕ) (xs : List ℕ) → length (take n xs) ≤ n
    go Rattle.std.proofs.Common.zero xs = omega arith
    go (Rattle.std.proofs.Common.suc n) [] = omega arith
    go (Rattle.std.proofs.Common.suc n) (x ∷ xs) = let h = go n xs in omega (arith, h)

pub header-short : (packet : List ℕ) → MaybeShort (header_of packet)
unfolding header_of
header-short packet =
    elim (cases_Bool (nat_lt (length packet) 32)) [
      | inl t ↦ rw t tt
      | inr t ↦ rw t (record { target = six (drop 0 packet); source = six (drop 8 packet) })
    ]

address-short : (a : AmsAddress) → length a.net ≤ 6 → length (address_bytes a) ≤ 8
address-short a h = let e = length-append a.net (to_le_bytes w16 a.port) in omega (arith, h, e)

seven : (a b : List ℕ) (c d e f g : ℕ) → length a ≤ 8 → length b ≤ 8
    → length (a ++ b ++ to_le_bytes w16 c ++ to_le_bytes w16 d ++ to_le_bytes w32 e ++ to_le_bytes w32 f ++ to_le_bytes w32 g) ≤ 32
seven a b c d e f g x y =
    let ab = a ++ b in
    let abc = ab ++ to_le_bytes w16 c in
    let abcd = abc ++ to_le_bytes w16 d in
    let abcde = abcd ++ to_le_bytes w32 e in
    let abcdef = abcde ++ to_le_bytes w32 f in
    omega (
      arith,
      x,
      y,
      length-append a b,
      length-append ab (to_le_bytes w16 c),
      length-append abc (to_le_bytes w16 d),
      length-append abcd (to_le_bytes w32 e),
      length-append abcde (to_le_bytes w32 f),
      length-append abcdef (to_le_bytes w32 g),
    )

pub response-short : (h : AmsHeader) (code : ℕ) (payload : List ℕ) → IsShortHeader h
    → length payload ≤ 8 + greatest_len → length (response_packet h code payload) ≤ 32 + 8 + greatest_len
unfolding response_packet
response-short h code payload s l =
    let front = seven (address_bytes h.source) (address_bytes h.target) h.command response_flags
    (length payload) code h.id (address-short h.source s.source) (address-short h.target s.target) in
    let all = length-append (header_bytes (response_header h code (length payload))) payload in
    omega (arith, l, front, all)
