-- The reply that is read is the reply whose text the payload is.
use Rattle.std.proofs.Common.{◌≡◌, ◌≢◌, ℕ, ◌+◌, ◌^◌, ◌<◌, List, [], ◌∷◌, ◌++◌, length, get_or, drop, Some, None, refl, sym, ap, subst, ◌∙◌, arith, inl, inr}
use Rattle.std.specs.List.{AllByRecursion}
use Rattle.std.specs.Int.{w16, w32, to_le_bytes}
use Rattle.std.proofs.lemmas.Bool.{eq-eqb}
use Rattle.std.proofs.lemmas.Bool.Decides.{eqb_tells}
use Rattle.std.proofs.lemmas.List.{length-append, length-drop, drop_all}
use Rattle.std.proofs.lemmas.Nat.{from_le_bytes-to_le_bytes_2, from_le_bytes-to_le_bytes_4}
use Rattle.spec_plant.specs.Description.{Facts}
use Rattle.spec_formats.specs.Numbers.{AreBytes, number16, number32, at_length}
use Rattle.spec_formats.specs.Reply.{Reply, ReadDeviceInfo, Read, Write, ReadState, WriteControl}
use Rattle.spec_formats.specs.Reply.{AddDeviceNotification, DeleteDeviceNotification, ReadWrite, command_of}
use Rattle.spec_formats.specs.Reply.{result_of, facts_at, reply_bytes, refused_bytes, written_bytes}
use Rattle.spec_formats.specs.Reply.{FitsFields, IsReplyPayload, ReplyForm, reply_forms, reply_in, reply_of}
use Rattle.spec_formats.proofs.Fields.{number32-front, number16-lt, number32-lt, next8, next16, next32, no_more}
use Rattle.spec_formats.proofs.Forms.{at_length-is, at_length-some}

-- ---- a text is read as its reply

abbrev IsRead : Reply → Type 0
IsRead r = result_of r < 2 ^ 32 → FitsFields r → reply_of (command_of r) (reply_bytes r) ≡ Some r

info_again : (result : ℕ) (facts : Facts) → IsRead (ReadDeviceInfo result facts)
unfolding reply_of reply_in
info_again result facts lt f =
    let p = reply_bytes (ReadDeviceInfo result facts) in
    let r : number32 0 p ≡ result = from_le_bytes-to_le_bytes_4 result lt in
    let b : number16 6 p ≡ facts.build = from_le_bytes-to_le_bytes_2 facts.build f.2 in
    let same : facts_at 4 p ≡ facts = ap (λ (n : ℕ). record facts { build = n }) b in
    let front : ReadDeviceInfo (number32 0 p) (facts_at 4 p) ≡ ReadDeviceInfo result (facts_at 4 p) = ap (λ (n : ℕ). ReadDeviceInfo n (facts_at 4 p)) r in
    at_length-is 24 p (ReadDeviceInfo (number32 0 p) (facts_at 4 p))
    (ReadDeviceInfo result facts) (omega (arith, f.3)) (front ∙ ap (ReadDeviceInfo result) same)

read_again : (result : ℕ) (bytes : List ℕ) → IsRead (Read result bytes)
unfolding reply_of reply_in
read_again result bytes lt f =
    let p = reply_bytes (Read result bytes) in
    let r : number32 0 p ≡ result = from_le_bytes-to_le_bytes_4 result lt in
    let n : number32 4 p ≡ length bytes = from_le_bytes-to_le_bytes_4 (length bytes) f in
    at_length-is (8 + number32 4 p) p (Read (number32 0 p) bytes) (Read result bytes)
    (omega (arith, n, length-append (to_le_bytes w32 result ++ to_le_bytes w32 (length bytes)) bytes)) cc

read_write_again : (result : ℕ) (bytes : List ℕ) → IsRead (ReadWrite result bytes)
unfolding reply_of reply_in
read_write_again result bytes lt f =
    let p = reply_bytes (ReadWrite result bytes) in
    let r : number32 0 p ≡ result = from_le_bytes-to_le_bytes_4 result lt in
    let n : number32 4 p ≡ length bytes = from_le_bytes-to_le_bytes_4 (length bytes) f in
    at_length-is (8 + number32 4 p) p (ReadWrite (number32 0 p) bytes) (ReadWrite result bytes)
    (omega (arith, n, length-append (to_le_bytes w32 result ++ to_le_bytes w32 (length bytes)) bytes)) cc

state_again : (result ads device : ℕ) → IsRead (ReadState result ads device)
unfolding reply_of reply_in
state_again result ads device lt f =
    let p = reply_bytes (ReadState result ads device) in
    let r : number32 0 p ≡ result = from_le_bytes-to_le_bytes_4 result lt in
    let a : number16 4 p ≡ ads = from_le_bytes-to_le_bytes_2 ads f.0 in
    let d : number16 6 p ≡ device = from_le_bytes-to_le_bytes_2 device f.1 in
    at_length-is 8 p (ReadState (number32 0 p) (number16 4 p) (number16 6 p)) (ReadState result ads device) refl cc

addition_again : (result handle : ℕ) → IsRead (AddDeviceNotification result handle)
unfolding reply_of reply_in
addition_again result handle lt f =
    let p = reply_bytes (AddDeviceNotification result handle) in
    let r : number32 0 p ≡ result = from_le_bytes-to_le_bytes_4 result lt in
    let h : number32 4 p ≡ handle = from_le_bytes-to_le_bytes_4 handle f in
    at_length-is 8 p (AddDeviceNotification (number32 0 p) (number32 4 p)) (AddDeviceNotification result handle) refl cc

result_again : (result : ℕ) → IsRead (Write result) × IsRead (WriteControl result) × IsRead (DeleteDeviceNotification result)
unfolding reply_of reply_in
result_again result =
    let p = to_le_bytes w32 result in
    let same : result < 2 ^ 32 → number32 0 p ≡ result = λ lt. from_le_bytes-to_le_bytes_4 result lt in (
      (λ lt f. at_length-is 4 p (Write (number32 0 p)) (Write result) refl (ap Write (same lt))),
      (λ lt f. at_length-is 4 p (WriteControl (number32 0 p)) (WriteControl result) refl (ap WriteControl (same lt))),
      (λ lt f. at_length-is 4 p (DeleteDeviceNotification (number32 0 p)) (DeleteDeviceNotification result) refl (ap DeleteDeviceNotification (same lt))),
    )

again : (r : Reply) → IsRead r
again (ReadDeviceInfo result facts) = info_again result facts
again (Read result bytes) = read_again result bytes
again (Write result) = (result_again result).0
again (ReadState result ads device) = state_again result ads device
again (WriteControl result) = (result_again result).1
again (AddDeviceNotification result handle) = addition_again result handle
again (DeleteDeviceNotification result) = (result_again result).2
again (ReadWrite result bytes) = read_write_again result bytes

-- a text is read as its reply
pub reply_of-of_text : (command : ℕ) (payload : List ℕ) (r : Reply) → IsReplyPayload command payload r
    → reply_of command payload ≡ Some r
reply_of-of_text command payload r is =
    subst (λ (c : ℕ). reply_of c payload ≡ Some r) is.command_is
    (subst (λ (p : List ℕ). reply_of (command_of r) p ≡ Some r) (sym is.whole) (again r is.result_fits is.fields_fit))

-- ---- what is read is a reply, and its text is the payload

text : (r : Reply) (payload : List ℕ) → result_of r < 2 ^ 32 → FitsFields r → reply_bytes r ≡ payload
    → IsReplyPayload (command_of r) payload r
text r payload lt fits e = record { command_is = refl; result_fits = lt; fields_fit = fits; whole = sym e }

Sound : ReplyForm → Type 0
Sound f = (p : List ℕ) (r : Reply) → AreBytes p → f.read p ≡ Some r → IsReplyPayload f.command p r

sound_info : Sound (record { command = 1; read = λ p. at_length 24 p (ReadDeviceInfo (number32 0 p) (facts_at 4 p)) })
unfolding Sound
sound_info p r h e =
    let r0 = ReadDeviceInfo (number32 0 p) (facts_at 4 p) in
    let s = at_length-some 24 p r0 r e in
    let fits : FitsFields r0 = (h 4, h 5, number16-lt 6 p h, omega (arith, s.0, length-drop 8 p)) in
    let result = to_le_bytes w32 (number32 0 p) in
    let major = result ++ get_or p 4 0 ∷ [] in
    let minor = major ++ get_or p 5 0 ∷ [] in
    let whole = next16 minor 6 p h (omega (arith, s.0)) (next8 major 5 p (omega (arith, s.0)) (next8 result 4 p (omega (arith, s.0))
    (number32-front 0 p h (omega (arith, s.0))))) in
    subst (λ (x : Reply). IsReplyPayload 1 p x) s.1 (text r0 p (number32-lt 0 p h) fits whole)

-- a length, and the data that follows it
data_behind : (p : List ℕ) → AreBytes p → length p ≡ 8 + number32 4 p
    → (to_le_bytes w32 (number32 0 p) ++ to_le_bytes w32 (length (drop 8 p))) ++ drop 8 p ≡ p
data_behind p h e =
    let n : number32 4 p ≡ length (drop 8 p) = omega (arith, e, length-drop 8 p) in
    let result = to_le_bytes w32 (number32 0 p) in
    subst (λ (k : ℕ). (result ++ to_le_bytes w32 k) ++ drop 8 p ≡ p) n
    (next32 result 4 p h (omega (arith, e)) (number32-front 0 p h (omega (arith, e))))

data_fits : (p : List ℕ) → AreBytes p → length p ≡ 8 + number32 4 p → length (drop 8 p) < 2 ^ 32
data_fits p h e =
    let n : number32 4 p ≡ length (drop 8 p) = omega (arith, e, length-drop 8 p) in
    subst (λ (k : ℕ). k < 2 ^ 32) n (number32-lt 4 p h)

sound_read : Sound (record { command = 2; read = λ p. at_length (8 + number32 4 p) p (Read (number32 0 p) (drop 8 p)) })
unfolding Sound
sound_read p r h e =
    let r0 = Read (number32 0 p) (drop 8 p) in
    let s = at_length-some (8 + number32 4 p) p r0 r e in
    subst (λ (x : Reply). IsReplyPayload 2 p x) s.1 (text r0 p (number32-lt 0 p h) (data_fits p h s.0) (data_behind p h s.0))

sound_read_write : Sound (record { command = 9; read = λ p. at_length (8 + number32 4 p) p (ReadWrite (number32 0 p) (drop 8 p)) })
unfolding Sound
sound_read_write p r h e =
    let r0 = ReadWrite (number32 0 p) (drop 8 p) in
    let s = at_length-some (8 + number32 4 p) p r0 r e in
    subst (λ (x : Reply). IsReplyPayload 9 p x) s.1 (text r0 p (number32-lt 0 p h) (data_fits p h s.0) (data_behind p h s.0))

-- a result alone
alone : (p : List ℕ) → AreBytes p → length p ≡ 4 → to_le_bytes w32 (number32 0 p) ≡ p
alone p h e = no_more (to_le_bytes w32 (number32 0 p)) (drop 4 p) p (number32-front 0 p h (omega (arith, e))) (drop_all 4 p (omega (arith, e)))

sound_write : Sound (record { command = 3; read = λ p. at_length 4 p (Write (number32 0 p)) })
unfolding Sound
sound_write p r h e =
    let s = at_length-some 4 p (Write (number32 0 p)) r e in
    subst (λ (x : Reply). IsReplyPayload 3 p x) s.1 (text (Write (number32 0 p)) p (number32-lt 0 p h) tt (alone p h s.0))

sound_control : Sound (record { command = 5; read = λ p. at_length 4 p (WriteControl (number32 0 p)) })
unfolding Sound
sound_control p r h e =
    let s = at_length-some 4 p (WriteControl (number32 0 p)) r e in
    subst (λ (x : Reply). IsReplyPayload 5 p x) s.1 (text (WriteControl (number32 0 p)) p (number32-lt 0 p h) tt (alone p h s.0))

sound_deletion : Sound (record { command = 7; read = λ p. at_length 4 p (DeleteDeviceNotification (number32 0 p)) })
unfolding Sound
sound_deletion p r h e =
    let s = at_length-some 4 p (DeleteDeviceNotification (number32 0 p)) r e in
    subst (λ (x : Reply). IsReplyPayload 7 p x) s.1 (text (DeleteDeviceNotification (number32 0 p)) p (number32-lt 0 p h) tt (alone p h s.0))

sound_state : Sound (record { command = 4; read = λ p. at_length 8 p (ReadState (number32 0 p) (number16 4 p) (number16 6 p)) })
unfolding Sound
sound_state p r h e =
    let r0 = ReadState (number32 0 p) (number16 4 p) (number16 6 p) in
    let s = at_length-some 8 p r0 r e in
    let result = to_le_bytes w32 (number32 0 p) in
    let ads = result ++ to_le_bytes w16 (number16 4 p) in
    let whole = next16 ads 6 p h (omega (arith, s.0)) (next16 result 4 p h (omega (arith, s.0)) (number32-front 0 p h (omega (arith, s.0)))) in
    subst (λ (x : Reply). IsReplyPayload 4 p x) s.1 (text r0 p (number32-lt 0 p h) (number16-lt 4 p h, number16-lt 6 p h)
    (no_more (ads ++ to_le_bytes w16 (number16 6 p)) (drop 8 p) p whole (drop_all 8 p (omega (arith, s.0)))))

sound_addition : Sound (record { command = 6; read = λ p. at_length 8 p (AddDeviceNotification (number32 0 p) (number32 4 p)) })
unfolding Sound
sound_addition p r h e =
    let r0 = AddDeviceNotification (number32 0 p) (number32 4 p) in
    let s = at_length-some 8 p r0 r e in
    let result = to_le_bytes w32 (number32 0 p) in
    let whole = next32 result 4 p h (omega (arith, s.0)) (number32-front 0 p h (omega (arith, s.0))) in
    subst (λ (x : Reply). IsReplyPayload 6 p x) s.1 (text r0 p (number32-lt 0 p h) (number32-lt 4 p h)
    (no_more (result ++ to_le_bytes w32 (number32 4 p)) (drop 8 p) p whole (drop_all 8 p (omega (arith, s.0)))))

sound_forms : AllByRecursion Sound reply_forms
unfolding Sound
sound_forms = (
  sound_info,
  (
    sound_read,
    (
      sound_write,
      (
        sound_state,
        (
          sound_control,
          (
            sound_addition,
            (
              sound_deletion,
              (sound_read_write, tt),
            ),
          ),
        ),
      ),
    ),
  ),
)

sound_in : (forms : List ReplyForm) (command : ℕ) (p : List ℕ) (r : Reply) → AllByRecursion Sound forms → AreBytes p
    → reply_in forms command p ≡ Some r → IsReplyPayload command p r
unfolding reply_in Sound
sound_in [] command p r all h e = absurd cc
sound_in (f ∷ forms) command p r all h e =
    elim (eqb_tells f.command command) [
      | inl same ↦ subst (λ (c : ℕ). IsReplyPayload c p r) same.1 (all.0 p r h (rw same.0 at e))
      | inr other ↦ sound_in forms command p r all.1 h (rw other.0 at e)
    ]

-- what is read is a reply, and its text is the payload
pub text_of-reply_of : (command : ℕ) (payload : List ℕ) (r : Reply) → AreBytes payload
    → reply_of command payload ≡ Some r → IsReplyPayload command payload r
unfolding reply_of
text_of-reply_of command payload r h e = sound_in reply_forms command payload r sound_forms h e

none_in : (forms : List ReplyForm) (command : ℕ) (p : List ℕ) → AllByRecursion (λ f. f.command ≢ command) forms
    → reply_in forms command p ≡ None
unfolding reply_in
none_in [] command p all = refl
none_in (f ∷ forms) command p all =
    elim (eqb_tells f.command command) [
      | inl same ↦ absurd (all.0 same.1)
      | inr other ↦ rw other.0 (none_in forms command p all.1)
    ]

-- a number that is no command with a reply has none
pub reply_of-other : (command : ℕ) (p : List ℕ) → AllByRecursion (λ f. f.command ≢ command) reply_forms → reply_of command p ≡ None
unfolding reply_of
reply_of-other command p other = none_in reply_forms command p other

-- a reply is written in one of its two forms
pub written_bytes-done : (r : Reply) → result_of r ≡ 0 → written_bytes r ≡ reply_bytes r
unfolding written_bytes
written_bytes-done r e = rw (eq-eqb (result_of r) 0 e) refl

pub written_bytes-refused : (r : Reply) → result_of r ≢ 0 → written_bytes r ≡ refused_bytes r
unfolding written_bytes
written_bytes-refused r ne = elim (eqb_tells (result_of r) 0) [ inl same ↦ absurd (ne same.1) | inr other ↦ rw other.0 refl ]
