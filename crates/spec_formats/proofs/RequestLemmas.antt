-- The request that is read is the request whose text the payload is.
use Rattle.std.proofs.Common.{◌≡◌, ◌≢◌, ℕ, ◌+◌, ◌^◌, ◌<◌, ◌≤◌, List, [], ◌∷◌, ◌++◌, length, drop, Some, None, refl, sym, subst, ◌∙◌, arith, inl, inr, lit≤, ◌⊎◌}
use Rattle.std.specs.List.{AllByRecursion}
use Rattle.std.proofs.lemmas.Bool.Decides.{eqb_tells}
use Rattle.std.specs.Int.{w16, w32, to_le_bytes}
use Rattle.std.proofs.lemmas.List.{append-nil, length-append, length-drop, drop_all}
use Rattle.std.proofs.lemmas.Nat.{from_le_bytes-to_le_bytes_2, from_le_bytes-to_le_bytes_4}
use Rattle.spec_formats.specs.Numbers.{AreBytes, number16, number32, at_length}
use Rattle.spec_formats.specs.Request.{Request, ReadDeviceInfo, Read, Write, ReadState, WriteControl}
use Rattle.spec_formats.specs.Request.{AddDeviceNotification, DeleteDeviceNotification, DeviceNotification}
use Rattle.spec_formats.specs.Request.{ReadWrite, command_of, access_bytes, request_fields, FitsRequest}
use Rattle.spec_formats.specs.Request.{IsRequestPayload, RequestForm, request_forms, reserved_len, request_in}
use Rattle.spec_formats.specs.Request.{request_of}
use Rattle.spec_formats.proofs.Fields.{number16-front, number32-front, number16-lt, number32-lt, next16, next32, no_more}
use Rattle.spec_formats.proofs.Forms.{at_length-is, at_length-some, no_reserved, empty}

-- ---- a text is read as its request

-- where nothing is reserved
abbrev IsRead : Request → Type 0
IsRead r = request_of (command_of r) (request_fields r) ≡ Some r

plain : (r : Request) (reserved : List ℕ) → length reserved ≡ 0 → IsRead r
    → request_of (command_of r) (request_fields r ++ reserved) ≡ Some r
plain r reserved e is = subst (λ (p : List ℕ). request_of (command_of r) p ≡ Some r) (sym (no_reserved (request_fields r) reserved e)) is

read_again : (group offset len : ℕ) → FitsRequest (Read group offset len) → IsRead (Read group offset len)
unfolding request_of request_in
read_again group offset len f =
    let p = request_fields (Read group offset len) in
    let g : number32 0 p ≡ group = from_le_bytes-to_le_bytes_4 group f.0 in
    let o : number32 4 p ≡ offset = from_le_bytes-to_le_bytes_4 offset f.1 in
    let l : number32 8 p ≡ len = from_le_bytes-to_le_bytes_4 len f.2 in
    at_length-is 12 p (Read (number32 0 p) (number32 4 p) (number32 8 p)) (Read group offset len) refl cc

write_again : (group offset : ℕ) (bytes : List ℕ) → FitsRequest (Write group offset bytes) → IsRead (Write group offset bytes)
unfolding request_of request_in
write_again group offset bytes f =
    let p = request_fields (Write group offset bytes) in
    let g : number32 0 p ≡ group = from_le_bytes-to_le_bytes_4 group f.0 in
    let o : number32 4 p ≡ offset = from_le_bytes-to_le_bytes_4 offset f.1 in
    let n : number32 8 p ≡ length bytes = from_le_bytes-to_le_bytes_4 (length bytes) f.2 in
    at_length-is (12 + number32 8 p) p (Write (number32 0 p) (number32 4 p) bytes) (Write group offset bytes)
    (omega (arith, n, length-append (access_bytes group offset (length bytes)) bytes)) cc

control_again : (ads device : ℕ) (bytes : List ℕ) → FitsRequest (WriteControl ads device bytes) → IsRead (WriteControl ads device bytes)
unfolding request_of request_in
control_again ads device bytes f =
    let p = request_fields (WriteControl ads device bytes) in
    let a : number16 0 p ≡ ads = from_le_bytes-to_le_bytes_2 ads f.0 in
    let d : number16 2 p ≡ device = from_le_bytes-to_le_bytes_2 device f.1 in
    let n : number32 4 p ≡ length bytes = from_le_bytes-to_le_bytes_4 (length bytes) f.2 in
    at_length-is (8 + number32 4 p) p (WriteControl (number16 0 p) (number16 2 p) bytes) (WriteControl ads device bytes)
    (omega (arith, n, length-append (to_le_bytes w16 ads ++ to_le_bytes w16 device ++ to_le_bytes w32 (length bytes)) bytes)) cc

addition_again : (group offset len mode delay cycle : ℕ) (reserved : List ℕ)
    → FitsRequest (AddDeviceNotification group offset len mode delay cycle) → length reserved ≡ 16
    → request_of 6 (request_fields (AddDeviceNotification group offset len mode delay cycle) ++ reserved)
    ≡ Some (AddDeviceNotification group offset len mode delay cycle)
unfolding request_of request_in
addition_again group offset len mode delay cycle reserved f e =
    let fields = request_fields (AddDeviceNotification group offset len mode delay cycle) in
    let p = fields ++ reserved in
    let g : number32 0 p ≡ group = from_le_bytes-to_le_bytes_4 group f.0 in
    let o : number32 4 p ≡ offset = from_le_bytes-to_le_bytes_4 offset f.1 in
    let l : number32 8 p ≡ len = from_le_bytes-to_le_bytes_4 len f.2 in
    let m : number32 12 p ≡ mode = from_le_bytes-to_le_bytes_4 mode f.3 in
    let d : number32 16 p ≡ delay = from_le_bytes-to_le_bytes_4 delay f.4 in
    let c : number32 20 p ≡ cycle = from_le_bytes-to_le_bytes_4 cycle f.5 in
    at_length-is 40 p (AddDeviceNotification (number32 0 p) (number32 4 p) (number32 8 p) (number32 12 p) (number32 16 p) (number32 20 p))
    (AddDeviceNotification group offset len mode delay cycle) (omega (arith, e, length-append fields reserved)) cc

deletion_again : (handle : ℕ) → FitsRequest (DeleteDeviceNotification handle) → IsRead (DeleteDeviceNotification handle)
unfolding request_of request_in
deletion_again handle f =
    let p = to_le_bytes w32 handle in
    let h : number32 0 p ≡ handle = from_le_bytes-to_le_bytes_4 handle f in
    at_length-is 4 p (DeleteDeviceNotification (number32 0 p)) (DeleteDeviceNotification handle) refl cc

read_write_again : (group offset read_len : ℕ) (bytes : List ℕ) → FitsRequest (ReadWrite group offset read_len bytes)
    → IsRead (ReadWrite group offset read_len bytes)
unfolding request_of request_in
read_write_again group offset read_len bytes f =
    let p = request_fields (ReadWrite group offset read_len bytes) in
    let g : number32 0 p ≡ group = from_le_bytes-to_le_bytes_4 group f.0 in
    let o : number32 4 p ≡ offset = from_le_bytes-to_le_bytes_4 offset f.1 in
    let l : number32 8 p ≡ read_len = from_le_bytes-to_le_bytes_4 read_len f.2 in
    let n : number32 12 p ≡ length bytes = from_le_bytes-to_le_bytes_4 (length bytes) f.3 in
    at_length-is (16 + number32 12 p) p (ReadWrite (number32 0 p) (number32 4 p) (number32 8 p) bytes) (ReadWrite group offset read_len bytes)
    (omega (arith, n, length-append (access_bytes group offset read_len ++ to_le_bytes w32 (length bytes)) bytes)) cc

as_it_is : (bytes : List ℕ) → IsRead (DeviceNotification bytes)
unfolding request_of request_in
as_it_is bytes = refl

nothing_again : IsRead ReadDeviceInfo × IsRead ReadState
unfolding request_of request_in
nothing_again = (refl, refl)

again : (r : Request) (reserved : List ℕ) → FitsRequest r → length reserved ≡ reserved_len (command_of r)
    → request_of (command_of r) (request_fields r ++ reserved) ≡ Some r
again ReadDeviceInfo reserved f e = plain ReadDeviceInfo reserved e nothing_again.0
again (Read group offset len) reserved f e = plain (Read group offset len) reserved e (read_again group offset len f)
again (Write group offset bytes) reserved f e = plain (Write group offset bytes) reserved e (write_again group offset bytes f)
again ReadState reserved f e = plain ReadState reserved e nothing_again.1
again (WriteControl ads device bytes) reserved f e = plain (WriteControl ads device bytes) reserved e (control_again ads device bytes f)
again (AddDeviceNotification group offset len mode delay cycle) reserved f e = addition_again group offset len mode delay cycle reserved f e
again (DeleteDeviceNotification handle) reserved f e = plain (DeleteDeviceNotification handle) reserved e (deletion_again handle f)
again (DeviceNotification bytes) reserved f e = plain (DeviceNotification bytes) reserved e (as_it_is bytes)
again (ReadWrite group offset read_len bytes) reserved f e =
    plain (ReadWrite group offset read_len bytes) reserved e (read_write_again group offset read_len bytes f)

-- a text is read as its request
pub request_of-of_text : (command : ℕ) (payload : List ℕ) (r : Request) → IsRequestPayload command payload r
    → request_of command payload ≡ Some r
request_of-of_text command payload r is =
    subst (λ (c : ℕ). request_of c payload ≡ Some r) is.command_is
    (subst (λ (p : List ℕ). request_of (command_of r) p ≡ Some r) (sym is.whole)
    (again r is.reserved is.fits (subst (λ (c : ℕ). length is.reserved ≡ reserved_len c) (sym is.command_is) is.reserved_fills)))

-- ---- what is read is a request, and its text is the payload

text : (r : Request) (payload : List ℕ) → reserved_len (command_of r) ≡ 0 → FitsRequest r → request_fields r ≡ payload
    → IsRequestPayload (command_of r) payload r
text r payload none fits e = record {
  command_is = refl;
  fits = fits;
  reserved = [];
  reserved_fills = sym none;
  whole = sym e ∙ sym (append-nil (request_fields r));
}

-- the three numbers that an access begins with
access-front : (p : List ℕ) → AreBytes p → 12 ≤ length p
    → access_bytes (number32 0 p) (number32 4 p) (number32 8 p) ++ drop 12 p ≡ p
access-front p h long =
    let group = to_le_bytes w32 (number32 0 p) in
    let offset = group ++ to_le_bytes w32 (number32 4 p) in
    next32 offset 8 p h (omega arith) (next32 group 4 p h (omega arith) (number32-front 0 p h (omega arith)))

Sound : RequestForm → Type 0
Sound f = (p : List ℕ) (r : Request) → AreBytes p → f.read p ≡ Some r → IsRequestPayload f.command p r

sound_nothing : (r0 : Request) (p : List ℕ) (r : Request) → reserved_len (command_of r0) ≡ 0 → FitsRequest r0 → request_fields r0 ≡ []
    → at_length 0 p r0 ≡ Some r → IsRequestPayload (command_of r0) p r
sound_nothing r0 p r none fits nothing e =
    let s = at_length-some 0 p r0 r e in
    subst (λ (x : Request). IsRequestPayload (command_of r0) p x) s.1 (text r0 p none fits (nothing ∙ sym (empty p s.0)))

sound_read : Sound (record { command = 2; read = λ p. at_length 12 p (Read (number32 0 p) (number32 4 p) (number32 8 p)) })
unfolding Sound
sound_read p r h e =
    let r0 = Read (number32 0 p) (number32 4 p) (number32 8 p) in
    let s = at_length-some 12 p r0 r e in
    let fits : FitsRequest r0 = (number32-lt 0 p h, number32-lt 4 p h, number32-lt 8 p h) in
    subst (λ (x : Request). IsRequestPayload 2 p x) s.1
    (text r0 p refl fits (no_more (request_fields r0) (drop 12 p) p (access-front p h (omega (arith, s.0))) (drop_all 12 p (omega (arith, s.0)))))

sound_write : Sound (record { command = 3; read = λ p. at_length (12 + number32 8 p) p (Write (number32 0 p) (number32 4 p) (drop 12 p)) })
unfolding Sound
sound_write p r h e =
    let r0 = Write (number32 0 p) (number32 4 p) (drop 12 p) in
    let s = at_length-some (12 + number32 8 p) p r0 r e in
    let n : number32 8 p ≡ length (drop 12 p) = omega (arith, s.0, length-drop 12 p) in
    let lt : number32 8 p < 2 ^ 32 = number32-lt 8 p h in
    let fits : FitsRequest r0 = (number32-lt 0 p h, number32-lt 4 p h, subst (λ (k : ℕ). k < 2 ^ 32) n lt) in
    let long : 12 ≤ length p = omega (arith, s.0) in
    subst (λ (x : Request). IsRequestPayload 3 p x) s.1
    (text r0 p refl fits (subst (λ (k : ℕ). access_bytes (number32 0 p) (number32 4 p) k ++ drop 12 p ≡ p) n (access-front p h long)))

sound_control : Sound (record { command = 5; read = λ p. at_length (8 + number32 4 p) p (WriteControl (number16 0 p) (number16 2 p) (drop 8 p)) })
unfolding Sound
sound_control p r h e =
    let r0 = WriteControl (number16 0 p) (number16 2 p) (drop 8 p) in
    let s = at_length-some (8 + number32 4 p) p r0 r e in
    let n : number32 4 p ≡ length (drop 8 p) = omega (arith, s.0, length-drop 8 p) in
    let lt : number32 4 p < 2 ^ 32 = number32-lt 4 p h in
    let fits : FitsRequest r0 = (number16-lt 0 p h, number16-lt 2 p h, subst (λ (k : ℕ). k < 2 ^ 32) n lt) in
    let long : 8 ≤ length p = omega (arith, s.0) in
    let ads = to_le_bytes w16 (number16 0 p) in
    let states = ads ++ to_le_bytes w16 (number16 2 p) in
    let whole = next32 states 4 p h (omega arith) (next16 ads 2 p h (omega arith) (number16-front 0 p h (omega arith))) in
    subst (λ (x : Request). IsRequestPayload 5 p x) s.1
    (text r0 p refl fits (subst (λ (k : ℕ). (states ++ to_le_bytes w32 k) ++ drop 8 p ≡ p) n whole))

sound_addition : Sound (record {
  command = 6;
  read = λ p. at_length 40 p (AddDeviceNotification (number32 0 p) (number32 4 p) (number32 8 p)
      (number32 12 p) (number32 16 p) (number32 20 p));
})
unfolding Sound
sound_addition p r h e =
    let r0 = AddDeviceNotification (number32 0 p) (number32 4 p) (number32 8 p) (number32 12 p) (number32 16 p) (number32 20 p) in
    let s = at_length-some 40 p r0 r e in
    let access = access_bytes (number32 0 p) (number32 4 p) (number32 8 p) in
    let mode = access ++ to_le_bytes w32 (number32 12 p) in
    let delay = mode ++ to_le_bytes w32 (number32 16 p) in
    let whole = next32 delay 20 p h (omega (arith, s.0)) (next32 mode 16 p h (omega (arith, s.0))
    (next32 access 12 p h (omega (arith, s.0)) (access-front p h (omega (arith, s.0))))) in
    let fits : FitsRequest r0 = (number32-lt 0 p h, number32-lt 4 p h, number32-lt 8 p h, number32-lt 12 p h, number32-lt 16 p h, number32-lt 20 p h) in
    subst (λ (x : Request). IsRequestPayload 6 p x) s.1 (record {
      command_is = refl;
      fits = fits;
      reserved = drop 24 p;
      reserved_fills = omega (arith, s.0, length-drop 24 p);
      whole = sym whole;
    })

sound_deletion : Sound (record { command = 7; read = λ p. at_length 4 p (DeleteDeviceNotification (number32 0 p)) })
unfolding Sound
sound_deletion p r h e =
    let r0 = DeleteDeviceNotification (number32 0 p) in
    let s = at_length-some 4 p r0 r e in
    subst (λ (x : Request). IsRequestPayload 7 p x) s.1
    (text r0 p refl (number32-lt 0 p h)
    (no_more (to_le_bytes w32 (number32 0 p)) (drop 4 p) p (number32-front 0 p h (omega (arith, s.0))) (drop_all 4 p (omega (arith, s.0)))))

sound_notification : Sound (record { command = 8; read = λ p. Some (DeviceNotification p) })
unfolding Sound
sound_notification p r h e =
    let same : DeviceNotification p ≡ r = cc in
    subst (λ (x : Request). IsRequestPayload 8 p x) same (text (DeviceNotification p) p refl tt refl)

sound_read_write : Sound (record {
  command = 9;
  read = λ p. at_length (16 + number32 12 p) p
      (ReadWrite (number32 0 p) (number32 4 p) (number32 8 p) (drop 16 p));
})
unfolding Sound
sound_read_write p r h e =
    let r0 = ReadWrite (number32 0 p) (number32 4 p) (number32 8 p) (drop 16 p) in
    let s = at_length-some (16 + number32 12 p) p r0 r e in
    let n : number32 12 p ≡ length (drop 16 p) = omega (arith, s.0, length-drop 16 p) in
    let lt : number32 12 p < 2 ^ 32 = number32-lt 12 p h in
    let fits : FitsRequest r0 = (number32-lt 0 p h, number32-lt 4 p h, number32-lt 8 p h, subst (λ (k : ℕ). k < 2 ^ 32) n lt) in
    let long : 16 ≤ length p = omega (arith, s.0) in
    let access = access_bytes (number32 0 p) (number32 4 p) (number32 8 p) in
    let whole = next32 access 12 p h (omega arith) (access-front p h (omega arith)) in
    subst (λ (x : Request). IsRequestPayload 9 p x) s.1
    (text r0 p refl fits (subst (λ (k : ℕ). (access ++ to_le_bytes w32 k) ++ drop 16 p ≡ p) n whole))

sound_forms : AllByRecursion Sound request_forms
unfolding Sound
sound_forms = (
  λ p r h e. sound_nothing ReadDeviceInfo p r refl tt refl e,
  (
    sound_read,
    (
      sound_write,
      (
        λ p r h e. sound_nothing ReadState p r refl tt refl e,
        (
          sound_control,
          (
            sound_addition,
            (
              sound_deletion,
              (sound_notification, (sound_read_write, tt)),
            ),
          ),
        ),
      ),
    ),
  ),
)

sound_in : (forms : List RequestForm) (command : ℕ) (p : List ℕ) (r : Request) → AllByRecursion Sound forms → AreBytes p
    → request_in forms command p ≡ Some r → IsRequestPayload command p r
unfolding request_in Sound
sound_in [] command p r all h e = absurd cc
sound_in (f ∷ forms) command p r all h e =
    elim (eqb_tells f.command command) [
      | inl same ↦ subst (λ (c : ℕ). IsRequestPayload c p r) same.1 (all.0 p r h (rw same.0 at e))
      | inr other ↦ sound_in forms command p r all.1 h (rw other.0 at e)
    ]

-- what is read is a request, and its text is the payload
pub text_of-request_of : (command : ℕ) (payload : List ℕ) (r : Request) → AreBytes payload
    → request_of command payload ≡ Some r → IsRequestPayload command payload r
unfolding request_of
text_of-request_of command payload r h e = sound_in request_forms command payload r sound_forms h e

none_in : (forms : List RequestForm) (command : ℕ) (p : List ℕ) → AllByRecursion (λ f. f.command ≢ command) forms
    → request_in forms command p ≡ None
unfolding request_in
none_in [] command p all = refl
none_in (f ∷ forms) command p all =
    elim (eqb_tells f.command command) [
      | inl same ↦ absurd (all.0 same.1)
      | inr other ↦ rw other.0 (none_in forms command p all.1)
    ]

-- a number that is no command has no request
pub request_of-no_command : (command : ℕ) (p : List ℕ) → (command ≡ 0) ⊎ (9 < command) → request_of command p ≡ None
unfolding request_of
request_of-no_command command p off =
    let other : (n : ℕ) → 1 ≤ n → n ≤ 9 → n ≢ command = λ n low high same. elim off [ inl e ↦ omega arith | inr e ↦ omega arith ] in
    none_in request_forms command p (
      other 1 (lit≤ tt) (lit≤ tt),
      (
        other 2 (lit≤ tt) (lit≤ tt),
        (
          other 3 (lit≤ tt) (lit≤ tt),
          (
            other 4 (lit≤ tt) (lit≤ tt),
            (
              other 5 (lit≤ tt) (lit≤ tt),
              (
                other 6 (lit≤ tt) (lit≤ tt),
                (
                  other 7 (lit≤ tt) (lit≤ tt),
                  (other 8 (lit≤ tt) (lit≤ tt), (other 9 (lit≤ tt) (lit≤ tt), tt)),
                ),
              ),
            ),
          ),
        ),
      ),
    )
