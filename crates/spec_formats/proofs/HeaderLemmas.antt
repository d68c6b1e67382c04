-- The header that is read is the header whose text stands in front.
use Rattle.std.proofs.Common.{◌≡◌, ℕ, ◌+◌, ◌^◌, ◌<◌, ◌≤◌, List, [], ◌∷◌, ◌++◌, length, take, drop, Some, None, refl, sym, ap, subst, ◌∙◌, arith, inl, inr}
use Rattle.std.proofs.lemmas.Bool.{cases_lt, lt-ltb, le-ltb}
use Rattle.std.proofs.lemmas.List.{length-append, length-drop, length-take-le, drop-drop}
use Rattle.std.proofs.lemmas.Nat.{from_le_bytes-to_le_bytes_2, from_le_bytes-to_le_bytes_4}
use Rattle.spec_formats.specs.Numbers.{AreBytes, number16, number32}
use Rattle.spec_formats.specs.Header.{AmsHeader, IsAddress, IsHeader, address_at, address_bytes, header_bytes, header_of, payload_of}
use Rattle.spec_formats.proofs.Fields.{AreBytes-drop, number16-front, number32-front, bytes-front, number16-lt, number32-lt, next_field}

-- a list of six
six : (P : List ℕ → Type 0) (net : List ℕ) → length net ≡ 6
    → ((a b c d e f : ℕ) → P (a ∷ b ∷ c ∷ d ∷ e ∷ f ∷ [])) → P net
six P (a ∷ b ∷ c ∷ d ∷ e ∷ f ∷ []) len p = p a b c d e f
six P _ len p = absurd (omega arith)

-- the header whose fields are read
abbrev pub header_at : List ℕ → AmsHeader
header_at ams = record {
  target = address_at 0 ams;
  source = address_at 8 ams;
  command = number16 16 ams;
  flags = number16 18 ams;
  len = number32 20 ams;
  error = number32 24 ams;
  id = number32 28 ams;
}

pub header_of-long : (ams : List ℕ) → 32 ≤ length ams → header_of ams ≡ Some (header_at ams)
unfolding header_of
header_of-long ams long = rw (le-ltb (length ams) 32 long) refl

pub header_of-short : (ams : List ℕ) → length ams < 32 → header_of ams ≡ None
unfolding header_of
header_of-short ams short = rw (lt-ltb (length ams) 32 short) refl

length-header_bytes_cells : (t s : List ℕ) (a b c d e f g : ℕ) → length t ≡ 6 → length s ≡ 6
    → length (header_bytes (record {
      target = record { net = t; port = a };
      source = record { net = s; port = b };
      command = c;
      flags = d;
      len = e;
      error = f;
      id = g;
    })) ≡ 32
length-header_bytes_cells t s a b c d e f g tl sl =
    six (λ n. length (header_bytes (record {
      target = record { net = n; port = a };
      source = record { net = s; port = b };
      command = c;
      flags = d;
      len = e;
      error = f;
      id = g;
    })) ≡ 32) t tl (λ t0 t1 t2 t3 t4 t5.
    six (λ n. length (header_bytes (record {
      target = record { net = t0 ∷ t1 ∷ t2 ∷ t3 ∷ t4 ∷ t5 ∷ []; port = a };
      source = record { net = n; port = b };
      command = c;
      flags = d;
      len = e;
      error = f;
      id = g;
    })) ≡ 32) s sl
    (λ s0 s1 s2 s3 s4 s5. refl))

pub length-header_bytes : (h : AmsHeader) → IsHeader h → length (header_bytes h) ≡ 32
length-header_bytes h is = length-header_bytes_cells h.target.net h.source.net h.target.port h.source.port
    h.command h.flags h.len h.error h.id is.target.six_bytes is.source.six_bytes

-- the fields that are read of a header's text
read_again_cells : (t s : List ℕ) (a b c d e f g : ℕ) (payload : List ℕ) → length t ≡ 6 → length s ≡ 6
    → a < 2 ^ 16 → b < 2 ^ 16 → c < 2 ^ 16 → d < 2 ^ 16 → e < 2 ^ 32 → f < 2 ^ 32 → g < 2 ^ 32
    → let h : AmsHeader = record {
      target = record { net = t; port = a };
      source = record { net = s; port = b };
      command = c;
      flags = d;
      len = e;
      error = f;
      id = g;
    } in header_at (header_bytes h ++ payload) ≡ h
read_again_cells t s a b c d e f g payload tl sl al bl cl dl el fl gl =
    six (λ n. let h : AmsHeader = record {
      target = record { net = n; port = a };
      source = record { net = s; port = b };
      command = c;
      flags = d;
      len = e;
      error = f;
      id = g;
    } in header_at (header_bytes h ++ payload) ≡ h) t tl (λ t0 t1 t2 t3 t4 t5.
    six (λ n. let h : AmsHeader = record {
      target = record { net = t0 ∷ t1 ∷ t2 ∷ t3 ∷ t4 ∷ t5 ∷ []; port = a };
      source = record { net = n; port = b };
      command = c;
      flags = d;
      len = e;
      error = f;
      id = g;
    } in header_at (header_bytes h ++ payload) ≡ h) s sl
    (λ s0 s1 s2 s3 s4 s5. rw (
      from_le_bytes-to_le_bytes_2 a al,
      from_le_bytes-to_le_bytes_2 b bl,
      from_le_bytes-to_le_bytes_2 c cl,
      from_le_bytes-to_le_bytes_2 d dl,
      from_le_bytes-to_le_bytes_4 e el,
      from_le_bytes-to_le_bytes_4 f fl,
      from_le_bytes-to_le_bytes_4 g gl,
    ) refl))

-- a text is read as its header
pub header_of-header_bytes : (h : AmsHeader) (payload : List ℕ) → IsHeader h
    → header_of (header_bytes h ++ payload) ≡ Some h
header_of-header_bytes h payload is =
    let long : 32 ≤ length (header_bytes h ++ payload) =
    omega (arith, length-append (header_bytes h) payload, length-header_bytes h is) in
    header_of-long (header_bytes h ++ payload) long ∙ ap (λ (x : AmsHeader). Some x)
    (read_again_cells h.target.net h.source.net h.target.port h.source.port h.command h.flags h.len h.error h.id payload
    is.target.six_bytes is.source.six_bytes is.target.port is.source.port is.command is.flags is.len is.error is.id)

address-front : (at : ℕ) (ams : List ℕ) → AreBytes ams → at + 8 ≤ length ams
    → address_bytes (address_at at ams) ++ drop (at + 8) ams ≡ drop at ams
address-front at ams h within =
    let long : 8 ≤ length (drop at ams) = omega (arith, length-drop at ams) in
    let whole = next_field (drop at ams) (take 6 (drop at ams)) (drop 6 (drop at ams)) _ (drop 8 (drop at ams))
    (bytes-front 0 6 (drop at ams)) (number16-front 6 (drop at ams) (AreBytes-drop at ams h) long) in
    subst (λ (rest : List ℕ). address_bytes (address_at at ams) ++ rest ≡ drop at ams) (drop-drop 8 at ams) whole

IsAddress-address_at : (at : ℕ) (ams : List ℕ) → AreBytes ams → at + 8 ≤ length ams → IsAddress (address_at at ams)
IsAddress-address_at at ams h within = record {
  six_bytes = length-take-le 6 (drop at ams) (omega (arith, length-drop at ams));
  port = number16-lt 6 (drop at ams) (AreBytes-drop at ams h);
}

pub header_bytes-header_at : (ams : List ℕ) → AreBytes ams → 32 ≤ length ams → header_bytes (header_at ams) ++ payload_of ams ≡ ams
header_bytes-header_at ams h long =
    let target = address-front 0 ams h (omega arith) in
    let source = next_field ams _ (drop 8 ams) _ (drop 16 ams) target (address-front 8 ams h (omega arith)) in
    let command = next_field ams _ (drop 16 ams) _ (drop 18 ams) source (number16-front 16 ams h (omega arith)) in
    let flags = next_field ams _ (drop 18 ams) _ (drop 20 ams) command (number16-front 18 ams h (omega arith)) in
    let len = next_field ams _ (drop 20 ams) _ (drop 24 ams) flags (number32-front 20 ams h (omega arith)) in
    let error = next_field ams _ (drop 24 ams) _ (drop 28 ams) len (number32-front 24 ams h (omega arith)) in
    next_field ams _ (drop 28 ams) _ (drop 32 ams) error (number32-front 28 ams h (omega arith))

IsHeader-read : (ams : List ℕ) → AreBytes ams → 32 ≤ length ams → IsHeader (header_at ams)
IsHeader-read ams h long = record {
  target = IsAddress-address_at 0 ams h (omega arith);
  source = IsAddress-address_at 8 ams h (omega arith);
  command = number16-lt 16 ams h;
  flags = number16-lt 18 ams h;
  len = number32-lt 20 ams h;
  error = number32-lt 24 ams h;
  id = number32-lt 28 ams h;
}

-- what is read is a header, and its text stands in front
pub header_bytes-header_of : (ams : List ℕ) (h : AmsHeader) → AreBytes ams → header_of ams ≡ Some h
    → IsHeader h × (ams ≡ header_bytes h ++ payload_of ams)
header_bytes-header_of ams h bytes e =
    elim (cases_lt (length ams) 32) [
      | inl short ↦ absurd (cc (header_of-short ams short))
      | inr long ↦
          let same : header_at ams ≡ h = cc (header_of-long ams long) in
          subst (λ (x : AmsHeader). IsHeader x × (ams ≡ header_bytes x ++ payload_of ams)) same
          (IsHeader-read ams bytes long, sym (header_bytes-header_at ams bytes long))
    ]
