-- An entry's fields at their places, and their text.
use Rattle.std.proofs.Common.{◌≡◌, ℕ, ◌+◌, ◌*◌, ◌^◌, ◌<◌, ◌≤◌, List, [], ◌∷◌, ◌++◌, length, get_or, take, drop, refl, sym, ap, subst, ◌∙◌, append_assoc, arith}
use Rattle.std.specs.Int.{w16, w32, to_le_bytes}
use Rattle.std.specs.List.{flat_map}
use Rattle.std.proofs.Math.Seq.{get_or-append_seam}
use Rattle.std.proofs.lemmas.List.{length-append, length-drop, length-take-le, take_at, drop_at, drop-drop, drop_more, get_or-drop, take-append-drop}
use Rattle.std.proofs.lemmas.Nat.{from_le_bytes-to_le_bytes_2, from_le_bytes-to_le_bytes_4}
use Rattle.spec_formats.specs.Numbers.{AreBytes, number16, number32}
use Rattle.spec_formats.specs.SymbolEntry.{text_bytes}
use Rattle.spec_formats.specs.TypeEntry.{Dimension, TypeFields, Stamps, dimension_bytes, fields_len, fields_bytes, FitsFields}
use Rattle.spec_formats.proofs.Fields.{AreBytes-drop, number16-lt, number32-lt, number32-front, next16, next32, next_field}
use Rattle.type_upload.specs.Places.{HasFields}
use Rattle.spec_formats.specs.TypeEntryReading.{end_of_name, end_of_type, end_of_comment, end_of_fields, dimensions_in, fields_at}
use Rattle.type_upload.proofs.Dimensions.{length-dimensions_in, dimensions-front, dimensions_fit, length-dimensions, dimensions_read}

-- ---- one text

-- what a text and its NUL say of their places
next_text : (bytes : List ℕ) (at n : ℕ) (text rest : List ℕ) → n ≡ length text → drop at bytes ≡ text ++ 0 ∷ rest
    → (get_or bytes (at + n) 0 ≡ 0) × (drop (at + n + 1) bytes ≡ rest)
next_text bytes at n text rest en e =
    let nul : get_or (drop at bytes) n 0 ≡ 0 =
    subst (λ (k : ℕ). get_or (drop at bytes) k 0 ≡ 0) (sym en)
    (subst (λ (l : List ℕ). get_or l (length text) 0 ≡ 0) (sym e) (get_or-append_seam text 0 rest 0)) in
    let behind : drop (n + 1) (drop at bytes) ≡ rest =
    subst (λ (k : ℕ). drop (k + 1) (drop at bytes) ≡ rest) (sym en)
    (subst (λ (l : List ℕ). drop (length text + 1) l ≡ rest) (sym e)
    (subst (λ (l : List ℕ). drop (length text + 1) l ≡ rest) (append_assoc text (0 ∷ []) rest)
    (drop_at (text ++ 0 ∷ []) rest (length text + 1) (length-append text (0 ∷ []))))) in
    let end : at + (n + 1) ≡ at + n + 1 = omega arith in
    (sym (get_or-drop at bytes n 0) ∙ nul, sym (ap (λ (k : ℕ). drop k bytes) end) ∙ (sym (drop-drop (n + 1) at bytes) ∙ behind))

-- the text that stands at a place, with its NUL
text_front : (bytes : List ℕ) (at n : ℕ) → at + n < length bytes → get_or bytes (at + n) 0 ≡ 0
    → text_bytes (take n (drop at bytes)) ++ drop (at + n + 1) bytes ≡ drop at bytes
text_front bytes at n within e =
    let place : List ℕ = drop at bytes in
    let is_nul : get_or (drop at bytes) n 0 ≡ 0 = get_or-drop at bytes n 0 ∙ e in
    let rest : drop n (drop at bytes) ≡ 0 ∷ drop (n + 1) (drop at bytes) =
    drop_more (drop at bytes) n 0 (omega (arith, length-drop at bytes)) ∙ ap (λ (m : ℕ). m ∷ drop (n + 1) (drop at bytes)) is_nul in
    let end : at + (n + 1) ≡ at + n + 1 = omega arith in
    let behind : drop (n + 1) (drop at bytes) ≡ drop (at + n + 1) bytes = drop-drop (n + 1) at bytes ∙ ap (λ (k : ℕ). drop k bytes) end in
    ap (λ (l : List ℕ). text_bytes (take n (drop at bytes)) ++ l) (sym behind)
    ∙ (append_assoc (take n (drop at bytes)) (0 ∷ []) (drop (n + 1) (drop at bytes))
    ∙ (ap (λ (l : List ℕ). take n (drop at bytes) ++ l) (sym rest) ∙ take-append-drop n (drop at bytes)))

-- ---- the fields of fixed width

fixed : (len version hash type_hash size offset type_id flags name kind comment dimensions subs : ℕ) → List ℕ
fixed len version hash type_hash size offset type_id flags name kind comment dimensions subs =
    to_le_bytes w32 len ++ to_le_bytes w32 version ++ to_le_bytes w32 hash ++ to_le_bytes w32 type_hash
    ++ to_le_bytes w32 size ++ to_le_bytes w32 offset ++ to_le_bytes w32 type_id ++ to_le_bytes w32 flags
    ++ to_le_bytes w16 name ++ to_le_bytes w16 kind ++ to_le_bytes w16 comment ++ to_le_bytes w16 dimensions
    ++ to_le_bytes w16 subs

-- the same, as they stand in these bytes
fixed_at : List ℕ → List ℕ
fixed_at b = fixed (number32 0 b) (number32 4 b) (number32 8 b) (number32 12 b) (number32 16 b) (number32 20 b) (number32 24 b)
    (number32 28 b) (number16 32 b) (number16 34 b) (number16 36 b) (number16 38 b) (number16 40 b)

numbers_front : (b : List ℕ) → AreBytes b → 42 ≤ length b
    → (to_le_bytes w32 (number32 0 b) ++ to_le_bytes w32 (number32 4 b) ++ to_le_bytes w32 (number32 8 b)
    ++ to_le_bytes w32 (number32 12 b) ++ to_le_bytes w32 (number32 16 b) ++ to_le_bytes w32 (number32 20 b)
    ++ to_le_bytes w32 (number32 24 b) ++ to_le_bytes w32 (number32 28 b) ++ to_le_bytes w16 (number16 32 b)
    ++ to_le_bytes w16 (number16 34 b) ++ to_le_bytes w16 (number16 36 b) ++ to_le_bytes w16 (number16 38 b)
    ++ to_le_bytes w16 (number16 40 b)) ++ drop 42 b ≡ b
numbers_front b h long =
    let len = to_le_bytes w32 (number32 0 b) in
    let version = len ++ to_le_bytes w32 (number32 4 b) in
    let hash = version ++ to_le_bytes w32 (number32 8 b) in
    let type_hash = hash ++ to_le_bytes w32 (number32 12 b) in
    let size = type_hash ++ to_le_bytes w32 (number32 16 b) in
    let offset = size ++ to_le_bytes w32 (number32 20 b) in
    let type_id = offset ++ to_le_bytes w32 (number32 24 b) in
    let flags = type_id ++ to_le_bytes w32 (number32 28 b) in
    let name = flags ++ to_le_bytes w16 (number16 32 b) in
    let kind = name ++ to_le_bytes w16 (number16 34 b) in
    let comment = kind ++ to_le_bytes w16 (number16 36 b) in
    let dimensions = comment ++ to_le_bytes w16 (number16 38 b) in
    next16 dimensions 40 b h (omega arith) (next16 comment 38 b h (omega arith) (next16 kind 36 b h (omega arith)
    (next16 name 34 b h (omega arith) (next16 flags 32 b h (omega arith) (next32 type_id 28 b h (omega arith)
    (next32 offset 24 b h (omega arith) (next32 size 20 b h (omega arith) (next32 type_hash 16 b h (omega arith)
    (next32 hash 12 b h (omega arith) (next32 version 8 b h (omega arith) (next32 len 4 b h (omega arith)
    (number32-front 0 b h (omega arith)))))))))))))

fixed-front : (b : List ℕ) → AreBytes b → 42 ≤ length b → fixed_at b ++ drop 42 b ≡ b
unfolding fixed fixed_at
fixed-front b h long = numbers_front b h long

fixed-text : (len : ℕ) (s : Stamps) (f : TypeFields) (subs : ℕ) → to_le_bytes w32 len ++ fields_bytes s f subs
    ≡ fixed len s.version s.hash s.type_hash f.size f.offset f.type_id f.flags (length f.name) (length f.type_name) (length f.comment)
    (length f.dimensions) subs ++ text_bytes f.name ++ text_bytes f.type_name ++ text_bytes f.comment ++ flat_map dimension_bytes f.dimensions
unfolding fixed
fixed-text len s f subs = refl

fixed-same : (b : List ℕ) (n k c d : ℕ) → n ≡ number16 32 b → k ≡ number16 34 b → c ≡ number16 36 b → d ≡ number16 38 b
    → fixed (number32 0 b) (number32 4 b) (number32 8 b) (number32 12 b) (number32 16 b) (number32 20 b) (number32 24 b)
    (number32 28 b) n k c d (number16 40 b) ≡ fixed_at b
unfolding fixed_at
fixed-same b n k c d en ek ec ed = rw (en, ek, ec, ed) refl

-- ---- what stands at the places is a text of its fields

abbrev pub stamps_at : List ℕ → Stamps
stamps_at b = record { version = number32 4 b; hash = number32 8 b; type_hash = number32 12 b }

pub record Front (b : List ℕ) : Type 0 where
  pub fits : FitsFields (fields_at b)
  pub length_is : fields_len (fields_at b) ≡ end_of_fields b
  pub text : (to_le_bytes w32 (number32 0 b) ++ fields_bytes (stamps_at b) (fields_at b) (number16 40 b)) ++ drop (end_of_fields b) b ≡ b
  pub dims : flat_map dimension_bytes (fields_at b).dimensions ≡ take (8 * number16 38 b) (drop (end_of_comment b + 1) b)

-- the dimensions are the bytes in front
dimensions-take : (d : ℕ) (place : List ℕ) → AreBytes place → 8 * d ≤ length place
    → flat_map dimension_bytes (dimensions_in d place) ≡ take (8 * d) place
dimensions-take d place h long =
    let dims = flat_map dimension_bytes (dimensions_in d place) in
    let len : length dims ≡ 8 * d = omega (arith, length-dimensions (dimensions_in d place), length-dimensions_in d place) in
    sym (subst (λ (l : List ℕ). take (8 * d) l ≡ dims) (dimensions-front d (8 * d) place refl h long)
    (take_at dims (drop (8 * d) place) (8 * d) len))

pub front : (b : List ℕ) → AreBytes b → HasFields b → Front b
front b h t =
    let n = number16 32 b in
    let k = number16 34 b in
    let c = number16 36 b in
    let d = number16 38 b in
    let name : List ℕ = take n (drop 42 b) in
    let kind : List ℕ = take k (drop (end_of_name b + 1) b) in
    let comment : List ℕ = take c (drop (end_of_type b + 1) b) in
    let place : List ℕ = drop (end_of_comment b + 1) b in
    let within : end_of_fields b ≤ length b = omega (arith, t.covers, t.within) in
    let name_len : length name ≡ n = length-take-le n (drop 42 b) (omega (arith, length-drop 42 b, within)) in
    let kind_len : length kind ≡ k = length-take-le k (drop (end_of_name b + 1) b) (omega (arith, length-drop (end_of_name b + 1) b, within)) in
    let comment_len : length comment ≡ c = length-take-le c (drop (end_of_type b + 1) b) (omega (arith, length-drop (end_of_type b + 1) b, within)) in
    let dims_len : length (dimensions_in d place) ≡ d = length-dimensions_in d place in
    let dims_within : 8 * d ≤ length place = omega (arith, length-drop (end_of_comment b + 1) b, within) in
    let dims = flat_map dimension_bytes (dimensions_in d place) in
    let start = fixed-front b h (omega (arith, within)) in
    let first = next_field b (fixed_at b) (drop 42 b) (text_bytes name) (drop (end_of_name b + 1) b) start
    (text_front b 42 n (omega (arith, within)) t.name) in
    let second = next_field b (fixed_at b ++ text_bytes name) (drop (end_of_name b + 1) b) (text_bytes kind) (drop (end_of_type b + 1) b) first
    (text_front b (end_of_name b + 1) k (omega (arith, within)) t.kind) in
    let third = next_field b (fixed_at b ++ text_bytes name ++ text_bytes kind) (drop (end_of_type b + 1) b) (text_bytes comment)
    (drop (end_of_comment b + 1) b) second (text_front b (end_of_type b + 1) c (omega (arith, within)) t.comment) in
    let behind : drop (8 * d) place ≡ drop (end_of_fields b) b = drop-drop (8 * d) (end_of_comment b + 1) b in
    let bounds : dims ++ drop (end_of_fields b) b ≡ place =
    ap (λ (l : List ℕ). dims ++ l) (sym behind)
    ∙ dimensions-front d (8 * d) place refl (AreBytes-drop (end_of_comment b + 1) b h) dims_within in
    let last = next_field b (fixed_at b ++ text_bytes name ++ text_bytes kind ++ text_bytes comment) place dims (drop (end_of_fields b) b)
    third bounds in
    let same = fixed-text (number32 0 b) (stamps_at b) (fields_at b) (number16 40 b)
    ∙ ap (λ (l : List ℕ). l ++ text_bytes name ++ text_bytes kind ++ text_bytes comment ++ dims)
    (fixed-same b (length name) (length kind) (length comment) (length (dimensions_in d place)) name_len kind_len comment_len dims_len) in
    record {
      fits = record {
        size = number32-lt 16 b h;
        offset = number32-lt 20 b h;
        type_id = number32-lt 24 b h;
        flags = number32-lt 28 b h;
        name = omega (arith, name_len, number16-lt 32 b h);
        type_name = omega (arith, kind_len, number16-lt 34 b h);
        comment = omega (arith, comment_len, number16-lt 36 b h);
        dimensions = omega (arith, dims_len, number16-lt 38 b h);
        each = dimensions_fit d place (AreBytes-drop (end_of_comment b + 1) b h);
      };
      length_is = omega (arith, name_len, kind_len, comment_len, dims_len);
      text = ap (λ (l : List ℕ). l ++ drop (end_of_fields b) b) same ∙ last;
      dims = dimensions-take d place (AreBytes-drop (end_of_comment b + 1) b h) dims_within;
    }

-- ---- a text of an entry's fields has them at its places

abbrev pub made : (size offset id flags : ℕ) (name type comment : List ℕ) (dims : List Dimension) → TypeFields
made size offset id flags name type comment dims = record {
  size = size;
  offset = offset;
  type_id = id;
  flags = flags;
  name = name;
  type_name = type;
  comment = comment;
  dimensions = dims;
}

record Says (b : List ℕ) (f : TypeFields) (stated subs : ℕ) (behind : List ℕ) : Type 0 where
  stated_is : number32 0 b ≡ stated
  name : number16 32 b ≡ length f.name
  kind : number16 34 b ≡ length f.type_name
  comment : number16 36 b ≡ length f.comment
  dimensions : number16 38 b ≡ length f.dimensions
  subs_is : number16 40 b ≡ subs
  size : number32 16 b ≡ f.size
  offset : number32 20 b ≡ f.offset
  type_id : number32 24 b ≡ f.type_id
  flags : number32 28 b ≡ f.flags
  texts : drop 42 b ≡ f.name ++ 0 ∷ (f.type_name ++ 0 ∷ (f.comment ++ 0 ∷ (flat_map dimension_bytes f.dimensions ++ behind)))

regroup : (name kind comment dims behind : List ℕ)
    → (((text_bytes name ++ text_bytes kind) ++ text_bytes comment) ++ dims) ++ behind
    ≡ name ++ 0 ∷ (kind ++ 0 ∷ (comment ++ 0 ∷ (dims ++ behind)))
regroup name kind comment dims behind = simp append_assoc

says_text : (s : Stamps) (f : TypeFields) (stated subs : ℕ) (behind : List ℕ) → FitsFields f → stated < 2 ^ 32 → subs < 2 ^ 16
    → Says ((to_le_bytes w32 stated ++ fields_bytes s f subs) ++ behind) f stated subs behind
says_text s f stated subs behind fits small few = record {
  stated_is = from_le_bytes-to_le_bytes_4 stated small;
  name = from_le_bytes-to_le_bytes_2 (length f.name) fits.name;
  kind = from_le_bytes-to_le_bytes_2 (length f.type_name) fits.type_name;
  comment = from_le_bytes-to_le_bytes_2 (length f.comment) fits.comment;
  dimensions = from_le_bytes-to_le_bytes_2 (length f.dimensions) fits.dimensions;
  subs_is = from_le_bytes-to_le_bytes_2 subs few;
  size = from_le_bytes-to_le_bytes_4 f.size fits.size;
  offset = from_le_bytes-to_le_bytes_4 f.offset fits.offset;
  type_id = from_le_bytes-to_le_bytes_4 f.type_id fits.type_id;
  flags = from_le_bytes-to_le_bytes_4 f.flags fits.flags;
  texts = regroup f.name f.type_name f.comment (flat_map dimension_bytes f.dimensions) behind;
}

length-texts : (name kind comment dims : List ℕ) → length (((text_bytes name ++ text_bytes kind) ++ text_bytes comment) ++ dims)
    ≡ length name + length kind + length comment + 3 + length dims
length-texts name kind comment dims = omega (
  arith,
  length-append ((text_bytes name ++ text_bytes kind) ++ text_bytes comment) dims,
  length-append (text_bytes name ++ text_bytes kind) (text_bytes comment),
  length-append (text_bytes name) (text_bytes kind),
  length-append name (0 ∷ []),
  length-append kind (0 ∷ []),
  length-append comment (0 ∷ []),
)

pub length-fields : (s : Stamps) (f : TypeFields) (stated subs : ℕ) → length (to_le_bytes w32 stated ++ fields_bytes s f subs) ≡ fields_len f
length-fields s f stated subs =
    let texts = length-texts f.name f.type_name f.comment (flat_map dimension_bytes f.dimensions) in
    let dims = length-dimensions f.dimensions in
    omega (arith, texts, dims)

pub same_fields : (size offset id flags : ℕ) (name type comment : List ℕ) (dims : List Dimension) (f : TypeFields)
    → size ≡ f.size → offset ≡ f.offset → id ≡ f.type_id → flags ≡ f.flags → name ≡ f.name → type ≡ f.type_name → comment ≡ f.comment → dims ≡ f.dimensions
    → made size offset id flags name type comment dims ≡ f
same_fields size offset id flags name type comment dims f es eo ei ef en et ec ed = rw (es, eo, ei, ef, en, et, ec, ed) refl

text_read : (place text rest : List ℕ) (n : ℕ) → n ≡ length text → place ≡ text ++ 0 ∷ rest → take n place ≡ text
text_read place text rest n en e = subst (λ (l : List ℕ). take n l ≡ text) (sym e) (take_at text (0 ∷ rest) n (sym en))

fields_read : (b : List ℕ) (f : TypeFields) (stated subs : ℕ) (behind : List ℕ) → FitsFields f → Says b f stated subs behind → fields_at b ≡ f
fields_read b f stated subs behind fits s =
    let dims = flat_map dimension_bytes f.dimensions in
    let name = next_text b 42 (number16 32 b) f.name (f.type_name ++ 0 ∷ (f.comment ++ 0 ∷ (dims ++ behind))) s.name s.texts in
    let type = next_text b (end_of_name b + 1) (number16 34 b) f.type_name (f.comment ++ 0 ∷ (dims ++ behind)) s.kind name.1 in
    let comment = next_text b (end_of_type b + 1) (number16 36 b) f.comment (dims ++ behind) s.comment type.1 in
    let bounds : dimensions_in (number16 38 b) (drop (end_of_comment b + 1) b) ≡ f.dimensions =
    subst (λ (n : ℕ). dimensions_in n (drop (end_of_comment b + 1) b) ≡ f.dimensions) (sym s.dimensions)
    (subst (λ (l : List ℕ). dimensions_in (length f.dimensions) l ≡ f.dimensions) (sym comment.1) (dimensions_read f.dimensions behind fits.each)) in
    same_fields (number32 16 b) (number32 20 b) (number32 24 b) (number32 28 b) (take (number16 32 b) (drop 42 b))
    (take (number16 34 b) (drop (end_of_name b + 1) b)) (take (number16 36 b) (drop (end_of_type b + 1) b))
    (dimensions_in (number16 38 b) (drop (end_of_comment b + 1) b)) f s.size s.offset s.type_id s.flags
    (text_read (drop 42 b) f.name (f.type_name ++ 0 ∷ (f.comment ++ 0 ∷ (dims ++ behind))) (number16 32 b) s.name s.texts)
    (text_read (drop (end_of_name b + 1) b) f.type_name (f.comment ++ 0 ∷ (dims ++ behind)) (number16 34 b) s.kind name.1)
    (text_read (drop (end_of_type b + 1) b) f.comment (dims ++ behind) (number16 36 b) s.comment type.1)
    bounds

-- what a text in front says of the bytes
pub record Found (b : List ℕ) (f : TypeFields) (stated subs : ℕ) (behind : List ℕ) : Type 0 where
  pub fields : HasFields b
  pub read : fields_at b ≡ f
  pub stated_is : number32 0 b ≡ stated
  pub subs_is : number16 40 b ≡ subs
  pub end_is : end_of_fields b ≡ fields_len f
  pub behind_is : drop (end_of_fields b) b ≡ behind

says_found : (b : List ℕ) (f : TypeFields) (stated subs : ℕ) (behind : List ℕ) → FitsFields f → Says b f stated subs behind
    → fields_len f ≤ stated → stated ≤ length b → Found b f stated subs behind
says_found b f stated subs behind fits s covers within =
    let dims = flat_map dimension_bytes f.dimensions in
    let name = next_text b 42 (number16 32 b) f.name (f.type_name ++ 0 ∷ (f.comment ++ 0 ∷ (dims ++ behind))) s.name s.texts in
    let kind = next_text b (end_of_name b + 1) (number16 34 b) f.type_name (f.comment ++ 0 ∷ (dims ++ behind)) s.kind name.1 in
    let comment = next_text b (end_of_type b + 1) (number16 36 b) f.comment (dims ++ behind) s.comment kind.1 in
    let dims_len : length dims ≡ 8 * number16 38 b = omega (arith, length-dimensions f.dimensions, s.dimensions) in
    let last : drop (8 * number16 38 b) (drop (end_of_comment b + 1) b) ≡ behind =
    subst (λ (l : List ℕ). drop (8 * number16 38 b) l ≡ behind) (sym comment.1) (drop_at dims behind (8 * number16 38 b) dims_len) in
    let end_is : end_of_fields b ≡ fields_len f = omega (arith, s.name, s.kind, s.comment, s.dimensions) in
    record {
      fields = record {
        covers = omega (arith, end_is, s.stated_is, covers);
        within = omega (arith, s.stated_is, within);
        name = name.0;
        kind = kind.0;
        comment = comment.0;
      };
      read = fields_read b f stated subs behind fits s;
      stated_is = s.stated_is;
      subs_is = s.subs_is;
      end_is = end_is;
      behind_is = sym (drop-drop (8 * number16 38 b) (end_of_comment b + 1) b) ∙ last;
    }

pub found : (s : Stamps) (f : TypeFields) (stated subs : ℕ) (behind b : List ℕ) → FitsFields f → stated < 2 ^ 32 → subs < 2 ^ 16
    → fields_len f ≤ stated → stated ≤ fields_len f + length behind
    → b ≡ (to_le_bytes w32 stated ++ fields_bytes s f subs) ++ behind → Found b f stated subs behind
found s f stated subs behind b fits small few covers within e =
    let text = to_le_bytes w32 stated ++ fields_bytes s f subs in
    let long : length (text ++ behind) ≡ length text + length behind = length-append text behind in
    let text_len : length text ≡ fields_len f = length-fields s f stated subs in
    subst (λ (l : List ℕ). Found l f stated subs behind) (sym e)
    (says_found (text ++ behind) f stated subs behind fits (says_text s f stated subs behind fits small few) covers (omega (arith, long, text_len, within)))
