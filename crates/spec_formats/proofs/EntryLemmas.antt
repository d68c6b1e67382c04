-- The symbol entry that is read is the entry whose text stands in front.
use Rattle.std.proofs.Common.{◌≡◌, ℕ, ◌+◌, ◌-◌, ◌^◌, ◌<◌, ◌≤◌, Bool, true, false, ◌&&◌, cond, leb, List, []}
use Rattle.std.proofs.Common.{◌∷◌, ◌++◌, length, get_or, take, drop, Some, None, refl, sym, ap, subst, ◌∙◌}
use Rattle.std.proofs.Common.{append_assoc, arith}
use Rattle.std.specs.Int.{w16, w32, to_le_bytes}
use Rattle.std.specs.Cmp.Derive.{both_true}
use Rattle.std.proofs.Math.Seq.{get_or-append_seam}
use Rattle.std.proofs.lemmas.Bool.{leb-true, le-leb, eqb-true, eq-eqb}
use Rattle.std.proofs.lemmas.List.{length-append, length-drop, length-take-le, take_at, drop_at, drop-drop, drop_more, take-append-drop}
use Rattle.std.proofs.lemmas.Nat.{from_le_bytes-to_le_bytes_2, from_le_bytes-to_le_bytes_4}
use Rattle.spec_formats.specs.Numbers.{AreBytes, number16, number32}
use Rattle.spec_formats.specs.SymbolEntry.{SymbolEntry, text_bytes, entry_len, entry_fields, FitsEntry}
use Rattle.spec_formats.specs.SymbolEntry.{BeginsWithEntry, ends_in_nul, after_text, name_place, type_place}
use Rattle.spec_formats.specs.SymbolEntry.{comment_place, entry_at, is_entry, entry_of}
use Rattle.spec_formats.proofs.Fields.{number32-front, number16-lt, number32-lt, next16, next32}

pub both : (s t : Bool) → (s && t) ≡ true → (s ≡ true) × (t ≡ true)
both true t e = (refl, e)
both false t e = absurd cc

-- ---- texts with their NUL

-- a text, its NUL, and what follows
abbrev text_then : List ℕ → List ℕ → List ℕ
text_then text after = text ++ 0 ∷ after

abbrev is_after : List ℕ → List ℕ → Type 0
is_after text after = after_text (length text) (text_then text after) ≡ after

taken : (text after : List ℕ) → take (length text) (text_then text after) ≡ text
taken text after = take_at text (0 ∷ after) (length text) refl

nul : (text after : List ℕ) → ends_in_nul (length text) (text_then text after) ≡ true
nul text after = eq-eqb (get_or (text_then text after) (length text) 0) 0 (get_or-append_seam text 0 after 0)

after : (text rest : List ℕ) → after_text (length text) (text_then text rest) ≡ rest
after text rest = subst (λ (l : List ℕ). drop (length text + 1) l ≡ rest) (append_assoc text (0 ∷ []) rest)
    (drop_at (text ++ 0 ∷ []) rest (length text + 1) (length-append text (0 ∷ [])))

-- what a text that ends in NUL is taken from
text_front : (len : ℕ) (bytes : List ℕ) → len < length bytes → ends_in_nul len bytes ≡ true
    → text_bytes (take len bytes) ++ after_text len bytes ≡ bytes
text_front len bytes within e =
    let is_nul : get_or bytes len 0 ≡ 0 = eqb-true (get_or bytes len 0) 0 e in
    let rest : drop len bytes ≡ 0 ∷ drop (len + 1) bytes = drop_more bytes len 0 within ∙ ap (λ (n : ℕ). n ∷ drop (len + 1) bytes) is_nul in
    append_assoc (take len bytes) (0 ∷ []) (drop (len + 1) bytes)
    ∙ (ap (λ (l : List ℕ). take len bytes ++ l) (sym rest) ∙ take-append-drop len bytes)

-- ---- a text is read as its entry

-- the three texts and what follows them
abbrev texts_then : SymbolEntry → List ℕ → List ℕ
texts_then e rest = text_then e.name (text_then e.type_name (text_then e.comment rest))

-- what the fields of fixed width say
record Says (bytes : List ℕ) (e : SymbolEntry) (len : ℕ) (rest : List ℕ) : Type 0 where
  len_is : number32 0 bytes ≡ len
  group : number32 4 bytes ≡ e.group
  offset : number32 8 bytes ≡ e.offset
  size : number32 12 bytes ≡ e.size
  type_id : number32 16 bytes ≡ e.type_id
  flags : number32 20 bytes ≡ e.flags
  name : number16 24 bytes ≡ length e.name
  type_name : number16 26 bytes ≡ length e.type_name
  comment : number16 28 bytes ≡ length e.comment
  texts : name_place bytes ≡ texts_then e rest

says_type : (bytes : List ℕ) (e : SymbolEntry) (len : ℕ) (rest : List ℕ) → Says bytes e len rest
    → type_place bytes ≡ text_then e.type_name (text_then e.comment rest)
says_type bytes e len rest s =
    subst (λ (n : ℕ). after_text n (name_place bytes) ≡ text_then e.type_name (text_then e.comment rest)) (sym s.name)
    (subst (λ (l : List ℕ). after_text (length e.name) l ≡ text_then e.type_name (text_then e.comment rest)) (sym s.texts)
    (after e.name (text_then e.type_name (text_then e.comment rest))))

says_comment : (bytes : List ℕ) (e : SymbolEntry) (len : ℕ) (rest : List ℕ) → Says bytes e len rest
    → comment_place bytes ≡ text_then e.comment rest
says_comment bytes e len rest s =
    subst (λ (n : ℕ). after_text n (type_place bytes) ≡ text_then e.comment rest) (sym s.type_name)
    (subst (λ (l : List ℕ). after_text (length e.type_name) l ≡ text_then e.comment rest) (sym (says_type bytes e len rest s))
    (after e.type_name (text_then e.comment rest)))

taken_at : (n : ℕ) (place text rest : List ℕ) → n ≡ length text → place ≡ text_then text rest → take n place ≡ text
taken_at n place text rest en ep = subst (λ (k : ℕ). take k place ≡ text) (sym en)
    (subst (λ (l : List ℕ). take (length text) l ≡ text) (sym ep) (taken text rest))

nul_at : (n : ℕ) (place text rest : List ℕ) → n ≡ length text → place ≡ text_then text rest → ends_in_nul n place ≡ true
nul_at n place text rest en ep = subst (λ (k : ℕ). ends_in_nul k place ≡ true) (sym en)
    (subst (λ (l : List ℕ). ends_in_nul (length text) l ≡ true) (sym ep) (nul text rest))

abbrev pub made : (g o s t f : ℕ) (n k c : List ℕ) → SymbolEntry
made g o s t f n k c = record { group = g; offset = o; size = s; type_id = t; flags = f; name = n; type_name = k; comment = c }

pub same_entry : (g o s t f : ℕ) (n k c : List ℕ) (e : SymbolEntry) → g ≡ e.group → o ≡ e.offset → s ≡ e.size → t ≡ e.type_id → f ≡ e.flags
    → n ≡ e.name → k ≡ e.type_name → c ≡ e.comment → made g o s t f n k c ≡ e
same_entry g o s t f n k c e eg eo es et ef en ek ec =
    ap (λ (x : ℕ). made x o s t f n k c) eg ∙ (ap (λ (x : ℕ). made e.group x s t f n k c) eo
    ∙ (ap (λ (x : ℕ). made e.group e.offset x t f n k c) es ∙ (ap (λ (x : ℕ). made e.group e.offset e.size x f n k c) et
    ∙ (ap (λ (x : ℕ). made e.group e.offset e.size e.type_id x n k c) ef ∙ (ap (λ (x : List ℕ). made e.group e.offset e.size e.type_id e.flags x k c) en
    ∙ (ap (λ (x : List ℕ). made e.group e.offset e.size e.type_id e.flags e.name x c) ek
    ∙ ap (λ (x : List ℕ). made e.group e.offset e.size e.type_id e.flags e.name e.type_name x) ec))))))

says_entry : (bytes : List ℕ) (e : SymbolEntry) (len : ℕ) (rest : List ℕ) → Says bytes e len rest → entry_at bytes ≡ e
says_entry bytes e len rest s = same_entry (number32 4 bytes) (number32 8 bytes) (number32 12 bytes) (number32 16 bytes) (number32 20 bytes)
    (take (number16 24 bytes) (name_place bytes)) (take (number16 26 bytes) (type_place bytes)) (take (number16 28 bytes) (comment_place bytes)) e
    s.group s.offset s.size s.type_id s.flags
    (taken_at (number16 24 bytes) (name_place bytes) e.name (text_then e.type_name (text_then e.comment rest)) s.name s.texts)
    (taken_at (number16 26 bytes) (type_place bytes) e.type_name (text_then e.comment rest) s.type_name (says_type bytes e len rest s))
    (taken_at (number16 28 bytes) (comment_place bytes) e.comment rest s.comment (says_comment bytes e len rest s))

says_test : (bytes : List ℕ) (e : SymbolEntry) (len : ℕ) (rest : List ℕ) → Says bytes e len rest
    → entry_len e ≤ len → len ≤ length bytes → is_entry bytes ≡ true
unfolding is_entry
says_test bytes e len rest s covers within =
    both_true (both_true (both_true (both_true
    (le-leb _ (number32 0 bytes) (omega (arith, s.len_is, s.name, s.type_name, s.comment, covers)))
    (le-leb (number32 0 bytes) (length bytes) (omega (arith, s.len_is, within))))
    (nul_at (number16 24 bytes) (name_place bytes) e.name (text_then e.type_name (text_then e.comment rest)) s.name s.texts))
    (nul_at (number16 26 bytes) (type_place bytes) e.type_name (text_then e.comment rest) s.type_name (says_type bytes e len rest s)))
    (nul_at (number16 28 bytes) (comment_place bytes) e.comment rest s.comment (says_comment bytes e len rest s))

says_read : (bytes : List ℕ) (e : SymbolEntry) (len : ℕ) (rest after : List ℕ) → Says bytes e len rest
    → entry_len e ≤ len → len ≤ length bytes → drop len bytes ≡ after → entry_of bytes ≡ Some (e, after)
unfolding entry_of
says_read bytes e len rest after s covers within left =
    let test = says_test bytes e len rest s covers within in
    let entry = says_entry bytes e len rest s in
    let end : drop (number32 0 bytes) bytes ≡ after = ap (λ (n : ℕ). drop n bytes) s.len_is ∙ left in
    let found : SymbolEntry × List ℕ = (entry_at bytes, drop (number32 0 bytes) bytes) in
    let wanted : SymbolEntry × List ℕ = (e, after) in
    subst (λ (b : Bool). cond b (Some found) None ≡ Some wanted) (sym test) cc

regroup : (name type comment further rest : List ℕ)
    → (((text_bytes name ++ text_bytes type) ++ text_bytes comment) ++ further) ++ rest
    ≡ text_then name (text_then type (text_then comment (further ++ rest)))
regroup name type comment further rest = simp append_assoc

says_text : (e : SymbolEntry) (further rest : List ℕ) → FitsEntry e → entry_len e + length further < 2 ^ 32
    → Says (to_le_bytes w32 (entry_len e + length further) ++ entry_fields e ++ further ++ rest) e (entry_len e + length further) (further ++ rest)
says_text e further rest f lt = record {
  len_is = from_le_bytes-to_le_bytes_4 (entry_len e + length further) lt;
  group = from_le_bytes-to_le_bytes_4 e.group f.group;
  offset = from_le_bytes-to_le_bytes_4 e.offset f.offset;
  size = from_le_bytes-to_le_bytes_4 e.size f.size;
  type_id = from_le_bytes-to_le_bytes_4 e.type_id f.type_id;
  flags = from_le_bytes-to_le_bytes_4 e.flags f.flags;
  name = from_le_bytes-to_le_bytes_2 (length e.name) f.name;
  type_name = from_le_bytes-to_le_bytes_2 (length e.type_name) f.type_name;
  comment = from_le_bytes-to_le_bytes_2 (length e.comment) f.comment;
  texts = regroup e.name e.type_name e.comment further rest;
}

length-texts : (name type comment : List ℕ) → length (text_bytes name ++ text_bytes type ++ text_bytes comment) ≡ length name + length type + length comment + 3
length-texts name type comment = omega (
  arith,
  length-append (text_bytes name ++ text_bytes type) (text_bytes comment),
  length-append (text_bytes name) (text_bytes type),
  length-append name (0 ∷ []),
  length-append type (0 ∷ []),
  length-append comment (0 ∷ []),
)

pub length-entry_fields : (e : SymbolEntry) → length (entry_fields e) + 4 ≡ entry_len e
length-entry_fields e = omega (arith, length-texts e.name e.type_name e.comment)

-- a text is read as its entry
pub entry_of-of_text : (bytes : List ℕ) (e : SymbolEntry) (rest : List ℕ) → BeginsWithEntry bytes e rest → entry_of bytes ≡ Some (e, rest)
entry_of-of_text bytes e rest is =
    let len = entry_len e + length is.further in
    let front = to_le_bytes w32 len ++ entry_fields e ++ is.further in
    let front_len : length front ≡ len = omega (arith, length-append (entry_fields e) is.further, length-entry_fields e) in
    let whole_len : length (front ++ rest) ≡ length front + length rest = length-append front rest in
    subst (λ (b : List ℕ). entry_of b ≡ Some (e, rest)) (sym is.whole)
    (says_read (front ++ rest) e len (is.further ++ rest) rest (says_text e is.further rest is.fits is.length_fits)
    (omega arith) (omega (arith, front_len, whole_len)) (drop_at front rest len front_len))

-- ---- what is read is an entry, and its text stands in front

-- what the test says
pub record Tested (bytes : List ℕ) : Type 0 where
  pub covers : 33 + number16 24 bytes + number16 26 bytes + number16 28 bytes ≤ number32 0 bytes
  pub within : number32 0 bytes ≤ length bytes
  pub name : ends_in_nul (number16 24 bytes) (name_place bytes) ≡ true
  pub type_name : ends_in_nul (number16 26 bytes) (type_place bytes) ≡ true
  pub comment : ends_in_nul (number16 28 bytes) (comment_place bytes) ≡ true

tested : (bytes : List ℕ) → is_entry bytes ≡ true → Tested bytes
unfolding is_entry
tested bytes e =
    let c = both _ (ends_in_nul (number16 28 bytes) (comment_place bytes)) e in
    let t = both _ (ends_in_nul (number16 26 bytes) (type_place bytes)) c.0 in
    let n = both _ (ends_in_nul (number16 24 bytes) (name_place bytes)) t.0 in
    let l = both (leb (33 + number16 24 bytes + number16 26 bytes + number16 28 bytes) (number32 0 bytes)) (leb (number32 0 bytes) (length bytes)) n.0 in
    record { covers = leb-true _ _ l.0; within = leb-true _ _ l.1; name = n.1; type_name = t.1; comment = c.1 }

-- the fields of fixed width of what is read
numbers_front : (bytes : List ℕ) → AreBytes bytes → 30 ≤ length bytes
    → (to_le_bytes w32 (number32 0 bytes) ++ to_le_bytes w32 (number32 4 bytes) ++ to_le_bytes w32 (number32 8 bytes)
    ++ to_le_bytes w32 (number32 12 bytes) ++ to_le_bytes w32 (number32 16 bytes) ++ to_le_bytes w32 (number32 20 bytes)
    ++ to_le_bytes w16 (number16 24 bytes) ++ to_le_bytes w16 (number16 26 bytes) ++ to_le_bytes w16 (number16 28 bytes)) ++ drop 30 bytes ≡ bytes
numbers_front bytes h long =
    let len = to_le_bytes w32 (number32 0 bytes) in
    let group = len ++ to_le_bytes w32 (number32 4 bytes) in
    let offset = group ++ to_le_bytes w32 (number32 8 bytes) in
    let size = offset ++ to_le_bytes w32 (number32 12 bytes) in
    let type_id = size ++ to_le_bytes w32 (number32 16 bytes) in
    let flags = type_id ++ to_le_bytes w32 (number32 20 bytes) in
    let name = flags ++ to_le_bytes w16 (number16 24 bytes) in
    let type_name = name ++ to_le_bytes w16 (number16 26 bytes) in
    next16 type_name 28 bytes h (omega arith) (next16 name 26 bytes h (omega arith) (next16 flags 24 bytes h (omega arith)
    (next32 type_id 20 bytes h (omega arith) (next32 size 16 bytes h (omega arith) (next32 offset 12 bytes h (omega arith)
    (next32 group 8 bytes h (omega arith) (next32 len 4 bytes h (omega arith) (number32-front 0 bytes h (omega arith)))))))))

-- the places of the texts, and what is behind the last
record Places (bytes : List ℕ) : Type 0 where
  name_len : length (take (number16 24 bytes) (name_place bytes)) ≡ number16 24 bytes
  type_len : length (take (number16 26 bytes) (type_place bytes)) ≡ number16 26 bytes
  comment_len : length (take (number16 28 bytes) (comment_place bytes)) ≡ number16 28 bytes
  texts : text_bytes (take (number16 24 bytes) (name_place bytes)) ++ (text_bytes (take (number16 26 bytes) (type_place bytes))
      ++ (text_bytes (take (number16 28 bytes) (comment_place bytes)) ++ after_text (number16 28 bytes) (comment_place bytes))) ≡ name_place bytes
  behind : length (after_text (number16 28 bytes) (comment_place bytes)) + (33 + number16 24 bytes + number16 26 bytes + number16 28 bytes) ≡ length bytes

places : (bytes : List ℕ) → Tested bytes → Places bytes
places bytes t =
    let n = number16 24 bytes in
    let k = number16 26 bytes in
    let c = number16 28 bytes in
    let name_end : length (name_place bytes) ≡ length bytes - 30 = length-drop 30 bytes in
    let type_end : length (type_place bytes) ≡ length (name_place bytes) - (n + 1) = length-drop (n + 1) (name_place bytes) in
    let comment_end : length (comment_place bytes) ≡ length (type_place bytes) - (k + 1) = length-drop (k + 1) (type_place bytes) in
    let behind : length (after_text c (comment_place bytes)) ≡ length (comment_place bytes) - (c + 1) = length-drop (c + 1) (comment_place bytes) in
    let within : 33 + n + k + c ≤ length bytes = omega (arith, t.covers, t.within) in
    let name = text_front n (name_place bytes) (omega (arith, name_end, within)) t.name in
    let type_name = text_front k (type_place bytes) (omega (arith, name_end, type_end, within)) t.type_name in
    let comment = text_front c (comment_place bytes) (omega (arith, name_end, type_end, comment_end, within)) t.comment in
    record {
      name_len = length-take-le n (name_place bytes) (omega (arith, name_end, within));
      type_len = length-take-le k (type_place bytes) (omega (arith, name_end, type_end, within));
      comment_len = length-take-le c (comment_place bytes) (omega (arith, name_end, type_end, comment_end, within));
      texts = ap (λ (l : List ℕ). text_bytes (take n (name_place bytes)) ++ l)
          (ap (λ (l : List ℕ). text_bytes (take k (type_place bytes)) ++ l) comment ∙ type_name) ∙ name;
      behind = omega (arith, name_end, type_end, comment_end, behind, within);
    }

-- the bytes of the fields of fixed width
fixed : (len group offset size type_id flags name type_name comment : ℕ) → List ℕ
fixed len group offset size type_id flags name type_name comment =
    to_le_bytes w32 len ++ to_le_bytes w32 group ++ to_le_bytes w32 offset ++ to_le_bytes w32 size ++ to_le_bytes w32 type_id
    ++ to_le_bytes w32 flags ++ to_le_bytes w16 name ++ to_le_bytes w16 type_name ++ to_le_bytes w16 comment

-- the same, as they stand in these bytes
fixed_at : List ℕ → List ℕ
fixed_at bytes = fixed (number32 0 bytes) (number32 4 bytes) (number32 8 bytes) (number32 12 bytes) (number32 16 bytes) (number32 20 bytes)
    (number16 24 bytes) (number16 26 bytes) (number16 28 bytes)

fixed-front : (bytes : List ℕ) → AreBytes bytes → 30 ≤ length bytes → fixed_at bytes ++ name_place bytes ≡ bytes
unfolding fixed fixed_at
fixed-front bytes h long = numbers_front bytes h long

fixed-text : (len : ℕ) (e : SymbolEntry) → to_le_bytes w32 len ++ entry_fields e
    ≡ fixed len e.group e.offset e.size e.type_id e.flags (length e.name) (length e.type_name) (length e.comment)
    ++ (text_bytes e.name ++ text_bytes e.type_name ++ text_bytes e.comment)
unfolding fixed
fixed-text len e = refl

fixed-same : (bytes : List ℕ) (len n k c : ℕ) → len ≡ number32 0 bytes → n ≡ number16 24 bytes → k ≡ number16 26 bytes → c ≡ number16 28 bytes
    → fixed len (number32 4 bytes) (number32 8 bytes) (number32 12 bytes) (number32 16 bytes) (number32 20 bytes) n k c ≡ fixed_at bytes
unfolding fixed_at
fixed-same bytes len n k c el en ek ec = rw (el, en, ek, ec) refl

join : (numbers name type comment further rest bytes names behind : List ℕ) → numbers ++ names ≡ bytes
    → name ++ (type ++ (comment ++ behind)) ≡ names → further ++ rest ≡ behind
    → bytes ≡ numbers ++ (name ++ type ++ comment) ++ further ++ rest
join numbers name type comment further rest bytes names behind e f g =
    sym (rw (← e, ← f, ← g) (simp append_assoc))

-- what stands behind the last text's NUL
abbrev behind_of : List ℕ → List ℕ
behind_of bytes = after_text (number16 28 bytes) (comment_place bytes)

-- the length of the entry without further bytes
abbrev texts_end : List ℕ → ℕ
texts_end bytes = 33 + number16 24 bytes + number16 26 bytes + number16 28 bytes

behind_is : (bytes : List ℕ) → behind_of bytes ≡ drop (texts_end bytes) bytes
behind_is bytes =
    let n = number16 24 bytes in
    let k = number16 26 bytes in
    let c = number16 28 bytes in
    let first : type_place bytes ≡ drop (30 + (n + 1)) bytes = drop-drop (n + 1) 30 bytes in
    let second : comment_place bytes ≡ drop (30 + (n + 1) + (k + 1)) bytes =
    ap (λ (l : List ℕ). drop (k + 1) l) first ∙ drop-drop (k + 1) (30 + (n + 1)) bytes in
    let third : behind_of bytes ≡ drop (30 + (n + 1) + (k + 1) + (c + 1)) bytes =
    ap (λ (l : List ℕ). drop (c + 1) l) second ∙ drop-drop (c + 1) (30 + (n + 1) + (k + 1)) bytes in
    let end : 30 + (n + 1) + (k + 1) + (c + 1) ≡ texts_end bytes = omega arith in
    third ∙ ap (λ (m : ℕ). drop m bytes) end

begins : (bytes : List ℕ) → AreBytes bytes → Tested bytes → BeginsWithEntry bytes (entry_at bytes) (drop (number32 0 bytes) bytes)
begins bytes h t =
    let p = places bytes t in
    let more = number32 0 bytes - texts_end bytes in
    let further = take more (behind_of bytes) in
    let further_len : length further ≡ more = length-take-le more (behind_of bytes) (omega (arith, p.behind, t.within, t.covers)) in
    let len_is : entry_len (entry_at bytes) + length further ≡ number32 0 bytes =
    omega (arith, p.name_len, p.type_len, p.comment_len, further_len, t.covers) in
    let end : texts_end bytes + more ≡ number32 0 bytes = omega (arith, t.covers) in
    let rest : drop more (behind_of bytes) ≡ drop (number32 0 bytes) bytes =
    ap (λ (l : List ℕ). drop more l) (behind_is bytes) ∙ (drop-drop more (texts_end bytes) bytes ∙ ap (λ (m : ℕ). drop m bytes) end) in
    let split : further ++ drop (number32 0 bytes) bytes ≡ behind_of bytes =
    ap (λ (l : List ℕ). further ++ l) (sym rest) ∙ take-append-drop more (behind_of bytes) in
    let text = join (fixed_at bytes) (text_bytes (entry_at bytes).name) (text_bytes (entry_at bytes).type_name) (text_bytes (entry_at bytes).comment)
    further (drop (number32 0 bytes) bytes) bytes (name_place bytes) (behind_of bytes)
    (fixed-front bytes h (omega (arith, t.covers, t.within))) p.texts split in
    let numbers = fixed-text (entry_len (entry_at bytes) + length further) (entry_at bytes) in
    let same = fixed-same bytes (entry_len (entry_at bytes) + length further) (length (entry_at bytes).name) (length (entry_at bytes).type_name)
    (length (entry_at bytes).comment) len_is p.name_len p.type_len p.comment_len in
    let texts = text_bytes (entry_at bytes).name ++ text_bytes (entry_at bytes).type_name ++ text_bytes (entry_at bytes).comment in
    let front : to_le_bytes w32 (entry_len (entry_at bytes) + length further) ++ entry_fields (entry_at bytes) ≡ fixed_at bytes ++ texts =
    numbers ∙ ap (λ (l : List ℕ). l ++ texts) same in
    record {
      fits = record {
        group = number32-lt 4 bytes h;
        offset = number32-lt 8 bytes h;
        size = number32-lt 12 bytes h;
        type_id = number32-lt 16 bytes h;
        flags = number32-lt 20 bytes h;
        name = omega (arith, p.name_len, number16-lt 24 bytes h);
        type_name = omega (arith, p.type_len, number16-lt 26 bytes h);
        comment = omega (arith, p.comment_len, number16-lt 28 bytes h);
      };
      further = further;
      length_fits = omega (arith, len_is, number32-lt 0 bytes h);
      whole = text ∙ ap (λ (l : List ℕ). l ++ further ++ drop (number32 0 bytes) bytes) (sym front);
    }

found : (b : Bool) (x y : SymbolEntry × List ℕ) → cond b (Some x) None ≡ Some y → (b ≡ true) × (x ≡ y)
found true x y e = (refl, cc)
found false x y e = absurd cc

-- what is read is an entry, and its text stands in front
pub text_of-entry_of : (bytes : List ℕ) (e : SymbolEntry) (rest : List ℕ) → AreBytes bytes → entry_of bytes ≡ Some (e, rest)
    → BeginsWithEntry bytes e rest
unfolding entry_of
text_of-entry_of bytes e rest h read =
    let f = found (is_entry bytes) (entry_at bytes, drop (number32 0 bytes) bytes) (e, rest) read in
    subst (λ (x : SymbolEntry × List ℕ). BeginsWithEntry bytes x.0 x.1) f.1 (begins bytes h (tested bytes f.0))

-- where the test's five facts hold, the entry that stands in front is read
pub entry_of-tested : (bytes : List ℕ) → Tested bytes → entry_of bytes ≡ Some (entry_at bytes, drop (number32 0 bytes) bytes)
unfolding entry_of is_entry
entry_of-tested bytes t =
    let read : SymbolEntry × List ℕ = (entry_at bytes, drop (number32 0 bytes) bytes) in
    let test = both_true (both_true (both_true (both_true (le-leb (33 + number16 24 bytes + number16 26 bytes + number16 28 bytes) (number32 0 bytes) t.covers)
    (le-leb (number32 0 bytes) (length bytes) t.within)) t.name) t.type_name) t.comment in
    ap (λ (b : Bool). cond b (Some read) None) test

refused : (b : Bool) (x : SymbolEntry × List ℕ) → (b ≡ true → ⊥) → cond b (Some x) None ≡ None
refused true x never = absurd (never refl)
refused false x never = refl

-- where one of them fails, nothing is read
pub entry_of-refused : (bytes : List ℕ) → (Tested bytes → ⊥) → entry_of bytes ≡ None
unfolding entry_of
entry_of-refused bytes never = refused (is_entry bytes) (entry_at bytes, drop (number32 0 bytes) bytes) (λ e. never (tested bytes e))
