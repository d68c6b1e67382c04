-- What is read is an entry, and nothing is read only where none stands in front.
use Rattle.std.proofs.Common.{◌≡◌, ℕ, ◌+◌, ◌-◌, ◌/◌, ◌^◌, ◌<◌, ◌≤◌, Bool, true, false, ◌&&◌, cond, List, []}
use Rattle.std.proofs.Common.{◌++◌, length, take, drop, Option, Some, None, refl, sym, ap, subst, ◌∙◌}
use Rattle.std.proofs.Common.{append_assoc, arith}
use Rattle.std.specs.Prelude.{◌↔◌, is_some}
use Rattle.std.specs.Int.{w32, to_le_bytes}
use Rattle.std.specs.List.{flat_map, AllByRecursion}
use Rattle.std.specs.Cmp.Derive.{both_true}
use Rattle.std.proofs.lemmas.List.{length-append, append-nil, take_at, drop_at, take_rest}
use Rattle.std.proofs.Math.Nat.{mul-div_cancel_left}
use Rattle.spec_formats.specs.Numbers.{AreBytes, number16, number32}
use Rattle.spec_formats.specs.TypeEntry as formats
use Rattle.spec_formats.specs.TypeEntry.{Dimension, TypeFields, dimension_bytes, fields_len, fields_bytes, BeginsWithTypeEntry}
use Rattle.spec_formats.proofs.Fields.{AreBytes-drop, AreBytes-take, number16-lt, number32-lt}
use Rattle.type_upload.specs.declared.entry.TypeEntry.{TypeEntry}
use Rattle.type_upload.specs.declared.places.Places.{Places}
use Rattle.type_upload.specs.Entry.{IsRead, BeginsWithNone, entry_meant}
use Rattle.type_upload.specs.Places.{HasFields, HasPlaces, ReadsAs}
use Rattle.spec_formats.specs.TypeEntryReading.{end_of_fields, is_fields, dimensions_in, fields_at}
use Rattle.spec_formats.specs.TypeEntryReading.{after_entry, after_subs_in, subs_in, behind_fields, entry_at}
use Rattle.spec_formats.specs.TypeEntryReading.{is_entry, type_entry_of}
use Rattle.type_upload.proofs.Dimensions.{length-dimensions, dimensions_read}
use Rattle.type_upload.proofs.TestLemmas.{test_of_fields}
use Rattle.type_upload.proofs.FieldLemmas.{made, same_fields, stamps_at, front, found, length-fields}
use Rattle.type_upload.proofs.SubLemmas.{whole, Subs, subs_read, subs_found, subs_fields}

pub region_is : (b : List ℕ) (places : Places) → HasPlaces b places
    → take (places.len - places.fields_end) (drop places.fields_end b) ≡ behind_fields b
region_is b places p = rw (p.len_is, p.fields_is) refl

pub rest_is : (b : List ℕ) (len : ℕ) → len ≡ number32 0 b → take (length b - len) (drop len b) ≡ drop (number32 0 b) b
rest_is b len e = take_rest b len ∙ ap (λ (k : ℕ). drop k b) e

region_subs : (b region after : List ℕ) (n : ℕ) → AreBytes b → region ≡ behind_fields b → Some after ≡ after_subs_in n region → Subs n region after
region_subs b region after n h er es =
    let bytes : AreBytes (behind_fields b) =
    AreBytes-take (number32 0 b - end_of_fields b) (drop (end_of_fields b) b) (AreBytes-drop (end_of_fields b) b h) in
    subs_read n region after (subst AreBytes (sym er) bytes) (sym es)

pub after_within : (b region after : List ℕ) (n : ℕ) → AreBytes b → region ≡ behind_fields b → Some after ≡ after_subs_in n region
    → length after ≤ length region
after_within b region after n h er es =
    let s = region_subs b region after n h er es in
    let tail = flat_map (λ (t : List ℕ). t) s.texts in
    let len : length (tail ++ after) ≡ length region = ap (λ (l : List ℕ). length l) s.bytes in
    omega (arith, len, length-append tail after)

entry_with : TypeFields → List TypeFields → formats.TypeEntry
entry_with fields subs = record { fields = fields; subs = subs }

-- ---- where an entry stands in front

regroup : (front tail further rest : List ℕ) → ((front ++ tail) ++ further) ++ rest ≡ front ++ ((tail ++ further) ++ rest)
regroup front tail further rest = simp append_assoc

record EntryFound (b : List ℕ) (entry : formats.TypeEntry) (rest : List ℕ) : Type 0 where
  fields : HasFields b
  further : List ℕ
  subs : after_subs_in (number16 40 b) (behind_fields b) ≡ Some further
  fields_are : fields_at b ≡ entry.fields
  subs_are : subs_in (number16 40 b) (behind_fields b) ≡ entry.subs
  rest_is : after_entry b ≡ rest

entry_found : (b : List ℕ) (entry : formats.TypeEntry) (rest : List ℕ) → BeginsWithTypeEntry b entry rest → EntryFound b entry rest
entry_found b entry rest s =
    let tail = flat_map (λ (t : List ℕ). t) s.sub_texts in
    let text = to_le_bytes w32 s.stated ++ fields_bytes s.stamps entry.fields (length entry.subs) in
    let behind = (tail ++ s.further) ++ rest in
    let tail_len : length (tail ++ s.further) ≡ length tail + length s.further = length-append tail s.further in
    let behind_len : length behind ≡ length (tail ++ s.further) + length rest = length-append (tail ++ s.further) rest in
    let e : b ≡ text ++ behind = s.whole ∙ regroup text tail s.further rest in
    let stated_is : s.stated ≡ fields_len entry.fields + length tail + length s.further = s.stated_is in
    let is = found s.stamps entry.fields s.stated (length entry.subs) behind b s.fits s.stated_fits s.count
    (omega (arith, stated_is)) (omega (arith, stated_is, tail_len, behind_len)) e in
    let size : length (tail ++ s.further) ≡ number32 0 b - end_of_fields b = omega (arith, is.stated_is, is.end_is, stated_is, tail_len) in
    let region : behind_fields b ≡ tail ++ s.further =
    subst (λ (l : List ℕ). take (number32 0 b - end_of_fields b) l ≡ tail ++ s.further) (sym is.behind_is)
    (take_at (tail ++ s.further) rest (number32 0 b - end_of_fields b) size) in
    let whole : (text ++ (tail ++ s.further)) ++ rest ≡ b = append_assoc text (tail ++ s.further) rest ∙ sym e in
    let text_len : length text ≡ fields_len entry.fields = length-fields s.stamps entry.fields s.stated (length entry.subs) in
    let len : length (text ++ (tail ++ s.further)) ≡ number32 0 b =
    omega (arith, length-append text (tail ++ s.further), text_len, tail_len, is.stated_is, stated_is) in
    record {
      fields = is.fields;
      further = s.further;
      subs = subst (λ (n : ℕ). after_subs_in n (behind_fields b) ≡ Some s.further) (sym is.subs_is)
          (subst (λ (l : List ℕ). after_subs_in (length entry.subs) l ≡ Some s.further) (sym region)
          (subs_found s.sub_texts entry.subs s.further s.subs));
      fields_are = is.read;
      subs_are = subst (λ (n : ℕ). subs_in n (behind_fields b) ≡ entry.subs) (sym is.subs_is)
          (subst (λ (l : List ℕ). subs_in (length entry.subs) l ≡ entry.subs) (sym region)
          (subs_fields s.sub_texts entry.subs s.further s.subs));
      rest_is = subst (λ (l : List ℕ). drop (number32 0 b) l ≡ rest) whole (drop_at (text ++ (tail ++ s.further)) rest (number32 0 b) len);
    }

pub none_unfit : (b : List ℕ) → false ≡ is_fields b → (false ≡ false) ↔ BeginsWithNone b
none_unfit b unfit = (
  λ no. λ entry rest s. let test = test_of_fields b (entry_found b entry rest s).fields in let no : false ≡ true = unfit ∙ test in cc,
  λ none. refl,
)

pub none_subs : (b region : List ℕ) (n : ℕ) → n ≡ number16 40 b → region ≡ behind_fields b → None ≡ after_subs_in n region
    → (false ≡ false) ↔ BeginsWithNone b
none_subs b region n en er unfit = (
  λ no. λ entry rest s.
      let f = entry_found b entry rest s in
      let there : None ≡ Some f.further = unfit ∙ (ap (λ (k : ℕ). after_subs_in k region) en
      ∙ (ap (λ (l : List ℕ). after_subs_in (number16 40 b) l) er ∙ f.subs)) in cc,
  λ none. refl,
)

-- ---- the function of the bytes

same_entry : (fields : TypeFields) (subs : List TypeFields) (entry : formats.TypeEntry) → fields ≡ entry.fields → subs ≡ entry.subs
    → entry_with fields subs ≡ entry
unfolding entry_with
same_entry fields subs entry ef es = rw (ef, es) refl

-- the entry that stands in front is read
pub type_entry_of-of_text : (b : List ℕ) (entry : formats.TypeEntry) (rest : List ℕ) → BeginsWithTypeEntry b entry rest
    → type_entry_of b ≡ Some (entry, rest)
unfolding type_entry_of is_entry entry_with
type_entry_of-of_text b entry rest s =
    let f = entry_found b entry rest s in
    let subs = subs_in (number16 40 b) (behind_fields b) in
    let read : formats.TypeEntry × List ℕ = (entry_at b, after_entry b) in
    let walked : is_some (after_subs_in (number16 40 b) (behind_fields b)) ≡ true = ap (λ (o : Option (List ℕ)). is_some o) f.subs in
    let same : entry_at b ≡ entry = same_entry (fields_at b) subs entry f.fields_are f.subs_are in
    ap (λ (t : Bool). cond t (Some read) None) (both_true (test_of_fields b f.fields) walked)
    ∙ (ap (λ (e : formats.TypeEntry). Some (e, after_entry b)) same ∙ ap (λ (l : List ℕ). Some (entry, l)) f.rest_is)

pub type_entry_of-unfit : (b : List ℕ) → false ≡ is_fields b → None ≡ type_entry_of b
unfolding type_entry_of is_entry
type_entry_of-unfit b unfit =
    let read : formats.TypeEntry × List ℕ = (entry_at b, after_entry b) in
    ap (λ (t : Bool). cond (t && is_some (after_subs_in (number16 40 b) (behind_fields b))) (Some read) None) unfit

nothing : (t : Bool) (read : formats.TypeEntry × List ℕ) → None ≡ cond (t && false) (Some read) None
nothing true read = refl
nothing false read = refl

pub type_entry_of-no_subs : (b region : List ℕ) (n : ℕ) → n ≡ number16 40 b → region ≡ behind_fields b → None ≡ after_subs_in n region
    → None ≡ type_entry_of b
unfolding type_entry_of is_entry
type_entry_of-no_subs b region n en er unfit =
    let read : formats.TypeEntry × List ℕ = (entry_at b, after_entry b) in
    let none : None ≡ after_subs_in (number16 40 b) (behind_fields b) = unfit ∙ (ap (λ (k : ℕ). after_subs_in k region) en
    ∙ ap (λ (l : List ℕ). after_subs_in (number16 40 b) l) er) in
    nothing (is_fields b) read ∙ ap (λ (o : Option (List ℕ)). cond (is_fields b && is_some o) (Some read) None) none

-- ---- what is read

pub some_entry : (b : List ℕ) (e : TypeEntry) (rest : List ℕ) → IsRead b e rest → (true ≡ false) ↔ BeginsWithNone b
some_entry b e rest r = (λ no. absurd cc, λ none. absurd (none r.entry rest r.begins))

pub is_read : (b : List ℕ) (e : TypeEntry) (rest region after : List ℕ) (n : ℕ) → AreBytes b → HasFields b → n ≡ number16 40 b
    → region ≡ behind_fields b → Some after ≡ after_subs_in n region → ReadsAs b (take (length region - length after) region) e
    → rest ≡ drop (number32 0 b) b → IsRead b e rest
unfolding entry_with
is_read b e rest region after n h t en er es r end =
    let w = whole b h t in
    let f = front b h t in
    let s = region_subs b region after n h er es in
    let tail = flat_map (λ (x : List ℕ). x) s.texts in
    let text = to_le_bytes w32 (number32 0 b) ++ fields_bytes (stamps_at b) (fields_at b) (number16 40 b) in
    let count : length s.subs ≡ number16 40 b = s.count ∙ en in
    let split : w.further ≡ tail ++ after = w.further_is ∙ (sym er ∙ sym s.bytes) in
    let further_len : length w.further ≡ length (tail ++ after) = ap (λ (l : List ℕ). length l) split in
    let region_len : length (tail ++ after) ≡ length region = ap (λ (l : List ℕ). length l) s.bytes in
    let tail_len : length (tail ++ after) ≡ length tail + length after = length-append tail after in
    let size : length tail ≡ length region - length after = omega (arith, region_len, tail_len) in
    let bytes : (text ++ (tail ++ after)) ++ rest ≡ b =
    ap (λ (l : List ℕ). (text ++ l) ++ rest) (sym split) ∙ (ap (λ (l : List ℕ). (text ++ w.further) ++ l) end ∙ w.bytes) in
    let counted : to_le_bytes w32 (number32 0 b) ++ fields_bytes (stamps_at b) (fields_at b) (length s.subs) ≡ text =
    ap (λ (k : ℕ). to_le_bytes w32 (number32 0 b) ++ fields_bytes (stamps_at b) (fields_at b) k) count in
    record {
      entry = entry_with (fields_at b) s.subs;
      begins = record {
        fits = f.fits;
        count = omega (arith, count, number16-lt 40 b h);
        stamps = stamps_at b;
        sub_texts = s.texts;
        subs = s.each;
        further = after;
        stated = number32 0 b;
        stated_is = omega (arith, w.length_is, further_len, tail_len);
        stated_fits = number32-lt 0 b h;
        whole = sym (ap (λ (l : List ℕ). ((l ++ tail) ++ after) ++ rest) counted
            ∙ (ap (λ (l : List ℕ). l ++ rest) (append_assoc text tail after) ∙ bytes));
      };
      says = record {
        size = r.size;
        offset = r.offset;
        type_id = r.type_id;
        flags = r.flags;
        name = r.name;
        kind = r.kind;
        comment = r.comment;
        dims = r.dims ∙ sym f.dims;
        subs = r.subs ∙ sym count;
      };
      sub_bytes = r.sub_bytes ∙ subst (λ (l : List ℕ). take (length region - length after) l ≡ tail) s.bytes
          (take_at tail after (length region - length after) size);
    }

-- ---- the entry that a value is

dimensions_meant : (bytes : List ℕ) (ds : List Dimension) → AllByRecursion (λ (d : Dimension). (d.low < 2 ^ 32) × (d.count < 2 ^ 32)) ds
    → bytes ≡ flat_map dimension_bytes ds → dimensions_in (length bytes / 8) bytes ≡ ds
dimensions_meant bytes ds fits e =
    let text = flat_map dimension_bytes ds in
    let eight : length text / 8 ≡ length ds = ap (λ (n : ℕ). n / 8) (length-dimensions ds) ∙ mul-div_cancel_left (length ds) (omega arith) in
    let read : dimensions_in (length ds) text ≡ ds =
    ap (λ (l : List ℕ). dimensions_in (length ds) l) (sym (append-nil text)) ∙ dimensions_read ds [] fits in
    subst (λ (l : List ℕ). dimensions_in (length l / 8) l ≡ ds) (sym e) (ap (λ (n : ℕ). dimensions_in n text) eight ∙ read)

entry_meant_is : (b : List ℕ) (e : TypeEntry) (rest : List ℕ) (r : IsRead b e rest) → entry_meant e ≡ r.entry
unfolding entry_with
entry_meant_is b e rest r =
    let f = r.entry.fields in
    let tail = flat_map (λ (t : List ℕ). t) r.begins.sub_texts in
    let fields : made e.size e.offset e.type_id e.flags e.name.now e.kind.now e.comment.now (dimensions_in (length e.dims.now / 8) e.dims.now) ≡ f =
    same_fields e.size e.offset e.type_id e.flags e.name.now e.kind.now e.comment.now (dimensions_in (length e.dims.now / 8) e.dims.now) f
    r.says.size r.says.offset r.says.type_id r.says.flags r.says.name r.says.kind r.says.comment
    (dimensions_meant e.dims.now f.dimensions r.begins.fits.each r.says.dims) in
    let read : subs_in (length r.entry.subs) tail ≡ r.entry.subs =
    ap (λ (l : List ℕ). subs_in (length r.entry.subs) l) (sym (append-nil tail)) ∙ subs_fields r.begins.sub_texts r.entry.subs [] r.begins.subs in
    let subs : subs_in e.subs e.sub_bytes.now ≡ r.entry.subs =
    ap (λ (n : ℕ). subs_in n e.sub_bytes.now) r.says.subs ∙ (ap (λ (l : List ℕ). subs_in (length r.entry.subs) l) r.sub_bytes ∙ read) in
    same_entry _ (subs_in e.subs e.sub_bytes.now) r.entry fields subs

pub read_entry_is : (b : List ℕ) (e : TypeEntry) (rest : List ℕ) → IsRead b e rest → Some (entry_meant e, rest) ≡ type_entry_of b
read_entry_is b e rest r =
    ap (λ (x : formats.TypeEntry). Some (x, rest)) (entry_meant_is b e rest r) ∙ sym (type_entry_of-of_text b r.entry rest r.begins)
