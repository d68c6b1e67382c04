-- What is written in parts.
use Rattle.std.proofs.Common.{◌≡◌, ℕ, ◌+◌, List, [], ◌∷◌, ◌++◌, length, take, drop, map, refl, sym, ap, ◌∙◌, arith, append_assoc, length-append, add-zero}
use Rattle.std.specs.Prelude.{flat_map, Result, Ok, Err, OnErr}
use Rattle.std.specs.Int.{w16, w32, to_le_bytes}
use Rattle.std.proofs.Math.Seq.{take-append_seam}
use Rattle.std.proofs.lemmas.List.{take-append-drop}
use Rattle.ads_base.specs.Octets.{Extends}
use Rattle.spec_formats.specs.SymbolEntry.{text_bytes}
use Rattle.spec_formats.specs.TypeEntry.{TypeFields, dimension_bytes, fields_len, sub_bytes}
use Rattle.spec_formats.proofs.Appends.{two_parts, three_parts}
use Rattle.spec_formats.specs.TypeUpload.{dimension_of}
use Rattle.type_layout.specs.Shapes.{bounds_of}
use Rattle.type_layout.specs.declared.shape.Bound.{Bound}
use Rattle.type_upload.specs.WrittenFields.{front_bytes, numbers, lengths, texts, bound_bytes}

-- bytes behind those that were there, and whatever follows them
pub extends_behind : (old more mid new : List ℕ) → mid ≡ old ++ more → Extends mid new → Extends old new
extends_behind old more mid new e h =
    let rest = drop (length mid) new in
    let whole : new ≡ old ++ (more ++ rest) =
    sym (take-append-drop (length mid) new) ∙ (ap (λ (l : List ℕ). l ++ rest) (h.begins ∙ e) ∙ append_assoc old more rest) in
    record {
      longer = omega (arith, h.longer, ap length e, length-append old more);
      begins = ap (take (length old)) whole ∙ take-append_seam old (more ++ rest);
    }

-- what holds anyway holds after an error
pub on_err : {T E : Type 0} (r : Result T E) (P : Type 0) → P → OnErr r P
on_err (Ok v) P p = tt
on_err (Err e) P p = p

pub four_parts : (old a b c d x y z w : List ℕ) → x ≡ old ++ a → y ≡ x ++ b → z ≡ y ++ c → w ≡ z ++ d → w ≡ old ++ (a ++ b ++ c ++ d)
four_parts old a b c d x y z w e f g h = two_parts old (a ++ b ++ c) d z w (three_parts old a b c x y z e f g) h

-- the fields one after another, and in four groups
regroup : (a b c d e f g h i j k l m n o p q : List ℕ)
    → (a ++ b ++ c ++ (d ++ e ++ f) ++ g ++ h) ++ (i ++ j ++ k ++ l ++ m) ++ (n ++ o ++ p) ++ q
    ≡ a ++ (b ++ c ++ d ++ e ++ f ++ g ++ h ++ i ++ j ++ k ++ l ++ m ++ n ++ o ++ p ++ q)
regroup a b c d e f g h i j k l m n o p q = simp append_assoc

pub four_groups : (f : TypeFields) (len behind subs count : ℕ) (dims : List ℕ) → len ≡ fields_len f + behind → count ≡ length f.dimensions
    → dims ≡ flat_map dimension_bytes f.dimensions
    → numbers len f ++ lengths (length f.name) (length f.type_name) (length f.comment) count subs ++ texts f ++ dims ≡ front_bytes f behind subs
four_groups f len behind subs count dims e g h =
    rw (e, g, h) (regroup (to_le_bytes w32 (fields_len f + behind)) (to_le_bytes w32 1) (to_le_bytes w32 0)
    (to_le_bytes w32 0) (to_le_bytes w32 f.size) (to_le_bytes w32 f.offset) (to_le_bytes w32 f.type_id) (to_le_bytes w32 f.flags)
    (to_le_bytes w16 (length f.name)) (to_le_bytes w16 (length f.type_name)) (to_le_bytes w16 (length f.comment))
    (to_le_bytes w16 (length f.dimensions)) (to_le_bytes w16 subs)
    (text_bytes f.name) (text_bytes f.type_name) (text_bytes f.comment) (flat_map dimension_bytes f.dimensions))

-- a sub entry is its fields alone
pub front_bytes-sub : (f : TypeFields) → front_bytes f 0 0 ≡ sub_bytes f
front_bytes-sub f = rw add-zero refl

-- the dimensions as they are written
pub dimensions_meant : (dims : List Bound) → flat_map bound_bytes dims ≡ flat_map dimension_bytes (map dimension_of (bounds_of dims))
dimensions_meant [] = refl
dimensions_meant (b ∷ bs) = ap (λ (l : List ℕ). bound_bytes b ++ l) (dimensions_meant bs)
