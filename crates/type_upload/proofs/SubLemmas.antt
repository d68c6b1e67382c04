-- Sub entries, one after another.
use Rattle.std.proofs.Common.{◌≡◌, ℕ, zero, suc, ◌+◌, ◌-◌, ◌<◌, Bool, true, false, ◌&&◌, cond, eqb, List, []}
use Rattle.std.proofs.Common.{◌∷◌, ◌++◌, length, take, drop, Option, Some, None, refl, sym, ap, subst, ◌∙◌}
use Rattle.std.proofs.Common.{append_assoc, arith}
use Rattle.std.specs.Option.{option_and_then}
use Rattle.std.specs.Int.{w32, to_le_bytes}
use Rattle.std.specs.List.{flat_map, AllZip}
use Rattle.std.specs.Cmp.Derive.{both_true}
use Rattle.std.proofs.lemmas.Bool.{eqb-true, eq-eqb}
use Rattle.std.proofs.lemmas.List.{length-append, length-drop, length-take-le, take_at, drop_at, drop-drop, take-append-drop}
use Rattle.spec_formats.specs.Numbers.{AreBytes, number16, number32}
use Rattle.spec_formats.specs.TypeEntry.{TypeFields, fields_len, fields_bytes, IsSubEntry}
use Rattle.spec_formats.proofs.Fields.{AreBytes-drop, number32-lt, next_field}
use Rattle.spec_formats.proofs.EntryLemmas.{both}
use Rattle.type_upload.specs.Places.{HasFields}
use Rattle.spec_formats.specs.TypeEntryReading.{end_of_fields, is_fields, fields_at, after_entry, after_sub_in, after_subs_in, subs_in}
use Rattle.type_upload.proofs.TestLemmas.{fields_of_test, test_of_fields}
use Rattle.type_upload.proofs.FieldLemmas.{stamps_at, front, found, length-fields}

-- ---- what is read is a text

-- the bytes up to a length that covers the fields: the fields and further bytes
pub record Whole (b : List ℕ) : Type 0 where
  pub further : List ℕ
  pub length_is : fields_len (fields_at b) + length further ≡ number32 0 b
  pub text : take (number32 0 b) b ≡ (to_le_bytes w32 (number32 0 b) ++ fields_bytes (stamps_at b) (fields_at b) (number16 40 b)) ++ further
  pub further_is : further ≡ take (number32 0 b - end_of_fields b) (drop (end_of_fields b) b)
  pub bytes : ((to_le_bytes w32 (number32 0 b) ++ fields_bytes (stamps_at b) (fields_at b) (number16 40 b)) ++ further) ++ drop (number32 0 b) b ≡ b

pub whole : (b : List ℕ) → AreBytes b → HasFields b → Whole b
whole b h t =
    let f = front b h t in
    let text = to_le_bytes w32 (number32 0 b) ++ fields_bytes (stamps_at b) (fields_at b) (number16 40 b) in
    let more = number32 0 b - end_of_fields b in
    let behind = drop (end_of_fields b) b in
    let further = take more behind in
    let end : end_of_fields b + more ≡ number32 0 b = omega (arith, t.covers) in
    let further_len : length further ≡ more = length-take-le more behind (omega (arith, length-drop (end_of_fields b) b, t.within, t.covers)) in
    let rest : drop more behind ≡ drop (number32 0 b) b =
    drop-drop more (end_of_fields b) b ∙ ap (λ (k : ℕ). drop k b) end in
    let split : further ++ drop (number32 0 b) b ≡ behind =
    ap (λ (l : List ℕ). further ++ l) (sym rest) ∙ take-append-drop more behind in
    let bytes : (text ++ further) ++ drop (number32 0 b) b ≡ b = next_field b text behind further (drop (number32 0 b) b) f.text split in
    let text_len : length text ≡ fields_len (fields_at b) = length-fields (stamps_at b) (fields_at b) (number32 0 b) (number16 40 b) in
    let len : length (text ++ further) ≡ number32 0 b =
    omega (arith, length-append text further, text_len, f.length_is, further_len, end) in
    record {
      further = further;
      length_is = omega (arith, f.length_is, further_len, end);
      text = subst (λ (l : List ℕ). take (number32 0 b) l ≡ text ++ further) bytes (take_at (text ++ further) (drop (number32 0 b) b) (number32 0 b) len);
      further_is = refl;
      bytes = bytes;
    }

sub_is : (b : List ℕ) → AreBytes b → HasFields b → number16 40 b ≡ 0 → IsSubEntry (take (number32 0 b) b) (fields_at b)
sub_is b h t none =
    let w = whole b h t in
    let f = front b h t in
    record {
      fits = f.fits;
      stamps = stamps_at b;
      further = w.further;
      length_fits = omega (arith, w.length_is, number32-lt 0 b h);
      whole = subst (λ (n : ℕ). take (number32 0 b) b ≡ (to_le_bytes w32 n ++ fields_bytes (stamps_at b) (fields_at b) 0) ++ w.further) (sym w.length_is)
          (subst (λ (n : ℕ). take (number32 0 b) b ≡ (to_le_bytes w32 (number32 0 b) ++ fields_bytes (stamps_at b) (fields_at b) n) ++ w.further) none w.text);
    }

-- a sub entry stands in front, and this behind it
record SubThen (b after : List ℕ) : Type 0 where
  fields : HasFields b
  none : number16 40 b ≡ 0
  after_is : after ≡ drop (number32 0 b) b

chosen : (test : Bool) (value other : List ℕ) → cond test (Some value) None ≡ Some other → (test ≡ true) × (other ≡ value)
chosen true value other e = (refl, cc)
chosen false value other e = absurd cc

sub_then : (b after : List ℕ) → after_sub_in b ≡ Some after → SubThen b after
unfolding after_sub_in
sub_then b after e =
    let c = chosen (is_fields b && eqb (number16 40 b) 0) (drop (number32 0 b) b) after e in
    let t = both (is_fields b) (eqb (number16 40 b) 0) c.0 in
    record { fields = fields_of_test b t.0; none = eqb-true (number16 40 b) 0 t.1; after_is = c.1 }

pub after_sub_in-found : (b : List ℕ) → is_fields b ≡ true → number16 40 b ≡ 0 → after_sub_in b ≡ Some (drop (number32 0 b) b)
unfolding after_sub_in
after_sub_in-found b test none =
    ap (λ (t : Bool). cond t (Some (drop (number32 0 b) b)) None) (both_true test (eq-eqb (number16 40 b) 0 none))

pub after_sub_in-untested : (b : List ℕ) → false ≡ is_fields b → None ≡ after_sub_in b
unfolding after_sub_in
after_sub_in-untested b test = ap (λ (t : Bool). cond (t && eqb (number16 40 b) 0) (Some (drop (number32 0 b) b)) None) test

with_subs : (s t : Bool) (value : List ℕ) → (t ≡ true → ⊥) → None ≡ cond (s && t) (Some value) None
with_subs true true value never = absurd (never refl)
with_subs false true value never = absurd (never refl)
with_subs true false value never = refl
with_subs false false value never = refl

pub after_sub_in-with_subs : (b : List ℕ) → (number16 40 b ≡ 0 → ⊥) → None ≡ after_sub_in b
unfolding after_sub_in
after_sub_in-with_subs b some = with_subs (is_fields b) (eqb (number16 40 b) 0) (drop (number32 0 b) b) (λ e. some (eqb-true (number16 40 b) 0 e))

-- ---- sub entries one after another

pub record Subs (n : ℕ) (b rest : List ℕ) : Type 0 where
  pub texts : List (List ℕ)
  pub subs : List TypeFields
  pub each : AllZip IsSubEntry texts subs
  pub count : length subs ≡ n
  pub bytes : flat_map (λ (t : List ℕ). t) texts ++ rest ≡ b

record Bound (o : Option (List ℕ)) (f : List ℕ → Option (List ℕ)) (rest : List ℕ) : Type 0 where
  after : List ℕ
  first : o ≡ Some after
  others : f after ≡ Some rest

bound : (o : Option (List ℕ)) (f : List ℕ → Option (List ℕ)) (rest : List ℕ) → option_and_then f o ≡ Some rest → Bound o f rest
bound None f rest e = absurd cc
bound (Some after) f rest e = record { after = after; first = refl; others = e }

same : (b rest : List ℕ) → Some b ≡ Some rest → rest ≡ b
same b rest e = cc

more_subs : (n : ℕ) (b after rest : List ℕ) → AreBytes b → SubThen b after → Subs n after rest → Subs (suc n) b rest
more_subs n b after rest h s others =
    let first = take (number32 0 b) b in
    let tail = flat_map (λ (t : List ℕ). t) others.texts in
    record {
      texts = first ∷ others.texts;
      subs = fields_at b ∷ others.subs;
      each = (sub_is b h s.fields s.none, others.each);
      count = ap suc others.count;
      bytes = append_assoc first tail rest
          ∙ (ap (λ (l : List ℕ). first ++ l) (others.bytes ∙ s.after_is) ∙ take-append-drop (number32 0 b) b);
    }

pub subs_read : (n : ℕ) (b rest : List ℕ) → AreBytes b → after_subs_in n b ≡ Some rest → Subs n b rest
unfolding after_subs_in
subs_read zero b rest h e = record { texts = []; subs = []; each = tt; count = refl; bytes = same b rest e }
subs_read (suc n) b rest h e =
    let c = bound (after_sub_in b) (λ (l : List ℕ). after_subs_in n l) rest e in
    let s = sub_then b c.after c.first in
    let h2 : AreBytes c.after = subst AreBytes (sym s.after_is) (AreBytes-drop (number32 0 b) b h) in
    more_subs n b c.after rest h s (subs_read n c.after rest h2 c.others)

-- ---- a text is read

record SubFound (text after : List ℕ) (f : TypeFields) : Type 0 where
  fields : fields_at (text ++ after) ≡ f
  behind : after_entry (text ++ after) ≡ after
  walked : after_sub_in (text ++ after) ≡ Some after

sub_found : (text after : List ℕ) (f : TypeFields) → IsSubEntry text f → SubFound text after f
sub_found text after f s =
    let stated = fields_len f + length s.further in
    let fields = to_le_bytes w32 stated ++ fields_bytes s.stamps f 0 in
    let e : text ++ after ≡ fields ++ (s.further ++ after) =
    ap (λ (l : List ℕ). l ++ after) s.whole ∙ append_assoc fields s.further after in
    let is = found s.stamps f stated 0 (s.further ++ after) (text ++ after) s.fits s.length_fits (omega arith) (omega arith)
    (omega (arith, length-append s.further after)) e in
    let fields_length : length fields ≡ fields_len f = length-fields s.stamps f stated 0 in
    let len : length text ≡ stated = ap (λ (l : List ℕ). length l) s.whole ∙ omega (arith, length-append fields s.further, fields_length) in
    let left : drop (number32 0 (text ++ after)) (text ++ after) ≡ after = drop_at text after (number32 0 (text ++ after)) (len ∙ sym is.stated_is) in
    record {
      fields = is.read;
      behind = left;
      walked = after_sub_in-found (text ++ after) (test_of_fields (text ++ after) is.fields) is.subs_is ∙ ap (λ (l : List ℕ). Some l) left;
    }

step : (n : ℕ) (b after : List ℕ) → after_sub_in b ≡ Some after → after_subs_in (suc n) b ≡ after_subs_in n after
unfolding after_subs_in
step n b after e = rw e refl

stops : (n : ℕ) (b : List ℕ) → after_sub_in b ≡ None → after_subs_in (suc n) b ≡ None
unfolding after_subs_in
stops n b e = rw e refl

pub subs_found : (texts : List (List ℕ)) (subs : List TypeFields) (rest : List ℕ) → AllZip IsSubEntry texts subs
    → after_subs_in (length subs) (flat_map (λ (t : List ℕ). t) texts ++ rest) ≡ Some rest
unfolding after_subs_in
subs_found [] [] rest h = refl
subs_found [] (f ∷ fs) rest h = absurd h
subs_found (t ∷ ts) [] rest h = absurd h
subs_found (t ∷ ts) (f ∷ fs) rest h =
    let tail = flat_map (λ (x : List ℕ). x) ts in
    ap (λ (l : List ℕ). after_subs_in (suc (length fs)) l) (append_assoc t tail rest)
    ∙ (step (length fs) (t ++ (tail ++ rest)) (tail ++ rest) (sub_found t (tail ++ rest) f h.0).walked ∙ subs_found ts fs rest h.1)

pub subs_fields : (texts : List (List ℕ)) (subs : List TypeFields) (rest : List ℕ) → AllZip IsSubEntry texts subs
    → subs_in (length subs) (flat_map (λ (t : List ℕ). t) texts ++ rest) ≡ subs
subs_fields [] [] rest h = refl
subs_fields [] (f ∷ fs) rest h = absurd h
subs_fields (t ∷ ts) [] rest h = absurd h
subs_fields (t ∷ ts) (f ∷ fs) rest h =
    let tail = flat_map (λ (x : List ℕ). x) ts in
    let first = sub_found t (tail ++ rest) f h.0 in
    ap (λ (l : List ℕ). subs_in (suc (length fs)) l) (append_assoc t tail rest)
    ∙ (ap (λ (x : TypeFields). x ∷ subs_in (length fs) (after_entry (t ++ (tail ++ rest)))) first.fields
    ∙ ap (λ (l : List TypeFields). f ∷ l) (ap (λ (l : List ℕ). subs_in (length fs) l) first.behind ∙ subs_fields ts fs rest h.1))

-- ---- walking

pub subs_go_on : (k j : ℕ) (b after : List ℕ) (total : Option (List ℕ)) → k ≡ suc j → Some after ≡ after_sub_in b
    → after_subs_in k b ≡ total → after_subs_in j after ≡ total
subs_go_on k j b after total some e t =
    sym (step j b after (sym e)) ∙ (ap (λ (n : ℕ). after_subs_in n b) (sym some) ∙ t)

pub subs_stop : (k : ℕ) (b : List ℕ) (total : Option (List ℕ)) → 0 < k → None ≡ after_sub_in b → after_subs_in k b ≡ total → None ≡ total
subs_stop zero b total some e t = absurd (omega arith)
subs_stop (suc n) b total some e t = sym (stops n b (sym e)) ∙ t

pub subs_end : (k : ℕ) (b : List ℕ) (total : Option (List ℕ)) → k ≡ 0 → after_subs_in k b ≡ total → Some b ≡ total
unfolding after_subs_in
subs_end k b total none t = subst (λ (n : ℕ). after_subs_in n b ≡ total) none t
