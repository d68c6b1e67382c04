-- The types of an upload are read one after another.
use Rattle.std.proofs.Common.{◌≡◌, ◌≢◌, ℕ, suc, ◌+◌, ◌-◌, ◌<◌, ◌≤◌, ◌^◌, List, [], ◌∷◌, ◌++◌, map, length, refl, sym, ap, ◌∙◌, append_assoc, arith}
use Rattle.std.specs.Prelude.{Option, Some, None, option_map}
use Rattle.std.proofs.lemmas.Bool.{eq-eqb, ne_eqb}
use Rattle.std.proofs.lemmas.List.{append-nil, map-append, length-map, length-append}
use Rattle.spec_formats.specs.TypeEntry.{TypeEntry}
use Rattle.spec_formats.specs.TypeEntryReading.{type_entry_of}
use Rattle.spec_client.specs.Entries.{types_in}
use Rattle.name_index.specs.Numbered.{AreNumbered, NameNumbers}
use Rattle.type_upload.specs.declared.entry.TypeEntry as upload
use Rattle.type_upload.specs.Entry.{entry_meant}
use Rattle.client_leaves.specs.Entries.{entry_name}

abbrev behind_types : List TypeEntry → Option (List TypeEntry) → Option (List TypeEntry)
behind_types before o = option_map (λ ts. before ++ ts) o

joined : (before : List TypeEntry) (t : TypeEntry) (o : Option (List TypeEntry))
    → behind_types before (option_map (λ ts. t ∷ ts) o) ≡ behind_types (before ++ t ∷ []) o
joined before t None = refl
joined before t (Some ts) = ap Some (sym (append_assoc before (t ∷ []) ts))

types_more : (n : ℕ) (before : List TypeEntry) (bytes rest : List ℕ) (t : TypeEntry) → type_entry_of bytes ≡ Some (t, rest)
    → behind_types before (types_in (suc n) bytes) ≡ behind_types (before ++ t ∷ []) (types_in n rest)
unfolding types_in
types_more n before bytes rest t is = rw is (joined before t (types_in n rest))

types_none : (n : ℕ) (before : List TypeEntry) (bytes : List ℕ) → type_entry_of bytes ≡ None → behind_types before (types_in (suc n) bytes) ≡ None
unfolding types_in
types_none n before bytes is = rw is refl

-- the types so far, and those that are left, are all
pub record TypesSoFar (count i : ℕ) (entries : List upload.TypeEntry) (bytes rest : List ℕ) : Type 0 where
  pub many : length entries ≡ i
  pub same : behind_types (map entry_meant entries) (types_in (count - i) rest) ≡ types_in count bytes

nothing_before : (o : Option (List TypeEntry)) → behind_types [] o ≡ o
nothing_before None = refl
nothing_before (Some ts) = refl

pub types_begin : (count : ℕ) (entries : List upload.TypeEntry) (bytes : List ℕ) → entries ≡ [] → TypesSoFar count 0 entries bytes bytes
types_begin count entries bytes is =
    let n : count - 0 ≡ count = omega arith in
    record { many = rw is refl; same = rw (is, n) (nothing_before (types_in count bytes)) }

pub types_go_on : (count i : ℕ) (old new : List upload.TypeEntry) (bytes rest behind : List ℕ) (e : upload.TypeEntry) → i < count
    → TypesSoFar count i old bytes rest → Some (entry_meant e, behind) ≡ type_entry_of rest → new ≡ old ++ e ∷ []
    → TypesSoFar count (i + 1) new bytes behind
types_go_on count i old new bytes rest behind e less so_far is pushed =
    let left = count - (i + 1) in
    let n : count - i ≡ suc left = omega arith in
    let kept : map entry_meant new ≡ map entry_meant old ++ entry_meant e ∷ [] = ap (λ l. map entry_meant l) pushed ∙ map-append entry_meant old (e ∷ []) in
    let same : behind_types (map entry_meant old) (types_in (suc left) rest) ≡ types_in count bytes = rw n at so_far.same in
    let many : length new ≡ length old + 1 = ap (λ l. length l) pushed ∙ length-append old (e ∷ []) in
    record {
      many = omega (arith, many, so_far.many);
      same = rw kept (sym (types_more left (map entry_meant old) rest behind (entry_meant e) (sym is)) ∙ same);
    }

pub types_stop : (count i : ℕ) (entries : List upload.TypeEntry) (bytes rest : List ℕ) → i < count
    → TypesSoFar count i entries bytes rest → None ≡ type_entry_of rest → None ≡ types_in count bytes
types_stop count i entries bytes rest less so_far none =
    let left = count - (i + 1) in
    let n : count - i ≡ suc left = omega arith in
    let same : behind_types (map entry_meant entries) (types_in (suc left) rest) ≡ types_in count bytes = rw n at so_far.same in
    sym (types_none left (map entry_meant entries) rest (sym none)) ∙ same

at_end : (count i : ℕ) (entries : List upload.TypeEntry) (bytes rest : List ℕ) → count ≤ i → TypesSoFar count i entries bytes rest
    → behind_types (map entry_meant entries) (types_in 0 rest) ≡ types_in count bytes
at_end count i entries bytes rest all so_far =
    let n : count - i ≡ 0 = omega arith in
    rw n at so_far.same

pub types_end : (count i : ℕ) (entries : List upload.TypeEntry) (bytes rest : List ℕ) → count ≤ i → length rest ≡ 0
    → TypesSoFar count i entries bytes rest → Some (map entry_meant entries) ≡ types_in count bytes
unfolding types_in
types_end count i entries bytes rest all none so_far =
    let e = at_end count i entries bytes rest all so_far in
    let empty = eq-eqb (length rest) 0 none in
    ap Some (sym (append-nil (map entry_meant entries))) ∙ (rw empty at e)

pub types_beyond : (count i : ℕ) (entries : List upload.TypeEntry) (bytes rest : List ℕ) → count ≤ i → length rest ≢ 0
    → TypesSoFar count i entries bytes rest → None ≡ types_in count bytes
unfolding types_in
types_beyond count i entries bytes rest all some so_far =
    let e = at_end count i entries bytes rest all so_far in
    let full = ne_eqb (length rest) 0 some in
    rw full at e

-- one more name
pub named_more : (entries new : List upload.TypeEntry) (e : upload.TypeEntry) (old after : NameNumbers) → AreNumbered (map entry_name entries) old
    → new ≡ entries ++ e ∷ []
    → ((names : List (List ℕ)) → AreNumbered names old → AreNumbered (names ++ entry_name e ∷ []) after) → AreNumbered (map entry_name new) after
named_more entries new e old after names pushed more =
    let is : map entry_name new ≡ map entry_name entries ++ entry_name e ∷ [] = ap (λ l. map entry_name l) pushed ∙ map-append entry_name entries (e ∷ []) in
    rw is (more (map entry_name entries) names)

pub few_names : (entries : List upload.TypeEntry) (index : NameNumbers) → AreNumbered (map entry_name entries) index → length entries + 1 < 2 ^ 32
    → index.count + 1 < 2 ^ 32
few_names entries index names few = omega (arith, names.counted, length-map entries entry_name, few)
