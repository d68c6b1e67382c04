-- The sub entries of a type are read one after another.
use Rattle.std.proofs.Common.{◌≡◌, ℕ, suc, ◌+◌, ◌-◌, ◌<◌, ◌≤◌, List, [], ◌∷◌, ◌++◌, map, Bool, true, false}
use Rattle.std.proofs.Common.{◌&&◌, cond, eqb, refl, sym, ap, ◌∙◌, append_assoc, arith}
use Rattle.std.specs.Prelude.{Some, None, is_some, length, flat_map}
use Rattle.std.specs.Option.{option_and_then}
use Rattle.std.proofs.lemmas.Bool.{and_parts, eqb-true}
use Rattle.std.proofs.lemmas.List.{append-nil, map-append}
use Rattle.std.proofs.lemmas.List.Elements.{All-nil, All-push}
use Rattle.spec_formats.specs.Numbers.{number16}
use Rattle.spec_formats.specs.TypeEntry as formats
use Rattle.spec_formats.specs.TypeEntryReading.{is_fields, fields_at, entry_at, after_entry, after_sub_in, after_subs_in, subs_in, is_entry, type_entry_of}
use Rattle.type_upload.specs.declared.entry.TypeEntry.{TypeEntry}
use Rattle.type_upload.specs.Entry.{IsRead, entry_meant}
use Rattle.type_upload.proofs.SubLemmas.{subs_found}
use Rattle.client_leaves.specs.declared.table.Member.{Member}
use Rattle.client_leaves.specs.Entries.{HasSubs}
use Rattle.client_leaves.specs.Table.{AreFound, IsMemberFound, member_kept}

-- an entry that is read has its sub entries
pub has_subs : (bytes : List ℕ) (e : TypeEntry) (rest : List ℕ) → IsRead bytes e rest → HasSubs e
has_subs bytes e rest r =
    let texts = flat_map (λ (t : List ℕ). t) r.begins.sub_texts in
    let found : after_subs_in (length r.entry.subs) texts ≡ Some [] =
    ap (λ l. after_subs_in (length r.entry.subs) l) (sym (append-nil texts)) ∙ subs_found r.begins.sub_texts r.entry.subs [] r.begins.subs in
    rw (r.says.subs, r.sub_bytes, found) refl

-- a sub entry stands in front, and others behind it
record SubAt (n : ℕ) (bytes : List ℕ) : Type 0 where
  fields : is_fields bytes ≡ true
  none : number16 40 bytes ≡ 0
  others : is_some (after_subs_in n (after_entry bytes)) ≡ true

sub_at : (n : ℕ) (bytes : List ℕ) (b : Bool) → is_fields bytes && (eqb (number16 40 bytes) 0) ≡ b
    → is_some (option_and_then (λ after. after_subs_in n after) (cond b (Some (after_entry bytes)) None)) ≡ true → SubAt n bytes
sub_at n bytes false is there = absurd cc
sub_at n bytes true is there =
    let both = and_parts (is_fields bytes) (eqb (number16 40 bytes) 0) is in
    record { fields = both.0; none = eqb-true (number16 40 bytes) 0 both.1; others = there }

first_sub : (n : ℕ) (bytes : List ℕ) → is_some (after_subs_in (suc n) bytes) ≡ true → SubAt n bytes
unfolding after_subs_in after_sub_in
first_sub n bytes there = sub_at n bytes (is_fields bytes && (eqb (number16 40 bytes) 0)) refl there

sub_read : (n : ℕ) (bytes : List ℕ) → SubAt n bytes → type_entry_of bytes ≡ Some (entry_at bytes, after_entry bytes)
unfolding type_entry_of is_entry after_subs_in
sub_read n bytes s = rw (s.fields, s.none) refl

some_is : {A : Type 0} (p q : A) → Some p ≡ Some q → p ≡ q
some_is p q e = cc

none_some : {A : Type 0} (a : A) → None ≡ Some a → ⊥
none_some a e = cc

-- the sub entries so far, and those that are left
pub record MembersSoFar (types : List formats.TypeEntry) (count i : ℕ) (members : List Member) (bytes rest : List ℕ) : Type 0 where
  pub there : is_some (after_subs_in (count - i) rest) ≡ true
  pub same : subs_in count bytes ≡ map member_kept members ++ subs_in (count - i) rest
  pub found : AreFound types members

pub members_begin : (types : List formats.TypeEntry) (e : TypeEntry) (members : List Member) → members ≡ [] → HasSubs e
    → MembersSoFar types e.subs 0 members e.sub_bytes.now e.sub_bytes.now
members_begin types e members is h =
    let n : e.subs - 0 ≡ e.subs = omega arith in
    record { there = rw n h; same = rw (n, is) refl; found = rw is (All-nil (IsMemberFound types)) }

-- an entry always stands in front
pub members_there : (types : List formats.TypeEntry) (count i : ℕ) (members : List Member) (bytes rest : List ℕ) → i < count
    → MembersSoFar types count i members bytes rest → None ≡ type_entry_of rest → ⊥
members_there types count i members bytes rest less so_far none =
    let n : count - i ≡ suc (count - (i + 1)) = omega arith in
    let there : is_some (after_subs_in (suc (count - (i + 1))) rest) ≡ true = rw n at so_far.there in
    let read = sub_read (count - (i + 1)) rest (first_sub (count - (i + 1)) rest there) in
    none_some (entry_at rest, after_entry rest) (none ∙ read)

pub members_more : (types : List formats.TypeEntry) (count i : ℕ) (old new : List Member) (bytes rest behind : List ℕ) (m : Member) → i < count
    → MembersSoFar types count i old bytes rest → Some (entry_meant m.entry, behind) ≡ type_entry_of rest → IsMemberFound types m → new ≡ old ++ m ∷ []
    → MembersSoFar types count (i + 1) new bytes behind
members_more types count i old new bytes rest behind m less so_far is found pushed =
    let left = count - (i + 1) in
    let n : count - i ≡ suc left = omega arith in
    let there : is_some (after_subs_in (suc left) rest) ≡ true = rw n at so_far.there in
    let s = first_sub left rest there in
    let read : formats.TypeEntry × List ℕ = (entry_meant m.entry, behind) in
    let stands : formats.TypeEntry × List ℕ = (entry_at rest, after_entry rest) in
    let same_pair : read ≡ stands = some_is read stands (is ∙ sub_read left rest s) in
    let after : behind ≡ after_entry rest = ap (λ (x : formats.TypeEntry × List ℕ). x.1) same_pair in
    let first : member_kept m ≡ fields_at rest = ap (λ (x : formats.TypeEntry × List ℕ). x.0.fields) same_pair in
    let kept : map member_kept new ≡ map member_kept old ++ fields_at rest ∷ [] =
    ap (λ l. map member_kept l) pushed ∙ (map-append member_kept old (m ∷ []) ∙ ap (λ f. map member_kept old ++ f ∷ []) first) in
    let same : subs_in count bytes ≡ map member_kept old ++ (fields_at rest ∷ subs_in left (after_entry rest)) = rw n at so_far.same in
    record {
      there = rw after s.others;
      same = rw (kept, after) (same ∙ sym (append_assoc (map member_kept old) (fields_at rest ∷ []) (subs_in left (after_entry rest))));
      found = rw pushed (All-push (IsMemberFound types) old m so_far.found found);
    }

pub members_end : (types : List formats.TypeEntry) (count i : ℕ) (members : List Member) (bytes rest : List ℕ) → count ≤ i
    → MembersSoFar types count i members bytes rest → map member_kept members ≡ subs_in count bytes
members_end types count i members bytes rest all so_far =
    let n : count - i ≡ 0 = omega arith in
    let same : subs_in count bytes ≡ map member_kept members ++ [] = rw n at so_far.same in
    sym (same ∙ append-nil (map member_kept members))
