-- Records in slots and the entries that name them: one more, one less, and all moved.
use Rattle.std.proofs.Common.{◌≡◌, ◌≢◌, ℕ, ◌+◌, ◌<◌, ◌≤◌, List, [], ◌∷◌, ◌++◌, map, length, get_or, take, Bool}
use Rattle.std.proofs.Common.{true, false, cond, refl, sym, ◌∙◌, ap, subst, inl, inr, arith, not, ◌==◌, zero}
use Rattle.std.proofs.Common.{suc, length-append}
use Rattle.std.specs.Prelude.{Option, Some, None, IsSome, filter, All, AllPairs, remove, unwrap_or, is_some}
use Rattle.std.proofs.lemmas.Bool.{cases_Bool, cases_lt, cases_order, cases_eq, ne_eqb, eq-eqb, eqb-true, and_parts, and_from, and_right, cond-true, cond-false}
use Rattle.std.proofs.lemmas.List.{map_push, get_or-map, get_or_default, length-map, take_all}
use Rattle.std.proofs.lemmas.List.Edits.{length-remove, get_or-remove_below, get_or-remove_above}
use Rattle.std.proofs.lemmas.List.Elements.{filter_more}
use Rattle.std.proofs.lemmas.List.Quantifiers.{all_pairs_remove}
use Rattle.symbol_table.specs.declared.kept.KeptPlace.{KeptPlace}
use Rattle.sym_handles.specs.declared.records.Record.{Record}
use Rattle.sym_handles.specs.declared.entries.Entry.{Entry}
use Rattle.sym_handles.specs.Kept.{KeptHandle, moved_handle, without}
use Rattle.std.specs.List.Sorted.{IsNonDecreasingBy}
use Rattle.symbol_table.proofs.OnlyOne.{find-none, find-only}
use Rattle.sym_handles.specs.Found.{is_handle, kept_handle, IsHandleAt}
use Rattle.sym_handles.specs.Records.{IsAt, Slots, record_in, held, all_held, is_live, live_among, live_in, stored_count, IsIndex, moved_record}

map_same : {X Y : Type 0} (f g : X → Y) (xs : List X) → ((k : ℕ) (d : X) → k < length xs → f (get_or xs k d) ≡ g (get_or xs k d)) → map f xs ≡ map g xs
map_same f g [] same = refl
map_same f g (x ∷ xs) same =
    let first : f x ≡ g x = same 0 x (omega arith) in
    let rest = map_same f g xs (λ k d h. same (suc k) d (omega (arith, h))) in
    cc

filter_all : {X : Type 0} (p : X → Bool) (xs : List X) → ((k : ℕ) (d : X) → k < length xs → p (get_or xs k d) ≡ true) → filter p xs ≡ xs
filter_all p [] all = refl
filter_all p (x ∷ xs) all = let t : p x ≡ true = all 0 x (omega arith) in rw t (ap (λ ys. x ∷ ys) (filter_all p xs (λ k d h. all (suc k) d (omega (arith, h)))))

-- where one element fails, a filter takes it out
filter_one : {X : Type 0} (p : X → Bool) (xs : List X) (i : ℕ) (d : X) → i < length xs → p (get_or xs i d) ≡ false
    → ((k : ℕ) (e : X) → k < length xs → k ≢ i → p (get_or xs k e) ≡ true) → filter p xs ≡ remove xs i
filter_one p [] i d h fails others = absurd (omega (arith, h))
filter_one p (x ∷ xs) zero d h fails others = rw fails (filter_all p xs (λ k e l. others (suc k) e (omega (arith, l)) (λ z. omega (arith, z))))
filter_one p (x ∷ xs) (suc i) d h fails others =
    let t : p x ≡ true = others 0 x (omega arith) (λ z. omega (arith, z)) in
    rw t (ap (λ ys. x ∷ ys) (filter_one p xs i d (omega (arith, h)) fails (λ k e l ne. others (suc k) e (omega (arith, l)) (λ z. ne (omega (arith, z))))))

length-filter-remove : {X : Type 0} (p : X → Bool) (xs : List X) (i : ℕ) (d : X) → i < length xs
    → length (filter p (remove xs i)) + cond (p (get_or xs i d)) 1 0 ≡ length (filter p xs)
length-filter-remove p [] i d h = absurd (omega (arith, h))
length-filter-remove p (x ∷ xs) zero d h = elim (cases_Bool (p x)) [ inl t ↦ rw t (omega arith) | inr f ↦ rw f (omega arith) ]
length-filter-remove p (x ∷ xs) (suc i) d h =
    let rest = length-filter-remove p xs i d (omega (arith, h)) in
    elim (cases_Bool (p x)) [ inl t ↦ rw t (omega (arith, rest)) | inr f ↦ rw f rest ]

filter-map : {X Y : Type 0} (f : X → Y) (p : Y → Bool) (xs : List X) → filter p (map f xs) ≡ map f (filter (λ x. p (f x)) xs)
filter-map f p [] = refl
filter-map f p (x ∷ xs) = elim (cases_Bool (p (f x))) [ inl t ↦ rw t (ap (λ ys. f x ∷ ys) (filter-map f p xs)) | inr t ↦ rw t (filter-map f p xs) ]

-- each element of a list with one taken out stood elsewhere in it
stood : {X : Type 0} (xs : List X) (i k : ℕ) (d : X) → i < length xs → k < length (remove xs i)
    → (j : ℕ) × (j < length xs) × (j ≢ i) × (get_or (remove xs i) k d ≡ get_or xs j d)
stood xs i k d inside h =
    let n = length-remove xs i inside in
    elim (cases_lt k i) [
      | inl low ↦ (k, omega (arith, low, inside), (λ e. omega (arith, e, low)), get_or-remove_below xs i d k low inside)
      | inr high ↦ (k + 1, omega (arith, h, n), (λ e. omega (arith, e, high)), get_or-remove_above xs i d k high inside)
    ]

-- a slot that other entries do not name
abbrev pub OthersStay : Slots → Slots → ℕ → Type 0
OthersStay old new key = (other : ℕ) → other ≢ key → get_or new other None ≡ get_or old other None

held-same : (old new : Slots) (e : Entry) → get_or new e.key None ≡ get_or old e.key None → held new e ≡ held old e
held-same old new e same = ap (λ (o : Option Record). shown o) same
  where
    shown : Option Record → KeptHandle
    shown o = record {
      number = e.handle;
      port = (unwrap_or o (record { port = 0; place = None })).port;
      place = (unwrap_or o (record { port = 0; place = None })).place;
    }

keys_differ : (entries : List Entry) (i j : ℕ) (d : Entry) → AllPairs (λ (e f : Entry). e.key ≢ f.key) entries → i < length entries → j < length entries → i ≢ j
    → (get_or entries i d).key ≢ (get_or entries j d).key
keys_differ entries i j d apart in_i in_j ne =
    elim (cases_order i j) [
      | inl e ↦ absurd (ne e)
      | inr o ↦ elim o [ inl l ↦ apart i j d l in_j | inr l ↦ λ e. apart j i d l in_i (sym e) ]
    ]

handles_differ : (entries : List Entry) (i j : ℕ) (d : Entry)
    → AllPairs (λ (e f : Entry). e.handle < f.handle) entries → i < length entries → j < length entries → i ≢ j
    → (get_or entries i d).handle ≢ (get_or entries j d).handle
handles_differ entries i j d rises in_i in_j ne =
    elim (cases_order i j) [
      | inl e ↦ absurd (ne e)
      | inr o ↦ elim o [
        | inl l ↦ let up = rises i j d l in_j in λ e. omega (arith, e, up)
        | inr l ↦ let up = rises j i d l in_i in λ e. omega (arith, e, up)
      ]
    ]

some-none : {X : Type 0} (o : Option X) → IsSome o → o ≡ None → ⊥
some-none None s e = cc
some-none (Some x) s e = cc

-- one more

pub all_held-added : (old new : Slots) (entries : List Entry) (e : Entry) (r : Record) → IsIndex old entries
    → get_or old e.key None ≡ None → get_or new e.key None ≡ Some r → OthersStay old new e.key
    → all_held new (entries ++ e ∷ []) ≡ all_held old entries ++ record { number = e.handle; port = r.port; place = r.place } ∷ []
all_held-added old new entries e r index vacant filled others =
    let before = map_same (held new) (held old) entries (λ k d h.
    let key = (get_or entries k d).key in
    held-same old new (get_or entries k d)
    (others key (λ same. some-none (get_or old key None) (index.filled k d h) (ap (λ (i : ℕ). get_or old i None) same ∙ vacant)))) in
    let last : held new e ≡ record { number = e.handle; port = r.port; place = r.place } = ap shown filled in
    map_push (held new) entries e ∙ ap (λ hs. hs ++ held new e ∷ []) before ∙ ap (λ (h : KeptHandle). all_held old entries ++ h ∷ []) last
  where
    shown : Option Record → KeptHandle
    shown o = record {
      number = e.handle;
      port = (unwrap_or o (record { port = 0; place = None })).port;
      place = (unwrap_or o (record { port = 0; place = None })).place;
    }

-- one less

pub index-removed : (old new : Slots) (entries : List Entry) (i : ℕ) (d : Entry)
    → IsIndex old entries → i < length entries → OthersStay old new (get_or entries i d).key
    → stored_count new + 1 ≡ stored_count old → IsIndex new (remove entries i)
index-removed old new entries i d index inside others one_less = record {
  filled = λ k e h.
      let s = stood entries i k e inside h in
      let same = get_or_default entries i d e inside in
      let ne : (get_or entries s.0 e).key ≢ (get_or entries i d).key =
      λ z. keys_differ entries s.0 i e index.apart s.1 inside s.2 (z ∙ ap (λ (x : Entry). x.key) same) in
      let there = subst (λ (o : Option Record). IsSome o) (sym (others (get_or entries s.0 e).key ne)) (index.filled s.0 e s.1) in
      subst (λ (x : Entry). IsSome (get_or new x.key None)) (sym s.3) there;
  no_other = let n = length-remove entries i inside in let before = index.no_other in omega (arith, n, before, one_less);
  apart = all_pairs_remove (λ (e f : Entry). e.key ≢ f.key) entries i inside index.apart;
  rises = all_pairs_remove (λ (e f : Entry). e.handle < f.handle) entries i inside index.rises;
}

pub all_held-removed : (old new : Slots) (entries : List Entry) (i : ℕ) (d : Entry)
    → IsIndex old entries → i < length entries → OthersStay old new (get_or entries i d).key
    → all_held new (remove entries i) ≡ without (get_or entries i d).handle (all_held old entries)
all_held-removed old new entries i d index inside others =
    let left = map_same (held new) (held old) (remove entries i) (λ k e h.
    let s = stood entries i k e inside h in
    let same = get_or_default entries i d e inside in
    let ne : (get_or entries s.0 e).key ≢ (get_or entries i d).key =
    λ z. keys_differ entries s.0 i e index.apart s.1 inside s.2 (z ∙ ap (λ (x : Entry). x.key) same) in
    let stays = held-same old new (get_or entries s.0 e) (others (get_or entries s.0 e).key ne) in
    subst (λ (x : Entry). held new x ≡ held old x) (sym s.3) stays) in
    let itself = eq-eqb (get_or entries i d).handle (get_or entries i d).handle refl in
    let taken : not ((get_or entries i d).handle == (get_or entries i d).handle) ≡ false = rw itself refl in
    let one = filter_one (λ (e : Entry). not (e.handle == (get_or entries i d).handle)) entries i d inside taken (λ k e h ne.
    let same = get_or_default entries i d e inside in
    let differ = ne_eqb (get_or entries k e).handle (get_or entries i d).handle
    (λ z. handles_differ entries k i e index.rises h inside ne (z ∙ ap (λ (x : Entry). x.handle) same)) in
    rw differ refl) in
    left ∙ ap (map (held old)) (sym one) ∙ sym (filter-map (held old) (λ (h : KeptHandle). not (h.number == (get_or entries i d).handle)) entries)

pub live_among-removed : (old : Slots) (entries : List Entry) (i : ℕ) (d : Entry) → IsIndex old entries → i < length entries
    → live_among (without (get_or entries i d).handle (all_held old entries)) + live_in
    (record_in old (get_or entries i d).key) ≡ live_among (all_held old entries)
live_among-removed old entries i d index inside =
    let hs = all_held old entries in
    let n = length-map entries (held old) in
    let inside' : i < length hs = omega (arith, inside, n) in
    let at_i = get_or-map (held old) entries i d (held old d) inside in
    let itself = eq-eqb (get_or entries i d).handle (get_or entries i d).handle refl in
    let p : KeptHandle → Bool = λ h. not (h.number == (get_or entries i d).handle) in
    let taken : p (get_or hs i (held old d)) ≡ false = rw at_i (rw itself refl) in
    let one = filter_one p hs i (held old d) inside' taken (λ k e h ne.
    let in_k : k < length entries = omega (arith, h, n) in
    let at_k = get_or-map (held old) entries k d e in_k in
    let differ = ne_eqb (get_or entries k d).handle (get_or entries i d).handle (handles_differ entries k i d index.rises in_k inside ne) in
    rw at_k (rw differ refl)) in
    let count = length-filter-remove is_live hs i (held old d) inside' in
    let here : cond (is_live (get_or hs i (held old d))) 1 0 ≡ live_in (record_in old (get_or entries i d).key) =
    ap (λ (h : KeptHandle). cond (is_live h) 1 0) at_i in
    let same = ap live_among one in
    omega (arith, count, here, same)

pub all-removed : (P : Entry → Type 0) (entries : List Entry) (i : ℕ) → i < length entries → All P entries → All P (remove entries i)
all-removed P entries i inside all = λ k d h. let s = stood entries i k d inside h in subst P (sym s.3) (all s.0 d s.1)

-- handles that rise by place do not fall
pub non_decreasing : (entries : List Entry) → AllPairs (λ (e f : Entry). e.handle < f.handle) entries → IsNonDecreasingBy (λ (e : Entry). e.handle) entries
non_decreasing entries rises i j d h l =
    elim (cases_order i j) [
      | inl e ↦ subst (λ (n : ℕ). (get_or entries i d).handle ≤ (get_or entries n d).handle) e (omega arith)
      | inr o ↦ elim o [ inl low ↦ let up = rises i j d low l in omega (arith, up) | inr high ↦ absurd (omega (arith, h, high)) ]
    ]

-- what is held at a place, and its number

held_at : (slots : Slots) (entries : List Entry) (i : ℕ) (d : Entry) (e : KeptHandle)
    → i < length entries → get_or (all_held slots entries) i e ≡ held slots (get_or entries i d)
held_at slots entries i d e inside = get_or-map (held slots) entries i d e inside

handle_at : (slots : Slots) (entries : List Entry) (hs : List KeptHandle) (i handle : ℕ)
    → all_held slots entries ≡ hs → i < length entries → ((e : KeptHandle) → (get_or hs i e).number ≡ handle)
    → (d : Entry) → (get_or entries i d).handle ≡ handle
handle_at slots entries hs i handle same inside number d =
    let e = held slots d in
    ap (λ (h : KeptHandle). h.number) (sym (held_at slots entries i d e inside) ∙ ap (λ (xs : List KeptHandle). get_or xs i e) same) ∙ number e

-- what is left is all but the handle of this number
pub left_is : (slots : Slots) (entries : List Entry) (hs left : List KeptHandle) (handle port i : ℕ) → all_held slots entries ≡ hs → IsHandleAt hs handle port i
    → ((d : Entry) → left ≡ without (get_or entries i d).handle (all_held slots entries)) → left ≡ without handle hs
left_is slots entries hs left handle port i same is_at gone =
    let e : Entry = record { handle = 0; key = 0 } in
    let n = length-map entries (held slots) in
    let m = ap length same in
    let inside : i < length entries = omega (arith, is_at.inside, n, m) in
    gone e ∙ ap (λ (k : ℕ). without k (all_held slots entries)) (handle_at slots entries hs i handle same inside is_at.number e) ∙ ap (without handle) same

is_handle-number : (handle port : ℕ) (h : KeptHandle) → is_handle handle port h ≡ true → (h.number ≡ handle) × (h.port ≡ port)
is_handle-number handle port h t = let p = and_parts (h.number == handle) (h.port == port) t in (eqb-true _ _ p.0, eqb-true _ _ p.1)

pub not_there : (slots : Slots) (entries : List Entry) (handle port : ℕ)
    → All (λ (e : Entry). e.handle ≢ handle) entries → kept_handle handle port (all_held slots entries) ≡ None
not_there slots entries handle port none = find-none (is_handle handle port) (all_held slots entries) (λ k d h t.
    let n = length-map entries (held slots) in
    let inside : k < length entries = omega (arith, h, n) in
    let e : Entry = record { handle = 0; key = 0 } in
    let here = ap (λ (x : KeptHandle). x.number) (held_at slots entries k e d inside) in
    none k e inside (sym here ∙ (is_handle-number handle port (get_or (all_held slots entries) k d) t).0))

-- the handle of this number is the only one
this_one : (slots : Slots) (entries : List Entry) (handle port i : ℕ) (d : KeptHandle) → IsIndex slots entries → IsAt entries handle i
    → kept_handle handle port (all_held slots entries) ≡ cond
    (is_handle handle port (get_or (all_held slots entries) i d)) (Some (get_or (all_held slots entries) i d)) None
this_one slots entries handle port i d index is_at = find-only (is_handle handle port) (all_held slots entries) i d (omega (arith, is_at.inside, n)) (λ k e h t.
    let inside : k < length entries = omega (arith, h, n) in
    let here = ap (λ (x : KeptHandle). x.number) (held_at slots entries k x0 e inside) in
    let is_k : (get_or entries k x0).handle ≡ handle = sym here ∙ (is_handle-number handle port (get_or (all_held slots entries) k e) t).0 in
    elim (cases_eq k i) [
      | inl z ↦ z
      | inr ne ↦ absurd (handles_differ entries k i x0 index.rises inside is_at.inside ne (is_k ∙ sym (is_at.is x0)))
    ])
  where
    n : length (all_held slots entries) ≡ length entries
    n = length-map entries (held slots)

    x0 : Entry
    x0 = record { handle = 0; key = 0 }

number_at : (slots : Slots) (entries : List Entry) (handle i : ℕ) → IsAt entries handle i
    → (d : KeptHandle) → (get_or (all_held slots entries) i d).number ≡ handle
number_at slots entries handle i is_at d =
    let e : Entry = record { handle = 0; key = 0 } in ap (λ (x : KeptHandle). x.number) (held_at slots entries i e d is_at.inside) ∙ is_at.is e

pub found_here : (slots : Slots) (entries : List Entry) (handle port i : ℕ) → IsIndex slots entries
    → IsAt entries handle i → ((d : KeptHandle) → (get_or (all_held slots entries) i d).port ≡ port)
    → IsHandleAt (all_held slots entries) handle port i
found_here slots entries handle port i index is_at same = record {
  inside = let n = length-map entries (held slots) in omega (arith, is_at.inside, n);
  found = λ d.
      let h = get_or (all_held slots entries) i d in
      let t : is_handle handle port h ≡ true =
      and_from (h.number == handle) (h.port == port) (eq-eqb _ _ (number_at slots entries handle i is_at d)) (eq-eqb _ _ (same d)) in
      this_one slots entries handle port i d index is_at ∙ cond-true (is_handle handle port h) (Some h) None t;
  port = same;
  number = number_at slots entries handle i is_at;
}

pub other_port : (slots : Slots) (entries : List Entry) (handle port i : ℕ) (d : KeptHandle)
    → IsIndex slots entries → IsAt entries handle i → (get_or (all_held slots entries) i d).port ≢ port
    → kept_handle handle port (all_held slots entries) ≡ None
other_port slots entries handle port i d index is_at ne =
    let h = get_or (all_held slots entries) i d in
    let f : is_handle handle port h ≡ false = and_right (h.number == handle) (h.port == port) (ne_eqb _ _ ne) in
    this_one slots entries handle port i d index is_at ∙ cond-false (is_handle handle port h) (Some h) None f

-- all moved, up to a place

pub record HasMoved (kept : List KeptPlace) (entries : List Entry) (old now : Slots) (count live : ℕ) : Type 0 where
  pub done : (k : ℕ) (d : Entry) → k < count → k < length entries → held now (get_or entries k d) ≡ moved_handle kept (held old (get_or entries k d))
  pub left : (k : ℕ) (d : Entry) → count ≤ k → k < length entries → held now (get_or entries k d) ≡ held old (get_or entries k d)
  pub filled : All (λ (e : Entry). IsSome (get_or now e.key None)) entries
  pub no_more : stored_count now ≡ stored_count old
  pub counted : live ≡ live_among (take count (map (moved_handle kept) (all_held old entries)))
  pub bound : live ≤ count

pub moved_none : (kept : List KeptPlace) (entries : List Entry) (old : Slots) → IsIndex old entries → HasMoved kept entries old old 0 0
moved_none kept entries old index =
    record { done = λ k d h l. absurd (omega (arith, h)); left = λ k d h l. refl; filled = index.filled; no_more = refl; counted = refl; bound = omega arith }

held-moved : (kept : List KeptPlace) (now new : Slots) (e : Entry)
    → get_or new e.key None ≡ Some (moved_record kept (record_in now e.key)) → held new e ≡ moved_handle kept (held now e)
held-moved kept now new e set = ap shown set
  where
    shown : Option Record → KeptHandle
    shown o = record {
      number = e.handle;
      port = (unwrap_or o (record { port = 0; place = None })).port;
      place = (unwrap_or o (record { port = 0; place = None })).place;
    }

pub moved_more : (kept : List KeptPlace) (entries : List Entry) (old now new : Slots) (i live : ℕ) (d : Entry)
    → IsIndex old entries → HasMoved kept entries old now i live → i < length entries
    → get_or new (get_or entries i d).key None ≡ Some (moved_record kept (record_in now (get_or entries i d).key)) → OthersStay now new (get_or entries i d).key
    → stored_count new ≡ stored_count now → HasMoved kept entries old new (i + 1) (live + live_in (moved_record kept (record_in now (get_or entries i d).key)))
moved_more kept entries old now new i live d index before inside set others same_count = record {
  done = λ k e h l. elim (cases_eq k i) [
    | inl z ↦ subst (λ (x : Entry). held new x ≡ moved_handle kept (held old x))
        (sym (ap (λ (n : ℕ). get_or entries n e) z ∙ get_or_default entries i e d inside)) here
    | inr ne ↦ stays k e l ne ∙ before.done k e (omega (arith, h, ne)) l
  ];
  left = λ k e h l. let ne : k ≢ i = λ z. omega (arith, z, h) in stays k e l ne ∙ before.left k e (omega (arith, h)) l;
  filled = λ k e l. elim (cases_eq k i) [
    | inl z ↦ subst (λ (x : Entry). IsSome (get_or new x.key None))
        (sym (ap (λ (n : ℕ). get_or entries n e) z ∙ get_or_default entries i e d inside)) (subst (λ (o : Option Record). IsSome o) (sym set) refl)
    | inr ne ↦ subst (λ (o : Option Record). IsSome o) (sym (others (get_or entries k e).key (differs k e l ne))) (before.filled k e l)
  ];
  no_more = same_count ∙ before.no_more;
  counted =
      let hs = map (moved_handle kept) (all_held old entries) in
      let n = length-map (all_held old entries) (moved_handle kept) in
      let m = length-map entries (held old) in
      let inside' : i < length hs = omega (arith, inside, n, m) in
      let at_i = get_or-map (moved_handle kept) (all_held old entries) i (held old d) (moved_handle kept (held old d)) (omega (arith, inside, m))
      ∙ ap (moved_handle kept) (get_or-map (held old) entries i d (held old d) inside) in
      let more = ap length (filter_more is_live hs i (moved_handle kept (held old d)) inside') in
      let both = length-append (filter is_live (take i hs))
      (cond (is_live (get_or hs i (moved_handle kept (held old d)))) (get_or hs i (moved_handle kept (held old d)) ∷ []) []) in
      let one : length (cond (is_live (get_or hs i (moved_handle kept (held old d)))) (get_or hs i (moved_handle kept (held old d)) ∷ []) [])
      ≡ live_in (moved_record kept (record_in now (get_or entries i d).key)) =
      counts (get_or hs i (moved_handle kept (held old d)))
      ∙ ap (λ (h : KeptHandle). cond (is_live h) 1 0) (at_i ∙ sym here ∙ held-moved kept now new (get_or entries i d) set) in
      let c = before.counted in
      omega (arith, more, both, one, c);
  bound = let b = before.bound in let f = at_most_one (is_some (moved_record kept (record_in now (get_or entries i d).key)).place) in omega (arith, b, f);
}
  where
    at_most_one : (b : Bool) → cond b 1 0 ≤ 1
    at_most_one true = omega arith
    at_most_one false = omega arith

    counts : (h : KeptHandle) → length (cond (is_live h) (h ∷ []) []) ≡ cond (is_live h) 1 0
    counts h = elim (cases_Bool (is_live h)) [ inl t ↦ rw t refl | inr t ↦ rw t refl ]

    differs : (k : ℕ) (e : Entry) → k < length entries → k ≢ i → (get_or entries k e).key ≢ (get_or entries i d).key
    differs k e l ne = λ z. keys_differ entries k i e index.apart l inside ne (z ∙ ap (λ (x : Entry). x.key) (get_or_default entries i d e inside))

    stays : (k : ℕ) (e : Entry) → k < length entries → k ≢ i → held new (get_or entries k e) ≡ held now (get_or entries k e)
    stays k e l ne = held-same now new (get_or entries k e) (others (get_or entries k e).key (differs k e l ne))

    here : held new (get_or entries i d) ≡ moved_handle kept (held old (get_or entries i d))
    here = held-moved kept now new (get_or entries i d) set ∙ ap (moved_handle kept) (before.left i d (omega arith) inside)

pub moved_all : (kept : List KeptPlace) (entries : List Entry) (old now : Slots) (n live : ℕ) → length entries ≤ n
    → HasMoved kept entries old now n live → all_held now entries ≡ map (moved_handle kept) (all_held old entries)
moved_all kept entries old now n live all moved =
    map_same (held now) (λ (e : Entry). moved_handle kept (held old e)) entries (λ k d h. moved.done k d (omega (arith, h, all)) h) ∙ sym (map-map entries)
  where
    map-map : (es : List Entry) → map (moved_handle kept) (map (held old) es) ≡ map (λ (e : Entry). moved_handle kept (held old e)) es
    map-map [] = refl
    map-map (e ∷ es) = ap (λ (hs : List KeptHandle). moved_handle kept (held old e) ∷ hs) (map-map es)

pub index_after : (old now : Slots) (entries : List Entry) → IsIndex old entries → All (λ (e : Entry). IsSome (get_or now e.key None)) entries
    → stored_count now ≡ stored_count old → IsIndex now entries
index_after old now entries index filled same_count =
    record { filled = filled; no_other = same_count ∙ index.no_other; apart = index.apart; rises = index.rises }

-- they are the live ones among all
pub live_all : (kept : List KeptPlace) (entries : List Entry) (old now : Slots) (n live : ℕ)
    → length entries ≤ n → HasMoved kept entries old now n live → live ≡ live_among (all_held now entries)
live_all kept entries old now n live all moved =
    let a = length-map (all_held old entries) (moved_handle kept) in
    let b = length-map entries (held old) in
    let whole = take_all n (map (moved_handle kept) (all_held old entries)) (omega (arith, a, b, all)) in
    moved.counted ∙ ap live_among whole ∙ ap live_among (sym (moved_all kept entries old now n live all moved))
