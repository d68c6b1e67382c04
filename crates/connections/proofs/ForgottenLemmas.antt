-- Outlets stand also for the connections without those that are gone, and for connections that all change in their place.
use Rattle.std.proofs.Common.{◌≡◌, ℕ, List, [], ◌∷◌, map, Bool, true, false, refl, sym, ap, ◌∙◌, subst, inl, inr}
use Rattle.std.specs.Prelude.{◌==◌, ◌||◌, filter, is_some, option_map, None}
use Rattle.std.proofs.lemmas.Bool.{cases_Bool, cases_eq, cond-true, cond-false, false≢true}
use Rattle.spec_machine.specs.Connection.{Connection, connection_of}
use Rattle.spec_machine.specs.Offers.{is_among}
use Rattle.spec_machine.proofs.Find.{test_other, connection_of-map}
use Rattle.ads_served.specs.Opened.{AreApart}
use Rattle.connections.specs.Present.{present}
use Rattle.connections.specs.Outlets.{Outlets}
use Rattle.connections.specs.Carries.{EachOutlet, EachMarked, Carries}
use Rattle.connections.proofs.StateLemmas.{present-gone, present-there, connection_of-same, connection_of-other, none_behind, number_differs}

among_kept : (p : ℕ → Bool) (n : ℕ) (bs : List ℕ) → p n ≡ true → is_among n (filter p bs) ≡ is_among n bs
among_kept p n [] e = refl
among_kept p n (b ∷ bs) e = elim (cases_eq b n) [
  | inl same ↦ ap (is_among n) (cond-true (p b) (b ∷ filter p bs) (filter p bs) (ap p same ∙ e)) ∙ ap (λ q. (b == n) || q) (among_kept p n bs e)
  | inr other ↦ elim (cases_Bool (p b)) [
    | inl yes_ ↦ ap (is_among n) (cond-true (p b) (b ∷ filter p bs) (filter p bs) yes_) ∙ ap (λ q. (b == n) || q) (among_kept p n bs e)
    | inr no_ ↦ ap (is_among n) (cond-false (p b) (b ∷ filter p bs) (filter p bs) no_)
        ∙ among_kept p n bs e ∙ ap (λ q. q || is_among n bs) (sym (test_other b n other))
  ]
]

among_dropped : (p : ℕ → Bool) (n : ℕ) (bs : List ℕ) → p n ≡ false → is_among n (filter p bs) ≡ false
among_dropped p n [] e = refl
among_dropped p n (b ∷ bs) e = elim (cases_Bool (p b)) [
  | inl yes_ ↦ ap (is_among n) (cond-true (p b) (b ∷ filter p bs) (filter p bs) yes_)
      ∙ ap (λ q. q || is_among n (filter p bs)) (test_other b n (λ same. false≢true (sym e ∙ ap p (sym same) ∙ yes_))) ∙ among_dropped p n bs e
  | inr no_ ↦ ap (is_among n) (cond-false (p b) (b ∷ filter p bs) (filter p bs) no_) ∙ among_dropped p n bs e
]

module _ {C : Type 0} where
  pub present-twice : (ks : List (Connection C)) → present (present ks) ≡ present ks
  present-twice [] = refl
  present-twice (k ∷ ks) = elim (cases_Bool k.gone) [
    | inl e ↦ ap present (present-gone k ks e) ∙ present-twice ks ∙ sym (present-gone k ks e)
    | inr e ↦ ap present (present-there k ks e) ∙ present-there k (present ks) e ∙ ap (λ ps. k ∷ ps) (present-twice ks) ∙ sym (present-there k ks e)
  ]

  pub none_present : (n : ℕ) (ks : List (Connection C)) → connection_of n ks ≡ None → connection_of n (present ks) ≡ None
  none_present n [] e = e
  none_present n (k ∷ ks) e =
      let rest = none_present n ks (none_behind n k ks e) in
      elim (cases_Bool k.gone) [
        | inl gone ↦ ap (λ (ps : List (Connection C)). connection_of n ps) (present-gone k ks gone) ∙ rest
        | inr there ↦ ap (λ (ps : List (Connection C)). connection_of n ps) (present-there k ks there)
            ∙ connection_of-other n k (present ks) (number_differs n k ks e) ∙ rest
      ]

  apart_present : (ks : List (Connection C)) → AreApart ks → AreApart (present ks)
  apart_present [] apart = apart
  apart_present (k ∷ ks) apart = elim (cases_Bool k.gone) [
    | inl gone ↦ subst AreApart (sym (present-gone k ks gone)) (apart_present ks apart.1)
    | inr there ↦ subst AreApart (sym (present-there k ks there)) (none_present k.number ks apart.0, apart_present ks apart.1)
  ]

  -- each of these is found among all
  abbrev AreFound : List (Connection C) → List (Connection C) → Type 0
  AreFound all [] = Unit {0}
  AreFound all (p ∷ ps) = (is_some (connection_of p.number all) ≡ true) × AreFound all ps

  found_behind : (n : ℕ) (q : Connection C) (all : List (Connection C)) → is_some (connection_of n all) ≡ true → is_some (connection_of n (q ∷ all)) ≡ true
  found_behind n q all e = elim (cases_eq q.number n) [
    | inl same ↦ ap is_some (connection_of-same n q all same)
    | inr other ↦ ap is_some (connection_of-other n q all other) ∙ e
  ]

  all_behind : (q : Connection C) (all ps : List (Connection C)) → AreFound all ps → AreFound (q ∷ all) ps
  all_behind q all [] found = found
  all_behind q all (p ∷ ps) found = (found_behind p.number q all found.0, all_behind q all ps found.1)

  all_found : (ps : List (Connection C)) → AreFound ps ps
  all_found [] = tt
  all_found (p ∷ ps) = (ap is_some (connection_of-same p.number p ps refl), all_behind p ps ps (all_found ps))

  marked_kept : (p : ℕ → Bool) (bs : List ℕ) (es : Outlets) (ps : List (Connection C)) → EachOutlet es ps
      → (all : List (Connection C)) → AreFound all ps → ((n : ℕ) → is_some (connection_of n all) ≡ true → p n ≡ true)
      → EachMarked bs es → EachMarked (filter p bs) es
  marked_kept p bs [] [] each all found keeps marks = marks
  marked_kept p bs [] (k ∷ ks) each all found keeps marks = absurd each
  marked_kept p bs (e ∷ es) [] each all found keeps marks = absurd each
  marked_kept p bs (e ∷ es) (k ∷ ks) each all found keeps marks = (
    marks.0 ∙ sym (among_kept p e.0 bs (ap p each.0.number ∙ keeps k.number found.0)),
    marked_kept p bs es ks each.1 all found.1 keeps marks.1,
  )

  -- those that are gone are forgotten
  pub forgotten : (es : Outlets) (blocked : List ℕ) (ks : List (Connection C)) → Carries es blocked ks
      → Carries es (filter (λ b. is_some (connection_of b (present ks))) blocked) (present ks)
  forgotten es blocked ks c =
      let ps = present ks in
      let is_kept : ℕ → Bool = λ b. is_some (connection_of b ps) in
      record {
        each = subst (λ qs. EachOutlet es qs) (sym (present-twice ks)) c.each;
        apart = apart_present ks c.apart;
        marked = marked_kept is_kept blocked es ps c.each ps (all_found ps) (λ n e. e) c.marked;
        known = λ m none. among_dropped is_kept m blocked (ap is_some none);
      }

  -- all connections change in their place: their numbers stay, and whether they are gone
  pub present-map : (f : Connection C → Connection C) → ((k : Connection C) → (let l = f k in l.gone) ≡ k.gone)
      → (ks : List (Connection C)) → present (map f ks) ≡ map f (present ks)
  present-map f keeps [] = refl
  present-map f keeps (k ∷ ks) = elim (cases_Bool k.gone) [
    | inl gone ↦ present-gone (f k) (map f ks) (keeps k ∙ gone) ∙ present-map f keeps ks ∙ sym (ap (map f) (present-gone k ks gone))
    | inr there ↦ present-there (f k) (map f ks) (keeps k ∙ there) ∙ ap (λ ps. f k ∷ ps) (present-map f keeps ks) ∙ sym (ap (map f) (present-there k ks there))
  ]

  none_mapped : (n : ℕ) (f : Connection C → Connection C) → ((k : Connection C) → (let l = f k in l.number) ≡ k.number)
      → (ks : List (Connection C)) → connection_of n ks ≡ None → connection_of n (map f ks) ≡ None
  none_mapped n f numbers ks e = connection_of-map n f numbers ks ∙ ap (option_map f) e

  pub AreApart-map : (f : Connection C → Connection C) → ((k : Connection C) → (let l = f k in l.number) ≡ k.number)
      → (ks : List (Connection C)) → AreApart ks → AreApart (map f ks)
  AreApart-map f numbers [] apart = apart
  AreApart-map f numbers (k ∷ ks) apart = (
    ap (λ n. connection_of n (map f ks)) (numbers k) ∙ none_mapped k.number f numbers ks apart.0,
    AreApart-map f numbers ks apart.1,
  )

  known_mapped : (n : ℕ) (f : Connection C → Connection C) → ((k : Connection C) → (let l = f k in l.number) ≡ k.number)
      → (ks : List (Connection C)) → connection_of n (map f ks) ≡ None → connection_of n ks ≡ None
  known_mapped n f numbers [] e = e
  known_mapped n f numbers (k ∷ ks) e =
      connection_of-other n k ks (λ same. number_differs n (f k) (map f ks) e (numbers k ∙ same))
      ∙ known_mapped n f numbers ks (none_behind n (f k) (map f ks) e)

  pub mapped : (f : Connection C → Connection C) → ((k : Connection C) → (let l = f k in l.number) ≡ k.number)
      → ((k : Connection C) → (let l = f k in l.gone) ≡ k.gone)
      → (es fs : Outlets) (blocked : List ℕ) (ks : List (Connection C)) → Carries es blocked ks
      → EachOutlet fs (map f (present ks)) → EachMarked blocked fs → Carries fs blocked (map f ks)
  mapped f numbers keeps es fs blocked ks c each marked = record {
    each = subst (λ ps. EachOutlet fs ps) (sym (present-map f keeps ks)) each;
    apart = AreApart-map f numbers ks c.apart;
    marked = marked;
    known = λ m none. c.known m (known_mapped m f numbers ks none);
  }
