-- What stands under the names of bytes, once one byte is changed.
use Rattle.std.proofs.Common.{◌≡◌, ◌≢◌, ◌⊎◌, ℕ, zero, suc, ◌<◌, List, [], ◌∷◌, length, true, refl, sym, ◌∙◌, ap, inl, inr, subst, arith}
use Rattle.std.specs.Prelude.{None, slice_get, option_map, ◌==◌, ◌&&◌, bytes_eq}
use Rattle.std.proofs.lemmas.Bool.{cases_Bool, and_parts, and_from, eqb-true, eq-eqb, false≢true}
use Rattle.std.proofs.lemmas.Slice.Eq.{bytes_eq-Decides}
use Rattle.spec_plant.specs.Description.{Area, Inputs, Outputs, Memory, Process}
use Rattle.spec_plant.specs.World.{Part, SymbolPart, AreaPart, StatePart, ByteName, Block, is_same_area, is_same_part, is_block_of, block_of, byte_at}
use Rattle.spec_plant.specs.World.{with_nth_byte, with_byte}
use Rattle.spec_plant.specs.Named.{is_same_name}
use Rattle.spec_plant.specs.BlockLaws.{ChangesAreExact, StandsWithinPart, TellsNamesApart}

pub same_bytes : (a b : List ℕ) → bytes_eq a b ≡ true → a ≡ b
same_bytes a b e = let d = bytes_eq-Decides a b in d.0 e

pub same_area-true : (a b : Area) → is_same_area a b ≡ true → a ≡ b
same_area-true Inputs Inputs e = refl
same_area-true Outputs Outputs e = refl
same_area-true Memory Memory e = refl
same_area-true Process Process e = refl
same_area-true a b e = absurd (false≢true e)

pub same_area-refl : (a : Area) → is_same_area a a ≡ true
same_area-refl Inputs = refl
same_area-refl Outputs = refl
same_area-refl Memory = refl
same_area-refl Process = refl

pub same_part-true : (p q : Part) → is_same_part p q ≡ true → p ≡ q
same_part-true (SymbolPart a) (SymbolPart b) e = ap (λ x. SymbolPart x) (same_bytes a b e)
same_part-true (AreaPart a) (AreaPart b) e = ap (λ x. AreaPart x) (same_area-true a b e)
same_part-true StatePart StatePart e = refl
same_part-true p q e = absurd (false≢true e)

pub same_part-refl : (p : Part) → is_same_part p p ≡ true
same_part-refl (SymbolPart a) = let d = bytes_eq-Decides a a in d.1 refl
same_part-refl (AreaPart a) = same_area-refl a
same_part-refl StatePart = refl

-- the block of a name
pub record IsBlock (port : ℕ) (part : Part) (b : Block) : Type 0 where
  pub same_port : b.port ≡ port
  pub same_part : b.part ≡ part

pub is_block-true : (port : ℕ) (part : Part) (b : Block) → is_block_of port part b ≡ true → IsBlock port part b
is_block-true port part b e =
    let p = and_parts (b.port == port) (is_same_part b.part part) e in
    record { same_port = eqb-true b.port port (p.0); same_part = same_part-true b.part part (p.1) }

pub nth-same : (i : ℕ) (f : ℕ → ℕ) (xs : List ℕ) → slice_get (with_nth_byte xs i f) i ≡ option_map f (slice_get xs i)
nth-same i f [] = refl
nth-same zero f (x ∷ xs) = refl
nth-same (suc i) f (x ∷ xs) = nth-same i f xs

pub nth-other : (i j : ℕ) (f : ℕ → ℕ) (xs : List ℕ) → j ≢ i → slice_get (with_nth_byte xs i f) j ≡ slice_get xs j
nth-other i j f [] ne = refl
nth-other zero zero f (x ∷ xs) ne = absurd (ne refl)
nth-other zero (suc j) f (x ∷ xs) ne = refl
nth-other (suc i) zero f (x ∷ xs) ne = refl
nth-other (suc i) (suc j) f (x ∷ xs) ne = nth-other i j f xs (λ e. ne (ap (λ n. suc n) e))

pub byte_at-same : (m : List Block) (n : ByteName) (f : ℕ → ℕ) → byte_at (with_byte m n f) n ≡ option_map f (byte_at m n)
unfolding byte_at with_byte
byte_at-same [] n f = refl
byte_at-same (b ∷ bs) n f =
    elim (cases_Bool (is_block_of n.port n.part b)) [
      | inl t ↦ rw (t, t) (nth-same n.index f b.bytes)
      | inr t ↦ rw (t, t) (byte_at-same bs n f)
    ]

abbrev name_with : ℕ → Part → ℕ → ByteName
name_with port part index = record { port = port; part = part; index = index }

same_name : (n x : ByteName) (b : Block) → is_block_of n.port n.part b ≡ true → is_block_of x.port x.part b ≡ true → n.index ≡ x.index → n ≡ x
same_name n x b t u e =
    let p = is_block-true n.port n.part b t in
    let q = is_block-true x.port x.part b u in
    ap (λ i. name_with i n.part n.index) (sym p.same_port ∙ q.same_port)
    ∙ ap (λ i. name_with x.port i n.index) (sym p.same_part ∙ q.same_part)
    ∙ ap (λ i. name_with x.port x.part i) e

pub byte_at-other : (m : List Block) (n x : ByteName) (f : ℕ → ℕ) → n ≢ x → byte_at (with_byte m n f) x ≡ byte_at m x
unfolding byte_at with_byte
byte_at-other [] n x f ne = refl
byte_at-other (b ∷ bs) n x f ne =
    elim (cases_Bool (is_block_of n.port n.part b)) [
      | inl t ↦ elim (cases_Bool (is_block_of x.port x.part b)) [
        | inl u ↦ rw (t, u) (nth-other n.index x.index f b.bytes (λ e. ne (same_name n x b t u (sym e))))
        | inr u ↦ rw (t, u) refl
      ]
      | inr t ↦ elim (cases_Bool (is_block_of x.port x.part b)) [
        | inl u ↦ rw (t, u) refl
        | inr u ↦ rw (t, u) (byte_at-other bs n x f ne)
      ]
    ]

pub nth-length : (i : ℕ) (f : ℕ → ℕ) (xs : List ℕ) → length (with_nth_byte xs i f) ≡ length xs
nth-length i f [] = refl
nth-length zero f (x ∷ xs) = refl
nth-length (suc i) f (x ∷ xs) = ap (λ n. suc n) (nth-length i f xs)

pub with_byte-length : (m : List Block) (n : ByteName) (f : ℕ → ℕ) (port : ℕ) (part : Part)
    → length (block_of (with_byte m n f) port part) ≡ length (block_of m port part)
unfolding with_byte
with_byte-length [] n f port part = refl
with_byte-length (b ∷ bs) n f port part =
    elim (cases_Bool (is_block_of n.port n.part b)) [
      | inl t ↦ elim (cases_Bool (is_block_of port part b)) [
        | inl u ↦ rw (t, u) (nth-length n.index f b.bytes)
        | inr u ↦ rw (t, u) refl
      ]
      | inr t ↦ elim (cases_Bool (is_block_of port part b)) [
        | inl u ↦ rw (t, u) refl
        | inr u ↦ rw (t, u) (with_byte-length bs n f port part)
      ]
    ]

pub changes_are_exact : ChangesAreExact
changes_are_exact m n f = record {
  here = byte_at-same m n f;
  elsewhere = λ x ne. byte_at-other m n x f ne;
  lengths = λ port part. with_byte-length m n f port part;
}

byte_there : (i : ℕ) (xs : List ℕ) → i < length xs → slice_get xs i ≢ None
byte_there i [] h e = omega (arith, h)
byte_there zero (x ∷ xs) h e = cc
byte_there (suc i) (x ∷ xs) h e = byte_there i xs (omega (arith, h)) e

byte_within : (i : ℕ) (xs : List ℕ) → slice_get xs i ≢ None → i < length xs
byte_within i [] h = absurd (h refl)
byte_within zero (x ∷ xs) h = omega arith
byte_within (suc i) (x ∷ xs) h = let l = byte_within i xs h in omega (arith, l)

pub there_by_length : (m : List Block) (n : ByteName) → n.index < length (block_of m n.port n.part) → byte_at m n ≢ None
unfolding byte_at
there_by_length m n h = byte_there n.index (block_of m n.port n.part) h

pub stands_within_part : StandsWithinPart
unfolding byte_at
stands_within_part m n = (there_by_length m n, λ h. byte_within n.index (block_of m n.port n.part) h)

same_name-true : (a b : ByteName) → is_same_name a b ≡ true → a ≡ b
same_name-true a b t =
    let p = and_parts ((a.port == b.port) && is_same_part a.part b.part) (a.index == b.index) t in
    let q = and_parts (a.port == b.port) (is_same_part a.part b.part) (p.0) in
    ap (λ i. name_with i a.part a.index) (eqb-true a.port b.port (q.0))
    ∙ ap (λ i. name_with b.port i a.index) (same_part-true a.part b.part (q.1))
    ∙ ap (λ i. name_with b.port b.part i) (eqb-true a.index b.index (p.1))

same_name-refl : (a : ByteName) → is_same_name a a ≡ true
same_name-refl a =
    and_from ((a.port == a.port) && is_same_part a.part a.part) (a.index == a.index)
    (and_from (a.port == a.port) (is_same_part a.part a.part) (eq-eqb a.port a.port refl) (same_part-refl a.part)) (eq-eqb a.index a.index refl)

pub tells_names_apart : TellsNamesApart
tells_names_apart a b = (same_name-true a b, λ e. let P : ByteName → Type 0 = λ x. is_same_name a x ≡ true in subst P e (same_name-refl a))

pub cases_name : (n x : ByteName) → (n ≡ x) ⊎ (n ≢ x)
cases_name n x =
    let told = tells_names_apart n x in
    elim (cases_Bool (is_same_name n x)) [
      | inl t ↦ inl (told.0 t)
      | inr t ↦ inr (λ e. false≢true (sym t ∙ told.1 e))
    ]
