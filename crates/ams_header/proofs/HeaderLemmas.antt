-- A header's fields, read and written.
use Rattle.std.proofs.Common.{◌≡◌, ℕ, List, [], ◌∷◌, ◌++◌, length, get_or, refl, sym, ap, subst, ◌∙◌, arith}
use Rattle.spec_formats.specs.Numbers.{number16, number32}
use Rattle.spec_formats.specs.Header.{AmsAddress, AmsHeader, address_at, header_bytes, payload_of}
use Rattle.spec_formats.proofs.HeaderLemmas.{header_at}

-- the header whose fields were read
pub header_at-is : (ams : List ℕ) (t s : AmsAddress) (c f l e i : ℕ) → t ≡ address_at 0 ams → s ≡ address_at 8 ams
    → c ≡ number16 16 ams → f ≡ number16 18 ams → l ≡ number32 20 ams → e ≡ number32 24 ams → i ≡ number32 28 ams
    → header_at ams ≡ record { target = t; source = s; command = c; flags = f; len = l; error = e; id = i }
header_at-is ams t s c f l e i et es ec ef el ee ei = rw (et, es, ec, ef, el, ee, ei) refl

-- a list of a known length is its cells
two : (P : List ℕ → Type 0) (l : List ℕ) → length l ≡ 2 → ((a b : ℕ) → P (a ∷ b ∷ [])) → P l
two P (a ∷ b ∷ []) len p = p a b
two P _ len p = absurd (omega arith)

four : (P : List ℕ → Type 0) (l : List ℕ) → length l ≡ 4 → ((a b c d : ℕ) → P (a ∷ b ∷ c ∷ d ∷ [])) → P l
four P (a ∷ b ∷ c ∷ d ∷ []) len p = p a b c d
four P _ len p = absurd (omega arith)

eight : (P : List ℕ → Type 0) (l : List ℕ) → length l ≡ 8
    → ((a b c d e f g h : ℕ) → P (a ∷ b ∷ c ∷ d ∷ e ∷ f ∷ g ∷ h ∷ [])) → P l
eight P (a ∷ b ∷ c ∷ d ∷ e ∷ f ∷ g ∷ h ∷ []) len p = p a b c d e f g h
eight P _ len p = absurd (omega arith)

pub two_cells : (l : List ℕ) → length l ≡ 2 → l ≡ get_or l 0 0 ∷ get_or l 1 0 ∷ []
two_cells l len = two (λ x. x ≡ get_or x 0 0 ∷ get_or x 1 0 ∷ []) l len (λ a b. refl)

pub four_cells : (l : List ℕ) → length l ≡ 4 → l ≡ get_or l 0 0 ∷ get_or l 1 0 ∷ get_or l 2 0 ∷ get_or l 3 0 ∷ []
four_cells l len = four (λ x. x ≡ get_or x 0 0 ∷ get_or x 1 0 ∷ get_or x 2 0 ∷ get_or x 3 0 ∷ []) l len (λ a b c d. refl)

pub eight_cells : (l : List ℕ) → length l ≡ 8 → l ≡ get_or l 0 0 ∷ get_or l 1 0 ∷ get_or l 2 0 ∷ get_or l 3 0 ∷ get_or l 4 0
    ∷ get_or l 5 0 ∷ get_or l 6 0 ∷ get_or l 7 0 ∷ []
eight_cells l len = eight (λ x. x ≡ get_or x 0 0 ∷ get_or x 1 0 ∷ get_or x 2 0 ∷ get_or x 3 0 ∷ get_or x 4 0
    ∷ get_or x 5 0 ∷ get_or x 6 0 ∷ get_or x 7 0 ∷ []) l len (λ a b c d e f g h. refl)

abbrev cells : List ℕ → List ℕ → List ℕ → List ℕ → List ℕ → List ℕ → List ℕ → List ℕ
cells t s c f l e i =
    get_or t 0 0 ∷ get_or t 1 0 ∷ get_or t 2 0 ∷ get_or t 3 0 ∷ get_or t 4 0 ∷ get_or t 5 0 ∷ get_or t 6 0 ∷ get_or t 7 0
    ∷ get_or s 0 0 ∷ get_or s 1 0 ∷ get_or s 2 0 ∷ get_or s 3 0 ∷ get_or s 4 0 ∷ get_or s 5 0 ∷ get_or s 6 0 ∷ get_or s 7 0
    ∷ get_or c 0 0 ∷ get_or c 1 0 ∷ get_or f 0 0 ∷ get_or f 1 0
    ∷ get_or l 0 0 ∷ get_or l 1 0 ∷ get_or l 2 0 ∷ get_or l 3 0
    ∷ get_or e 0 0 ∷ get_or e 1 0 ∷ get_or e 2 0 ∷ get_or e 3 0
    ∷ get_or i 0 0 ∷ get_or i 1 0 ∷ get_or i 2 0 ∷ get_or i 3 0 ∷ []

-- the cells of seven fields are the fields one after another
pub joined : (t s c f l e i : List ℕ) → length t ≡ 8 → length s ≡ 8 → length c ≡ 2 → length f ≡ 2 → length l ≡ 4 → length e ≡ 4 → length i ≡ 4
    → cells t s c f l e i ≡ t ++ s ++ c ++ f ++ l ++ e ++ i
joined t s c f l e i lt ls lc lf ll le li =
    eight (λ x. cells x s c f l e i ≡ x ++ s ++ c ++ f ++ l ++ e ++ i) t lt (λ t0 t1 t2 t3 t4 t5 t6 t7.
    let t' = t0 ∷ t1 ∷ t2 ∷ t3 ∷ t4 ∷ t5 ∷ t6 ∷ t7 ∷ [] in
    eight (λ x. cells t' x c f l e i ≡ t' ++ x ++ c ++ f ++ l ++ e ++ i) s ls (λ s0 s1 s2 s3 s4 s5 s6 s7.
    let s' = s0 ∷ s1 ∷ s2 ∷ s3 ∷ s4 ∷ s5 ∷ s6 ∷ s7 ∷ [] in
    two (λ x. cells t' s' x f l e i ≡ t' ++ s' ++ x ++ f ++ l ++ e ++ i) c lc (λ c0 c1.
    two (λ x. cells t' s' (c0 ∷ c1 ∷ []) x l e i ≡ t' ++ s' ++ (c0 ∷ c1 ∷ []) ++ x ++ l ++ e ++ i) f lf (λ f0 f1.
    let m = t' ++ s' ++ (c0 ∷ c1 ∷ []) ++ (f0 ∷ f1 ∷ []) in
    four (λ x. cells t' s' (c0 ∷ c1 ∷ []) (f0 ∷ f1 ∷ []) x e i ≡ m ++ x ++ e ++ i) l ll (λ l0 l1 l2 l3.
    let l' = l0 ∷ l1 ∷ l2 ∷ l3 ∷ [] in
    four (λ x. cells t' s' (c0 ∷ c1 ∷ []) (f0 ∷ f1 ∷ []) l' x i ≡ m ++ l' ++ x ++ i) e le (λ e0 e1 e2 e3.
    let e' = e0 ∷ e1 ∷ e2 ∷ e3 ∷ [] in
    four (λ x. cells t' s' (c0 ∷ c1 ∷ []) (f0 ∷ f1 ∷ []) l' e' x ≡ m ++ l' ++ e' ++ x) i li (λ i0 i1 i2 i3. refl)))))))

-- the text that stands in front of what is left
pub text_in_front : (ams rest : List ℕ) (read h : AmsHeader) → header_bytes read ++ payload_of ams ≡ ams → read ≡ h → rest ≡ payload_of ams
    → ams ≡ header_bytes h ++ rest
text_in_front ams rest read h text same left = subst (λ (x : AmsHeader). ams ≡ header_bytes x ++ rest) same
    (sym text ∙ ap (λ (l : List ℕ). header_bytes read ++ l) (sym left))
