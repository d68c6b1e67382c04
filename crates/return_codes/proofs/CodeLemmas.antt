-- Codes and the table of numbers and texts.
use Rattle.std.proofs.Common.{◌≡◌, ℕ, eqb, List, [], ◌∷◌, map, Some, refl, sym, ap, subst, ◌∙◌, inl, inr}
use Rattle.std.specs.Prelude.{find, option_map}
use Rattle.std.proofs.lemmas.Bool.Decides.{eqb_tells}
use Rattle.return_codes.specs.declared.code.Code.{Code}
use Rattle.return_codes.specs.declared.code.Code.TheVariants.{C6, C7, C8, CB, CE, C700, C701, C702, C703, C704}
use Rattle.return_codes.specs.declared.code.Code.TheVariants.{C705, C706, C710, C711, C713, C714, C716, C717}
use Rattle.return_codes.specs.declared.code.Code.TheVariants.{C744, C745, C754}
use Rattle.spec_formats.specs.Codes.{CodeRow, code_table, text_in}
use Rattle.return_codes.specs.Code.{number_of, all_codes, code_of, text_of, AreInverse, HasCodeWhereText}

code_of-number_of : (code : Code) → code_of (number_of code) ≡ Some code
code_of-number_of C6 = refl
code_of-number_of C7 = refl
code_of-number_of C8 = refl
code_of-number_of CB = refl
code_of-number_of CE = refl
code_of-number_of C700 = refl
code_of-number_of C701 = refl
code_of-number_of C702 = refl
code_of-number_of C703 = refl
code_of-number_of C704 = refl
code_of-number_of C705 = refl
code_of-number_of C706 = refl
code_of-number_of C710 = refl
code_of-number_of C711 = refl
code_of-number_of C713 = refl
code_of-number_of C714 = refl
code_of-number_of C716 = refl
code_of-number_of C717 = refl
code_of-number_of C744 = refl
code_of-number_of C745 = refl
code_of-number_of C754 = refl

found : (n : ℕ) (codes : List Code) (code : Code) → find (λ c. eqb (number_of c) n) codes ≡ Some code → number_of code ≡ n
found n [] code e = absurd cc
found n (c ∷ codes) code e =
    elim (eqb_tells (number_of c) n) [
      | inl same ↦ let is : c ≡ code = cc (rw same.0 at e) in subst (λ (x : Code). number_of x ≡ n) is same.1
      | inr other ↦ found n codes code (rw other.0 at e)
    ]

pub inverse : AreInverse
inverse = (code_of-number_of, λ n code e. found n all_codes code e)

abbrev row_of : Code → CodeRow
row_of code = record { number = number_of code; text = text_of code }

rows : map row_of all_codes ≡ code_table
unfolding text_in
rows = refl

text_in-map : (n : ℕ) (codes : List Code) → text_in n (map row_of codes) ≡ option_map text_of (find (λ c. eqb (number_of c) n) codes)
unfolding text_in
text_in-map n [] = refl
text_in-map n (c ∷ codes) =
    elim (eqb_tells (number_of c) n) [
      | inl same ↦ rw same.0 refl
      | inr other ↦ rw other.0 (text_in-map n codes)
    ]

pub table : HasCodeWhereText
table n = ap (text_in n) (sym rows) ∙ text_in-map n all_codes
