-- What is written of an addition is what its form says.
use Rattle.std.proofs.Common.{◌≡◌, inl, inr, true, false, ℕ, ◌^◌, ◌<◌, ◌≤◌, List, [], ◌++◌, length, refl, sym, ◌∙◌, ap, subst, arith}
use Rattle.std.specs.Prelude.{◌⊎◌, Result, Ok, Err, OnOk}
use Rattle.std.specs.Int.{w32, to_le_bytes}
use Rattle.std.proofs.lemmas.List.{append-nil}
use Rattle.std.proofs.lemmas.Nat.{from_le_bytes-to_le_bytes_4}
use Rattle.return_codes.specs.declared.code.Code.{Code}
use Rattle.spec_formats.specs.Numbers.{number32}
use Rattle.spec_formats.specs.Request.{Request}
use Rattle.spec_machine.specs.Acts.{Outcome}
use Rattle.sum_commands.specs.declared.form.Form.{Form}
use Rattle.sum_commands.specs.declared.form.Form.TheVariants as form
use Rattle.sum_commands.specs.Additions.{is_of_additions, addition_of}
use Rattle.sum_commands.specs.Forms.{front_width, part_of}
use Rattle.sum_commands.specs.Parts.{GivesHandle, code_in, handle_in, handle_bytes, written_over}
use Rattle.sum_commands.specs.Packing.{handle_front, front_of, data_of}

-- one of the two forms
pub additions-of : (f : Form) → (f ≡ form.Additions) ⊎ (f ≡ form.ShortAdditions) → is_of_additions f ≡ true
additions-of f (inl e) = ap is_of_additions e
additions-of f (inr e) = ap is_of_additions e

-- what is said of both holds of one of the two
pub by_additions : (P : Form → Type 0) → P form.Additions → P form.ShortAdditions → (f : Form) → is_of_additions f ≡ true → P f
by_additions P long short form.Additions adds = long
by_additions P long short form.ShortAdditions adds = short
by_additions P long short form.Reads adds = absurd (let no : false ≡ true = adds in cc)
by_additions P long short form.Writes adds = absurd (let no : false ≡ true = adds in cc)
by_additions P long short form.ReadWrites adds = absurd (let no : false ≡ true = adds in cc)
by_additions P long short form.ToldReads adds = absurd (let no : false ≡ true = adds in cc)
by_additions P long short form.ShortReads adds = absurd (let no : false ≡ true = adds in cc)
by_additions P long short form.Deletions adds = absurd (let no : false ≡ true = adds in cc)

pub front_width-additions : (f : Form) → is_of_additions f ≡ true → front_width f ≡ 8
front_width-additions = by_additions (λ f. front_width f ≡ 8) refl refl

pub part_of-addition : (f : Form) (heads written : List ℕ) → is_of_additions f ≡ true → part_of f heads written ≡ addition_of heads
part_of-addition f heads written = by_additions (λ x. part_of x heads written ≡ addition_of heads) refl refl f

-- what is said of every such form is said of one, by the part that it is
pub ok-at : {T E S : Type 0} (r : Result T E) (f : Form) → is_of_additions f ≡ true → (stands : S → Type 0) (runs : Form → Request → S → Type 0)
    (part own : Request) → part ≡ own
    → OnOk r ((form : Form) (s : S) → is_of_additions form ≡ true → stands s → runs form part s) → OnOk r ((s : S) → stands s → runs f own s)
ok-at (Ok x) f adds stands runs part own same said = λ s here. subst (λ p. runs f p s) same (said f s adds here)
ok-at (Err e) f adds stands runs part own same said = tt

-- the handle is read in what an addition gave
handle-read : (answer : Result ℕ Code) → handle_in answer < 2 ^ 32 → number32 0 (handle_bytes answer) ≡ handle_in answer
handle-read (Ok handle) fits = from_le_bytes-to_le_bytes_4 handle fits
handle-read (Err code) fits = refl

pub handle_front-answer : (o : Outcome) (answer : Result ℕ Code) → GivesHandle o answer → handle_in answer < 2 ^ 32
    → to_le_bytes w32 (code_in answer) ++ to_le_bytes w32 (handle_in answer) ≡ handle_front o
handle_front-answer o answer gives fits =
    let handle : handle_in answer ≡ number32 0 o.bytes = sym (ap (number32 0) gives.bytes ∙ handle-read answer fits) in
    ap (λ c. to_le_bytes w32 c ++ to_le_bytes w32 (handle_in answer)) gives.code
    ∙ ap (λ h. to_le_bytes w32 o.code ++ to_le_bytes w32 h) handle

-- an addition ended so: its result and its data are those of its form
pub record IsAddition (r : Request) (o : Outcome) (at : ℕ) (base out : List ℕ) (form : Form) : Type 0 where
  pub bytes : out ≡ written_over at (front_of form o) (base ++ data_of form r o)
  pub asked : length (data_of form r o) ≤ 0

pub addition-ends : (r : Request) (o : Outcome) (answer : Result ℕ Code) (at : ℕ) (base out : List ℕ) → GivesHandle o answer → handle_in answer < 2 ^ 32
    → out ≡ written_over at (to_le_bytes w32 (code_in answer) ++ to_le_bytes w32 (handle_in answer)) base
    → (f : Form) → is_of_additions f ≡ true → IsAddition r o at base out f
addition-ends r o answer at base out gives fits written =
    let whole : out ≡ written_over at (handle_front o) (base ++ []) =
    written ∙ ap (λ x. written_over at x base) (handle_front-answer o answer gives fits)
    ∙ ap (λ x. written_over at (handle_front o) x) (sym (append-nil base)) in
    by_additions (IsAddition r o at base out) (record { bytes = whole; asked = omega arith }) (record { bytes = whole; asked = omega arith })
