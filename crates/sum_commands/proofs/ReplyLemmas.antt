-- The reply of a sum: its results in front, and its data behind them.
use Rattle.std.proofs.Common.{◌≡◌, ℕ, ◌*◌, List, ◌++◌, drop, refl, sym, ◌∙◌, ap}
use Rattle.std.specs.Prelude.{Result, Ok, Err, OnOk}
use Rattle.std.proofs.lemmas.List.{append-nil}
use Rattle.spec_formats.specs.Request.{Request}
use Rattle.spec_machine.specs.Acts.{Outcome}
use Rattle.spec_machine.specs.Sums.{SumRequest, given_in_turn, packed}
use Rattle.sum_commands.specs.declared.form.Form.{Form}
use Rattle.sum_commands.specs.declared.form.Form.TheVariants as form
use Rattle.sum_commands.specs.SumCommand.{sum_reply}
use Rattle.sum_commands.specs.Forms.{sum_in, head_width, parts_of, fronts_in, data_in}

pub sum_reply-parts : {S : Type 0} (given : S → Request → Outcome) (leaves : S → Request → S) (s : S) (form : Form)
    (n : ℕ) (bytes : List ℕ)
    → sum_reply given leaves s (sum_in form n bytes)
    ≡ fronts_in form (given_in_turn given leaves s (parts_of form n bytes (drop (head_width form * n) bytes)))
    ++ data_in form n bytes (given_in_turn given leaves s (parts_of form n bytes (drop (head_width form * n) bytes)))
unfolding packed
sum_reply-parts given leaves s form.Reads n bytes = refl
sum_reply-parts given leaves s form.Writes n bytes = sym (append-nil _)
sum_reply-parts given leaves s form.ReadWrites n bytes = refl
sum_reply-parts given leaves s form.ToldReads n bytes = refl
sum_reply-parts given leaves s form.ShortReads n bytes = refl
sum_reply-parts given leaves s form.Additions n bytes = sym (append-nil _)
sum_reply-parts given leaves s form.ShortAdditions n bytes = sym (append-nil _)
sum_reply-parts given leaves s form.Deletions n bytes = sym (append-nil _)

-- the same, where what is written and the sum are said by equations
pub reply-of : {S : Type 0} (given : S → Request → Outcome) (leaves : S → Request → S) (s : S) (form : Form)
    (n : ℕ) (bytes written : List ℕ) (sum : SumRequest) → written ≡ drop (head_width form * n) bytes → sum_in form n bytes ≡ sum
    → fronts_in form (given_in_turn given leaves s (parts_of form n bytes written))
    ++ data_in form n bytes (given_in_turn given leaves s (parts_of form n bytes written))
    ≡ sum_reply given leaves s sum
reply-of given leaves s form n bytes written sum left is =
    let G : List ℕ → List Outcome = λ w. given_in_turn given leaves s (parts_of form n bytes w) in
    ap (λ w. fronts_in form (G w) ++ data_in form n bytes (G w)) left
    ∙ sym (sum_reply-parts given leaves s form n bytes) ∙ ap (λ (x : SumRequest). sum_reply given leaves s x) is

-- what holds where a call is well, of one that was
pub ok-given : {T E : Type 0} (r : Result T E) (x : T) (P : Type 0) → Ok x ≡ r → OnOk r P → P
ok-given (Ok y) x P is said = said
ok-given (Err e) x P is said = absurd (let no : ◌≡◌ {A = Result _ _} (Ok x) (Err e) = is in cc)
