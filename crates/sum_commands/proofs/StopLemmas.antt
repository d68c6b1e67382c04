-- Where parts stop, by the first part and those behind it.
use Rattle.std.proofs.Common.{◌≡◌, inl, inr, ℕ, suc, ◌*◌, List, ◌∷◌, ◌++◌, drop, length, refl, sym, ◌∙◌, ap, subst}
use Rattle.std.proofs.lemmas.List.{take-append-drop}
use Rattle.std.specs.Prelude.{Result, Ok, Err, OnErr}
use Rattle.ads_base.specs.Octets.{Extends}
use Rattle.ads_base.proofs.OctetsLemmas.{Extends-append}
use Rattle.spec_formats.specs.Request.{Request}
use Rattle.sum_commands.specs.declared.form.Form.{Form}
use Rattle.sum_commands.specs.declared.form.Form.TheVariants as form
use Rattle.sum_commands.specs.Forms.{sum_in, head_width, part_of, parts_of}
use Rattle.sum_commands.specs.Stops.{StopsAmong, Stops, Wants, Done, MayStop}
use Rattle.sum_commands.proofs.PartLemmas.{IsBehind, parts_of-suc}

-- the first of several parts, and those behind it, where these are said by equations
pub parts_of-next : (form form' : Form) (m k : ℕ) (heads written heads' written' : List ℕ) (r : Request) → m ≡ suc k
    → IsBehind form heads written form' heads' written' → r ≡ part_of form heads written
    → parts_of form m heads written ≡ r ∷ parts_of form' k heads' written'
parts_of-next form form' m k heads written heads' written' r e b first =
    let parts = parts_of-suc form k heads written in
    cc (parts, b.form_same, b.heads_left, b.written_left)

module _ {V S : Type 0} (stands_for : V → S → Type 0) (leaves : S → Request → S) (may_leave : S → Request → V → Type 0) where
  -- a part that may have stopped is the first of those among which it stops
  stops-first : (r : Request) (rs : List Request) (s : S) (v : V) → MayStop stands_for leaves may_leave r s v
      → StopsAmong stands_for leaves may_leave (r ∷ rs) s v
  stops-first r rs s v (inl done) = Done (Stops done)
  stops-first r rs s v (inr wants) = Wants wants

  pub stops-here : (rs : List Request) (r : Request) (behind : List Request) (s : S) (v : V) → rs ≡ r ∷ behind
      → MayStop stands_for leaves may_leave r s v → StopsAmong stands_for leaves may_leave rs s v
  stops-here rs r behind s v e may =
      subst (λ x. StopsAmong stands_for leaves may_leave x s v) (sym e) (stops-first r behind s v may)

  pub stops-later : (rs : List Request) (r : Request) (behind : List Request) (s : S) (v : V) → rs ≡ r ∷ behind
      → StopsAmong stands_for leaves may_leave behind (leaves s r) v → StopsAmong stands_for leaves may_leave rs s v
  stops-later rs r behind s v e later =
      subst (λ x. StopsAmong stands_for leaves may_leave x s v) (sym e) (Done later)

pub parts-sum_in : (form : Form) (n : ℕ) (bytes : List ℕ)
    → (sum_in form n bytes).parts ≡ parts_of form n bytes (drop (head_width form * n) bytes)
parts-sum_in form.Reads n bytes = refl
parts-sum_in form.Writes n bytes = refl
parts-sum_in form.ReadWrites n bytes = refl
parts-sum_in form.ToldReads n bytes = refl
parts-sum_in form.ShortReads n bytes = refl
parts-sum_in form.Additions n bytes = refl
parts-sum_in form.ShortAdditions n bytes = refl
parts-sum_in form.Deletions n bytes = refl

pub on_err : {T E P : Type 0} (r : Result T E) → P → OnErr r P
on_err (Ok x) p = tt
on_err (Err e) p = p

-- bytes that were appended to twice
pub Extends-trans : (old mid new : List ℕ) → Extends old mid → Extends mid new → Extends old new
Extends-trans old mid new first second =
    Extends-append old mid (drop (length mid) new) new first
    (sym (take-append-drop (length mid) new) ∙ ap (λ x. x ++ drop (length mid) new) second.begins)
