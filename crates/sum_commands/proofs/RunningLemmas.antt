-- Parts that were run, and those that are left.
use Rattle.std.proofs.Common.{◌≡◌, ℕ, suc, ◌*◌, ◌≤◌, List, [], ◌+◌, ◌++◌, length, take, drop, refl, sym, ◌∙◌, ap, subst, arith, length-append, length-take}
use Rattle.std.proofs.Common.{length-drop}
use Rattle.std.proofs.lemmas.List.{append-nil, nil_from_length, take-append-drop}
use Rattle.spec_formats.specs.Request.{Request}
use Rattle.spec_machine.specs.Acts.{Outcome}
use Rattle.sum_commands.specs.declared.form.Form.{Form}
use Rattle.sum_commands.specs.Forms.{RunsAll, Replies, front_width, part_of, parts_of, fronts_in}
use Rattle.sum_commands.specs.Packing.{Runs, front_of, data_of}
use Rattle.sum_commands.specs.Stops.{StopsAmong}
use Rattle.sum_commands.proofs.HeadLemmas.{times-step}
use Rattle.sum_commands.proofs.LaidLemmas.{IsLaid, laid-next}
use Rattle.sum_commands.proofs.PartLemmas.{IsBehind, front-len, runs-next, runs-none}
use Rattle.sum_commands.proofs.StopLemmas.{parts_of-next, stops-later}
use Rattle.spec_machine.specs.Sums.{given_in_turn}

-- n parts from the state s on, of which k are left: what stands of their reply, and whatever runs those that are left runs all
-- from the beginning
pub record Continues {V S : Type 0} (stands_for : V → S → Type 0) (given : S → Request → Outcome) (leaves : S → Request → S)
    (may_leave : S → Request → V → Type 0) (form : Form) (n : ℕ) (heads written : List ℕ) (s : S) (base : List ℕ)
    (form' : Form) (k : ℕ) (heads' written' : List ℕ) (service : V) (at : ℕ) (out : List ℕ) : Type 0 where
  pub now : S
  pub stands : stands_for service now
  pub fronts : List ℕ
  pub room : List ℕ
  pub more : List ℕ
  pub laid : IsLaid base fronts room more at out
  pub left : length room ≡ front_width form' * k
  pub runs : (v : V) (f o : List ℕ)
      → RunsAll stands_for given leaves form' k heads' written' now v fronts f more o
      → RunsAll stands_for given leaves form n heads written s v [] f [] o
  pub stops : (v : V) → StopsAmong stands_for leaves may_leave (parts_of form' k heads' written') now v
      → StopsAmong stands_for leaves may_leave (parts_of form n heads written) s v

-- all parts were run
pub replies : {V S : Type 0} (stands_for : V → S → Type 0) (given : S → Request → Outcome) (leaves : S → Request → S)
    (may_leave : S → Request → V → Type 0) (form : Form) (n : ℕ) (heads written : List ℕ) (s : S) (base : List ℕ)
    (form' : Form) (k : ℕ) (heads' written' : List ℕ) (service : V) (at : ℕ) (out : List ℕ) → k ≡ 0
    → Continues stands_for given leaves may_leave form n heads written s base form' k heads' written' service at out
    → Replies stands_for given leaves form n heads written s service base out
replies stands_for given leaves may_leave form n heads written s base form' k heads' written' service at out none so_far =
    let rest = runs-none stands_for given leaves form' k heads' written' so_far.now service so_far.fronts so_far.more none so_far.stands in
    let all = so_far.runs service so_far.fronts so_far.more rest in
    let gave = given_in_turn given leaves s (parts_of form n heads written) in
    let empty : length so_far.room ≡ 0 = so_far.left ∙ ap (λ x. front_width form' * x) none ∙ omega arith in
    let full : so_far.room ≡ [] = nil_from_length so_far.room empty in
    let whole : out ≡ base ++ (so_far.fronts ++ so_far.more) = so_far.laid.whole ∙ ap (λ x. base ++ (so_far.fronts ++ (x ++ so_far.more))) full in
    record {
      state = all.state;
      bytes = whole ∙ ap (λ x. base ++ (x ++ so_far.more)) all.front ∙ ap (λ x. base ++ (fronts_in form gave ++ x)) all.bytes;
      asked = omega (arith, ap length whole, length-append base (so_far.fronts ++ so_far.more), length-append so_far.fronts so_far.more, all.asked, all.room);
    }

-- no part was run yet
pub continues-first : {V S : Type 0} (stands_for : V → S → Type 0) (given : S → Request → Outcome) (leaves : S → Request → S)
    (may_leave : S → Request → V → Type 0) (form : Form) (n : ℕ) (heads written : List ℕ) (s : S) (service : V) (at : ℕ) (out : List ℕ)
    (k : ℕ) → k ≡ n → length out ≡ at + front_width form * n → stands_for service s
    → Continues stands_for given leaves may_leave form n heads written s (take at out) form k heads written service at out
continues-first stands_for given leaves may_leave form n heads written s service at out k same room stands = record {
  now = s;
  stands = stands;
  fronts = [];
  room = drop at out;
  more = [];
  laid = record {
    whole = sym (take-append-drop at out) ∙ ap (λ x. take at out ++ x) (sym (append-nil (drop at out)));
    place = omega (arith, length-take at out, room);
  };
  left = omega (arith, length-drop at out, room, ap (λ x. front_width form * x) same);
  runs = λ v f o rest. subst (λ x. RunsAll stands_for given leaves form x heads written s v [] f [] o) same rest;
  stops = λ v rest. subst (λ x. StopsAmong stands_for leaves may_leave (parts_of form x heads written) s v) same rest;
}

-- one more part was run
pub continues-next : {V S : Type 0} (stands_for : V → S → Type 0) (given : S → Request → Outcome) (leaves : S → Request → S)
    (may_leave : S → Request → V → Type 0) (form : Form) (n : ℕ) (heads written : List ℕ) (s : S) (base : List ℕ)
    (form1 : Form) (m k : ℕ) (heads1 written1 : List ℕ) (service service' : V) (at at' : ℕ) (out out' : List ℕ)
    (form2 : Form) (heads2 written2 : List ℕ) → m ≡ suc k → IsBehind form1 heads1 written1 form2 heads2 written2 → at' ≡ at + front_width form1
    → (so_far : Continues stands_for given leaves may_leave form n heads written s base form1 m heads1 written1 service at out)
    → Runs stands_for given leaves form1 (part_of form1 heads1 written1) so_far.now service' at out out'
    → Continues stands_for given leaves may_leave form n heads written s base form2 k heads2 written2 service' at' out'
continues-next stands_for given leaves may_leave form n heads written s base form1 m k heads1 written1 service service' at at' out out' form2 heads2 written2
    more behind next so_far this =
    let r = part_of form1 heads1 written1 in
    let front = front_of form1 (given so_far.now r) in
    let added = data_of form1 r (given so_far.now r) in
    let long : length front ≡ front_width form1 = front-len form1 (given so_far.now r) in
    let all = times-step m k (front_width form1) more in
    let same_left : front_width form2 * k ≡ front_width form1 * k = ap (λ f. front_width f * k) behind.form_same in
    let fits : length front ≤ length so_far.room = omega (arith, so_far.left, all, long) in
    record {
      now = leaves so_far.now r;
      stands = this.state;
      fronts = so_far.fronts ++ front;
      room = drop (length front) so_far.room;
      more = so_far.more ++ added;
      laid = laid-next _ so_far.fronts so_far.room so_far.more at _ out front added _ so_far.laid fits (omega (arith, next, long)) this.bytes;
      left = omega (arith, length-drop (length front) so_far.room, so_far.left, all, long, same_left);
      runs = λ v f o rest. so_far.runs v f o
          (runs-next stands_for given leaves _ _ _ _ _ _ _ _ r so_far.now _ v _ _ _ _ _ _ more behind refl
          (record { state = this.state; front = refl; bytes = refl; asked = omega (arith, this.asked, length-append so_far.more added) }) rest);
      stops = λ v later. so_far.stops v
          (stops-later stands_for leaves may_leave _ r _ so_far.now v (parts_of-next _ _ _ _ _ _ _ _ r more behind refl) later);
    }
