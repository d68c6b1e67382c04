-- What n parts run after one another give, by the first part and those behind it.
use Rattle.std.proofs.Common.{◌≡◌, ℕ, zero, suc, ◌+◌, ◌≤◌, List, ◌∷◌, ◌++◌, drop, length}
use Rattle.std.proofs.Common.{refl, sym, ◌∙◌, ap, subst, arith, append_assoc, length-append, length-drop}
use Rattle.std.proofs.Math.Nat.{mul-suc}
use Rattle.std.proofs.lemmas.List.{append-nil}
use Rattle.std.proofs.lemmas.List.Concat.{flat_map-cons}
use Rattle.std.specs.Int.{w32, to_le_bytes}
use Rattle.spec_formats.specs.Request.{Request}
use Rattle.spec_machine.specs.Acts.{Outcome}
use Rattle.spec_machine.specs.Sums.{given_in_turn, left_in_turn}
use Rattle.sum_commands.specs.declared.form.Form.{Form}
use Rattle.sum_commands.specs.declared.form.Form.TheVariants as form
use Rattle.sum_commands.specs.Parts.{asked_of}
use Rattle.sum_commands.specs.Packing.{told_front, handle_front, front_of, data_of}
use Rattle.sum_commands.specs.Forms.{HasParts, RunsAll, head_width, front_width, written_len, all_written, all_asked, part_of, parts_of, fronts_in, data_in}
use Rattle.sum_commands.proofs.HeadLemmas.{heads-step, numbers-step}

-- the first part can be taken, and the others behind it
pub record HasFirst (form : Form) (k : ℕ) (heads written : List ℕ) : Type 0 where
  pub head : head_width form ≤ length heads
  pub written_there : written_len form heads ≤ length written
  pub behind : HasParts form k (drop (head_width form) heads) (drop (written_len form heads) written)

all_written-step : (form : Form) (m k : ℕ) (heads : List ℕ) → m ≡ suc k
    → all_written form m heads ≡ written_len form heads + all_written form k (drop (head_width form) heads)
all_written-step form.Reads m k heads e = refl
all_written-step form.Writes m k heads e = numbers-step m k 12 8 heads e
all_written-step form.ReadWrites m k heads e = numbers-step m k 16 12 heads e
all_written-step form.ToldReads m k heads e = refl
all_written-step form.ShortReads m k heads e = refl
all_written-step form.Additions m k heads e = refl
all_written-step form.ShortAdditions m k heads e = refl
all_written-step form.Deletions m k heads e = refl

all_asked-step : (form : Form) (m k : ℕ) (heads written : List ℕ) → m ≡ suc k
    → all_asked form m heads
    ≡ asked_of (part_of form heads written) + all_asked form k (drop (head_width form) heads)
all_asked-step form.Reads m k heads written e = numbers-step m k 12 8 heads e
all_asked-step form.Writes m k heads written e = refl
all_asked-step form.ReadWrites m k heads written e = numbers-step m k 16 8 heads e
all_asked-step form.ToldReads m k heads written e = numbers-step m k 12 8 heads e
all_asked-step form.ShortReads m k heads written e = numbers-step m k 12 8 heads e
all_asked-step form.Additions m k heads written e = refl
all_asked-step form.ShortAdditions m k heads written e = refl
all_asked-step form.Deletions m k heads written e = refl

pub parts-step : (form : Form) (m k : ℕ) (heads written : List ℕ) → m ≡ suc k → HasParts form m heads written
    → HasFirst form k heads written
parts-step form m k heads written e has =
    let first = heads-step m k (head_width form) heads e has.heads_there in
    let all = all_written-step form m k heads e in
    record {
      head = first.head;
      written_there = omega (arith, all, has.written_there);
      behind = record {
        heads_there = first.behind;
        written_there = omega (arith, all, has.written_there, length-drop (written_len form heads) written);
      };
    }

pub front-len : (form : Form) (o : Outcome) → length (front_of form o) ≡ front_width form
front-len form.Reads o = refl
front-len form.Writes o = refl
front-len form.ReadWrites o = refl
front-len form.ToldReads o = refl
front-len form.ShortReads o = refl
front-len form.Additions o = refl
front-len form.ShortAdditions o = refl
front-len form.Deletions o = refl

pub parts_of-suc : (form : Form) (k : ℕ) (heads written : List ℕ)
    → parts_of form (suc k) heads written
    ≡ part_of form heads written ∷ parts_of form k (drop (head_width form) heads) (drop (written_len form heads) written)
parts_of-suc form.Reads k heads written = refl
parts_of-suc form.Writes k heads written = refl
parts_of-suc form.ReadWrites k heads written = refl
parts_of-suc form.ToldReads k heads written = refl
parts_of-suc form.ShortReads k heads written = refl
parts_of-suc form.Additions k heads written = refl
parts_of-suc form.ShortAdditions k heads written = refl
parts_of-suc form.Deletions k heads written = refl

fronts_in-cons : (form : Form) (o : Outcome) (os : List Outcome) → fronts_in form (o ∷ os) ≡ front_of form o ++ fronts_in form os
fronts_in-cons form.Reads o os = flat_map-cons (λ (x : Outcome). to_le_bytes w32 x.code) o os
fronts_in-cons form.Writes o os = flat_map-cons (λ (x : Outcome). to_le_bytes w32 x.code) o os
fronts_in-cons form.ReadWrites o os = flat_map-cons told_front o os
fronts_in-cons form.ToldReads o os = flat_map-cons told_front o os
fronts_in-cons form.ShortReads o os = flat_map-cons told_front o os
fronts_in-cons form.Additions o os = flat_map-cons handle_front o os
fronts_in-cons form.ShortAdditions o os = flat_map-cons handle_front o os
fronts_in-cons form.Deletions o os = flat_map-cons (λ (x : Outcome). to_le_bytes w32 x.code) o os

data_in-cons : (form : Form) (k : ℕ) (heads written : List ℕ) (o : Outcome) (os : List Outcome)
    → data_in form (suc k) heads (o ∷ os)
    ≡ data_of form (part_of form heads written) o ++ data_in form k (drop (head_width form) heads) os
data_in-cons form.Reads k heads written o os = refl
data_in-cons form.Writes k heads written o os = refl
data_in-cons form.ReadWrites k heads written o os = flat_map-cons (λ (x : Outcome). x.bytes) o os
data_in-cons form.ToldReads k heads written o os = refl
data_in-cons form.ShortReads k heads written o os = flat_map-cons (λ (x : Outcome). x.bytes) o os
data_in-cons form.Additions k heads written o os = refl
data_in-cons form.ShortAdditions k heads written o os = refl
data_in-cons form.Deletions k heads written o os = refl

given_in_turn-cons : {S : Type 0} (given : S → Request → Outcome) (leaves : S → Request → S) (s : S) (r : Request)
    (rs : List Request)
    → given_in_turn given leaves s (r ∷ rs) ≡ given s r ∷ given_in_turn given leaves (leaves s r) rs
unfolding given_in_turn
given_in_turn-cons given leaves s r rs = refl

left_in_turn-cons : {S : Type 0} (leaves : S → Request → S) (s : S) (r : Request) (rs : List Request)
    → left_in_turn leaves s (r ∷ rs) ≡ left_in_turn leaves (leaves s r) rs
unfolding left_in_turn
left_in_turn-cons leaves s r rs = refl

-- a part is run: the state that it leaves, and what it adds to the results and to the data
pub record Adds {V S : Type 0} (stands_for : V → S → Type 0) (given : S → Request → Outcome) (leaves : S → Request → S)
    (form : Form) (r : Request) (before : S) (after : V) (fronts fronts' : List ℕ) (more more' : List ℕ) : Type 0 where
  pub state : stands_for after (leaves before r)
  pub front : fronts' ≡ fronts ++ front_of form (given before r)
  pub bytes : more' ≡ more ++ data_of form r (given before r)
  pub asked : length more' ≤ length more + asked_of r

-- a part is run, and then those behind it
pub runs-suc : {V S : Type 0} (stands_for : V → S → Type 0) (given : S → Request → Outcome) (leaves : S → Request → S)
    (form : Form) (k : ℕ) (heads written : List ℕ) (s : S) (v1 v2 : V) (f f1 f2 out out1 out2 : List ℕ)
    → Adds stands_for given leaves form (part_of form heads written) s v1 f f1 out out1
    → RunsAll stands_for given leaves form k (drop (head_width form) heads) (drop (written_len form heads) written)
    (leaves s (part_of form heads written)) v2 f1 f2 out1 out2
    → RunsAll stands_for given leaves form (suc k) heads written s v2 f f2 out out2
runs-suc stands_for given leaves form k heads written s v1 v2 f f1 f2 out out1 out2 one more =
    let r = part_of form heads written in
    let rs = parts_of form k (drop (head_width form) heads) (drop (written_len form heads) written) in
    let o = given s r in
    let os = given_in_turn given leaves (leaves s r) rs in
    let parts = parts_of-suc form k heads written in
    let gave : given_in_turn given leaves s (parts_of form (suc k) heads written) ≡ o ∷ os =
    ap (given_in_turn given leaves s) parts ∙ given_in_turn-cons given leaves s r rs in
    let left : left_in_turn leaves s (parts_of form (suc k) heads written) ≡ left_in_turn leaves (leaves s r) rs =
    ap (left_in_turn leaves s) parts ∙ left_in_turn-cons leaves s r rs in
    let fronts = fronts_in-cons form o os in
    let bytes = data_in-cons form k heads written o os in
    record {
      state = subst (stands_for v2) (sym left) more.state;
      front = cc (gave, fronts, one.front, more.front, append_assoc f (front_of form o) (fronts_in form os));
      bytes = cc (gave, bytes, one.bytes, more.bytes, append_assoc out (data_of form r o) (data_in form k (drop (head_width form) heads) os));
      asked = omega (arith, one.asked, more.asked, all_asked-step form (suc k) k heads written refl);
      room = omega (arith, more.room, ap length one.front, length-append f (front_of form o), front-len form o, mul-suc (front_width form) k);
    }

-- no part is run
runs-zero : {V S : Type 0} (stands_for : V → S → Type 0) (given : S → Request → Outcome) (leaves : S → Request → S)
    (form : Form) (heads written : List ℕ) (s : S) (v : V) (f out : List ℕ) → stands_for v s
    → RunsAll stands_for given leaves form zero heads written s v f f out out
unfolding given_in_turn left_in_turn
runs-zero stands_for given leaves form.Reads heads written s v f out stands = record {
  state = stands;
  front = sym (append-nil f);
  bytes = sym (append-nil out);
  asked = omega arith;
  room = omega arith;
}
runs-zero stands_for given leaves form.Writes heads written s v f out stands = record {
  state = stands;
  front = sym (append-nil f);
  bytes = sym (append-nil out);
  asked = omega arith;
  room = omega arith;
}
runs-zero stands_for given leaves form.ReadWrites heads written s v f out stands = record {
  state = stands;
  front = sym (append-nil f);
  bytes = sym (append-nil out);
  asked = omega arith;
  room = omega arith;
}
runs-zero stands_for given leaves form.ToldReads heads written s v f out stands = record {
  state = stands;
  front = sym (append-nil f);
  bytes = sym (append-nil out);
  asked = omega arith;
  room = omega arith;
}
runs-zero stands_for given leaves form.ShortReads heads written s v f out stands = record {
  state = stands;
  front = sym (append-nil f);
  bytes = sym (append-nil out);
  asked = omega arith;
  room = omega arith;
}
runs-zero stands_for given leaves form.Additions heads written s v f out stands = record {
  state = stands;
  front = sym (append-nil f);
  bytes = sym (append-nil out);
  asked = omega arith;
  room = omega arith;
}
runs-zero stands_for given leaves form.ShortAdditions heads written s v f out stands = record {
  state = stands;
  front = sym (append-nil f);
  bytes = sym (append-nil out);
  asked = omega arith;
  room = omega arith;
}
runs-zero stands_for given leaves form.Deletions heads written s v f out stands = record {
  state = stands;
  front = sym (append-nil f);
  bytes = sym (append-nil out);
  asked = omega arith;
  room = omega arith;
}

pub runs-none : {V S : Type 0} (stands_for : V → S → Type 0) (given : S → Request → Outcome) (leaves : S → Request → S)
    (form : Form) (m : ℕ) (heads written : List ℕ) (s : S) (v : V) (f out : List ℕ) → m ≡ 0 → stands_for v s
    → RunsAll stands_for given leaves form m heads written s v f f out out
runs-none stands_for given leaves form m heads written s v f out e stands =
    subst (λ x. RunsAll stands_for given leaves form x heads written s v f f out out) (sym e)
    (runs-zero stands_for given leaves form heads written s v f out stands)

-- where the parts that are left are said by equations
pub record IsBehind (form : Form) (heads written : List ℕ) (form' : Form) (heads' written' : List ℕ) : Type 0 where
  pub form_same : form' ≡ form
  pub heads_left : heads' ≡ drop (head_width form) heads
  pub written_left : written' ≡ drop (written_len form heads) written

pub parts-next : (form form' : Form) (m k : ℕ) (heads written heads' written' : List ℕ) → m ≡ suc k
    → IsBehind form heads written form' heads' written' → HasParts form m heads written
    → HasParts form' k heads' written'
parts-next form form' m k heads written heads' written' e b has =
    rw (b.form_same, b.heads_left, b.written_left) (parts-step form m k heads written e has).behind

pub runs-next : {V S : Type 0} (stands_for : V → S → Type 0) (given : S → Request → Outcome) (leaves : S → Request → S)
    (form form' : Form) (m k : ℕ) (heads written heads' written' : List ℕ) (r : Request) (s : S) (v1 v2 : V)
    (f f1 f2 out out1 out2 : List ℕ) → m ≡ suc k
    → IsBehind form heads written form' heads' written' → r ≡ part_of form heads written
    → Adds stands_for given leaves form r s v1 f f1 out out1
    → RunsAll stands_for given leaves form' k heads' written' (leaves s r) v2 f1 f2 out1 out2
    → RunsAll stands_for given leaves form m heads written s v2 f f2 out out2
runs-next stands_for given leaves form form' m k heads written heads' written' r s v1 v2 f f1 f2 out out1 out2 e b first one more =
    let here : Adds stands_for given leaves form (part_of form heads written) s v1 f f1 out out1 =
    subst (λ x. Adds stands_for given leaves form x s v1 f f1 out out1) first one in
    let more' : RunsAll stands_for given leaves form' k heads' written' (leaves s (part_of form heads written)) v2 f1 f2 out1 out2 =
    subst (λ x. RunsAll stands_for given leaves form' k heads' written' (leaves s x) v2 f1 f2 out1 out2) first more in
    let behind : RunsAll stands_for given leaves form k (drop (head_width form) heads)
    (drop (written_len form heads) written) (leaves s (part_of form heads written)) v2 f1 f2 out1 out2 =
    subst (λ x. RunsAll stands_for given leaves x k (drop (head_width form) heads)
    (drop (written_len form heads) written) (leaves s (part_of form heads written)) v2 f1 f2 out1 out2) b.form_same
    (subst (λ x. RunsAll stands_for given leaves form' k x (drop (written_len form heads) written) (leaves s (part_of form heads written)) v2 f1 f2 out1 out2)
    b.heads_left
    (subst (λ x. RunsAll stands_for given leaves form' k heads' x (leaves s (part_of form heads written)) v2 f1 f2 out1 out2) b.written_left more')) in
    subst (λ x. RunsAll stands_for given leaves form x heads written s v2 f f2 out out2) (sym e)
    (runs-suc stands_for given leaves form k heads written s v1 v2 f f1 f2 out out1 out2 here behind)
