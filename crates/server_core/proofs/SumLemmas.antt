-- The counts of a state where one of its connections changes.
use Rattle.std.proofs.Common.{◌≡◌, ℕ, suc, ◌+◌, List, [], ◌∷◌, ◌++◌, length, refl, sym, ap, ◌∙◌, subst, inl, inr, arith}
use Rattle.std.specs.Prelude.{sum, sum_by, map, flat_map, Some}
use Rattle.std.proofs.lemmas.Bool.{cases_eq}
use Rattle.std.proofs.lemmas.List.{length-append}
use Rattle.std.proofs.lemmas.List.Sums.{sum_by-append, sum_by-cons, sum-map}
use Rattle.spec_machine.specs.Device.{Produced}
use Rattle.spec_machine.specs.Connection.{connection_of, put_back, fresh_connection}
use Rattle.spec_machine.specs.Summary.{Summary as CountsOfState, count_of, replies_in, samples_in, summary_of}
use Rattle.server_core.specs.declared.summary.Summary.{Summary}
use Rattle.server_core.specs.Served.{served, ServedConnection, ServedState, ServedExchange}
use Rattle.server_core.specs.Counts.{counts_in, Counts, replies_of, samples_of}
use Rattle.spec_machine.specs.MachineState.{with_exchange}
use Rattle.connections.proofs.StateLemmas.{connection_of-same, connection_of-other, put_back-same, put_back-other, none_of_nil}

-- six counts make a summary
pub same_counts_of : (a b : CountsOfState) → a.connections ≡ b.connections → a.requests ≡ b.requests → a.replies ≡ b.replies → a.samples ≡ b.samples
    → a.accepted ≡ b.accepted → a.refused ≡ b.refused → a ≡ b
same_counts_of a b c r p s d f =
    ap (λ n. record a { connections = n }) c ∙ ap (λ n. record a { connections = b.connections; requests = n }) r
    ∙ ap (λ n. record a { connections = b.connections; requests = b.requests; replies = n }) p
    ∙ ap (λ n. record a { connections = b.connections; requests = b.requests; replies = b.replies; samples = n }) s
    ∙ ap (λ n. record a { connections = b.connections; requests = b.requests; replies = b.replies; samples = b.samples; accepted = n }) d
    ∙ ap (λ n. record b { refused = n }) f

-- a sum in which one addend changes
pub record OneChanges (f : ServedConnection → ℕ) (ks : List ServedConnection) (k l : ServedConnection) : Type 0 where
  pub others : ℕ
  pub before : sum_by f ks ≡ others + f k
  pub after : sum_by f (put_back l ks) ≡ others + f l

pub one_changes : (f : ServedConnection → ℕ) (n : ℕ) (k l : ServedConnection) (ks : List ServedConnection)
    → connection_of n ks ≡ Some k → l.number ≡ n → OneChanges f ks k l
one_changes f n k l [] e number = absurd (let both = sym (none_of_nil n) ∙ e in cc)
one_changes f n k l (j ∷ js) e number = elim (cases_eq j.number n) [
  | inl q ↦
      let same : j ≡ k = (let both = sym (connection_of-same n j js q) ∙ e in cc) in
      record {
        others = sum_by f js;
        before = omega (arith, sum_by-cons f j js, ap f same);
        after = ap (λ xs. sum_by f xs) (put_back-same l j js (q ∙ sym number)) ∙ omega (arith, sum_by-cons f l js);
      }
  | inr q ↦
      let rest = one_changes f n k l js (sym (connection_of-other n j js q) ∙ e) number in
      record {
        others = f j + rest.others;
        before = omega (arith, sum_by-cons f j js, rest.before);
        after = ap (λ xs. sum_by f xs) (put_back-other l j js (λ r. q (r ∙ number))) ∙ omega (arith, sum_by-cons f j (put_back l js), rest.after);
      }
]

pub length-put_back : (l : ServedConnection) (ks : List ServedConnection) → length (put_back l ks) ≡ length ks
unfolding put_back
length-put_back l [] = refl
length-put_back l (k ∷ ks) = elim (cases_eq k.number l.number) [
  | inl q ↦ ap (λ (xs : List ServedConnection). length xs) (put_back-same l k ks q)
  | inr q ↦ ap (λ (xs : List ServedConnection). length xs) (put_back-other l k ks q) ∙ ap suc (length-put_back l ks)
]

-- what all connections were given, added up
pub produced_sum : (g : Produced → ℕ) (ks : List ServedConnection)
    → sum (map g (flat_map (λ (k : ServedConnection). k.produced) ks)) ≡ sum_by (λ (k : ServedConnection). sum (map g k.produced)) ks
produced_sum g [] = refl
produced_sum g (k ∷ ks) =
    let rest = produced_sum g ks in
    let all = sum-map g (k.produced ++ flat_map (λ (j : ServedConnection). j.produced) ks) in
    let split = sum_by-append g k.produced (flat_map (λ (j : ServedConnection). j.produced) ks) in
    let one = sum-map g k.produced in
    let more = sum-map g (flat_map (λ (j : ServedConnection). j.produced) ks) in
    let cons = sum_by-cons (λ (j : ServedConnection). sum (map g j.produced)) k ks in
    omega (arith, rest, all, split, one, more, cons)

-- the counts follow a change of one connection
pub counted_one : (old new : Summary) (n : ℕ) (k : ServedConnection) (x : ServedExchange) (s : ServedState)
    → connection_of n s.connections ≡ Some k → x.connection.number ≡ n
    → Counts old new k x.connection → counts_in old ≡ summary_of s → counts_in new ≡ summary_of (with_exchange x s)
counted_one old new n k x s found number c e =
    let l = x.connection in
    let ks = s.connections in
    let taken = one_changes (λ (j : ServedConnection). j.frames_taken) n k l ks found number in
    let replies = one_changes replies_of n k l ks found number in
    let samples = one_changes samples_of n k l ks found number in
    same_counts_of (counts_in new) (summary_of (with_exchange x s))
    (c.connections ∙ ap (λ (z : CountsOfState). z.connections) e ∙ ap count_of (sym (length-put_back l ks)))
    (c.requests taken.others (ap (λ (z : CountsOfState). z.requests) e ∙ ap count_of (sum-map (λ (j : ServedConnection). j.frames_taken) ks ∙ taken.before))
    ∙ ap count_of (sym (sum-map (λ (j : ServedConnection). j.frames_taken) (put_back l ks) ∙ taken.after)))
    (c.replies replies.others (ap (λ (z : CountsOfState). z.replies) e ∙ ap count_of (produced_sum replies_in ks ∙ replies.before))
    ∙ ap count_of (sym (produced_sum replies_in (put_back l ks) ∙ replies.after)))
    (c.samples samples.others (ap (λ (z : CountsOfState). z.samples) e ∙ ap count_of (produced_sum samples_in ks ∙ samples.before))
    ∙ ap count_of (sym (produced_sum samples_in (put_back l ks) ∙ samples.after)))
    (c.accepted ∙ ap (λ (z : CountsOfState). z.accepted) e)
    (c.refused ∙ ap (λ (z : CountsOfState). z.refused) e)

once : (n : ℕ) → count_of (count_of n + 1) ≡ count_of (n + 1)
once n = omega arith

-- one more adds nothing to this sum
added : (f : ServedConnection → ℕ) (ks : List ServedConnection) (k : ServedConnection) → f k ≡ 0 → sum_by f ks ≡ sum_by f (ks ++ k ∷ [])
added f ks k none =
    let all = sum_by-append f ks (k ∷ []) in
    let one = sum_by-cons f k [] in
    let nil : sum_by f [] ≡ 0 = refl in
    omega (arith, all, one, nil, none)

-- a connection more is counted
pub counted_fresh : (old new : Summary) (n : ℕ) (s t : ServedState) → t ≡ record s { connections = s.connections ++ fresh_connection served.new_client n ∷ [] }
    → new ≡ record old { connections = count_of (old.connections + 1) } → counts_in old ≡ summary_of s → counts_in new ≡ summary_of t
counted_fresh old new n s t state counts e =
    let k = fresh_connection served.new_client n in
    let ks = s.connections in
    let taken = sum-map (λ (j : ServedConnection). j.frames_taken) ks ∙ added (λ (j : ServedConnection). j.frames_taken) ks k refl
    ∙ sym (sum-map (λ (j : ServedConnection). j.frames_taken) (ks ++ k ∷ [])) in
    let replies = produced_sum replies_in ks ∙ added replies_of ks k refl ∙ sym (produced_sum replies_in (ks ++ k ∷ [])) in
    let samples = produced_sum samples_in ks ∙ added samples_of ks k refl ∙ sym (produced_sum samples_in (ks ++ k ∷ [])) in
    subst (λ (z : ServedState). counts_in new ≡ summary_of z) (sym state)
    (same_counts_of (counts_in new) (summary_of (record s { connections = ks ++ k ∷ [] }))
    (ap (λ (z : Summary). z.connections) counts ∙ ap (λ m. count_of (m + 1)) (ap (λ (z : CountsOfState). z.connections) e) ∙ once (length ks)
    ∙ ap count_of (sym (length-append ks (k ∷ []))))
    (ap (λ (z : Summary). z.requests) counts ∙ ap (λ (z : CountsOfState). z.requests) e ∙ ap count_of taken)
    (ap (λ (z : Summary). z.replies) counts ∙ ap (λ (z : CountsOfState). z.replies) e ∙ ap count_of replies)
    (ap (λ (z : Summary). z.samples) counts ∙ ap (λ (z : CountsOfState). z.samples) e ∙ ap count_of samples)
    (ap (λ (z : Summary). z.accepted) counts ∙ ap (λ (z : CountsOfState). z.accepted) e)
    (ap (λ (z : Summary). z.refused) counts ∙ ap (λ (z : CountsOfState). z.refused) e))

-- a refused reload is counted
pub counted_refused : (old new : Summary) (s t : ServedState)
    → t ≡ record s { refused = s.refused + 1 } → new ≡ record old { refused = count_of (old.refused + 1) }
    → counts_in old ≡ summary_of s → counts_in new ≡ summary_of t
counted_refused old new s t state counts e =
    subst (λ (z : ServedState). counts_in new ≡ summary_of z) (sym state)
    (same_counts_of (counts_in new) (summary_of (record s { refused = s.refused + 1 }))
    (ap (λ (z : Summary). z.connections) counts ∙ ap (λ (z : CountsOfState). z.connections) e)
    (ap (λ (z : Summary). z.requests) counts ∙ ap (λ (z : CountsOfState). z.requests) e)
    (ap (λ (z : Summary). z.replies) counts ∙ ap (λ (z : CountsOfState). z.replies) e)
    (ap (λ (z : Summary). z.samples) counts ∙ ap (λ (z : CountsOfState). z.samples) e)
    (ap (λ (z : Summary). z.accepted) counts ∙ ap (λ (z : CountsOfState). z.accepted) e)
    (ap (λ (z : Summary). z.refused) counts ∙ ap (λ m. count_of (m + 1)) (ap (λ (z : CountsOfState). z.refused) e) ∙ once s.refused))

-- an accepted one is counted
pub counted_accepted : (old new : Summary) (s t : ServedState)
    → t ≡ record s { accepted = s.accepted + 1 } → new ≡ record old { accepted = count_of (old.accepted + 1) }
    → counts_in old ≡ summary_of s → counts_in new ≡ summary_of t
counted_accepted old new s t state counts e =
    subst (λ (z : ServedState). counts_in new ≡ summary_of z) (sym state)
    (same_counts_of (counts_in new) (summary_of (record s { accepted = s.accepted + 1 }))
    (ap (λ (z : Summary). z.connections) counts ∙ ap (λ (z : CountsOfState). z.connections) e)
    (ap (λ (z : Summary). z.requests) counts ∙ ap (λ (z : CountsOfState). z.requests) e)
    (ap (λ (z : Summary). z.replies) counts ∙ ap (λ (z : CountsOfState). z.replies) e)
    (ap (λ (z : Summary). z.samples) counts ∙ ap (λ (z : CountsOfState). z.samples) e)
    (ap (λ (z : Summary). z.accepted) counts ∙ ap (λ m. count_of (m + 1)) (ap (λ (z : CountsOfState). z.accepted) e) ∙ once s.accepted)
    (ap (λ (z : Summary). z.refused) counts ∙ ap (λ (z : CountsOfState). z.refused) e))
