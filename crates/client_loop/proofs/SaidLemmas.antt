-- What is sent and put, one after another.
use Rattle.std.proofs.Common.{◌≡◌, ℕ, zero, suc, ◌+◌, List, [], ◌∷◌, ◌++◌, length, take, drop, Option, Some}
use Rattle.std.proofs.Common.{None, refl, sym, ap, ◌∙◌, subst, append_assoc, inl, inr, arith}
use Rattle.std.specs.Prelude.{option_map}
use Rattle.std.proofs.lemmas.List.{append-nil, map-append, take-append-drop}
use Rattle.std.proofs.Math.Seq.{take-append_seam, take-append-add, take-length}
use Rattle.ads_outside.specs.declared.link_move.LinkMove.{LinkMove}
use Rattle.ads_outside.specs.declared.link_move.LinkMove.TheVariants as move
use Rattle.ads_outside.specs.LinkAnswers.{with_part}
use Rattle.ads_outside.specs.Puts.{Appends, AppendsPart}
use Rattle.spec_samples.specs.Row.{Row}
use Rattle.spec_samples.specs.Rows.{rows_after_put, rows_after}
use Rattle.spec_samples.proofs.RowLemmas.{puts_go_on}
use Rattle.spec_client.specs.Conversation.{Sent}
use Rattle.spec_client.specs.CallLog.{sent_moves}
use Rattle.client_loop.specs.Outlets.{Outlets, Adds, AddsPart}
use Rattle.client_loop.specs.Said.{SendsSome, SentSome, Gives, GivesSome}

pub puts_nothing : (held : Option (List ℕ)) → Appends held held []
puts_nothing None = tt
puts_nothing (Some old) = ap Some (sym (append-nil old))

pub puts_empty : (held : Option (List ℕ)) (text : List ℕ) → length text ≡ 0 → Appends held held text
puts_empty held [] e = puts_nothing held
puts_empty held (b ∷ bs) e = absurd (omega arith)

pub puts_then : (held mid new : Option (List ℕ)) (t u : List ℕ) → Appends held mid t → Appends mid new u → Appends held new (t ++ u)
puts_then None mid new t u first second = tt
puts_then (Some old) mid new t u first second =
    let s : new ≡ Some ((old ++ t) ++ u) = subst (λ h. Appends h new u) first second in
    s ∙ ap Some (append_assoc old t u)

pub puts_none : (held : Option (List ℕ)) (t : List ℕ) → AppendsPart held held t
puts_none None t = tt
puts_none (Some old) t = (0, ap Some (sym (append-nil old)))

pub puts_all : (held new : Option (List ℕ)) (t : List ℕ) → Appends held new t → AppendsPart held new t
puts_all None new t all = tt
puts_all (Some old) new t all = (length t, all ∙ ap (λ x. Some (old ++ x)) (sym (take-length t)))

pub puts_part : (held mid new : Option (List ℕ)) (t u : List ℕ) → Appends held mid t → AppendsPart mid new u → AppendsPart held new (t ++ u)
puts_part None mid new t u first second = tt
puts_part (Some old) mid new t u first second =
    let s : (n : ℕ) × (new ≡ Some ((old ++ t) ++ take n u)) = subst (λ h. AppendsPart h new u) first second in
    (length t + s.0, s.1 ∙ ap Some (append_assoc old t (take s.0 u) ∙ ap (λ x. old ++ x) (sym (take-append-add t u s.0))))

-- a first part of a text is a first part of one that goes on
take_longer : {A : Type 0} (n : ℕ) (t u : List A) → take (length (take n t)) (t ++ u) ≡ take n t
take_longer n t u =
    ap (λ x. take (length (take n t)) (x ++ u)) (sym (take-append-drop n t))
    ∙ ap (take (length (take n t))) (append_assoc (take n t) (drop n t) u)
    ∙ take-append_seam (take n t) (drop n t ++ u)

pub puts_more : (held new : Option (List ℕ)) (t u : List ℕ) → AppendsPart held new t → AppendsPart held new (t ++ u)
puts_more None new t u part = tt
puts_more (Some old) new t u part = (length (take part.0 t), part.1 ∙ ap (λ x. Some (old ++ x)) (sym (take_longer part.0 t u)))

pub adds_nothing : (rows : Option (List Row)) → Adds rows rows []
unfolding rows_after
adds_nothing None = refl
adds_nothing (Some there) = refl

pub adds_then : (old mid new : Option (List Row)) (t u : List Row) → Adds old mid t → Adds mid new u → Adds old new (t ++ u)
adds_then None mid new t u first second = subst (λ h. Adds h new u) first second
adds_then (Some there) mid new t u first second =
    let s : new ≡ Some (rows_after (rows_after there t) u) = subst (λ h. Adds h new u) first second in
    s ∙ ap Some (sym (puts_go_on there t u))

pub adds_none : (rows : Option (List Row)) (t : List Row) → AddsPart rows rows t
adds_none rows t = (0, adds_nothing rows)

pub adds_all : (old new : Option (List Row)) (t : List Row) → Adds old new t → AddsPart old new t
adds_all old new t all = (length t, subst (λ x. Adds old new x) (sym (take-length t)) all)

pub adds_part : (old mid new : Option (List Row)) (t u : List Row) → Adds old mid t → AddsPart mid new u → AddsPart old new (t ++ u)
adds_part old mid new t u first second =
    (length t + second.0, subst (λ x. Adds old new x) (sym (take-append-add t u second.0)) (adds_then old mid new t (take second.0 u) first second.1))

pub adds_more : (old new : Option (List Row)) (t u : List Row) → AddsPart old new t → AddsPart old new (t ++ u)
adds_more old new t u part = (length (take part.0 t), subst (λ x. Adds old new x) (sym (take_longer part.0 t u)) part.1)

-- one row was put
adds_one : (there : List Row) (row : Row) → rows_after_put there row ≡ rows_after there (row ∷ [])
unfolding rows_after
adds_one there row = refl

pub puts_one : (old new : Option (List Row)) (row : Row) → new ≡ option_map (λ there. rows_after_put there row) old → Adds old new (row ∷ [])
puts_one None new row is = is
puts_one (Some there) new row is = is ∙ ap Some (adds_one there row)

pub some_behind : (first sent : List Sent) (ms : List LinkMove) → SendsSome sent ms → SendsSome (first ++ sent) (sent_moves first ++ ms)
some_behind [] sent ms some = some
some_behind (s ∷ first) sent ms some = inl (refl, some_behind first sent ms some)

pub some_more : (sent more : List Sent) (ms : List LinkMove) → SendsSome sent ms → SendsSome (sent ++ more) ms
some_more sent more [] some = tt
some_more [] more (m ∷ ms) some = absurd some
some_more (s ∷ sent) more (m ∷ ms) some = elim some [
  | inl w ↦ inl (w.0, some_more sent more ms w.1)
  | inr w ↦ inr w
]

pub all_some : (sent : List Sent) → SendsSome sent (sent_moves sent)
all_some [] = tt
all_some (s ∷ sent) = inl (refl, all_some sent)

pub tells_more : {O : Type 0} (tells : O → List LinkMove → Type 0) (o : O) (log a b : List LinkMove) → tells o (log ++ a ++ b) → tells o (log ++ (a ++ b))
tells_more tells o log a b told = subst (tells o) (append_assoc log a b) told

pub tells_same : {O : Type 0} (tells : O → List LinkMove → Type 0) (o : O) (log : List LinkMove) → tells o log → tells o (log ++ [])
tells_same tells o log told = subst (tells o) (sym (append-nil log)) told

pub gives_nothing : {O : Type 0} (tells : O → List LinkMove → Type 0) (out : Outlets) → Gives [] [] [] tells tells out out
gives_nothing tells out = record {
  put = puts_nothing out.sink.held;
  kept = adds_nothing out.keeper.rows;
  told = λ o log told. tells_same tells o log told;
}

pub gives_then : {O : Type 0} (s u : List Sent) (t v : List ℕ) (p q : List Row) (first second third : O → List LinkMove → Type 0) (out mid new : Outlets)
    → Gives s t p first second out mid → Gives u v q second third mid new → Gives (s ++ u) (t ++ v) (p ++ q) first third out new
gives_then s u t v p q first second third out mid new a b = record {
  put = puts_then out.sink.held mid.sink.held new.sink.held t v a.put b.put;
  kept = adds_then out.keeper.rows mid.keeper.rows new.keeper.rows p q a.kept b.kept;
  told = λ o log told.
      let later : third o (log ++ sent_moves s ++ sent_moves u) = b.told o (log ++ sent_moves s) (a.told o log told) in
      subst (λ ms. third o (log ++ ms)) (sym (map-append _ s u)) (tells_more third o log (sent_moves s) (sent_moves u) later);
}

-- nothing was sent or kept
pub gives_none : {O : Type 0} (s : List Sent) (p : List Row) (tells : O → List LinkMove → Type 0) (out : Outlets)
    → GivesSome s p tells tells out out
gives_none s p tells out = record {
  kept = adds_none out.keeper.rows p;
  told = λ o log told. record { moves = []; told = tells_same tells o log told; some = tt };
}

pub gives_some_then : {O : Type 0} (s u : List Sent) (t : List ℕ) (p q : List Row) (first second third : O → List LinkMove → Type 0) (out mid new : Outlets)
    → Gives s t p first second out mid → GivesSome u q second third mid new → GivesSome (s ++ u) (p ++ q) first third out new
gives_some_then s u t p q first second third out mid new a b = record {
  kept = adds_part out.keeper.rows mid.keeper.rows new.keeper.rows p q a.kept b.kept;
  told = λ o log told.
      let later = b.told o (log ++ sent_moves s) (a.told o log told) in
      record {
        moves = sent_moves s ++ later.moves;
        told = tells_more third o log (sent_moves s) later.moves later.told;
        some = some_behind s u later.moves later.some;
      };
}

-- and more would have been
pub gives_some_more : {O : Type 0} (s u : List Sent) (p q : List Row) (first second : O → List LinkMove → Type 0) (out new : Outlets)
    → GivesSome s p first second out new → GivesSome (s ++ u) (p ++ q) first second out new
gives_some_more s u p q first second out new a = record {
  kept = adds_more out.keeper.rows new.keeper.rows p q a.kept;
  told = λ o log told.
      let some = a.told o log told in
      record { moves = some.moves; told = some.told; some = some_more s u some.moves some.some };
}

-- some first part of one piece
pub part_sent : {O : Type 0} (tells : O → List LinkMove → Type 0) (o : O) (log : List LinkMove) (s : Sent) (n : ℕ)
    → tells o (with_part n s.bytes log) → SentSome (s ∷ []) tells o log
part_sent tells o log s zero told = record { moves = []; told = tells_same tells o log told; some = tt }
part_sent tells o log s (suc n) told = record {
  moves = move.Sent (take (suc n) s.bytes) ∷ [];
  told = told;
  some = inr (suc n, refl, refl);
}
