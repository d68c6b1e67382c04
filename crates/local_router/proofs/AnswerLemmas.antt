-- An answer that is offered: what was logged.
use Rattle.std.proofs.Common.{◌≡◌, ℕ, ◌<◌, List, [], ◌∷◌, length, take, refl, ap, sym, ◌∙◌, inl, inr}
use Rattle.std.specs.Prelude.{Bool, true, false, Result, Ok, Err, IfOk}
use Rattle.std.proofs.Math.Seq.{take-length}
use Rattle.std.proofs.lemmas.List.{nil_from_length}
use Rattle.ads_outside.specs.declared.moves.Move.{Move}
use Rattle.ads_outside.specs.declared.moves.Move.TheVariants as move
use Rattle.ads_outside.specs.WireState.{WireHistory, logged, bytes_taken, history_after}
use Rattle.local_router.specs.Routes.{whole_moves, Answers}
use Rattle.local_router.specs.Seen.{SameBeside, beside}

pub beside_logged : (m : Move) (h h1 : WireHistory) → h1 ≡ logged m h → SameBeside h h1
beside_logged m h h1 is = ap beside is

pub beside_taken : (c offered : ℕ) (bytes : List ℕ) (h h1 : WireHistory) → h1 ≡ bytes_taken c offered bytes h → SameBeside h h1
beside_taken c offered bytes h h1 is = ap beside is

pub beside_same : (h h1 : WireHistory) → h1 ≡ h → SameBeside h h1
beside_same h h1 is = ap beside is

pub beside_on : (c offered : ℕ) (bytes : List ℕ) (h h1 h2 : WireHistory) → h1 ≡ bytes_taken c offered bytes h → SameBeside h1 h2 → SameBeside h h2
beside_on c offered bytes h h1 h2 is then = then ∙ ap beside is

-- nothing to offer
pub answers_nothing : (c : ℕ) (reply : List ℕ) (h : WireHistory) → length reply ≡ 0 → Answers true c reply h h
unfolding history_after
answers_nothing c reply h none = record {
  moves = [];
  offered = ap (whole_moves c) (sym (nil_from_length reply none));
  history = refl;
}

moves_of_some : (c : ℕ) (reply : List ℕ) → (length reply ≡ 0 → ⊥) → move.Took c (length reply) reply ∷ [] ≡ whole_moves c reply
moves_of_some c [] some = absurd (some refl)
moves_of_some c (b ∷ bs) some = refl

-- all is taken
pub answers_whole : (c n : ℕ) (reply : List ℕ) (h h1 : WireHistory) → (length reply ≡ 0 → ⊥) → n ≡ length reply
    → h1 ≡ bytes_taken c (length reply) (take n reply) h → Answers true c reply h h1
unfolding history_after
answers_whole c n reply h h1 some all is = record {
  moves = move.Took c (length reply) reply ∷ [];
  offered = moves_of_some c reply some;
  history = is ∙ ap (λ k. bytes_taken c (length reply) (take k reply) h) all
      ∙ ap (λ bytes. bytes_taken c (length reply) bytes h) (take-length reply);
}

-- the connection is lost
pub answers_lost : (c : ℕ) (reply : List ℕ) (h h1 : WireHistory) → h1 ≡ logged (move.Lost c) h → Answers false c reply h h1
unfolding history_after
answers_lost c reply h h1 is = record { moves = move.Lost c ∷ []; offered = inl refl; history = is }

-- a part is taken, and the connection is shut
pub answers_cut : {E : Type 0} (result : Result Bool E) (c n : ℕ) (reply : List ℕ) (h h1 h2 : WireHistory) → n < length reply
    → h1 ≡ bytes_taken c (length reply) (take n reply) h
    → IfOk result (λ whole. (whole ≡ false) × (h2 ≡ logged (move.Shut c) h1)) → IfOk result (λ whole. Answers whole c reply h h2)
unfolding history_after
answers_cut (Ok true) c n reply h h1 h2 part is then = absurd (let e : true ≡ false = then.0 in cc)
answers_cut (Ok false) c n reply h h1 h2 part is then = record {
  moves = move.Took c (length reply) (take n reply) ∷ move.Shut c ∷ [];
  offered = inr (record { taken = n; part = part; is = refl });
  history = then.1 ∙ ap (logged (move.Shut c)) is;
}
answers_cut (Err e) c n reply h h1 h2 part is then = tt
