-- How streams grow, by one move behind others and by a run.
use Rattle.std.proofs.Common.{◌≡◌, ℕ, List, [], ◌∷◌, ◌++◌, length, true, false, refl, sym, ap, ◌∙◌, append-nil, append_assoc}
use Rattle.std.specs.Prelude.{Bool, Option, Some, None, ◌==◌, if◌then◌else◌}
use Rattle.std.specs.List.{concat}
use Rattle.std.specs.Option.{option_map}
use Rattle.ads_outside.specs.declared.moves.Move.{Move}
use Rattle.ads_outside.specs.declared.moves.Move.TheVariants as move
use Rattle.ads_outside.specs.Streams.{Streams, grown, streams_after_move, streams_after}
use Rattle.ads_outside.specs.Wholes.{wholes}
use Rattle.ads_outside.specs.WireState.{WireHistory, bytes_taken, history_after}

pub streams_more : (s : Streams) (log : List Move) (m : Move) → streams_after s (log ++ m ∷ []) ≡ streams_after_move (streams_after s log) m
unfolding streams_after
streams_more s [] m = refl
streams_more s (first ∷ log) m = streams_more (streams_after_move s first) log m

none_where : (b : Bool) (xs : List ℕ) → (if b then xs ++ [] else xs) ≡ xs
none_where true xs = append-nil xs
none_where false xs = refl

-- no bytes are no change
pub grown_none : (c : ℕ) (s : Streams) → grown c [] s ≡ s
grown_none c s = λ i n. none_where (c == n) (s n) i

more_where : (b : Bool) (xs ys zs : List ℕ)
    → (if b then (if b then xs ++ ys else xs) ++ zs else (if b then xs ++ ys else xs)) ≡ (if b then xs ++ (ys ++ zs) else xs)
more_where true xs ys zs = append_assoc xs ys zs
more_where false xs ys zs = refl

-- bytes behind bytes
pub grown_more : (c : ℕ) (s : Streams) (ys zs : List ℕ) → grown c zs (grown c ys s) ≡ grown c (ys ++ zs) s
grown_more c s ys zs = λ i n. more_where (c == n) (s n) ys zs i

told_none : (c : ℕ) (o : Option Streams) → option_map (grown c []) o ≡ o
told_none c None = refl
told_none c (Some s) = ap Some (grown_none c s)

told_more : (c : ℕ) (o : Option Streams) (ys zs : List ℕ) → option_map (grown c zs) (option_map (grown c ys) o) ≡ option_map (grown c (ys ++ zs)) o
told_more c None ys zs = refl
told_more c (Some s) ys zs = ap Some (grown_more c s ys zs)

unlogged_still : (m : Move) (o : Option (List Move)) → o ≡ None → option_map (λ ms. ms ++ m ∷ []) o ≡ o
unlogged_still m None e = refl
unlogged_still m (Some log) e = cc

-- frames that are taken whole by a wire that does not tell its log: its connection's stream grows by all of them
pub run_taken : (h : WireHistory) (c : ℕ) (frames : List (List ℕ)) → h.log ≡ None
    → history_after h (wholes c frames) ≡ record h { streams = option_map (grown c (concat frames)) h.streams }
unfolding history_after
run_taken h c [] e = ap (λ (s : Option Streams). record h { streams = s }) (sym (told_none c h.streams))
run_taken h c (f ∷ fs) e =
    let still = unlogged_still (move.Took c (length f) f) h.log e in
    run_taken (bytes_taken c (length f) f h) c fs (still ∙ e)
    ∙ (ap (λ (log : Option (List Move)). record h { log = log; streams = option_map (grown c (concat fs)) (option_map (grown c f) h.streams) }) still
    ∙ ap (λ (s : Option Streams). record h { streams = s }) (told_more c h.streams f (concat fs)))
