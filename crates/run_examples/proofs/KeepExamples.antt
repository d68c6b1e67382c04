-- Which bodies of a run are saved, and what saves that were begun may leave, by computation.
use Rattle.std.specs.Prelude.{◌≡◌, refl, ℕ, ◌-◌, ◌^◌, List, [], ◌∷◌, map, replicate, true, false, Bool, Option, Some, None, is_some, bytes_eq, ◌==◌}
use Rattle.std.proofs.Common.{ap, inl, inr, sym}
use Rattle.std.proofs.lemmas.Bool.{false≢true}
use Rattle.ads_outside.specs.declared.event.Event.TheVariants as event
use Rattle.ads_outside.specs.declared.moves.Move.TheVariants as move
use Rattle.spec_store.specs.Slots.{Standing}
use Rattle.spec_store.specs.Saves.{standing_after}
use Rattle.keep_loop.specs.declared.save_counts.SaveCounts.{SaveCounts}
use Rattle.keep_loop.specs.declared.save_end.SaveEnd.TheVariants as save
use Rattle.keep_loop.specs.Bodies.{bodies_at_move, is_any_over, is_standing, paced, saves_in}
use Rattle.keep_loop.specs.KeepingOn.{AreFirstOf, AreSomeOf, Begun, IsAnyOver, IsWhole, MayStand, StoodOnce, all_done, bodies_begun, done_in, is_kept}

-- three bodies
abbrev a : List ℕ
a = 1 ∷ []

abbrev b : List ℕ
b = 2 ∷ []

abbrev c : List ℕ
c = 3 ∷ []

-- a body is looked at behind a tick, and behind nothing else
at_a_tick : bodies_at_move (move.Event (event.Tick 5)) a ≡ a ∷ []
at_a_tick = refl

at_no_other : map (λ m. bodies_at_move m a) (move.Event (event.Opened 1) ∷ move.Event (event.Piece 1 b) ∷ move.Event (event.Closed 1)
    ∷ move.Event (event.Reload b) ∷ move.Event (event.Writable 1) ∷ move.Took 1 1 b ∷ move.Lost 1 ∷ move.Shut 1 ∷ [])
    ≡ replicate 8 []
at_no_other = refl

-- of five bodies behind ticks each second one is looked at; or each
each_second : paced 2 1 (a ∷ b ∷ c ∷ a ∷ b ∷ []) ≡ b ∷ a ∷ []
unfolding paced
each_second = refl

each : paced 1 0 (a ∷ b ∷ c ∷ []) ≡ a ∷ b ∷ c ∷ []
unfolding paced
each = refl

-- a body is saved that differs from the one before, the first of them from what stood
saved : saves_in None (a ∷ a ∷ b ∷ b ∷ a ∷ []) ≡ a ∷ b ∷ a ∷ []
unfolding saves_in
saved = refl

stood_already : saves_in (Some a) (a ∷ a ∷ b ∷ []) ≡ b ∷ []
unfolding saves_in
stood_already = refl

nothing_stands : map (λ stood. is_standing stood a) (None ∷ Some a ∷ Some b ∷ []) ≡ false ∷ true ∷ false ∷ []
nothing_stands = refl

-- a store whose last number is one below the greatest takes one save more
abbrev standing : ℕ → List ℕ → Standing
standing sequence body = record { is_second = false; slot = record { sequence = sequence; body = body } }

one_more : is_any_over (Some (standing (2 ^ 64 - 2) a)) (b ∷ []) ≡ false
unfolding is_any_over
one_more = refl

and_none_then : is_any_over (Some (standing (2 ^ 64 - 2) a)) (b ∷ a ∷ []) ≡ true
unfolding is_any_over
and_none_then = refl

-- saves that were begun: that of `a` was done, that of `b` was not
abbrev begun : Bool → List ℕ → Begun
begun done body = record { body = body; done = done }

abbrev two : List Begun
two = begun true a ∷ begun false b ∷ []

counted : done_in two ≡ 1
counted = refl

their_bodies : bodies_begun two ≡ a ∷ b ∷ []
their_bodies = refl

all_of_them : all_done (a ∷ b ∷ []) ≡ begun true a ∷ begun true b ∷ []
all_of_them = refl

abbrev body_in : Option Standing → List ℕ
body_in None = []
body_in (Some s) = s.slot.body

-- behind them stands `a`, or `b`; never nothing, since the first was done
done_stands : MayStand None two (Some (standing_after None a))
unfolding MayStand
done_stands = inl (inr (refl, refl))

other_stands : MayStand None two (Some (standing_after (Some (standing_after None a)) b))
unfolding MayStand
other_stands = inl (inl refl)

nothing_left : MayStand None two None → ⊥
unfolding MayStand
nothing_left (inl (inl e)) = false≢true (ap is_some e)
nothing_left (inl (inr (undone, e))) = false≢true (ap is_some e)
nothing_left (inr (undone, h)) = false≢true (sym undone)

-- at some moment before nothing stood
nothing_stood_once : StoodOnce None two None
unfolding StoodOnce
nothing_stood_once = inl refl

never_stood : StoodOnce None (begun true a ∷ []) (Some (standing 1 c)) → ⊥
unfolding StoodOnce
never_stood (inl e) = false≢true (sym (ap is_some e))
never_stood (inr (inl e)) = false≢true (ap (λ s. bytes_eq (body_in s) a) e)
never_stood (inr (inr (undone, h))) = false≢true (sym undone)

-- some of three bodies, in their order
some : AreSomeOf (a ∷ c ∷ []) (a ∷ b ∷ c ∷ [])
unfolding AreSomeOf
some = inl (refl, inr (inl (refl, tt)))

another_order : AreSomeOf (b ∷ a ∷ []) (a ∷ b ∷ []) → ⊥
unfolding AreSomeOf
another_order (inl (e, h)) = false≢true (ap (λ l. bytes_eq l a) e)
another_order (inr (inl (e, h))) = h
another_order (inr (inr h)) = h

-- a first part of them
first_part : AreFirstOf (a ∷ []) (a ∷ b ∷ c ∷ [])
first_part = record { rest = b ∷ c ∷ []; is = refl }

abbrev first_of : List (List ℕ) → List ℕ
first_of [] = []
first_of (x ∷ xs) = x

no_first_part : AreFirstOf (b ∷ []) (a ∷ b ∷ []) → ⊥
no_first_part f = false≢true (ap (λ l. bytes_eq (first_of l) b) f.is)

-- one of them is over a limit: of a store whose numbers are used
is_over : IsAnyOver (a ∷ b ∷ [])
unfolding AreSomeOf
is_over = record { standing = Some (standing (2 ^ 64 - 1) a); body = b; is_in = inr (inl (refl, tt)); over = refl }

-- what became of what was looked at
abbrev counts : ℕ → ℕ → ℕ → ℕ → SaveCounts
counts saved failed wanted over = record { saved = saved; failed = failed; wanted = wanted; over = over }

whole : IsWhole (counts 7 0 0 0)
whole = record { failed = refl; wanted = refl; over = refl }

one_failed : IsWhole (counts 7 1 0 0) → ⊥
one_failed w = false≢true (sym (ap (λ n. n == 1) w.failed))

one_wanted : IsWhole (counts 7 0 1 0) → ⊥
one_wanted w = false≢true (sym (ap (λ n. n == 1) w.wanted))

kept : map is_kept (None ∷ Some save.Same ∷ Some save.Saved ∷ Some save.Failed ∷ Some save.Limit ∷ Some save.Memory ∷ [])
    ≡ false ∷ true ∷ true ∷ false ∷ false ∷ false ∷ []
kept = refl
