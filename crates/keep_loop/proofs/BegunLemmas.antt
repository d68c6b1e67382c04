-- Saves that were begun, one behind others: what may stand, and which bodies they were of.
use Rattle.std.proofs.Common.{◌≡◌, ℕ, ◌+◌, List, [], ◌∷◌, ◌++◌, length, true, false, refl, ap, ◌∙◌, subst, append-nil, inl, inr}
use Rattle.std.specs.Prelude.{Bool, Option, Some, filter}
use Rattle.std.proofs.lemmas.List.{map-append, length-append}
use Rattle.std.proofs.lemmas.List.Elements.{filter-append}
use Rattle.spec_store.specs.Slots.{Standing}
use Rattle.spec_store.specs.Saves.{standing_after}
use Rattle.spec_store.specs.Runs.{IsOneOf}
use Rattle.keep_loop.specs.KeepingOn.{Begun, MayStand, StoodOnce, AreSomeOf, StandsForOneOf, bodies_begun, all_done, done_in, IsAnyOver}

pub may-append : (bs cs : List Begun) (standing mid one : Option Standing) → MayStand standing bs mid → MayStand mid cs one
    → MayStand standing (bs ++ cs) one
unfolding MayStand
may-append [] cs standing mid one is later =
    let P : Option Standing → Type 0 = λ t. MayStand t cs one in
    subst P is later
may-append (b ∷ bs) cs standing mid one (inl first) later = inl (may-append bs cs (Some (standing_after standing b.body)) mid one first later)
may-append (b ∷ bs) cs standing mid one (inr (failed, first)) later = inr (failed, may-append bs cs standing mid one first later)

once_here : (bs : List Begun) (standing one : Option Standing) → one ≡ standing → StoodOnce standing bs one
unfolding StoodOnce
once_here [] standing one is = is
once_here (b ∷ bs) standing one is = inl is

-- what stood once behind some stood once behind more
pub once_first : (bs cs : List Begun) (standing one : Option Standing) → StoodOnce standing bs one → StoodOnce standing (bs ++ cs) one
unfolding StoodOnce
once_first [] cs standing one is = once_here cs standing one is
once_first (b ∷ bs) cs standing one (inl is) = inl is
once_first (b ∷ bs) cs standing one (inr (inl later)) = inr (inl (once_first bs cs (Some (standing_after standing b.body)) one later))
once_first (b ∷ bs) cs standing one (inr (inr (failed, later))) = inr (inr (failed, once_first bs cs standing one later))

pub once_last : (bs cs : List Begun) (standing mid one : Option Standing) → MayStand standing bs mid → StoodOnce mid cs one
    → StoodOnce standing (bs ++ cs) one
unfolding StoodOnce MayStand
once_last [] cs standing mid one is later =
    let P : Option Standing → Type 0 = λ t. StoodOnce t cs one in
    subst P is later
once_last (b ∷ bs) cs standing mid one (inl first) later = inr (inl (once_last bs cs (Some (standing_after standing b.body)) mid one first later))
once_last (b ∷ bs) cs standing mid one (inr (failed, first)) later = inr (inr (failed, once_last bs cs standing mid one first later))

-- what may stand stands once
pub may_once : (bs : List Begun) (standing one : Option Standing) → MayStand standing bs one → StoodOnce standing bs one
unfolding StoodOnce MayStand
may_once [] standing one is = is
may_once (b ∷ bs) standing one (inl first) = inr (inl (may_once bs (Some (standing_after standing b.body)) one first))
may_once (b ∷ bs) standing one (inr (failed, first)) = inr (inr (failed, may_once bs standing one first))

-- one save that was begun
pub one_once : (mid one : Option Standing) (body : List ℕ) (done : Bool) → IsOneOf mid (body ∷ []) one
    → StoodOnce mid (record { body = body; done = done } ∷ []) one
unfolding StoodOnce IsOneOf
one_once mid one body done (inl is) = inl is
one_once mid one body done (inr is) = inr (inl is)

pub one_may : (mid one : Option Standing) (body : List ℕ) → IsOneOf mid (body ∷ []) one → MayStand mid (record { body = body; done = false } ∷ []) one
unfolding MayStand IsOneOf
one_may mid one body (inl is) = inr (refl, is)
one_may mid one body (inr is) = inl is

-- one that was done
pub done_may : (mid one : Option Standing) (body : List ℕ) → one ≡ Some (standing_after mid body)
    → MayStand mid (record { body = body; done = true } ∷ []) one
unfolding MayStand
done_may mid one body is = inl is

-- none was begun
pub none_may : (standing one : Option Standing) → one ≡ standing → MayStand standing [] one
unfolding MayStand
none_may standing one is = is

pub none_once : (standing one : Option Standing) → one ≡ standing → StoodOnce standing [] one
unfolding StoodOnce
none_once standing one is = is

pub some_none : (all : List (List ℕ)) → AreSomeOf [] all
unfolding AreSomeOf
some_none all = tt

-- some of these are some of more
pub some_first : (bs all more : List (List ℕ)) → AreSomeOf bs all → AreSomeOf bs (all ++ more)
unfolding AreSomeOf
some_first [] all more some = tt
some_first (b ∷ bs) [] more some = absurd some
some_first (b ∷ bs) (c ∷ cs) more (inl (is, some)) = inl (is, some_first bs cs more some)
some_first (b ∷ bs) (c ∷ cs) more (inr some) = inr (some_first (b ∷ bs) cs more some)

-- and one more of each
pub some_more : (bs all : List (List ℕ)) (b : List ℕ) → AreSomeOf bs all → AreSomeOf (bs ++ b ∷ []) (all ++ b ∷ [])
unfolding AreSomeOf
some_more [] [] b some = inl (refl, tt)
some_more [] (c ∷ cs) b some = inr (some_more [] cs b tt)
some_more (a ∷ bs) [] b some = absurd some
some_more (a ∷ bs) (c ∷ cs) b (inl (is, some)) = inl (is, some_more bs cs b some)
some_more (a ∷ bs) (c ∷ cs) b (inr some) = inr (some_more (a ∷ bs) cs b some)

-- a body is one of those of which it is the last
pub some_last : (all : List (List ℕ)) (b : List ℕ) → AreSomeOf (b ∷ []) (all ++ b ∷ [])
some_last all b = some_more [] all b (some_none all)

pub bodies_more : (begun : List Begun) (b : Begun) → bodies_begun (begun ++ b ∷ []) ≡ bodies_begun begun ++ b.body ∷ []
bodies_more begun b = map-append (λ (a : Begun). a.body) begun (b ∷ [])

pub all_more : (bodies : List (List ℕ)) (body : List ℕ) → all_done (bodies ++ body ∷ []) ≡ all_done bodies ++ record { body = body; done = true } ∷ []
all_more bodies body =
    let as_done : List ℕ → Begun = λ b. record { body = b; done = true } in
    map-append as_done bodies (body ∷ [])

pub done_more : (begun : List Begun) (body : List ℕ) → done_in (begun ++ record { body = body; done = true } ∷ []) ≡ done_in begun + 1
done_more begun body =
    let one : Begun = record { body = body; done = true } in
    let is_done : Begun → Bool = λ b. b.done in
    ap length (filter-append is_done begun (one ∷ [])) ∙ length-append (filter is_done begun) (filter is_done (one ∷ []))

pub failed_more : (begun : List Begun) (body : List ℕ) → done_in (begun ++ record { body = body; done = false } ∷ []) ≡ done_in begun
failed_more begun body =
    let one : Begun = record { body = body; done = false } in
    let is_done : Begun → Bool = λ b. b.done in
    ap length (filter-append is_done begun (one ∷ [])) ∙ ap length (append-nil (filter is_done begun))

pub over_first : (all more : List (List ℕ)) → IsAnyOver all → IsAnyOver (all ++ more)
over_first all more over = record {
  standing = over.standing;
  body = over.body;
  is_in = some_first (over.body ∷ []) all more over.is_in;
  over = over.over;
}

-- one of these bodies is one of them with another between
between : (x first other : List ℕ) (all : List (List ℕ)) → AreSomeOf (x ∷ []) (first ∷ all) → AreSomeOf (x ∷ []) (first ∷ other ∷ all)
unfolding AreSomeOf
between x first other all (inl is) = inl is
between x first other all (inr later) = inr (inr later)

-- what may stand behind a standing stands for it, or for a body of which a save was begun
may_one_of : (cs : List Begun) (standing : Standing) (one : Option Standing) → MayStand (Some standing) cs one
    → StandsForOneOf (standing.slot.body ∷ bodies_begun cs) one
unfolding MayStand AreSomeOf
may_one_of [] standing one is = record { standing = standing; is = is; is_in = inl (refl, tt) }
may_one_of (b ∷ cs) standing one (inl later) =
    let by = may_one_of cs (standing_after (Some standing) b.body) one later in
    record { standing = by.standing; is = by.is; is_in = inr by.is_in }
may_one_of (b ∷ cs) standing one (inr (failed, later)) = go (may_one_of cs standing one later)
  where
    go : StandsForOneOf (standing.slot.body ∷ bodies_begun cs) one → StandsForOneOf (standing.slot.body ∷ b.body ∷ bodies_begun cs) one
    go by = record { standing = by.standing; is = by.is; is_in = between by.standing.slot.body standing.slot.body b.body (bodies_begun cs) by.is_in }

-- behind a save that was done
pub done_later : (bs cs : List Begun) (standing one : Option Standing) (body : List ℕ)
    → MayStand standing (bs ++ record { body = body; done = true } ∷ cs) one → StandsForOneOf (body ∷ bodies_begun cs) one
unfolding MayStand
done_later [] cs standing one body (inl later) = may_one_of cs (standing_after standing body) one later
done_later [] cs standing one body (inr (failed, later)) = absurd (let never : true ≡ false = failed in cc)
done_later (b ∷ bs) cs standing one body (inl later) = done_later bs cs (Some (standing_after standing b.body)) one body later
done_later (b ∷ bs) cs standing one body (inr (failed, later)) = done_later bs cs standing one body later
