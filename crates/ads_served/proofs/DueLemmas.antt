-- Which lists of numbers leave out idle connections alone.
use Rattle.std.proofs.Common.{◌≡◌, ℕ, List, [], ◌∷◌, true, false, refl, ap}
use Rattle.std.specs.Prelude.{filter, Bool, ◌||◌, Option, Some, None, is_some}
use Rattle.spec_machine.specs.MachineState.{present_numbers}
use Rattle.spec_machine.specs.Running.{Running, offer_at, is_to_be_shut_at}
use Rattle.ads_served.specs.Due.{LeavesOutIdle, is_due}

filter_all : (ns : List ℕ) → ns ≡ filter (λ n. true) ns
filter_all [] = refl
filter_all (n ∷ ns) = ap (λ ms. n ∷ ms) (filter_all ns)

-- all connections that are there
pub leaves_out_none : {W C : Type 0} (x : Running W C) → LeavesOutIdle x (present_numbers x.state)
leaves_out_none x = record { is_in = λ n. true; are = filter_all (present_numbers x.state); idle = λ c e. (absurd (let no : true ≡ false = e in cc)) }

or_first : (a b : Bool) → (a || b) ≡ false → a ≡ false
or_first true b e = e
or_first false b e = refl

or_second : (a b : Bool) → (a || b) ≡ false → b ≡ false
or_second true b e = cc
or_second false b e = e

none_of_test : (o : Option (List ℕ)) → is_some o ≡ false → o ≡ None
none_of_test None e = refl
none_of_test (Some left) e = cc

-- all that are due
pub leaves_out_idle : {W C : Type 0} (x : Running W C) → LeavesOutIdle x (filter (is_due x) (present_numbers x.state))
leaves_out_idle x = record {
  is_in = is_due x;
  are = refl;
  idle = λ c e. record {
    no_offer = none_of_test (offer_at c x) (or_first (is_some (offer_at c x)) (is_to_be_shut_at c x) e);
    stays = or_second (is_some (offer_at c x)) (is_to_be_shut_at c x) e;
  };
}
