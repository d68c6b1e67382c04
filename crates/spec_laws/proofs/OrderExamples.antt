-- Notifications and samples in their order, numbers that grow, and replies that fit, by computation.
use Rattle.std.specs.Prelude.{ℕ, List, [], ◌∷◌, None}
use Rattle.std.proofs.Common.{lit<, lit≤}
use Rattle.std.proofs.lemmas.Bool.{false≢true, le-leb}
use Rattle.spec_plant.proofs.Plant.{ENGINEER}
use Rattle.spec_formats.specs.Notification.{Sample}
use Rattle.spec_machine.specs.Access.{Addressed}
use Rattle.spec_machine.specs.Connection.{Connection, fresh_connection}
use Rattle.spec_machine.specs.Watches.{Watch, Cyclic}
use Rattle.spec_machine.specs.Client.{Client, new_client}
use Rattle.spec_laws.specs.Rising.{AreRising, WatchesRise, SamplesRise}
use Rattle.spec_laws.specs.Refusals.{NumbersGrow}

abbrev watch : ℕ → Watch (List Addressed)
watch handle = record {
  handle = handle;
  port = 851;
  address = record { net = ENGINEER; port = 32905 };
  watched = [];
  mode = Cyclic;
  cycle = 0;
  last = None;
  sent = [];
}

abbrev sample : ℕ → Sample
sample handle = record { handle = handle; bytes = [] }

-- a client that added so many notifications, of which these are left
abbrev client_with : ℕ → List (Watch (List Addressed)) → Client
client_with additions watches = record new_client { additions = additions; watches = watches }

abbrev connection_with : ℕ → Connection Client
connection_with additions = fresh_connection (client_with additions []) 1

fallen : AreRising 0 (watch 2 ∷ watch 1 ∷ []) 2 → ⊥
fallen (first, (second, rest)) = false≢true (le-leb 3 1 second)

same_twice : AreRising 0 (watch 2 ∷ watch 2 ∷ []) 2 → ⊥
same_twice (first, (second, rest)) = false≢true (le-leb 3 2 second)

above_all : WatchesRise (client_with 1 (watch 2 ∷ [])) → ⊥
above_all (first, rest) = false≢true (le-leb 2 1 rest)

numbered_zero : WatchesRise (client_with 1 (watch 0 ∷ [])) → ⊥
numbered_zero (first, rest) = false≢true (le-leb 1 0 first)

samples_twice : SamplesRise 0 (sample 1 ∷ sample 1 ∷ []) → ⊥
samples_twice (first, (second, rest)) = false≢true (le-leb 2 1 second)

samples_fall : SamplesRise 0 (sample 3 ∷ sample 1 ∷ []) → ⊥
samples_fall (first, (second, rest)) = false≢true (le-leb 4 1 second)

pub record OrderRows : Type 0 where
  -- a deleted notification leaves a gap
  pub rise : WatchesRise (client_with 4 (watch 1 ∷ watch 3 ∷ []))
  pub none : WatchesRise new_client
  pub not_fallen : AreRising 0 (watch 2 ∷ watch 1 ∷ []) 2 → ⊥
  pub not_twice : AreRising 0 (watch 2 ∷ watch 2 ∷ []) 2 → ⊥
  pub not_above : WatchesRise (client_with 1 (watch 2 ∷ [])) → ⊥
  pub not_zero : WatchesRise (client_with 1 (watch 0 ∷ [])) → ⊥
  pub samples : SamplesRise 0 (sample 1 ∷ sample 3 ∷ [])
  pub no_sample_twice : SamplesRise 0 (sample 1 ∷ sample 1 ∷ []) → ⊥
  pub no_sample_back : SamplesRise 0 (sample 3 ∷ sample 1 ∷ []) → ⊥
  pub grows : NumbersGrow (connection_with 1) (connection_with 3)
  pub does_not_fall : NumbersGrow (connection_with 3) (connection_with 1) → ⊥

pub order_rows : OrderRows
order_rows = record {
  rise = (lit< tt, (lit< tt, lit≤ tt));
  none = lit≤ tt;
  not_fallen = fallen;
  not_twice = same_twice;
  not_above = above_all;
  not_zero = numbered_zero;
  samples = (lit< tt, (lit< tt, tt));
  no_sample_twice = samples_twice;
  no_sample_back = samples_fall;
  grows = record { handles = lit≤ tt; additions = lit≤ tt };
  does_not_fall = λ g. false≢true (le-leb 3 1 g.additions);
}
