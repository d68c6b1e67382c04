-- Sessions that were asked at a tick or a reload, each unless its connection is closing.
use Rattle.std.specs.Prelude.{◌≡◌, List, [], ◌∷◌, true, false}
use Rattle.spec_plant.specs.World.{Plant}
use Rattle.session.specs.StandsFor.{StandsFor}
use Rattle.server_core.specs.declared.turned.Turned.{Turned}
use Rattle.server_core.specs.Served.{Client}
use Rattle.server_core.specs.Delivering.{Outcomes, Gives}

-- from a plant to another; the outcome is that of any client that the session stood for, and one that is left out stays
-- wholly as it is
pub record IsAsked (old_plant plant : Plant) (outcome : Outcomes) (old new : Turned) : Type 0 where
  pub skip : new.skip ≡ old.skip
  pub left_out : old.skip ≡ true → new ≡ old
  pub stream : new.session.stream ≡ old.session.stream
  pub gives : old.skip ≡ false → (c : Client) → StandsFor old_plant c old.session → Gives plant (outcome c) new

abbrev pub EachAsked : Plant → Plant → Outcomes → List Turned → List Turned → Type 0
EachAsked old_plant plant outcome [] [] = Unit {0}
EachAsked old_plant plant outcome [] (u ∷ us) = ⊥
EachAsked old_plant plant outcome (t ∷ ts) [] = ⊥
EachAsked old_plant plant outcome (t ∷ ts) (u ∷ us) =
    IsAsked old_plant plant outcome t u × EachAsked old_plant plant outcome ts us
