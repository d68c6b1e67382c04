-- Rows that are where they stay, or a keeper that failed.
use Rattle.std.proofs.Common.{refl, inl, inr}
use Rattle.client_loop.proofs.turning.settle_behind.Goals as goal

pub returns-in-Done-clause-settled : goal.returns-in-Done-clause-settled
returns-in-Done-clause-settled g c = inl refl

pub returns-in-Failed-clause-settled : goal.returns-in-Failed-clause-settled
returns-in-Failed-clause-settled g c = inr (refl, c.in-Failed.ensures.failed refl)
