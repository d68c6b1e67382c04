use Rattle.spec_laws.proofs.Profiles.{strict_sums, wide_sums_are}
use Rattle.spec_laws.proofs.profiles_differ_in_sums.Goals as goal

pub returns-clause-strict : goal.returns-clause-strict
returns-clause-strict c = strict_sums

pub returns-clause-wide : goal.returns-clause-wide
returns-clause-wide c = wide_sums_are
