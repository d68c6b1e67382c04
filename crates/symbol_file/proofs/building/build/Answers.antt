use Rattle.std.proofs.Common.{refl}
use Rattle.symbol_file.proofs.building.build.Goals as goal

pub ports_of-requires-clause-fit : goal.ports_of-requires-clause-fit
ports_of-requires-clause-fit c = rw (c.as_slice.ensures.value, c.requires.known.types) c.requires.fits.ports
