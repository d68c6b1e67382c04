-- What is given one after another.
use Rattle.std.proofs.lemmas.List.{map-append, append-nil}

pub ruleset outputs = (map-append, append-nil)
