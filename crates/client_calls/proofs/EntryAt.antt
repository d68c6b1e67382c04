-- An entry of a list that is seen in another form.
use Rattle.std.proofs.lemmas.Option.{slice_get-map}

pub ruleset entry_at = (slice_get-map)
