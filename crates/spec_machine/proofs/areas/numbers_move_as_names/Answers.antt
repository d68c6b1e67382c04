use Rattle.spec_machine.proofs.PlacesMoved.{found_places_are_same, same_places_have_same_bytes, places_move_alike}
use Rattle.spec_machine.proofs.RangesMoved.{watched_move_alike}
use Rattle.spec_machine.proofs.areas.numbers_move_as_names.Goals as goal

pub returns-clause-found : goal.returns-clause-found
returns-clause-found c = found_places_are_same

pub returns-clause-bytes : goal.returns-clause-bytes
returns-clause-bytes c = same_places_have_same_bytes

pub returns-clause-places : goal.returns-clause-places
returns-clause-places c = places_move_alike

pub returns-clause-watched : goal.returns-clause-watched
returns-clause-watched c = watched_move_alike
