-- When two names lead to one file. This project's own choice, by Linux's numbers of files.
use Rattle.std.specs.Prelude.{ℕ, List, Bool, true, false, ◌&&◌, ◌==◌, bytes_eq}
use Rattle.daemon_outside.specs.declared.place.Node.{Node}
use Rattle.daemon_outside.specs.declared.place.Place.{Place}
use Rattle.daemon_outside.specs.declared.place.Place.TheVariants.{File, Other, Free, Unknown}

-- one file, folder, pipe or device
abbrev pub is_same_node : Node → Node → Bool
is_same_node a b = a.device == b.device && a.number == b.number

-- they have one place: one file, whatever its names are; or the same last name in one folder, where nothing stands yet
abbrev pub are_one : Place → Place → Bool
are_one (File a) (File b) = is_same_node a b
are_one (Other a) (Other b) = is_same_node a b
are_one (Free folder name) (Free other last) = is_same_node folder other && bytes_eq name last
are_one _ _ = false
