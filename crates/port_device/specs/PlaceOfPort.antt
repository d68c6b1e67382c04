-- For a private contract: where a port stands in the order of the description.
use Rattle.std.specs.Prelude.{ℕ, suc, List, [], ◌∷◌, ◌==◌, if◌then◌else◌}
use Rattle.port_device.specs.PortMemory.{PortMemory}

-- the place of the first port with a number; how many ports there are, where there is none
abbrev pub place_numbered : ℕ → List PortMemory → ℕ
place_numbered number [] = 0
place_numbered number (m ∷ ms) = if m.number == number then 0 else suc (place_numbered number ms)
