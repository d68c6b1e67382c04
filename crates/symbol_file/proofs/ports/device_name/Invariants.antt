use Rattle.std.proofs.Common.{◌≡◌, ◌-◌, ◌++◌, take, replicate}
use Rattle.symbol_file.proofs.ports.device_name.Given as goal

-- the bytes before this one, and NULs
abbrev pub invariant-loop-i : goal.invariant-loop-i
invariant-loop-i l = l.name ≡ take l.i l.text ++ replicate (16 - l.i) 0
