use Rattle.std.proofs.Common.{◌≡◌, ◌++◌, map}
use Rattle.std.specs.List.{range_with_len}
use Rattle.load_maker.specs.MadeLines.{script_text}
use Rattle.load_maker.specs.LoadScript.{watch_line}
use Rattle.load_maker.proofs.watches.put_watches_of.Given as goal

-- the lines so far
abbrev pub invariant-loop-j : goal.invariant-loop-j
invariant-loop-j l = l.out ≡ l.initial.out ++ script_text (map (watch_line l.fn.client) (range_with_len 0 l.j))
