-- How far a script is read.
use Rattle.std.specs.Prelude.{ℕ, ◌+◌, ◌++◌, ◌&&◌, Bool, not, List, [], ◌∷◌, Option, Some, None, ◌==◌}
use Rattle.std.specs.List.{list_any}
use Rattle.ads_outside.specs.declared.event.Event.TheVariants as event
use Rattle.spec_machine.specs.ScriptLine.{ScriptLine, Happens}

-- the text of a reload: the number of the line `reload`, and the bytes below it so far
pub record Block : Type 0 where
  pub line : ℕ
  pub bytes : List ℕ

-- how many lines were read, which connections they opened and closed, the reload whose text
-- goes on, and what the lines said
pub record Reading : Type 0 where
  pub lines : ℕ
  pub opened : List ℕ
  pub closed : List ℕ
  pub block : Option Block
  pub said : List ScriptLine

-- nothing was read
abbrev pub nothing_read : Reading
nothing_read = record { lines = 0; opened = []; closed = []; block = None; said = [] }

abbrev pub is_among : ℕ → List ℕ → Bool
is_among c cs = list_any (λ n. n == c) cs

-- an earlier line opened the connection, and none closed it
abbrev pub is_open : Reading → ℕ → Bool
is_open r c = is_among c r.opened && not (is_among c r.closed)

abbrev pub opened_by : ScriptLine → List ℕ
opened_by (Happens (event.Opened c)) = c ∷ []
opened_by line = []

abbrev pub closed_by : ScriptLine → List ℕ
closed_by (Happens (event.Closed c)) = c ∷ []
closed_by line = []

-- one more line was read
abbrev pub one_more_line : Reading → Reading
one_more_line r = record r { lines = r.lines + 1 }

-- it said this
abbrev pub line_said : ScriptLine → Reading → Reading
line_said line r = record r {
  lines = r.lines + 1;
  opened = r.opened ++ opened_by line;
  closed = r.closed ++ closed_by line;
  said = r.said ++ line ∷ [];
}

-- it began a reload
abbrev pub reload_begun : Reading → Reading
reload_begun r =
    record r { lines = r.lines + 1; block = Some (record { line = r.lines + 1; bytes = [] }) }

-- it is a line of a reload's text, with its end
abbrev pub reload_goes_on : Block → List ℕ → Reading → Reading
reload_goes_on b line r =
    record r { lines = r.lines + 1; block = Some (record b { bytes = b.bytes ++ line }) }

-- it ends a reload
abbrev pub reload_ended : Block → Reading → Reading
reload_ended b r = record r {
  lines = r.lines + 1;
  block = None;
  said = r.said ++ Happens (event.Reload b.bytes) ∷ [];
}
