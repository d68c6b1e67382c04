-- A machine that is served over a wire, and how that ends by the moves of the wire.
use Rattle.std.specs.Prelude.{ℕ, List, ◌++◌, codes}
use Rattle.signals.specs.Wave.{Wave}
use Rattle.ads_outside.specs.declared.end.End.{End}
use Rattle.ads_outside.specs.declared.end.End.TheVariants as end
use Rattle.ads_outside.specs.declared.listening.Listening.{Listening}
use Rattle.ads_outside.specs.declared.moves.Move.{Move}
use Rattle.spec_plant.specs.Description.{Description}
use Rattle.spec_machine.specs.Client.{Client}
use Rattle.spec_machine.specs.MachineState.{MachineState}
use Rattle.spec_machine.specs.Profile.{Profile, strict}
use Rattle.spec_machine.specs.Summary.{summary_of}
use Rattle.spec_machine.specs.SummaryText.{summary_text_of}
use Rattle.spec_machine.specs.World.{World}
use Rattle.spec_relay.specs.RelayState.{RelayState}
use Rattle.spec_relay.specs.RelaySummary.{relay_summary_of, relay_summary_text}
use Rattle.spec_relay.specs.RelayLaws.{relay_state_after}
use Rattle.spec_server.specs.Server.{server_after_in}
use Rattle.run_tasks.specs.declared.status.Status.{Status}
use Rattle.run_tasks.specs.declared.status.Status.TheVariants as status
use Rattle.run_tasks.specs.Ending.{Ending, line_alone}
use Rattle.run_tasks.specs.StatusTable.{line, last_line_of}

-- what is served: the server of a profile over a description, with signals that begin so, or the relay of one
pub data ServedMachine : Type 0 where
  OfServer : Profile → Description → List Wave → ServedMachine
  OfRelay : Description → ServedMachine

-- the server of a profile over any description, with these signals
abbrev pub server_with_in : Profile → List Wave → Description → ServedMachine
server_with_in profile waves d = OfServer profile d waves

-- the strict one, without a right for others
abbrev pub server_with : List Wave → Description → ServedMachine
server_with waves d = server_with_in strict waves d

pub record Service : Type 0 where
  -- what the wire is started with: where it listens, the name of the description's file, and its bytes
  pub start : Listening
  pub machine : ServedMachine
  -- how many events are taken at most
  pub limit : ℕ

-- the line that tells that the wire listens
abbrev pub listening_line : List ℕ
listening_line = line (codes "listening")

-- the counts of a server and of a relay, as they are printed
abbrev pub server_counts : MachineState World Client → List ℕ
server_counts state = summary_text_of (summary_of state)

abbrev pub relay_counts : RelayState → List ℕ
relay_counts state = relay_summary_text (relay_summary_of state)

-- the counts after these moves
abbrev pub counts_after : ServedMachine → List Move → List ℕ
counts_after (OfServer profile d waves) moves = server_counts (server_after_in profile d waves moves)
counts_after (OfRelay d) moves = relay_counts (relay_state_after d moves)

-- these counts, and the status's last line
abbrev pub counts_and_line : List ℕ → Status → Ending
counts_and_line counts s = record { status = s; text = counts ++ last_line_of s }

-- how a service ends whose wire ended so, with these counts, and what it prints behind `listening`
abbrev pub ending_with : List ℕ → End → Ending
ending_with counts end.Done = counts_and_line counts status.Done
ending_with counts end.Budget = counts_and_line counts status.Budget
ending_with counts end.LinkFault = line_alone status.LinkFault
ending_with counts end.Memory = line_alone status.Memory

-- how it ends, whose wire made these moves
abbrev pub ending_after : Service → List Move → End → Ending
ending_after service moves ended = ending_with (counts_after service.machine moves) ended
