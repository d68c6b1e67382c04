-- The counts of a run as its summary.
use Rattle.replay_script.specs.declared.counts.Counts.{Counts}
use Rattle.spec_machine.specs.Summary.{Summary}

abbrev pub summary_from : Counts → Summary
summary_from c = record {
  connections = c.connections;
  requests = c.requests;
  replies = c.replies;
  samples = c.samples;
  accepted = c.accepted;
  refused = c.refused;
}
