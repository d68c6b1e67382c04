-- The counts of the code are those of a state.
use Rattle.spec_relay.specs.RelaySummary.{RelaySummary as CountsOfState}
use Rattle.ams_relay.specs.declared.counts.RelaySummary.{RelaySummary}

abbrev pub counts_in : RelaySummary → CountsOfState
counts_in r = record {
  connections = r.connections;
  frames = r.frames;
  passed = r.passed;
  unknown = r.unknown;
}
