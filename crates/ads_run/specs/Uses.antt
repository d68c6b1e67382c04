-- What a run is handed in and leaves: the sink, the wire, the link, the disk and the keeper, each before and behind it.
use Rattle.ads_outside.specs.SinkState.{SinkState}
use Rattle.ads_outside.specs.WireState.{WireHistory}
pub use Rattle.keep_play.specs.KeptDisk.{DiskUse, disk_used}
use Rattle.client_commands.specs.CallUses.{KeeperUse, LinkUse}

-- all that a run is handed in beside its files
pub record Uses (O : Type 0) : Type 1 where
  pub out : SinkState
  pub out_new : SinkState
  pub wire : WireHistory
  pub wire_new : WireHistory
  pub link : LinkUse O
  pub disk : DiskUse
  pub keeper : KeeperUse

abbrev pub uses : {O : Type 0} → SinkState → SinkState → WireHistory → WireHistory → LinkUse O → DiskUse → KeeperUse → Uses O
uses out out_new wire wire_new link disk keeper = record {
  out = out;
  out_new = out_new;
  wire = wire;
  wire_new = wire_new;
  link = link;
  disk = disk;
  keeper = keeper;
}
