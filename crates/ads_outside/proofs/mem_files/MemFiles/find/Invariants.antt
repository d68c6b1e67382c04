-- No file before this one has the name.
use Rattle.std.proofs.Common.{◌≡◌, drop}
use Rattle.ads_outside.specs.Named.{bytes_of}
use Rattle.ads_outside.proofs.mem_files.MemFiles.find.Given as goal

abbrev pub invariant-loop-file : goal.invariant-loop-file
invariant-loop-file l = bytes_of (drop l.file-index l.file-items) l.name ≡ bytes_of l.self.files l.name
