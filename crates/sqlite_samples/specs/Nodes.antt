-- Whether the names of a recording still lead to its files. This project's own choice: a file is its device and its inode.
use Rattle.std.specs.Prelude.{Bool, false, ◌==◌, ◌&&◌, Option, Some, None}
use Rattle.sqlite_samples.specs.declared.node.Node.{Node}
use Rattle.sqlite_samples.specs.declared.files.Files.{Files}
use Rattle.sqlite_samples.specs.declared.found.Found.{Found}

-- whether what was found is a file
abbrev pub leads_to : Option Node → Node → Bool
leads_to None node = false
leads_to (Some found) node = (found.device == node.device) && (found.inode == node.inode)

-- whether each name leads to what it led to
abbrev pub are_there : Files → Found → Bool
are_there files found = leads_to found.named files.file && leads_to found.file files.file
    && leads_to found.folder files.folder && leads_to found.log files.log
