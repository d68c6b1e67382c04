-- What the mode of a file says, as stat(2) gives it: the four bits above the rights and marks.
use Rattle.std.specs.Prelude.{ℕ, ◌==◌, ◌||◌, if◌then◌else◌, bit_and}
use Rattle.store_file.specs.declared.file_kind.FileKind.{FileKind}
use Rattle.store_file.specs.declared.file_kind.FileKind.TheVariants as kind

-- S_IFREG, S_IFDIR, S_IFIFO, S_IFSOCK, S_IFCHR and S_IFBLK
abbrev pub kind_of_bits : ℕ → FileKind
kind_of_bits bits =
    if bits == 0o100000 then kind.Regular else
    (if bits == 0o040000 then kind.Folder else
    (if bits == 0o010000 then kind.Pipe else
    (if bits == 0o140000 then kind.Socket else
    (if (bits == 0o020000) || (bits == 0o060000) then kind.Device else kind.Other))))

abbrev pub kind_of_mode : ℕ → FileKind
kind_of_mode mode = kind_of_bits (bit_and mode 0o170000)
