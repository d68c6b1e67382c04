-- What a person is told of the files of a recording. This project's own choice.
use Rattle.std.specs.Prelude.{ℕ, List, codes}
use Rattle.sqlite_samples.specs.declared.loss.Loss.{Loss}
use Rattle.sqlite_samples.specs.declared.loss.Loss.TheVariants as loss

-- what became of them
abbrev pub loss_words : Loss → List ℕ
loss_words loss.Gone = codes "the file or its folder was moved or removed, so nothing more is recorded"
loss_words loss.Replaced = codes "another file stands there now, so nothing more is recorded"
loss_words loss.Elsewhere = codes "the file is in another folder now, so nothing more is recorded"
loss_words loss.LogGone = codes "the file that ends in -wal beside it was moved, removed or replaced, so nothing more is recorded"
