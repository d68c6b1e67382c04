use Rattle.std.proofs.lemmas.Str.Pattern.{split_parts}
use Rattle.cli_words.proofs.PartedLemmas.{parted-from_split}
use Rattle.cli_words.proofs.division.part.Goals as goal

pub returns : goal.returns
returns c = parted-from_split c.args.stop c.args.text.now _ (split_parts c.args.stop c.args.text.now _ c.split_once.ensures.cases c.requires)
