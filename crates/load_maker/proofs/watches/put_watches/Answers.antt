use Rattle.load_maker.proofs.LoadLemmas.{all_watches}
use Rattle.load_maker.proofs.watches.put_watches.Goals as goal

pub returns : goal.returns
returns c =
    all_watches c.args.out.now c.put_watches_of.new.out c.put_watches_of-2.new.out c.put_watches_of-3.new.out c.put_watches_of-4.new.out
    c.in_ok-put_watches_of.ensures c.in_ok-put_watches_of-2.ensures c.in_ok-put_watches_of-3.ensures c.in_ok-put_watches_of-4.ensures
