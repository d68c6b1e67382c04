use Rattle.std.proofs.Common.{◌≡◌, ◌∙◌, sym, ap, true}
use Rattle.std.specs.List.{list_all, insert}
use Rattle.description_rules.specs.Taken.{IsPlaceOf, is_free_at}
use Rattle.description_rules.proofs.TakenLemmas.{is_free-answer, in_order-insert, list_all-insert}
use Rattle.description_rules.proofs.taken.take_range.Goals as goal

pub returns : goal.returns
returns c =
    let rs = c.args.ranges.now.items in
    let range = c.args.range in
    let place = c.place_behind-place.result in
    let point : IsPlaceOf range.start rs place = rw c.as_slice.ensures.value at c.place_behind-place.ensures in
    let free : is_free_at rs place range ≡ true =
    ap (λ ranges. is_free_at ranges place range) (sym c.as_slice-2.ensures.value) ∙ sym c.is_free_at.ensures ∙ c.if-not-is_free_at.false in
    let more : c.insert.new.self.items ≡ insert rs place range = c.in_ok-insert.ensures.items in
    record {
      answer = sym free ∙ is_free-answer rs place range c.requires.order point;
      order = λ e. rw more (in_order-insert rs place range c.requires.order point c.requires.wide free);
      taken = λ e p. ap (list_all p) more ∙ list_all-insert p rs place range;
    }
