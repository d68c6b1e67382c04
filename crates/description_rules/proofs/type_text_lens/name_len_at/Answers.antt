use Rattle.std.proofs.Common.{length, ap, sym, ◌∙◌}
use Rattle.spec_plant.proofs.TypeLemmas.{type_text-named}
use Rattle.type_layout.specs.NamedTypes.{types_of, named_type_of}
use Rattle.type_layout.proofs.Places.{read_at}
use Rattle.description_rules.proofs.type_text_lens.name_len_at.Goals as goal

pub returns : goal.returns
returns c =
    let there = read_at named_type_of c.args.types.now c.args.place c.index-types-place.result c.requires c.index-types-place.is in
    ap length (c.name_of.ensures ∙ sym (type_text-named (types_of c.args.types.now) c.args.place (named_type_of c.index-types-place.result) there))
