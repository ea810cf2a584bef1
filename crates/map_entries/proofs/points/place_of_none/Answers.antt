use Rattle.std.proofs.Common.{◌∙◌, sym}
use Rattle.c_tree.specs.declared.place.PlaceKind.TheVariants as kind
use Rattle.map_entries.proofs.NumberLemmas.{none_find, kth_none}
use Rattle.map_entries.proofs.points.place_of_none.Goals as goal

pub returns-in-Entry : goal.returns-in-Entry
returns-in-Entry c = c.first.ensures ∙ sym (none_find kind.Entry c.args.point c.in-Entry.is)

pub returns-in-Plain : goal.returns-in-Plain
returns-in-Plain c = c.first-in-Plain.ensures ∙ sym (none_find kind.Plain c.args.point c.in-Plain.is)

pub returns-in-LoopEnd : goal.returns-in-LoopEnd
returns-in-LoopEnd c = sym (none_find kind.LoopEnd c.args.point c.in-LoopEnd.is ∙ kth_none c.args.point.number)

pub returns-in-Call : goal.returns-in-Call
returns-in-Call c = sym (none_find kind.Call c.args.point c.in-Call.is ∙ kth_none c.args.point.number)

pub returns-in-Block : goal.returns-in-Block
returns-in-Block c = sym (none_find kind.Block c.args.point c.in-Block.is ∙ kth_none c.args.point.number)
