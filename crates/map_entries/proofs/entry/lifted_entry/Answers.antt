use Rattle.std.proofs.Common.{List, subst}
use Rattle.c_tree.specs.declared.mapping.Part.{Part}
use Rattle.c_tree.specs.Chain.{lifted_point}
use Rattle.map_entries.specs.Gives.{Gives}
use Rattle.map_entries.proofs.AloneLemmas.{alone}
use Rattle.map_entries.proofs.entry.lifted_entry.Goals as goal

pub returns-in-Match : goal.returns-in-Match
returns-in-Match c = alone c.args.k.now c.args.entry.now _ _ c.in-Match.is c.match_entry.ensures

pub returns-in-Field : goal.returns-in-Field
returns-in-Field c = alone c.args.k.now c.args.entry.now _ _ c.in-Field.is c.lifted_field.ensures

pub returns-in-Init : goal.returns-in-Init
returns-in-Init c = alone c.args.k.now c.args.entry.now _ _ c.in-Init.is c.lifted_init.ensures

pub returns-in-Point : goal.returns-in-Point
returns-in-Point c =
    alone c.args.k.now c.args.entry.now _ _ c.in-Point.is
    (subst (λ (parts : List Part). Gives c.lifted_point.result (lifted_point c.args.k.now c.in-Point.f c.in-Point.from parts)) c.as_slice.ensures c.lifted_point.ensures)

pub returns-in-Check : goal.returns-in-Check
returns-in-Check c = alone c.args.k.now c.args.entry.now _ _ c.in-Check.is c.lifted_check.ensures
