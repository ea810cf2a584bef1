use Rattle.std.proofs.Common.{◌≡◌, ◌++◌, drop}
use Rattle.c_tree.specs.MapHeap as spec
use Rattle.c_tree.specs.Names.{struct_of}
use Rattle.state_transform.proofs.FieldsFrom.{fields_from}
use Rattle.state_transform.proofs.fields.field_fillings.Given as goal

abbrev pub invariant-loop-j : goal.invariant-loop-j
invariant-loop-j l =
    spec.field_fillings l.k l.entries l.owner l.to
    ≡ l.made.items ++ fields_from l.k l.entries (struct_of l.k.old l.owner).fields l.to l.j (drop l.j (struct_of l.k.new l.to).fields)
