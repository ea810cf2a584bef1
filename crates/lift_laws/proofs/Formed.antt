-- The lifting of a well-typed program that was read is formed.
use Rattle.std.proofs.Common.{◌≡◌, Option, None}
use Rattle.c_tree.specs.declared.program.Program.{Program}
use Rattle.c_tree.specs.Typing.{IsWellTyped}
use Rattle.c_tree.specs.Lifting.{lift, lift_limit}
use Rattle.c_tree.specs.Formed.{IsFormed}
use Rattle.c_tree.specs.ReadForm.{HasReadForm}
use Rattle.lift_laws.proofs.FormedLemmas.{within_limits, different_names, params_come_first, has_main, pointers_start_null, arrays_start_at_zero}
use Rattle.lift_laws.proofs.KeptLemmas.{loops_are_kept, prints_fit}
use Rattle.lift_laws.proofs.SlotLemmas.{slots_are_different}
use Rattle.lift_laws.proofs.FormSorts.{has_sorts}

pub formed : (p : Program) → IsWellTyped p → HasReadForm p → lift_limit p ≡ None → IsFormed (lift p)
formed p typed read kept = record {
  limits = within_limits p typed kept;
  names = different_names p typed;
  slots = slots_are_different p read kept;
  parameters = params_come_first p;
  main = has_main p typed;
  starts = pointers_start_null p typed;
  arrays = arrays_start_at_zero p read;
  loops = loops_are_kept p typed read;
  prints = prints_fit p typed read;
  sorts = has_sorts p typed read;
}
