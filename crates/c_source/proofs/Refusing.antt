-- Refusals of the parts as refusals of a source.
use Rattle.std.proofs.Common.{◌≡◌, ℕ, List, refl, sym, subst}
use Rattle.c_lift.specs.declared.refusal.LiftRefused.{LiftRefused}
use Rattle.c_lift.specs.declared.refusal.LiftRefused.TheVariants as lift
use Rattle.c_lift.specs.Refusal as lifter
use Rattle.c_tree.specs.Typing.{IsWellTyped}
use Rattle.c_tokens.specs.declared.refused.ReadRefused.{ReadRefused}
use Rattle.c_tokens.specs.declared.refused.ReadRefused.TheVariants as read
use Rattle.c_check.specs.declared.refusal.CheckRefused.{CheckRefused}
use Rattle.c_check.specs.declared.refusal.CheckRefused.TheVariants as check
use Rattle.c_tree.specs.declared.program.Program.{Program}
use Rattle.c_grammar.specs.Source.{IsProgramOf}
use Rattle.c_reader.specs.Refusal as reader
use Rattle.c_check.specs.Refusal as checker
use Rattle.c_source.specs.Source as source
use Rattle.c_source.specs.Refusal as view
use Rattle.c_source.specs.declared.refused.SourceRefused.{SourceRefused}

of_reading : (bytes : List ℕ) (why : ReadRefused) → reader.IsRefusal bytes why → view.IsRefusal bytes (view.unread why)
of_reading bytes (read.At at c) is = source.unread c refl is
of_reading bytes (read.Memory e) is = tt

pub unread : (bytes : List ℕ) (why : ReadRefused) (r : SourceRefused) → r ≡ view.unread why → reader.IsRefusal bytes why → view.IsRefusal bytes r
unread bytes why r same is = subst (view.IsRefusal bytes) (sym same) (of_reading bytes why is)

of_typing : (bytes : List ℕ) (tree : Program) (why : CheckRefused) → IsProgramOf bytes tree → checker.IsRefusal tree why → view.IsRefusal bytes (view.ill_typed why)
of_typing bytes tree (check.At at c) read is = source.ill_typed tree c refl read is
of_typing bytes tree (check.Memory e) read is = tt

pub ill_typed : (bytes : List ℕ) (tree : Program) (why : CheckRefused) (r : SourceRefused) → r ≡ view.ill_typed why → IsProgramOf bytes tree → checker.IsRefusal tree why → view.IsRefusal bytes r
ill_typed bytes tree why r same read is = subst (view.IsRefusal bytes) (sym same) (of_typing bytes tree why read is)

of_lifting : (bytes : List ℕ) (tree : Program) (why : LiftRefused) → IsProgramOf bytes tree → IsWellTyped tree → lifter.IsDue tree why → view.IsRefusal bytes (view.too_large why)
of_lifting bytes tree (lift.Limit at kind) read typed is = source.too_large tree kind refl read typed is
of_lifting bytes tree (lift.Memory e) read typed is = tt

pub too_large : (bytes : List ℕ) (tree : Program) (why : LiftRefused) (r : SourceRefused) → r ≡ view.too_large why → IsProgramOf bytes tree → IsWellTyped tree → lifter.IsDue tree why → view.IsRefusal bytes r
too_large bytes tree why r same read typed is = subst (view.IsRefusal bytes) (sym same) (of_lifting bytes tree why read typed is)
