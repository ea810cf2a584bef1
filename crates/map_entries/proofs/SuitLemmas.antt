-- Expressions that suit, from their types.
use Rattle.std.proofs.Common.{◌≡◌, Option, Some, None, refl}
use Rattle.std.specs.Prelude.{if◌then◌else◌}
use Rattle.c_tree.specs.declared.ty.Ty.{Ty}
use Rattle.c_tree.specs.declared.lifted.LExpr.{LExpr}
use Rattle.c_tree.specs.Types.{is_int}
use Rattle.c_tree.specs.Link.{Link}
use Rattle.c_tree.specs.MapExpr.{Reads, only_globals, passes, fills_type}
use Rattle.c_tree.specs.Suits.{suits, suits_check}
use Rattle.c_tree.specs.Chain.{suited}
use Rattle.map_entries.specs.declared.typed.Typed.{Typed}
use Rattle.map_entries.specs.Typed.{typed}

-- a typed expression that fills
abbrev pub filled_typed : Link → Option Ty → Option Typed → Option LExpr
filled_typed k None o = None
filled_typed k (Some asked) None = None
filled_typed k (Some asked) (Some t) = if fills_type k t.ty asked then Some t.expr else None

-- a typed expression that is an `int`
abbrev pub tested_typed : Option Typed → Option LExpr
tested_typed None = None
tested_typed (Some t) = if passes is_int t.ty then Some t.expr else None

pub filled_is : (k : Link) (r : Reads) (asked : Option Ty) (o : Option LExpr) → suited (suits k r asked) o ≡ filled_typed k asked (typed r o)
filled_is k r None None = refl
filled_is k r None (Some y) = refl
filled_is k r (Some a) None = refl
filled_is k r (Some a) (Some y) = refl

pub tested_is : (k : Link) (o : Option LExpr) → suited (suits_check k) o ≡ tested_typed (typed (only_globals k.old) o)
tested_is k None = refl
tested_is k (Some y) = refl

pub ruleset suit_rules = (filled_is, tested_is)
