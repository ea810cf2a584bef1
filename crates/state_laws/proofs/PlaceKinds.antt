-- Plain places and calls, which no thread stands at.
use Rattle.std.specs.Prelude.{Bool}
use Rattle.c_tree.specs.declared.place.PlaceKind.{PlaceKind}
use Rattle.c_tree.specs.declared.place.PlaceKind.TheVariants as kind
use Rattle.c_tree.specs.Points.{is_kind}

abbrev pub is_plain : PlaceKind → Bool
is_plain k = is_kind kind.Plain k

abbrev pub is_call_kind : PlaceKind → Bool
is_call_kind k = is_kind kind.Call k
