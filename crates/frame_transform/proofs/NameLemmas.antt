-- The name of a number in one kind.
use Rattle.std.proofs.Common.{◌≡◌, ℕ, List, ◌++◌, sym}
use Rattle.std.specs.Prelude.{Result, OnOk}
use Rattle.std.proofs.Math.ListN.{get_or-map}
use Rattle.c_tree.specs.declared.lifted.Lifted.{Lifted}
use Rattle.c_tree.specs.Names.{name_at, struct_of, no_struct}
use Rattle.frame_transform.proofs.LineLemmas.{two_appended}

pub struct_name : (p : Lifted) (i : ℕ) → name_at p 1 i ≡ (struct_of p i).name
struct_name p i = get_or-map (λ x. x.name) p.structs i no_struct

-- a name between two texts, behind another text
pub named_appended : {T E : Type 0} (res : Result T E) (a before name said after o o1 o2 : List ℕ)
    → name ≡ said → o1 ≡ o ++ a → OnOk res (o2 ≡ o1 ++ (before ++ (name ++ after))) → OnOk res (o2 ≡ o ++ (a ++ (before ++ (said ++ after))))
named_appended res a before name said after o o1 o2 is e1 e2 = rw (sym is) (two_appended res a (before ++ (name ++ after)) o o1 o2 e1 e2)
