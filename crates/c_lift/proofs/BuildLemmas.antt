-- Destinations and fields, form by form.
use Rattle.std.proofs.Common.{◌≡◌, ℕ, List, Option, Some, None, refl, sym, ap, ◌∙◌}
use Rattle.std.specs.Prelude.{find}
use Rattle.c_tree.specs.Compute.{literals}
use Rattle.c_tree.specs.declared.lifted.LExpr.{LExpr}
use Rattle.c_tree.specs.declared.lifted.LExpr as l
use Rattle.c_tree.specs.declared.lifted.Dest.TheVariants as d
use Rattle.c_tree.specs.declared.program.Struct.{Struct}
use Rattle.c_tree.specs.declared.program.Field.{Field}
use Rattle.c_tree.specs.declared.ty.Ty.{Ty}
use Rattle.c_tree.specs.declared.ty.Ty.TheVariants as ty
use Rattle.c_tree.specs.Scope.{Scope, is_same_name, struct_named, field_named}
use Rattle.c_tree.specs.Types.{type_of_field, member_type}
use Rattle.c_tree.specs.Lifting.{destination, fields_of}

pub destination-Elem : (g : ℕ) (i : LExpr) → destination (l.Elem g i) ≡ d.Elem g i
unfolding literals
destination-Elem g i = refl

pub destination-Field : (p : LExpr) (owner field : ℕ) → destination (l.Field p owner field) ≡ d.Field p owner field
unfolding literals
destination-Field p owner field = refl

-- the first field of a name among those of a struct
pub field_in_struct : (o : Option Struct) (name : List ℕ) → find (λ f. is_same_name f.name.it name) (fields_of o) ≡ field_named o name
field_in_struct None name = refl
field_in_struct (Some d) name = refl

-- the type of a field of a struct that is pointed to
pub member_told : (sc : Scope) (owner name : List ℕ) (fields : List Field) (r : Option Ty) →
    fields ≡ fields_of (struct_named sc owner) → r ≡ type_of_field (find (λ f. is_same_name f.name.it name) fields) → r ≡ member_type sc (Some (ty.Ptr owner)) name
member_told sc owner name fields r same told =
    told ∙ (ap (λ xs. type_of_field (find (λ f. is_same_name f.name.it name) xs)) same ∙ ap type_of_field (field_in_struct (struct_named sc owner) name))
