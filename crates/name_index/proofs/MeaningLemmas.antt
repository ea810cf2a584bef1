-- What a name stands for, where some names are nearer than others.
use Rattle.std.proofs.Common.{◌≡◌, ℕ, List, ◌++◌, Option, Some, None, refl, sym, ◌∙◌, ap}
use Rattle.std.specs.Prelude.{find}
use Rattle.std.specs.Option.{option_or}
use Rattle.std.proofs.lemmas.List.Folds.{find-append}
use Rattle.c_tree.specs.declared.scope.Named.{Named}
use Rattle.c_tree.specs.declared.scope.Meaning.{Meaning}
use Rattle.c_tree.specs.Scope.{has_name, meaning_in}
use Rattle.name_index.specs.Meanings.{meaning_of}

-- a name among the nearest, and else among all others
pub nearest_is : (name : List ℕ) (near all : List Named) (what : Meaning) → Some what ≡ meaning_of (find (has_name name) near) →
    what ≡ meaning_in (find (has_name name) (near ++ all))
nearest_is name near all what e = found (find (has_name name) near) e ∙ sym (ap meaning_in (find-append (has_name name) near all)) where
  found : (o : Option Named) → Some what ≡ meaning_of o → what ≡ meaning_in (option_or o (find (has_name name) all))
  found None e = cc
  found (Some x) e = cc

pub farther_is : (name : List ℕ) (near all : List Named) (what : Meaning) → None ≡ meaning_of (find (has_name name) near) →
    what ≡ meaning_in (find (has_name name) all) → what ≡ meaning_in (find (has_name name) (near ++ all))
farther_is name near all what e d = d ∙ (found (find (has_name name) near) e ∙ sym (ap meaning_in (find-append (has_name name) near all))) where
  found : (o : Option Named) → None ≡ meaning_of o → meaning_in (find (has_name name) all) ≡ meaning_in (option_or o (find (has_name name) all))
  found None e = refl
  found (Some x) e = cc
