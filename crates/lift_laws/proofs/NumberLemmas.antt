-- A name's number in a row of what has names.
use Rattle.std.proofs.Common.{◌≡◌, ℕ, ◌+◌, Bool, cond, List, [], ◌∷◌, length, Option, Some, None, refl, ◌∙◌, ap}
use Rattle.std.specs.Prelude.{position, unwrap_or, map, not, nat_lt}
use Rattle.std.specs.List.{position_or_len, prefix_len}
use Rattle.std.proofs.lemmas.List.{length-map}
use Rattle.c_tree.specs.declared.program.At.{At}
use Rattle.c_tree.specs.Lifting.{number_of}
use Rattle.c_tree.specs.Scope.{is_same_name}

pub prefix_len-map : {A B : Type 0} (g : A → B) (p : B → Bool) (xs : List A) → prefix_len p (map g xs) ≡ prefix_len (λ x. p (g x)) xs
prefix_len-map g p [] = refl
prefix_len-map g p (x ∷ xs) = ap (λ n. cond (p (g x)) (1 + n) 0) (prefix_len-map g p xs)

pub number_of-map : {A : Type 0} (g : A → At (List ℕ)) (xs : List A) (name : List ℕ) → number_of (map g xs) name ≡ unwrap_or (position (λ x. is_same_name (g x).it name) xs) 0
number_of-map g xs name =
    ap (λ n. unwrap_or (cond (nat_lt n (length (map g xs))) (Some n) None) 0) (prefix_len-map g (λ n. not (is_same_name n.it name)) xs)
    ∙ ap (λ n. unwrap_or (cond (nat_lt (position_or_len (λ x. is_same_name (g x).it name) xs) n) (Some (position_or_len (λ x. is_same_name (g x).it name) xs)) None) 0) (length-map xs g)
