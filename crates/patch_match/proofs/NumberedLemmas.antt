-- What entries by numbers claim, one entry further.
use Rattle.std.proofs.Common.{◌≡◌, ℕ, ◌+◌, ◌<◌, true, List, [], ◌∷◌, ◌++◌, length, take, get_or, Option, Some, sym, ◌∙◌, ap, subst}
use Rattle.std.specs.Prelude.{if◌then◌else◌}
use Rattle.std.specs.List.{flat_map}
use Rattle.std.proofs.lemmas.Bool.{eq-eqb}
use Rattle.std.proofs.lemmas.List.{append-nil, take_more}
use Rattle.std.proofs.lemmas.List.Concat.{flat_map-append}
use Rattle.c_tree.specs.declared.mapping.LEntry.{LEntry}
use Rattle.c_tree.specs.declared.mapping.LEntry.TheVariants as l
use Rattle.c_tree.specs.Link.{Claim, claim_of}
use Rattle.patch_match.specs.declared.sides.Sides.{Sides}
use Rattle.patch_match.specs.Sides.{Tells, claim}

-- a match entry of the kind is noted
pub noted : (kind of old : ℕ) (new : Option ℕ) (x : LEntry) (s t : Sides) → x ≡ l.Match of old new → of ≡ kind →
    ((claims : List Claim) (n m : ℕ) → Tells s claims n m → Tells t (claims ++ claim (Some old) new true ∷ []) n m) →
    (claims : List Claim) (n m : ℕ) → Tells s claims n m → Tells t (claims ++ claim_of kind x) n m
noted kind of old new x s t is same go claims n m h =
    let one : claim_of kind x ≡ claim (Some old) new true ∷ [] =
    ap (λ y. claim_of kind y) is ∙ ap (λ b. if b then claim (Some old) new true ∷ [] else []) (eq-eqb of kind same) in
    subst (λ xs. Tells t (claims ++ xs) n m) (sym one) (go claims n m h)

-- the entries before, one further
pub claims_further : (kind : ℕ) (xs : List LEntry) (i : ℕ) (x : LEntry) → i < length xs → x ≡ get_or xs i x →
    flat_map (claim_of kind) (take i xs) ++ claim_of kind x ≡ flat_map (claim_of kind) (take (i + 1) xs)
claims_further kind xs i x lt e =
    sym (ap (λ ys. flat_map (claim_of kind) ys) (take_more xs i x lt)
    ∙ (flat_map-append (claim_of kind) (take i xs) (get_or xs i x ∷ [])
    ∙ (ap (λ ys. flat_map (claim_of kind) (take i xs) ++ ys) (append-nil (claim_of kind (get_or xs i x)))
    ∙ ap (λ y. flat_map (claim_of kind) (take i xs) ++ claim_of kind y) (sym e))))
