-- Names that are declared again, one further.
use Rattle.std.proofs.Common.{◌≡◌, ℕ, ◌+◌, ◌<◌, ◌≤◌, ◌∙◌, arith, Bool, true, false, cond, not, ◌&&◌, List, [], ◌∷◌, ◌++◌, length, get_or, take, drop, map, Option, refl, sym, ap}
use Rattle.std.specs.Prelude.{find, filter, is_some, if◌then◌else◌}
use Rattle.std.specs.List.{list_any}
use Rattle.std.proofs.lemmas.List.{take_more, drop_more, drop_all, append-nil, map-append}
use Rattle.std.proofs.lemmas.List.Elements.{filter-append}
use Rattle.c_tree.specs.declared.cause.CheckCause.TheVariants as c
use Rattle.c_tree.specs.declared.scope.Fault.{Fault}
use Rattle.c_tree.specs.declared.scope.Named.{Named}
use Rattle.c_tree.specs.declared.program.Program.{Program}
use Rattle.c_tree.specs.Fault.{fault, unless}
use Rattle.c_tree.specs.Scope.{has_name, routine}
use Rattle.c_tree.specs.Typing.{has_body}
use Rattle.c_tree.specs.Names.{find_name}
use Rattle.c_tree.specs.Numbers.{item_at}
use Rattle.name_index.specs.Tables.{names_in}
use Rattle.c_check.specs.Words.{noted}
use Rattle.c_check.specs.Files.{repeats, may_stand}
use Rattle.name_index.proofs.FoundLemmas.{item_at-find_name, is_some-find_name, list_any-filter}
use Rattle.c_check.proofs.NoteLemmas.{noted-append, noted-none}

pub repeats-none : (p : Program) (seen : List Named) → repeats p seen [] ≡ []
unfolding repeats
repeats-none p seen = refl

abbrev pub again : Program → List Named → Named → List Fault
again p seen x = unless (may_stand p seen x) (fault x.at (c.Twice x.name))

pub repeats-more : (p : Program) (seen : List Named) (x : Named) (rest : List Named) → repeats p seen (x ∷ rest) ≡ again p seen x ++ repeats p (seen ++ x ∷ []) rest
unfolding repeats may_stand
repeats-more p seen x rest = refl

-- the names of functions with a body
abbrev pub is_body : Program → Named → Bool
is_body p z = has_body (routine p z.meaning)

pub taken_more : (xs : List Named) (i : ℕ) (x : Named) → i < length xs → x ≡ get_or xs i x → take (i + 1) xs ≡ take i xs ++ x ∷ []
taken_more xs i x lt here = take_more xs i x lt ∙ ap (λ z. take i xs ++ z ∷ []) (sym here)

pub seen_more : (xs : List Named) (i : ℕ) (x : Named) (seen now : List (List ℕ)) → i < length xs → x ≡ get_or xs i x → seen ≡ names_in (take i xs) → now ≡ seen ++ x.name ∷ [] →
    now ≡ names_in (take (i + 1) xs)
seen_more xs i x seen now lt here is added =
    added ∙ (ap (λ z. z ++ x.name ∷ []) is ∙ (sym (map-append (λ z. z.name) (take i xs) (x ∷ [])) ∙ ap names_in (sym (taken_more xs i x lt here))))

pub bodies_more : (p : Program) (xs : List Named) (i : ℕ) (x : Named) (bodies now : List (List ℕ)) → i < length xs → x ≡ get_or xs i x → bodies ≡ names_in (filter (is_body p) (take i xs)) →
    now ≡ (if is_body p x then bodies ++ x.name ∷ [] else bodies) → now ≡ names_in (filter (is_body p) (take (i + 1) xs))
bodies_more p xs i x bodies now lt here is added =
    added ∙ (pick (is_body p x) ∙ (sym (map-append (λ z. z.name) (filter (is_body p) (take i xs)) (filter (is_body p) (x ∷ [])))
    ∙ ap names_in (sym (filter-append (is_body p) (take i xs) (x ∷ [])) ∙ ap (filter (is_body p)) (sym (taken_more xs i x lt here))))) where
      pick : (b : Bool) → (if b then bodies ++ x.name ∷ [] else bodies) ≡ names_in (filter (is_body p) (take i xs)) ++ names_in (cond b (x ∷ []) [])
      pick true = ap (λ z. z ++ x.name ∷ []) is
      pick false = is ∙ sym (append-nil (names_in (filter (is_body p) (take i xs))))

pub repeats_step : (p : Program) (xs slice : List Named) (i : ℕ) (x : Named) (seen bodies : List (List ℕ)) (other : Option Named) (o : Option ℕ) (d may : Bool) (f1 f2 : Option Fault) →
    i < length xs → x ≡ get_or xs i x → seen ≡ names_in (take i xs) → bodies ≡ names_in (filter (is_body p) (take i xs)) → slice ≡ take i xs →
    other ≡ item_at (find_name x.name seen) slice → o ≡ find_name x.name bodies → d ≡ is_some o →
    ((s : List Named) → other ≡ find (has_name x.name) s → d ≡ list_any (λ z. has_name x.name z && is_body p z) s → may ≡ may_stand p s x) →
    f2 ≡ noted f1 (unless (not (not may)) (fault x.at (c.Twice x.name))) →
    noted f1 (repeats p (take i xs) (drop i xs)) ≡ noted f2 (repeats p (take (i + 1) xs) (drop (i + 1) xs))
repeats_step p xs slice i x seen bodies other o d may f1 f2 lt here is_seen is_bodies is_slice is_other is_o is_d judged done =
    let rest = drop (i + 1) xs in
    let before = take i xs in
    let first : other ≡ find (has_name x.name) before =
    is_other ∙ (ap (λ z. item_at (find_name x.name z) slice) is_seen ∙ (ap (item_at (find_name x.name (names_in before))) is_slice ∙ item_at-find_name (λ z. z.name) x.name before)) in
    let body : d ≡ list_any (λ z. has_name x.name z && is_body p z) before =
    is_d ∙ (ap is_some (is_o ∙ ap (find_name x.name) is_bodies) ∙ (is_some-find_name (λ z. z.name) x.name (filter (is_body p) before) ∙ list_any-filter (has_name x.name) (is_body p) before)) in
    let fits : not (not may) ≡ may_stand p before x = twice may ∙ judged before first body in
    ap (λ zs. noted f1 (repeats p before zs)) (drop_more xs i x lt ∙ ap (λ z. z ∷ rest) (sym here))
    ∙ (ap (noted f1) (repeats-more p before x rest) ∙ (noted-append f1 (again p before x) (repeats p (before ++ x ∷ []) rest)
    ∙ (ap (λ f. noted f (repeats p (before ++ x ∷ []) rest)) (ap (λ b. noted f1 (unless b (fault x.at (c.Twice x.name)))) (sym fits) ∙ sym done)
    ∙ ap (λ z. noted f2 (repeats p z rest)) (sym (taken_more xs i x lt here))))) where
      twice : (b : Bool) → not (not b) ≡ b
      twice true = refl
      twice false = refl

pub repeats_end : (p : Program) (seen xs : List Named) (i : ℕ) (f : Option Fault) → length xs ≤ i → noted f (repeats p seen (drop i xs)) ≡ f
repeats_end p seen xs i f le = ap (λ zs. noted f (repeats p seen zs)) (drop_all i xs le) ∙ (ap (noted f) (repeats-none p seen) ∙ noted-none f)
