-- The first cause of the chain is the least that holds.
use Rattle.std.proofs.Common.{◌≡◌, ℕ, Bool, true, false, not, cond, List, [], ◌∷◌, Option, Some, None, Result, Ok, Err, refl, sym, ◌∙◌, ap, arith}
use Rattle.std.specs.Prelude.{zero, suc, map, ◌==◌, ◌&&◌, ◌||◌, nat_lt, if◌then◌else◌, is_some, slice_get}
use Rattle.std.specs.Option.{ok_or, option_map, option_and_then}
use Rattle.std.specs.List.{list_any, AllZip}
use Rattle.std.proofs.lemmas.Option.{none-some, same_Some}
use Rattle.std.proofs.lemmas.Bool.{both_ways, or_parts}
use Rattle.std.proofs.lemmas.Bool.Decides.{nat_tests}
use Rattle.c_tree.specs.declared.cause.EntryCause.{EntryCause}
use Rattle.c_tree.specs.declared.cause.EntryCause.TheVariants as c
use Rattle.c_tree.specs.declared.lifted.LExpr.{LExpr}
use Rattle.c_tree.specs.declared.lifted.Lifted.{Lifted}
use Rattle.c_tree.specs.declared.lifted.Slot.{Slot}
use Rattle.c_tree.specs.declared.place.PlaceKind.TheVariants as kind
use Rattle.c_tree.specs.declared.program.Expr.{Expr}
use Rattle.c_tree.specs.declared.mapping.Pt.{Pt}
use Rattle.c_tree.specs.declared.mapping.Fill.{Fill}
use Rattle.c_tree.specs.declared.mapping.Part.{Part}
use Rattle.c_tree.specs.declared.mapping.LFill.{LFill}
use Rattle.c_tree.specs.declared.mapping.LPart.{LPart}
use Rattle.c_tree.specs.declared.mapping.Entry.{Entry}
use Rattle.c_tree.specs.declared.mapping.Entry.TheVariants as n
use Rattle.c_tree.specs.declared.mapping.LEntry.{LEntry}
use Rattle.c_tree.specs.declared.mapping.LEntry.TheVariants as l
use Rattle.c_tree.specs.Scope.{is_same_name}
use Rattle.c_tree.specs.Layout.{places}
use Rattle.c_tree.specs.Step.{function_of}
use Rattle.c_tree.specs.Refusal.{onward, refuse_if}
use Rattle.c_tree.specs.Names.{is_number, same_number, find_name, names_in, slot_names, struct_of}
use Rattle.c_tree.specs.Points.{is_kind, place_of, callee_at}
use Rattle.c_tree.specs.Link.{Link, match_at, origin}
use Rattle.c_tree.specs.MapExpr.{Reads, slots_of, fields_of, reads_of, only_globals, numbered, scalar_type}
use Rattle.c_tree.specs.Suits.{Site, site, is_call_at, callee_of, some_neighbours, last_is, kind_differs, kinds_differ, match_of_callee, links_to, callee_differs, callees_differ, start_differs, reads_slots, reads_fields, suits, slot_asked, suits_slot, suits_global, suits_check, has_twice}
use Rattle.c_tree.specs.Causes.{exactly_one, some_passes, has_name, lacks_side, old_function, new_function, function_of_part, part_function, lacks_function, has_point, lacks_point, is_call, differs_in_kind, called_at, part_callee, calls_another, misses_callee, differs_in_callee, is_main, can_start, differs_in_start, can_fill, type_named, new_struct, part_fills_badly, fills_badly, has_name_twice, fills_twice, clash}
use Rattle.c_tree.specs.Entries.{all_there, function_in, least_cause}
use Rattle.c_tree.specs.Chain.{missing, lifted_match, suited, lifted_fill_at, lifted_fill, site_of, sites_of, lifted_part, lifted_parts, is_twice_filled, chain}
use Rattle.patch_laws.proofs.Numbers.{same_found, found_kind}
use Rattle.patch_laws.proofs.Beside.{mapped_some, both_known, not_both, one_missing, zip_missing, all_known, zip_any, zip_neighbours, zip_last, no_neighbours, no_last}
use Rattle.patch_laws.proofs.LiftedForms.{StandsAt, sites_known, PartForm, parts_known}
use Rattle.c_tree.proofs.CanMatch.{none_start, some_start}

-- the cause that an answer has
abbrev pub cause_of : Result LEntry EntryCause → Option EntryCause
cause_of (Ok x) = None
cause_of (Err cause) = Some cause

-- the cause of an answer that is refused at last where an earlier entry says the same
abbrev ends : Bool → Result LEntry EntryCause → Option EntryCause
ends again r = cause_of (onward r (λ y. refuse_if again c.Twice (Ok y)))

-- one step of the chain: the cause is that of the step, or comes after it
after_there : {A : Type 0} (o : Option A) (e : EntryCause) (go : A → Result LEntry EntryCause) (t h : Bool) (rest : Option EntryCause) →
    h ≡ not (is_some o) → ((x : A) → o ≡ Some x → ends t (go x) ≡ rest) → ends t (onward (ok_or o e) go) ≡ cond h (Some e) rest
after_there None e go t h rest q more = ap (λ z. cond z (Some e) rest) (sym q)
after_there (Some x) e go t h rest q more = more x refl ∙ ap (λ z. cond z (Some e) rest) (sym q)

after_then : {A B : Type 0} (o : Option A) (m : A → Option B) (e : EntryCause) (go : A → B → Result LEntry EntryCause) (t h : Bool) (rest : Option EntryCause) →
    h ≡ not (is_some (option_and_then m o)) → ((x : A) (y : B) → o ≡ Some x → m x ≡ Some y → ends t (go x y) ≡ rest) →
    ends t (onward (ok_or o e) (λ x. onward (ok_or (m x) e) (go x))) ≡ cond h (Some e) rest
after_then None m e go t h rest q more = ap (λ z. cond z (Some e) rest) (sym q)
after_then (Some x) m e go t h rest q more = after_there (m x) e (go x) t h rest q (λ y f. more x y refl f)

after_all : {A B C : Type 0} (o : Option A) (m : A → Option B) (p : A → B → Option C) (e : EntryCause) (go : A → B → C → Result LEntry EntryCause) (t h : Bool) (rest : Option EntryCause) →
    (is_some (option_and_then m o) ≡ false → h ≡ true) → ((x : A) (y : B) → o ≡ Some x → m x ≡ Some y → h ≡ not (is_some (p x y))) →
    ((x : A) (y : B) (z : C) → o ≡ Some x → m x ≡ Some y → p x y ≡ Some z → ends t (go x y z) ≡ rest) →
    ends t (onward (ok_or o e) (λ x. onward (ok_or (m x) e) (λ y. onward (ok_or (p x y) e) (go x y)))) ≡ cond h (Some e) rest
after_all None m p e go t h rest lacks q more = ap (λ z. cond z (Some e) rest) (sym (lacks refl))
after_all {A} {B} {C} (Some x) m p e go t h rest lacks q more = matched (m x) lacks (λ y f. q x y refl f) (λ y z f g. more x y z refl f g) refl where
  matched : (o : Option B) → (is_some o ≡ false → h ≡ true) → ((y : B) → m x ≡ Some y → h ≡ not (is_some (p x y))) → ((y : B) (z : C) → m x ≡ Some y → p x y ≡ Some z → ends t (go x y z) ≡ rest) →
      m x ≡ o → ends t (onward (ok_or o e) (λ y. onward (ok_or (p x y) e) (go x y))) ≡ cond h (Some e) rest
  matched None lacks q more f = ap (λ z. cond z (Some e) rest) (sym (lacks refl))
  matched (Some y) lacks q more f = after_there (p x y) e (go x y) t h rest (q y f) (λ z g. more y z f g)

after_both : {A B : Type 0} (o : Option A) (p : Option B) (e : EntryCause) (go : A → B → Result LEntry EntryCause) (t h : Bool) (rest : Option EntryCause) →
    h ≡ not (is_some o && is_some p) → ((x : A) (y : B) → o ≡ Some x → p ≡ Some y → ends t (go x y) ≡ rest) →
    ends t (onward (ok_or o e) (λ x. onward (ok_or p e) (go x))) ≡ cond h (Some e) rest
after_both None p e go t h rest q more = ap (λ z. cond z (Some e) rest) (sym q)
after_both (Some x) p e go t h rest q more = after_there p e (go x) t h rest q (λ y f. more x y refl f)

after_sides : (o p : Option ℕ) (e : EntryCause) (go : ℕ → Option ℕ → Result LEntry EntryCause) (t h : Bool) (rest : Option EntryCause) →
    h ≡ not (is_some o && is_some p) → ((x y : ℕ) → o ≡ Some x → p ≡ Some y → ends t (go x (Some y)) ≡ rest) →
    ends t (onward (ok_or o e) (λ x. onward (onward (ok_or p e) (λ y. Ok (Some y))) (go x))) ≡ cond h (Some e) rest
after_sides None p e go t h rest q more = ap (λ z. cond z (Some e) rest) (sym q)
after_sides (Some x) None e go t h rest q more = ap (λ z. cond z (Some e) rest) (sym q)
after_sides (Some x) (Some y) e go t h rest q more = more x y refl refl ∙ ap (λ z. cond z (Some e) rest) (sym q)

after_test : (b : Bool) (e : EntryCause) (r : Result LEntry EntryCause) (t h : Bool) (rest : Option EntryCause) →
    h ≡ b → (b ≡ false → ends t r ≡ rest) → ends t (refuse_if b e r) ≡ cond h (Some e) rest
after_test true e r t h rest q more = ap (λ z. cond z (Some e) rest) (sym q)
after_test false e r t h rest q more = more refl ∙ ap (λ z. cond z (Some e) rest) (sym q)

at_end : (t : Bool) (y : LEntry) → ends t (Ok y) ≡ cond (t || false) (Some c.Twice) None
at_end true y = refl
at_end false y = refl

twice_at_end : (b h t : Bool) (y : LEntry) → h ≡ b → ends t (refuse_if b c.Twice (Ok y)) ≡ cond (t || h) (Some c.Twice) None
twice_at_end true h true y q = refl
twice_at_end true h false y q = ap (λ z. cond z (Some c.Twice) None) (sym q)
twice_at_end false h true y q = refl
twice_at_end false h false y q = ap (λ z. cond z (Some c.Twice) None) (sym q)

-- what fills
suited_some : (test : LExpr → Bool) (o : Option LExpr) → some_passes test o ≡ is_some (suited test o)
suited_some test None = refl
suited_some test (Some x) = elim (test x) as (λ t. t ≡ is_some (if t then Some x else None)) [
  | true ↦ refl
  | false ↦ refl
]

never_fills : (k : Link) (r : Reads) (o : Option LExpr) → some_passes (suits k r None) o ≡ false
never_fills k r None = refl
never_fills k r (Some x) = refl

slot_filled : (k : Link) (r : Reads) (slots : List Slot) (x : Expr) (o : Option ℕ) →
    can_fill k r (option_and_then (slot_asked slots) o) x ≡ is_some (option_and_then (λ i. suited (suits_slot k r slots i) (numbered r x.kind)) o)
slot_filled k r slots x None = never_fills k r (numbered r x.kind)
slot_filled k r slots x (Some i) = suited_some (suits_slot k r slots i) (numbered r x.kind)

fill_there : (k : Link) (r : Reads) (slots : List Slot) (x : Expr) (o : Option ℕ) →
    is_some (option_and_then (λ i. suited (suits_slot k r slots i) (numbered r x.kind)) o) ≡ is_some (lifted_fill_at k r slots x o)
fill_there k r slots x None = refl
fill_there k r slots x (Some i) = mapped (suited (suits_slot k r slots i) (numbered r x.kind)) where
  mapped : (o : Option LExpr) → is_some o ≡ is_some {T = LFill} (option_map (λ y. record { slot = i; expr = y }) o)
  mapped None = refl
  mapped (Some y) = refl

fills_there : (k : Link) (r : Reads) (slots : List Slot) (xs : List Fill) →
    list_any (λ x. not (can_fill k r (type_named slots x.slot) x.expr)) xs ≡ not (is_some (all_there (map (lifted_fill k r slots) xs)))
fills_there k r slots xs =
    one_missing (λ x. not (can_fill k r (type_named slots x.slot) x.expr)) (lifted_fill k r slots)
    (λ x. ap not (slot_filled k r slots x.expr (find_name x.slot (slot_names slots)) ∙ fill_there k r slots x.expr (find_name x.slot (slot_names slots)))) xs

-- slots that are filled twice
fill_number : (k : Link) (r : Reads) (slots : List Slot) (x : Expr) (o : Option ℕ) (y : LFill) → lifted_fill_at k r slots x o ≡ Some y → o ≡ Some y.slot
fill_number k r slots x None y e = absurd (none-some y e)
fill_number k r slots x (Some i) y e = known (suited (suits_slot k r slots i) (numbered r x.kind)) e where
  known : (o : Option LExpr) → option_map (λ z. record { slot = i; expr = z }) o ≡ Some y → Some i ≡ Some y.slot
  known None e = absurd (none-some y e)
  known (Some z) e = ap (λ w. Some w.slot) (same_Some (record { slot = i; expr = z }) y e)

abbrev AllNamed : List Slot → List Fill → List LFill → Type 0
AllNamed slots xs ys = AllZip (λ x y. find_name x.slot (slot_names slots) ≡ Some y.slot) xs ys

fills_named : (k : Link) (r : Reads) (slots : List Slot) (xs : List Fill) (ys : List LFill) → all_there (map (lifted_fill k r slots) xs) ≡ Some ys → AllNamed slots xs ys
fills_named k r slots [] [] e = tt
fills_named k r slots [] (y ∷ ys) e = absurd (let q : [] ≡ y ∷ ys = same_Some [] (y ∷ ys) e in let w : ⊥ = cc in w)
fills_named k r slots (x ∷ rest) [] e = let q = both_known (lifted_fill k r slots x) (all_there (map (lifted_fill k r slots) rest)) [] e in absurd (let p : q.0 ∷ q.1 ≡ [] = q.4 in let w : ⊥ = cc in w)
fills_named k r slots (x ∷ rest) (y ∷ ys) e =
    let q = both_known (lifted_fill k r slots x) (all_there (map (lifted_fill k r slots) rest)) (y ∷ ys) e in
    let p : q.0 ∷ q.1 ≡ y ∷ ys = q.4 in
    let first : q.0 ≡ y = cc in
    let others : q.1 ≡ ys = cc in
    (fill_number k r slots x.expr (find_name x.slot (slot_names slots)) y (q.2 ∙ ap (λ z. Some z) first), fills_named k r slots rest ys (q.3 ∙ ap (λ z. Some z) others))

any_named : (slots : List Slot) (x : Fill) (y : LFill) (xs : List Fill) (ys : List LFill) → find_name x.slot (slot_names slots) ≡ Some y.slot → AllNamed slots xs ys →
    list_any (is_same_name x.slot) (map (λ z. z.slot) xs) ≡ list_any (λ z. y.slot == z) (map (λ z. z.slot) ys)
any_named slots x y [] [] e r = refl
any_named slots x y [] (w ∷ ys) e r = absurd r
any_named slots x y (z ∷ xs) [] e r = absurd r
any_named slots x y (z ∷ xs) (w ∷ ys) e r =
    ap (λ b. b || list_any (is_same_name x.slot) (map (λ z. z.slot) xs)) (same_found (slot_names slots) x.slot z.slot y.slot w.slot e r.0)
    ∙ ap (λ b. y.slot == w.slot || b) (any_named slots x y xs ys e r.1)

twice_named : (slots : List Slot) (xs : List Fill) (ys : List LFill) → AllNamed slots xs ys → has_name_twice (map (λ z. z.slot) xs) ≡ has_twice (map (λ z. z.slot) ys)
twice_named slots [] [] r = refl
twice_named slots [] (y ∷ ys) r = absurd r
twice_named slots (x ∷ xs) [] r = absurd r
twice_named slots (x ∷ xs) (y ∷ ys) r =
    ap (λ b. b || has_name_twice (map (λ z. z.slot) xs)) (any_named slots x y xs ys r.0 r.1)
    ∙ ap (λ b. list_any (λ z. y.slot == z) (map (λ z. z.slot) ys) || b) (twice_named slots xs ys r.1)

-- match entries
match_ends : (k : Link) (t : Bool) (i : ℕ) (a : List ℕ) (b : Option (List ℕ)) →
    ends t (lifted_match k.old k.new i a b) ≡ cond (lacks_side k.old k.new i a b) (Some (missing i)) (cond (differs_in_start k (n.Match i a b)) (Some c.StartDiffers) (cond (t || false) (Some c.Twice) None))
match_ends k t i a None =
    after_there (find_name a (names_in k.old i)) (missing i) (λ f. refuse_if (i == 0 && start_differs k.old k.new f None) c.StartDiffers (Ok (l.Match i f None))) t (lacks_side k.old k.new i a None)
    (cond (differs_in_start k (n.Match i a None)) (Some c.StartDiffers) (cond (t || false) (Some c.Twice) None)) refl
    (λ f e. after_test (i == 0 && start_differs k.old k.new f None) c.StartDiffers (Ok (l.Match i f None)) t (differs_in_start k (n.Match i a None)) (cond (t || false) (Some c.Twice) None)
    (none_start k.old k.new i f a e) (λ _. at_end t (l.Match i f None)))
match_ends k t i a (Some b) =
    after_sides (find_name a (names_in k.old i)) (find_name b (names_in k.new i)) (missing i) (λ f g. refuse_if (i == 0 && start_differs k.old k.new f g) c.StartDiffers (Ok (l.Match i f g))) t (lacks_side k.old k.new i a (Some b))
    (cond (differs_in_start k (n.Match i a (Some b))) (Some c.StartDiffers) (cond (t || false) (Some c.Twice) None)) refl
    (λ f g e w. after_test (i == 0 && start_differs k.old k.new f (Some g)) c.StartDiffers (Ok (l.Match i f (Some g))) t (differs_in_start k (n.Match i a (Some b))) (cond (t || false) (Some c.Twice) None)
    (some_start k.old k.new i f g a b e w) (λ _. at_end t (l.Match i f (Some g))))

-- a match entry names functions, structs, or globals and mutexes
globals_last : (p q r m d : Bool) (rest : Option EntryCause) → p ≡ false → q ≡ false → r ≡ true →
    cond m (Some c.UnknownGlobal) (cond (p && d) (Some c.StartDiffers) rest)
    ≡ cond (p && m) (Some c.UnknownFunction) (cond (p && d) (Some c.StartDiffers) (cond (q && m) (Some c.UnknownStruct) (cond (r && m) (Some c.UnknownGlobal) rest)))
globals_last true q r m d rest e f g = absurd (both_ways true e refl)
globals_last false true r m d rest e f g = absurd (both_ways true f refl)
globals_last false false false m d rest e f g = absurd (both_ways false refl g)
globals_last false false true m d rest e f g = refl

not_function : (i : ℕ) → (suc (suc i) == 0) ≡ false
not_function i = grind (arith, nat_tests)

not_struct : (i : ℕ) → (suc (suc i) == 1) ≡ false
not_struct i = grind (arith, nat_tests)

is_global : (i : ℕ) → nat_lt 1 (suc (suc i)) ≡ true
is_global i = grind (arith, nat_tests)

by_kind : (k : Link) (t : Bool) (i : ℕ) (a : List ℕ) (b : Option (List ℕ)) →
    cond (lacks_side k.old k.new i a b) (Some (missing i)) (cond (differs_in_start k (n.Match i a b)) (Some c.StartDiffers) (cond (t || false) (Some c.Twice) None))
    ≡ cond (i == 0 && lacks_side k.old k.new i a b) (Some c.UnknownFunction) (cond (differs_in_start k (n.Match i a b)) (Some c.StartDiffers)
    (cond (i == 1 && lacks_side k.old k.new i a b) (Some c.UnknownStruct) (cond (nat_lt 1 i && lacks_side k.old k.new i a b) (Some c.UnknownGlobal) (cond (t || false) (Some c.Twice) None))))
by_kind k t zero a b = refl
by_kind k t (suc zero) a None = refl
by_kind k t (suc zero) a (Some b) = refl
by_kind k t (suc (suc i)) a None =
    globals_last (suc (suc i) == 0) (suc (suc i) == 1) (nat_lt 1 (suc (suc i))) (lacks_side k.old k.new (suc (suc i)) a None) (is_main k.old a) (cond (t || false) (Some c.Twice) None)
    (not_function i) (not_struct i) (is_global i)
by_kind k t (suc (suc i)) a (Some b) =
    globals_last (suc (suc i) == 0) (suc (suc i) == 1) (nat_lt 1 (suc (suc i))) (lacks_side k.old k.new (suc (suc i)) a (Some b))
    (exactly_one (is_main k.old a) (is_main k.new b) || can_start k.old a && not (can_start k.new b)) (cond (t || false) (Some c.Twice) None) (not_function i) (not_struct i) (is_global i)

match_least : (k : Link) (earlier : List Entry) (i : ℕ) (a : List ℕ) (b : Option (List ℕ)) →
    cause_of (chain k earlier (n.Match i a b)) ≡ least_cause k earlier (n.Match i a b)
match_least k earlier i a b =
    match_ends k (list_any (clash (n.Match i a b)) earlier) i a b ∙ by_kind k (list_any (clash (n.Match i a b)) earlier) i a b

-- fields, globals and checks
field_bad : (k : Link) (s : ℕ) (owner name : List ℕ) (x : Expr) → new_struct k owner ≡ Some s →
    fills_badly k (n.Field owner name x)
    ≡ not (is_some (option_and_then (λ i. suited (suits_slot k (reads_fields k s) (struct_of k.new s).fields i) (numbered (reads_fields k s) x.kind)) (find_name name (slot_names (struct_of k.new s).fields))))
field_bad k s owner name x e =
    ap (λ o. not (can_fill k (reads_of k.old None (option_and_then (origin k.structs) o)) (type_named (fields_of k.new o) name) x)) e
    ∙ ap (λ z. not z) (slot_filled k (reads_fields k s) (struct_of k.new s).fields x (find_name name (slot_names (struct_of k.new s).fields)))

field_least : (k : Link) (earlier : List Entry) (owner name : List ℕ) (x : Expr) → cause_of (chain k earlier (n.Field owner name x)) ≡ least_cause k earlier (n.Field owner name x)
field_least k earlier owner name x =
    after_there (new_struct k owner) c.UnknownStruct after_struct t (not (has_name k.new 1 owner)) rest refl
    (λ s e. after_then (find_name name (slot_names (struct_of k.new s).fields)) (filled s) c.BadExpr (λ i y. Ok (l.Field s i y)) t (fills_badly k (n.Field owner name x)) (cond (t || false) (Some c.Twice) None)
    (field_bad k s owner name x e) (λ i y _ _. at_end t (l.Field s i y)))
  where
    t : Bool
    t = list_any (clash (n.Field owner name x)) earlier

    filled : ℕ → ℕ → Option LExpr
    filled s i = suited (suits_slot k (reads_fields k s) (struct_of k.new s).fields i) (numbered (reads_fields k s) x.kind)

    after_struct : ℕ → Result LEntry EntryCause
    after_struct s = onward (ok_or (find_name name (slot_names (struct_of k.new s).fields)) c.BadExpr) (λ i. onward (ok_or (filled s i) c.BadExpr) (λ y. Ok (l.Field s i y)))

    rest : Option EntryCause
    rest = cond (fills_badly k (n.Field owner name x)) (Some c.BadExpr) (cond (t || false) (Some c.Twice) None)

init_least : (k : Link) (earlier : List Entry) (name : List ℕ) (x : Expr) → cause_of (chain k earlier (n.Init name x)) ≡ least_cause k earlier (n.Init name x)
init_least k earlier name x =
    after_there (find_name name (names_in k.new 2)) c.UnknownGlobal (λ g. onward (ok_or (filled g) c.BadExpr) (λ y. Ok (l.Init g y))) t (not (has_name k.new 2 name))
    (cond (fills_badly k (n.Init name x)) (Some c.BadExpr) (cond (t || false) (Some c.Twice) None)) refl
    (λ g e. after_there (filled g) c.BadExpr (λ y. Ok (l.Init g y)) t (fills_badly k (n.Init name x)) (cond (t || false) (Some c.Twice) None) (bad g e) (λ y _. at_end t (l.Init g y)))
  where
    t : Bool
    t = list_any (clash (n.Init name x)) earlier

    filled : ℕ → Option LExpr
    filled g = suited (suits_global k g) (numbered (only_globals k.old) x.kind)

    bad : (g : ℕ) → find_name name (names_in k.new 2) ≡ Some g → fills_badly k (n.Init name x) ≡ not (is_some (filled g))
    bad g e =
        ap (λ o. not (can_fill k (only_globals k.old) (option_and_then (λ i. scalar_type (slice_get k.new.globals i)) o) x)) e
        ∙ ap (λ z. not z) (suited_some (suits_global k g) (numbered (only_globals k.old) x.kind))

check_least : (k : Link) (earlier : List Entry) (x : Expr) → cause_of (chain k earlier (n.Check x)) ≡ least_cause k earlier (n.Check x)
check_least k earlier x =
    after_there (suited (suits_check k) (numbered (only_globals k.old) x.kind)) c.BadExpr (λ y. Ok (l.Check y)) (list_any (clash (n.Check x)) earlier) (fills_badly k (n.Check x))
    (cond (list_any (clash (n.Check x)) earlier || false) (Some c.Twice) None) (ap (λ z. not z) (suited_some (suits_check k) (numbered (only_globals k.old) x.kind)))
    (λ y _. at_end (list_any (clash (n.Check x)) earlier) (l.Check y))

-- points: the functions of the parts
part_named : (k : Link) (name : List ℕ) (g : ℕ) → new_function k name ≡ Some g → (o : Option (List ℕ)) → function_of_part k name o ≡ function_in k g o
part_named k name g q None = q
part_named k name g q (Some part) = refl

functions_lack : (k : Link) (name : List ℕ) (g : ℕ) (from : Pt) (parts : List Part) → new_function k name ≡ Some g →
    lacks_function k (n.Point name from parts) ≡ not (is_some (all_there (map (λ p. function_in k g p.function) parts)))
functions_lack k name g from parts q =
    ap (λ o. not (is_some o) || list_any (λ p. not (is_some (part_function k name p))) parts) q
    ∙ one_missing (λ p. not (is_some (part_function k name p))) (λ p. function_in k g p.function) (λ p. ap (λ o. not (is_some o)) (part_named k name g q p.function)) parts

-- the places
abbrev Named : Link → ℕ → List Part → List ℕ → Type 0
Named k g parts hs = AllZip (λ p h. function_in k g p.function ≡ Some h) parts hs

point_lacks : (k : Link) (name : List ℕ) (g : ℕ) → new_function k name ≡ Some g → (p : Part) (h : ℕ) → function_in k g p.function ≡ Some h →
    not (has_point k.new (part_function k name p) p.point) ≡ not (is_some (site_of k h p.point))
point_lacks k name g q p h e =
    ap (λ o. not (has_point k.new o p.point)) (part_named k name g q p.function ∙ e)
    ∙ ap not (mapped_some (λ m. site h m) (place_of (function_of k.new h) p.point))

points_lack : (k : Link) (name : List ℕ) (f g : ℕ) (from : Pt) (parts : List Part) (hs : List ℕ) → old_function k name ≡ Some f → new_function k name ≡ Some g → Named k g parts hs →
    lacks_point k (n.Point name from parts) ≡ not (is_some (place_of (function_of k.old f) from) && is_some (sites_of k hs parts))
points_lack k name f g from parts hs p q r =
    ap (λ o. not (has_point k.old o from) || list_any (λ p. not (has_point k.new (part_function k name p) p.point)) parts) p
    ∙ (ap (λ b. not (is_some (place_of (function_of k.old f) from)) || b)
    (zip_missing (λ p h. function_in k g p.function ≡ Some h) (λ p. not (has_point k.new (part_function k name p) p.point)) (λ x. site_of k x.0 x.1.point) (point_lacks k name g q) parts hs r)
    ∙ not_both (is_some (place_of (function_of k.old f) from)) (is_some (sites_of k hs parts)))

-- calls
old_call : (k : Link) (f i : ℕ) (from : Pt) → place_of (function_of k.old f) from ≡ Some i → is_call from ≡ is_call_at k.old (site f i)
old_call k f i from e = ap (λ z. is_kind kind.Call z) (sym (found_kind (places (function_of k.old f)) from.kind from.number i e))

part_call : (k : Link) (g : ℕ) (p : Part) (s : Site) → StandsAt k g p s → is_call p.point ≡ is_call_at k.new s
part_call k g p s e = ap (λ z. is_kind kind.Call z) (sym (found_kind (places (function_of k.new s.function)) p.point.kind p.point.number s.place e.1))

kinds_known : (k : Link) (name : List ℕ) (f g i : ℕ) (from : Pt) (parts : List Part) (sites : List Site) → place_of (function_of k.old f) from ≡ Some i → AllZip (StandsAt k g) parts sites →
    differs_in_kind (n.Point name from parts) ≡ kinds_differ k (site f i) sites
kinds_known k name f g i from parts sites e r =
    ap (λ b. b || last_is (λ p. exactly_one (is_call from) (is_call p.point)) parts)
    (zip_neighbours (StandsAt k g) (λ p next. false) (λ p next. not (is_call p.point)) (λ s next. not (is_call_at k.new s)) (λ p next s z a b _. ap not (part_call k g p s a)) parts sites r (no_neighbours parts))
    ∙ ap (λ b. some_neighbours (λ s next. not (is_call_at k.new s)) sites || b)
    (zip_last (StandsAt k g) (λ p. false) (λ p. exactly_one (is_call from) (is_call p.point)) (kind_differs k (site f i)) kind_known parts sites r (no_last parts))
  where
    kind_known : (p : Part) (s : Site) → StandsAt k g p s → false ≡ false → exactly_one (is_call from) (is_call p.point) ≡ kind_differs k (site f i) s
    kind_known p s a _ = ap (λ z. exactly_one z (is_call p.point)) (old_call k f i from e) ∙ ap (λ z. exactly_one (is_call_at k.old (site f i)) z) (part_call k g p s a)

called : (p : Lifted) (o : Option ℕ) (f i : ℕ) (pt : Pt) → o ≡ Some f → place_of (function_of p f) pt ≡ Some i → called_at p o pt ≡ callee_at (function_of p f) i
called p o f i pt q e = ap (λ z. called_at p z pt) q ∙ ap (λ z. option_and_then (callee_at (function_of p f)) z) e

part_called : (k : Link) (name : List ℕ) (g : ℕ) → new_function k name ≡ Some g → (p : Part) (s : Site) → StandsAt k g p s → part_callee k name p ≡ callee_of k.new s
part_called k name g q p s a = called k.new (part_function k name p) s.function s.place p.point (part_named k name g q p.function ∙ a.0) a.1

same_is : (o : Option ℕ) (h : ℕ) → same_number o (Some h) ≡ is_number o h
same_is None h = refl
same_is (Some i) h = refl

links_known : (k : Link) (name : List ℕ) (g : ℕ) → new_function k name ≡ Some g → (p next : Part) (s z : Site) → StandsAt k g p s → StandsAt k g next z → not (is_call p.point) ≡ false →
    calls_another k name p next ≡ not (links_to k.new s z)
links_known k name g q p next s z a b c =
    ap (λ t. t && not (same_number (part_callee k name p) (part_function k name next))) (is_true (is_call p.point) c)
    ∙ (ap (λ o. not (same_number o (part_function k name next))) (part_called k name g q p s a)
    ∙ (ap (λ o. not (same_number (callee_of k.new s) o)) (part_named k name g q next.function ∙ b.0) ∙ ap not (same_is (callee_of k.new s) z.function)))
  where
    is_true : (t : Bool) → not t ≡ false → t ≡ true
    is_true true e = refl
    is_true false e = absurd (both_ways true e refl)

misses_known : (k : Link) (name : List ℕ) (f g i : ℕ) (from : Pt) → old_function k name ≡ Some f → new_function k name ≡ Some g → place_of (function_of k.old f) from ≡ Some i →
    (p : Part) (s : Site) → StandsAt k g p s → exactly_one (is_call from) (is_call p.point) ≡ false → misses_callee k name from p ≡ callee_differs k (site f i) s
misses_known k name f g i from w q e p s a c =
    both_calls (is_call from) (is_call p.point) (not (same_number (match_of_callee k (called_at k.old (old_function k name) from)) (part_callee k name p))) c
    ∙ (ap (λ z. z && not (same_number (match_of_callee k (called_at k.old (old_function k name) from)) (part_callee k name p))) (old_call k f i from e)
    ∙ (ap (λ z. is_call_at k.old (site f i) && not (same_number (match_of_callee k z) (part_callee k name p))) (called k.old (old_function k name) f i from w e)
    ∙ ap (λ z. is_call_at k.old (site f i) && not (same_number (match_of_callee k (callee_of k.old (site f i))) z)) (part_called k name g q p s a)))
  where
    both_calls : (a b z : Bool) → exactly_one a b ≡ false → (a && b && z) ≡ (a && z)
    both_calls true true z r = refl
    both_calls true false z r = absurd (both_ways true r refl)
    both_calls false b z r = refl

callees_known : (k : Link) (name : List ℕ) (f g i : ℕ) (from : Pt) (parts : List Part) (sites : List Site) → old_function k name ≡ Some f → new_function k name ≡ Some g →
    place_of (function_of k.old f) from ≡ Some i → AllZip (StandsAt k g) parts sites → kinds_differ k (site f i) sites ≡ false →
    differs_in_callee k (n.Point name from parts) ≡ callees_differ k (site f i) sites
callees_known k name f g i from parts sites w q e r same =
    let alike = or_parts (some_neighbours (λ p next. not (is_call p.point)) parts) (last_is (λ p. exactly_one (is_call from) (is_call p.point)) parts) (kinds_known k name f g i from parts sites e r ∙ same) in
    ap (λ b. b || last_is (misses_callee k name from) parts)
    (zip_neighbours (StandsAt k g) (λ p next. not (is_call p.point)) (calls_another k name) (λ s next. not (links_to k.new s next)) (links_known k name g q) parts sites r alike.0)
    ∙ ap (λ b. some_neighbours (λ s next. not (links_to k.new s next)) sites || b)
    (zip_last (StandsAt k g) (λ p. exactly_one (is_call from) (is_call p.point)) (misses_callee k name from) (callee_differs k (site f i)) (misses_known k name f g i from w q e) parts sites r alike.1)

-- what fills their slots
part_bad : (k : Link) (name : List ℕ) (f g : ℕ) → old_function k name ≡ Some f → new_function k name ≡ Some g → (p : Part) (s : Site) → StandsAt k g p s →
    part_fills_badly k name p ≡ not (is_some (lifted_part k f s p.fills))
part_bad k name f g w q p s a =
    ap (λ o. list_any (λ x. not (can_fill k (reads_of k.old o None) (type_named (slots_of k.new (part_function k name p)) x.slot) x.expr)) p.fills) w
    ∙ (ap (λ o. list_any (λ x. not (can_fill k (reads_slots k f) (type_named (slots_of k.new o) x.slot) x.expr)) p.fills) (part_named k name g q p.function ∙ a.0)
    ∙ (fills_there k (reads_slots k f) (function_of k.new s.function).slots p.fills
    ∙ ap not (mapped_some (λ xs. let y : LPart = record { function = s.function; place = s.place; fills = xs } in y)
    (all_there (map (lifted_fill k (reads_slots k f) (function_of k.new s.function).slots) p.fills)))))

parts_bad : (k : Link) (name : List ℕ) (f g : ℕ) (from : Pt) (parts : List Part) (sites : List Site) → old_function k name ≡ Some f → new_function k name ≡ Some g → AllZip (StandsAt k g) parts sites →
    fills_badly k (n.Point name from parts) ≡ not (is_some (lifted_parts k f sites parts))
parts_bad k name f g from parts sites w q r = zip_missing (StandsAt k g) (part_fills_badly k name) (λ x. lifted_part k f x.0 x.1.fills) (part_bad k name f g w q) parts sites r

part_twice : (k : Link) (f g : ℕ) (p : Part) (x : LPart) → PartForm k f g p x → has_name_twice (map (λ z. z.slot) p.fills) ≡ is_twice_filled x
part_twice k f g p x e =
    twice_named (function_of k.new x.function).slots p.fills x.fills (fills_named k (reads_slots k f) (function_of k.new x.function).slots p.fills x.fills e.1)

point_least : (k : Link) (earlier : List Entry) (name : List ℕ) (from : Pt) (parts : List Part) →
    cause_of (chain k earlier (n.Point name from parts)) ≡ least_cause k earlier (n.Point name from parts)
point_least k earlier name from parts =
    after_all (old_function k name) (match_at k.functions) named c.UnknownFunction after_functions t (lacks_function k x) after_1
    (λ e. ap (λ b. not b || list_any (λ p. not (is_some (part_function k name p))) parts) e)
    (λ f g p q. functions_lack k name g from parts (matched f g p q))
    (λ f g hs p q e. after_both (place_of (function_of k.old f) from) (sites_of k hs parts) c.UnknownPoint (after_places f) t (lacks_point k x) after_2
    (points_lack k name f g from parts hs p (matched f g p q) (all_named g hs e))
    (λ i sites d w. at_places f g i sites p (matched f g p q) d (sites_known k g parts hs sites (all_named g hs e) w)))
  where
    x : Entry
    x = n.Point name from parts

    t : Bool
    t = list_any (clash x) earlier

    after_8 : Option EntryCause
    after_8 = cond (t || fills_twice x) (Some c.Twice) None

    after_4 : Option EntryCause
    after_4 = cond (fills_badly k x) (Some c.BadExpr) after_8

    after_3 : Option EntryCause
    after_3 = cond (differs_in_callee k x) (Some c.CalleeDiffers) after_4

    after_2 : Option EntryCause
    after_2 = cond (differs_in_kind x) (Some c.KindDiffers) after_3

    after_1 : Option EntryCause
    after_1 = cond (lacks_point k x) (Some c.UnknownPoint) after_2

    named : ℕ → ℕ → Option (List ℕ)
    named f g = all_there (map (λ p. function_in k g p.function) parts)

    all_named : (g : ℕ) (hs : List ℕ) → named 0 g ≡ Some hs → Named k g parts hs
    all_named g hs e = all_known (λ p h. function_in k g p.function ≡ Some h) (λ p. function_in k g p.function) (λ p h w. w) parts hs e

    after_values : ℕ → ℕ → List LPart → Result LEntry EntryCause
    after_values f i xs = refuse_if (list_any is_twice_filled xs) c.Twice (Ok (l.Point f i xs))

    after_callee : ℕ → ℕ → List Site → Result LEntry EntryCause
    after_callee f i sites = onward (ok_or (lifted_parts k f sites parts) c.BadExpr) (after_values f i)

    after_kind : ℕ → ℕ → List Site → Result LEntry EntryCause
    after_kind f i sites = refuse_if (callees_differ k (site f i) sites) c.CalleeDiffers (after_callee f i sites)

    after_places : ℕ → ℕ → List Site → Result LEntry EntryCause
    after_places f i sites = refuse_if (kinds_differ k (site f i) sites) c.KindDiffers (after_kind f i sites)

    after_functions : ℕ → ℕ → List ℕ → Result LEntry EntryCause
    after_functions f g hs = onward (ok_or (place_of (function_of k.old f) from) c.UnknownPoint) (λ i. onward (ok_or (sites_of k hs parts) c.UnknownPoint) (after_places f i))

    matched : (f g : ℕ) → old_function k name ≡ Some f → match_at k.functions f ≡ Some g → new_function k name ≡ Some g
    matched f g p q = ap (λ o. option_and_then (match_at k.functions) o) p ∙ q

    at_values : (f g i : ℕ) (sites : List Site) (xs : List LPart) → AllZip (StandsAt k g) parts sites → lifted_parts k f sites parts ≡ Some xs → ends t (after_values f i xs) ≡ after_8
    at_values f g i sites xs r e =
        twice_at_end (list_any is_twice_filled xs) (fills_twice x) t (l.Point f i xs)
        (zip_any (PartForm k f g) (λ p. has_name_twice (map (λ z. z.slot) p.fills)) is_twice_filled (part_twice k f g) parts xs (parts_known k f g parts sites xs r e))

    at_places : (f g i : ℕ) (sites : List Site) → old_function k name ≡ Some f → new_function k name ≡ Some g → place_of (function_of k.old f) from ≡ Some i → AllZip (StandsAt k g) parts sites →
        ends t (after_places f i sites) ≡ after_2
    at_places f g i sites p q d r =
        after_test (kinds_differ k (site f i) sites) c.KindDiffers (after_kind f i sites) t (differs_in_kind x) after_3 (kinds_known k name f g i from parts sites d r)
        (λ same. after_test (callees_differ k (site f i) sites) c.CalleeDiffers (after_callee f i sites) t (differs_in_callee k x) after_4 (callees_known k name f g i from parts sites p q d r same)
        (λ _. after_there (lifted_parts k f sites parts) c.BadExpr (after_values f i) t (fills_badly k x) after_8 (parts_bad k name f g from parts sites p q r)
        (λ xs e. at_values f g i sites xs r e)))

pub chain_cause : (k : Link) (earlier : List Entry) (x : Entry) → cause_of (chain k earlier x) ≡ least_cause k earlier x
chain_cause k earlier (n.Match i a b) = match_least k earlier i a b
chain_cause k earlier (n.Field owner name x) = field_least k earlier owner name x
chain_cause k earlier (n.Init name x) = init_least k earlier name x
chain_cause k earlier (n.Point name from parts) = point_least k earlier name from parts
chain_cause k earlier (n.Check x) = check_least k earlier x
