-- The new globals, objects and mutexes are valid in the new program.
use Rattle.std.proofs.Common.{◌≡◌, ℕ, ◌+◌, ◌-◌, ◌<◌, Bool, true, false, List, [], ◌∷◌, ◌++◌, Option, Some, None, refl, sym, ◌∙◌, ap, subst, length, take, replicate, arith}
use Rattle.std.specs.Prelude.{zero, suc, ℤ, pos, map, ⊤, is_some, is_none, unwrap_or, if◌then◌else◌, slice_get, slice_index_or, Ok, All, MatchOption}
use Rattle.std.specs.List.{AllZip, enumerate_from}
use Rattle.std.proofs.lemmas.Option.{none-some, same_Some}
use Rattle.std.proofs.lemmas.List.{length-append, length-replicate, length-take}
use Rattle.c_tree.specs.declared.ty.Ty.TheVariants as ty
use Rattle.c_tree.specs.declared.lifted.LExpr.{LExpr}
use Rattle.c_tree.specs.declared.lifted.LExpr.TheVariants as l
use Rattle.c_tree.specs.declared.lifted.Lifted.{Lifted}
use Rattle.c_tree.specs.declared.lifted.LGlobal.{LGlobal}
use Rattle.c_tree.specs.declared.lifted.Slot.{Slot}
use Rattle.c_tree.specs.declared.mapping.LEntry.{LEntry}
use Rattle.c_tree.specs.declared.state.Object.{Object}
use Rattle.c_tree.specs.declared.state.State.{State}
use Rattle.c_tree.specs.declared.event.Reason.TheVariants as why
use Rattle.c_tree.specs.Value.{View, value}
use Rattle.c_tree.specs.Valid.{Refers, ValidGlobal, ValidObject}
use Rattle.c_tree.specs.Compute.{literals}
use Rattle.c_tree.specs.Refusal.{onward, first_some}
use Rattle.c_tree.specs.Link.{Link, match_at, origin, is_image}
use Rattle.c_tree.specs.Names.{struct_of}
use Rattle.c_tree.specs.MapExpr.{Reads, only_globals}
use Rattle.c_tree.specs.Fillings.{with_reason, filled}
use Rattle.c_tree.specs.MapGlobals.{init_of, carries, no_global, if_carried, global_filling, values_at, resized, global_view, map_global_by, map_global, map_globals_from}
use Rattle.c_tree.specs.MapHeap.{field_for, field_fillings, object_view, map_object_to, map_object, map_objects}
use Rattle.c_tree.specs.MapMutexes.{owner_at}
use Rattle.state_laws.proofs.TypedValues.{Holds, same_ok, not_ok, all_or}
use Rattle.state_laws.proofs.Refers.{zero_refers}
use Rattle.state_laws.proofs.Filled.{Gives, own_gives, fillings_give, filled_fits, onward_known, reason_known, and_both, image_kept}

pub all_nil : {A : Type 0} (P : A → Type 0) → All P []
all_nil P i d l = absurd (omega (arith, l))

pub all_cons : {A : Type 0} (P : A → Type 0) (x : A) (xs : List A) → P x → All P xs → All P (x ∷ xs)
all_cons P x xs p a zero d l = p
all_cons P x xs p a (suc i) d l = a i d (omega (arith, l))

pub all_tail : {A : Type 0} (P : A → Type 0) (x : A) (xs : List A) → All P (x ∷ xs) → All P xs
all_tail P x xs a i d l = a (suc i) d (omega (arith, l))

pub all_head : {A : Type 0} (P : A → Type 0) (x : A) (xs : List A) → All P (x ∷ xs) → P x
all_head P x xs a = a 0 x (omega arith)

pub all_join : {A : Type 0} (P : A → Type 0) (xs ys : List A) → All P xs → All P ys → All P (xs ++ ys)
all_join P [] ys a b = b
all_join P (x ∷ xs) ys a b = all_cons P x (xs ++ ys) (all_head P x xs a) (all_join P xs ys (all_tail P x xs a) b)

pub all_take : {A : Type 0} (P : A → Type 0) (n : ℕ) (xs : List A) → All P xs → All P (take n xs)
all_take P zero xs a = all_nil P
all_take P (suc n) [] a = all_nil P
all_take P (suc n) (x ∷ xs) a = all_cons P x (take n xs) (all_head P x xs a) (all_take P n xs (all_tail P x xs a))

pub all_same : {A : Type 0} (P : A → Type 0) (n : ℕ) (x : A) → P x → All P (replicate n x)
all_same P zero x p = all_nil P
all_same P (suc n) x p = all_cons P x (replicate n x) p (all_same P n x p)

pub all_weaker : {A : Type 0} (P Q : A → Type 0) (xs : List A) → ((x : A) → P x → Q x) → All P xs → All Q xs
all_weaker P Q xs f a i d l = f (slice_index_or xs i d) (a i d l)

pub zip_or : {A B : Type 0} (R : A → B → Type 0) (xs : List A) (ys : List B) (i : ℕ) (c : A) (d : B) → AllZip R xs ys → R c d → R (slice_index_or xs i c) (slice_index_or ys i d)
zip_or R [] [] i c d z r = r
zip_or R [] (y ∷ ys) i c d z r = absurd z
zip_or R (x ∷ xs) [] i c d z r = absurd z
zip_or R (x ∷ xs) (y ∷ ys) zero c d z r = z.0
zip_or R (x ∷ xs) (y ∷ ys) (suc i) c d z r = zip_or R xs ys i c d z.1 r

pub zip_weaker : {A B : Type 0} (R S : A → B → Type 0) (xs : List A) (ys : List B) → ((x : A) (y : B) → R x y → S x y) → AllZip R xs ys → AllZip S xs ys
zip_weaker R S [] [] f z = tt
zip_weaker R S [] (y ∷ ys) f z = absurd z
zip_weaker R S (x ∷ xs) [] f z = absurd z
zip_weaker R S (x ∷ xs) (y ∷ ys) f z = (f x y z.0, zip_weaker R S xs ys f z.1)

pub resized_length : (n : ℕ) (vs : List ℤ) → length (resized n vs) ≡ n
resized_length n vs =
    length-append (take n vs) (replicate (n - length vs) (pos 0))
    ∙ (ap (λ m. length (take n vs) + m) (length-replicate (n - length vs) (pos 0)) ∙ (ap (λ m. m + (n - length vs)) (length-take n vs) ∙ omega arith))

-- the old state's globals and objects
pub record Old (p : Lifted) (n : ℕ) (s : State) : Type 0 where
  pub globals : AllZip (λ g values. ValidGlobal n g values) p.globals s.globals
  pub objects : All (λ o. MatchOption o ⊤ (λ o. ValidObject p n o)) s.heap.objects

pub holds_globals : (p : Lifted) (n : ℕ) (s : State) → Old p n s → Holds (only_globals p) n (global_view s)
holds_globals p n s v = record { slots = tt; own = tt; globals = v.globals; objects = v.objects }

-- globals
pub global_kept : (k : Link) (n : ℕ) (s : State) (g : LGlobal) (o : ℕ) → Old k.old n s → is_image k (slice_index_or k.old.globals o no_global).ty g.ty ≡ true →
    All (λ v. Refers n g.ty v) (slice_index_or s.globals o [])
global_kept k n s g o v e =
    all_weaker (λ v. Refers n (slice_index_or k.old.globals o no_global).ty v) (λ v. Refers n g.ty v) (slice_index_or s.globals o [])
    (λ v r. image_kept k (slice_index_or k.old.globals o no_global).ty g.ty n v e r)
    (zip_or (λ g vs. All (λ v. Refers n g.ty v) vs) k.old.globals s.globals o no_global []
    (zip_weaker (λ g values. ValidGlobal n g values) (λ g vs. All (λ v. Refers n g.ty v) vs) k.old.globals s.globals (λ g vs r. r.refers) v.globals)
    (all_nil (λ v. Refers n ty.Void v)))

pub carried_known : (k : Link) (g : LGlobal) (m : Option ℕ) (o : ℕ) → if_carried k g m ≡ Some o → is_image k (slice_index_or k.old.globals o no_global).ty g.ty ≡ true
carried_known k g None o e = absurd (none-some o e)
carried_known k g (Some a) o e = pick (carries k (slice_index_or k.old.globals a no_global) g) refl e where
  pick : (b : Bool) → b ≡ carries k (slice_index_or k.old.globals a no_global) g → (if b then Some a else None) ≡ Some o → is_image k (slice_index_or k.old.globals o no_global).ty g.ty ≡ true
  pick false c e = absurd (none-some o e)
  pick true c e =
      subst (λ i. is_image k (slice_index_or k.old.globals i no_global).ty g.ty ≡ true) (same_Some a o e)
      (and_both (if is_some (slice_index_or k.old.globals a no_global).count then is_some g.count else is_none g.count) (is_image k (slice_index_or k.old.globals a no_global).ty g.ty) (sym c)).1

pub values_kept : (k : Link) (n : ℕ) (s : State) (g : LGlobal) (m : Option ℕ) → Old k.old n s → ((o : ℕ) → m ≡ Some o → is_image k (slice_index_or k.old.globals o no_global).ty g.ty ≡ true) → All (λ v. Refers n g.ty v) (values_at s m)
values_kept k n s g None v e = all_nil (λ v. Refers n g.ty v)
values_kept k n s g (Some o) v e = global_kept k n s g o v (e o refl)

pub global_gives : (k : Link) (n : ℕ) (s : State) (g : LGlobal) (o : ℕ) (v : ℤ) → All (λ v. Refers n g.ty v) (slice_index_or s.globals o []) → value (global_view s) (l.Global o) ≡ Ok v → Refers n g.ty v
unfolding literals
global_gives k n s g o v a w = subst (λ v. Refers n g.ty v) (same_ok (slice_index_or (slice_index_or s.globals o []) 0 (pos 0)) v w) (all_or (λ v. Refers n g.ty v) (slice_index_or s.globals o []) 0 (pos 0) a (zero_refers n g.ty))

pub number_value : (x : View) (i v : ℤ) → value x (l.Num i) ≡ Ok v → i ≡ v
unfolding literals
number_value x i v w = same_ok i v w

pub scalar_value : (k : Link) (n : ℕ) (s : State) (g : LGlobal) (declared : Option LExpr) (m : Option ℕ) (v : ℤ) → Old k.old n s →
    ((e : LExpr) → declared ≡ Some e → Gives (only_globals k.old) n e g.ty) →
    ((o : ℕ) → m ≡ Some o → is_image k (slice_index_or k.old.globals o no_global).ty g.ty ≡ true) → Refers n g.ty g.init →
    value (global_view s) (global_filling declared m g.init) ≡ Ok v → Refers n g.ty v
scalar_value k n s g (Some e) m v a d c i w = d e refl (global_view s) v (holds_globals k.old n s a) w
scalar_value k n s g None (Some o) v a d c i w = global_gives k n s g o v (global_kept k n s g o a (c o refl)) w
scalar_value k n s g None None v a d c i w = subst (λ v. Refers n g.ty v) (number_value (global_view s) g.init v w) i

pub new_global : (k : Link) (entries : List LEntry) (n : ℕ) (s : State) (j : ℕ) (g : LGlobal) (vs : List ℤ) → Old k.old n s →
    (g.count ≡ None → (e : LExpr) → first_some (map (init_of j) entries) ≡ Some e → Gives (only_globals k.old) n e g.ty) → Refers n g.ty g.init →
    map_global k entries s j g ≡ Ok vs → ValidGlobal n g vs
new_global k entries n s j g vs a d i w = pick g.count refl w where
  m : Option ℕ
  m = if_carried k g (origin k.globals j)

  pick : (c : Option ℕ) → g.count ≡ c → map_global_by entries s j g m c ≡ Ok vs → ValidGlobal n g vs
  pick (Some c) e w =
      subst (λ vs. ValidGlobal n g vs) (same_ok (resized c (values_at s m)) vs w)
      (record {
        long = resized_length c (values_at s m) ∙ ap (λ o. unwrap_or o 1) (sym e);
        refers = all_join (λ v. Refers n g.ty v) (take c (values_at s m)) (replicate (c - length (values_at s m)) (pos 0))
            (all_take (λ v. Refers n g.ty v) c (values_at s m) (values_kept k n s g m a (carried_known k g (origin k.globals j))))
            (all_same (λ v. Refers n g.ty v) (c - length (values_at s m)) (pos 0) (zero_refers n g.ty));
      })
  pick None e w =
      let x = global_filling (first_some (map (init_of j) entries)) m g.init in
      let r = onward_known (with_reason (λ c. why.Global j c) (value (global_view s) x)) (λ v. Ok (v ∷ [])) vs w in
      let good = scalar_value k n s g (first_some (map (init_of j) entries)) m r.0 a (d e) (carried_known k g (origin k.globals j)) i (reason_known (λ c. why.Global j c) (value (global_view s) x) r.0 r.1.0) in
      subst (λ vs. ValidGlobal n g vs) (same_ok (r.0 ∷ []) vs r.1.1)
      (record { long = ap (λ o. unwrap_or o 1) (sym e); refers = all_cons (λ v. Refers n g.ty v) r.0 [] good (all_nil (λ v. Refers n g.ty v)) })

pub new_globals : (k : Link) (entries : List LEntry) (n : ℕ) (s : State) (j : ℕ) (gs : List LGlobal) (vss : List (List ℤ)) → Old k.old n s →
    ((i m : ℕ) (g : LGlobal) → m ≡ j + i → slice_get gs i ≡ Some g → slice_get k.new.globals m ≡ Some g) →
    ((i : ℕ) (g : LGlobal) → slice_get k.new.globals i ≡ Some g → g.count ≡ None → (e : LExpr) → first_some (map (init_of i) entries) ≡ Some e → Gives (only_globals k.old) n e g.ty) →
    ((i : ℕ) (g : LGlobal) → slice_get k.new.globals i ≡ Some g → Refers n g.ty g.init) →
    map_globals_from k entries s j gs ≡ Ok vss → AllZip (λ g values. ValidGlobal n g values) gs vss
new_globals k entries n s j [] vss a h d i w = subst (λ vss. AllZip (λ g values. ValidGlobal n g values) [] vss) (same_ok [] vss w) tt
new_globals k entries n s j (g ∷ gs) vss a h d i w =
    let r = onward_known (map_global k entries s j g) (λ v. onward (map_globals_from k entries s (j + 1) gs) (λ vs. Ok (v ∷ vs))) vss w in
    let q = onward_known (map_globals_from k entries s (j + 1) gs) (λ vs. Ok (r.0 ∷ vs)) vss r.1.1 in
    let here : slice_get k.new.globals j ≡ Some g = h 0 j g (omega arith) refl in
    subst (λ vss. AllZip (λ g values. ValidGlobal n g values) (g ∷ gs) vss) (same_ok (r.0 ∷ q.0) vss q.1.1) (
      new_global k entries n s j g r.0 a (d j g here) (i j g here) r.1.0,
      new_globals k entries n s (j + 1) gs q.0 a (λ i m x e y. h (suc i) m x (omega (arith, e)) y) d i q.1.0,
    )

-- objects
abbrev pub IsObject : Lifted → ℕ → Option Object → Type 0
IsObject p n o = MatchOption o ⊤ (λ o. ValidObject p n o)

abbrev pub FieldsGive : Link → List LEntry → ℕ → Type 0
FieldsGive k entries n =
    (old new : ℕ) → match_at k.structs old ≡ Some new →
    (new < length k.new.structs)
    × ((i : ℕ) (e : LExpr) (x : Slot) → first_some (map (field_for new i) entries) ≡ Some e → slice_get (struct_of k.new new).fields i ≡ Some x →
    Gives (record { program = k.old; slots = []; own = (struct_of k.old old).fields }) n e x.ty)

pub new_object : (k : Link) (entries : List LEntry) (n : ℕ) (s : State) (i : ℕ) (o b : Option Object) → Old k.old n s → FieldsGive k entries n →
    IsObject k.old n o → map_object k entries s i o ≡ Ok b → IsObject k.new n b
new_object k entries n s i None b a f v w = subst (λ b. IsObject k.new n b) (same_ok None b w) tt
new_object k entries n s i (Some o) b a f v w = pick (match_at k.structs o.owner) refl w where
  pick : (m : Option ℕ) → match_at k.structs o.owner ≡ m → map_object_to k entries s i o m ≡ Ok b → IsObject k.new n b
  pick None e w = absurd (not_ok b (why.Removed i) w)
  pick (Some owner) e w =
      let r : Reads = record { program = k.old; slots = []; own = (struct_of k.old o.owner).fields } in
      let q = onward_known (filled (object_view s o) (λ j c. why.Field i j c) 0 (field_fillings k entries o.owner owner)) (λ vs. Ok (Some (record { owner = owner; fields = vs }))) b w in
      let g = f o.owner owner e in
      subst (λ b. IsObject k.new n b) (same_ok (Some (record { owner = owner; fields = q.0 })) b q.1.1)
      (record {
        owner = g.0;
        fields = filled_fits r n (object_view s o) (λ j c. why.Field i j c) 0 (struct_of k.new owner).fields (field_fillings k entries o.owner owner) q.0
            (record { slots = tt; own = v.fields; globals = a.globals; objects = a.objects })
            (fillings_give k r n (struct_of k.old o.owner).fields (λ j. first_some (map (field_for owner j) entries)) (λ j. l.Own j) (struct_of k.new owner).fields (struct_of k.new owner).fields 0
            (λ i m x e y. subst (λ z. slice_get (struct_of k.new owner).fields z ≡ Some x) (let z : i ≡ m = omega (arith, e) in z) y)
            g.1
            (λ j x t y z. own_gives k r n j x t y z))
            q.1.0;
      })

pub new_objects : (k : Link) (entries : List LEntry) (n : ℕ) (s : State) (i : ℕ) (os bs : List (Option Object)) → Old k.old n s → FieldsGive k entries n →
    All (IsObject k.old n) os → map_objects k entries s i os ≡ Ok bs → All (IsObject k.new n) bs × (length bs ≡ length os)
new_objects k entries n s i [] bs a f v w =
    (subst (λ bs. All (IsObject k.new n) bs) (same_ok [] bs w) (all_nil (IsObject k.new n)), ap (λ bs. length bs) (sym (same_ok [] bs w)))
new_objects k entries n s i (o ∷ os) bs a f v w =
    let r = onward_known (map_object k entries s i o) (λ a. onward (map_objects k entries s (i + 1) os) (λ bs. Ok (a ∷ bs))) bs w in
    let q = onward_known (map_objects k entries s (i + 1) os) (λ bs. Ok (r.0 ∷ bs)) bs r.1.1 in
    let more = new_objects k entries n s (i + 1) os q.0 a f (all_tail (IsObject k.old n) o os v) q.1.0 in
    let first = new_object k entries n s i o r.0 a f (all_head (IsObject k.old n) o os v) r.1.0 in
    let is : r.0 ∷ q.0 ≡ bs = same_ok (r.0 ∷ q.0) bs q.1.1 in
    (subst (λ bs. All (IsObject k.new n) bs) is (all_cons (IsObject k.new n) r.0 q.0 first more.0), sym (ap (λ bs. length bs) is) ∙ ap (λ m. suc m) more.1)

-- mutexes
abbrev pub IsOwner : ℕ → Option ℕ → Type 0
IsOwner n o = MatchOption o ⊤ (λ t. t < n)

pub owner_kept : (s : State) (n : ℕ) (m : Option ℕ) → All (IsOwner n) s.mutexes → IsOwner n (owner_at s m)
owner_kept s n None a = tt
owner_kept s n (Some m) a = all_or (IsOwner n) s.mutexes m None a tt

pub owners_kept : (k : Link) (s : State) (n j : ℕ) (names : List (List ℕ)) → All (IsOwner n) s.mutexes →
    All (IsOwner n) (map (λ x. owner_at s (origin k.mutexes x.0)) (enumerate_from j names))
owners_kept k s n j [] a = all_nil (IsOwner n)
owners_kept k s n j (name ∷ rest) a =
    all_cons (IsOwner n) (owner_at s (origin k.mutexes j)) (map (λ x. owner_at s (origin k.mutexes x.0)) (enumerate_from (j + 1) rest)) (owner_kept s n (origin k.mutexes j) a) (owners_kept k s n (j + 1) rest a)

pub owners_length : (k : Link) (s : State) (j : ℕ) (names : List (List ℕ)) → length (map (λ x. owner_at s (origin k.mutexes x.0)) (enumerate_from j names)) ≡ length names
owners_length k s j [] = refl
owners_length k s j (name ∷ rest) = ap (λ m. suc m) (owners_length k s (j + 1) rest)
