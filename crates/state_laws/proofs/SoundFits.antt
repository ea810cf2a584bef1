-- What the entries of a sound patch make sure of.
use Rattle.std.proofs.Common.{◌≡◌, ℕ, ◌<◌, Bool, true, false, not, List, [], ◌∷◌, Option, Some, None, refl, sym, ◌∙◌, ap, subst, length, nat_lt, arith}
use Rattle.std.specs.Prelude.{map, find, ◌==◌, ◌&&◌, ◌||◌, cond, is_some, if◌then◌else◌, slice_get, All}
use Rattle.std.specs.Option.{option_map, option_or}
use Rattle.std.specs.List.{AllZip, list_any, list_all}
use Rattle.std.proofs.lemmas.Option.{none-some, same_Some, slice_get_within}
use Rattle.std.proofs.lemmas.Bool.{eqb-true, ltb-true}
use Rattle.c_tree.specs.declared.lifted.LExpr.{LExpr}
use Rattle.c_tree.specs.declared.lifted.LExpr.TheVariants as l
use Rattle.c_tree.specs.declared.lifted.LGlobal.{LGlobal}
use Rattle.c_tree.specs.declared.lifted.LFunction.{LFunction}
use Rattle.c_tree.specs.declared.lifted.LStmt.TheVariants as t
use Rattle.c_tree.specs.declared.lifted.Slot.{Slot}
use Rattle.c_tree.specs.declared.lifted.Lifted.{Lifted}
use Rattle.c_tree.specs.declared.mapping.LFill.{LFill}
use Rattle.c_tree.specs.declared.mapping.LPart.{LPart}
use Rattle.c_tree.specs.declared.mapping.LEntry.{LEntry}
use Rattle.c_tree.specs.declared.mapping.LEntry.TheVariants as n
use Rattle.c_tree.specs.Step.{function_of}
use Rattle.c_tree.specs.Valid.{IsCallOf}
use Rattle.c_tree.specs.declared.place.Act.{Act}
use Rattle.c_tree.specs.declared.place.Act.TheVariants.{Enter, Do, Test, EndLoop, Finish}
use Rattle.c_tree.specs.declared.place.Place.{Place}
use Rattle.c_tree.specs.Layout.{places, place_at, nowhere}
use Rattle.c_tree.specs.Points.{kind_of, kind_in, callee_in, callee_at}
use Rattle.c_tree.specs.Refusal.{first_some}
use Rattle.c_tree.specs.Link.{Link, match_at, origin}
use Rattle.c_tree.specs.Names.{struct_of, is_number, same_number}
use Rattle.c_tree.specs.Same.{is_unchanged}
use Rattle.c_tree.specs.MapExpr.{Reads, only_globals, scalar_type, fields_of}
use Rattle.c_tree.specs.Suits.{Site, site, is_call_at, callee_of, some_neighbours, last_is, kind_differs, kinds_differ, match_of_callee, links_to, callee_differs, callees_differ, reads_slots, reads_fields, suits, suits_slot, suits_global, slot_asked, has_twice}
use Rattle.c_tree.specs.Sound.{is_standing, sound_fills, part_site, sound_part, begins_with_match, sound_point, is_sound_entry, numbers_clash, are_sound}
use Rattle.c_tree.specs.MapStack.{part, parts_of, fill_for, slot_fillings, is_point_of, declared_parts, unchanged_parts, parts_of_match}
use Rattle.c_tree.specs.MapGlobals.{init_of}
use Rattle.c_tree.specs.MapHeap.{field_for}
use Rattle.c_tree.proofs.BoolLemmas.{or_first, or_second}
use Rattle.state_laws.proofs.PlaceKinds.{is_plain, is_call_kind}
use Rattle.state_laws.proofs.TypedValues.{no_false}
use Rattle.state_laws.proofs.Filled.{Gives, suits_gives, slot_gives, fillings_give, and_both, map_some}
use Rattle.state_laws.proofs.MappedStacks.{Calls, PartFits, LastFits, PartsLead, PartsFit, MapsWell}
use Rattle.state_laws.proofs.MappedParts.{FieldsGive, all_nil, all_cons}

pub not_true : (b : Bool) → not b ≡ true → b ≡ false
not_true false e = refl
not_true true e = absurd (no_false e)

pub clash_of : (b : Bool) → b ≡ true → b ≡ false → ⊥
clash_of b e f = no_false (sym f ∙ e)

-- what is looked up among sound entries is sound
pub looked_up : (k : Link) (look : LEntry → Option LExpr) (P : LExpr → Type 0) (entries : List LEntry) (e : LExpr) →
    ((x : LEntry) (e : LExpr) → is_sound_entry k x ≡ true → look x ≡ Some e → P e) → are_sound k entries ≡ true → first_some (map look entries) ≡ Some e → P e
looked_up k look P [] e f s w = absurd (none-some e w)
looked_up k look P (x ∷ rest) e f s w = pick (look x) refl w (looked_up k look P rest e f parts.1) where
  parts : ((is_sound_entry k x && not (list_any (numbers_clash x) rest)) ≡ true) × (are_sound k rest ≡ true)
  parts = and_both (is_sound_entry k x && not (list_any (numbers_clash x) rest)) (are_sound k rest) s

  pick : (o : Option LExpr) → look x ≡ o → first_some (o ∷ map look rest) ≡ Some e → (first_some (map look rest) ≡ Some e → P e) → P e
  pick (Some y) g w more = f x e (and_both (is_sound_entry k x) (not (list_any (numbers_clash x) rest)) parts.0).0 (g ∙ w)
  pick None g w more = more w

pub sound_found : (k : Link) (p : LEntry → Bool) (entries : List LEntry) (x : LEntry) → are_sound k entries ≡ true → find p entries ≡ Some x → (is_sound_entry k x ≡ true) × (p x ≡ true)
sound_found k p [] x s e = absurd (none-some x e)
sound_found k p (y ∷ rest) x s e = pick (p y) refl e (sound_found k p rest x parts.1) where
  parts : ((is_sound_entry k y && not (list_any (numbers_clash y) rest)) ≡ true) × (are_sound k rest ≡ true)
  parts = and_both (is_sound_entry k y && not (list_any (numbers_clash y) rest)) (are_sound k rest) s

  pick : (b : Bool) → p y ≡ b → cond b (Some y) (find p rest) ≡ Some x → (find p rest ≡ Some x → (is_sound_entry k x ≡ true) × (p x ≡ true)) → (is_sound_entry k x ≡ true) × (p x ≡ true)
  pick true g e more =
      let is : y ≡ x = same_Some y x e in
      (subst (λ z. is_sound_entry k z ≡ true) is (and_both (is_sound_entry k y) (not (list_any (numbers_clash y) rest)) parts.0).0, subst (λ z. p z ≡ true) is g)
  pick false g e more = more e

pub all_found : {A : Type 0} (p q : A → Bool) (xs : List A) (x : A) → list_all p xs ≡ true → find q xs ≡ Some x → (p x ≡ true) × (q x ≡ true)
all_found p q [] x s e = absurd (none-some x e)
all_found p q (y ∷ rest) x s e = pick (q y) refl e (all_found p q rest x parts.1) where
  parts : (p y ≡ true) × (list_all p rest ≡ true)
  parts = and_both (p y) (list_all p rest) s

  pick : (b : Bool) → q y ≡ b → cond b (Some y) (find q rest) ≡ Some x → (find q rest ≡ Some x → (p x ≡ true) × (q x ≡ true)) → (p x ≡ true) × (q x ≡ true)
  pick true g e more = let is : y ≡ x = same_Some y x e in (subst (λ z. p z ≡ true) is parts.0, subst (λ z. q z ≡ true) is g)
  pick false g e more = more e

pub some_if : {A : Type 0} (b : Bool) (x y : A) → (if b then Some x else None) ≡ Some y → (b ≡ true) × (x ≡ y)
some_if true x y e = (refl, same_Some x y e)
some_if false x y e = absurd (none-some y e)

-- an expression for a scalar
pub inits_give : (k : Link) (entries : List LEntry) (m : ℕ) → are_sound k entries ≡ true →
    (i : ℕ) (g : LGlobal) → slice_get k.new.globals i ≡ Some g → g.count ≡ None → (e : LExpr) → first_some (map (init_of i) entries) ≡ Some e → Gives (only_globals k.old) m e g.ty
inits_give k entries m s i g there scalar e w = give (looked_up k (init_of i) (λ e. suits_global k i e ≡ true) entries e each s w) where
  each : (x : LEntry) (e : LExpr) → is_sound_entry k x ≡ true → init_of i x ≡ Some e → suits_global k i e ≡ true
  each (n.Init h y) e s f =
      let b = some_if (i == h) y e f in
      let j : h ≡ i = sym (eqb-true i h b.0) in
      subst (λ y. suits_global k i y ≡ true) b.1 (subst (λ h. suits_global k h y ≡ true) j s)
  each (n.Match a b c) e s f = absurd (none-some e f)
  each (n.Field a b c) e s f = absurd (none-some e f)
  each (n.Point a b c) e s f = absurd (none-some e f)
  each (n.Check a) e s f = absurd (none-some e f)

  type : scalar_type (slice_get k.new.globals i) ≡ Some g.ty
  type = ap (λ o. scalar_type o) there ∙ ap (λ c. if is_some c then None else Some g.ty) scalar

  give : suits_global k i e ≡ true → Gives (only_globals k.old) m e g.ty
  give s = suits_gives k (only_globals k.old) m e g.ty (subst (λ o. suits k (only_globals k.old) o e ≡ true) type s)

-- an expression for a field, where structs are matched one to one
pub fields_give : (k : Link) (entries : List LEntry) (m : ℕ) → are_sound k entries ≡ true →
    ((i j : ℕ) → match_at k.structs i ≡ Some j → (j < length k.new.structs) × (origin k.structs j ≡ Some i)) → FieldsGive k entries m
fields_give k entries m s one old new matched = let o = one old new matched in (o.0, λ i e x w there. give i e x there o.1 (looked_up k (field_for new i) (λ e. suits_slot k (reads_fields k new) (struct_of k.new new).fields i e ≡ true) entries e (each i) s w)) where
  each : (i : ℕ) (x : LEntry) (e : LExpr) → is_sound_entry k x ≡ true → field_for new i x ≡ Some e → suits_slot k (reads_fields k new) (struct_of k.new new).fields i e ≡ true
  each i (n.Field t j y) e s f =
      let b = some_if (new == t && i == j) y e f in
      let c = and_both (new == t) (i == j) b.0 in
      let a : t ≡ new = sym (eqb-true new t c.0) in
      let d : j ≡ i = sym (eqb-true i j c.1) in
      subst (λ y. suits_slot k (reads_fields k new) (struct_of k.new new).fields i y ≡ true) b.1
      (subst (λ j. suits_slot k (reads_fields k new) (struct_of k.new new).fields j y ≡ true) d (subst (λ t. suits_slot k (reads_fields k t) (struct_of k.new t).fields j y ≡ true) a s))
  each i (n.Match a b c) e s f = absurd (none-some e f)
  each i (n.Init a b) e s f = absurd (none-some e f)
  each i (n.Point a b c) e s f = absurd (none-some e f)
  each i (n.Check a) e s f = absurd (none-some e f)

  give : (i : ℕ) (e : LExpr) (x : Slot) → slice_get (struct_of k.new new).fields i ≡ Some x → origin k.structs new ≡ Some old →
      suits_slot k (reads_fields k new) (struct_of k.new new).fields i e ≡ true → Gives (record { program = k.old; slots = []; own = (struct_of k.old old).fields }) m e x.ty
  give i e x there from s =
      let r : Reads = record { program = k.old; slots = []; own = (struct_of k.old old).fields } in
      let here : suits k r (slot_asked (struct_of k.new new).fields i) e ≡ true =
      subst (λ o. suits k (record { program = k.old; slots = []; own = fields_of k.old o }) (slot_asked (struct_of k.new new).fields i) e ≡ true) from s in
      suits_gives k r m e x.ty (subst (λ o. suits k r (option_map (λ y. y.ty) o) e ≡ true) there here)

-- places: one that is not plain is inside
pub inside : (f : LFunction) (i : ℕ) → is_plain (kind_in f i) ≡ false → i < length (places f)
inside f i e = pick (slice_get (places f) i) refl e where
  pick : (o : Option Place) → slice_get (places f) i ≡ o → is_plain (kind_of (nowhere o).act) ≡ false → i < length (places f)
  pick None g e = absurd (no_false (sym e))
  pick (Some p) g e = slice_get_within (places f) i p g

pub call_known : (act : Act) (c : ℕ) → callee_in act ≡ Some c → IsCallOf c act
call_known (Do (t.Call to f args)) c e = same_Some f c e
call_known (Do (t.Assign a b)) c e = absurd (none-some c e)
call_known (Do (t.New a b)) c e = absurd (none-some c e)
call_known (Do (t.Getc a)) c e = absurd (none-some c e)
call_known (Do (t.Print a b)) c e = absurd (none-some c e)
call_known (Do (t.Free a)) c e = absurd (none-some c e)
call_known (Do (t.Spawn a b d)) c e = absurd (none-some c e)
call_known (Do (t.Join a)) c e = absurd (none-some c e)
call_known (Do (t.Lock a)) c e = absurd (none-some c e)
call_known (Do (t.Unlock a)) c e = absurd (none-some c e)
call_known (Do (t.Return a)) c e = absurd (none-some c e)
call_known (Do (t.If' a b d g h)) c e = absurd (none-some c e)
call_known (Do (t.Loop' a b d g h i j)) c e = absurd (none-some c e)
call_known (Do t.Break) c e = absurd (none-some c e)
call_known (Do t.Continue) c e = absurd (none-some c e)
call_known Enter c e = absurd (none-some c e)
call_known (Test x) c e = absurd (none-some c e)
call_known EndLoop c e = absurd (none-some c e)
call_known Finish c e = absurd (none-some c e)

pub called : (act : Act) (c : ℕ) → IsCallOf c act → (callee_in act ≡ Some c) × (is_call_kind (kind_of act) ≡ true)
called (Do (t.Call to f args)) c e = (ap (λ i. Some i) e, refl)
called (Do (t.Assign a b)) c e = absurd e
called (Do (t.New a b)) c e = absurd e
called (Do (t.Getc a)) c e = absurd e
called (Do (t.Print a b)) c e = absurd e
called (Do (t.Free a)) c e = absurd e
called (Do (t.Spawn a b d)) c e = absurd e
called (Do (t.Join a)) c e = absurd e
called (Do (t.Lock a)) c e = absurd e
called (Do (t.Unlock a)) c e = absurd e
called (Do (t.Return a)) c e = absurd e
called (Do (t.If' a b d g h)) c e = absurd e
called (Do (t.Loop' a b d g h i j)) c e = absurd e
called (Do t.Break) c e = absurd e
called (Do t.Continue) c e = absurd e
called Enter c e = absurd e
called (Test x) c e = absurd e
called EndLoop c e = absurd e
called Finish c e = absurd e

pub same_known : (a b : Option ℕ) → same_number a b ≡ true → (d : ℕ) × ((a ≡ Some d) × (b ≡ Some d))
same_known None b e = absurd (no_false e)
same_known (Some x) None e = absurd (no_false e)
same_known (Some x) (Some y) e = (x, (refl, ap (λ i. Some i) (sym (eqb-true x y e))))

pub number_known : (o : Option ℕ) (i : ℕ) → is_number o i ≡ true → o ≡ Some i
number_known None i e = absurd (no_false e)
number_known (Some m) i e = ap (λ z. Some z) (eqb-true m i e)

pub sound_calls : (k : Link) (f i g m : ℕ) → callee_differs k (site f i) (site g m) ≡ false → Calls k (place_at (function_of k.old f) i).act (place_at (function_of k.new g) m).act
sound_calls k f i g m s c e =
    let d = called (place_at (function_of k.old f) i).act c e in
    let same : same_number (match_of_callee k (callee_at (function_of k.old f) i)) (callee_at (function_of k.new g) m) ≡ true =
    so (is_call_at k.old (site f i)) (same_number (match_of_callee k (callee_at (function_of k.old f) i)) (callee_at (function_of k.new g) m)) d.1 s in
    let known = same_known (match_of_callee k (callee_at (function_of k.old f) i)) (callee_at (function_of k.new g) m) same in
    (known.0, (ap (λ o. match_of_callee k o) (sym d.0) ∙ known.1.0, call_known (place_at (function_of k.new g) m).act known.0 known.1.1))
  where
    so : (a b : Bool) → a ≡ true → (a && not b) ≡ false → b ≡ true
    so true true e f = refl
    so true false e f = absurd (no_false (sym f))
    so false b e f = absurd (no_false e)

-- slots that are carried over are those of the old function, or none
abbrev pub AreSlotsOf : Link → ℕ → List Slot → Type 0
AreSlotsOf k f olds = (i : ℕ) (o : Slot) → slice_get olds i ≡ Some o → slice_get (function_of k.old f).slots i ≡ Some o

-- the fillings of a part
pub part_fillings : (k : Link) (f g m : ℕ) (olds : List Slot) (fills : List LFill) → AreSlotsOf k f olds → list_all (λ x. suits_slot k (reads_slots k f) (function_of k.new g).slots x.slot x.expr) fills ≡ true →
    AllZip (λ s e. Gives (reads_slots k f) m e s.ty) (function_of k.new g).slots (slot_fillings k olds fills (function_of k.new g).slots)
part_fillings k f g m olds fills own s =
    fillings_give k (reads_slots k f) m olds (fill_for fills) (λ i. l.Slot i) (function_of k.new g).slots (function_of k.new g).slots 0
    (λ i z x e y. subst (λ z. slice_get (function_of k.new g).slots z ≡ Some x) (let q : i ≡ z = omega (arith, e) in q) y) given
    (λ j x t y z. slot_gives k (reads_slots k f) m j x t (own j x y) z)
  where
    given : (i : ℕ) (e : LExpr) (x : Slot) → fill_for fills i ≡ Some e → slice_get (function_of k.new g).slots i ≡ Some x → Gives (reads_slots k f) m e x.ty
    given i e x w there =
        let r = map_some (λ y. y.expr) (find (λ y. y.slot == i) fills) e w in
        let q = all_found (λ y. suits_slot k (reads_slots k f) (function_of k.new g).slots y.slot y.expr) (λ y. y.slot == i) fills r.0 s r.1.0 in
        let here : suits_slot k (reads_slots k f) (function_of k.new g).slots i e ≡ true =
        subst (λ y. suits_slot k (reads_slots k f) (function_of k.new g).slots i y ≡ true) r.1.1
        (subst (λ j. suits_slot k (reads_slots k f) (function_of k.new g).slots j r.0.expr ≡ true) (eqb-true r.0.slot i q.1) q.0) in
        suits_gives k (reads_slots k f) m e x.ty (subst (λ o. suits k (reads_slots k f) (option_map (λ y. y.ty) o) e ≡ true) there here)

pub agree : (a b : Bool) → (if a then not b else b) ≡ false → a ≡ false → b ≡ false
agree false b e f = e
agree true b e f = absurd (no_false (sym f))

-- a declared part
pub sound_fits : (k : Link) (f m : ℕ) (olds : List Slot) (p : LPart) → AreSlotsOf k f olds → sound_part k f p ≡ true → PartFits k m f (part k olds p.function p.place p.fills)
sound_fits k f m olds p own s =
    let slots = (function_of k.new p.function).slots in
    let suit = list_all (λ x. suits_slot k (reads_slots k f) slots x.slot x.expr) p.fills in
    let a = and_both (nat_lt p.function (length k.new.functions) && is_standing k.new (part_site p)) (sound_fills k f slots p.fills) s in
    let b = and_both (nat_lt p.function (length k.new.functions)) (is_standing k.new (part_site p)) a.0 in
    let c = and_both suit (not (has_twice (map (λ x. x.slot) p.fills))) a.1 in
    record {
      function = ltb-true p.function (length k.new.functions) b.0;
      place = inside (function_of k.new p.function) p.place (not_true (is_plain (kind_in (function_of k.new p.function) p.place)) b.1);
      fillings = part_fillings k f p.function m olds p.fills own c.0;
    }

pub all_sound_fit : (k : Link) (f m : ℕ) (olds : List Slot) (ps : List LPart) → AreSlotsOf k f olds → list_all (sound_part k f) ps ≡ true → All (λ p. PartFits k m f p) (parts_of k olds ps)
all_sound_fit k f m olds [] own s = all_nil (λ p. PartFits k m f p)
all_sound_fit k f m olds (p ∷ added) own s =
    let a = and_both (sound_part k f p) (list_all (sound_part k f) added) s in
    all_cons (λ p. PartFits k m f p) (part k olds p.function p.place p.fills) (parts_of k [] added) (sound_fits k f m olds p own a.0)
    (all_sound_fit k f m [] added (λ i o e. absurd (none-some o e)) a.1)

-- the last declared part
pub last_fits : (k : Link) (f i : ℕ) (olds : List Slot) (p : LPart) → sound_part k f p ≡ true → kind_differs k (site f i) (part_site p) ≡ false → callee_differs k (site f i) (part_site p) ≡ false →
    LastFits k f i (part k olds p.function p.place p.fills)
last_fits k f i olds p s kind callee =
    let slots = (function_of k.new p.function).slots in
    let a = and_both (nat_lt p.function (length k.new.functions) && is_standing k.new (part_site p)) (sound_fills k f slots p.fills) s in
    let b = and_both (nat_lt p.function (length k.new.functions)) (is_standing k.new (part_site p)) a.0 in
    let plain : is_plain (kind_in (function_of k.new p.function) p.place) ≡ false = not_true (is_plain (kind_in (function_of k.new p.function) p.place)) b.1 in
    record {
      calls = sound_calls k f i p.function p.place callee;
      stands = λ t. (plain, agree (is_call_at k.old (site f i)) (is_call_at k.new (part_site p)) kind t.1);
    }

-- a part that calls the next one
pub link_known : (p : Lifted) (s next : Site) → links_to p s next ≡ true → IsCallOf next.function (place_at (function_of p s.function) s.place).act
link_known p s next e = call_known (place_at (function_of p s.function) s.place).act next.function (number_known (callee_of p s) next.function e)

true_of : (b : Bool) → not b ≡ false → b ≡ true
true_of true e = refl
true_of false e = absurd (no_false (sym e))

-- the declared parts lead on
pub sound_leads : (k : Link) (f i : ℕ) (olds : List Slot) (p : LPart) (added : List LPart) → list_all (sound_part k f) (p ∷ added) ≡ true → kinds_differ k (site f i) (map part_site (p ∷ added)) ≡ false →
    callees_differ k (site f i) (map part_site (p ∷ added)) ≡ false → PartsLead k f i (part k olds p.function p.place p.fills) (parts_of k [] added)
sound_leads k f i olds p [] s kind callee = last_fits k f i olds p (and_both (sound_part k f p) true s).0 kind callee
sound_leads k f i olds p (q ∷ rest) s kind callee =
    let sites : List Site = map part_site (q ∷ rest) in
    let from : Site = site f i in
    let test : Site → Site → Bool = λ s next. not (links_to k.new s next) in
    let calls : Site → Site → Bool = λ s next. not (is_call_at k.new s) in
    let a = or_first (test (part_site p) (part_site q) || some_neighbours test sites) (last_is (callee_differs k from) sites) callee in
    let b = or_second (test (part_site p) (part_site q) || some_neighbours test sites) (last_is (callee_differs k from) sites) callee in
    let c = or_first (calls (part_site p) (part_site q) || some_neighbours calls sites) (last_is (kind_differs k from) sites) kind in
    let d = or_second (calls (part_site p) (part_site q) || some_neighbours calls sites) (last_is (kind_differs k from) sites) kind in (
      link_known k.new (part_site p) (part_site q) (true_of (links_to k.new (part_site p) (part_site q)) (or_first (test (part_site p) (part_site q)) (some_neighbours test sites) a)),
      sound_leads k f i [] q rest (and_both (sound_part k f p) (list_all (sound_part k f) (q ∷ rest)) s).1
          (neither (some_neighbours calls sites) (last_is (kind_differs k from) sites) (or_second (calls (part_site p) (part_site q)) (some_neighbours calls sites) c) d)
          (neither (some_neighbours test sites) (last_is (callee_differs k from) sites) (or_second (test (part_site p) (part_site q)) (some_neighbours test sites) a) b),
    )
  where
    neither : (a b : Bool) → a ≡ false → b ≡ false → (a || b) ≡ false
    neither true b g h = g
    neither false b g h = h

-- declared parts
pub sound_parts : (k : Link) (f i m : ℕ) (ps : List LPart) → sound_point k (site f i) ps ≡ true → PartsFit k m f i (parts_of k (function_of k.old f).slots ps)
sound_parts k f i m ps s =
    let sites : List Site = map part_site ps in
    let from : Site = site f i in
    let a = and_both (is_standing k.old from && begins_with_match k f ps && list_all (sound_part k f) ps && not (kinds_differ k from sites)) (not (callees_differ k from sites)) s in
    let b = and_both (is_standing k.old from && begins_with_match k f ps && list_all (sound_part k f) ps) (not (kinds_differ k from sites)) a.0 in
    let c = and_both (is_standing k.old from && begins_with_match k f ps) (list_all (sound_part k f) ps) b.0 in
    let d = and_both (is_standing k.old from) (begins_with_match k f ps) c.0 in
    whole ps d.1 c.1 (not_true (kinds_differ k from sites) b.1) (not_true (callees_differ k from sites) a.1)
  where
    whole : (ps : List LPart) → begins_with_match k f ps ≡ true → list_all (sound_part k f) ps ≡ true → kinds_differ k (site f i) (map part_site ps) ≡ false →
        callees_differ k (site f i) (map part_site ps) ≡ false → PartsFit k m f i (parts_of k (function_of k.old f).slots ps)
    whole [] begins each kind callee = absurd (no_false begins)
    whole (p ∷ added) begins each kind callee =
        let first = and_both (is_number (match_at k.functions f) p.function) (nat_lt (length added) 4) begins in (
          number_known (match_at k.functions f) p.function first.0,
          all_sound_fit k f m (function_of k.old f).slots (p ∷ added) (λ i o e. e) each,
          sound_leads k f i (function_of k.old f).slots p added each kind callee,
        )

-- an unchanged function keeps its places
abbrev pub UnchangedKept : Link → Type 0
UnchangedKept k = (f g i : ℕ) → is_unchanged k f g ≡ true → is_plain (kind_in (function_of k.old f) i) ≡ false →
    (i < length (places (function_of k.new g))) × Calls k (place_at (function_of k.old f) i).act (place_at (function_of k.new g) i).act × (kind_in (function_of k.new g) i ≡ kind_in (function_of k.old f) i)

pub maps_well : (k : Link) (entries : List LEntry) (m : ℕ) → are_sound k entries ≡ true → ((f g : ℕ) → match_at k.functions f ≡ Some g → g < length k.new.functions) → UnchangedKept k → MapsWell k entries m
maps_well k entries m s within kept f i parts w = matched (match_at k.functions f) refl w where
  olds : List Slot
  olds = (function_of k.old f).slots

  declared : (g j : ℕ) (ps : List LPart) → is_sound_entry k (n.Point g j ps) ≡ true → is_point_of f i (n.Point g j ps) ≡ true → parts_of k olds ps ≡ parts → PartsFit k m f i parts
  declared g j ps sound point same =
      let c = and_both (f == g) (i == j) point in
      let a : g ≡ f = sym (eqb-true f g c.0) in
      let b : j ≡ i = sym (eqb-true i j c.1) in
      let here : sound_point k (site f i) ps ≡ true = subst (λ j. sound_point k (site f j) ps ≡ true) b (subst (λ g. sound_point k (site g j) ps ≡ true) a sound) in
      subst (λ parts. PartsFit k m f i parts) same (sound_parts k f i m ps here)

  unchanged : (h : ℕ) → match_at k.functions f ≡ Some h → unchanged_parts k f h i ≡ Some parts → PartsFit k m f i parts
  unchanged h e w =
      let c = some_if (is_unchanged k f h && not (is_plain (kind_in (function_of k.old f) i))) (part k olds h i [] ∷ []) parts w in
      let q = and_both (is_unchanged k f h) (not (is_plain (kind_in (function_of k.old f) i))) c.0 in
      let u = kept f h i q.0 (not_true (is_plain (kind_in (function_of k.old f) i)) q.1) in
      let fits : PartFits k m f (part k olds h i []) = record { function = within f h e; place = u.0; fillings = part_fillings k f h m olds [] (λ i o e. e) refl } in
      subst (λ parts. PartsFit k m f i parts) c.1 (
        e,
        all_cons (λ p. PartFits k m f p) (part k olds h i []) [] fits (all_nil (λ p. PartFits k m f p)),
        record { calls = u.1; stands = λ t. (ap (λ q. is_plain q) u.2 ∙ t.0, ap (λ q. is_call_kind q) u.2 ∙ t.1) },
      )

  found : (h : ℕ) → match_at k.functions f ≡ Some h → (o : Option LEntry) → find (is_point_of f i) entries ≡ o → option_or (declared_parts k f o) (unchanged_parts k f h i) ≡ Some parts → PartsFit k m f i parts
  found h e None g w = unchanged h e w
  found h e (Some (n.Point a b c)) g w = let q = sound_found k (is_point_of f i) entries (n.Point a b c) s g in declared a b c q.0 q.1 (same_Some (parts_of k olds c) parts w)
  found h e (Some (n.Match a b c)) g w = absurd (no_false (sound_found k (is_point_of f i) entries (n.Match a b c) s g).1)
  found h e (Some (n.Field a b c)) g w = absurd (no_false (sound_found k (is_point_of f i) entries (n.Field a b c) s g).1)
  found h e (Some (n.Init a b)) g w = absurd (no_false (sound_found k (is_point_of f i) entries (n.Init a b) s g).1)
  found h e (Some (n.Check a)) g w = absurd (no_false (sound_found k (is_point_of f i) entries (n.Check a) s g).1)

  matched : (o : Option ℕ) → match_at k.functions f ≡ o → parts_of_match k entries f i o ≡ Some parts → PartsFit k m f i parts
  matched None e w = absurd (none-some parts w)
  matched (Some h) e w = found h e (find (is_point_of f i) entries) refl w
