-- The parts of each entry that was lifted.
use Rattle.std.proofs.Common.{◌≡◌, ℕ, Bool, true, false, List, Option, Some, None, Result, Ok, Err, refl, subst}
use Rattle.std.specs.Prelude.{map, ◌==◌, ◌&&◌}
use Rattle.std.specs.Option.{ok_or}
use Rattle.std.specs.List.{list_any, AllZip}
use Rattle.c_tree.specs.declared.lifted.LExpr.{LExpr}
use Rattle.c_tree.specs.declared.lifted.Lifted.{Lifted}
use Rattle.c_tree.specs.declared.program.Expr.{Expr}
use Rattle.c_tree.specs.declared.mapping.Pt.{Pt}
use Rattle.c_tree.specs.declared.mapping.Part.{Part}
use Rattle.c_tree.specs.declared.mapping.LPart.{LPart}
use Rattle.c_tree.specs.declared.mapping.Entry.{Entry}
use Rattle.c_tree.specs.declared.mapping.Entry.TheVariants as n
use Rattle.c_tree.specs.declared.mapping.LEntry.{LEntry}
use Rattle.c_tree.specs.declared.mapping.LEntry.TheVariants as l
use Rattle.c_tree.specs.Step.{function_of}
use Rattle.c_tree.specs.Refusal.{onward, refuse_if}
use Rattle.c_tree.specs.Names.{find_name, names_in, slot_names, struct_of}
use Rattle.c_tree.specs.Points.{place_of}
use Rattle.c_tree.specs.Link.{Link, match_at}
use Rattle.c_tree.specs.MapExpr.{only_globals, numbered}
use Rattle.c_tree.specs.Suits.{Site, site, kinds_differ, callees_differ, start_differs, reads_slots, reads_fields, suits_slot, suits_global, suits_check}
use Rattle.c_tree.specs.Entries.{all_there, function_in}
use Rattle.c_tree.specs.Chain.{new_number, lifted_match, suited, lifted_field, lifted_init, lifted_check, lifted_fill, site_of, sites_of, lifted_part, lifted_parts, is_twice_filled, lifted_point, lifted_entry}
use Rattle.c_tree.specs.Sound.{part_site}
use Rattle.patch_laws.proofs.Beside.{mapped_known, all_known, zip_known, zip_back}
pub use Rattle.patch_laws.proofs.Beside.{both_known}

-- what is there where it goes on to the end
pub onward_known : {A B E : Type 0} (r : Result A E) (go : A → Result B E) (y : B) → onward r go ≡ Ok y → (x : A) × (r ≡ Ok x) × (go x ≡ Ok y)
onward_known (Ok x) go y w = (x, refl, w)
onward_known (Err e) go y w = absurd (let k : ⊥ = cc in k)

pub there_known : {A B E : Type 0} (o : Option A) (e : E) (go : A → Result B E) (y : B) → onward (ok_or o e) go ≡ Ok y → (x : A) × (o ≡ Some x) × (go x ≡ Ok y)
there_known None e go y w = absurd (let k : ⊥ = cc in k)
there_known (Some x) e go y w = (x, refl, w)

pub refuse_known : {A E : Type 0} (b : Bool) (e : E) (r : Result A E) (y : A) → refuse_if b e r ≡ Ok y → (b ≡ false) × (r ≡ Ok y)
refuse_known true e r y w = absurd (let k : ⊥ = cc in k)
refuse_known false e r y w = (refl, w)

pub same_ok : {A E : Type 0} (x y : A) → ◌≡◌ {A = Result A E} (Ok x) (Ok y) → x ≡ y
same_ok x y e = cc

-- a match
pub record MatchForm (old new : Lifted) (kind : ℕ) (a : List ℕ) (b : Option (List ℕ)) (y : LEntry) : Type 0 where
  pub from : ℕ
  pub to : Option ℕ
  pub from_found : find_name a (names_in old kind) ≡ Some from
  pub to_found : new_number kind new b ≡ Ok to
  pub fits : (kind == 0 && start_differs old new from to) ≡ false
  pub is : l.Match kind from to ≡ y

pub match_form : (old new : Lifted) (kind : ℕ) (a : List ℕ) (b : Option (List ℕ)) (y : LEntry) → lifted_match old new kind a b ≡ Ok y → MatchForm old new kind a b y
match_form old new kind a b y w =
    let i = there_known _ _ _ y w in
    let j = onward_known _ _ y i.2 in
    let r = refuse_known _ _ _ y j.2 in
    record { from = i.0; to = j.0; from_found = i.1; to_found = j.1; fits = r.0; is = same_ok _ y r.1 }

-- what fills a field
pub record FieldForm (k : Link) (owner name : List ℕ) (x : Expr) (y : LEntry) : Type 0 where
  pub struct : ℕ
  pub field : ℕ
  pub value : LExpr
  pub struct_found : find_name owner (names_in k.new 1) ≡ Some struct
  pub field_found : find_name name (slot_names (struct_of k.new struct).fields) ≡ Some field
  pub filled : suited (suits_slot k (reads_fields k struct) (struct_of k.new struct).fields field) (numbered (reads_fields k struct) x.kind) ≡ Some value
  pub is : l.Field struct field value ≡ y

pub field_form : (k : Link) (owner name : List ℕ) (x : Expr) (y : LEntry) → lifted_field k owner name x ≡ Ok y → FieldForm k owner name x y
field_form k owner name x y w =
    let s = there_known _ _ _ y w in
    let i = there_known _ _ _ y s.2 in
    let z = there_known _ _ _ y i.2 in
    record { struct = s.0; field = i.0; value = z.0; struct_found = s.1; field_found = i.1; filled = z.1; is = same_ok _ y z.2 }

-- what fills a global
pub record InitForm (k : Link) (name : List ℕ) (x : Expr) (y : LEntry) : Type 0 where
  pub global : ℕ
  pub value : LExpr
  pub global_found : find_name name (names_in k.new 2) ≡ Some global
  pub filled : suited (suits_global k global) (numbered (only_globals k.old) x.kind) ≡ Some value
  pub is : l.Init global value ≡ y

pub init_form : (k : Link) (name : List ℕ) (x : Expr) (y : LEntry) → lifted_init k name x ≡ Ok y → InitForm k name x y
init_form k name x y w =
    let g = there_known _ _ _ y w in
    let z = there_known _ _ _ y g.2 in
    record { global = g.0; value = z.0; global_found = g.1; filled = z.1; is = same_ok _ y z.2 }

-- a check
pub record CheckForm (k : Link) (x : Expr) (y : LEntry) : Type 0 where
  pub value : LExpr
  pub filled : suited (suits_check k) (numbered (only_globals k.old) x.kind) ≡ Some value
  pub is : l.Check value ≡ y

pub check_form : (k : Link) (x : Expr) (y : LEntry) → lifted_check k x ≡ Ok y → CheckForm k x y
check_form k x y w = let z = there_known _ _ _ y w in record { value = z.0; filled = z.1; is = same_ok _ y z.2 }

-- where a part stands: the place of its point in its function
abbrev pub StandsAt : Link → ℕ → Part → Site → Type 0
StandsAt k g p s = (function_in k g p.function ≡ Some s.function) × (place_of (function_of k.new s.function) p.point ≡ Some s.place)

site_known : (k : Link) (g : ℕ) (p : Part) (h : ℕ) (s : Site) → function_in k g p.function ≡ Some h → site_of k h p.point ≡ Some s → StandsAt k g p s
site_known k g p h s found e =
    let q = mapped_known (λ m. site h m) (place_of (function_of k.new h) p.point) s e in
    subst (λ z. StandsAt k g p z) q.2 (found, q.1)

pub sites_known : (k : Link) (g : ℕ) (parts : List Part) (hs : List ℕ) (sites : List Site) →
    AllZip (λ p h. function_in k g p.function ≡ Some h) parts hs → sites_of k hs parts ≡ Some sites → AllZip (StandsAt k g) parts sites
sites_known k g parts hs sites r e = zip_known (λ p h. function_in k g p.function ≡ Some h) (StandsAt k g) (λ x. site_of k x.0 x.1.point) (site_known k g) parts hs sites r e

-- a part by numbers: its function, its place, and what fills its slots
abbrev pub PartForm : Link → ℕ → ℕ → Part → LPart → Type 0
PartForm k f g p x =
    StandsAt k g p (part_site x) × (all_there (map (lifted_fill k (reads_slots k f) (function_of k.new x.function).slots) p.fills) ≡ Some x.fills)

part_known : (k : Link) (f g : ℕ) (p : Part) (s : Site) (x : LPart) → StandsAt k g p s → lifted_part k f s p.fills ≡ Some x → PartForm k f g p x
part_known k f g p s x stands e =
    let q = mapped_known (λ xs. let y : LPart = record { function = s.function; place = s.place; fills = xs } in y)
    (all_there (map (lifted_fill k (reads_slots k f) (function_of k.new s.function).slots) p.fills)) x e in
    subst (λ z. PartForm k f g p z) q.2 (stands, q.1)

pub parts_known : (k : Link) (f g : ℕ) (parts : List Part) (sites : List Site) (xs : List LPart) →
    AllZip (StandsAt k g) parts sites → lifted_parts k f sites parts ≡ Some xs → AllZip (PartForm k f g) parts xs
parts_known k f g parts sites xs r e = zip_known (StandsAt k g) (PartForm k f g) (λ x. lifted_part k f x.0 x.1.fills) (part_known k f g) parts sites xs r e

parts_stand : (k : Link) (f g : ℕ) (parts : List Part) (sites : List Site) (xs : List LPart) →
    AllZip (StandsAt k g) parts sites → lifted_parts k f sites parts ≡ Some xs → sites ≡ map part_site xs
parts_stand k f g parts sites xs r e = zip_back (StandsAt k g) (λ x. lifted_part k f x.0 x.1.fills) part_site stood parts sites xs r e where
  stood : (p : Part) (s : Site) (x : LPart) → lifted_part k f s p.fills ≡ Some x → part_site x ≡ s
  stood p s x e =
      let q = mapped_known (λ xs. let y : LPart = record { function = s.function; place = s.place; fills = xs } in y)
      (all_there (map (lifted_fill k (reads_slots k f) (function_of k.new s.function).slots) p.fills)) x e in
      subst (λ z. part_site z ≡ s) q.2 refl

-- a place that is mapped
pub record PointForm (k : Link) (name : List ℕ) (from : Pt) (parts : List Part) (y : LEntry) : Type 0 where
  pub function : ℕ
  pub match : ℕ
  pub old_place : ℕ
  pub values : List LPart
  pub function_found : find_name name (names_in k.old 0) ≡ Some function
  pub matched : match_at k.functions function ≡ Some match
  pub old_found : place_of (function_of k.old function) from ≡ Some old_place
  pub parts_found : AllZip (PartForm k function match) parts values
  pub kind_kept : kinds_differ k (site function old_place) (map part_site values) ≡ false
  pub callee_kept : callees_differ k (site function old_place) (map part_site values) ≡ false
  pub once : list_any is_twice_filled values ≡ false
  pub is : l.Point function old_place values ≡ y

pub point_form : (k : Link) (name : List ℕ) (from : Pt) (parts : List Part) (y : LEntry) → lifted_point k name from parts ≡ Ok y → PointForm k name from parts y
point_form k name from parts y w =
    let f = there_known _ _ _ y w in
    let g = there_known _ _ _ y f.2 in
    let hs = there_known _ _ _ y g.2 in
    let n = there_known _ _ _ y hs.2 in
    let sites = there_known _ _ _ y n.2 in
    let a = refuse_known _ _ _ y sites.2 in
    let b = refuse_known _ _ _ y a.1 in
    let xs = there_known _ _ _ y b.1 in
    let t = refuse_known _ _ _ y xs.2 in
    let functions = all_known (λ p h. function_in k g.0 p.function ≡ Some h) (λ p. function_in k g.0 p.function) (λ p h e. e) parts hs.0 hs.1 in
    let stand = sites_known k g.0 parts hs.0 sites.0 functions sites.1 in
    let stood = parts_stand k f.0 g.0 parts sites.0 xs.0 stand xs.1 in
    record {
      function = f.0;
      match = g.0;
      old_place = n.0;
      values = xs.0;
      function_found = f.1;
      matched = g.1;
      old_found = n.1;
      parts_found = parts_known k f.0 g.0 parts sites.0 xs.0 stand xs.1;
      kind_kept = subst (λ z. kinds_differ k (site f.0 n.0) z ≡ false) stood a.0;
      callee_kept = subst (λ z. callees_differ k (site f.0 n.0) z ≡ false) stood b.0;
      once = t.0;
      is = same_ok _ y t.1;
    }

-- the parts of any entry
abbrev pub EntryForm : Link → Entry → LEntry → Type 0
EntryForm k (n.Match kind a b) y = MatchForm k.old k.new kind a b y
EntryForm k (n.Field owner name x) y = FieldForm k owner name x y
EntryForm k (n.Init name x) y = InitForm k name x y
EntryForm k (n.Point f from parts) y = PointForm k f from parts y
EntryForm k (n.Check x) y = CheckForm k x y

pub entry_form : (k : Link) (x : Entry) (y : LEntry) → lifted_entry k x ≡ Ok y → EntryForm k x y
entry_form k (n.Match kind a b) y w = match_form k.old k.new kind a b y w
entry_form k (n.Field owner name x) y w = field_form k owner name x y w
entry_form k (n.Init name x) y w = init_form k name x y w
entry_form k (n.Point f from parts) y w = point_form k f from parts y w
entry_form k (n.Check x) y w = check_form k x y w
