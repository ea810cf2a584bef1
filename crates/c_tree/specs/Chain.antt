-- How the least cause is computed: the causes of an entry are asked in ascending order.
--
-- Each test takes for granted what those before it found; so the first that holds is the least.
use Rattle.std.specs.Prelude.{ℕ, zero, suc, Bool, ◌&&◌, ◌==◌, if◌then◌else◌, List, map, Option, Some, None, Result, Ok}
use Rattle.std.specs.Option.{ok_or, option_map}
use Rattle.std.specs.List.{list_any, zip}
use Rattle.c_tree.specs.declared.cause.EntryCause.{EntryCause}
use Rattle.c_tree.specs.declared.cause.EntryCause.TheVariants as c
use Rattle.c_tree.specs.declared.lifted.LExpr.{LExpr}
use Rattle.c_tree.specs.declared.lifted.Lifted.{Lifted}
use Rattle.c_tree.specs.declared.lifted.Slot.{Slot}
use Rattle.c_tree.specs.declared.program.Expr.{Expr}
use Rattle.c_tree.specs.declared.mapping.Pt.{Pt}
use Rattle.c_tree.specs.declared.mapping.Fill.{Fill}
use Rattle.c_tree.specs.declared.mapping.Part.{Part}
use Rattle.c_tree.specs.declared.mapping.Entry.{Entry}
use Rattle.c_tree.specs.declared.mapping.Entry.TheVariants as n
use Rattle.c_tree.specs.declared.mapping.LFill.{LFill}
use Rattle.c_tree.specs.declared.mapping.LPart.{LPart}
use Rattle.c_tree.specs.declared.mapping.LEntry.{LEntry}
use Rattle.c_tree.specs.declared.mapping.LEntry.TheVariants as l
use Rattle.c_tree.specs.Step.{function_of}
use Rattle.c_tree.specs.Refusal.{onward, refuse_if}
use Rattle.c_tree.specs.Names.{find_name, names_in, slot_names, struct_of}
use Rattle.c_tree.specs.Points.{place_of}
use Rattle.c_tree.specs.Link.{Link, match_at}
use Rattle.c_tree.specs.MapExpr.{Reads, only_globals, numbered}
use Rattle.c_tree.specs.Suits.{Site, site, kinds_differ, callees_differ, start_differs, reads_slots, reads_fields, suits_slot, suits_global, suits_check, has_twice}
use Rattle.c_tree.specs.Causes.{clash}
use Rattle.c_tree.specs.Entries.{all_there, function_in}

-- why a match entry of a kind is unsound that names what is not there
abbrev pub missing : ℕ → EntryCause
missing zero = c.UnknownFunction
missing (suc zero) = c.UnknownStruct
missing (suc (suc kind)) = c.UnknownGlobal

-- `none`, or the number of a new side
abbrev pub new_number : ℕ → Lifted → Option (List ℕ) → Result (Option ℕ) EntryCause
new_number kind new None = Ok None
new_number kind new (Some name) = onward (ok_or (find_name name (names_in new kind)) (missing kind)) (λ j. Ok (Some j))

-- a match entry by numbers, or its least cause
abbrev pub lifted_match : Lifted → Lifted → ℕ → List ℕ → Option (List ℕ) → Result LEntry EntryCause
lifted_match old new kind a b =
    onward (ok_or (find_name a (names_in old kind)) (missing kind)) (λ i.
    onward (new_number kind new b) (λ j.
    refuse_if (kind == 0 && start_differs old new i j) c.StartDiffers (Ok (l.Match kind i j))))

-- an expression by number that suits
abbrev pub suited : (LExpr → Bool) → Option LExpr → Option LExpr
suited test None = None
suited test (Some x) = if test x then Some x else None

-- what fills a field of a new struct
abbrev pub lifted_field : Link → List ℕ → List ℕ → Expr → Result LEntry EntryCause
lifted_field k owner name x =
    onward (ok_or (find_name owner (names_in k.new 1)) c.UnknownStruct) (λ s.
    onward (ok_or (find_name name (slot_names (struct_of k.new s).fields)) c.BadExpr) (λ i.
    onward (ok_or (suited (suits_slot k (reads_fields k s) (struct_of k.new s).fields i) (numbered (reads_fields k s) x.kind)) c.BadExpr) (λ y.
    Ok (l.Field s i y))))

-- what fills a new global
abbrev pub lifted_init : Link → List ℕ → Expr → Result LEntry EntryCause
lifted_init k name x =
    onward (ok_or (find_name name (names_in k.new 2)) c.UnknownGlobal) (λ g.
    onward (ok_or (suited (suits_global k g) (numbered (only_globals k.old) x.kind)) c.BadExpr) (λ y.
    Ok (l.Init g y)))

-- a check
abbrev pub lifted_check : Link → Expr → Result LEntry EntryCause
lifted_check k x = onward (ok_or (suited (suits_check k) (numbered (only_globals k.old) x.kind)) c.BadExpr) (λ y. Ok (l.Check y))

-- what fills the slot of a number
abbrev pub lifted_fill_at : Link → Reads → List Slot → Expr → Option ℕ → Option LFill
lifted_fill_at k r slots x None = None
lifted_fill_at k r slots x (Some i) = option_map (λ y. record { slot = i; expr = y }) (suited (suits_slot k r slots i) (numbered r x.kind))

-- what fills the slot of a name
abbrev pub lifted_fill : Link → Reads → List Slot → Fill → Option LFill
lifted_fill k r slots x = lifted_fill_at k r slots x.expr (find_name x.slot (slot_names slots))

-- where a part stands: the place of its point in the function of this number
abbrev pub site_of : Link → ℕ → Pt → Option Site
site_of k h pt = option_map (λ m. site h m) (place_of (function_of k.new h) pt)

-- where parts stand, by the numbers of their functions
abbrev pub sites_of : Link → List ℕ → List Part → Option (List Site)
sites_of k functions parts = all_there (map (λ x. site_of k x.0 x.1.point) (zip functions parts))

-- a part that stands there, with what fills its slots
abbrev pub lifted_part : Link → ℕ → Site → List Fill → Option LPart
lifted_part k f s fills =
    option_map (λ xs. record { function = s.function; place = s.place; fills = xs })
    (all_there (map (lifted_fill k (reads_slots k f) (function_of k.new s.function).slots) fills))

-- parts that stand there
abbrev pub lifted_parts : Link → ℕ → List Site → List Part → Option (List LPart)
lifted_parts k f sites parts = all_there (map (λ x. lifted_part k f x.0 x.1.fills) (zip sites parts))

-- a part fills one slot twice
abbrev pub is_twice_filled : LPart → Bool
is_twice_filled p = has_twice (map (λ x. x.slot) p.fills)

-- a place that is mapped, with its parts
abbrev pub lifted_point : Link → List ℕ → Pt → List Part → Result LEntry EntryCause
lifted_point k name from parts =
    onward (ok_or (find_name name (names_in k.old 0)) c.UnknownFunction) (λ f.
    onward (ok_or (match_at k.functions f) c.UnknownFunction) (λ g.
    onward (ok_or (all_there (map (λ p. function_in k g p.function) parts)) c.UnknownFunction) (λ hs.
    onward (ok_or (place_of (function_of k.old f) from) c.UnknownPoint) (λ n.
    onward (ok_or (sites_of k hs parts) c.UnknownPoint) (λ sites.
    refuse_if (kinds_differ k (site f n) sites) c.KindDiffers (
    refuse_if (callees_differ k (site f n) sites) c.CalleeDiffers (
    onward (ok_or (lifted_parts k f sites parts) c.BadExpr) (λ xs.
    refuse_if (list_any is_twice_filled xs) c.Twice (
    Ok (l.Point f n xs))))))))))

-- an entry by numbers, or its least cause but that of an earlier entry
abbrev pub lifted_entry : Link → Entry → Result LEntry EntryCause
lifted_entry k (n.Match kind a b) = lifted_match k.old k.new kind a b
lifted_entry k (n.Field owner name x) = lifted_field k owner name x
lifted_entry k (n.Init name x) = lifted_init k name x
lifted_entry k (n.Point f from parts) = lifted_point k f from parts
lifted_entry k (n.Check x) = lifted_check k x

-- an entry by numbers, or the first cause of the chain
abbrev pub chain : Link → List Entry → Entry → Result LEntry EntryCause
chain k earlier x = onward (lifted_entry k x) (λ y. refuse_if (list_any (clash x) earlier) c.Twice (Ok y))
