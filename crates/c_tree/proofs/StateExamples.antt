-- Updates of threads, mutexes and objects.
use Rattle.std.specs.Prelude.{◌≡◌, ℕ, List, [], ◌∷◌, ◌++◌, refl, true, Option, Some, None, Ok, Err, codes}
use Rattle.c_tree.specs.declared.ty.Ty.{Ty}
use Rattle.c_tree.specs.declared.ty.Ty.TheVariants as ty
use Rattle.c_tree.specs.declared.op.BinOp.TheVariants as bin
use Rattle.c_tree.specs.declared.lifted.LExpr.TheVariants as l
use Rattle.c_tree.specs.declared.lifted.LStmt.{LStmt}
use Rattle.c_tree.specs.declared.lifted.LStmt.TheVariants as t
use Rattle.c_tree.specs.declared.lifted.Dest.TheVariants as d
use Rattle.c_tree.specs.declared.lifted.Slot.{Slot}
use Rattle.c_tree.specs.declared.lifted.Lifted.{Lifted}
use Rattle.c_tree.specs.declared.mapping.Entry.TheVariants as n
use Rattle.c_tree.specs.declared.mapping.LEntry.{LEntry}
use Rattle.c_tree.specs.declared.mapping.LEntry.TheVariants as m
use Rattle.c_tree.specs.declared.event.Reason.TheVariants as why
use Rattle.c_tree.specs.declared.state.Object.{Object}
use Rattle.c_tree.specs.declared.state.State.{State}
use Rattle.c_tree.specs.Sound.{is_sound}
use Rattle.c_tree.specs.Canonical.{canonical_entries, canonical_text}
use Rattle.c_tree.specs.Update.{update}
use Rattle.c_tree.specs.Compute.{literals}
use Rattle.c_tree.proofs.UpdateExamples.{slot, scalar, counted, main_of, num, count_to, print_of, entry, becomes, goes, main_loop, two, named, literal, patch, frame, object, state}

-- A thread that waits for a mutex: its function is unchanged, so its frame stays where it is.

abbrev pub waits : List ℕ → Lifted
waits text = record {
  structs = [];
  globals = counted;
  mutexes = codes "m" ∷ [];
  functions =
      record { name = codes "w"; ret = ty.AnyPtr; params = 1; slots = slot (codes "a") ty.AnyPtr ∷ []; body = t.Lock 0 ∷ t.Print (codes "w\n") [] ∷ t.Unlock 0 ∷ t.Return (Some l.Null) ∷ [] }
      ∷ main_of (slot (codes "t") ty.Thread ∷ []) (t.Lock 0 ∷ t.Spawn (d.Slot 0) 0 l.Null ∷ count_to 0 3 [] ∷ t.Unlock 0 ∷ t.Join (l.Slot 0) ∷ print_of text (l.Global 0) ∷ [])
      ∷ [];
  main = 1;
}

abbrev pub wait_entries : List LEntry
wait_entries = m.Point 1 5 (goes 1 5 []) ∷ []

-- thread 0 holds the mutex and stands at its loop's end
abbrev pub waiting : State
waiting = state (1 ∷ []) (Some 0 ∷ []) ((frame 1 5 (1 ∷ []) ∷ []) ∷ (frame 0 1 (0 ∷ []) ∷ []) ∷ []) []

pub wait_lifts : canonical_entries (waits (codes "old %d\n")) (waits (codes "new %d\n")) (main_loop ∷ []) ≡ Ok wait_entries
unfolding literals
wait_lifts = refl

pub wait_is_sound : is_sound (waits (codes "old %d\n")) (waits (codes "new %d\n")) wait_entries ≡ true
unfolding literals
wait_is_sound = refl

pub wait_is_updated : update (patch (waits (codes "old %d\n")) (waits (codes "new %d\n")) wait_entries) waiting ≡ Ok waiting
unfolding literals
wait_is_updated = refl

-- A mutex that the new version lacks: an update is refused while it is held.

abbrev pub around : List LStmt → List LStmt → List LStmt
around before after = before ++ count_to 0 2 [] ∷ after

abbrev pub locks_old : Lifted
locks_old = record {
  structs = [];
  globals = counted;
  mutexes = codes "m" ∷ [];
  functions = main_of [] (around (t.Lock 0 ∷ []) (t.Unlock 0 ∷ print_of (codes "old %d\n") (l.Global 0) ∷ [])) ∷ [];
  main = 0;
}

abbrev pub locks_new : Lifted
locks_new = record {
  structs = [];
  globals = counted;
  mutexes = [];
  functions = main_of [] (around [] (print_of (codes "new %d\n") (l.Global 0) ∷ [])) ∷ [];
  main = 0;
}

abbrev pub lock_entries : List LEntry
lock_entries = m.Point 0 0 (goes 0 0 []) ∷ m.Point 0 4 (goes 0 3 []) ∷ []

pub lock_lifts : canonical_entries locks_old locks_new (main_loop ∷ n.Point (codes "main") entry (becomes entry []) ∷ []) ≡ Ok lock_entries
unfolding literals
lock_lifts = refl

pub lock_is_sound : is_sound locks_old locks_new lock_entries ≡ true
unfolding literals
lock_is_sound = refl

pub lock_text : canonical_text locks_old locks_new lock_entries ≡ codes "point main entry -> entry;\npoint main loop 1 -> loop 1;\n"
unfolding literals
lock_text = refl

pub held_is_refused : update (patch locks_old locks_new lock_entries) (state (1 ∷ []) (Some 0 ∷ []) ((frame 0 4 [] ∷ []) ∷ []) []) ≡ Err (why.Held 0)
unfolding literals
held_is_refused = refl

pub free_is_updated : update (patch locks_old locks_new lock_entries) (state (0 ∷ []) (None ∷ []) ((frame 0 0 [] ∷ []) ∷ []) []) ≡ Ok (state (0 ∷ []) [] ((frame 0 0 [] ∷ []) ∷ []) [])
unfolding literals
free_is_updated = refl

-- Objects of a struct that gets a field: `field item.weight = value * 2`. A freed object stays freed.

abbrev pub item : Ty
item = ty.Ptr (codes "item")

abbrev pub new_item : ℕ → List LStmt
new_item value = t.New 0 0 ∷ t.Assign (d.Field (l.Slot 0) 0 0) (num value) ∷ []

abbrev pub items : List Slot → ℕ → Lifted
items fields shown = record {
  structs = record { name = codes "item"; fields = fields } ∷ [];
  globals = scalar (codes "head") item ∷ counted;
  mutexes = [];
  functions =
      main_of (slot (codes "p") item ∷ []) (
      new_item 5 ++ t.Assign (d.Global 0) (l.Slot 0) ∷ (new_item 7 ++ (new_item 9 ++ t.Free (l.Slot 0) ∷ t.Assign (d.Slot 0) l.Null ∷ count_to 1 1 [] ∷ print_of (codes "%d\n") (l.Field (l.Global 0) 0 shown) ∷ [])))
      ∷ [];
  main = 0;
}

abbrev pub items_old : Lifted
items_old = items (slot (codes "value") ty.Int ∷ slot (codes "next") item ∷ []) 0

abbrev pub items_new : Lifted
items_new = items (slot (codes "value") ty.Int ∷ slot (codes "weight") ty.Int ∷ slot (codes "next") item ∷ []) 1

abbrev pub item_entries : List LEntry
item_entries = m.Field 0 1 (l.Bin bin.Mul (l.Own 0) (num 2)) ∷ m.Point 0 12 (goes 0 12 []) ∷ []

abbrev pub item_state : List (Option Object) → State
item_state objects = record (state (1 ∷ 1 ∷ []) [] ((frame 0 12 (0 ∷ []) ∷ []) ∷ []) []) { heap = record { objects = objects } }

pub item_lifts : canonical_entries items_old items_new (n.Field (codes "item") (codes "weight") (two bin.Mul (named (codes "value")) (literal 2)) ∷ main_loop ∷ []) ≡ Ok item_entries
unfolding literals
item_lifts = refl

pub item_is_sound : is_sound items_old items_new item_entries ≡ true
unfolding literals
item_is_sound = refl

pub item_text : canonical_text items_old items_new item_entries ≡ codes "field item.weight = value * 2;\npoint main loop 1 -> loop 1;\n"
unfolding literals
item_text = refl

pub items_are_updated :
    update (patch items_old items_new item_entries) (item_state (object (5 ∷ 0 ∷ []) ∷ object (7 ∷ 0 ∷ []) ∷ None ∷ []))
    ≡ Ok (item_state (object (5 ∷ 10 ∷ 0 ∷ []) ∷ object (7 ∷ 14 ∷ 0 ∷ []) ∷ None ∷ []))
unfolding literals
items_are_updated = refl

-- where the struct has no match, the first living object is the reason
pub item_is_removed : update (patch items_old items_new (m.Match 1 0 None ∷ m.Point 0 12 (goes 0 12 []) ∷ [])) (item_state (None ∷ object (7 ∷ 0 ∷ []) ∷ [])) ≡ Err (why.Removed 2)
unfolding literals
item_is_removed = refl
