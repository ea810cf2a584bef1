-- What the entries of a patch declare something of.
use Rattle.std.specs.Prelude.{◌≡◌, ℕ, Bool, false, List, find, Option, Some, None}
use Rattle.std.specs.List.{position_from}
use Rattle.std.specs.declared.hash.FoldHasher.{FoldHasher}
use Rattle.std.specs.declared.hash.BuildHasherDefault.{BuildHasherDefault}
use Rattle.indexmap.specs.IndexMap.{IndexMap, get}
use Rattle.c_tree.specs.declared.mapping.LEntry.{LEntry}
use Rattle.c_tree.specs.declared.mapping.LEntry.TheVariants as l
use Rattle.c_tree.specs.declared.mapping.LPart.{LPart}
use Rattle.c_tree.specs.declared.lifted.LExpr.{LExpr}
use Rattle.stack_map.specs.declared.entries.Subject.{Subject}
use Rattle.stack_map.specs.declared.entries.Subject.TheVariants as s
use Rattle.stack_map.specs.contracts.entries.SubjectPartialEq.TheImpl as eq

-- whether two things are the same
abbrev pub is_same : Subject → Subject → Bool
is_same = (eq.ghosts).eq

-- what an entry declares something of
abbrev pub subject_of : LEntry → Option Subject
subject_of (l.Match kind i j) = None
subject_of (l.Field owner i x) = Some (s.Field owner i)
subject_of (l.Init g x) = Some (s.Global g)
subject_of (l.Point f n parts) = Some (s.Place f n)
subject_of (l.Check x) = None

-- whether there is a thing, and it is this one
abbrev pub is_subject : Subject → Option Subject → Bool
is_subject x None = false
is_subject x (Some y) = is_same x y

-- whether an entry is about a thing
abbrev pub is_about : Subject → LEntry → Bool
is_about x entry = is_subject x (subject_of entry)

-- the first entry about a thing
abbrev pub first_about : Subject → List LEntry → Option LEntry
first_about x entries = find (is_about x) entries

-- a number for some things
abbrev pub Table : Type 0
Table = IndexMap Subject ℕ (BuildHasherDefault FoldHasher)

-- a table gives the number of the first entry about each thing
abbrev pub GivesFirst : Table → List LEntry → Type 0
GivesFirst t entries = (x : Subject) → get is_same t x ≡ position_from (is_about x) 0 entries

-- what an entry fills a new field with
abbrev pub field_value : Option LEntry → Option LExpr
field_value (Some (l.Field owner i x)) = Some x
field_value _ = None

-- what an entry fills a new scalar with
abbrev pub init_value : Option LEntry → Option LExpr
init_value (Some (l.Init g x)) = Some x
init_value _ = None

-- the parts that an entry takes a place to
abbrev pub point_of : Option LEntry → Option (List LPart)
point_of (Some (l.Point f n parts)) = Some parts
point_of _ = None
