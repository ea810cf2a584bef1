-- What entries are about.
use Rattle.std.specs.Prelude.{◌≡◌, Bool, false, ◌||◌, List, Option, Some, None}
use Rattle.std.specs.List.{list_any}
use Rattle.std.specs.HashSet.{HashSet, contains}
use Rattle.std.specs.declared.hash.FoldHasher.{FoldHasher}
use Rattle.std.specs.declared.hash.BuildHasherDefault.{BuildHasherDefault}
use Rattle.c_tree.specs.declared.mapping.LEntry.{LEntry}
use Rattle.c_tree.specs.declared.mapping.LEntry.TheVariants as l
use Rattle.patch_maker.specs.declared.subjects.Subject.{Subject}
use Rattle.patch_maker.specs.declared.subjects.Subject.TheVariants as s
use Rattle.patch_maker.specs.contracts.subjects.SubjectPartialEq.TheImpl as eq

-- whether two subjects are the same
abbrev pub is_same : Subject → Subject → Bool
is_same = (eq.ghosts).eq

-- what an entry is about; a match entry is about its old side
abbrev pub first_subject : LEntry → Option Subject
first_subject (l.Match kind i j) = Some (s.OldSide kind i)
first_subject (l.Field owner i x) = Some (s.Field owner i)
first_subject (l.Init g x) = Some (s.Global g)
first_subject (l.Point f n parts) = Some (s.Place f n)
first_subject (l.Check x) = None

-- a match entry is about its new side too
abbrev pub second_subject : LEntry → Option Subject
second_subject (l.Match kind i (Some j)) = Some (s.NewSide kind j)
second_subject _ = None

-- whether there is a subject, and it is this one
abbrev pub is_subject : Subject → Option Subject → Bool
is_subject x None = false
is_subject x (Some y) = is_same x y

-- whether an entry is about a subject
abbrev pub is_about : Subject → LEntry → Bool
is_about x entry = is_subject x (first_subject entry) || is_subject x (second_subject entry)

-- whether there is a subject, and an entry is about it
abbrev pub is_about_some : Option Subject → LEntry → Bool
is_about_some None entry = false
is_about_some (Some x) entry = is_about x entry

-- a set has what entries are about
abbrev pub AreSubjects : HashSet Subject (BuildHasherDefault FoldHasher) → List LEntry → Type 0
AreSubjects set entries = (x : Subject) → contains is_same set x ≡ list_any (is_about x) entries

-- a set has one subject more, where there is one
abbrev pub Adds : HashSet Subject (BuildHasherDefault FoldHasher) → Option Subject → HashSet Subject (BuildHasherDefault FoldHasher) → Type 0
Adds old o new = (x : Subject) → contains is_same new x ≡ is_subject x o || contains is_same old x
