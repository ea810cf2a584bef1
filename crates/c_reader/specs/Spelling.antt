-- Names that a text can spell.
use Rattle.std.specs.Prelude.{◌≡◌, ℕ, suc, ◌≤◌, nat_le, true, List, [], ◌∷◌, ◌++◌, length, All, None}
use Rattle.std.specs.List.{list_all}
use Rattle.std.specs.Fmt.{decimal}
use Rattle.c_tree.specs.declared.lifted.Lifted.{Lifted}
use Rattle.c_tree.specs.declared.program.Program.{Program}
use Rattle.c_tree.specs.declared.program.Field.{Field}
use Rattle.c_tree.specs.declared.program.StmtKind.TheBlock.{hidden-the_row-Stmt-0 as row_of}
use Rattle.c_tree.specs.Lifting.{body_of, lift, lift_limit}
use Rattle.c_tree.specs.Names.{names_in}
use Rattle.c_tree.specs.Scope.{Variable, locals_of}
use Rattle.c_tokens.specs.declared.class.Class.TheVariants as class
use Rattle.c_tokens.specs.Byte.{class_of, is_name_byte}
use Rattle.c_grammar.specs.declared.kind.Kind.TheVariants as kind
use Rattle.c_grammar.specs.Tokens.{word_kind}
use Rattle.c_grammar.specs.Source.{IsProgramOf}

-- A word has a letter or `_` first, then letters, digits and `_`, and 64 bytes at most.
abbrev pub IsWord : List ℕ → Type 0
IsWord [] = ⊥
IsWord (b ∷ bytes) = (class_of b ≡ class.Letter) × (list_all is_name_byte (b ∷ bytes) ≡ true) × (nat_le (suc (length bytes)) 64 ≡ true)

-- A name is such a word without a meaning of its own.
abbrev pub IsSpelt : List ℕ → Type 0
IsSpelt [] = ⊥
IsSpelt (b ∷ bytes) =
    (class_of b ≡ class.Letter) × (list_all is_name_byte (b ∷ bytes) ≡ true) × (nat_le (suc (length bytes)) 64 ≡ true) × (word_kind (b ∷ bytes) ≡ kind.Name)

-- The name of a slot is a name; a name, a dot and a number; or a dot and a number.
pub data IsSlotSpelt : List ℕ → Type 0 where
  plain : {word : List ℕ} → IsSpelt word → IsSlotSpelt word
  hidden : (n : ℕ) (word : List ℕ) → IsSpelt word → n ≤ 2147483647 → IsSlotSpelt (word ++ 46 ∷ decimal n)
  temporary : (n : ℕ) → n ≤ 2147483647 → IsSlotSpelt (46 ∷ decimal n)

-- All names of the program can be spelt.
pub record CanBeSpelt (p : Lifted) : Type 0 where
  pub names : (kind : ℕ) → All IsSpelt (names_in p kind)
  pub fields : All (λ s. All (λ f. IsSpelt f.name) s.fields) p.structs
  pub slots : All (λ f. All (λ s. IsSlotSpelt s.name) f.slots) p.functions

abbrev pub AreLocalsSpelt : List Variable → Type 0
AreLocalsSpelt xs = All (λ x. IsSpelt x.name) xs

abbrev pub AreFieldsSpelt : List Field → Type 0
AreFieldsSpelt xs = All (λ q. IsSpelt q.name.it) xs

-- All names that the tree declares can be spelt.
pub record IsTreeSpelt (p : Program) : Type 0 where
  pub structs : All (λ d. IsSpelt d.name.it × AreFieldsSpelt d.fields) p.structs
  pub globals : All (λ g. IsSpelt g.name.it) p.globals
  pub mutexes : All (λ m. IsSpelt m.it) p.mutexes
  pub functions : All (λ f. IsSpelt f.name.it × AreFieldsSpelt f.params × AreLocalsSpelt (locals_of (row_of (body_of f.body)))) p.functions

-- The names of a tree that is read can be spelt.
abbrev pub EachReadingIsSpelt : Type 0
EachReadingIsSpelt = (source : List ℕ) (tree : Program) → IsProgramOf source tree → IsTreeSpelt tree

-- Where no function passes a limit, the names of the lifting of a tree that is read can be spelt.
abbrev pub EachLiftingIsSpelt : Type 0
EachLiftingIsSpelt = (source : List ℕ) (tree : Program) → IsProgramOf source tree → lift_limit tree ≡ None → CanBeSpelt (lift tree)
