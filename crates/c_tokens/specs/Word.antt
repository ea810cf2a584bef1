-- Words that are no names.
use Rattle.std.specs.Prelude.{ℕ, Bool, not, ◌||◌, nat_eq, List, [], ◌∷◌, codes}
use Rattle.std.specs.List.{list_any}
use Rattle.std.specs.Cmp.Lexicographic.{pointwise}

-- the words with a meaning
abbrev pub keywords : List (List ℕ)
keywords =
    codes "int" ∷ codes "void" ∷ codes "struct" ∷ codes "if" ∷ codes "else" ∷ codes "while" ∷ codes "for" ∷
    codes "break" ∷ codes "continue" ∷ codes "return" ∷ codes "static" ∷ codes "sizeof" ∷ codes "NULL" ∷ codes "EOF" ∷
    codes "printf" ∷ codes "malloc" ∷ codes "free" ∷ codes "getchar" ∷ codes "pthread_t" ∷ codes "pthread_mutex_t" ∷
    codes "pthread_create" ∷ codes "pthread_join" ∷ codes "pthread_mutex_lock" ∷ codes "pthread_mutex_unlock" ∷
    codes "PTHREAD_MUTEX_INITIALIZER" ∷
    []

-- the words of C that are left out
abbrev pub left_out_words : List (List ℕ)
left_out_words =
    codes "char" ∷ codes "unsigned" ∷ codes "signed" ∷ codes "short" ∷ codes "long" ∷ codes "float" ∷ codes "double" ∷
    codes "union" ∷ codes "enum" ∷ codes "typedef" ∷ codes "switch" ∷ codes "case" ∷ codes "default" ∷ codes "goto" ∷
    codes "do" ∷ codes "const" ∷ codes "volatile" ∷ codes "extern" ∷ codes "register" ∷ codes "auto" ∷ codes "inline" ∷
    []

-- whether a word is one of these
abbrev pub is_among : List (List ℕ) → List ℕ → Bool
is_among words word = list_any (λ w. pointwise nat_eq w word) words

-- whether it is a word of C that is left out
abbrev pub is_left_out : List ℕ → Bool
is_left_out word = is_among left_out_words word

-- whether it may be a name
abbrev pub is_name : List ℕ → Bool
is_name word = not (is_among keywords word || is_left_out word)
