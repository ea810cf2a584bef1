-- A large update made from one number n: an old program, a new program and the mapping between them.
use Rattle.std.specs.Prelude.{ℕ, ◌-◌, nat_le, List, [], ◌++◌, codes, if◌then◌else◌}
use Rattle.std.specs.List.{flat_map, range_with_len}
use Rattle.std.specs.Fmt.{decimal}

-- the function k with what it declares, up to what it gives: it adds k three times
abbrev pub looped : List ℕ → ℕ → List ℕ
looped declared k =
    codes "int f" ++ (decimal k ++ (codes "(int x) { " ++ (declared
    ++ (codes " i = 0; while (i < 3) { i = i + 1; x = x + " ++ (decimal k ++ codes "; } return ")))))

-- the first function calls none
abbrev pub first_function : List ℕ → List ℕ
first_function declared = looped declared 1 ++ codes "x; }\n"

-- the function k calls the one before it
abbrev pub next_function : List ℕ → ℕ → List ℕ
next_function declared k = looped declared k ++ (codes "f" ++ (decimal (k - 1) ++ codes "(x); }\n"))

-- the functions from the second to the one with the number n
abbrev pub next_functions : List ℕ → ℕ → List ℕ
next_functions declared n = flat_map (next_function declared) (range_with_len 2 (n - 1))

-- what the last function gave is added to the total
unfoldable pub added : List ℕ
added =
    codes "(0); pthread_mutex_lock(&m); total = total + r; "
    ++ codes "pthread_mutex_unlock(&m); return NULL; }\n"

-- what each of the four threads does: it calls the last function, and adds what that gives
abbrev pub work : ℕ → List ℕ
work n = (codes "void *work(void *a) { int r; r = f" ++ decimal n) ++ added

-- four threads are started, and joined
unfoldable pub threads : List ℕ
threads =
    codes "pthread_create(&a, NULL, work, NULL); " ++ (codes "pthread_create(&b, NULL, work, NULL); "
    ++ (codes "pthread_create(&c, NULL, work, NULL); " ++ (codes "pthread_create(&d, NULL, work, NULL); "
    ++ (codes "pthread_join(a, NULL); pthread_join(b, NULL); "
    ++ codes "pthread_join(c, NULL); pthread_join(d, NULL); "))))

-- the total is printed behind a word
unfoldable pub printed : List ℕ → List ℕ
printed word = codes "printf(\"" ++ (word ++ codes " total %d\\n\", total); return 0; }\n")

-- the main function runs the threads, and prints
abbrev pub main : List ℕ → List ℕ
main word =
    codes "int main(void) { pthread_t a; pthread_t b; pthread_t c; pthread_t d; "
    ++ (threads ++ printed word)

-- a program, by what its functions declare and by the word that it prints
unfoldable pub source : List ℕ → List ℕ → ℕ → List ℕ
source declared word n =
    codes "int total; pthread_mutex_t m;\n"
    ++ (first_function declared ++ (next_functions declared n ++ (work n ++ main word)))

-- the old program
unfoldable pub old_source : ℕ → List ℕ
old_source n = source (codes "int i;") (codes "old") n

-- each function has one slot more
unfoldable pub new_source : ℕ → List ℕ
new_source n = source (codes "int i; int z;") (codes "new") n

-- a frame of the function k at its entry
abbrev pub entry : ℕ → List ℕ
entry k = codes "point f" ++ (decimal k ++ codes " entry -> entry;\n")

-- a point goes to the point of the same name
unfoldable pub kept : List ℕ → List ℕ
kept point = point ++ (codes " -> " ++ point)

-- the new slot gets a value
unfoldable pub fill : ℕ → List ℕ
fill k = (codes " { z = i * " ++ decimal k) ++ codes "; };\n"

-- a frame of the function k at a point where the new slot gets a value
abbrev pub filled : ℕ → List ℕ → List ℕ
filled k point = (codes "point f" ++ decimal k) ++ (codes " " ++ (kept point ++ fill k))

-- a frame of the function k at its call, which the first function has not
abbrev pub called : ℕ → List ℕ
called k = if nat_le k 1 then [] else filled k (codes "call 1")

-- the frames of the function k
abbrev pub frames : ℕ → List ℕ
frames k = entry k ++ (filled k (codes "loop 1") ++ called k)

-- the frames of the main function: its entry, and its four joins
abbrev pub main_frames : List ℕ
main_frames =
    codes "point main entry -> entry;\n"
    ++ (codes "point main block 1 -> block 1;\n" ++ (codes "point main block 2 -> block 2;\n"
    ++ (codes "point main block 3 -> block 3;\n" ++ codes "point main block 4 -> block 4;\n")))

-- a point for each frame that the update may find
unfoldable pub mapping : ℕ → List ℕ
mapping n = flat_map frames (range_with_len 1 n) ++ main_frames
