-- The texts of small numbers, written out.
use Rattle.std.proofs.Common.{◌≡◌, ◌++◌, refl, codes}
use Rattle.std.specs.Fmt.{digits}
use Rattle.load_texts.specs.Texts.{added, fill, kept, mapping, new_source, old_source, printed, source, threads}

old_of_two : old_source 2 ≡
    codes "int total; pthread_mutex_t m;\n"
    ++ codes "int f1(int x) { int i; i = 0; while (i < 3) { i = i + 1; x = x + 1; } return x; }\n"
    ++ codes "int f2(int x) { int i; i = 0; while (i < 3) { i = i + 1; x = x + 2; } return f1(x); }\n"
    ++ codes "void *work(void *a) { int r; r = f2(0); pthread_mutex_lock(&m); total = total + r; pthread_mutex_unlock(&m); return NULL; }\n"
    ++ codes "int main(void) { pthread_t a; pthread_t b; pthread_t c; pthread_t d; pthread_create(&a, NULL, work, NULL); pthread_create(&b, NULL, work, NULL); pthread_create(&c, NULL, work, NULL); pthread_create(&d, NULL, work, NULL); pthread_join(a, NULL); pthread_join(b, NULL); pthread_join(c, NULL); pthread_join(d, NULL); printf(\"old total %d\\n\", total); return 0; }\n"
unfolding digits old_source source added threads printed
old_of_two = refl

new_of_one : new_source 1 ≡
    codes "int total; pthread_mutex_t m;\n"
    ++ codes "int f1(int x) { int i; int z; i = 0; while (i < 3) { i = i + 1; x = x + 1; } return x; }\n"
    ++ codes "void *work(void *a) { int r; r = f1(0); pthread_mutex_lock(&m); total = total + r; pthread_mutex_unlock(&m); return NULL; }\n"
    ++ codes "int main(void) { pthread_t a; pthread_t b; pthread_t c; pthread_t d; pthread_create(&a, NULL, work, NULL); pthread_create(&b, NULL, work, NULL); pthread_create(&c, NULL, work, NULL); pthread_create(&d, NULL, work, NULL); pthread_join(a, NULL); pthread_join(b, NULL); pthread_join(c, NULL); pthread_join(d, NULL); printf(\"new total %d\\n\", total); return 0; }\n"
unfolding digits new_source source added threads printed
new_of_one = refl

mapping_of_two : mapping 2 ≡
    codes "point f1 entry -> entry;\npoint f1 loop 1 -> loop 1 { z = i * 1; };\n"
    ++ codes "point f2 entry -> entry;\npoint f2 loop 1 -> loop 1 { z = i * 2; };\npoint f2 call 1 -> call 1 { z = i * 2; };\n"
    ++ codes "point main entry -> entry;\npoint main block 1 -> block 1;\npoint main block 2 -> block 2;\npoint main block 3 -> block 3;\npoint main block 4 -> block 4;\n"
unfolding digits mapping kept fill
mapping_of_two = refl
