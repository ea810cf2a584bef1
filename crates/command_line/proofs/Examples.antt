-- Words that are written out, and what they ask for.
use Rattle.std.proofs.Common.{◌≡◌, refl, ℕ, List, [], ◌∷◌, Some, None, codes}
use Rattle.clap.proofs.OnLiterals.{clap_on_literals}
use Rattle.command_line.specs.Command.{Usage, Load, Run, RunWords, Transform, Upgrade, command_of}

abbrev plain : List ℕ → RunWords
plain name = record { file = name; update = None; input = None; seed = None; schedule = None; steps = 1000000; history = None }

abbrev a_c : List ℕ
a_c = codes "a.c"

run_file : command_of (codes "run" ∷ a_c ∷ []) ≡ Run (plain a_c)
unfolding clap_on_literals
run_file = refl

run_input : command_of (codes "run" ∷ a_c ∷ codes "--input" ∷ codes "i" ∷ codes "--history" ∷ codes "h" ∷ [])
    ≡ Run (record (plain a_c) { input = Some (codes "i"); history = Some (codes "h") })
unfolding clap_on_literals
run_input = refl

run_seed : command_of (codes "run" ∷ a_c ∷ codes "--seed" ∷ codes "1" ∷ []) ≡ Run (record (plain a_c) { seed = Some 1 })
unfolding clap_on_literals
run_seed = refl

greatest_seed : command_of (codes "run" ∷ codes "--seed" ∷ codes "18446744073709551615" ∷ a_c ∷ []) ≡ Run (record (plain a_c) { seed = Some 18446744073709551615 })
unfolding clap_on_literals
greatest_seed = refl

no_steps : command_of (codes "run" ∷ a_c ∷ codes "--steps" ∷ codes "0" ∷ []) ≡ Usage
unfolding clap_on_literals
no_steps = refl

most_steps : command_of (codes "run" ∷ a_c ∷ codes "--steps" ∷ codes "10000000" ∷ []) ≡ Run (record (plain a_c) { steps = 10000000 })
unfolding clap_on_literals
most_steps = refl

too_many_steps : command_of (codes "run" ∷ a_c ∷ codes "--steps" ∷ codes "10000001" ∷ []) ≡ Usage
unfolding clap_on_literals
too_many_steps = refl

seed_and_schedule : command_of (codes "run" ∷ a_c ∷ codes "--seed" ∷ codes "1" ∷ codes "--schedule" ∷ codes "s" ∷ []) ≡ Usage
unfolding clap_on_literals
seed_and_schedule = refl

run_history : command_of (codes "run" ∷ a_c ∷ codes "--history=h" ∷ []) ≡ Run (record (plain a_c) { history = Some (codes "h") })
unfolding clap_on_literals
run_history = refl

run_update : command_of (codes "run" ∷ a_c ∷ codes "--patch" ∷ codes "p" ∷ codes "--at" ∷ codes "5" ∷ [])
    ≡ Run (record (plain a_c) { update = Some (record { patch = codes "p"; at = 5 }) })
unfolding clap_on_literals
run_update = refl

half_an_update : command_of (codes "run" ∷ a_c ∷ codes "--at" ∷ codes "5" ∷ []) ≡ Usage
unfolding clap_on_literals
half_an_update = refl

other_half : command_of (codes "run" ∷ a_c ∷ codes "--patch" ∷ codes "p" ∷ []) ≡ Usage
unfolding clap_on_literals
other_half = refl

after_dashes : command_of (codes "run" ∷ codes "--" ∷ codes "-x" ∷ []) ≡ Run (plain (codes "-x"))
unfolding clap_on_literals
after_dashes = refl

no_file : command_of (codes "check" ∷ []) ≡ Usage
unfolding clap_on_literals
no_file = refl

two_files : command_of (codes "check" ∷ codes "a" ∷ codes "b" ∷ []) ≡ Usage
unfolding clap_on_literals
two_files = refl

no_help : command_of (codes "check" ∷ codes "--help" ∷ []) ≡ Usage
unfolding clap_on_literals
no_help = refl

no_short_help : command_of (codes "points" ∷ codes "-h" ∷ []) ≡ Usage
unfolding clap_on_literals
no_short_help = refl

transform_file : command_of (codes "transform" ∷ a_c ∷ []) ≡ Transform a_c
unfolding clap_on_literals
transform_file = refl

upgrade_whole : command_of (codes "upgrade" ∷ codes "p" ∷ codes "-o" ∷ codes "q" ∷ []) ≡ Upgrade (record { file = codes "p"; output = codes "q" })
unfolding clap_on_literals
upgrade_whole = refl

upgrade_without_output : command_of (codes "upgrade" ∷ codes "p" ∷ []) ≡ Usage
unfolding clap_on_literals
upgrade_without_output = refl

load_least : command_of (codes "load" ∷ codes "1" ∷ []) ≡ Load 1
unfolding clap_on_literals
load_least = refl

load_most : command_of (codes "load" ∷ codes "1000" ∷ []) ≡ Load 1000
unfolding clap_on_literals
load_most = refl

load_of_none : command_of (codes "load" ∷ codes "0" ∷ []) ≡ Usage
unfolding clap_on_literals
load_of_none = refl

load_too_large : command_of (codes "load" ∷ codes "1001" ∷ []) ≡ Usage
unfolding clap_on_literals
load_too_large = refl

load_without_number : command_of (codes "load" ∷ []) ≡ Usage
unfolding clap_on_literals
load_without_number = refl

load_of_a_word : command_of (codes "load" ∷ codes "x" ∷ []) ≡ Usage
unfolding clap_on_literals
load_of_a_word = refl
