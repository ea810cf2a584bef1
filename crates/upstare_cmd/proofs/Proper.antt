-- The answers of each command are proper: what a status says of them.
use Rattle.std.proofs.Common.{◌≡◌, ℕ, Bool, true, false, List, [], ◌∷◌, ◌++◌, length, refl, sym, ap, subst, inl, arith}
use Rattle.std.specs.Prelude.{nat_le, if◌then◌else◌, Option, Some, None, option_to_list}
use Rattle.std.proofs.lemmas.Bool.Decides.{nat_tests}
use Rattle.c_tree.specs.declared.event.Event.{Event}
use Rattle.c_tree.specs.declared.lifted.Lifted.{Lifted}
use Rattle.c_tree.specs.declared.mapping.LEntry.{LEntry}
use Rattle.c_tree.specs.declared.run.End.{End}
use Rattle.c_tree.specs.declared.run.End.TheVariants as end
use Rattle.c_tree.specs.declared.run.Settings.{Settings}
use Rattle.c_tree.specs.Canonical.{canonical_text}
use Rattle.patch_form.specs.declared.format.Format.TheVariants.{Two}
use Rattle.patch_form.specs.Framing.{framed}
use Rattle.command_line.specs.Command.{Command, Usage, Check, Points, Transform, Run, RunWords, UpdateWords, Patch, PatchWords, Upgrade, UpgradeWords, Load}
use Rattle.answers.specs.Answer.{Answer, Piece, ToOut, ToFile}
use Rattle.upstare_cmd.specs.Asked.{TextNames, named, names_of, outputs, run_files, update_files, wanted}
use Rattle.answers.specs.Wanted.{Wanted, input_file, map_file, patch_file, schedule_file, source_file}
use Rattle.upstare_cmd.specs.Causes.{IsProper, is_of_texts, is_refusal}
use Rattle.upstare_cmd.specs.Job.{Job, job_of}
use Rattle.answers.specs.Writes.{WritesOnly}
use Rattle.upstare_cmd.specs.Meaning.{Loads, Means, RunMeans, RunTexts, SourceMeans, Tells, TextsMean, UpgradeMeans, unread, upgraded, load_patch, load_settings, not_accepted, printed, old_refused, new_refused, mapping_refused, entry_unsound, patched, source_refused, patch_refused, patch_differs, schedule_refused, ended}
use Rattle.upstare_cmd.specs.Replies.{kept, loaded, patch_written, prints, put_patch, ran}
use Rattle.answers.specs.Refusals.{patch_too_long, says, too_long}
use Rattle.answers.specs.Status.{code}
use Rattle.answers.specs.declared.status.Status.{Status}
use Rattle.answers.specs.declared.status.Status.TheVariants as st

-- a refusal's line alone
refusal : (c : Command) (line : List ℕ) (s : Status) → (code s ≡ 1 → c ≡ Usage) → (code s ≡ 4 → ⊥) → (code s ≡ 5 → ⊥) → (code s ≡ 9 → ⊥) → IsProper (job_of c) (says line s)
refusal c line s one four five nine = record { unasked = one; readable = four; writable = five; fed = nine; alone = λ _. refl; only = tt }

refused_proper : (c : Command) (line : List ℕ) → IsProper (job_of c) (says line st.SourceRefused)
refused_proper c line = refusal c line st.SourceRefused (λ e. absurd (omega arith)) (λ e. omega arith) (λ e. omega arith) (λ e. omega arith)

map_refused_proper : (c : Command) (line : List ℕ) → IsProper (job_of c) (says line st.MapRefused)
map_refused_proper c line = refusal c line st.MapRefused (λ e. absurd (omega arith)) (λ e. omega arith) (λ e. omega arith) (λ e. omega arith)

-- an answer that is no refusal, of a status that no fault gives
done_proper : (c : Command) (ps : List Piece) (line : List ℕ) (n : ℕ) → (n ≡ 1 → ⊥) → (n ≡ 4 → ⊥) → (n ≡ 5 → ⊥) → (n ≡ 9 → ⊥) → (is_refusal n ≡ true → ⊥) → WritesOnly (outputs c) ps
    → IsProper (job_of c) (record { pieces = ps; line = line; status = n })
done_proper c ps line n one four five nine other only =
    record { unasked = λ e. absurd (one e); readable = four; writable = five; fed = nine; alone = λ e. absurd (other e); only = only }

printed_proper : (c : Command) (text : List ℕ) → IsProper (job_of c) (prints text)
printed_proper c text = done_proper c _ [] 0 (λ e. omega arith) (λ e. omega arith) (λ e. omega arith) (λ e. omega arith) (λ e. cc) tt

kept_only : (h : Option (List ℕ)) (events : List Event) → WritesOnly (option_to_list h) (kept h events)
kept_only None events = tt
kept_only (Some name) events = (inl refl, tt)

ran_proper : (w : RunWords) (events : List Event) (output : List ℕ) (steps : ℕ) (update : List ℕ) (e : End) → IsProper (job_of (Run w)) (ran w.history events output steps update e)
ran_proper w events output steps update (end.Finished k) =
    done_proper (Run w) _ _ 0 (λ e. omega arith) (λ e. omega arith) (λ e. omega arith) (λ e. omega arith) (λ e. cc) (kept_only w.history events)
ran_proper w events output steps update (end.Trapped t x) =
    done_proper (Run w) _ _ 6 (λ e. omega arith) (λ e. omega arith) (λ e. omega arith) (λ e. omega arith) (λ e. cc) (kept_only w.history events)
ran_proper w events output steps update end.Deadlock =
    done_proper (Run w) _ _ 7 (λ e. omega arith) (λ e. omega arith) (λ e. omega arith) (λ e. omega arith) (λ e. cc) (kept_only w.history events)
ran_proper w events output steps update end.Limit =
    done_proper (Run w) _ _ 8 (λ e. omega arith) (λ e. omega arith) (λ e. omega arith) (λ e. omega arith) (λ e. cc) (kept_only w.history events)

told_proper : (w : RunWords) (k : Settings) (events : List Event) (a : Answer) → Tells k w.history events a → IsProper (job_of (Run w)) a
told_proper w k events a tells = subst (IsProper (job_of (Run w))) (sym tells.5) (ran_proper w events tells.0 tells.1 tells.2 tells.3)

-- what is meant of one source
source_proper : (c : Command) (name source : List ℕ) (text : Lifted → List ℕ) (a : Answer) → SourceMeans name source text a → IsProper (job_of c) a
source_proper c name source text a (not_accepted at why is meant) = subst (IsProper (job_of c)) (sym meant) (refused_proper c _)
source_proper c name source text a (printed p accepted meant) = subst (IsProper (job_of c)) (sym meant) (printed_proper c _)

-- what is meant of two sources and a mapping
texts_proper : (c : Command) (names : TextNames) (old new mapping : List ℕ) (Says : Lifted → Lifted → List LEntry → Answer → Type 0) (a : Answer)
    → ((p q : Lifted) (entries : List LEntry) → Says p q entries a → IsProper (job_of c) a) → TextsMean names old new mapping Says a → IsProper (job_of c) a
texts_proper c names old new mapping Says a good (old_refused at why is meant) = subst (IsProper (job_of c)) (sym meant) (refused_proper c _)
texts_proper c names old new mapping Says a good (new_refused p at why accepted is meant) = subst (IsProper (job_of c)) (sym meant) (refused_proper c _)
texts_proper c names old new mapping Says a good (mapping_refused p q at why old_is new_is is meant) = subst (IsProper (job_of c)) (sym meant) (map_refused_proper c _)
texts_proper c names old new mapping Says a good (entry_unsound p q m why old_is new_is is come meant) = subst (IsProper (job_of c)) (sym meant) (map_refused_proper c _)
texts_proper c names old new mapping Says a good (patched p q m entries old_is new_is is come says_so) = good p q entries says_so

put_proper : (w : PatchWords) (patch : List ℕ) → IsProper (job_of (Patch w)) (put_patch w.output patch)
put_proper w patch = go (nat_le (length patch) 4194304)
  where
    go : (b : Bool) → IsProper (job_of (Patch w)) (if b then patch_written w.output patch else patch_too_long w.output)
    go true = done_proper (Patch w) _ [] 0 (λ e. omega arith) (λ e. omega arith) (λ e. omega arith) (λ e. omega arith) (λ e. cc) (inl refl, tt)
    go false = map_refused_proper (Patch w) _

-- what is meant of a patch that is upgraded
upgrade_proper : (w : UpgradeWords) (bytes : List ℕ) (a : Answer) → UpgradeMeans w bytes a → IsProper (job_of (Upgrade w)) a
upgrade_proper w bytes a (unread at why is meant) = subst (IsProper (job_of (Upgrade w))) (sym meant) (map_refused_proper (Upgrade w) _)
upgrade_proper w bytes a (upgraded x is meant) =
    subst (IsProper (job_of (Upgrade w))) (sym meant)
    (done_proper (Upgrade w) _ [] 0 (λ e. omega arith) (λ e. omega arith) (λ e. omega arith) (λ e. omega arith) (λ e. cc) (inl refl, tt))

loaded_proper : (n : ℕ) (output : List ℕ) (steps : ℕ) (update : List ℕ) (e : End) → IsProper (job_of (Load n)) (loaded n output steps update e)
loaded_proper n output steps update (end.Finished k) =
    done_proper (Load n) _ [] 0 (λ e. omega arith) (λ e. omega arith) (λ e. omega arith) (λ e. omega arith) (λ e. cc) tt
loaded_proper n output steps update (end.Trapped t x) =
    done_proper (Load n) _ [] 6 (λ e. omega arith) (λ e. omega arith) (λ e. omega arith) (λ e. omega arith) (λ e. cc) tt
loaded_proper n output steps update end.Deadlock =
    done_proper (Load n) _ [] 7 (λ e. omega arith) (λ e. omega arith) (λ e. omega arith) (λ e. omega arith) (λ e. cc) tt
loaded_proper n output steps update end.Limit =
    done_proper (Load n) _ [] 8 (λ e. omega arith) (λ e. omega arith) (λ e. omega arith) (λ e. omega arith) (λ e. cc) tt

loads_proper : (n : ℕ) (k : Settings) (a : Answer) → Loads n k a → IsProper (job_of (Load n)) a
loads_proper n k a loads =
    let tells = loads.2 in subst (IsProper (job_of (Load n))) (sym tells.5) (loaded_proper n tells.0 tells.1 tells.2 tells.3)

-- what is meant of a run
run_proper : (w : RunWords) (t : RunTexts) (a : Answer) → RunMeans w t a → IsProper (job_of (Run w)) a
run_proper w t a (source_refused at why is meant) = subst (IsProper (job_of (Run w))) (sym meant) (refused_proper (Run w) _)
run_proper w t a (patch_refused p update bytes at why accepted names gives is meant) = subst (IsProper (job_of (Run w))) (sym meant) (map_refused_proper (Run w) _)
run_proper w t a (patch_differs p update bytes x at accepted names gives is differ meant) = subst (IsProper (job_of (Run w))) (sym meant) (map_refused_proper (Run w) _)
run_proper w t a (schedule_refused k name text events clean n set names gives lists at meant) =
    subst (IsProper (job_of (Run w))) (sym meant) (refusal (Run w) _ st.ScheduleRefused (λ e. absurd (omega arith)) (λ e. omega arith) (λ e. omega arith) (λ e. omega arith))
run_proper w t a (ended k events set follows tells) = told_proper w k events a tells

-- one line for each command
answer_proper : (c : Command) (texts : List (List ℕ)) (a : Answer) → Means c texts a → IsProper (job_of c) a
answer_proper Usage texts a meant = subst (IsProper (job_of Usage)) (sym meant) (refusal Usage _ st.Usage (λ e. refl) (λ e. omega arith) (λ e. omega arith) (λ e. omega arith))
answer_proper (Check name) [] a meant = absurd meant
answer_proper (Check name) (source ∷ []) a meant = source_proper (Check name) name source _ a meant
answer_proper (Check name) (x ∷ y ∷ rest) a meant = absurd meant
answer_proper (Points name) [] a meant = absurd meant
answer_proper (Points name) (source ∷ []) a meant = source_proper (Points name) name source _ a meant
answer_proper (Points name) (x ∷ y ∷ rest) a meant = absurd meant
answer_proper (Transform name) [] a meant = absurd meant
answer_proper (Transform name) (source ∷ []) a meant = source_proper (Transform name) name source _ a meant
answer_proper (Transform name) (x ∷ y ∷ rest) a meant = absurd meant
answer_proper (Run w) texts a meant = run_proper w meant.0 a meant.2
answer_proper (Patch w) [] a meant = absurd meant
answer_proper (Patch w) (x ∷ []) a meant = absurd meant
answer_proper (Patch w) (x ∷ y ∷ []) a meant = absurd meant
answer_proper (Patch w) (old ∷ new ∷ mapping ∷ []) a meant =
    texts_proper (Patch w) (names_of w) old new mapping _ a
    (λ p q entries is. subst (IsProper (job_of (Patch w))) (sym is) (put_proper w (framed Two old new (canonical_text p q entries)))) meant
answer_proper (Patch w) (x ∷ y ∷ z ∷ u ∷ rest) a meant = absurd meant
answer_proper (Upgrade w) [] a meant = absurd meant
answer_proper (Upgrade w) (bytes ∷ []) a meant = upgrade_proper w bytes a meant
answer_proper (Upgrade w) (x ∷ y ∷ rest) a meant = absurd meant
answer_proper (Load n) [] a meant = loads_proper n (load_settings n (load_patch n meant.texts.old meant.texts.new meant.texts.lifted)) a meant.loads
answer_proper (Load n) (x ∷ rest) a meant = absurd meant

-- an answer that may be meant, and says nothing of texts
abbrev pub IsTold : Job → Answer → Type 0
IsTold j a = IsProper j a × (is_of_texts a.status ≡ false)

-- so are all answers of files that are too long
abbrev pub AllProper : Job → List Wanted → Type 0
AllProper j [] = Unit {0}
AllProper j (f ∷ fs) = IsTold j f.too_long × AllProper j fs

long_proper : (c : Command) (name : List ℕ) → IsTold (job_of c) (too_long name)
long_proper c name = (refusal c _ st.TooLong (λ e. absurd (omega arith)) (λ e. omega arith) (λ e. omega arith) (λ e. omega arith), refl)

source_file_proper : (c : Command) (name : List ℕ) → IsTold (job_of c) (source_file name).too_long
source_file_proper c name = (refused_proper c _, refl)

map_file_proper : (c : Command) (name : List ℕ) → IsTold (job_of c) (map_file name).too_long
map_file_proper c name = (map_refused_proper c _, refl)

patch_file_proper : (c : Command) (name : List ℕ) → IsTold (job_of c) (patch_file name).too_long
patch_file_proper c name = (map_refused_proper c _, refl)

run_files_proper : (c : Command) (input schedule : Option (List ℕ)) → AllProper (job_of c) (named input_file input ++ named schedule_file schedule)
run_files_proper c None None = tt
run_files_proper c None (Some t) = (long_proper c t, tt)
run_files_proper c (Some i) None = (long_proper c i, tt)
run_files_proper c (Some i) (Some t) = (long_proper c i, (long_proper c t, tt))

update_files_proper : (c : Command) (update : Option UpdateWords) (fs : List Wanted) → AllProper (job_of c) fs → AllProper (job_of c) (update_files update ++ fs)
update_files_proper c None fs all = all
update_files_proper c (Some u) fs all = (patch_file_proper c u.patch, all)

all_proper : (c : Command) → AllProper (job_of c) (wanted c)
all_proper Usage = tt
all_proper (Check name) = (source_file_proper (Check name) name, tt)
all_proper (Points name) = (source_file_proper (Points name) name, tt)
all_proper (Transform name) = (source_file_proper (Transform name) name, tt)
all_proper (Run w) = (source_file_proper (Run w) w.file, update_files_proper (Run w) w.update (run_files w) (run_files_proper (Run w) w.input w.schedule))
all_proper (Patch w) = (source_file_proper (Patch w) w.old, (source_file_proper (Patch w) w.new, (map_file_proper (Patch w) w.map, tt)))
all_proper (Upgrade w) = (patch_file_proper (Upgrade w) w.file, tt)
all_proper (Load n) = tt

-- What is owed of a job: whatever it means is proper, so is what is said of a file that is too long, and fault of usage reads none.
pub record IsProperJob (j : Job) : Type 0 where
  pub proper : (texts : List (List ℕ)) (a : Answer) → j.Means texts a → IsProper j a
  pub long : AllProper j j.wanted
  pub none : j.IsUsage → j.wanted ≡ []

-- the job of each command is proper
pub job_proper : (c : Command) → IsProperJob (job_of c)
job_proper c = record { proper = answer_proper c; long = all_proper c; none = λ is. ap wanted is }
