-- What each command means, once its files were read: one constructor for each way in which it may end, in the order of its parts.
use Rattle.std.specs.Prelude.{◌≡◌, ℕ, ◌*◌, Bool, List, [], ◌∷◌, ◌++◌, length, map, unwrap_or, Option, Some, None, option_to_list, Result, Ok, Err}
use Rattle.c_tree.specs.declared.cause.ReadCause.{ReadCause}
use Rattle.c_tree.specs.declared.cause.FileCause.{FileCause}
use Rattle.c_tree.specs.declared.cause.SourceCause.{SourceCause}
use Rattle.c_tree.specs.declared.event.Event.{Event}
use Rattle.c_tree.specs.declared.lifted.Lifted.{Lifted}
use Rattle.c_tree.specs.declared.mapping.LEntry.{LEntry}
use Rattle.c_tree.specs.declared.mapping.Mapping.{Mapping}
use Rattle.c_tree.specs.declared.mapping.Patch as made
use Rattle.c_tree.specs.declared.run.Armed.{Armed}
use Rattle.c_tree.specs.declared.run.End.{End}
use Rattle.c_tree.specs.declared.run.Picker.{Picker}
use Rattle.c_tree.specs.declared.run.Picker.TheVariants as picker
use Rattle.c_tree.specs.declared.run.Settings.{Settings}
use Rattle.c_tree.specs.Canonical.{canonical_entries, canonical_text}
use Rattle.c_tree.specs.Entries.{Unsound}
use Rattle.c_tree.specs.Plan.{IsPlanned, refused_at}
use Rattle.c_tree.specs.Points.{points}
use Rattle.c_tree.specs.Run.{Core, first, is_short, over, run}
use Rattle.c_grammar.specs.Mapping.{IsMappingOf, IsMapFault}
use Rattle.c_source.specs.Source.{IsAccepted, IsRefused}
use Rattle.command_line.specs.Command.{Command, Usage, Check, Points, Transform, Run, RunWords, UpdateWords, Patch, PatchWords, Upgrade, UpgradeWords, Load}
use Rattle.command_line.specs.Options as options
use Rattle.frame_transform.specs.TargetText.{target_text}
use Rattle.history.specs.Listing.{IsListing}
use Rattle.load_laws.specs.Laws.{IsAcceptedLoad}
use Rattle.load_texts.specs.Texts as load
use Rattle.patch_file.specs.Refused.{IsFileRefused, IsFirstDifference}
use Rattle.patch_file.specs.Whole.{IsFileOf, file_of}
use Rattle.patch_form.specs.declared.format.Format.TheVariants.{Two}
use Rattle.patch_form.specs.Framing.{framed}
use Rattle.world_core.specs.History.{core, single}
use Rattle.answers.specs.Answer.{Answer}
use Rattle.upstare_cmd.specs.Asked.{TextNames, names_of}
use Rattle.answers.specs.Refusals as refusal
use Rattle.upstare_cmd.specs.Replies as reply
use Rattle.upstare_cmd.specs.Update.{update_words}

-- What a command means that prints a text of one source's program.
pub data SourceMeans (name source : List ℕ) (text : Lifted → List ℕ) (a : Answer) : Type 0 where
  not_accepted : (at : ℕ) (why : SourceCause) → IsRefused source at why → a ≡ refusal.refused name at why → SourceMeans name source text a
  printed : (p : Lifted) → IsAccepted source p → a ≡ reply.prints (text p) → SourceMeans name source text a

-- what the entries of a mapping between two programs come to
abbrev pub entries_of : Lifted → Lifted → Mapping → Result (List LEntry) Unsound
entries_of p q m = canonical_entries p q (map (λ x. x.it) m.entries)

-- What a command means that makes a patch of an old source, a new one and a mapping, and then says this of it.
pub data TextsMean (names : TextNames) (old new mapping : List ℕ) (Says : Lifted → Lifted → List LEntry → Answer → Type 0) (a : Answer) : Type 0 where
  old_refused : (at : ℕ) (why : SourceCause) → IsRefused old at why → a ≡ refusal.refused names.old at why → TextsMean names old new mapping Says a
  new_refused : (p : Lifted) (at : ℕ) (why : SourceCause) → IsAccepted old p → IsRefused new at why → a ≡ refusal.refused names.new at why
      → TextsMean names old new mapping Says a
  mapping_refused : (p q : Lifted) (at : ℕ) (why : ReadCause) → IsAccepted old p → IsAccepted new q → IsMapFault mapping at why → a ≡ refusal.map_refused names.map at why
      → TextsMean names old new mapping Says a
  entry_unsound : (p q : Lifted) (m : Mapping) (why : Unsound) → IsAccepted old p → IsAccepted new q → IsMappingOf mapping m → entries_of p q m ≡ Err why
      → a ≡ reply.map_unsound names.map why.entry why.cause → TextsMean names old new mapping Says a
  patched : (p q : Lifted) (m : Mapping) (entries : List LEntry) → IsAccepted old p → IsAccepted new q → IsMappingOf mapping m → entries_of p q m ≡ Ok entries
      → Says p q entries a → TextsMean names old new mapping Says a

-- The file of a patch holds the three texts, the mapping as its canonical text.
abbrev pub PatchMeans : PatchWords → List ℕ → List ℕ → List ℕ → Answer → Type 0
PatchMeans words old new mapping a =
    TextsMean (names_of words) old new mapping (λ p q entries x. x ≡ reply.put_patch words.output (framed Two old new (canonical_text p q entries))) a

-- What a command means that puts a patch's file in the newest format: the file is refused, or the same patch is put.
pub data UpgradeMeans (words : UpgradeWords) (bytes : List ℕ) (a : Answer) : Type 0 where
  unread : (at : ℕ) (why : FileCause) → IsFileRefused bytes at why → a ≡ reply.patch_refused words.file at why → UpgradeMeans words bytes a
  upgraded : (x : made.Patch) → IsFileOf bytes x → a ≡ reply.patch_written words.output (file_of x) → UpgradeMeans words bytes a

-- The run of these events, from the start to its end: what it printed, how many Steps it made, what came of its update, and its
-- end.
pub record Ran (k : Settings) (events : List Event) (output : List ℕ) (steps : ℕ) (update : List ℕ) (end : End) : Type 0 where
  pub core : Core
  pub leads : run k events ≡ Some core
  pub ends : over k core ≡ Some end
  pub printed : core.state.output ≡ output
  pub counted : core.steps ≡ steps
  pub updated : update_words (single k events) ≡ update

-- These events were made, and the answer tells their run.
abbrev pub Tells : Settings → Option (List ℕ) → List Event → Answer → Type 0
Tells k name events a =
    (output : List ℕ) × (steps : ℕ) × (update : List ℕ) × (end : End) × Ran k events output steps update end × (a ≡ reply.ran name events output steps update end)

-- The texts of a run's files: its source, and its patch, its input and its schedule where these are named.
pub record RunTexts : Type 0 where
  pub source : List ℕ
  pub patch : Option (List ℕ)
  pub input : Option (List ℕ)
  pub schedule : Option (List ℕ)

-- the texts of a run's files in the order in which they are read
abbrev pub in_order : RunTexts → List (List ℕ)
in_order t = t.source ∷ (option_to_list t.patch ++ (option_to_list t.input ++ option_to_list t.schedule))

-- A text is there where its file is named, and only there.
abbrev pub IsGiven : {A : Type 0} → Option A → Option (List ℕ) → Type 0
IsGiven None None = Unit {0}
IsGiven None (Some text) = ⊥
IsGiven (Some name) None = ⊥
IsGiven (Some name) (Some text) = Unit {0}

-- What was read are the texts of the run's files.
pub record AreTextsOf (words : RunWords) (texts : List (List ℕ)) (t : RunTexts) : Type 0 where
  pub read : texts ≡ in_order t
  pub patch : IsGiven words.update t.patch
  pub input : IsGiven words.input t.input
  pub schedule : IsGiven words.schedule t.schedule

-- A run is armed with the patch of its file, made from this source, for its moment; or it is not armed where no patch is named.
abbrev pub IsArmedWith : Option UpdateWords → Option (List ℕ) → List ℕ → Option Armed → Type 0
IsArmedWith None None source None = Unit {0}
IsArmedWith (Some update) (Some bytes) source (Some armed) =
    IsFileOf bytes armed.patch × (source ≡ armed.patch.old_text) × (armed.at ≡ update.at)
IsArmedWith update bytes source armed = ⊥

-- A run's settings are the program of its source, its patch, its input and the most Steps that it may make.
pub record AreSettings (words : RunWords) (t : RunTexts) (k : Settings) : Type 0 where
  pub accepted : IsAccepted t.source k.program
  pub armed : IsArmedWith words.update t.patch t.source k.armed
  pub input : k.input ≡ unwrap_or t.input []
  pub limit : k.limit ≡ words.steps

-- the picker of a run without a schedule
abbrev pub picker_of : Option ℕ → Picker
picker_of None = picker.Round None
picker_of (Some seed) = picker.Seed seed

-- whether the update of these events was refused for want of memory
abbrev pub was_short : Settings → List Event → Bool
was_short k events = is_short (core (single k events))

-- The events of a run are those that its schedule lists; or, without one, those that are planned, with an update that is refused
-- for want of memory exactly where it was.
abbrev pub Follows : RunWords → Option (List ℕ) → Settings → List Event → Type 0
Follows words None k events = IsPlanned k (was_short k events) (picker_of words.seed) events
Follows words (Some text) k events = (clean : Bool) × IsListing text events clean × (refused_at k clean 1 (first k) events ≡ None)

-- What a run means, by the texts of its files.
pub data RunMeans (words : RunWords) (t : RunTexts) (a : Answer) : Type 0 where
  source_refused : (at : ℕ) (why : SourceCause) → IsRefused t.source at why → a ≡ refusal.refused words.file at why → RunMeans words t a
  patch_refused : (p : Lifted) (update : UpdateWords) (bytes : List ℕ) (at : ℕ) (why : FileCause) → IsAccepted t.source p → words.update ≡ Some update
      → t.patch ≡ Some bytes → IsFileRefused bytes at why → a ≡ reply.patch_refused update.patch at why → RunMeans words t a
  patch_differs : (p : Lifted) (update : UpdateWords) (bytes : List ℕ) (x : made.Patch) (at : ℕ) → IsAccepted t.source p → words.update ≡ Some update
      → t.patch ≡ Some bytes → IsFileOf bytes x → IsFirstDifference at t.source x.old_text
      → a ≡ reply.patch_differs update.patch (length t.source) (length x.old_text) at → RunMeans words t a
  schedule_refused : (k : Settings) (name text : List ℕ) (events : List Event) (clean : Bool) (n : ℕ) → AreSettings words t k → words.schedule ≡ Some name
      → t.schedule ≡ Some text → IsListing text events clean → refused_at k clean 1 (first k) events ≡ Some n → a ≡ reply.schedule_refused name n
      → RunMeans words t a
  ended : (k : Settings) (events : List Event) → AreSettings words t k → Follows words t.schedule k events → Tells k words.history events a → RunMeans words t a

-- The settings of a run, field by field.
abbrev pub settings : Lifted → Option Armed → List ℕ → ℕ → Settings
settings p armed input limit = record { program = p; armed = armed; input = input; limit = limit }

-- a load runs the old program with no input, armed with the patch, up to the limit of a run that is given none
abbrev pub load_settings : ℕ → made.Patch → Settings
load_settings n p = settings p.old (Some (record { patch = p; at = 34 * n })) [] options.default_steps

-- the patch of a load's texts, by their programs and entries
abbrev pub load_patch : ℕ → Lifted → Lifted → List LEntry → made.Patch
load_patch n p q entries = record { old_text = load.old_source n; old = p; new_text = load.new_source n; new = q; entries = entries }

-- These events were made, and the answer of a load tells their run.
abbrev pub LoadTells : Settings → ℕ → List Event → Answer → Type 0
LoadTells k n events a =
    (output : List ℕ) × (steps : ℕ) × (update : List ℕ) × (end : End) × Ran k events output steps update end × (a ≡ reply.loaded n output steps update end)

-- A load's run: its events are planned with each thread in turn, with an update that is refused for want of memory exactly where it was.
abbrev pub Loads : ℕ → Settings → Answer → Type 0
Loads n k a = (events : List Event) × IsPlanned k (was_short k events) (picker.Round None) events × LoadTells k n events a

-- A load is the run of the patch of its three texts, which are accepted.
pub record LoadMeans (n : ℕ) (a : Answer) : Type 0 where
  pub texts : IsAcceptedLoad n
  pub loads : Loads n (load_settings n (load_patch n texts.old texts.new texts.lifted)) a

-- What a command means, once these texts were read.
abbrev pub Means : Command → List (List ℕ) → Answer → Type 0
Means Usage texts a = a ≡ reply.usage
Means (Check name) (source ∷ []) a = SourceMeans name source reply.counts a
Means (Points name) (source ∷ []) a = SourceMeans name source points a
Means (Transform name) (source ∷ []) a = SourceMeans name source target_text a
Means (Run words) texts a = (t : RunTexts) × AreTextsOf words texts t × RunMeans words t a
Means (Patch words) (old ∷ new ∷ mapping ∷ []) a = PatchMeans words old new mapping a
Means (Upgrade words) (bytes ∷ []) a = UpgradeMeans words bytes a
Means (Load n) [] a = LoadMeans n a
Means _ _ a = ⊥
