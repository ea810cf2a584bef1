-- Refusals of the texts of a file as refusals of the file.
use Rattle.std.proofs.Common.{◌≡◌, ◌∙◌, ℕ, ◌+◌, List, refl, sym, ap, subst, arith}
use Rattle.c_tree.specs.declared.cause.FileCause.{FileCause}
use Rattle.c_tree.specs.declared.cause.FileCause.TheVariants as cause
use Rattle.c_tree.specs.declared.lifted.Lifted.{Lifted}
use Rattle.c_tree.specs.declared.mapping.Mapping.{Mapping}
use Rattle.c_tree.specs.declared.mapping.Patch.{Patch}
use Rattle.map_lang.specs.declared.refused.MapRefused.{MapRefused}
use Rattle.map_lang.specs.declared.refused.MapRefused.TheVariants as mapping
use Rattle.patch_form.specs.declared.frame.Frame.{Frame}
use Rattle.patch_maker.specs.Made as maker
use Rattle.patch_maker.specs.declared.refused.PatchRefused.{PatchRefused}
use Rattle.patch_maker.specs.declared.refused.PatchRefused.TheVariants as patch
use Rattle.c_source.specs.Refusal as sources
use Rattle.c_source.specs.Source.{IsAccepted}
use Rattle.c_source.specs.declared.refused.SourceRefused.{SourceRefused}
use Rattle.c_source.specs.declared.refused.SourceRefused.TheVariants as source
use Rattle.patch_file.specs.declared.refused.FileRefused.{FileRefused}
use Rattle.patch_file.specs.declared.refused.FileRefused.TheVariants.{At, Memory}
use Rattle.patch_file.specs.Parts.{AreRead, IsMadeOf, IsPlaced, Refuses}
use Rattle.patch_file.specs.Refusal.{IsAt, IsMapRefusal, IsOfOld, IsOfNew, IsOfMap, IsOfEntry}
use Rattle.patch_file.specs.Refused.{IsFirstDifference, TextsRefused, old_source, new_source, map_text, entry, not_canonical}
use Rattle.patch_file.specs.Whole.{map_of}

-- a refusal so many bytes behind the start of a text
at_start : (f : Frame) (start i : ℕ) (c : FileCause) (r : FileRefused) → IsAt start i c r
    → ((at : ℕ) (why : FileCause) → at ≡ start + i → why ≡ c → TextsRefused f.format f.old.text.now f.new.text.now f.map.text.now at why) → Refuses f r
at_start f start i c (At at why) is make = make at why is.0 is.1
at_start f start i c (Memory e) is make = tt

pub of_old : (f : Frame) (why : SourceRefused) (r : FileRefused) → IsPlaced f → sources.IsRefusal f.old.text.now why → IsOfOld f.old.at why r → Refuses f r
of_old f (source.At i c) r placed is at = at_start f f.old.at i (cause.OldSource c) r at (λ n why e same. old_source i c is (e ∙ ap (λ s. s + i) placed.old) same)
of_old f (source.Memory e) r placed is at = subst (Refuses f) (sym at) tt

pub of_new : (f : Frame) (p : Lifted) (why : SourceRefused) (r : FileRefused) → IsPlaced f → IsAccepted f.old.text.now p → sources.IsRefusal f.new.text.now why → IsOfNew f.new.at why r
    → Refuses f r
of_new f p (source.At i c) r placed old is at = at_start f f.new.at i (cause.NewSource c) r at (λ n why e same. new_source p i c old is (e ∙ ap (λ s. s + i) placed.new) same)
of_new f p (source.Memory e) r placed old is at = subst (Refuses f) (sym at) tt

pub of_map : (f : Frame) (p q : Lifted) (why : MapRefused) (r : FileRefused) → IsPlaced f → IsAccepted f.old.text.now p → IsAccepted f.new.text.now q → IsMapRefusal f.format f.map.text.now why
    → IsOfMap f.map.at why r → Refuses f r
of_map f p q (mapping.At i c) r placed old new is at = at_start f f.map.at i (cause.Map c) r at (λ n why e same. map_text p q i c old new is (e ∙ ap (λ s. s + i) placed.map) same)
of_map f p q (mapping.Memory e) r placed old new is at = subst (Refuses f) (sym at) tt

pub of_entry : (f : Frame) (p q : Lifted) (m : Mapping) (why : PatchRefused) (r : FileRefused) → IsPlaced f → AreRead f p q m → maker.IsRefusal p q m why
    → IsOfEntry f.map.at why r → Refuses f r
of_entry f p q m (patch.Entry number c) r placed read is at =
    at_start f f.map.at 0 (cause.Entry number c) r at (λ n why e same. entry p q m (record { entry = number; cause = c }) read.old read.new read.mapping is.is (omega (arith, e, placed.map)) same)
of_entry f p q m (patch.Memory e) r placed read is at = subst (Refuses f) (sym at) tt

pub of_difference : (f : Frame) (x : Patch) (m : Mapping) (i : ℕ) (r : FileRefused) → IsPlaced f → AreRead f x.old x.new m → IsMadeOf f x.old x.new m x
    → IsFirstDifference i f.map.text.now (map_of x) → IsAt f.map.at i cause.NotCanonical r → Refuses f r
of_difference f x m i r placed read made differs at =
    at_start f f.map.at i cause.NotCanonical r at
    (λ n why e same. not_canonical x.old x.new m x.entries i read.old read.new read.mapping made.entries.are differs (e ∙ ap (λ s. s + i) placed.map) same)
