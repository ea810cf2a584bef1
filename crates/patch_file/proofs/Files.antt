-- From the texts of a file to its bytes.
use Rattle.std.proofs.Common.{◌≡◌, ◌∙◌, ℕ, ◌≤◌, List, ◌++◌, length, map, codes, refl, sym, ap, subst, arith}
use Rattle.std.proofs.lemmas.List.{length-append}
use Rattle.std.specs.Prelude.{Result, Ok, Err, MatchResult}
use Rattle.c_tree.specs.declared.cause.FileCause.TheVariants as cause
use Rattle.c_tree.specs.declared.lifted.Lifted.{Lifted}
use Rattle.c_tree.specs.declared.mapping.Mapping.{Mapping}
use Rattle.c_tree.specs.declared.mapping.Patch.{Patch}
use Rattle.c_tree.specs.Canonical.{canonical_entries}
use Rattle.c_grammar.specs.Mapping.{IsMappingOf}
use Rattle.patch_form.specs.Answer.{IsFrame}
use Rattle.map_lang.specs.Formats.{FirstMappingsAreMappings}
use Rattle.patch_form.specs.declared.format.Format.{Format}
use Rattle.patch_form.specs.declared.format.Format.TheVariants.{One, Two}
use Rattle.patch_form.specs.declared.frame.Frame.{Frame}
use Rattle.patch_form.specs.Framing.{framed, before_map, IsCutShort, IsBadAt}
use Rattle.c_source.specs.Source.{IsAccepted}
use Rattle.patch_file.specs.declared.refused.FileRefused.{FileRefused}
use Rattle.patch_file.specs.declared.refused.FileRefused.TheVariants.{At, Memory}
use Rattle.patch_file.specs.Parts.{AreRead, IsMadeOf, IsPatchOf, IsPlaced, Refuses}
use Rattle.patch_file.specs.Refusal.{IsAt, IsRefusal}
use Rattle.patch_file.specs.Refused.{IsFileRefused, texts, short, bad_head}
use Rattle.patch_file.specs.Formats.{CanBeIn, IsMappingAs}
use Rattle.patch_file.specs.Whole.{IsFileOf, file_in, file_of, map_of}
use Rattle.patch_file.proofs.SingleParts.{single_entries}

pub placed : (bytes : List ℕ) (f : Frame) → IsFrame bytes f → IsPlaced f
placed bytes f is = record { old = is.old; new = is.new; map = is.map }

-- the third text of a file is no longer than the file
pub map_fits : (bytes : List ℕ) (f : Frame) → IsFrame bytes f → length bytes ≤ 4194304 → length f.map.text.now ≤ 4194304
map_fits bytes f is small =
    let old = f.old.text.now in
    let new = f.new.text.now in
    let map = f.map.text.now in
    let whole = ap length is.whole in
    let parts = length-append (before_map f.format old new map ++ map) (codes "end\n") in
    let tail = length-append (before_map f.format old new map) map in
    omega (arith, small, whole, parts, tail)

-- the mapping of a patch, between the programs that the patch holds
pub of_itself : (f : Frame) (p q : Lifted) (m : Mapping) (x : Patch) → AreRead f p q m → IsMadeOf f p q m x
    → (n : Mapping) × AreRead f x.old x.new n × IsMadeOf f x.old x.new n x
of_itself f p q m x read made =
    let texts : AreRead f x.old x.new m = subst (λ (a : Lifted). AreRead f a x.new m) (sym made.old) (subst (λ (b : Lifted). AreRead f p b m) (sym made.new) read) in
    let whole : IsMadeOf f x.old x.new m x = subst (λ (a : Lifted). IsMadeOf f a x.new m x) (sym made.old) (subst (λ (b : Lifted). IsMadeOf f p b m x) (sym made.new) made) in
    (m, texts, whole)

-- the bytes are those of the patch's texts
file_bytes : (bytes : List ℕ) (f : Frame) (x : Patch) → IsFrame bytes f → IsPatchOf f x → bytes ≡ file_in f.format x
file_bytes bytes f x is of =
    is.whole ∙ ap (λ o. framed f.format o f.new.text.now f.map.text.now) (sym of.made.old_text) ∙ ap (λ n. framed f.format x.old_text n f.map.text.now) (sym of.made.new_text)
    ∙ ap (λ m. framed f.format x.old_text x.new_text m) of.canonical

-- a mapping in a format is one in the newest, and its patch can be written in the format
newest : FirstMappingsAreMappings → (f : Format) (text : List ℕ) (m : Mapping) → IsMappingAs f text m → IsMappingOf text m
newest law One text m read = (law text m read).0
newest law Two text m read = read

writable : FirstMappingsAreMappings → (f : Format) (text : List ℕ) (m : Mapping) (x : Patch) → IsMappingAs f text m → canonical_entries x.old x.new (map (λ y. y.it) m.entries) ≡ Ok x.entries
    → CanBeIn f x
writable law One text m x read are = single_entries x.old x.new m x.entries are (law text m read).1
writable law Two text m x read are = tt

-- the file of a patch has as many bytes in each format
pub as_large : (f : Format) (x : Patch) → length (file_in f x) ≡ length (file_of x)
as_large One x = refl
as_large Two x = refl

pub file : FirstMappingsAreMappings → (bytes : List ℕ) (f : Frame) (x : Patch) → length bytes ≤ 4194304 → IsFrame bytes f → IsPatchOf f x → IsFileOf bytes x
file law bytes f x fits is of =
    let bytes_are = file_bytes bytes f x is of in
    let large = ap length bytes_are ∙ as_large f.format x in (
      record {
        old = subst (λ (t : List ℕ). IsAccepted t x.old) (sym of.made.old_text) of.read.old;
        new = subst (λ (t : List ℕ). IsAccepted t x.new) (sym of.made.new_text) of.read.new;
        text = f.map.text.now;
        mapping = of.mapping;
        read = newest law f.format f.map.text.now of.mapping of.read.mapping;
        entries = of.made.entries.are;
        small = omega (arith, large, fits);
      },
      (f.format, writable law f.format f.map.text.now of.mapping x of.read.mapping of.made.entries.are, bytes_are),
    )

pub refused_texts : (bytes : List ℕ) (f : Frame) (r : FileRefused) → length bytes ≤ 4194304 → IsFrame bytes f → Refuses f r → IsRefusal bytes r
refused_texts bytes f (At at why) fits is of = texts f.format f.old.text.now f.new.text.now f.map.text.now fits is.whole of
refused_texts bytes f (Memory e) fits is of = tt

pub refused_short : (bytes : List ℕ) (r : FileRefused) → length bytes ≤ 4194304 → IsCutShort bytes → IsAt 0 (length bytes) cause.Short r → IsRefusal bytes r
refused_short bytes (At at why) fits is e = let here : at ≡ length bytes = omega (arith, e.0) in short fits is here e.1
refused_short bytes (Memory e) fits is at = tt

pub refused_head : (bytes : List ℕ) (at : ℕ) (r : FileRefused) → length bytes ≤ 4194304 → IsBadAt at bytes → IsAt 0 at cause.BadHead r → IsRefusal bytes r
refused_head bytes n (At at why) fits is e = let here : at ≡ n = omega (arith, e.0) in bad_head fits (subst (λ (i : ℕ). IsBadAt i bytes) (sym here) is) e.1
refused_head bytes n (Memory e) fits is at = tt

-- what the texts of a file give, or why they are refused, is what the file does
pub answered : FirstMappingsAreMappings → (bytes : List ℕ) (f : Frame) (r : Result Patch FileRefused) → length bytes ≤ 4194304 → IsFrame bytes f → MatchResult r (IsPatchOf f) (Refuses f)
    → MatchResult r (IsFileOf bytes) (IsRefusal bytes)
answered law bytes f (Ok x) fits is of = file law bytes f x fits is of
answered law bytes f (Err r) fits is of = refused_texts bytes f r fits is of
