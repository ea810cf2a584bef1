-- What a reader that stands at an offset has found, and what a fault there says of the whole.
use Rattle.std.proofs.Common.{◌≡◌, ℕ, ◌+◌, ◌-◌, ◌^◌, ◌<◌, ◌≤◌, min, List, ◌++◌, length, take, drop, refl, sym, ap, ap₂, ◌∙◌, subst, append_assoc, zero-add, arith}
use Rattle.std.specs.Prelude.{codes}
use Rattle.std.proofs.lemmas.List.{append-nil, length-append, length-drop, length-take, take-append-drop, drop-drop, drop_all}
use Rattle.patch_form.specs.declared.fault.FrameFault.{FrameFault}
use Rattle.patch_form.specs.declared.fault.FrameFault.TheVariants.{Short}
use Rattle.patch_form.specs.declared.frame.Frame.{Frame}
use Rattle.patch_form.specs.declared.format.Format.{Format}
use Rattle.patch_form.specs.Framing.{head, number_line, framed, before_old, before_new, before_map, IsBadAt}
use Rattle.patch_form.specs.Answer.{IsFrame, IsFault}
use Rattle.patch_form.specs.Parts.{Is, IsHead, IsNumberLine, IsPart, IsCut, IsFaultOf}
use Rattle.patch_form.proofs.Languages.{Joined, fault_first, fault_second}
use Rattle.patch_form.proofs.Files.{IsSized, IsSizedBy, sized, part, part_of, text_short, IsFile, IsFromOld, IsFromNew, IsFromMap, IsFromEnd, file_joined, old_joined, new_joined, map_joined, file_fault, behind_file, framed_parts, file_from_framing}

-- a word stands at the offset, up to the next
abbrev pub HasWord : List ℕ → List ℕ → ℕ → ℕ → Type 0
HasWord bytes word at next = (next ≡ at + length word) × (next ≤ length bytes) × (drop at bytes ≡ word ++ drop next bytes)

-- the line of a length stands at the offset, up to the next; the length may be cut at the largest number
abbrev pub HasLength : List ℕ → ℕ → ℕ → ℕ → Type 0
HasLength bytes at value next =
    (next ≤ length bytes) × ((n : ℕ) × (value ≡ min n (2 ^ 64 - 1)) × (drop at bytes ≡ number_line n ++ drop next bytes))

-- a word and a text behind its line stand at the offset, the text from its start on
abbrev pub HasPart : List ℕ → List ℕ → ℕ → ℕ → List ℕ → Type 0
HasPart bytes word at start text =
    (start ≡ at + length (word ++ number_line (length text)))
    × (start + length text ≤ length bytes)
    × (drop at bytes ≡ word ++ number_line (length text) ++ text ++ drop (start + length text) bytes)

-- where what stands at an offset ends
ends : (bytes front : List ℕ) (at next : ℕ) → at ≤ length bytes → next ≤ length bytes → drop at bytes ≡ front ++ drop next bytes → next ≡ at + length front
ends bytes front at next lo hi e =
    omega (arith, ap length e, length-append front (drop next bytes), length-drop at bytes, length-drop next bytes)

-- the text is there
pub part_there : (bytes word rest text : List ℕ) (at mid end value : ℕ) → HasWord bytes word at mid → HasLength bytes mid value end → length bytes < 2 ^ 63 →
    rest ≡ drop end bytes → value ≤ length rest → text ≡ take value rest → HasPart bytes word at end text
part_there bytes word rest text at mid end value w (le, (n, is, line)) small there fits taken = (
  ends_at,
  omega (arith, long, ap length there, length-drop end bytes),
  w.2 ∙ ap (λ l. word ++ l) (line ∙ ap₂ (λ a b. a ++ b) (ap number_line (sym as_long)) behind) ∙ regroup word (number_line (length text)) text (drop (end + length text) bytes),
)
  where
    long : length text ≡ value
    long = omega (arith, ap length taken, length-take value rest)

    as_long : length text ≡ n
    as_long = omega (arith, long, ap length there, length-drop end bytes)

    behind : drop end bytes ≡ text ++ drop (end + length text) bytes
    behind =
        sym there ∙ sym (take-append-drop value rest)
        ∙ ap₂ (λ a b. a ++ b) (sym taken) (ap (drop value) there ∙ drop-drop value end bytes ∙ ap (λ (k : ℕ). drop (end + k) bytes) (sym long))

    ends_at : end ≡ at + length (word ++ number_line (length text))
    ends_at =
        omega (arith, w.0, ends bytes (number_line n) mid end w.1 le line, ap (λ k. length (number_line k)) as_long, length-append word (number_line (length text)))

    regroup : (a b c d : List ℕ) → a ++ (b ++ (c ++ d)) ≡ a ++ b ++ c ++ d
    regroup a b c d = simp append_assoc

-- the text is cut short
pub part_short : (bytes word rest : List ℕ) (at mid end value : ℕ) → HasWord bytes word at mid → HasLength bytes mid value end →
    rest ≡ drop end bytes → length rest < value → IsCut (IsPart word) (drop at bytes)
part_short bytes word rest at mid end value w (le, (n, is, line)) there short =
    fault_second (IsPart word) (Is word) (λ a. IsSized) (part word) at mid word (drop mid bytes) (drop at bytes) Short refl w.0 w.2
    (fault_second IsSized IsNumberLine IsSizedBy sized mid end (number_line n) (drop end bytes) (drop mid bytes) Short (n, refl) (ends bytes (number_line n) mid end w.1 le line) line
    (text_short n (drop end bytes) (omega (arith, ap length there))))

-- the line of the length has a fault
pub part_fault : (bytes word : List ℕ) (at mid : ℕ) (f : FrameFault) → HasWord bytes word at mid → IsFaultOf IsNumberLine mid (drop mid bytes) f → IsFaultOf (IsPart word) at (drop at bytes) f
part_fault bytes word at mid f w fault =
    fault_second (IsPart word) (Is word) (λ a. IsSized) (part word) at mid word (drop mid bytes) (drop at bytes) f refl w.0 w.2
    (fault_first IsSized IsNumberLine IsSizedBy sized mid (drop mid bytes) f fault)

-- what has a fault behind a part has one there
pub behind_part : (W Next : List ℕ → Type 0) (word : List ℕ) → Joined W (IsPart word) (λ a. Next) → (bytes text : List ℕ) (at start next : ℕ) (f : FrameFault) →
    HasPart bytes word at start text → next ≡ start + length text → IsFaultOf Next next (drop next bytes) f → IsFaultOf W at (drop at bytes) f
behind_part W Next word j bytes text at start next f p is fault =
    fault_second W (IsPart word) (λ a. Next) j at next (part_of word text) (drop next bytes) (drop at bytes) f (text, refl)
    (omega (arith, p.0, length-append (word ++ number_line (length text)) text))
    (p.2 ∙ ap (λ (n : ℕ). part_of word text ++ drop n bytes) (sym is)) fault

-- faults of a file, from its parts on

pub from_old : (bytes : List ℕ) (form : Format) (at : ℕ) (f : FrameFault) → HasWord bytes (head form) 0 at → IsFaultOf IsFromOld at (drop at bytes) f → IsFault bytes f
from_old bytes form at f w fault =
    file_fault bytes f (fault_second IsFile IsHead (λ a. IsFromOld) file_joined 0 at (head form) (drop at bytes) bytes f (form, refl) w.0 w.2 fault)

pub from_new : (bytes : List ℕ) (form : Format) (old : List ℕ) (at start next : ℕ) (f : FrameFault) → HasWord bytes (head form) 0 at → HasPart bytes (codes "old ") at start old → next ≡ start + length old → IsFaultOf IsFromNew next (drop next bytes) f → IsFault bytes f
from_new bytes form old at start next f w p is fault = from_old bytes form at f w (behind_part IsFromOld IsFromNew (codes "old ") old_joined bytes old at start next f p is fault)

-- what stands before the map
pub record ToMap (bytes : List ℕ) (form : Format) (at : ℕ) (old : List ℕ) (old_at next : ℕ) (new : List ℕ) (new_at behind : ℕ) : Type 0 where
  pub opening : HasWord bytes (head form) 0 at
  pub first : HasPart bytes (codes "old ") at old_at old
  pub first_end : next ≡ old_at + length old
  pub second : HasPart bytes (codes "new ") next new_at new
  pub second_end : behind ≡ new_at + length new

pub from_map : (bytes : List ℕ) (form : Format) (at : ℕ) (old : List ℕ) (old_at next : ℕ) (new : List ℕ) (new_at behind : ℕ) (f : FrameFault) → ToMap bytes form at old old_at next new new_at behind → IsFaultOf IsFromMap behind (drop behind bytes) f → IsFault bytes f
from_map bytes form at old old_at next new new_at behind f to fault =
    from_new bytes form old at old_at next f to.opening to.first to.first_end (behind_part IsFromNew IsFromMap (codes "new ") new_joined bytes new next new_at behind f to.second to.second_end fault)

pub from_end : (bytes : List ℕ) (form : Format) (at : ℕ) (old : List ℕ) (old_at next : ℕ) (new : List ℕ) (new_at behind : ℕ) (map : List ℕ) (map_at last : ℕ) (f : FrameFault) → ToMap bytes form at old old_at next new new_at behind → HasPart bytes (codes "map ") behind map_at map → last ≡ map_at + length map → IsFaultOf IsFromEnd last (drop last bytes) f → IsFault bytes f
from_end bytes form at old old_at next new new_at behind map map_at last f to p is fault =
    from_map bytes form at old old_at next new new_at behind f to (behind_part IsFromMap IsFromEnd (codes "map ") map_joined bytes map behind map_at last f p is fault)

-- the whole file

regroup : (o a b c e r : List ℕ) → o ++ (a ++ (b ++ (c ++ (e ++ r)))) ≡ (o ++ (a ++ (b ++ (c ++ e)))) ++ r
regroup o a b c e r = simp append_assoc

pub file_there : (bytes : List ℕ) (form : Format) (at : ℕ) (old : List ℕ) (old_at next : ℕ) (new : List ℕ) (new_at behind : ℕ) (map : List ℕ) (map_at last end : ℕ) → ToMap bytes form at old old_at next new new_at behind → HasPart bytes (codes "map ") behind map_at map → last ≡ map_at + length map → HasWord bytes (codes "end\n") last end → bytes ≡ framed form old new map ++ drop end bytes
file_there bytes form at old old_at next new new_at behind map map_at last end to p is w =
    to.opening.2
    ∙ ap (λ l. head form ++ l) (to.first.2 ∙ ap (λ (n : ℕ). part_of (codes "old ") old ++ drop n bytes) (sym to.first_end)
    ∙ ap (λ l. part_of (codes "old ") old ++ l) (to.second.2 ∙ ap (λ (n : ℕ). part_of (codes "new ") new ++ drop n bytes) (sym to.second_end)
    ∙ ap (λ l. part_of (codes "new ") new ++ l) (p.2 ∙ ap (λ (n : ℕ). part_of (codes "map ") map ++ drop n bytes) (sym is)
    ∙ ap (λ l. part_of (codes "map ") map ++ l) w.2)))
    ∙ regroup (head form) (part_of (codes "old ") old) (part_of (codes "new ") new) (part_of (codes "map ") map) (codes "end\n") (drop end bytes)
    ∙ ap (λ l. l ++ drop end bytes) (sym (framed_parts form old new map))

pub bad_behind : (bytes : List ℕ) (form : Format) (old new map : List ℕ) (end : ℕ) → bytes ≡ framed form old new map ++ drop end bytes → end < length bytes → IsBadAt end bytes
bad_behind bytes form old new map end whole lt =
    let file = framed form old new map in
    let is : length file ≡ end = sym (ends bytes file 0 end (omega arith) (omega arith) whole ∙ zero-add (length file)) in
    subst (λ (n : ℕ). IsBadAt n bytes) is
    (behind_file bytes file (drop end bytes) (file_from_framing file (form, (old, (new, (map, refl))))) whole (omega (arith, length-drop end bytes)))

-- where a text begins
begins_at : (front word line : List ℕ) → length (front ++ word ++ line) ≡ length front + length (word ++ line)
begins_at front word line = omega (arith, length-append (front ++ word) line, length-append front word, length-append word line)

-- where a text behind another begins
next_at : (front text word line : List ℕ) → length (front ++ text ++ word ++ line) ≡ length front + length text + length (word ++ line)
next_at front text word line = omega (arith, begins_at (front ++ text) word line, length-append front text)

pub frame_there : (bytes : List ℕ) (at next behind last end : ℕ) (f : Frame) → ToMap bytes f.format at f.old.text.now f.old.at next f.new.text.now f.new.at behind → HasPart bytes (codes "map ") behind f.map.at f.map.text.now → last ≡ f.map.at + length f.map.text.now → HasWord bytes (codes "end\n") last end → length bytes ≤ end → IsFrame bytes f
frame_there bytes at next behind last end f to p is w ge =
    let form = f.format in
    let old = f.old.text.now in
    let new = f.new.text.now in
    let map = f.map.text.now in
    let olds : f.old.at ≡ length (before_old form old) = to.first.0 ∙ ap (λ (n : ℕ). n + length (codes "old " ++ number_line (length old))) to.opening.0 ∙ sym (begins_at (head form) (codes "old ") (number_line (length old))) in
    let news : f.new.at ≡ length (before_new form old new) = to.second.0 ∙ ap (λ (n : ℕ). n + length (codes "new " ++ number_line (length new))) (to.first_end ∙ ap (λ (n : ℕ). n + length old) olds) ∙ sym (next_at (before_old form old) old (codes "new ") (number_line (length new))) in
    let maps : f.map.at ≡ length (before_map form old new map) = p.0 ∙ ap (λ (n : ℕ). n + length (codes "map " ++ number_line (length map))) (to.second_end ∙ ap (λ (n : ℕ). n + length new) news) ∙ sym (next_at (before_new form old new) new (codes "map ") (number_line (length map))) in
    record {
      whole = file_there bytes form at old f.old.at next new f.new.at behind map f.map.at last end to p is w ∙ ap (λ l. framed form old new map ++ l) (drop_all end bytes ge) ∙ append-nil (framed form old new map);
      old = olds;
      new = news;
      map = maps;
    }
