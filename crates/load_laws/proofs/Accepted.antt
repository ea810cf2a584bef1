-- Both sources are accepted.
use Rattle.std.proofs.Common.{◌≡◌, ℕ, ◌≤◌, Bool, true, false, List, [], ◌∷◌, length, map, None, refl, sym, ap, ◌∙◌, subst, append-nil}
use Rattle.c_tree.specs.declared.program.Program.{Program}
use Rattle.c_tokens.specs.Source.{scan, scan_from, scan_of}
use Rattle.c_grammar.specs.declared.value.Value.TheVariants as value
use Rattle.c_grammar.specs.Effects.{empty}
use Rattle.c_grammar.specs.Pieces.{lexeme_piece}
use Rattle.c_grammar.specs.Reading.{first, later, IsReading}
use Rattle.c_grammar.specs.Rules.{start}
use Rattle.c_grammar.specs.Source.{pieces_of, IsProgramOf}
use Rattle.c_grammar.specs.Values.{no_program}
use Rattle.c_reader.specs.Choices.{choices}
use Rattle.c_reader.proofs.Keeps.{Keeps, done, acts, expands}
use Rattle.c_reader.proofs.Limits.{is_reading}
use Rattle.c_source.specs.Source.{IsAccepted}
use Rattle.load_texts.specs.Texts.{source, old_source, new_source}
use Rattle.load_laws.proofs.Programs.{declared, word, locals, text, tree, program, old_program, new_program}
use Rattle.load_laws.proofs.SourceForm.{items, read}
use Rattle.load_laws.proofs.SourceProgram.{well_typed, keeps_limits, lifts}
use Rattle.load_laws.proofs.SourceTexts.{Section}
use Rattle.load_laws.proofs.SourceSections.{text_is, read_tree, whole_section, short_source}

-- a section that is a whole text is read
section_read : (bytes : List ℕ) (p : Program) → length bytes ≤ 1048576 → Section bytes [] 0 no_program p → IsProgramOf bytes (record p { len = length bytes })
unfolding scan_from
section_read bytes p short s =
    let ls = s.lexemes in
    let values = value.Program p ∷ [] in
    let whole : scan_of bytes ≡ scan ls None = ap scan_of (sym (append-nil bytes)) ∙ (s.gives ∙ ap (λ zs. scan zs None) (append-nil ls)) in
    let end : Keeps choices values items (read p) [] = expands (later first) (done refl) in
    let keeps : Keeps choices values start empty (map lexeme_piece ls) =
    subst (λ ps. Keeps choices values start empty ps) (append-nil (map lexeme_piece ls)) (acts (s.leads values [] end)) in
    record {
      short = short;
      is = record {
        clean = ap (λ z. z.fault) whole;
        read = p;
        reading = subst (λ z. IsReading start (pieces_of z) values) (sym whole) (is_reading start values (map lexeme_piece ls) (refl, (λ k b m. m, tt)) keeps);
        whole = refl;
      };
    }

is_program : (wide : Bool) (n : ℕ) → n ≤ 1000 → IsProgramOf (text wide n) (tree wide n)
is_program wide n small =
    let s = source (declared wide) (word wide) n in
    subst (λ bytes. IsProgramOf bytes (record (read_tree wide n) { len = length bytes })) (sym (text_is wide n))
    (section_read s (read_tree wide n) (short_source wide n small) (whole_section wide n small))

is_accepted : (wide : Bool) (n : ℕ) → 1 ≤ n → n ≤ 1000 → IsAccepted (text wide n) (program (locals wide) (word wide) n)
is_accepted wide n some small = record {
  tree = tree wide n;
  read = is_program wide n small;
  typed = well_typed wide n some small;
  small = keeps_limits wide n some small;
  lifted = lifts wide n some small;
}

pub old_is_accepted : (n : ℕ) → 1 ≤ n → n ≤ 1000 → IsAccepted (old_source n) (old_program n)
old_is_accepted n some small = is_accepted false n some small

pub new_is_accepted : (n : ℕ) → 1 ≤ n → n ≤ 1000 → IsAccepted (new_source n) (new_program n)
new_is_accepted n some small = is_accepted true n some small
