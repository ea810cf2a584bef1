-- The three texts of a load are accepted.
use Rattle.std.proofs.Common.{ℕ, List, sym, subst}
use Rattle.c_tree.specs.declared.lifted.Lifted.{Lifted}
use Rattle.c_source.specs.Source.{IsAccepted}
use Rattle.c_reader.specs.Spelling.{CanBeSpelt}
use Rattle.c_reader.proofs.Spelling.{liftings_spelt}
use Rattle.load_texts.specs.Texts.{old_source, new_source}
use Rattle.load_laws.specs.Laws.{LoadsAreAccepted}
use Rattle.load_laws.proofs.Programs.{old_program, new_program}
use Rattle.load_laws.proofs.Accepted.{old_is_accepted, new_is_accepted}
use Rattle.load_laws.proofs.MappingEntries.{load_entries}
use Rattle.load_laws.proofs.MappingSound.{mapping_accepted}

can_be_spelt : (source : List ℕ) (p : Lifted) → IsAccepted source p → CanBeSpelt p
can_be_spelt source p a = subst CanBeSpelt (sym a.lifted) (liftings_spelt source a.tree a.read a.small)

pub law : LoadsAreAccepted
law n some small =
    let old = old_is_accepted n some small in
    let new = new_is_accepted n some small in
    let found = mapping_accepted n (can_be_spelt (old_source n) (old_program n) old) (can_be_spelt (new_source n) (new_program n) new) some small in
    record {
      old = old_program n;
      new = new_program n;
      entries = found.0;
      lifted = load_entries n;
      old_accepted = old;
      new_accepted = new;
      read = found.1;
      sound = found.2;
    }
