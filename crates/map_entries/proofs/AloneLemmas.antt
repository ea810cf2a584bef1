-- What passes all tests of an entry but the last is the entry beside no others.
use Rattle.std.proofs.Common.{◌≡◌, [], Result, sym, ◌∙◌, ap, subst}
use Rattle.c_tree.specs.declared.cause.EntryCause.{EntryCause}
use Rattle.c_tree.specs.declared.mapping.Entry.{Entry}
use Rattle.c_tree.specs.declared.mapping.LEntry.{LEntry}
use Rattle.c_tree.specs.Link.{Link}
use Rattle.c_tree.specs.Entries.{sound_entry}
use Rattle.c_tree.specs.Chain.{lifted_entry}
use Rattle.patch_laws.proofs.AskedInOrder.{asked_alone}
use Rattle.map_entries.specs.declared.refused.EntryRefused.{EntryRefused}
use Rattle.map_entries.specs.Gives.{Gives}

pub alone : (k : Link) (x y : Entry) (r : Result LEntry EntryRefused) → x ≡ y → Gives r (lifted_entry k y) → Gives r (sound_entry k [] x)
alone k x y r is gives = subst (λ (m : Result LEntry EntryCause). Gives r m) (asked_alone k y ∙ ap (λ z. sound_entry k [] z) (sym is)) gives
