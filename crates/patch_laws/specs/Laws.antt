-- What holds of the entries of a mapping: their causes, and what they are once they are lifted and in order.
use Rattle.std.specs.Prelude.{◌≡◌, true, List, map, is_some, None, Ok}
use Rattle.c_tree.specs.declared.lifted.Lifted.{Lifted}
use Rattle.c_tree.specs.declared.mapping.Entry.{Entry}
use Rattle.c_tree.specs.declared.mapping.LEntry.{LEntry}
use Rattle.c_tree.specs.declared.mapping.Mapping.{Mapping}
use Rattle.c_tree.specs.Link.{Link}
use Rattle.c_tree.specs.Entries.{by_numbers, least_cause, sound_entry, lifted_entries}
use Rattle.c_tree.specs.Canonical.{canonical}
use Rattle.c_tree.specs.Sound.{Sound}
use Rattle.c_tree.specs.MapForm.{HasMapForm}
use Rattle.c_tree.specs.Chain.{chain}

-- where the causes of an entry are asked in ascending order, the first that is found is the least of all that hold, and an entry that passes is the one by numbers
abbrev pub CausesAreAskedInOrder : Type 0
CausesAreAskedInOrder = (k : Link) (earlier : List Entry) (x : Entry) → chain k earlier x ≡ sound_entry k earlier x

-- an entry of which no cause holds has numbers
abbrev pub SoundEntriesHaveNumbers : Type 0
SoundEntriesHaveNumbers = (k : Link) (earlier : List Entry) (x : Entry) → least_cause k earlier x ≡ None → is_some (by_numbers k x) ≡ true

-- where all entries of a mapping that was read lift, they are sound in their canonical order
abbrev pub LiftedEntriesAreSound : Type 0
LiftedEntriesAreSound =
    (old new : Lifted) (m : Mapping) (es : List LEntry) → HasMapForm m → lifted_entries old new (map (λ x. x.it) m.entries) ≡ Ok es → Sound old new (canonical es)

-- the canonical order of entries in canonical order is the same
abbrev pub CanonicalIsKept : Type 0
CanonicalIsKept = (es : List LEntry) → canonical (canonical es) ≡ canonical es
