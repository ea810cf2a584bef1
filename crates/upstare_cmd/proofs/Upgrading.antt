-- What is meant by the file of a patch that is upgraded.
use Rattle.std.proofs.Common.{◌≡◌, List, ℕ}
use Rattle.std.specs.Prelude.{Result, Ok, Err, IfOk}
use Rattle.std.specs.declared.alloc.AllocError.{AllocError}
use Rattle.c_tree.specs.declared.mapping.Patch as made
use Rattle.patch_file.specs.Refusal.{IsRefusal}
use Rattle.patch_file.specs.Whole.{IsFileOf, file_of}
use Rattle.patch_file.specs.declared.refused.FileRefused.{FileRefused}
use Rattle.patch_file.specs.declared.refused.FileRefused.TheVariants as bytes
use Rattle.answers.specs.declared.answer.Answer as code
use Rattle.answers.specs.Views as view
use Rattle.upstare_cmd.specs.Meaning.{UpgradeMeans, unread, upgraded}
use Rattle.upstare_cmd.specs.Replies.{patch_written}
use Rattle.upstare_cmd.specs.Views as inner
use Rattle.command_line.specs.Command.{UpgradeWords}

pub of_patch : (words : UpgradeWords) (file : List ℕ) (x : made.Patch) (r : Result code.Answer AllocError) → IsFileOf file x
    → IfOk r (λ a. view.answer a ≡ patch_written words.output (file_of x)) → IfOk r (λ a. UpgradeMeans words file (view.answer a))
of_patch words file x (Ok a) is put = upgraded x is put
of_patch words file x (Err e) is put = tt

pub of_refused : (words : UpgradeWords) (file : List ℕ) (why : FileRefused) (r : Result code.Answer AllocError) → IsRefusal file why
    → IfOk r (λ a. inner.TurnsDownFile words.file why (view.answer a)) → IfOk r (λ a. UpgradeMeans words file (view.answer a))
of_refused words file (bytes.At at why) (Ok a) is down = unread at why is down
of_refused words file (bytes.Memory e) (Ok a) is down = absurd down
of_refused words file why (Err e) is down = tt
