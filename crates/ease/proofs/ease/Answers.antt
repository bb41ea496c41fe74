-- The words are set where they are read as a row, by the row that was read.
use Rattle.std.proofs.Common.{Ok, Result}
use native.Mathlib.Omega.{arith}
use mathlib.Core.Path.{◌≡◌, sym, ap, ◌∙◌}
use lib.ListN.{length-set}
use Rattle.rules.specs.declared.Refusal.{Refusal}
use Rattle.rules.specs.Terms.{paper}
use Rattle.rules.specs.Answers.{accepted, shown_row}
use Rattle.rules.specs.Causes.{read_row}
use Rattle.ease.proofs.Words.{was_read, eased_words, not_eased}
use mathlib.Core.List.{List}
use Prim.Native.Nat.{ℕ}
use Rattle.rules.specs.declared.Row.{Row}
use Rattle.rules.specs.declared.SpreadRule.{SpreadRule}
use Rattle.ease.proofs.ease.Goals as goal

-- the words are read as the row
was : (spread : SpreadRule) (words : List ℕ) (r : Row) (read : Result Row Refusal) → read ≡ Ok r → shown_row read ≡ read_row paper spread words → accepted r ≡ read_row paper spread words
was spread words r read e h = sym (ap shown_row e) ∙ h

pub returns-in_default : goal.returns-in_default
returns-in_default c =
    let a = c.args in
    not_eased a.spread a.words.now _ (sym (ap shown_row c.in_default.is) ∙ c.read-read.ensures)

pub bounds-words-3 : goal.bounds-words-3
bounds-words-3 c =
    omega (arith, (was_read _ _ _ (was c.args.spread c.args.words.now c.in-Ok.row c.read-read.result c.in-Ok.is c.read-read.ensures)).seven)

pub bounds-words-4 : goal.bounds-words-4
bounds-words-4 c =
    simp length-set (omega (arith, (was_read _ _ _ (was c.args.spread c.args.words.now c.in-Ok.row c.read-read.result c.in-Ok.is c.read-read.ensures)).seven))

pub bounds-words-5 : goal.bounds-words-5
bounds-words-5 c =
    simp length-set (omega (arith, (was_read _ _ _ (was c.args.spread c.args.words.now c.in-Ok.row c.read-read.result c.in-Ok.is c.read-read.ensures)).seven))

pub returns : goal.returns
returns c =
    let a = c.args in
    eased_words a.spread a.words.now _ (was c.args.spread c.args.words.now c.in-Ok.row c.read-read.result c.in-Ok.is c.read-read.ensures) c.half-m.result c.double-a.result c.double-b.result
    c.half-m.ensures c.double-a.ensures c.double-b.ensures
