-- The row's first two words are the table's at 7 * k and after it.
use Prim.Native.Nat.{ℕ, ◌+◌, ◌*◌, ◌<◌}
use mathlib.Core.Path.{◌≡◌, ap, ◌∙◌}
use mathlib.Core.List.{List}
use mathlib.Core.Bool.{◌&&◌}
use native.Mathlib.Omega.{arith}
use lib.Dec.{eqb}
use lib.ListN.{get_or, drop}
use lib.Seq.{get_or-take, get_or-drop}
use Rattle.rules.specs.Choosing.{row_words, is_for}
use Rattle.row.proofs.is_for.Goals as goal

-- The row's first two words are the table's at 7 * k and after it.
word : (table : List ℕ) (k i at : ℕ) → 7 * k + i ≡ at → i < 7 → get_or (row_words table k) i 0 ≡ get_or table at 0
word table k i at e h =
    get_or-take 7 (drop (7 * k) table) i 0 h ∙ get_or-drop (7 * k) table i 0 ∙ ap (λ (j : ℕ). get_or table j 0) e

compared : (expiry quantum : ℕ) (table : List ℕ) (k : ℕ)
    → eqb (get_or table (7 * k) 0) expiry && eqb (get_or table (7 * k + 1) 0) quantum ≡ is_for expiry quantum (row_words table k)
compared expiry quantum table k =
    simp (word table k 0 (7 * k) (omega arith) (omega arith), word table k 1 (7 * k + 1) (omega arith) (omega arith))

pub returns : goal.returns
returns c =
    let a = c.args in
    compared a.expiry a.quantum a.table.now a.k
