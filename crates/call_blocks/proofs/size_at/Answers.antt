-- `call_blocks::size_at` meets its contract: the words of the part that it hands on are those from that place.
use Prim.Native.Nat.{ℕ, ◌*◌}
use mathlib.Core.Path.{refl, subst}
use mathlib.Core.List.{List}
use Rattle.call_blocks.specs.Measures.{SaysSize}
use Rattle.words.proofs.Bytes.{part_words_lem}
use Rattle.call_blocks.proofs.size_at.Goals as goal

pub returns : goal.returns
returns c =
    let a = c.args in
    subst (λ (ws : List ℕ). SaysSize ws c.size.result) (part_words_lem a.bytes.now a.at (4 * a.at) refl) c.size.ensures
