-- Both words of the count with so many more.
use Prim.Native.Nat.{ℕ}
use native.Mathlib.Omega.{arith}
use mathlib.Core.Path.{◌≡◌, refl, ap, ◌∙◌}
use mathlib.Core.List.{List, [], ◌∷◌}
use lib.ListN.{length, set}
use Rattle.rules.specs.Changes.{count_after}
use Rattle.lent.specs.Words.{low, high}
use borrow.Author.Rules.{rules}
use Rattle.records_in_place.proofs.count_on.Goals as goal

-- Both words of the count with so many more.
both-set : (ws : List ℕ) (a b : ℕ) → length ws ≡ 2 → set (set ws 0 a) 1 b ≡ a ∷ b ∷ []
both-set [] a b h = absurd (omega arith)
both-set (x ∷ []) a b h = absurd (omega arith)
both-set (x ∷ y ∷ []) a b h = refl
both-set (x ∷ y ∷ z ∷ ws) a b h = absurd (omega arith)

pub returns : goal.returns
returns c =
    let count = c.counted-count.ensures ∙ ap (count_after c.args.more) c.wide.ensures in
    both-set c.args.words.now c.low.result c.high.result c.requires
    ∙ (λ i. (c.low.ensures ∙ ap low count) i ∷ (c.high.ensures ∙ ap high count) i ∷ [])
