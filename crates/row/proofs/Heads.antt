-- The seven words of a session's leading bytes.
use Prim.Native.Nat.{ℕ}
use mathlib.Core.Path.{◌≡◌}
use mathlib.Core.List.{List, [], ◌∷◌}
use Rattle.lists.specs.Lists.{below}
use Rattle.rules.specs.Records.{word_at}
use Rattle.rules.specs.Session.{leading_words}

pub words_read_lem : (head : List ℕ) {a b c d e f g : ℕ} → a ≡ word_at head 0 → b ≡ word_at head 4 → c ≡ word_at head 8 → d ≡ word_at head 12
    → e ≡ word_at head 16 → f ≡ word_at head 20 → g ≡ word_at head 24 → a ∷ b ∷ c ∷ d ∷ e ∷ f ∷ g ∷ [] ≡ leading_words head
unfolding below
words_read_lem head a b c d e f g = λ i. a i ∷ b i ∷ c i ∷ d i ∷ e i ∷ f i ∷ g i ∷ []
