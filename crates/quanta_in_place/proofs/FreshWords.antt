-- The words of the fresh month.
use Prim.Native.Nat.{ℕ}
use mathlib.Core.Path.{◌≡◌, refl, ap, ◌∙◌}
use mathlib.Core.List.{List, [], ◌++◌}
use lib.ListN.{length, take, drop, replicate}
use Rattle.lent.specs.Words.{flag_word, low, high, cell_words, cells_words}
use Rattle.rules.specs.Book.{run, after}
use Rattle.rules.specs.Calls.{Idle, fresh_book}
use Rattle.quantum.specs.Represents.{quantum_in}
use Rattle.quantum.specs.Words.{quantum_words}
use Rattle.month.specs.Represents.{month_of}
use Rattle.month.specs.Words.{month_words, words_after}

zeros : take 6 (replicate 2464 0) ++ (quantum_words (quantum_in Idle) ++ drop 598 (drop 6 (replicate 2464 0))) ≡ words_after []
unfolding month_words month_of after run fresh_book cell_words cells_words
zeros = refl

pub fresh_words : (base part : List ℕ) (n : ℕ) → n ≡ 2464 → base ≡ replicate n 0 → part ≡ quantum_words (quantum_in Idle)
    → take 6 base ++ (part ++ drop 598 (drop 6 base)) ≡ words_after []
fresh_words base part n long e p =
    let b : base ≡ replicate 2464 0 = e ∙ ap (λ (k : ℕ). replicate k 0) long in
    (λ i. take 6 (b i) ++ (p i ++ drop 598 (drop 6 (b i)))) ∙ zeros
