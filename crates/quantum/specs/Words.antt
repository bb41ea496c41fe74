-- An open quantum as 598 words: its duty's three, its clock's five, two zeros, its table's 512, and its notes' 76. That no two quanta have the same
-- words is in proofs/Words.
use Rattle.std.specs.Prelude.{ℕ, ◌≡◌, List, ◌∷◌, ◌++◌, length}
use Rattle.clock.specs.Words.{duty_words, clock_words}
use Rattle.quantum.specs.declared.Quantum.{Quantum}

unfoldable pub quantum_words : Quantum → List ℕ
quantum_words q = duty_words q.duty ++ clock_words q.clock ++ (0 ∷ 0 ∷ (q.table ++ q.notes))

-- a quantum of the struct's lengths: every one that a call handed back is (proofs/Words)
pub record Sized (q : Quantum) : Type 0 where
  pub table : length q.table ≡ 512
  pub notes : length q.notes ≡ 76
