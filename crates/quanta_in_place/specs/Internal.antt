-- What the private functions promise to each other: the words of a month where a quantum opens or is forgotten.
use Rattle.std.specs.Prelude.{ℕ, ◌+◌, ◌*◌, List, [], ◌∷◌, ◌++◌, get_or, drop}
use Rattle.rules.specs.Changes.{following}
use Rattle.lent.specs.Words.{low, high}
use Rattle.quantum.specs.declared.Quantum.{Quantum}
use Rattle.quantum.specs.Words.{quantum_words}

-- the count in the words, and with one call more
abbrev pub count_in : List ℕ → ℕ
count_in words = get_or words 4 0 + 4294967296 * get_or words 5 0

abbrev pub count_words : ℕ → List ℕ
count_words count = low (following count) ∷ high (following count) ∷ []

-- the words with four others in front, one call more, and another quantum
abbrev pub restarted : List ℕ → List ℕ → Quantum → List ℕ
restarted words four q = four ++ (count_words (count_in words) ++ (quantum_words q ++ drop 604 words))
