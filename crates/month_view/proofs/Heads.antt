-- The words in front of the orders', written in three parts.
use Prim.Native.Nat.{ℕ}
use native.Mathlib.Omega.{arith}
use mathlib.Core.Path.{◌≡◌, refl, ap, ◌∙◌}
use mathlib.Core.List.{List, ◌++◌, append_assoc, append-nil}
use lib.ListN.{length, take, drop, length-append, length-drop, drop_of_length-le}
use Rattle.lent.proofs.Parts.{next-part}

-- the words with the first part, and with the second
abbrev pub one : List ℕ → List ℕ → List ℕ
one ws first = first ++ drop 1 ws

abbrev pub two : List ℕ → List ℕ → List ℕ → List ℕ
two ws first middle = take 1 (one ws first) ++ (middle ++ drop 12 (drop 1 (one ws first)))

pub head-laid : (ws first middle last : List ℕ) → length ws ≡ 17 → length first ≡ 1 → length middle ≡ 12
    → take 13 (two ws first middle) ++ (last ++ drop 4 (drop 13 (two ws first middle))) ≡ first ++ (middle ++ last)
head-laid ws first middle last size f m =
    next-part (two ws first middle) (first ++ middle) (drop 12 (drop 1 ws)) last 13 4 two_is (length-append first middle ∙ omega arith)
    ∙ ap (λ (l : List ℕ). ((first ++ middle) ++ last) ++ l)
    (drop_of_length-le (drop 12 (drop 1 ws)) {i = 4} (omega (arith, size, length-drop 12 (drop 1 ws), length-drop 1 ws)))
    ∙ append-nil ((first ++ middle) ++ last)
    ∙ append_assoc first middle last
  where
    two_is : two ws first middle ≡ (first ++ middle) ++ drop 12 (drop 1 ws)
    two_is = next-part (one ws first) first (drop 1 ws) middle 1 12 refl f
