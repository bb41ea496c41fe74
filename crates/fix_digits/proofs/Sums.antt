-- The sum of bytes, modulo 256, as a fold takes it.
use Rattle.std.proofs.Common.{◌≡◌, ℕ, ◌+◌, ◌%◌, ◌<◌, List, [], ◌∷◌, fold, refl, ap, ◌∙◌, add-zero, add_assoc, mod-eq_of_lt, arith}
use native.Mathlib.Nat.{mod-add-mod}
use Rattle.lists.specs.Lists.{sum}

pub fold_sum : (l : List ℕ) (s : ℕ) → s < 256 → fold (λ a x. (a + x) % 256) s l ≡ (s + sum l) % 256
unfolding sum
fold_sum [] s small = rw (add-zero, mod-eq_of_lt small) refl
fold_sum (b ∷ bs) s small =
    fold_sum bs ((s + b) % 256) (omega arith)
    ∙ mod-add-mod (s + b) 256 (sum bs)
    ∙ ap (λ (n : ℕ). n % 256) (add_assoc s b (sum bs))

pub bytes_sum : (l : List ℕ) → fold (λ a x. (a + x) % 256) 0 l ≡ sum l % 256
bytes_sum l = let e : 0 + sum l ≡ sum l = omega arith in fold_sum l 0 (omega arith) ∙ ap (λ (n : ℕ). n % 256) e
