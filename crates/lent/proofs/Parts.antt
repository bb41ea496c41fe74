-- Words stored one by one, copied, and lent in part.
use Prim.Native.Nat.{ℕ, ◌+◌, ◌<◌}
use native.Mathlib.Numerals.{add-one}
use native.Mathlib.Omega.{arith}
use mathlib.Core.Path.{◌≡◌, sym, ap, ◌∙◌}
use mathlib.Core.List.{List, [], ◌∷◌, ◌++◌, append_assoc}
use lib.ListN.{length, get_or, take, drop, set}
use lib.Seq.{take-suc-set, take-suc, take_all, take_at, drop_at}

-- a turn of a copy
pub copied_on : (d s : List ℕ) (i : ℕ) → length d ≡ length s → i < length s → take i d ≡ take i s → take (i + 1) (set d i (get_or s i 0)) ≡ take (i + 1) s
copied_on d s i e h k =
    ap (λ (n : ℕ). take n (set d i (get_or s i 0))) (add-one i)
    ∙ take-suc-set d i (get_or s i 0) (omega arith)
    ∙ ap (λ (l : List ℕ). l ++ (get_or s i 0 ∷ [])) k
    ∙ sym (take-suc s i 0 h)
    ∙ ap (λ (n : ℕ). take n s) (sym (add-one i))

pub copied_all : {A : Type 0} (d s : List A) (i : ℕ) → length d ≡ length s → i ≡ length s → take i d ≡ take i s → d ≡ s
copied_all d s i e h k = sym (take_all i d (omega arith)) ∙ k ∙ take_all i s (omega arith)

-- a part put after those in front of it
pub next-part : (ws front rest part : List ℕ) (a k : ℕ) → ws ≡ front ++ rest → length front ≡ a
    → take a ws ++ (part ++ drop k (drop a ws)) ≡ (front ++ part) ++ drop k rest
next-part ws front rest part a k e h =
    (λ i. take a (e i) ++ (part ++ drop k (drop a (e i))))
    ∙ (λ i. take_at front rest a h i ++ (part ++ drop k (drop_at front rest a h i)))
    ∙ sym (append_assoc front part (drop k rest))

-- a part read after those in front of it
pub part_in : (ws front part rest : List ℕ) (a k : ℕ) → ws ≡ front ++ (part ++ rest) → length front ≡ a → length part ≡ k → take k (drop a ws) ≡ part
part_in ws front part rest a k e h l =
    (λ i. take k (drop a (e i))) ∙ ap (take k) (drop_at front (part ++ rest) a h) ∙ take_at part rest k l
