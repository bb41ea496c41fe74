-- A slice that is filled from its front by a function of the place.
use Prim.Native.Nat.{ℕ, suc, ◌+◌, ◌≤◌, ◌<◌}
use native.Mathlib.Omega.{arith}
use native.Mathlib.Numerals.{add-one}
use mathlib.Core.Path.{◌≡◌, refl, sym, ap, ◌∙◌}
use mathlib.Core.List.{List, ◌++◌, map, append-nil}
use lib.ListN.{length, drop, set, length-append, length-drop}
use lib.Seq.{append_snoc, drop-cons, drop-length, set_at}
use Rattle.lists.specs.Lists.{below}
use Rattle.words.proofs.Places.{places_length, places_more}

module _ {A : Type 0} (f : ℕ → A) where
  -- the front is filled as far as i, and the rest is as it was
  abbrev pub filled : List A → ℕ → List A
  filled l i = map f (below i) ++ drop i l

  pub none_filled : (l : List A) → l ≡ filled l 0
  unfolding below
  none_filled l = refl

  one-filled : (d : A) (l : List A) (i : ℕ) → i < length l → set (filled l i) i (f i) ≡ filled l (i + 1)
  one-filled d l i h =
      ap (λ (r : List A). set (map f (below i) ++ r) i (f i)) (drop-cons l i d h)
      ∙ set_at (map f (below i)) _ (drop (suc i) l) (f i) i (places_length f i)
      ∙ sym (ap (λ (k : ℕ). filled l k) (add-one i) ∙ ap (λ (m : List A). m ++ drop (suc i) l) (places_more f i) ∙ append_snoc (map f (below i)) (f i) (drop (suc i) l))

  -- a turn of the loop
  pub one_more : (d : A) (l now : List A) (i : ℕ) (x : A) → i < length l → now ≡ filled l i → x ≡ f i → set now i x ≡ filled l (i + 1)
  one_more d l now i x h e v =
      ap (λ (m : List A). set m i x) e ∙ ap (λ (y : A). set (filled l i) i y) v ∙ one-filled d l i h

  pub all-filled : (l : List A) (n : ℕ) → n ≡ length l → filled l n ≡ map f (below (length l))
  all-filled l n e =
      ap (λ (k : ℕ). filled l k) e ∙ ap (λ (r : List A). map f (below (length l)) ++ r) (drop-length l) ∙ append-nil (map f (below (length l)))

  pub filled-length : (l : List A) (i : ℕ) → i ≤ length l → length (filled l i) ≡ length l
  filled-length l i h = length-append (map f (below i)) (drop i l) ∙ omega (arith, places_length f i, length-drop i l)
