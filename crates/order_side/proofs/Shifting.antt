-- A column while what stands behind a place moves up to it, one word at a time.
use Prim.Native.Nat.{ℕ, suc, ◌+◌, ◌-◌, ◌≤◌, ◌<◌}
use mathlib.Core.Path.{◌≡◌, ap, sym, ◌∙◌}
use mathlib.Core.List.{List, [], ◌∷◌, ◌++◌, append_assoc, append-nil}
use native.Mathlib.Omega.{arith}
use lib.ListN.{length, take, drop, set, get_or, length-append, length-take, length-drop, take-append-drop}
use lib.Seq.{take-suc, drop-cons, set_at, get_or-drop, get_or-append-add}
use Rattle.order_side.specs.Internal.{shifted}

-- those before i, of which the ones behind the place have moved up by one
unfoldable pub moved : ℕ → ℕ → List ℕ → List ℕ
moved place i xs = take place xs ++ take (i - place) (drop (suc place) xs)

unfoldable pub partly : ℕ → ℕ → List ℕ → List ℕ
partly place i xs = moved place i xs ++ drop i xs

module _ (place i : ℕ) (xs : List ℕ) (h : place ≤ i) (k : i < length xs) where
  moved_length : length (moved place i xs) ≡ i
  unfolding moved
  moved_length =
      omega (
        arith,
        length-append (take place xs) (take (i - place) (drop (suc place) xs)),
        length-take place xs,
        length-take (i - place) (drop (suc place) xs),
        length-drop (suc place) xs,
      )

  -- what was not reached yet is as it was
  partly-at : (j : ℕ) → i ≤ j → get_or (partly place i xs) j 0 ≡ get_or xs j 0
  unfolding partly
  partly-at j l =
      let e : j ≡ length (moved place i xs) + (j - i) = omega (arith, moved_length) in
      let f : i + (j - i) ≡ j = omega arith in
      ap (λ (n : ℕ). get_or (moved place i xs ++ drop i xs) n 0) e
      ∙ get_or-append-add (moved place i xs) (drop i xs) (j - i) 0
      ∙ get_or-drop i xs (j - i) 0
      ∙ ap (λ (n : ℕ). get_or xs n 0) f

  -- a store at i
  partly-set : (v : ℕ) → set (partly place i xs) i v ≡ moved place i xs ++ (v ∷ drop (suc i) xs)
  unfolding partly
  partly-set v =
      ap (λ (l : List ℕ). set (moved place i xs ++ l) i v) (drop-cons xs i 0 k)
      ∙ set_at (moved place i xs) (get_or xs i 0) (drop (suc i) xs) v i moved_length

  -- the next one moves up
  moved_more : suc i < length xs → moved place (suc i) xs ≡ moved place i xs ++ (get_or xs (suc i) 0 ∷ [])
  unfolding moved
  moved_more l =
      let e : suc i - place ≡ suc (i - place) = omega arith in
      let f : suc place + (i - place) ≡ suc i = omega arith in
      let long : i - place < length (drop (suc place) xs) = omega (arith, length-drop (suc place) xs) in
      ap (λ (n : ℕ). take place xs ++ take n (drop (suc place) xs)) e
      ∙ ap (λ (r : List ℕ). take place xs ++ r) (take-suc (drop (suc place) xs) (i - place) 0 long)
      ∙ ap (λ (v : ℕ). take place xs ++ (take (i - place) (drop (suc place) xs) ++ (v ∷ [])))
      (get_or-drop (suc place) xs (i - place) 0 ∙ ap (λ (n : ℕ). get_or xs n 0) f)
      ∙ sym (append_assoc (take place xs) (take (i - place) (drop (suc place) xs)) (get_or xs (suc i) 0 ∷ []))

  partly_more : suc i < length xs → set (partly place i xs) i (get_or xs (suc i) 0) ≡ partly place (suc i) xs
  unfolding partly
  partly_more l =
      partly-set (get_or xs (suc i) 0)
      ∙ sym (append_assoc (moved place i xs) (get_or xs (suc i) 0 ∷ []) (drop (suc i) xs))
      ∙ ap (λ (r : List ℕ). r ++ drop (suc i) xs) (sym (moved_more l))

-- before the first turn
pub partly_none : (place : ℕ) (xs : List ℕ) → xs ≡ partly place place xs
unfolding partly moved
partly_none place xs =
    let e : place - place ≡ 0 = omega arith in
    sym (take-append-drop place xs)
    ∙ ap (λ (l : List ℕ). l ++ drop place xs) (sym (append-nil (take place xs)))
    ∙ ap (λ (n : ℕ). (take place xs ++ take n (drop (suc place) xs)) ++ drop place xs) (sym e)

-- a turn
pub partly-next : (place i : ℕ) (before xs : List ℕ) → xs ≡ partly place i before → place ≤ i → i + 1 < length before
    → set xs i (get_or xs (i + 1) 0) ≡ partly place (i + 1) before
partly-next place i before xs e h k =
    let n : i + 1 ≡ suc i = omega arith in
    let at : get_or xs (i + 1) 0 ≡ get_or before (suc i) 0 =
    ap (λ (l : List ℕ). get_or l (i + 1) 0) e
    ∙ partly-at place i before h (omega arith) (i + 1) (omega arith)
    ∙ ap (λ (m : ℕ). get_or before m 0) n in
    ap (λ (l : List ℕ). set l i (get_or xs (i + 1) 0)) e
    ∙ ap (set (partly place i before) i) at
    ∙ partly_more place i before h (omega arith) (omega arith)
    ∙ ap (λ (m : ℕ). partly place m before) (sym n)

-- the last store
pub partly-all : (place last : ℕ) (before xs : List ℕ) → xs ≡ partly place last before → place ≤ last → last < length before
    → set xs last 0 ≡ shifted before place last
unfolding moved
partly-all place last before xs e h k =
    ap (λ (l : List ℕ). set l last 0) e
    ∙ partly-set place last before h k 0
    ∙ append_assoc (take place before) (take (last - place) (drop (suc place) before)) (0 ∷ drop (suc last) before)
