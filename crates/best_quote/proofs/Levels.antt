-- Laws of a side's depth in columns: what a test passes, blanks after the orders, and when a key's level is the best one's.
use Rattle.std.specs.Prelude.{if◌then◌else◌}
use Prim.Native.Nat.{ℕ, zero, suc, ◌+◌, ◌≤◌, ◌<◌, max}
use native.Mathlib.Omega.{arith}
use mathlib.Core.Path.{◌≡◌, refl, sym, ap, ◌∙◌, fun_ext}
use mathlib.Core.Logic.{◌⊎◌, inl, inr}
use mathlib.Core.List.Memᴰ
use mathlib.Core.List.{List, [], ◌∷◌, ◌++◌, Memᴰ}
use mathlib.Core.Bool.{Bool, true, false, ◌||◌, true≢false}
use borrow.Author.Tests.{ltb-true, ltb-false, leb-true, leb-false, eqb-true, eqb-false, lt-ltb, le-leb, lt-leb}
use lib.Dec.{leb, ltb, eqb}
use lib.ListN.{length, replicate}
use lib.Seq.{take-length}
use Rattle.lists.specs.Lists.{sum, filter}
use Rattle.lists.proofs.Lists.{filter-append, kept_in_lem, in_kept, both}
use Rattle.best_quote.specs.Levels.{held, level_at, enough, greatest, best_key, level_of, is_best, found_by}

-- ---- what passes a test

-- a test that passes, of the keys that are there, wherever another does
pub held-le_in : (t u : ℕ → Bool) (ks vs : List ℕ) → ((k : ℕ) → Memᴰ k ks → t k ≡ true → u k ≡ true) → held t ks vs ≤ held u ks vs
unfolding held
held-le_in t u [] vs h = omega arith
held-le_in t u (k ∷ ks) [] h = omega arith
held-le_in t u (k ∷ ks) (v ∷ vs) h = go (t k) (u k) refl refl (held-le_in t u ks vs (λ x m. h x (Memᴰ.tail m)))
  where
    go : (a b : Bool) → t k ≡ a → u k ≡ b → held t ks vs ≤ held u ks vs
        → (if a then v else 0) + held t ks vs ≤ (if b then v else 0) + held u ks vs
    go true true e f l = omega (arith, l)
    go true false e f l = absurd (true≢false (sym (h k (Memᴰ.head refl) e) ∙ f))
    go false true e f l = omega (arith, l)
    go false false e f l = omega (arith, l)

pub held-le : (t u : ℕ → Bool) (ks vs : List ℕ) → ((k : ℕ) → t k ≡ true → u k ≡ true) → held t ks vs ≤ held u ks vs
held-le t u ks vs h = held-le_in t u ks vs (λ k m. h k)

-- at most all the contracts
pub held_most : (t : ℕ → Bool) (ks vs : List ℕ) → held t ks vs ≤ sum vs
unfolding held sum
held_most t [] vs = omega arith
held_most t (k ∷ ks) [] = omega arith
held_most t (k ∷ ks) (v ∷ vs) = go (t k) (held_most t ks vs)
  where
    go : (a : Bool) → held t ks vs ≤ sum vs → (if a then v else 0) + held t ks vs ≤ v + sum vs
    go true l = omega (arith, l)
    go false l = omega (arith, l)

-- where a test holds more than another, some key passes it and not the other
pub held_some : (t u : ℕ → Bool) (ks vs : List ℕ) → held t ks vs < held u ks vs
    → (k : ℕ) × Memᴰ k ks × (u k ≡ true) × (t k ≡ false)
unfolding held
held_some t u [] vs h = absurd (omega (arith, h))
held_some t u (k ∷ ks) [] h = absurd (omega (arith, h))
held_some t u (k ∷ ks) (v ∷ vs) h = go (t k) (u k) refl refl (λ l. held_some t u ks vs l) h
  where
    later : ((x : ℕ) × Memᴰ x ks × (u x ≡ true) × (t x ≡ false)) → (x : ℕ) × Memᴰ x (k ∷ ks) × (u x ≡ true) × (t x ≡ false)
    later r = let (x, m, e, f) = r in (x, Memᴰ.tail m, e, f)

    go : (a b : Bool) → t k ≡ a → u k ≡ b
        → (held t ks vs < held u ks vs → (x : ℕ) × Memᴰ x ks × (u x ≡ true) × (t x ≡ false))
        → (if a then v else 0) + held t ks vs < (if b then v else 0) + held u ks vs
        → (x : ℕ) × Memᴰ x (k ∷ ks) × (u x ≡ true) × (t x ≡ false)
    go true true e f r l = later (r (omega (arith, l)))
    go true false e f r l = later (r (omega (arith, l)))
    go false true e f r l = (k, Memᴰ.head refl, f, e)
    go false false e f r l = later (r (omega (arith, l)))

pub held_none : (ks vs : List ℕ) → held (λ k. false) ks vs ≡ 0
unfolding held
held_none [] vs = refl
held_none (k ∷ ks) [] = refl
held_none (k ∷ ks) (v ∷ vs) = omega (arith, held_none ks vs)

-- a test that is one of two others, never both
held_split : (t u w : ℕ → Bool) → ((k v : ℕ) → (if t k then v else 0) ≡ (if u k then v else 0) + (if w k then v else 0)) → (ks vs : List ℕ)
    → held t ks vs ≡ held u ks vs + held w ks vs
unfolding held
held_split t u w h [] vs = omega arith
held_split t u w h (k ∷ ks) [] = omega arith
held_split t u w h (k ∷ ks) (v ∷ vs) = omega (arith, h k v, held_split t u w h ks vs)

-- at a key or better: better, or at it
pub level_split : (k : ℕ) (ks vs : List ℕ) → held (leb k) ks vs ≡ held (ltb k) ks vs + held (eqb k) ks vs
level_split k ks vs = held_split (leb k) (ltb k) (eqb k) (λ x v. go x v (ltb k x) (eqb k x) refl refl) ks vs
  where
    go : (x v : ℕ) (a b : Bool) → ltb k x ≡ a → eqb k x ≡ b
        → (if leb k x then v else 0) ≡ (if ltb k x then v else 0) + (if eqb k x then v else 0)
    go x v true true e f = absurd (omega (arith, ltb-true k x e, eqb-true k x f))
    go x v true false e f = rw (le-leb k x (omega (arith, ltb-true k x e)), e, f) (omega arith)
    go x v false true e f = rw (le-leb k x (omega (arith, eqb-true k x f)), e, f) (omega arith)
    go x v false false e f = rw (lt-leb k x (omega (arith, ltb-false k x e, eqb-false k x f)), e, f) (omega arith)

-- ---- blanks after the orders

pub held-append : (t : ℕ → Bool) (ks vs ls ws : List ℕ) → length ks ≡ length vs → held t (ks ++ ls) (vs ++ ws) ≡ held t ks vs + held t ls ws
unfolding held
held-append t [] [] ls ws h = omega arith
held-append t [] (v ∷ vs) ls ws h = absurd (omega (arith, h))
held-append t (k ∷ ks) [] ls ws h = absurd (omega (arith, h))
held-append t (k ∷ ks) (v ∷ vs) ls ws h = omega (arith, held-append t ks vs ls ws (omega (arith, h)))

held_zeros : (t : ℕ → Bool) (n : ℕ) → held t (replicate n 0) (replicate n 0) ≡ 0
unfolding held
held_zeros t zero = refl
held_zeros t (suc n) = go (t 0) (held_zeros t n)
  where
    go : (a : Bool) → held t (replicate n 0) (replicate n 0) ≡ 0 → (if a then 0 else 0) + held t (replicate n 0) (replicate n 0) ≡ 0
    go true e = omega (arith, e)
    go false e = omega (arith, e)

pub greatest-append : (xs ys : List ℕ) → greatest (xs ++ ys) ≡ max (greatest xs) (greatest ys)
unfolding greatest
greatest-append [] ys = omega arith
greatest-append (x ∷ xs) ys = omega (arith, greatest-append xs ys)

-- keys of 0 add nothing to the greatest
pub greatest_zeros : (t : ℕ → Bool) (n : ℕ) → greatest (filter t (replicate n 0)) ≡ 0
unfolding greatest filter
greatest_zeros t zero = refl
greatest_zeros t (suc n) = go (t 0) (greatest_zeros t n)
  where
    go : (a : Bool) → greatest (filter t (replicate n 0)) ≡ 0
        → greatest (if a then 0 ∷ filter t (replicate n 0) else filter t (replicate n 0)) ≡ 0
    go true e = omega (arith, e)
    go false e = e

module _ (ks vs : List ℕ) (even : length ks ≡ length vs) (n : ℕ) where
  pub held_blanks : (t : ℕ → Bool) → held t (ks ++ replicate n 0) (vs ++ replicate n 0) ≡ held t ks vs
  held_blanks t = omega (arith, held-append t ks vs (replicate n 0) (replicate n 0) even, held_zeros t n)

  pub level_at_blanks : (k : ℕ) → level_at (ks ++ replicate n 0) (vs ++ replicate n 0) k ≡ level_at ks vs k
  unfolding level_at
  level_at_blanks k = λ i. record { key = k; before = held_blanks (ltb k) i; at = held_blanks (eqb k) i }

  pub enough_blanks : (minimum : ℕ) → enough minimum (ks ++ replicate n 0) (vs ++ replicate n 0) ≡ enough minimum ks vs
  unfolding enough
  enough_blanks minimum = fun_ext (λ k. ap (leb minimum) (held_blanks (leb k)))

  pub best_key_blanks : (minimum : ℕ) → best_key minimum (ks ++ replicate n 0) (vs ++ replicate n 0) ≡ best_key minimum ks vs
  unfolding best_key
  best_key_blanks minimum =
      let t = enough minimum ks vs in
      rw (enough_blanks minimum, filter-append t ks (replicate n 0), greatest-append (filter t ks) (filter t (replicate n 0)), greatest_zeros t n) (omega arith)

  pub level_of_blanks : (minimum : ℕ) → level_of minimum (ks ++ replicate n 0) (vs ++ replicate n 0) ≡ level_of minimum ks vs
  unfolding level_of
  level_of_blanks minimum = rw (best_key_blanks minimum) (level_at_blanks (best_key minimum ks vs))

-- ---- the best key

pub greatest-over : {k : ℕ} {ks : List ℕ} → Memᴰ k ks → k ≤ greatest ks
unfolding greatest
greatest-over {k} (Memᴰ.head {x = x} {xs = xs} e) = omega (arith, e)
greatest-over {k} (Memᴰ.tail {x = x} {xs = xs} m) = omega (arith, greatest-over m)

pub greatest_under : (b : ℕ) (ks : List ℕ) → ((k : ℕ) → Memᴰ k ks → k ≤ b) → greatest ks ≤ b
unfolding greatest
greatest_under b [] h = omega arith
greatest_under b (k ∷ ks) h = omega (arith, h k (Memᴰ.head refl), greatest_under b ks (λ x m. h x (Memᴰ.tail m)))

module _ (minimum : ℕ) (ks vs : List ℕ) where
  -- it is at least every key with enough ..
  best-over : {k : ℕ} → Memᴰ k ks → minimum ≤ held (leb k) ks vs → k ≤ best_key minimum ks vs
  unfolding best_key enough
  best-over {k} m h = greatest-over (in_kept (enough minimum ks vs) m (le-leb minimum (held (leb k) ks vs) h))

  -- .. and at most what is at least all of them
  best_under : (b : ℕ) → ((k : ℕ) → Memᴰ k ks → minimum ≤ held (leb k) ks vs → k ≤ b) → best_key minimum ks vs ≤ b
  unfolding best_key enough
  best_under b h =
      greatest_under b (filter (enough minimum ks vs) ks)
      (λ k m. let r = kept_in_lem (enough minimum ks vs) ks m in h k r.0 (leb-true minimum (held (leb k) ks vs) r.1))

  -- with fewer than `minimum` at better keys, no better key has enough
  best_most : (k : ℕ) → held (ltb k) ks vs < minimum → best_key minimum ks vs ≤ k
  best_most k few = best_under k (λ x m h. go x h (leb x k) refl)
    where
      go : (x : ℕ) → minimum ≤ held (leb x) ks vs → (b : Bool) → leb x k ≡ b → x ≤ k
      go x h true e = leb-true x k e
      go x h false e =
          absurd
          (omega (
            arith,
            few,
            h,
            held-le (leb x) (ltb k) ks vs (λ y f. lt-ltb k y (omega (arith, leb-false x k e, leb-true x y f))),
          ))

  -- with enough at it besides, a key is there that has enough
  best-there : (k : ℕ) → held (ltb k) ks vs < minimum → minimum ≤ held (leb k) ks vs → k ≤ best_key minimum ks vs
  best-there k few h = go (held_some (ltb k) (leb k) ks vs (omega (arith, few, h)))
    where
      go : ((x : ℕ) × Memᴰ x ks × (leb k x ≡ true) × (ltb k x ≡ false)) → k ≤ best_key minimum ks vs
      go r =
          let (x, m, e, f) = r in
          let at : x ≡ k = omega (arith, leb-true k x e, ltb-false k x f) in
          best-over (Memᴰ.cast (sym at) m) h

  -- the level that is best is the best key's
  pub best_level : (k : ℕ) → is_best (level_at ks vs k) minimum ≡ true → best_key minimum ks vs ≡ k
  unfolding is_best level_at
  best_level k h =
      let b = both (ltb (held (ltb k) ks vs) minimum) (eqb k 0 || leb minimum (held (ltb k) ks vs + held (eqb k) ks vs)) h in
      let few = ltb-true (held (ltb k) ks vs) minimum b.0 in
      omega (arith, best_most k few, go few (eqb k 0) refl b.1)
    where
      go : held (ltb k) ks vs < minimum → (z : Bool) → eqb k 0 ≡ z → z || leb minimum (held (ltb k) ks vs + held (eqb k) ks vs) ≡ true
          → k ≤ best_key minimum ks vs
      go few true e f = omega (arith, eqb-true k 0 e)
      go few false e f =
          best-there k few
          (omega (arith, leb-true minimum (held (ltb k) ks vs + held (eqb k) ks vs) f, level_split k ks vs))

  pub level_best : (k : ℕ) → is_best (level_at ks vs k) minimum ≡ true → level_at ks vs k ≡ level_of minimum ks vs
  unfolding level_of
  level_best k h = ap (level_at ks vs) (sym (best_level k h))

-- ---- where the search may start

-- no key is better than k, or one of them is the nearest
pub nearest : (k : ℕ) (ks : List ℕ)
    → ((x : ℕ) → Memᴰ x ks → x ≤ k) ⊎ ((n : ℕ) × Memᴰ n ks × (k < n) × ((x : ℕ) → Memᴰ x ks → k < x → n ≤ x))
nearest k [] = inl (λ x m. absurd (Memᴰ.not-nil m))
nearest k (y ∷ ys) = go (nearest k ys) (ltb k y) refl
  where
    None : List ℕ → Type 0
    None ks = (x : ℕ) → Memᴰ x ks → x ≤ k

    One : List ℕ → Type 0
    One ks = (n : ℕ) × Memᴰ n ks × (k < n) × ((x : ℕ) → Memᴰ x ks → k < x → n ≤ x)

    none : y ≤ k → None ys → (x : ℕ) → Memᴰ x (y ∷ ys) → x ≤ k
    none l h x (Memᴰ.head e) = omega (arith, e, l)
    none l h x (Memᴰ.tail m) = h x m

    alone : None ys → (x : ℕ) → Memᴰ x (y ∷ ys) → k < x → y ≤ x
    alone h x (Memᴰ.head e) l = omega (arith, e)
    alone h x (Memᴰ.tail m) l = absurd (omega (arith, l, h x m))

    one : (n z : ℕ) → ((x : ℕ) → Memᴰ x ys → k < x → n ≤ x) → z ≤ n → (k < y → z ≤ y) → (x : ℕ) → Memᴰ x (y ∷ ys) → k < x → z ≤ x
    one n z h l f x (Memᴰ.head e) g = omega (arith, e, f (omega (arith, e, g)))
    one n z h l f x (Memᴰ.tail m) g = omega (arith, l, h x m g)

    nearer : (n : ℕ) → Memᴰ n ys → k < n → ((x : ℕ) → Memᴰ x ys → k < x → n ≤ x) → k < y → (b : Bool) → leb y n ≡ b → One (y ∷ ys)
    nearer n m l h g true e = (y, Memᴰ.head refl, g, one n y h (leb-true y n e) (λ z. omega arith))
    nearer n m l h g false e = (n, Memᴰ.tail m, l, one n n h (omega arith) (λ z. omega (arith, leb-false y n e)))

    go : None ys ⊎ One ys → (b : Bool) → ltb k y ≡ b → None (y ∷ ys) ⊎ One (y ∷ ys)
    go (inl h) true e = inr (y, Memᴰ.head refl, ltb-true k y e, alone h)
    go (inl h) false e = inl (none (ltb-false k y e) h)
    go (inr (n, m, l, h)) true e = inr (nearer n m l h (ltb-true k y e) (leb y n) refl)
    go (inr (n, m, l, h)) false e = inr (n, Memᴰ.tail m, l, one n n h (omega arith) (λ g. absurd (omega (arith, g, ltb-false k y e))))

module _ (minimum : ℕ) (ks vs : List ℕ) where
  -- with enough at keys better than k, the nearest of them has enough
  pub start_below : (k : ℕ) → 1 ≤ minimum → minimum ≤ held (ltb k) ks vs → k < best_key minimum ks vs
  start_below k some h = go (nearest k ks)
    where
      go : ((x : ℕ) → Memᴰ x ks → x ≤ k) ⊎ ((n : ℕ) × Memᴰ n ks × (k < n) × ((x : ℕ) → Memᴰ x ks → k < x → n ≤ x))
          → k < best_key minimum ks vs
      go (inl none) =
          let (x, m, e, f) = held_some (λ y. false) (ltb k) ks vs (omega (arith, some, h, held_none ks vs)) in
          absurd (omega (arith, none x m, ltb-true k x e))
      go (inr (n, m, l, near)) =
          let at : held (ltb k) ks vs ≤ held (leb n) ks vs = held-le_in (ltb k) (leb n) ks vs (λ x i e. le-leb n x (near x i (ltb-true k x e))) in
          omega (arith, l, best-over minimum ks vs m (omega (arith, h, at)))

  -- the search from a key that the best one is not below finds the best one
  pub found-end : (start : ℕ) → start ≤ best_key minimum ks vs → found_by start minimum ks vs (length ks) ≡ best_key minimum ks vs
  unfolding best_key
  found-end start h = rw (take-length ks) (omega (arith, h))
