-- The sums of the search that were not enough: they are those of the keys better than what is found, so the most of them is what is
-- before it.
use Rattle.std.specs.Prelude.{if◌then◌else◌}
use Prim.Native.Nat.{ℕ, ◌+◌, ◌-◌, ◌≤◌, ◌<◌, max}
use native.Mathlib.Omega.{arith}
use native.Mathlib.Numerals.{add-one}
use mathlib.Core.Path.{◌≡◌, refl, ap, ◌∙◌}
use mathlib.Core.Logic.{◌⊎◌, inl, inr}
use mathlib.Core.List.{List, [], ◌∷◌, ◌++◌, map, Memᴰ}
use mathlib.Core.Bool.{Bool, true, false, not, ◌&&◌}
use borrow.Author.Tests.{ltb-true, leb-true, leb-false, lt-ltb, le-leb}
use lib.Dec.{leb, ltb}
use lib.ListN.{length, get_or, take}
use lib.Seq.{take-suc, take-length}
use Rattle.lists.specs.Lists.{filter}
use Rattle.lists.proofs.Lists.{kept_in_lem, in_kept}
use Rattle.best_quote.specs.Levels.{held, enough, greatest, found_by, short_at, short_by}
use Rattle.best_quote.proofs.Levels.{held-le, held-le_in, held_none, greatest-over, greatest_under, nearest}

-- ---- the most of what a function gives

most_under : (f : ℕ → ℕ) (b : ℕ) (l : List ℕ) → ((k : ℕ) → f k ≤ b) → greatest (map f l) ≤ b
unfolding greatest
most_under f b [] h = omega arith
most_under f b (k ∷ l) h = omega (arith, h k, most_under f b l h)

most_over : (f : ℕ → ℕ) {k : ℕ} {l : List ℕ} → Memᴰ k l → f k ≤ greatest (map f l)
unfolding greatest
most_over f {k} (Memᴰ.head {x = x} {xs = xs} e) = omega (arith, ap f e)
most_over f {k} (Memᴰ.tail {x = x} {xs = xs} m) = omega (arith, most_over f m)

most_append : (f : ℕ → ℕ) (l : List ℕ) (k : ℕ) → greatest (map f (l ++ (k ∷ []))) ≡ max (greatest (map f l)) (f k)
unfolding greatest
most_append f [] k = omega arith
most_append f (x ∷ l) k = omega (arith, most_append f l k)

module _ (start minimum : ℕ) (ks vs : List ℕ) where
  -- a key with too few is better than every one with enough
  few_below : (l : List ℕ) (k : ℕ) → 1 ≤ k → enough minimum ks vs k ≡ false → greatest (filter (enough minimum ks vs) l) < k
  unfolding enough
  few_below l k some e =
      let under = greatest_under (k - 1) (filter (enough minimum ks vs) l) (λ x m. go x (kept_in_lem (enough minimum ks vs) l m).1 (leb k x) refl) in
      omega (arith, under, some)
    where
      go : (x : ℕ) → leb minimum (held (leb x) ks vs) ≡ true → (b : Bool) → leb k x ≡ b → x ≤ k - 1
      go x h true f =
          absurd
          (omega (
            arith,
            leb-true minimum (held (leb x) ks vs) h,
            leb-false minimum (held (leb k) ks vs) e,
            held-le (leb x) (leb k) ks vs (λ y g. le-leb k y (omega (arith, leb-true k x f, leb-true x y g))),
          ))
      go x h false f = omega (arith, leb-false k x f)

  -- ---- one key

  short_by_lem : (k : ℕ) (a b : Bool) → ltb start k ≡ a → enough minimum ks vs k ≡ b
      → short_at start minimum ks vs k ≡ (if a && not b then held (leb k) ks vs else 0)
  unfolding short_at
  short_by_lem k a b e f = λ i. if e i && not (f i) then held (leb k) ks vs else 0

  pub short_enough : (k : ℕ) → enough minimum ks vs k ≡ true → short_at start minimum ks vs k ≡ 0
  short_enough k e = go (ltb start k) refl
    where
      go : (a : Bool) → ltb start k ≡ a → short_at start minimum ks vs k ≡ 0
      go true f = short_by_lem k true true f e
      go false f = short_by_lem k false true f e

  pub short_few : (k : ℕ) → start < k → enough minimum ks vs k ≡ false → short_at start minimum ks vs k ≡ held (leb k) ks vs
  short_few k h e = short_by_lem k true false (lt-ltb start k h) e

  pub short_worse : (i k : ℕ) → k ≤ found_by start minimum ks vs i → short_at start minimum ks vs k ≡ 0
  short_worse i k h = go (ltb start k) (enough minimum ks vs k) refl refl
    where
      go : (a b : Bool) → ltb start k ≡ a → enough minimum ks vs k ≡ b → short_at start minimum ks vs k ≡ 0
      go true false e f =
          let better = ltb-true start k e in
          absurd (omega (arith, h, better, few_below (take i ks) k (omega (arith, better)) f))
      go true true e f = short_by_lem k true true e f
      go false b e f = short_by_lem k false b e f

  -- ---- one step further

  pub short_next : (i : ℕ) → i < length ks
      → short_by start minimum ks vs (i + 1) ≡ max (short_by start minimum ks vs i) (short_at start minimum ks vs (get_or ks i 0))
  short_next i h =
      rw (add-one i)
      (ap (λ (l : List ℕ). greatest (map (short_at start minimum ks vs) l)) (take-suc ks i 0 h)
      ∙ most_append (short_at start minimum ks vs) (take i ks) (get_or ks i 0))

  -- ---- the whole

  over-found : (k : ℕ) (a b : Bool) → ltb start k ≡ a → enough minimum ks vs k ≡ b → short_at start minimum ks vs k ≤ held (ltb (found_by start minimum ks vs (length ks))) ks vs
  over-found k true false e f =
      let better = ltb-true start k e in
      let low = few_below (take (length ks) ks) k (omega (arith, better)) f in
      let above = held-le (leb k) (ltb (found_by start minimum ks vs (length ks))) ks vs (λ y g. lt-ltb (found_by start minimum ks vs (length ks)) y (omega (arith, better, low, leb-true k y g))) in
      omega (arith, short_by_lem k true false e f, above)
  over-found k true true e f = omega (arith, short_by_lem k true true e f)
  over-found k false b e f = omega (arith, short_by_lem k false b e f)

  not_enough : (k : ℕ) → Memᴰ k ks → found_by start minimum ks vs (length ks) < k → (b : Bool) → enough minimum ks vs k ≡ b → enough minimum ks vs k ≡ false
  not_enough k m h false e = e
  not_enough k m h true e =
      let under : k ≤ greatest (filter (enough minimum ks vs) (take (length ks) ks)) = rw (take-length ks) (greatest-over (in_kept (enough minimum ks vs) m e)) in
      absurd (omega (arith, h, under))

  pub short_all : short_by start minimum ks vs (length ks) ≡ held (ltb (found_by start minimum ks vs (length ks))) ks vs
  short_all = omega (arith, under, over (nearest found ks))
    where
      found : ℕ
      found = found_by start minimum ks vs (length ks)

      under : short_by start minimum ks vs (length ks) ≤ held (ltb (found_by start minimum ks vs (length ks))) ks vs
      under =
          most_under (short_at start minimum ks vs) (held (ltb (found_by start minimum ks vs (length ks))) ks vs) (take (length ks) ks)
          (λ k. over-found k (ltb start k) (enough minimum ks vs k) refl refl)

      over : ((x : ℕ) → Memᴰ x ks → x ≤ found) ⊎ ((n : ℕ) × Memᴰ n ks × (found < n) × ((x : ℕ) → Memᴰ x ks → found < x → n ≤ x))
          → held (ltb (found_by start minimum ks vs (length ks))) ks vs ≤ short_by start minimum ks vs (length ks)
      over (inl none) =
          omega
          (arith, held_none ks vs, held-le_in (ltb found) (λ y. false) ks vs (λ x m e. absurd (omega (arith, none x m, ltb-true found x e))))
      over (inr (n, m, l, near)) =
          let at : held (ltb found) ks vs ≤ held (leb n) ks vs = held-le_in (ltb found) (leb n) ks vs (λ x i e. le-leb n x (near x i (ltb-true found x e))) in
          let short = short_few n (omega (arith, l)) (not_enough n m l (enough minimum ks vs n) refl) in
          let most : short_at start minimum ks vs n ≤ short_by start minimum ks vs (length ks) = rw (take-length ks) (most_over (short_at start minimum ks vs) m) in
          omega (arith, at, short, most)
