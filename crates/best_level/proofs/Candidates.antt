-- The candidates' keys are those of the columns (`candidate_keys_lem`), each candidate is a live order (`candidates-live`), and W3's number for
-- the candidates is that of their keys (`candidate_sums`).
use Rattle.std.specs.Prelude.{if◌then◌else◌}
use Prim.Native.Nat.{ℕ, ◌≤◌, ◌<◌}
use native.Mathlib.Omega.{arith}
use mathlib.Core.Path.{◌≡◌, refl, sym, ap, ◌∙◌, subst}
use mathlib.Core.Logic.{◌⊎◌, inl, inr}
use mathlib.Core.List.Memᴰ
use mathlib.Core.List.{List, [], ◌∷◌, ◌++◌, map-append, Memᴰ}
use mathlib.Core.Bool.{Bool, true, false}
use borrow.Author.Tests.{ltb-true, leb-true, leb-false, eqb-true, eqb-false, lt-ltb, le-ltb, ne_eqb}
use lib.Dec.{leb, ltb, eqb}
use lib.ListN.{length, length-map}
use Rattle.rules.specs.declared.Side.{Side}
use Rattle.rules.specs.declared.Order.{Order}
use Rattle.lists.specs.Lists.{filter}
use Rattle.rules.specs.Search.{sums_for}
use Rattle.lists.proofs.Lists.{kept_in_lem, in_kept}
use Rattle.price_keys.specs.Keys.{key_in}
use Rattle.price_keys.proofs.Keys.{key_least, key_most}
use Rattle.best_quote.specs.declared.Level.{Level}
use Rattle.best_quote.specs.Levels.{held, enough, greatest, level_at, best_key, is_best}
use Rattle.best_quote.specs.Searches.{ColumnsOf, OrdersOf}
use Rattle.best_quote.specs.Sums.{found_in, key_sums, placed, downward}
use Rattle.best_quote.proofs.Levels.{held_some, held_none, nearest}
use Rattle.best_quote.proofs.Finding.{after_sums}
use Rattle.best_level.specs.Candidates.{least, key_above, key_below, next_key, falls_short, can_be_best, keys_in, volumes_in, level_among, first_at, inserted, by_price, from_change, from_second, from_first, from_old, candidates}
use Rattle.best_level.specs.CandidateKeys.{changed_key, key_only, keys_from_change, keys_from_second, keys_from_first, keys_from_old, candidate_keys}
use Rattle.best_level.proofs.Nexts.{least_under, least_over}

-- ---- the key next to a level is an order's, or that of none

greatest_in : (ks : List ℕ) → (greatest ks ≡ 0) ⊎ Memᴰ (greatest ks) ks
unfolding greatest
greatest_in [] = inl refl
greatest_in (k ∷ ks) = go (leb (greatest ks) k) refl (greatest_in ks)
  where
    go : (b : Bool) → leb (greatest ks) k ≡ b → (greatest ks ≡ 0) ⊎ Memᴰ (greatest ks) ks
        → (greatest (k ∷ ks) ≡ 0) ⊎ Memᴰ (greatest (k ∷ ks)) (k ∷ ks)
    go true e r =
        let is : greatest (k ∷ ks) ≡ k = omega (arith, leb-true (greatest ks) k e) in
        inr (Memᴰ.head is)
    go false e (inl z) = absurd (omega (arith, z, leb-false (greatest ks) k e))
    go false e (inr m) =
        let is : greatest ks ≡ greatest (k ∷ ks) = omega (arith, leb-false (greatest ks) k e) in
        inr (Memᴰ.tail (Memᴰ.cast (sym is) m))

below_in : (key : ℕ) (ks : List ℕ) → (key_below key ks ≡ 0) ⊎ Memᴰ (key_below key ks) ks
unfolding key_below
below_in key ks = go (greatest_in (filter t ks))
  where
    t : ℕ → Bool
    t k = ltb k key

    go : (greatest (filter t ks) ≡ 0) ⊎ Memᴰ (greatest (filter t ks)) (filter t ks)
        → (greatest (filter t ks) ≡ 0) ⊎ Memᴰ (greatest (filter t ks)) ks
    go (inl z) = inl z
    go (inr m) = inr (kept_in_lem t ks m).0

above_in : (key : ℕ) (ks vs : List ℕ) → 1 ≤ held (ltb key) ks vs → ((k : ℕ) → Memᴰ k ks → k ≤ 2000000001) → Memᴰ (key_above key ks) ks
unfolding key_above
above_in key ks vs some most = go (nearest key ks)
  where
    go : ((x : ℕ) → Memᴰ x ks → x ≤ key) ⊎ ((n : ℕ) × Memᴰ n ks × (key < n) × ((x : ℕ) → Memᴰ x ks → key < x → n ≤ x))
        → Memᴰ (least (filter (ltb key) ks)) ks
    go (inl none) =
        let (x, m, e, f) = held_some (λ y. false) (ltb key) ks vs (omega (arith, some, held_none ks vs)) in
        absurd (omega (arith, none x m, ltb-true key x e))
    go (inr (n, m, l, near)) =
        let under = least_under (in_kept (ltb key) m (lt-ltb key n l)) in
        let over : n ≤ least (filter (ltb key) ks) =
        least_over n (filter (ltb key) ks) (most n m)
        (λ k i. let r = kept_in_lem (ltb key) ks i in near k r.0 (ltb-true key k r.1)) in
        let is : n ≡ least (filter (ltb key) ks) = omega (arith, under, over) in
        Memᴰ.cast (sym is) m

next_in : (minimum : ℕ) (ks vs : List ℕ) (l : Level) → l ≡ level_at ks vs l.key → 1 ≤ minimum → ((k : ℕ) → Memᴰ k ks → k ≤ 2000000001)
    → (next_key minimum ks l ≡ 0) ⊎ Memᴰ (next_key minimum ks l) ks
unfolding next_key level_at
next_in minimum ks vs l is some most = go (leb minimum l.before) refl
  where
    go : (b : Bool) → leb minimum l.before ≡ b
        → ((if b then key_above l.key ks else key_below l.key ks) ≡ 0) ⊎ Memᴰ (if b then key_above l.key ks else key_below l.key ks) ks
    go true e =
        let held-before : l.before ≡ held (ltb l.key) ks vs = ap (λ (x : Level). x.before) is in
        inr (above_in l.key ks vs (omega (arith, some, leb-true minimum l.before e, held-before)) most)
    go false e = below_in l.key ks

-- ---- the keys of the orders

module _ (side : Side) where
  first_in : (k : ℕ) (os : List Order) → Memᴰ k (keys_in side os) → keys_in side (first_at side k os) ≡ k ∷ []
  unfolding first_at
  first_in k [] m = absurd (Memᴰ.not-nil m)
  first_in k (o ∷ os) m = go (eqb k (key_in side o)) refl m (λ i. first_in k os i)
    where
      go : (b : Bool) → eqb k (key_in side o) ≡ b → Memᴰ k (key_in side o ∷ keys_in side os)
          → (Memᴰ k (keys_in side os) → keys_in side (first_at side k os) ≡ k ∷ [])
          → keys_in side (if b then o ∷ [] else first_at side k os) ≡ k ∷ []
      go true e i rest = ap (λ (n : ℕ). n ∷ []) (sym (eqb-true k (key_in side o) e))
      go false e (Memᴰ.head is) rest = absurd (eqb-false k (key_in side o) e is)
      go false e (Memᴰ.tail i) rest = rest i

  first-none : (os : List Order) → ((k : ℕ) → Memᴰ k (keys_in side os) → 1 ≤ k) → keys_in side (first_at side 0 os) ≡ []
  unfolding first_at
  first-none [] h = refl
  first-none (o ∷ os) h =
      let other : eqb 0 (key_in side o) ≡ false =
      ne_eqb 0 (key_in side o) (λ (e : 0 ≡ key_in side o). let k = h (key_in side o) (Memᴰ.head refl) in omega (arith, e)) in
      ap (λ (b : Bool). keys_in side (if b then o ∷ [] else first_at side 0 os)) other ∙ first-none os (λ k m. h k (Memᴰ.tail m))

  first-keys : (k : ℕ) (os : List Order) → ((n : ℕ) → Memᴰ n (keys_in side os) → 1 ≤ n) → (k ≡ 0) ⊎ Memᴰ k (keys_in side os)
      → keys_in side (first_at side k os) ≡ key_only k
  unfolding key_only
  first-keys k os h (inl z) =
      subst (λ (n : ℕ). keys_in side (first_at side n os) ≡ (if ltb 0 n then n ∷ [] else [])) (sym z) (first-none os h)
  first-keys k os h (inr m) =
      first_in k os m ∙ ap (λ (b : Bool). if b then k ∷ [] else []) (sym (lt-ltb 0 k (h k m)))

  inserted-keys : (o : Order) (os : List Order) → keys_in side (inserted side o os) ≡ placed (key_in side o) (keys_in side os)
  unfolding inserted placed
  inserted-keys o [] = refl
  inserted-keys o (p ∷ ps) = go (leb (key_in side p) (key_in side o)) (inserted-keys o ps)
    where
      go : (b : Bool) → keys_in side (inserted side o ps) ≡ placed (key_in side o) (keys_in side ps)
          → keys_in side (if b then o ∷ p ∷ ps else p ∷ inserted side o ps)
          ≡ (if b then key_in side o ∷ key_in side p ∷ keys_in side ps else key_in side p ∷ placed (key_in side o) (keys_in side ps))
      go true e = refl
      go false e = ap (λ (l : List ℕ). key_in side p ∷ l) e

  price_keys : (os : List Order) → keys_in side (by_price side os) ≡ downward (keys_in side os)
  unfolding by_price downward
  price_keys [] = refl
  price_keys (o ∷ os) = inserted-keys o (by_price side os) ∙ ap (placed (key_in side o)) (price_keys os)

-- ---- the candidates' keys

no_key : (l : Level) (minimum : ℕ) → can_be_best l 0 minimum ≡ false
no_key l minimum = go (leb minimum l.before)
  where
    go : (b : Bool) → (if b then ltb l.key 0 else false) ≡ false
    go true = le-ltb l.key 0 (omega arith)
    go false = refl

module _ (side : Side) (minimum : ℕ) (after changed : List Order) (some : 1 ≤ minimum) (low : (k : ℕ) → Memᴰ k (keys_in side after) → 1 ≤ k)
    (high : (k : ℕ) → Memᴰ k (keys_in side after) → k ≤ 2000000001) where
  abbrev ks : List ℕ
  ks = keys_in side after

  abbrev vs : List ℕ
  vs = volumes_in after

  abbrev key : ℕ
  key = changed_key side changed

  abbrev next : Level → ℕ
  next l = next_key minimum ks l

  next_keys : (l : Level) → l ≡ level_at ks vs l.key → keys_in side (first_at side (next l) after) ≡ key_only (next l)
  next_keys l is = first-keys side (next l) after low (next_in minimum ks vs l is some high)

  change-keys : (l : Level) → keys_in side (from_change side minimum after changed l) ≡ keys_from_change minimum (level_at ks vs) (next_key minimum ks) ks key l
  unfolding from_change keys_from_change
  change-keys l = go changed
    where
      both : (o : Order) (b c : Bool) → keys_in side (if b then o ∷ (if c then [] else after) else after)
          ≡ (if b then key_in side o ∷ (if c then [] else ks) else ks)
      both o true true = refl
      both o true false = refl
      both o false c = refl

      go : (os : List Order) → keys_in side (from_change side minimum after os l)
          ≡ (if can_be_best l (changed_key side os) minimum
          then changed_key side os ∷ (if is_best (level_at ks vs (changed_key side os)) minimum then [] else ks) else ks)
      go [] = ap (λ (b : Bool). if b then 0 ∷ (if is_best (level_at ks vs 0) minimum then [] else ks) else ks) (sym (no_key l minimum))
      go (o ∷ os) = both o (can_be_best l (key_in side o) minimum) (is_best (level_at ks vs (key_in side o)) minimum)

  second-keys : (l : Level) → keys_in side (from_second side minimum after changed l) ≡ keys_from_second minimum (level_at ks vs) (next_key minimum ks) ks key l
  unfolding from_second keys_from_second
  second-keys l = go (is_best l minimum)
    where
      go : (b : Bool) → keys_in side (if b then [] else from_change side minimum after changed l)
          ≡ (if b then [] else keys_from_change minimum (level_at ks vs) (next_key minimum ks) ks key l)
      go true = refl
      go false = change-keys l

  from_first-keys : (l : Level) → l ≡ level_at ks vs l.key
      → keys_in side (from_first side minimum after changed l) ≡ keys_from_first minimum (level_at ks vs) (next_key minimum ks) ks key l
  unfolding from_first keys_from_first
  from_first-keys l is = go (is_best l minimum) (falls_short l minimum)
    where
      go : (b c : Bool)
          → keys_in side
          (if b then []
          else if c then from_change side minimum after changed l
          else first_at side (next l) after ++ from_second side minimum after changed (level_at ks vs (next l)))
          ≡ (if b then []
          else if c then keys_from_change minimum (level_at ks vs) (next_key minimum ks) ks key l
          else key_only (next l) ++ keys_from_second minimum (level_at ks vs) (next_key minimum ks) ks key (level_at ks vs (next l)))
      go true c = refl
      go false true = change-keys l
      go false false =
          map-append (key_in side) (first_at side (next l) after) (from_second side minimum after changed (level_at ks vs (next l)))
          ∙ (λ i. next_keys l is i ++ second-keys (level_at ks vs (next l)) i)

  old-keys : (l : Level) → l ≡ level_at ks vs l.key
      → keys_in side (from_old side minimum after changed l) ≡ keys_from_old minimum (level_at ks vs) (next_key minimum ks) ks key l
  unfolding from_old keys_from_old level_at
  old-keys l is = go (is_best l minimum)
    where
      go : (b : Bool)
          → keys_in side (if b then [] else first_at side (next l) after ++ from_first side minimum after changed (level_at ks vs (next l)))
          ≡ (if b then [] else key_only (next l) ++ keys_from_first minimum (level_at ks vs) (next_key minimum ks) ks key (level_at ks vs (next l)))
      go true = refl
      go false =
          map-append (key_in side) (first_at side (next l) after) (from_first side minimum after changed (level_at ks vs (next l)))
          ∙ (λ i. next_keys l is i ++ from_first-keys (level_at ks vs (next l)) refl i)

  pub candidate_keys_lem : (before : List Order)
      → keys_in side (candidates side minimum before after changed) ≡ candidate_keys minimum (keys_in side before) (volumes_in before) ks vs key
  unfolding candidates candidate_keys level_at
  candidate_keys_lem before =
      go (leb (length after) 4) (leb (length before) 4)
      ∙ (λ i. chosen (leb (sym (length-map after (key_in side)) i) 4) (leb (sym (length-map before (key_in side)) i) 4))
    where
      chosen : Bool → Bool → List ℕ
      chosen a b =
          if a then downward ks
          else if b then ks
          else keys_from_old minimum (level_at ks vs) (next_key minimum ks) ks key (level_at ks vs (best_key minimum (keys_in side before) (volumes_in before)))

      go : (a b : Bool)
          → keys_in side
          (if a then by_price side after
          else if b then after
          else from_old side minimum after changed (level_at ks vs (best_key minimum (keys_in side before) (volumes_in before))))
          ≡ chosen a b
      go true b = price_keys side after
      go false true = refl
      go false false = old-keys (level_at ks vs (best_key minimum (keys_in side before) (volumes_in before))) refl

-- ---- each is a live order

module _ (side : Side) (o : Order) where
  first_live : (k : ℕ) (os : List Order) → Memᴰ o (first_at side k os) → Memᴰ o os
  unfolding first_at
  first_live k [] m = m
  first_live k (p ∷ ps) m = go (eqb k (key_in side p)) m (λ i. first_live k ps i)
    where
      go : (b : Bool) → Memᴰ o (if b then p ∷ [] else first_at side k ps) → (Memᴰ o (first_at side k ps) → Memᴰ o ps) → Memᴰ o (p ∷ ps)
      go true (Memᴰ.head e) rest = Memᴰ.head e
      go true (Memᴰ.tail i) rest = absurd (Memᴰ.not-nil i)
      go false i rest = Memᴰ.tail (rest i)

  inserted-live : (p : Order) (os : List Order) → Memᴰ o (inserted side p os) → Memᴰ o (p ∷ os)
  unfolding inserted
  inserted-live p [] m = m
  inserted-live p (x ∷ xs) m = go (leb (key_in side x) (key_in side p)) m (λ i. inserted-live p xs i)
    where
      later : Memᴰ o (p ∷ xs) → Memᴰ o (p ∷ x ∷ xs)
      later (Memᴰ.head e) = Memᴰ.head e
      later (Memᴰ.tail i) = Memᴰ.tail (Memᴰ.tail i)

      go : (b : Bool) → Memᴰ o (if b then p ∷ x ∷ xs else x ∷ inserted side p xs) → (Memᴰ o (inserted side p xs) → Memᴰ o (p ∷ xs))
          → Memᴰ o (p ∷ x ∷ xs)
      go true i rest = i
      go false (Memᴰ.head e) rest = Memᴰ.tail (Memᴰ.head e)
      go false (Memᴰ.tail i) rest = later (rest i)

  price_live : (os : List Order) → Memᴰ o (by_price side os) → Memᴰ o os
  unfolding by_price
  price_live [] m = m
  price_live (p ∷ ps) m = go (inserted-live p (by_price side ps) m) (λ i. price_live ps i)
    where
      go : Memᴰ o (p ∷ by_price side ps) → (Memᴰ o (by_price side ps) → Memᴰ o ps) → Memᴰ o (p ∷ ps)
      go (Memᴰ.head e) rest = Memᴰ.head e
      go (Memᴰ.tail i) rest = Memᴰ.tail (rest i)

module _ (side : Side) (minimum : ℕ) (after changed : List Order) (o : Order) (put : Memᴰ o changed → Memᴰ o after) where
  change-live : (l : Level) → Memᴰ o (from_change side minimum after changed l) → Memᴰ o after
  unfolding from_change
  change-live l m = go changed put m
    where
      go : (os : List Order) → (Memᴰ o os → Memᴰ o after) → Memᴰ o (from_change side minimum after os l) → Memᴰ o after
      go [] h i = i
      go (p ∷ ps) h i = two (can_be_best l (key_in side p) minimum) (is_best (level_among side after (key_in side p)) minimum) i
        where
          two : (b c : Bool) → Memᴰ o (if b then p ∷ (if c then [] else after) else after) → Memᴰ o after
          two true c (Memᴰ.head e) = h (Memᴰ.head e)
          two true true (Memᴰ.tail j) = absurd (Memᴰ.not-nil j)
          two true false (Memᴰ.tail j) = j
          two false c j = j

  second_live : (l : Level) → Memᴰ o (from_second side minimum after changed l) → Memᴰ o after
  unfolding from_second
  second_live l m = go (is_best l minimum) m
    where
      go : (b : Bool) → Memᴰ o (if b then [] else from_change side minimum after changed l) → Memᴰ o after
      go true i = absurd (Memᴰ.not-nil i)
      go false i = change-live l i

  -- the first order at a key, and those after it
  step-live : (k : ℕ) (rest : List Order) → (Memᴰ o rest → Memᴰ o after) → Memᴰ o (first_at side k after ++ rest) → Memᴰ o after
  step-live k rest h m = go (Memᴰ.append_cases (first_at side k after) m)
    where
      go : Memᴰ o (first_at side k after) ⊎ Memᴰ o rest → Memᴰ o after
      go (inl i) = first_live side o k after i
      go (inr i) = h i

  from_first-live : (l : Level) → Memᴰ o (from_first side minimum after changed l) → Memᴰ o after
  unfolding from_first
  from_first-live l m = go (is_best l minimum) (falls_short l minimum) m
    where
      go : (b c : Bool)
          → Memᴰ o
          (if b then []
          else if c then from_change side minimum after changed l
          else first_at side (next_key minimum (keys_in side after) l) after
          ++ from_second side minimum after changed (level_among side after (next_key minimum (keys_in side after) l)))
          → Memᴰ o after
      go true c i = absurd (Memᴰ.not-nil i)
      go false true i = change-live l i
      go false false i = step-live _ _ (second_live _) i

  old-live : (l : Level) → Memᴰ o (from_old side minimum after changed l) → Memᴰ o after
  unfolding from_old
  old-live l m = go (is_best l minimum) m
    where
      go : (b : Bool)
          → Memᴰ o
          (if b then []
          else first_at side (next_key minimum (keys_in side after) l) after
          ++ from_first side minimum after changed (level_among side after (next_key minimum (keys_in side after) l)))
          → Memᴰ o after
      go true i = absurd (Memᴰ.not-nil i)
      go false i = step-live _ _ (from_first-live _) i

  pub candidates-live : (before : List Order) → Memᴰ o (candidates side minimum before after changed) → Memᴰ o after
  unfolding candidates
  candidates-live before m = go (leb (length after) 4) (leb (length before) 4) m
    where
      go : (a b : Bool)
          → Memᴰ o
          (if a then by_price side after
          else if b then after
          else from_old side minimum after changed (level_among side after (best_key minimum (keys_in side before) (volumes_in before))))
          → Memᴰ o after
      go true b i = price_live side o after i
      go false true i = i
      go false false i = old-live _ i

-- ---- W3's number

module _ (side : Side) (minimum : ℕ) (before after changed : List Order) (some : 1 ≤ minimum) (of : OrdersOf side after)
    (put : (o : Order) → Memᴰ o changed → Memᴰ o after) where
  own_keys : (k : ℕ) → Memᴰ k (keys_in side after) → (1 ≤ k) × (k ≤ 2000000001)
  own_keys k m =
      let (o, i, e) = Memᴰ.of_map (key_in side) after m in
      let good = of.prices o i in
      (omega (arith, e, key_least side o.price.0 good), omega (arith, e, key_most side o.price.0 good))

  live-candidates : (o : Order) → Memᴰ o (candidates side minimum before after changed) → Memᴰ o after
  live-candidates o m = candidates-live side minimum after changed o (put o) before m

  pub candidate_sums : (ks vs : List ℕ) → ColumnsOf side after ks vs
      → sums_for side minimum after (candidates side minimum before after changed)
      ≡ key_sums (enough minimum ks vs) 0
      (candidate_keys minimum (keys_in side before) (volumes_in before) (keys_in side after) (volumes_in after) (changed_key side changed))
  unfolding sums_for found_in
  candidate_sums ks vs columns =
      after_sums side minimum after ks vs columns [] (candidates side minimum before after changed)
      (record { sided = λ o m. absurd (Memᴰ.not-nil m); prices = λ o m. absurd (Memᴰ.not-nil m) })
      (record { sided = λ o m. of.sided o (live-candidates o m); prices = λ o m. of.prices o (live-candidates o m) })
      ∙ ap (key_sums (enough minimum ks vs) 0)
      (candidate_keys_lem side minimum after changed some (λ k m. (own_keys k m).0) (λ k m. (own_keys k m).1) before)
