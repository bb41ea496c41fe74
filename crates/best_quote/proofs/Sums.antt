-- Laws of W3's count in keys: of one list after another, of blanks, and of keys sorted downwards, where the keys better than the best one
-- count, and the first at it.
use Rattle.std.specs.Prelude.{if◌then◌else◌}
use Prim.Native.Nat.{ℕ, zero, suc, ◌+◌, ◌≤◌, ◌<◌, max}
use native.Mathlib.Omega.{arith}
use mathlib.Core.Path.{◌≡◌, refl, sym, ap, ◌∙◌}
use mathlib.Core.Logic.{◌⊎◌, inl, inr}
use mathlib.Core.List.Memᴰ
use mathlib.Core.List.{List, [], ◌∷◌, ◌++◌, Memᴰ}
use mathlib.Core.Bool.{Bool, true, false, ◌&&◌, true≢false}
use borrow.Author.Tests.{ltb-true, ltb-false, leb-true, leb-false, lt-ltb, le-ltb}
use lib.Dec.{leb, ltb}
use lib.ListN.{length, get_or, take, replicate}
use lib.Seq.{take-suc}
use Rattle.lists.specs.Lists.{filter, how_many}
use Rattle.lists.proofs.Lists.{filter-append}
use Rattle.best_quote.specs.Levels.{greatest}
use Rattle.best_quote.specs.Sums.{found_with, found_in, key_sums, placed, downward}
use Rattle.best_quote.proofs.Levels.{greatest-append, greatest_zeros}

-- keys that fall from a bound
abbrev pub Falling : ℕ → List ℕ → Type 0
Falling bound [] = Unit {0}
Falling bound (k ∷ ks) = (k ≤ bound) × Falling k ks

-- for keys of which b is the best: those better, and one at it
abbrev pub count_at : ℕ → List ℕ → ℕ
count_at b ks = how_many (ltb b) ks + (if ltb 0 b then 1 else 0)

count_at_lem : (b c : ℕ) (ks : List ℕ) → b ≡ c → count_at b ks ≡ count_at c ks
count_at_lem b c ks e = ap (λ (n : ℕ). count_at n ks) e

count_more : (b k : ℕ) (ks : List ℕ) → b < k → count_at b (k ∷ ks) ≡ 1 + count_at b ks
unfolding how_many
count_more b k ks h = rw (lt-ltb b k h) (omega arith)

module _ (q : ℕ → Bool) where
  -- ---- what was found

  with_is : (found k : ℕ) → found_with q found k ≡ max found (if q k then k else 0)
  with_is found k = go (ltb found k) (q k) refl
    where
      go : (a b : Bool) → ltb found k ≡ a → (if a && b then k else found) ≡ max found (if b then k else 0)
      go true true e = omega (arith, ltb-true found k e)
      go true false e = omega arith
      go false true e = omega (arith, ltb-false found k e)
      go false false e = omega arith

  greatest-kept : (k : ℕ) (ks : List ℕ) → greatest (filter q (k ∷ ks)) ≡ max (if q k then k else 0) (greatest (filter q ks))
  unfolding greatest filter
  greatest-kept k ks = go (q k)
    where
      go : (b : Bool) → greatest (if b then k ∷ filter q ks else filter q ks) ≡ max (if b then k else 0) (greatest (filter q ks))
      go true = refl
      go false = omega arith

  -- the best of what was found before and of the keys that qualify
  pub found_is : (found : ℕ) (ks : List ℕ) → found_in q found ks ≡ max found (greatest (filter q ks))
  unfolding found_in greatest filter
  found_is found [] = omega arith
  found_is found (k ∷ ks) =
      found_is (found_with q found k) ks ∙ step (found_with q found k) (greatest (filter q (k ∷ ks))) (with_is found k) (greatest-kept k ks)
    where
      step : (f g : ℕ) → f ≡ max found (if q k then k else 0) → g ≡ max (if q k then k else 0) (greatest (filter q ks))
          → max f (greatest (filter q ks)) ≡ max found g
      step f g p r = omega (arith, p, r)

  -- ---- one list after another

  pub found-append : (found : ℕ) (ks ls : List ℕ) → found_in q found (ks ++ ls) ≡ found_in q (found_in q found ks) ls
  unfolding found_in
  found-append found [] ls = refl
  found-append found (k ∷ ks) ls = found-append (found_with q found k) ks ls

  pub sums_append : (found : ℕ) (ks ls : List ℕ) → key_sums q found (ks ++ ls) ≡ key_sums q found ks + key_sums q (found_in q found ks) ls
  unfolding found_in key_sums
  sums_append found [] ls = omega arith
  sums_append found (k ∷ ks) ls = omega (arith, sums_append (found_with q found k) ks ls)

  -- one key more
  pub sums_one : (found k : ℕ) → key_sums q found (k ∷ []) ≡ (if ltb found k then 1 else 0)
  unfolding key_sums
  sums_one found k = omega arith

  -- ---- keys that are not better, blanks among them

  with-same : (found k : ℕ) → k ≤ found → found_with q found k ≡ found
  with-same found k h = ap (λ (b : Bool). if b && q k then k else found) (le-ltb found k h)

  pub sums_none : (found : ℕ) (ks : List ℕ) → ((k : ℕ) → Memᴰ k ks → k ≤ found) → key_sums q found ks ≡ 0
  unfolding key_sums
  sums_none found [] h = refl
  sums_none found (k ∷ ks) h =
      let low = h k (Memᴰ.head refl) in
      rw (le-ltb found k low) (omega (arith, sums_none found ks (λ x m. h x (Memᴰ.tail m))))

  sums_zeros : (found n : ℕ) → key_sums q found (replicate n 0) ≡ 0
  unfolding key_sums
  sums_zeros found zero = refl
  sums_zeros found (suc n) = rw (le-ltb found 0 (omega arith)) (omega (arith, sums_zeros found n))

  pub sums_blanks : (found : ℕ) (ks : List ℕ) (n : ℕ) → key_sums q found (ks ++ replicate n 0) ≡ key_sums q found ks
  sums_blanks found ks n = omega (arith, sums_append found ks (replicate n 0), sums_zeros (found_in q found ks) n)

  -- ---- the keys in turn

  -- what the first ones come to, with the next
  pub sums_next : (found : ℕ) (ks : List ℕ) (i : ℕ) → i < length ks
      → key_sums q found (take (suc i) ks)
      ≡ key_sums q found (take i ks) + (if ltb (max found (greatest (filter q (take i ks)))) (get_or ks i 0) then 1 else 0)
  sums_next found ks i h =
      let k = get_or ks i 0 in
      let one : key_sums q (found_in q found (take i ks)) (k ∷ []) ≡ (if ltb (max found (greatest (filter q (take i ks)))) k then 1 else 0) =
      sums_one (found_in q found (take i ks)) k ∙ ap (λ (f : ℕ). if ltb f k then 1 else 0) (found_is found (take i ks)) in
      ap (key_sums q found) (take-suc ks i 0 h) ∙ sums_append found (take i ks) (k ∷ [])
      ∙ ap (λ (n : ℕ). key_sums q found (take i ks) + n) one

  -- ---- keys sorted downwards

  -- the best key of some is none, or it qualifies
  best-qualifies : (ks : List ℕ) → (greatest (filter q ks) ≡ 0) ⊎ (q (greatest (filter q ks)) ≡ true)
  unfolding greatest filter
  best-qualifies [] = inl refl
  best-qualifies (k ∷ ks) = go (q k) refl (leb (greatest (filter q ks)) k) refl (best-qualifies ks)
    where
      go : (b : Bool) → q k ≡ b → (c : Bool) → leb (greatest (filter q ks)) k ≡ c
          → (greatest (filter q ks) ≡ 0) ⊎ (q (greatest (filter q ks)) ≡ true)
          → (greatest (if b then k ∷ filter q ks else filter q ks) ≡ 0) ⊎ (q (greatest (if b then k ∷ filter q ks else filter q ks)) ≡ true)
      go false e c f r = r
      go true e true f r = inr (ap q (omega (arith, leb-true (greatest (filter q ks)) k f)) ∙ e)
      go true e false f (inl z) = absurd (omega (arith, z, leb-false (greatest (filter q ks)) k f))
      go true e false f (inr r) = inr (ap q (omega (arith, leb-false (greatest (filter q ks)) k f)) ∙ r)

  -- they are at most the bound, and so is the best of them
  falling_most : (bound : ℕ) (ks : List ℕ) → Falling bound ks → (k : ℕ) → Memᴰ k ks → k ≤ bound
  falling_most bound [] f k m = absurd (Memᴰ.not-nil m)
  falling_most bound (x ∷ xs) f k (Memᴰ.head e) = omega (arith, e, f.0)
  falling_most bound (x ∷ xs) f k (Memᴰ.tail m) = omega (arith, f.0, falling_most x xs f.1 k m)

  falling_best : (bound : ℕ) (ks : List ℕ) → Falling bound ks → greatest (filter q ks) ≤ bound
  unfolding greatest filter
  falling_best bound [] f = omega arith
  falling_best bound (k ∷ ks) f = omega (arith, greatest-kept k ks, one (q k), f.0, falling_best k ks f.1)
    where
      one : (b : Bool) → (if b then k else 0) ≤ k
      one true = omega arith
      one false = omega arith

  falling_none : (bound b : ℕ) (ks : List ℕ) → bound ≤ b → Falling bound ks → how_many (ltb b) ks ≡ 0
  unfolding how_many
  falling_none bound b [] h f = refl
  falling_none bound b (k ∷ ks) h f =
      rw (le-ltb b k (omega (arith, h, f.0))) (omega (arith, falling_none k b ks (omega (arith, h, f.0)) f.1))

  sums_more : (found k : ℕ) (ks : List ℕ) (a b : Bool) → ltb found k ≡ a → q k ≡ b
      → key_sums q found (k ∷ ks) ≡ (if a then 1 else 0) + key_sums q (if a && b then k else found) ks
  unfolding key_sums
  sums_more found k ks a b e f = λ i. (if e i then 1 else 0) + key_sums q (if e i && f i then k else found) ks

  -- nothing is better than 0, the first one qualifies, or it does not
  sums_blank : (k : ℕ) (ks : List ℕ) → Falling k ks → k ≤ 0 → key_sums q 0 (k ∷ ks) ≡ count_at (greatest (filter q (k ∷ ks))) (k ∷ ks)
  sums_blank k ks f low =
      let all : Falling 0 (k ∷ ks) = (low, f) in
      let best : greatest (filter q (k ∷ ks)) ≡ 0 = omega (arith, falling_best 0 (k ∷ ks) all) in
      let none = sums_none 0 (k ∷ ks) (falling_most 0 (k ∷ ks) all) in
      omega (arith, none, count_at_lem (greatest (filter q (k ∷ ks))) 0 (k ∷ ks) best, falling_none 0 0 (k ∷ ks) (omega arith) all)

  sums_first : (k : ℕ) (ks : List ℕ) → Falling k ks → 0 < k → q k ≡ true → key_sums q 0 (k ∷ ks) ≡ count_at (greatest (filter q (k ∷ ks))) (k ∷ ks)
  sums_first k ks f some e =
      let kept : greatest (filter q (k ∷ ks)) ≡ max k (greatest (filter q ks)) =
      greatest-kept k ks ∙ ap (λ (b : Bool). max (if b then k else 0) (greatest (filter q ks))) e in
      let best : greatest (filter q (k ∷ ks)) ≡ k = omega (arith, kept, falling_best k ks f) in
      let one : key_sums q 0 (k ∷ ks) ≡ 1 + key_sums q k ks = sums_more 0 k ks true true (lt-ltb 0 k some) e in
      let none = sums_none k ks (falling_most k ks f) in
      let at : count_at k (k ∷ ks) ≡ how_many (ltb k) (k ∷ ks) + 1 = ap (λ (b : Bool). how_many (ltb k) (k ∷ ks) + (if b then 1 else 0)) (lt-ltb 0 k some) in
      omega (arith, one, none, count_at_lem (greatest (filter q (k ∷ ks))) k (k ∷ ks) best, at, falling_none k k (k ∷ ks) (omega arith) (omega arith, f))

  best-below : (k : ℕ) (ks : List ℕ) → Falling k ks → 0 < k → q k ≡ false → greatest (filter q ks) < k
  best-below k ks f some e = go (best-qualifies ks) (ltb (greatest (filter q ks)) k) refl
    where
      go : (greatest (filter q ks) ≡ 0) ⊎ (q (greatest (filter q ks)) ≡ true) → (b : Bool) → ltb (greatest (filter q ks)) k ≡ b
          → greatest (filter q ks) < k
      go r true l = ltb-true (greatest (filter q ks)) k l
      go (inl z) false l = omega (arith, z, some)
      go (inr t) false l =
          let same : greatest (filter q ks) ≡ k = omega (arith, falling_best k ks f, ltb-false (greatest (filter q ks)) k l) in
          absurd (true≢false (sym t ∙ ap q same ∙ e))

  sums_short : (k : ℕ) (ks : List ℕ) → Falling k ks → 0 < k → q k ≡ false → key_sums q 0 ks ≡ count_at (greatest (filter q ks)) ks
      → key_sums q 0 (k ∷ ks) ≡ count_at (greatest (filter q (k ∷ ks))) (k ∷ ks)
  sums_short k ks f some e rest =
      let kept : greatest (filter q (k ∷ ks)) ≡ max 0 (greatest (filter q ks)) =
      greatest-kept k ks ∙ ap (λ (b : Bool). max (if b then k else 0) (greatest (filter q ks))) e in
      let best : greatest (filter q (k ∷ ks)) ≡ greatest (filter q ks) = omega (arith, kept) in
      let one : key_sums q 0 (k ∷ ks) ≡ 1 + key_sums q 0 ks = sums_more 0 k ks true false (lt-ltb 0 k some) e in
      one ∙ ap (λ (n : ℕ). 1 + n) rest ∙ sym (count_more (greatest (filter q ks)) k ks (best-below k ks f some e))
      ∙ sym (count_at_lem (greatest (filter q (k ∷ ks))) (greatest (filter q ks)) (k ∷ ks) best)

  pub sums_falling : (bound : ℕ) (ks : List ℕ) → Falling bound ks → key_sums q 0 ks ≡ count_at (greatest (filter q ks)) ks
  unfolding key_sums greatest filter how_many
  sums_falling bound [] f = refl
  sums_falling bound (k ∷ ks) f = go (ltb 0 k) refl (q k) refl (sums_falling k ks f.1)
    where
      go : (a : Bool) → ltb 0 k ≡ a → (b : Bool) → q k ≡ b → key_sums q 0 ks ≡ count_at (greatest (filter q ks)) ks
          → key_sums q 0 (k ∷ ks) ≡ count_at (greatest (filter q (k ∷ ks))) (k ∷ ks)
      go false e b g rest = sums_blank k ks f.1 (ltb-false 0 k e)
      go true e true g rest = sums_first k ks f.1 (ltb-true 0 k e) g
      go true e false g rest = sums_short k ks f.1 (ltb-true 0 k e) g rest

-- sorting puts each key in its place, and keeps what is counted of them
placed_falls : (bound k : ℕ) (ks : List ℕ) → k ≤ bound → Falling bound ks → Falling bound (placed k ks)
unfolding placed
placed_falls bound k [] h f = (h, tt)
placed_falls bound k (j ∷ js) h f = go (leb j k) refl (λ l. placed_falls j k js l f.1)
  where
    go : (b : Bool) → leb j k ≡ b → (k ≤ j → Falling j (placed k js)) → Falling bound (if b then k ∷ j ∷ js else j ∷ placed k js)
    go true e rest = (h, (leb-true j k e, f.1))
    go false e rest = (f.0, rest (omega (arith, leb-false j k e)))

pub downward_falls : (bound : ℕ) (ks : List ℕ) → greatest ks ≤ bound → Falling bound (downward ks)
unfolding greatest downward
downward_falls bound [] h = tt
downward_falls bound (k ∷ ks) h = placed_falls bound k (downward ks) (omega (arith, h)) (downward_falls bound ks (omega (arith, h)))

placed_many : (t : ℕ → Bool) (k : ℕ) (ks : List ℕ) → how_many t (placed k ks) ≡ how_many t (k ∷ ks)
unfolding placed how_many
placed_many t k [] = refl
placed_many t k (j ∷ js) = go (leb j k) (placed_many t k js)
  where
    go : (b : Bool) → how_many t (placed k js) ≡ how_many t (k ∷ js)
        → how_many t (if b then k ∷ j ∷ js else j ∷ placed k js) ≡ how_many t (k ∷ j ∷ js)
    go true e = refl
    go false e = omega (arith, e)

pub downward_many : (t : ℕ → Bool) (ks : List ℕ) → how_many t (downward ks) ≡ how_many t ks
unfolding downward how_many
downward_many t [] = refl
downward_many t (k ∷ ks) = placed_many t k (downward ks) ∙ ap (λ (n : ℕ). (if t k then 1 else 0) + n) (downward_many t ks)

placed-best : (q : ℕ → Bool) (k : ℕ) (ks : List ℕ) → greatest (filter q (placed k ks)) ≡ max (if q k then k else 0) (greatest (filter q ks))
unfolding placed
placed-best q k [] = greatest-kept q k []
placed-best q k (j ∷ js) = go (leb j k) (placed-best q k js)
  where
    go : (b : Bool) → greatest (filter q (placed k js)) ≡ max (if q k then k else 0) (greatest (filter q js))
        → greatest (filter q (if b then k ∷ j ∷ js else j ∷ placed k js)) ≡ max (if q k then k else 0) (greatest (filter q (j ∷ js)))
    go true e = greatest-kept q k (j ∷ js)
    go false e = omega (arith, greatest-kept q j (placed k js), e, greatest-kept q j js)

pub downward-best : (q : ℕ → Bool) (ks : List ℕ) → greatest (filter q (downward ks)) ≡ greatest (filter q ks)
unfolding downward
downward-best q [] = refl
downward-best q (k ∷ ks) =
    placed-best q k (downward ks) ∙ ap (λ (n : ℕ). max (if q k then k else 0) n) (downward-best q ks) ∙ sym (greatest-kept q k ks)

-- the number for all of them, the best one first
pub downward_sums : (q : ℕ → Bool) (ks : List ℕ) → key_sums q 0 (downward ks) ≡ count_at (greatest (filter q ks)) ks
downward_sums q ks =
    sums_falling q (greatest ks) (downward ks) (downward_falls (greatest ks) ks (omega arith)) ∙ count_at_lem _ _ (downward ks) (downward-best q ks)
    ∙ ap (λ (n : ℕ). n + (if ltb 0 (greatest (filter q ks)) then 1 else 0)) (downward_many (ltb (greatest (filter q ks))) ks)

-- blanks change nothing in it
many_append : (t : ℕ → Bool) (ks ls : List ℕ) → how_many t (ks ++ ls) ≡ how_many t ks + how_many t ls
unfolding how_many
many_append t [] ls = omega arith
many_append t (k ∷ ks) ls = omega (arith, many_append t ks ls)

many_zeros : (b n : ℕ) → how_many (ltb b) (replicate n 0) ≡ 0
unfolding how_many
many_zeros b zero = refl
many_zeros b (suc n) = rw (le-ltb b 0 (omega arith)) (omega (arith, many_zeros b n))

pub downward_blanks : (q : ℕ → Bool) (ks : List ℕ) (n : ℕ) → key_sums q 0 (downward (ks ++ replicate n 0)) ≡ key_sums q 0 (downward ks)
downward_blanks q ks n =
    let zeros : List ℕ = replicate n 0 in
    let best : greatest (filter q (ks ++ zeros)) ≡ greatest (filter q ks) =
    ap greatest (filter-append q ks zeros) ∙ greatest-append (filter q ks) (filter q zeros)
    ∙ omega (arith, greatest_zeros q n) in
    downward_sums q (ks ++ zeros) ∙ count_at_lem _ _ (ks ++ zeros) best
    ∙ omega (arith, many_append (ltb (greatest (filter q ks))) ks zeros, many_zeros (greatest (filter q ks)) n)
    ∙ sym (downward_sums q ks)
