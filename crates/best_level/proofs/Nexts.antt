-- The keys next to one: there is no order between it and the next, so that what is before one is at the other or before it.
use Rattle.std.specs.Prelude.{if◌then◌else◌}
use Prim.Native.Nat.{ℕ, suc, ◌+◌, ◌-◌, ◌≤◌, ◌<◌, min, max}
use native.Mathlib.Omega.{arith}
use native.Mathlib.Numerals.{add-one}
use mathlib.Core.Path.{◌≡◌, refl, sym, ap, ◌∙◌}
use mathlib.Core.List.{List, [], ◌∷◌, ◌++◌, Memᴰ}
use mathlib.Core.Bool.{Bool, true, false, ◌||◌, true≢false}
use borrow.Author.Tests.{ltb-true, ltb-false, leb-true, leb-false, eqb-false, lt-ltb, le-leb, lt-leb}
use lib.Dec.{leb, ltb, eqb}
use lib.IntN.{pos}
use lib.Signed.{lt_z}
use mir.Syntax.{w32}
use mir.Val.{to_z}
use lib.ListN.{length, get_or, take}
use lib.Seq.{take-suc}
use Rattle.lists.specs.Lists.{filter}
use Rattle.lists.proofs.Lists.{filter-append, filter-one, kept_in_lem, in_kept}
use Rattle.best_quote.specs.declared.Level.{Level}
use Rattle.best_quote.specs.Levels.{held, greatest, level_at, is_best, Searchable}
use Rattle.best_quote.proofs.Levels.{held-le_in, held_some, held_none, level_split, greatest-append, greatest-over, greatest_under}
use Rattle.best_level.specs.Candidates.{least, key_above, key_below, next_key}
use Rattle.best_level.specs.Internal.{next_level}

-- ---- keys compared with a sign

signed : (n : ℕ) → n ≤ 2000000001 → to_z w32 n ≡ pos n
signed n h = rw (lt-ltb n 2147483648 (omega (arith, h))) refl

pub signed_less : (a b : ℕ) → a ≤ 2000000001 → b ≤ 2000000001 → lt_z (to_z w32 a) (to_z w32 b) ≡ ltb a b
signed_less a b h k = rw (signed a h, signed b k) refl

pub where_most : (b : Bool) (k other n : ℕ) → k ≤ 2000000001 → other ≤ 2000000001 → n ≡ (if b then k else other) → n ≤ 2000000001
where_most true k other n h l e = omega (arith, h, e)
where_most false k other n h l e = omega (arith, l, e)

-- ---- one key further in the columns

least_most : (xs : List ℕ) → least xs ≤ 2000000001
unfolding least
least_most [] = omega arith
least_most (x ∷ xs) = omega (arith, least_most xs)

least-append : (xs ys : List ℕ) → least (xs ++ ys) ≡ min (least xs) (least ys)
unfolding least
least-append [] ys = omega (arith, least_most ys)
least-append (x ∷ xs) ys = omega (arith, least-append xs ys)

least-one : (b : Bool) (n k : ℕ) → n ≤ 2000000001 → min n (least (if b then k ∷ [] else [])) ≡ min n (if b then k else 2000000001)
unfolding least
least-one true n k h = omega (arith, h)
least-one false n k h = refl

greatest-one : (b : Bool) (k : ℕ) → greatest (if b then k ∷ [] else []) ≡ (if b then k else 0)
unfolding greatest
greatest-one true k = omega arith
greatest-one false k = refl

module _ (key : ℕ) (ks : List ℕ) (i n : ℕ) (more : i < length ks) where
  pub above-next : n ≡ key_above key (take i ks) → min n (if ltb key (get_or ks i 0) then get_or ks i 0 else 2000000001) ≡ key_above key (take (i + 1) ks)
  unfolding key_above
  above-next e =
      let t = ltb key in
      let k = get_or ks i 0 in
      let most = least_most (filter t (take i ks)) in
      let one : min n (least (filter t (k ∷ []))) ≡ min n (if t k then k else 2000000001) =
      ap (λ (l : List ℕ). min n (least l)) (filter-one t k) ∙ least-one (t k) n k (omega (arith, most, e)) in
      let all : least (filter t (take (suc i) ks)) ≡ min (least (filter t (take i ks))) (least (filter t (k ∷ []))) =
      ap (λ (l : List ℕ). least (filter t l)) (take-suc ks i 0 more) ∙ ap least (filter-append t (take i ks) (k ∷ []))
      ∙ least-append (filter t (take i ks)) (filter t (k ∷ [])) in
      rw (add-one i) (sym one ∙ ap (λ (x : ℕ). min x (least (filter t (k ∷ [])))) e ∙ sym all)

  pub below_next : n ≡ key_below key (take i ks) → max n (if ltb (get_or ks i 0) key then get_or ks i 0 else 0) ≡ key_below key (take (i + 1) ks)
  unfolding key_below
  below_next e =
      let t : ℕ → Bool = λ (k : ℕ). ltb k key in
      let k = get_or ks i 0 in
      let one : greatest (filter t (k ∷ [])) ≡ (if t k then k else 0) = ap greatest (filter-one t k) ∙ greatest-one (t k) k in
      let all : greatest (filter t (take (suc i) ks)) ≡ max (greatest (filter t (take i ks))) (greatest (filter t (k ∷ []))) =
      ap (λ (l : List ℕ). greatest (filter t l)) (take-suc ks i 0 more) ∙ ap greatest (filter-append t (take i ks) (k ∷ []))
      ∙ greatest-append (filter t (take i ks)) (filter t (k ∷ [])) in
      rw (add-one i) (omega (arith, one, all, e))

-- ---- nothing between

pub least_under : {k : ℕ} {ks : List ℕ} → Memᴰ k ks → least ks ≤ k
unfolding least
least_under {k} (Memᴰ.head {x = x} {xs = xs} e) = omega (arith, e)
least_under {k} (Memᴰ.tail {x = x} {xs = xs} m) = omega (arith, least_under m)

pub least_over : (b : ℕ) (ks : List ℕ) → b ≤ 2000000001 → ((k : ℕ) → Memᴰ k ks → b ≤ k) → b ≤ least ks
unfolding least
least_over b [] most h = most
least_over b (k ∷ ks) most h = omega (arith, h k (Memᴰ.head refl), least_over b ks most (λ x m. h x (Memᴰ.tail m)))

held_same : (t u : ℕ → Bool) (ks vs : List ℕ) → ((k : ℕ) → Memᴰ k ks → t k ≡ true → u k ≡ true)
    → ((k : ℕ) → Memᴰ k ks → u k ≡ true → t k ≡ true) → held t ks vs ≡ held u ks vs
held_same t u ks vs h k = omega (arith, held-le_in t u ks vs h, held-le_in u t ks vs k)

module _ (ks vs : List ℕ) (key : ℕ) where
  pub above_most : key_above key ks ≤ 2000000001
  unfolding key_above
  above_most = least_most (filter (ltb key) ks)

  -- where a key is above, the next key is above ..
  pub above-over : key < 2000000001 → key < key_above key ks
  unfolding key_above
  above-over h =
      let next : suc key ≤ least (filter (ltb key) ks) =
      least_over (suc key) (filter (ltb key) ks) (omega (arith, h)) (λ k m. omega (arith, ltb-true key k (kept_in_lem (ltb key) ks m).1)) in
      omega (arith, next)

  -- .. and the contracts above are those at the next key or above it
  pub above-held : key < 2000000001 → held (ltb key) ks vs ≡ held (leb (key_above key ks)) ks vs
  unfolding key_above
  above-held h =
      held_same (ltb key) (leb (key_above key ks)) ks vs
      (λ k m e. le-leb (least (filter (ltb key) ks)) k (least_under (in_kept (ltb key) m e)))
      (λ k m e. lt-ltb key k (omega (arith, above-over h, leb-true (key_above key ks) k e)))

  -- the key below is below, and the contracts above it are those at the key or above it
  pub below_under : 1 ≤ key → key_below key ks < key
  unfolding key_below
  below_under h =
      let t : ℕ → Bool = λ (k : ℕ). ltb k key in
      let next : greatest (filter t ks) ≤ key - 1 =
      greatest_under (key - 1) (filter t ks) (λ k m. omega (arith, ltb-true k key (kept_in_lem t ks m).1)) in
      omega (arith, next, h)

  pub below-held : 1 ≤ key → held (ltb (key_below key ks)) ks vs ≡ held (leb key) ks vs
  unfolding key_below
  below-held h =
      let t : ℕ → Bool = λ (k : ℕ). ltb k key in
      held_same (ltb (key_below key ks)) (leb key) ks vs
      (λ k m e. le-leb key k (over k m (ltb-true (key_below key ks) k e) (ltb k key) refl))
      (λ k m e. lt-ltb (key_below key ks) k (omega (arith, below_under h, leb-true key k e)))
    where
      over : (k : ℕ) → Memᴰ k ks → greatest (filter (λ (x : ℕ). ltb x key) ks) < k → (b : Bool) → ltb k key ≡ b → key ≤ k
      over k m l true e = absurd (omega (arith, l, greatest-over (in_kept (λ (x : ℕ). ltb x key) m e)))
      over k m l false e = ltb-false k key e

-- ---- a step

member_most : (b : ℕ) (ks : List ℕ) → ((i : ℕ) → get_or ks i 0 ≤ b) → (k : ℕ) → Memᴰ k ks → k ≤ b
member_most b [] h k m = elim m [ ]
member_most b (x ∷ ks) h k (Memᴰ.head e) = omega (arith, e, h 0)
member_most b (x ∷ ks) h k (Memᴰ.tail m) = member_most b ks (λ i. h (suc i)) k m

-- a level that is not the best, with too few before it, has a key, and too few with those at it
pub not_best : (l : Level) (minimum : ℕ) → is_best l minimum ≡ false → l.before < minimum → (1 ≤ l.key) × (l.before + l.at < minimum)
unfolding is_best
not_best l minimum h few = go (eqb l.key 0) (leb minimum (l.before + l.at)) refl refl (rw (lt-ltb l.before minimum few) at h)
  where
    go : (a b : Bool) → eqb l.key 0 ≡ a → leb minimum (l.before + l.at) ≡ b → a || b ≡ false → (1 ≤ l.key) × (l.before + l.at < minimum)
    go true b e f g = absurd (true≢false g)
    go false true e f g = absurd (true≢false g)
    go false false e f g = (omega (arith, eqb-false l.key 0 e), leb-false minimum (l.before + l.at) f)

-- a choice by whether enough are before
pub where_enough : {A : Type 0} (minimum n : ℕ) (x y : A) → minimum ≤ n → (if leb minimum n then x else y) ≡ x
where_enough minimum n x y h = ap (λ (b : Bool). if b then x else y) (le-leb minimum n h)

pub where_short : {A : Type 0} (minimum n : ℕ) (x y : A) → n < minimum → (if leb minimum n then x else y) ≡ y
where_short minimum n x y h = ap (λ (b : Bool). if b then x else y) (lt-leb minimum n h)

-- a level next to another: with enough before the other, the key is above it, and what was before it is at the new one or before it; else
-- the key is below it, and what was at it or before it is before the new one
pub record Steps (minimum : ℕ) (ks vs : List ℕ) (l r : Level) : Type 0 where
  pub is : r ≡ level_at ks vs r.key
  pub most : r.key ≤ 2000000001
  pub up : minimum ≤ l.before → (l.key < r.key) × (r.before + r.at ≡ l.before)
  pub down : l.before < minimum → r.before ≡ l.before + l.at

module _ (minimum : ℕ) (ks vs : List ℕ) (l : Level) (s : Searchable ks vs l.key) (is : l ≡ level_at ks vs l.key) (some : 1 ≤ minimum) where
  before-held : l.before ≡ held (ltb l.key) ks vs
  unfolding level_at
  before-held = ap (λ (x : Level). x.before) is

  at_held : l.at ≡ held (eqb l.key) ks vs
  unfolding level_at
  at_held = ap (λ (x : Level). x.at) is

  module _ (h : minimum ≤ l.before) where
    some_above : l.key < 2000000001
    some_above =
        let (x, m, e, f) = held_some (λ y. false) (ltb l.key) ks vs (omega (arith, some, h, before-held, held_none ks vs)) in
        omega (arith, ltb-true l.key x e, member_most 2000000001 ks s.keys x m)

    -- what is before it is at the key above it or better
    above_depth : l.before ≡ held (ltb (key_above l.key ks)) ks vs + held (eqb (key_above l.key ks)) ks vs
    above_depth = before-held ∙ above-held ks vs l.key some_above ∙ level_split (key_above l.key ks) ks vs

    next-above : next_key minimum ks l ≡ key_above l.key ks
    unfolding next_key
    next-above = where_enough minimum l.before (key_above l.key ks) (key_below l.key ks) h

    module _ (up there : ℕ) (u : up ≡ key_above l.key ks) (t : there ≡ held (eqb up) ks vs) where
      there_is : there ≡ held (eqb (key_above l.key ks)) ks vs
      there_is = t ∙ ap (λ (k : ℕ). held (eqb k) ks vs) u

      pub there_less : there ≤ l.before
      there_less = omega (arith, there_is, above_depth)

      pub next_up : record { key = up; before = l.before - there; at = there } ≡ next_level minimum ks vs l
      unfolding level_at
      next_up =
          let b : l.before - there ≡ held (ltb up) ks vs =
          let same = ap (λ (k : ℕ). held (ltb k) ks vs) u in
          omega (arith, there_is, above_depth, same) in
          (λ i. record { key = up; before = b i; at = t i }) ∙ ap (level_at ks vs) (u ∙ sym next-above)

    steps_up : Steps minimum ks vs l (next_level minimum ks vs l)
    unfolding level_at
    steps_up =
        let before : held (ltb (next_key minimum ks l)) ks vs ≡ held (ltb (key_above l.key ks)) ks vs = ap (λ (k : ℕ). held (ltb k) ks vs) next-above in
        let at : held (eqb (next_key minimum ks l)) ks vs ≡ held (eqb (key_above l.key ks)) ks vs = ap (λ (k : ℕ). held (eqb k) ks vs) next-above in
        record {
          is = refl;
          most = omega (arith, next-above, above_most ks vs l.key);
          up = λ k. (omega (arith, next-above, above-over ks vs l.key some_above), omega (arith, before, at, above_depth));
          down = λ k. absurd (omega (arith, h, k));
        }

  module _ (few : l.before < minimum) (not_yet : is_best l minimum ≡ false) where
    next-below : next_key minimum ks l ≡ key_below l.key ks
    unfolding next_key
    next-below = where_short minimum l.before (key_above l.key ks) (key_below l.key ks) few

    below-depth : l.before + l.at ≡ held (ltb (key_below l.key ks)) ks vs
    below-depth =
        omega (arith, before-held, at_held, level_split l.key ks vs, below-held ks vs l.key (not_best l minimum not_yet few).0)

    module _ (down there : ℕ) (d : down ≡ key_below l.key ks) (t : there ≡ held (eqb down) ks vs) where
      pub next_down : record { key = down; before = l.before + l.at; at = there } ≡ next_level minimum ks vs l
      unfolding level_at
      next_down =
          let same = ap (λ (k : ℕ). held (ltb k) ks vs) d in
          let b : l.before + l.at ≡ held (ltb down) ks vs = omega (arith, below-depth, same) in
          (λ i. record { key = down; before = b i; at = t i }) ∙ ap (level_at ks vs) (d ∙ sym next-below)

    -- no order has the key of none
    pub next-none : (down : ℕ) → down ≡ key_below l.key ks → down ≡ 0 → held (eqb 0) ks vs ≡ 0
        → record { key = 0; before = l.before + l.at; at = 0 } ≡ next_level minimum ks vs l
    next-none down d z none = next_down 0 0 (sym z ∙ d) (sym none)

    steps_down : Steps minimum ks vs l (next_level minimum ks vs l)
    unfolding level_at
    steps_down =
        let before : held (ltb (next_key minimum ks l)) ks vs ≡ held (ltb (key_below l.key ks)) ks vs = ap (λ (k : ℕ). held (ltb k) ks vs) next-below in
        record {
          is = refl;
          most = omega (arith, next-below, below_under ks vs l.key (not_best l minimum not_yet few).0, s.start_most);
          up = λ k. absurd (omega (arith, few, k));
          down = λ k. omega (arith, before, below-depth);
        }

  pub steps_next : is_best l minimum ≡ false → Steps minimum ks vs l (next_level minimum ks vs l)
  steps_next not_yet = go (leb minimum l.before) refl
    where
      go : (b : Bool) → leb minimum l.before ≡ b → Steps minimum ks vs l (next_level minimum ks vs l)
      go true e = steps_up (leb-true minimum l.before e)
      go false e = steps_down (leb-false minimum l.before e) not_yet
