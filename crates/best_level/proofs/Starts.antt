-- Guesses, what the search starts from after them, and what it finds.
use Rattle.std.specs.Prelude.{if◌then◌else◌, Some}
use Prim.Native.Nat.{ℕ, suc, ◌+◌, ◌-◌, ◌≤◌, ◌<◌}
use native.Mathlib.Omega.{arith}
use mathlib.Core.Path.{◌≡◌, refl, sym, ap, ◌∙◌, subst}
use mathlib.Core.Logic.{◌⊎◌, inl, inr}
use mathlib.Core.List.{List, [], ◌∷◌, ◌++◌}
use mathlib.Core.Bool.{Bool, true, false, ◌&&◌}
use borrow.Author.Tests.{leb-true, leb-false, ltb-true, ltb-false, lt-ltb, le-ltb}
use lib.Dec.{leb, ltb, eqb}
use lib.ListN.{length, get_or}
use lib.Seq.{take-length}
use Rattle.rules.specs.declared.Side.{Side}
use Rattle.rules.specs.declared.Steps.{Steps as Price}
use Rattle.lists.specs.Lists.{filter}
use Rattle.rules.specs.Units.{good_price}
use Rattle.lists.proofs.Lists.{both}
use Rattle.best_quote.specs.declared.Level.{Level}
use Rattle.best_quote.specs.declared.Searched.{Searched}
use Rattle.price_keys.specs.Keys.{quote_key, quote_at}
use Rattle.best_quote.specs.Levels.{held, enough, greatest, found_by, best_key, level_at, level_of, is_best, Searchable}
use Rattle.best_quote.specs.Searches.{SearchFinds}
use Rattle.best_quote.specs.Sums.{found_with, key_sums}
use Rattle.price_keys.proofs.Keys.{key-quote, good_quote, GoodQuote}
use Rattle.best_quote.proofs.Levels.{held-le, level_split, level_best, start_below, found-end}
use Rattle.order_side.specs.Slots.{Slot, keys_of, volumes_of, level_in, best_key_in, GoodSlots}
use Rattle.best_level.proofs.Parts.{keys_most}
use Rattle.best_level.specs.declared.Guess.{Guess}
use Rattle.best_level.specs.declared.LevelFound.{LevelFound}
use Rattle.best_level.specs.Candidates.{next_key, falls_short, can_be_best}
use Rattle.best_level.specs.CandidateKeys.{key_only, keys_from_change, keys_from_second, keys_from_first, keys_from_old, keys_from}
use Rattle.best_level.specs.Internal.{Open, Searches, BestLevelFound, found_at, next_level, with_level, step_farther, at_change}
use Rattle.best_level.proofs.Counts.{at_most_one}
use Rattle.best_level.proofs.Nexts.{not_best, where_enough, where_short, Steps, steps_next}

-- what is kept of numbers that are at most b
pub greatest_most : (b : ℕ) (t : ℕ → Bool) (ks : List ℕ) → ((i : ℕ) → get_or ks i 0 ≤ b) → greatest (filter t ks) ≤ b
unfolding greatest filter
greatest_most b t [] h = omega arith
greatest_most b t (k ∷ ks) h = go (t k) (h 0) (greatest_most b t ks (λ i. h (suc i)))
  where
    go : (a : Bool) → k ≤ b → greatest (filter t ks) ≤ b → greatest (if a then k ∷ filter t ks else filter t ks) ≤ b
    go true p q = omega arith
    go false p q = q

best_top : (ks vs : List ℕ) (minimum : ℕ) → ((i : ℕ) → get_or ks i 0 ≤ 2000000001) → best_key minimum ks vs ≤ 2000000001
unfolding best_key
best_top ks vs minimum h = greatest_most 2000000001 (enough minimum ks vs) ks h

-- ---- a level

module _ (ks vs : List ℕ) (l : Level) (is : l ≡ level_at ks vs l.key) where
  pub before-held : l.before ≡ held (ltb l.key) ks vs
  unfolding level_at
  before-held = ap (λ (x : Level). x.before) is

  pub depth-held : l.before + l.at ≡ held (leb l.key) ks vs
  unfolding level_at
  depth-held =
      let at : l.at ≡ held (eqb l.key) ks vs = ap (λ (x : Level). x.at) is in
      omega (arith, before-held, at, level_split l.key ks vs)

-- ---- guesses

module _ (minimum : ℕ) (ks vs : List ℕ) where
  -- one that steps lead to: nothing was found where too few are before it, else nothing better than its own price
  pub record Near (g : Guess) : Type 0 where
    pub is : g.level ≡ level_at ks vs g.level.key
    pub most : g.level.key ≤ 2000000001
    pub none : is_best g.level minimum ≡ false → g.level.before < minimum → g.start ≡ 0
    pub at : minimum ≤ g.level.before → g.start ≤ g.level.key

  -- the sums that were made, and those for the candidates that are left
  abbrev pub counted : Guess → List ℕ → ℕ
  counted g rest = g.sums + key_sums (enough minimum ks vs) g.start rest

  -- the level itself, no sum made yet
  abbrev pub known : Level → Guess
  known l = record { level = l; start = 0; sums = 0 }

  -- the candidates that are left after one step, after two, from the changed order on, and after it
  abbrev pub first_keys : ℕ → Level → List ℕ
  first_keys key l = keys_from_first minimum (level_at ks vs) (next_key minimum ks) ks key l

  abbrev pub second_keys : ℕ → Level → List ℕ
  second_keys key l = keys_from_second minimum (level_at ks vs) (next_key minimum ks) ks key l

  abbrev change_keys : ℕ → Level → List ℕ
  change_keys key l = keys_from_change minimum (level_at ks vs) (next_key minimum ks) ks key l

  abbrev pub last_keys : Level → List ℕ
  last_keys l = if is_best l minimum then [] else ks

  -- a level whose key is better than every one found to qualify
  tried_better : (g : Guess) (l : Level) (rest : List ℕ) → l ≡ level_at ks vs l.key → g.start < l.key
      → counted g (l.key ∷ rest) ≡ counted (with_level g l minimum) rest
  unfolding key_sums enough
  tried_better g l rest is h =
      let q = enough minimum ks vs in
      let better = lt-ltb g.start l.key h in
      let there = lt-ltb 0 l.key (omega (arith, h)) in
      let depth : leb minimum (held (leb l.key) ks vs) ≡ leb minimum (l.before + l.at) = ap (leb minimum) (sym (depth-held ks vs l is)) in
      let found : found_with q g.start l.key ≡ found_at minimum g.start l =
      ap (λ (b : Bool). if b && leb minimum (held (leb l.key) ks vs) then l.key else g.start) better
      ∙ ap (λ (b : Bool). if b then l.key else g.start) depth in
      let one : ◌≡◌ {A = ℕ} (if ltb g.start l.key then 1 else 0) 1 = ap (λ (b : Bool). if b then 1 else 0) better in
      let sum : ◌≡◌ {A = ℕ} (if ltb 0 l.key then 1 else 0) 1 = ap (λ (b : Bool). if b then 1 else 0) there in
      let same = ap (λ (f : ℕ). key_sums q f rest) found in
      omega (arith, one, sum, same)

  -- the key of none, with too few
  tried_none : (g : Guess) (l : Level) (rest : List ℕ) → l.key ≡ 0 → l.before + l.at < minimum → counted g rest ≡ counted (with_level g l minimum) rest
  tried_none g l rest z few =
      let q = enough minimum ks vs in
      let same : key_sums q (found_at minimum g.start l) rest ≡ key_sums q g.start rest =
      ap (λ (f : ℕ). key_sums q f rest) (where_short minimum (l.before + l.at) l.key g.start few) in
      let sum : ◌≡◌ {A = ℕ} (if ltb 0 l.key then 1 else 0) 0 = ap (λ (b : Bool). if b then 1 else 0) (le-ltb 0 l.key (omega (arith, z))) in
      omega (arith, same, sum)

  module _ (s : (l : Level) → l.key ≤ 2000000001 → Searchable ks vs l.key) (some : 1 ≤ minimum) (none : held (eqb 0) ks vs ≡ 0) where
    near_steps : (g : Guess) → Near g → is_best g.level minimum ≡ false → Steps minimum ks vs g.level (next_level minimum ks vs g.level)
    near_steps g p not_yet = steps_next minimum ks vs g.level (s g.level p.most) p.is some not_yet

    -- one step further
    pub near_stepped : (g : Guess) → Near g → is_best g.level minimum ≡ false → Near (with_level g (next_level minimum ks vs g.level) minimum)
    near_stepped g p not_yet =
        record {
          is = t.is;
          most = t.most;
          none = λ n few. stays n few (leb minimum g.level.before) refl;
          at = λ h. omega (arith, where_enough minimum (l.before + l.at) l.key g.start (omega (arith, h)));
        }
      where
        l : Level
        l = next_level minimum ks vs g.level

        t : Steps minimum ks vs g.level (next_level minimum ks vs g.level)
        t = near_steps g p not_yet

        stays : is_best l minimum ≡ false → l.before < minimum → (b : Bool) → leb minimum g.level.before ≡ b → found_at minimum g.start l ≡ 0
        stays n few true e =
            let h = leb-true minimum g.level.before e in
            absurd (omega (arith, (t.up h).1, (not_best l minimum n few).1, h))
        stays n few false e =
            where_short minimum (l.before + l.at) l.key g.start (not_best l minimum n few).1
            ∙ p.none not_yet (leb-false minimum g.level.before e)

    pub step-counted : (g : Guess) → Near g → is_best g.level minimum ≡ false → (rest : List ℕ)
        → counted g (key_only (next_key minimum ks g.level) ++ rest) ≡ counted (with_level g (next_level minimum ks vs g.level) minimum) rest
    unfolding key_only level_at
    step-counted g p not_yet rest = go (leb minimum g.level.before) (ltb 0 (next_key minimum ks g.level)) refl refl
      where
        k : ℕ
        k = next_key minimum ks g.level

        l : Level
        l = next_level minimum ks vs g.level

        t : Steps minimum ks vs g.level (next_level minimum ks vs g.level)
        t = near_steps g p not_yet

        go : (b c : Bool) → leb minimum g.level.before ≡ b → ltb 0 (next_key minimum ks g.level) ≡ c
            → counted g ((if c then next_key minimum ks g.level ∷ [] else []) ++ rest) ≡ counted (with_level g (next_level minimum ks vs g.level) minimum) rest
        go true true e f =
            let h = leb-true minimum g.level.before e in
            tried_better g l rest t.is (omega (arith, p.at h, (t.up h).0))
        go true false e f =
            let h = leb-true minimum g.level.before e in
            absurd (omega (arith, (t.up h).0, ltb-false 0 (next_key minimum ks g.level) f))
        go false true e f =
            tried_better g l rest t.is (omega (arith, p.none not_yet (leb-false minimum g.level.before e), ltb-true 0 (next_key minimum ks g.level) f))
        go false false e f =
            let few = leb-false minimum g.level.before e in
            let z : next_key minimum ks g.level ≡ 0 = omega (arith, ltb-false 0 (next_key minimum ks g.level) f) in
            let at : held (eqb (next_key minimum ks g.level)) ks vs ≡ 0 = ap (λ (n : ℕ). held (eqb n) ks vs) z ∙ none in
            tried_none g l rest z (omega (arith, t.down few, at, (not_best g.level minimum not_yet few).1))

    -- one step more, or none
    pub near_farther : (g : Guess) → Near g → is_best g.level minimum ≡ false → Near (step_farther minimum ks vs g)
    near_farther g p not_yet = go (falls_short g.level minimum)
      where
        go : (b : Bool) → Near (if b then g else with_level g (next_level minimum ks vs g.level) minimum)
        go true = p
        go false = near_stepped g p not_yet

    -- ---- the sums along the way

    -- the first step
    pub first_counted : (old : Level) (key : ℕ) → Near (known old) → is_best old minimum ≡ false
        → key_sums (enough minimum ks vs) 0 (keys_from minimum ks vs key old)
        ≡ counted (with_level (known old) (next_level minimum ks vs old) minimum) (first_keys key (next_level minimum ks vs old))
    unfolding keys_from_old
    first_counted old key p not_yet =
        let rest = first_keys key (next_level minimum ks vs old) in
        let is : keys_from minimum ks vs key old ≡ key_only (next_key minimum ks old) ++ rest =
        ap (λ (b : Bool). if b then [] else key_only (next_key minimum ks old) ++ rest) not_yet in
        let same = ap (key_sums (enough minimum ks vs) 0) is in
        omega (arith, same, step-counted (known old) p not_yet rest)

    -- a second one, or none
    pub second-counted : (g : Guess) (key : ℕ) → Near g → is_best g.level minimum ≡ false
        → counted g (first_keys key g.level) ≡ counted (step_farther minimum ks vs g) (second_keys key (step_farther minimum ks vs g).level)
    unfolding keys_from_first keys_from_second
    second-counted g key p not_yet =
        ap (λ (b : Bool). counted g (if b then [] else rest (falls_short g.level minimum))) not_yet ∙ go (falls_short g.level minimum)
      where
        rest : Bool → List ℕ
        rest b =
            if b then change_keys key g.level
            else key_only (next_key minimum ks g.level) ++ second_keys key (next_level minimum ks vs g.level)

        go : (b : Bool) → counted g (rest b)
            ≡ counted (if b then g else with_level g (next_level minimum ks vs g.level) minimum)
            (second_keys key (if b then g else with_level g (next_level minimum ks vs g.level) minimum).level)
        go true = ap (λ (b : Bool). counted g (if b then [] else change_keys key g.level)) (sym not_yet)
        go false = step-counted g p not_yet (second_keys key (next_level minimum ks vs g.level))

  -- the changed order's key is better than every one found where the best level can be there
  change-better : (g : Guess) (key : ℕ) → Near g → is_best g.level minimum ≡ false → can_be_best g.level key minimum ≡ true → g.start < key
  change-better g key p not_yet can = go (leb minimum g.level.before) refl can
    where
      go : (b : Bool) → leb minimum g.level.before ≡ b → (if b then ltb g.level.key key else ltb 0 key && ltb key g.level.key) ≡ true
          → g.start < key
      go true e c = omega (arith, p.at (leb-true minimum g.level.before e), ltb-true g.level.key key c)
      go false e c =
          omega (arith, p.none not_yet (leb-false minimum g.level.before e), ltb-true 0 key (both (ltb 0 key) (ltb key g.level.key) c).0)

  pub change-counted : (g : Guess) (key : ℕ) → Near g → is_best g.level minimum ≡ false
      → counted g (second_keys key g.level) ≡ counted (at_change minimum ks vs g key) (last_keys (at_change minimum ks vs g key).level)
  unfolding keys_from_second keys_from_change level_at
  change-counted g key p not_yet =
      ap (λ (b : Bool). counted g (if b then [] else rest (can_be_best g.level key minimum))) not_yet ∙ go (can_be_best g.level key minimum) refl
    where
      rest : Bool → List ℕ
      rest b = if b then key ∷ last_keys (level_at ks vs key) else ks

      go : (b : Bool) → can_be_best g.level key minimum ≡ b → counted g (rest b)
          ≡ counted (if b then with_level g (level_at ks vs key) minimum else g)
          (last_keys (if b then with_level g (level_at ks vs key) minimum else g).level)
      go true e = tried_better g (level_at ks vs key) (last_keys (level_at ks vs key)) refl (change-better g key p not_yet e)
      go false e = ap (λ (b : Bool). counted g (if b then [] else ks)) (sym not_yet)

  -- where the level is the best, none is left
  pub first_ends : (g : Guess) (key : ℕ) → is_best g.level minimum ≡ true → counted g (first_keys key g.level) ≡ g.sums
  unfolding keys_from_first key_sums
  first_ends g key best =
      ap
      (λ (b : Bool).
      counted g
      (if b then []
      else if falls_short g.level minimum then change_keys key g.level
      else key_only (next_key minimum ks g.level) ++ second_keys key (next_level minimum ks vs g.level)))
      best
      ∙ omega arith

  pub second-ends : (g : Guess) (key : ℕ) → is_best g.level minimum ≡ true → counted g (second_keys key g.level) ≡ g.sums
  unfolding keys_from_second key_sums
  second-ends g key best = ap (λ (b : Bool). counted g (if b then [] else change_keys key g.level)) best ∙ omega arith

  pub last_ends : (g : Guess) → is_best g.level minimum ≡ true → counted g (last_keys g.level) ≡ g.sums
  unfolding key_sums
  last_ends g best = ap (λ (b : Bool). counted g (if b then [] else ks)) best ∙ omega arith

  -- .. else all orders
  pub last_searches : (g : Guess) → is_best g.level minimum ≡ false → counted g (last_keys g.level) ≡ counted g ks
  last_searches g not_yet = ap (λ (b : Bool). counted g (if b then [] else ks)) not_yet

  -- ---- how many sums there are at most

  pub with_sums : (g : Guess) (l : Level) → (with_level g l minimum).sums ≤ g.sums + 1
  with_sums g l = omega (arith, at_most_one (ltb 0 l.key))

  pub farther_sums : (g : Guess) → (step_farther minimum ks vs g).sums ≤ g.sums + 1
  farther_sums g = go (falls_short g.level minimum)
    where
      go : (b : Bool) → (if b then g else with_level g (next_level minimum ks vs g.level) minimum).sums ≤ g.sums + 1
      go true = omega arith
      go false = with_sums g (next_level minimum ks vs g.level)

  pub change_sums : (g : Guess) (key : ℕ) → (at_change minimum ks vs g key).sums ≤ g.sums + 1
  change_sums g key = go (can_be_best g.level key minimum)
    where
      go : (b : Bool) → (if b then with_level g (level_at ks vs key) minimum else g).sums ≤ g.sums + 1
      go true = with_sums g (level_at ks vs key)
      go false = omega arith

  -- ---- the level of the changed order's key, and where a search may start

  pub change_is : (g : Guess) (key : ℕ) → Near g → (at_change minimum ks vs g key).level ≡ level_at ks vs (at_change minimum ks vs g key).level.key
  unfolding level_at
  change_is g key p = go (can_be_best g.level key minimum)
    where
      go : (b : Bool) → (if b then with_level g (level_at ks vs key) minimum else g).level
          ≡ level_at ks vs (if b then with_level g (level_at ks vs key) minimum else g).level.key
      go true = refl
      go false = p.is

  near_start : (g : Guess) → Near g → is_best g.level minimum ≡ false → (g.start ≡ 0) ⊎ (minimum ≤ held (ltb g.start) ks vs)
  near_start g p not_yet = go (leb minimum g.level.before) refl
    where
      go : (b : Bool) → leb minimum g.level.before ≡ b → (g.start ≡ 0) ⊎ (minimum ≤ held (ltb g.start) ks vs)
      go true e =
          let h = leb-true minimum g.level.before e in
          let more : held (ltb g.level.key) ks vs ≤ held (ltb g.start) ks vs =
          held-le (ltb g.level.key) (ltb g.start) ks vs (λ k t. lt-ltb g.start k (omega (arith, p.at h, ltb-true g.level.key k t))) in
          inr (omega (arith, h, before-held ks vs g.level p.is, more))
      go false e = inl (p.none not_yet (leb-false minimum g.level.before e))

  change_start : (g : Guess) (key : ℕ) → Near g → is_best g.level minimum ≡ false → is_best (at_change minimum ks vs g key).level minimum ≡ false
      → ((at_change minimum ks vs g key).start ≡ 0) ⊎ (minimum ≤ held (ltb (at_change minimum ks vs g key).start) ks vs)
  unfolding level_at
  change_start g key p not_yet = go (can_be_best g.level key minimum)
    where
      there : is_best (level_at ks vs key) minimum ≡ false → (b : Bool) → leb minimum (held (ltb key) ks vs) ≡ b
          → (found_at minimum g.start (level_at ks vs key) ≡ 0) ⊎ (minimum ≤ held (ltb (found_at minimum g.start (level_at ks vs key))) ks vs)
      there n true e =
          let h = leb-true minimum (held (ltb key) ks vs) e in
          let is = where_enough minimum (held (ltb key) ks vs + held (eqb key) ks vs) key g.start (omega (arith, h)) in
          inr (subst (λ (k : ℕ). minimum ≤ held (ltb k) ks vs) (sym is) h)
      there n false e =
          let few = (not_best (level_at ks vs key) minimum n (leb-false minimum (held (ltb key) ks vs) e)).1 in
          let is = where_short minimum (held (ltb key) ks vs + held (eqb key) ks vs) key g.start few in
          subst (λ (k : ℕ). (k ≡ 0) ⊎ (minimum ≤ held (ltb k) ks vs)) (sym is) (near_start g p not_yet)

      go : (b : Bool) → is_best (if b then with_level g (level_at ks vs key) minimum else g).level minimum ≡ false
          → ((if b then with_level g (level_at ks vs key) minimum else g).start ≡ 0)
          ⊎ (minimum ≤ held (ltb (if b then with_level g (level_at ks vs key) minimum else g).start) ks vs)
      go true n = there n (leb minimum (held (ltb key) ks vs)) refl
      go false n = near_start g p not_yet

  -- the search after it
  pub change_opens : (g : Guess) (key : ℕ) → Near g → is_best g.level minimum ≡ false → is_best (at_change minimum ks vs g key).level minimum ≡ false
      → 1 ≤ minimum → held (eqb 0) ks vs ≡ 0 → ((i : ℕ) → get_or ks i 0 ≤ 2000000001)
      → Open minimum ks vs (at_change minimum ks vs g key).start × ((at_change minimum ks vs g key).start ≤ 2000000001)
  change_opens g key p not_yet n some none keys =
      let start = change_start g key p not_yet n in
      (record { none = none; below = start }, most start)
    where
      most : {k : ℕ} → (k ≡ 0) ⊎ (minimum ≤ held (ltb k) ks vs) → k ≤ 2000000001
      most {k} (inl e) = omega (arith, e)
      most {k} (inr h) = omega (arith, best_top ks vs minimum keys, start_below minimum ks vs k some h)

-- the level of the old best key
pub near_known : (minimum : ℕ) (ks vs : List ℕ) (l : Level) → l ≡ level_at ks vs l.key → l.key ≤ 2000000001 → Near minimum ks vs (known minimum ks vs l)
near_known minimum ks vs l is most =
    record { is = is; most = most; none = λ n few. refl; at = λ h. omega arith }

-- ---- what the search finds

module _ (side : Side) (ks vs : List ℕ) (start minimum : ℕ) (s : Searchable ks vs start) (r : Searched) (f : SearchFinds side ks vs start minimum r) where
  abbrev key : ℕ
  key = found_by start minimum ks vs (length ks)

  found_most : found_by start minimum ks vs (length ks) ≤ 2000000001
  found_most =
      rw (take-length ks) (omega (arith, s.start_most, greatest_most 2000000001 (enough minimum ks vs) ks s.keys))

  -- a price in its range ..
  pub found_good : GoodQuote r.quote
  found_good = subst GoodQuote (sym f.found) (good_quote side key found_most)

  -- .. whose level is the best one
  module _ (o : Open minimum ks vs start) (some : 1 ≤ minimum) where
    pub start_low : start ≤ best_key minimum ks vs
    start_low = go o.below
      where
        go : (start ≡ 0) ⊎ (minimum ≤ held (ltb start) ks vs) → start ≤ best_key minimum ks vs
        go (inl e) = omega (arith, e)
        go (inr h) = omega (arith, start_below minimum ks vs start some h)

    found-best : key ≡ best_key minimum ks vs
    found-best = found-end minimum ks vs start start_low

    -- where nothing better than the start is found, nothing is at it
    at_start : best_key minimum ks vs ≤ start → held (eqb (best_key minimum ks vs)) ks vs ≡ 0
    at_start h = go o.below
      where
        go : (start ≡ 0) ⊎ (minimum ≤ held (ltb start) ks vs) → held (eqb (best_key minimum ks vs)) ks vs ≡ 0
        go (inl e) =
            let zero-key : best_key minimum ks vs ≡ 0 = omega (arith, e, h) in
            ap (λ (k : ℕ). held (eqb k) ks vs) zero-key ∙ o.none
        go (inr l) = absurd (omega (arith, h, start_below minimum ks vs start some l))

    at-found : r.depth - r.before ≡ held (eqb (best_key minimum ks vs)) ks vs
    at-found = go (ltb start key) refl
      where
        go : (b : Bool) → ltb start key ≡ b → r.depth - r.before ≡ held (eqb (best_key minimum ks vs)) ks vs
        go true e =
            let d : r.depth ≡ held (leb key) ks vs = f.depth ∙ ap (λ (b : Bool). if b then held (leb key) ks vs else 0) e in
            let same = ap (λ (k : ℕ). held (eqb k) ks vs) found-best in
            omega (arith, d, f.before, level_split key ks vs, same)
        go false e =
            let d : r.depth ≡ 0 = f.depth ∙ ap (λ (b : Bool). if b then held (leb key) ks vs else 0) e in
            omega (arith, d, at_start (omega (arith, ltb-false start key e, found-best)))

    pub found_level : (k at : ℕ) → k ≡ quote_key side r.quote → at ≡ r.depth - r.before
        → record { key = k; before = r.before; at = at } ≡ level_of minimum ks vs
    unfolding level_of level_at
    found_level k at e a =
        let is_key : k ≡ best_key minimum ks vs = e ∙ ap (quote_key side) f.found ∙ key-quote side key found_most ∙ found-best in
        let is-before : r.before ≡ held (ltb (best_key minimum ks vs)) ks vs = f.before ∙ ap (λ (x : ℕ). held (ltb x) ks vs) found-best in
        let is_at : at ≡ held (eqb (best_key minimum ks vs)) ks vs = a ∙ at-found in
        λ i. record { key = is_key i; before = is-before i; at = is_at i }

-- the old best key is one of the orders before a change
pub best-key_most : (minimum : ℕ) (before : List Slot) → GoodSlots before → (after : List Slot) (l : Level) → l ≡ level_in after (best_key_in minimum before)
    → l.key ≤ 2000000001
unfolding level_at
best-key_most minimum before g after l e =
    let key : l.key ≡ best_key_in minimum before = ap (λ (x : Level). x.key) e in
    omega (arith, key, best_top (keys_of before) (volumes_of before) minimum (keys_most before g.key_most))

-- ---- the best level from one that is not

module _ (minimum : ℕ) (ks vs : List ℕ) (old : Level) (key : ℕ) where
  -- W3's number for the candidates
  abbrev pub all_sums : ℕ
  all_sums = key_sums (enough minimum ks vs) 0 (keys_from minimum ks vs key old)

  -- a guess that is the best level
  pub sought_guess : (g : Guess) (r : LevelFound) → g.level ≡ level_at ks vs g.level.key → is_best g.level minimum ≡ true → all_sums ≡ g.sums
      → r ≡ record { level = g.level; sums = g.sums } → BestLevelFound minimum ks vs old key r
  sought_guess g r is best n e =
      subst (BestLevelFound minimum ks vs old key) (sym e)
      (record {
        level = is ∙ level_best minimum ks vs g.level.key (ap (λ (l : Level). is_best l minimum) (sym is) ∙ best);
        sums = sym n;
      })

  -- or what the search finds after it
  pub sought_search : (g : Guess) (r : LevelFound) → all_sums ≡ counted minimum ks vs g ks → Searches minimum ks vs g.start g.sums r
      → BestLevelFound minimum ks vs old key r
  sought_search g r n s = record { level = s.level; sums = s.sums ∙ sym n }
