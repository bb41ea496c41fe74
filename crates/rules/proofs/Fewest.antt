-- The theorem: of all lists of pairs, sorted by offset, lengths at least 1, that cover the numbers that pass and no others, the
-- stretches are the one with the fewest pairs. None has fewer: where a stretch starts, a pair starts. One in which two pairs overlap or
-- touch has more: the two joined, it is a list with one pair less. One in which none do is ours.
use Rattle.std.specs.Prelude.{if◌then◌else◌}
use Prim.Native.Nat.{ℕ, zero, suc, ◌+◌, ◌-◌, ◌≤◌, ◌<◌, max}
use native.Mathlib.Omega.{arith}
use lib.ListN.{length, length-append}
use mathlib.Core.Path.{◌≡◌, refl, sym, ap, ◌∙◌}
use mathlib.Core.Logic.{◌≢◌, ◌⊎◌, inl, inr}
use mathlib.Core.List.{List, [], ◌∷◌}
use mathlib.Core.Bool.{Bool, true, false, true≢false, false≢true, not, ◌&&◌, ◌||◌, or_assoc, or-true}
use lib.Dec.{leb, ltb, eqb}
use borrow.Author.Tests.{lt-ltb, leb-true, leb-false, ltb-true, ltb-false, eq-eqb, eqb-false, not-true}
use Rattle.rules.specs.declared.Row.{Row}
use Rattle.rules.specs.declared.SpreadRule.{SpreadRule}
use Rattle.rules.specs.declared.Event.{Event}
use Rattle.lists.specs.Lists.{any, count_below}
use Rattle.rules.specs.Kept.{kept_at}
use Rattle.rules.specs.Stretches.{Stretch, stretch, stretches, kept_stretches}
use Rattle.rules.specs.Runs.{end, Apart, holds, covers, before}
use Rattle.rules.specs.Fewest.{Sorted, NoneEmpty, Covering, Fewest, FewestKept}
use Rattle.lists.proofs.Lists.{both}
use Rattle.lists.proofs.Counting.{count_more, count_or, count_none, count_is}
use Rattle.rules.proofs.Stretches.{holds_in, stretches-run, stretches_false, stretches-new, stretches-longer, apart_only}

-- ---- as many stretches as starts

-- a number that passes while the one right before it does not
abbrev starts : (ℕ → Bool) → ℕ → Bool
starts p m = p m && not (before p m)

module _ (p : ℕ → Bool) (n : ℕ) where
  only : (b : Bool) → p n ≡ b → (m : ℕ) → n ≤ m → m < n + 1 → p m ≡ b
  only b e m l u = let same : m ≡ n = omega arith in ap p same ∙ e

  next : n + 1 ≡ suc n
  next = omega arith

  one_more : (b c : Bool) → p n ≡ b → before p n ≡ c → length (stretches p (suc n)) ≡ length (stretches p n) + (if b && not c then 1 else 0)
  one_more true true e f =
      let (ss, s, ends, old, new) = stretches-longer p n 1 (omega arith) (only true e) f in
      omega (
        arith,
        ap (λ (k : ℕ). length (stretches p k)) next,
        ap length new,
        length-append ss (stretch s.offset (s.length + 1) ∷ []),
        ap length old,
        length-append ss (s ∷ []),
      )
  one_more true false e f =
      let new = stretches-new p n 1 (omega arith) (only true e) f in
      omega (arith, ap (λ (k : ℕ). length (stretches p k)) next, ap length new, length-append (stretches p n) (stretch n 1 ∷ []))
  one_more false c e f =
      let same = stretches_false p n 1 (only false e) in
      omega (arith, ap (λ (k : ℕ). length (stretches p k)) next, ap length same)

pub stretches-starts : (p : ℕ → Bool) (n : ℕ) → length (stretches p n) ≡ count_below (starts p) n
unfolding stretches count_below
stretches-starts p zero = refl
stretches-starts p (suc n) = one_more p n (p n) (before p n) refl refl ∙ ap (λ (k : ℕ). k + (if starts p n then 1 else 0)) (stretches-starts p n)

-- ---- where a stretch starts, a pair starts

-- whether one of the pairs starts at m
abbrev starts_at : List Stretch → ℕ → Bool
starts_at ss m = any (λ (s : Stretch). eqb s.offset m) ss

-- no more such numbers than pairs
few_starts : (ss : List Stretch) (n : ℕ) → count_below (starts_at ss) n ≤ length ss
unfolding any
few_starts [] n = omega (arith, count_none (starts_at []) n (λ m l. refl))
few_starts (s ∷ ss) n = omega (arith, count_or (eqb s.offset) (starts_at ss) n, count_is s.offset n, few_starts ss n)

held : (m : ℕ) (s : Stretch) → holds m s ≡ true → (s.offset ≤ m) × (m < end s)
held m s e =
    let (h, k) = both (leb s.offset m) (ltb m (end s)) e in
    (leb-true s.offset m h, ltb-true m (end s) k)

or_none : (b c : Bool) → b || c ≡ false → (b ≡ false) × (c ≡ false)
or_none true c e = absurd (true≢false e)
or_none false c e = (refl, e)

-- a pair that holds m, and not the number right before it, starts at m
starts_here : (m : ℕ) (s : Stretch) → holds m s ≡ true → before (λ (k : ℕ). holds k s) m ≡ false → eqb s.offset m ≡ true
starts_here zero s h k = eq-eqb s.offset 0 (omega (arith, (held zero s h).0))
starts_here (suc m) s h k = go (eqb s.offset (suc m)) refl
  where
    go : (b : Bool) → eqb s.offset (suc m) ≡ b → b ≡ true
    go true e = refl
    go false e =
        let (from, to) = held (suc m) s h in
        let later = eqb-false s.offset (suc m) e in
        absurd (true≢false (sym (holds_in m s (omega arith) (omega arith)) ∙ k))

before_or : (p q : ℕ → Bool) (m : ℕ) → before (λ (k : ℕ). p k || q k) m ≡ before p m || before q m
before_or p q zero = refl
before_or p q (suc m) = refl

-- so does one of some pairs
start_of : (m : ℕ) (ss : List Stretch) → covers ss m ≡ true → before (covers ss) m ≡ false → starts_at ss m ≡ true
unfolding covers any
start_of m [] h k = absurd (false≢true h)
start_of m (s ∷ ss) h k =
    let (first, rest) = or_none (before (λ (k : ℕ). holds k s) m) (before (covers ss) m) (sym (before_or (λ (k : ℕ). holds k s) (covers ss) m) ∙ k) in
    go (holds m s) refl first h (λ c. start_of m ss c rest)
  where
    go : (b : Bool) → holds m s ≡ b → before (λ (k : ℕ). holds k s) m ≡ false → b || covers ss m ≡ true
        → (covers ss m ≡ true → starts_at ss m ≡ true) → eqb s.offset m || starts_at ss m ≡ true
    go true e first c further = rw (starts_here m s e first) refl
    go false e first c further = rw (further c) (or-true (eqb s.offset m))

-- the numbers right before those up to n
before_covered : (p : ℕ → Bool) (n : ℕ) (ss : List Stretch) → ((m : ℕ) → covers ss m ≡ ltb m n && p m)
    → (m : ℕ) → m < n → before (covers ss) m ≡ before p m
before_covered p n ss c zero l = refl
before_covered p n ss c (suc m) l = c m ∙ ap (λ (b : Bool). b && p m) (lt-ltb m n (omega arith))

-- so no list has fewer pairs than there are stretches, sorted or not
no_fewer : (p : ℕ → Bool) (n : ℕ) (ss : List Stretch) → ((m : ℕ) → covers ss m ≡ ltb m n && p m) → length (stretches p n) ≤ length ss
no_fewer p n ss c = omega (arith, stretches-starts p n, count_more (starts p) (starts_at ss) n begins, few_starts ss n)
  where
    begins : (m : ℕ) → m < n → starts p m ≡ true → starts_at ss m ≡ true
    begins m l e =
        let (passes, fresh) = both (p m) (not (before p m)) e in
        let within : covers ss m ≡ true = c m ∙ ap (λ (b : Bool). b && p m) (lt-ltb m n l) ∙ passes in
        start_of m ss within (before_covered p n ss c m l ∙ not-true (before p m) fresh)

-- ---- two that overlap or touch

-- as one
abbrev merged : Stretch → Stretch → Stretch
merged s t = stretch s.offset (max (end s) (end t) - s.offset)

same_bool : (b c : Bool) → (b ≡ true → c ≡ true) → (c ≡ true → b ≡ true) → b ≡ c
same_bool true c f g = sym (f refl)
same_bool false true f g = g refl
same_bool false false f g = refl

merged-holds : (m : ℕ) (s t : Stretch) → s.offset ≤ t.offset → t.offset ≤ end s → holds m (merged s t) ≡ holds m s || holds m t
merged-holds m s t h k = same_bool (holds m (merged s t)) (holds m s || holds m t) there (back (holds m s) refl)
  where
    far : (b : Bool) → ltb m (end s) ≡ b → holds m (merged s t) ≡ true → holds m s || holds m t ≡ true
    far true e f =
        let (from, to) = held m (merged s t) f in
        rw (holds_in m s from (ltb-true m (end s) e)) refl
    far false e f =
        let (from, to) = held m (merged s t) f in
        let past = ltb-false m (end s) e in
        rw (holds_in m t (omega arith) (omega arith)) (or-true (holds m s))

    there : holds m (merged s t) ≡ true → holds m s || holds m t ≡ true
    there f = far (ltb m (end s)) refl f

    back : (b : Bool) → holds m s ≡ b → b || holds m t ≡ true → holds m (merged s t) ≡ true
    back true e f =
        let (from, to) = held m s e in
        holds_in m (merged s t) from (omega arith)
    back false e f =
        let (from, to) = held m t f in
        holds_in m (merged s t) (omega arith) (omega arith)

-- a list that holds the same numbers with one pair less
pub record Shorter (ss : List Stretch) : Type 0 where
  pub pairs : List Stretch
  pub less : suc (length pairs) ≡ length ss
  pub same : (m : ℕ) → covers pairs m ≡ covers ss m

merged_shorter : (s t : Stretch) (ss : List Stretch) → s.offset ≤ t.offset → t.offset ≤ end s → Shorter (s ∷ t ∷ ss)
unfolding covers any
merged_shorter s t ss h k =
    record {
      pairs = merged s t ∷ ss;
      less = omega arith;
      same = λ m. rw (merged-holds m s t h k) (or_assoc (holds m s) (holds m t) (covers ss m));
    }

behind_shorter : (s : Stretch) (ss : List Stretch) → Shorter ss → Shorter (s ∷ ss)
unfolding covers any
behind_shorter s ss h =
    record {
      pairs = s ∷ h.pairs;
      less = omega (arith, h.less);
      same = λ m. ap (λ (b : Bool). holds m s || b) (h.same m);
    }

-- a sorted list has gaps between all its pairs, or there is such a list
apart_or_shorter : (a : ℕ) (ss : List Stretch) → Sorted a ss → NoneEmpty ss → Apart a ss ⊎ Shorter ss
apart_or_shorter a [] h k = inl tt
apart_or_shorter a (s ∷ []) h k = inl (h.0, k.0, tt)
apart_or_shorter a (s ∷ t ∷ ss) h k =
    go (leb t.offset (end s)) refl (λ l. apart_or_shorter (end s + 1) (t ∷ ss) (l, h.1.1) k.1)
  where
    further : Apart (end s + 1) (t ∷ ss) ⊎ Shorter (t ∷ ss) → Apart a (s ∷ t ∷ ss) ⊎ Shorter (s ∷ t ∷ ss)
    further (inl apart) = inl (h.0, k.0, apart)
    further (inr shorter) = inr (behind_shorter s (t ∷ ss) shorter)

    go : (b : Bool) → leb t.offset (end s) ≡ b → (end s + 1 ≤ t.offset → Apart (end s + 1) (t ∷ ss) ⊎ Shorter (t ∷ ss))
        → Apart a (s ∷ t ∷ ss) ⊎ Shorter (s ∷ t ∷ ss)
    go true e f = inr (merged_shorter s t ss (omega arith) (leb-true t.offset (end s) e))
    go false e f = let l = leb-false t.offset (end s) e in further (f (omega arith))

-- ---- the theorem

-- a list of pairs that covers the numbers that pass and no others is ours, or has more pairs
ours_or_more : (p : ℕ → Bool) (n : ℕ) (ss : List Stretch) → Covering p n ss → (ss ≡ stretches p n) ⊎ (length (stretches p n) < length ss)
ours_or_more p n ss h = go (apart_or_shorter 0 ss h.sorted h.lengths)
  where
    go : Apart 0 ss ⊎ Shorter ss → (ss ≡ stretches p n) ⊎ (length (stretches p n) < length ss)
    go (inl apart) = inl (apart_only p n ss apart h.covered)
    go (inr shorter) = inr (omega (arith, no_fewer p n shorter.pairs (λ m. shorter.same m ∙ h.covered m), shorter.less))

apart-sorted : (a b : ℕ) (ss : List Stretch) → a ≤ b → Apart b ss → Sorted a ss
apart-sorted a b [] l h = tt
apart-sorted a b (s ∷ ss) l h = (omega arith, apart-sorted s.offset (end s + 1) ss (omega arith) h.2)

apart-lengths : (a : ℕ) (ss : List Stretch) → Apart a ss → NoneEmpty ss
apart-lengths a [] h = tt
apart-lengths a (s ∷ ss) h = (h.1, apart-lengths (end s + 1) ss h.2)

pub fewest : (p : ℕ → Bool) (n : ℕ) → Fewest p n (stretches p n)
fewest p n =
    let r = stretches-run p n in
    record {
      covering =
          record {
            sorted = apart-sorted 0 0 (stretches p n) (omega arith) r.apart;
            lengths = apart-lengths 0 (stretches p n) r.apart;
            covered = r.covered;
          };
      fewer = λ other h differs. omega (arith, go other differs (ours_or_more p n other h));
    }
  where
    go : (other : List Stretch) → other ≢ stretches p n → (other ≡ stretches p n) ⊎ (length (stretches p n) < length other)
        → length (stretches p n) < length other
    go other differs (inl same) = absurd (differs same)
    go other differs (inr more) = more

-- of the kept milliseconds
pub fewest_kept : (row : Row) (sp : SpreadRule) (events : List Event) → FewestKept row sp events (kept_stretches row sp events)
unfolding kept_stretches
fewest_kept row sp events = fewest (kept_at row sp events) row.length.0
