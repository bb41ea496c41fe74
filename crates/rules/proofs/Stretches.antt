-- The stretches of a test below a bound, for any test: what they are, that no other list is that, and how they grow.
use Rattle.std.specs.Prelude.{if◌then◌else◌}
use Prim.Native.Nat.{ℕ, zero, suc, ◌+◌, ◌*◌, ◌≤◌, ◌<◌}
use native.Mathlib.Omega.{arith}
use lib.ListN.{length}
use mathlib.Core.Path.{◌≡◌, refl, sym, ap, ◌∙◌}
use mathlib.Core.List.{List, [], ◌∷◌, ◌++◌, map}
use mathlib.Core.Bool.{Bool, true, false, true≢false, false≢true, ◌&&◌, ◌||◌, and-false, or_assoc}
use lib.Dec.{leb, ltb, eqb}
use borrow.Author.Tests.{le-leb, lt-leb, leb-true, leb-false, lt-ltb, le-ltb, ltb-true, ltb-false, eq-eqb, ne_eqb, eqb-true, eqb-false}
use Rattle.rules.specs.declared.Row.{Row}
use Rattle.rules.specs.declared.SpreadRule.{SpreadRule}
use Rattle.rules.specs.declared.Event.{Event}
use Rattle.lists.specs.Lists.{any, sum, count_below}
use Rattle.rules.specs.Kept.{kept_at, kept_below}
use Rattle.rules.specs.Stretches.{Stretch, stretch, grown, grown_if, stretches, kept_stretches, pair_words}
use Rattle.rules.specs.Runs.{end, length_of, Apart, Inside, holds, covers, Runs, before, ends_at, lengthened, extended}

-- ---- by one number

stretches-one : (p : ℕ → Bool) (n : ℕ) (b : Bool) → p n ≡ b → stretches p (suc n) ≡ grown_if b n (stretches p n)
unfolding stretches
stretches-one p n b e = rw e refl

pub stretches_ext : (p q : ℕ → Bool) (n : ℕ) → ((m : ℕ) → m < n → p m ≡ q m) → stretches p n ≡ stretches q n
unfolding stretches
stretches_ext p q zero h = refl
stretches_ext p q (suc n) h =
    let same = stretches_ext p q n (λ m l. h m (omega arith)) in
    rw (same, h n (omega arith)) refl

-- ---- what growing keeps

-- n lengthens the stretch, or starts one
joined-apart : (a n : ℕ) (s : Stretch) (b : Bool) → eqb (end s) n ≡ b → a ≤ s.offset → 1 ≤ s.length → end s ≤ n
    → Apart a (if b then stretch s.offset (s.length + 1) ∷ [] else s ∷ stretch n 1 ∷ [])
joined-apart a n s true e h l i = (h, omega arith, tt)
joined-apart a n s false e h l i = let k = eqb-false (end s) n e in (h, l, (omega arith, omega arith, tt))

grown-apart : (a n : ℕ) (ss : List Stretch) → a ≤ n → Apart a ss → Inside n ss → Apart a (grown n ss)
unfolding grown
grown-apart a n [] l h i = (l, omega arith, tt)
grown-apart a n (s ∷ []) l h i = joined-apart a n s (eqb (end s) n) refl h.0 h.1 i.0
grown-apart a n (s ∷ t ∷ ss) l h i = (h.0, h.1, grown-apart (end s + 1) n (t ∷ ss) (omega arith) h.2 i.1)

joined-inside : (n : ℕ) (s : Stretch) (b : Bool) → eqb (end s) n ≡ b → end s ≤ n
    → Inside (suc n) (if b then stretch s.offset (s.length + 1) ∷ [] else s ∷ stretch n 1 ∷ [])
joined-inside n s true e i = (omega arith, tt)
joined-inside n s false e i = (omega arith, (omega arith, tt))

grown-inside : (n : ℕ) (ss : List Stretch) → Inside n ss → Inside (suc n) (grown n ss)
unfolding grown
grown-inside n [] i = (omega arith, tt)
grown-inside n (s ∷ []) i = joined-inside n s (eqb (end s) n) refl i.0
grown-inside n (s ∷ t ∷ ss) i = (omega arith, grown-inside n (t ∷ ss) i.1)

inside-more : (n : ℕ) (ss : List Stretch) → Inside n ss → Inside (suc n) ss
inside-more n [] i = tt
inside-more n (s ∷ ss) i = (omega arith, inside-more n ss i.1)

joined-total : (n : ℕ) (s : Stretch) (b : Bool)
    → sum (map length_of (if b then stretch s.offset (s.length + 1) ∷ [] else s ∷ stretch n 1 ∷ [])) ≡ s.length + 1
unfolding sum
joined-total n s true = omega arith
joined-total n s false = omega arith

grown-total : (n : ℕ) (ss : List Stretch) → sum (map length_of (grown n ss)) ≡ sum (map length_of ss) + 1
unfolding grown sum
grown-total n [] = omega arith
grown-total n (s ∷ []) = joined-total n s (eqb (end s) n) ∙ omega arith
grown-total n (s ∷ t ∷ ss) = let ih = grown-total n (t ∷ ss) in omega arith

-- ---- which numbers they hold

-- below the next number
ltb_next : (m n : ℕ) → ltb m (suc n) ≡ eqb m n || ltb m n
ltb_next m n = go (eqb m n) (ltb m n) refl refl
  where
    go : (b c : Bool) → eqb m n ≡ b → ltb m n ≡ c → ltb m (suc n) ≡ b || c
    go true c e f = let k = eqb-true m n e in lt-ltb m (suc n) (omega arith)
    go false true e f = let k = ltb-true m n f in lt-ltb m (suc n) (omega arith)
    go false false e f =
        let k = ltb-false m n f in
        let l = eqb-false m n e in
        le-ltb m (suc n) (omega arith)

module _ (m : ℕ) (s : Stretch) where
  pub holds_in : s.offset ≤ m → m < end s → holds m s ≡ true
  holds_in h k = rw (le-leb s.offset m h, lt-ltb m (end s) k) refl

  holds-before : m < s.offset → holds m s ≡ false
  holds-before h = rw (lt-leb s.offset m h) refl

  holds_past : end s ≤ m → holds m s ≡ false
  holds_past h = rw (le-ltb m (end s) h) (and-false (leb s.offset m))

holds-one : (m n : ℕ) → holds m (stretch n 1) ≡ eqb m n
holds-one m n = go (eqb m n) (ltb m n) refl refl
  where
    go : (b c : Bool) → eqb m n ≡ b → ltb m n ≡ c → holds m (stretch n 1) ≡ b
    go true c e f = let k = eqb-true m n e in holds_in m (stretch n 1) (omega arith) (omega arith)
    go false true e f = holds-before m (stretch n 1) (ltb-true m n f)
    go false false e f =
        let k = ltb-false m n f in
        let l = eqb-false m n e in
        holds_past m (stretch n 1) (omega arith)

holds_more : (m : ℕ) (s : Stretch) → holds m (stretch s.offset (s.length + 1)) ≡ eqb m (end s) || holds m s
holds_more m s =
    let to : s.offset + (s.length + 1) ≡ suc (end s) = omega arith in
    rw (to, ltb_next m (end s)) (go (eqb m (end s)) refl)
  where
    go : (b : Bool) → eqb m (end s) ≡ b → leb s.offset m && (b || ltb m (end s)) ≡ b || holds m s
    go true e = let k = eqb-true m (end s) e in rw (le-leb s.offset m (omega arith)) refl
    go false e = refl

or_swap : (a b c : Bool) → a || (b || c) ≡ b || (a || c)
or_swap true true c = refl
or_swap true false c = refl
or_swap false b c = refl

joined-covers : (m n : ℕ) (s : Stretch) (b : Bool) → eqb (end s) n ≡ b
    → any (holds m) (if b then stretch s.offset (s.length + 1) ∷ [] else s ∷ stretch n 1 ∷ []) ≡ eqb m n || (holds m s || false)
unfolding any
joined-covers m n s true e =
    let k = eqb-true (end s) n e in
    rw (holds_more m s, or_assoc (eqb m (end s)) (holds m s) false, ← k) refl
joined-covers m n s false e = rw (holds-one m n) (or_swap (holds m s) (eqb m n) false)

grown-covers : (m n : ℕ) (ss : List Stretch) → covers (grown n ss) m ≡ eqb m n || covers ss m
unfolding grown covers any
grown-covers m n [] = rw (holds-one m n) refl
grown-covers m n (s ∷ []) = joined-covers m n s (eqb (end s) n) refl
grown-covers m n (s ∷ t ∷ ss) = ap (λ (b : Bool). holds m s || b) (grown-covers m n (t ∷ ss)) ∙ or_swap (holds m s) (eqb m n) (covers (t ∷ ss) m)

-- ---- the stretches are what they should be

grown_covered : (p : ℕ → Bool) (n m : ℕ) (ss : List Stretch) (b : Bool) → p n ≡ b → covers ss m ≡ ltb m n && p m
    → covers (grown_if b n ss) m ≡ ltb m (suc n) && p m
grown_covered p n m ss true e h = rw (grown-covers m n ss, h, ltb_next m n) (go (eqb m n) refl)
  where
    go : (b : Bool) → eqb m n ≡ b → b || (ltb m n && p m) ≡ (b || ltb m n) && p m
    go true f = sym (ap p (eqb-true m n f) ∙ e)
    go false f = refl
grown_covered p n m ss false e h = rw (h, ltb_next m n) (go (eqb m n) refl)
  where
    go : (b : Bool) → eqb m n ≡ b → ltb m n && p m ≡ (b || ltb m n) && p m
    go true f =
        let k = eqb-true m n f in
        rw (le-ltb m n (omega arith)) (sym (ap p k ∙ e))
    go false f = refl

grown_runs : (p : ℕ → Bool) (n : ℕ) (ss : List Stretch) (b : Bool) → p n ≡ b → Runs p n ss → Runs p (suc n) (grown_if b n ss)
unfolding count_below
grown_runs p n ss true e h =
    record {
      apart = grown-apart 0 n ss (omega arith) h.apart h.inside;
      inside = grown-inside n ss h.inside;
      covered = λ m. grown_covered p n m ss true e (h.covered m);
      total = rw e (grown-total n ss ∙ ap (λ (x : ℕ). x + 1) h.total);
    }
grown_runs p n ss false e h =
    record {
      apart = h.apart;
      inside = inside-more n ss h.inside;
      covered = λ m. grown_covered p n m ss false e (h.covered m);
      total = rw e (let t = h.total in omega arith);
    }

pub stretches-run : (p : ℕ → Bool) (n : ℕ) → Runs p n (stretches p n)
unfolding stretches covers any sum count_below
stretches-run p zero = record { apart = tt; inside = tt; covered = λ m. rw (le-ltb m 0 (omega arith)) refl; total = refl }
stretches-run p (suc n) = grown_runs p n (stretches p n) (p n) refl (stretches-run p n)

-- ---- no other list is

-- what lies apart from a on holds no number before a
covers-before : (a m : ℕ) (ss : List Stretch) → m < a → Apart a ss → covers ss m ≡ false
unfolding covers any
covers-before a m [] l h = refl
covers-before a m (s ∷ ss) l h = rw (holds-before m s (omega arith), covers-before (end s + 1) m ss (omega arith) h.2) refl

covers-first : (m : ℕ) (s : Stretch) (ss : List Stretch) → s.offset ≤ m → m < end s → covers (s ∷ ss) m ≡ true
unfolding covers any
covers-first m s ss h k = rw (holds_in m s h k) refl

covers_past : (m : ℕ) (s : Stretch) (ss : List Stretch) → end s ≤ m → covers (s ∷ ss) m ≡ covers ss m
unfolding covers any
covers_past m s ss h = rw (holds_past m s h) refl

-- two lists that lie apart and hold the same numbers: the first one of each starts no earlier than the other's, and is no longer
module _ (a : ℕ) (s t : Stretch) (ss ts : List Stretch) (h : Apart a (s ∷ ss)) (k : Apart a (t ∷ ts))
    (c : (m : ℕ) → covers (s ∷ ss) m ≡ covers (t ∷ ts) m) where
  starts_late : t.offset ≤ s.offset
  starts_late = go (leb t.offset s.offset) refl
    where
      go : (b : Bool) → leb t.offset s.offset ≡ b → t.offset ≤ s.offset
      go true e = leb-true t.offset s.offset e
      go false e =
          let l = leb-false t.offset s.offset e in
          let held = covers-first s.offset s ss (omega arith) (omega arith) in
          let none = covers-before t.offset s.offset (t ∷ ts) l (omega arith, k.1, k.2) in
          absurd (true≢false (sym held ∙ c s.offset ∙ none))

  ends-early : s.offset ≡ t.offset → end s ≤ end t
  ends-early same = go (leb (end s) (end t)) refl
    where
      go : (b : Bool) → leb (end s) (end t) ≡ b → end s ≤ end t
      go true e = leb-true (end s) (end t) e
      go false e =
          let l = leb-false (end s) (end t) e in
          let held = covers-first (end t) s ss (omega arith) l in
          let none = covers_past (end t) t ts (omega arith) ∙ covers-before (end t + 1) (end t) ts (omega arith) k.2 in
          absurd (true≢false (sym held ∙ c (end t) ∙ none))

  tails : end s ≡ end t → (m : ℕ) (b : Bool) → leb (end s + 1) m ≡ b → covers ss m ≡ covers ts m
  tails same m true e =
      let l = leb-true (end s + 1) m e in
      sym (covers_past m s ss (omega arith)) ∙ c m ∙ covers_past m t ts (omega arith)
  tails same m false e =
      let l = leb-false (end s + 1) m e in
      covers-before (end s + 1) m ss l h.2 ∙ sym (covers-before (end t + 1) m ts (omega arith) k.2)

stretch_path : (s t : Stretch) → s.offset ≡ t.offset → s.length ≡ t.length → s ≡ t
stretch_path s t e f = λ i. record { offset = e i; length = f i }

apart-same : (a : ℕ) (ss ts : List Stretch) → Apart a ss → Apart a ts → ((m : ℕ) → covers ss m ≡ covers ts m) → ss ≡ ts
unfolding covers any
apart-same a [] [] h k c = refl
apart-same a [] (t ∷ ts) h k c =
    absurd (false≢true (c t.offset ∙ covers-first t.offset t ts (omega arith) (omega arith)))
apart-same a (s ∷ ss) [] h k c =
    absurd (true≢false (sym (covers-first s.offset s ss (omega arith) (omega arith)) ∙ c s.offset))
apart-same a (s ∷ ss) (t ∷ ts) h k c =
    let back : (m : ℕ) → covers (t ∷ ts) m ≡ covers (s ∷ ss) m = λ m. sym (c m) in
    let late = starts_late a s t ss ts h k c in
    let late' = starts_late a t s ts ss k h back in
    let starts : s.offset ≡ t.offset = omega arith in
    let early = ends-early a s t ss ts h k c starts in
    let early' = ends-early a t s ts ss k h back (sym starts) in
    let long : s.length ≡ t.length = omega arith in
    let first = stretch_path s t starts long in
    let rest : Apart (end s + 1) ts = rw first k.2 in
    let tail = apart-same (end s + 1) ss ts h.2 rest (λ m. tails a s t ss ts h k c (omega arith) m (leb (end s + 1) m) refl) in
    rw (first, tail) refl

-- a list with gaps that holds the numbers that pass and no others is ours
pub apart_only : (p : ℕ → Bool) (n : ℕ) (ss : List Stretch) → Apart 0 ss → ((m : ℕ) → covers ss m ≡ ltb m n && p m) → ss ≡ stretches p n
apart_only p n ss h c =
    let r = stretches-run p n in
    apart-same 0 ss (stretches p n) h r.apart (λ m. c m ∙ sym (r.covered m))

pub runs_only : (p : ℕ → Bool) (n : ℕ) (ss : List Stretch) → Runs p n ss → ss ≡ stretches p n
runs_only p n ss h = apart_only p n ss h.apart h.covered

-- ---- by whole pieces

-- a piece on which nothing passes
pub stretches_false : (p : ℕ → Bool) (a d : ℕ) → ((m : ℕ) → a ≤ m → m < a + d → p m ≡ false) → stretches p (a + d) ≡ stretches p a
stretches_false p a zero h = ap (stretches p) (omega arith)
stretches_false p a (suc d) h =
    let to : a + suc d ≡ suc (a + d) = omega arith in
    ap (stretches p) to
    ∙ stretches-one p (a + d) false (h (a + d) (omega arith) (omega arith))
    ∙ stretches_false p a d (λ m l u. h m l (omega arith))

-- only the last stretch grows
grown-behind : (n : ℕ) (s : Stretch) (ss : List Stretch) → 1 ≤ length ss → grown n (s ∷ ss) ≡ s ∷ grown n ss
unfolding grown
grown-behind n s [] l = absurd (omega arith)
grown-behind n s (t ∷ ss) l = refl

extended_some : (a d : ℕ) (ss : List Stretch) → 1 ≤ length (extended a d ss)
unfolding extended
extended_some a d [] = omega arith
extended_some a d (s ∷ []) = go (eqb (end s) a)
  where
    go : (b : Bool) → 1 ≤ length (if b then stretch s.offset (s.length + d) ∷ [] else s ∷ stretch a d ∷ [])
    go true = omega arith
    go false = omega arith
extended_some a d (s ∷ t ∷ ss) = omega arith

-- the next number after a piece
grown-joined : (a d : ℕ) (s : Stretch) (b : Bool) → eqb (end s) a ≡ b
    → grown (a + d) (if b then stretch s.offset (s.length + d) ∷ [] else s ∷ stretch a d ∷ [])
    ≡ (if b then stretch s.offset (s.length + suc d) ∷ [] else s ∷ stretch a (suc d) ∷ [])
unfolding grown
grown-joined a d s true e =
    let k = eqb-true (end s) a e in
    let to : s.length + d + 1 ≡ s.length + suc d = omega arith in
    rw (eq-eqb (s.offset + (s.length + d)) (a + d) (omega arith), to) refl
grown-joined a d s false e =
    let to : d + 1 ≡ suc d = omega arith in
    rw (eq-eqb (a + d) (a + d) refl, to) refl

grown-extended : (a d : ℕ) (ss : List Stretch) → grown (a + d) (extended a d ss) ≡ extended a (suc d) ss
unfolding grown extended
grown-extended a d [] =
    let to : d + 1 ≡ suc d = omega arith in
    rw (eq-eqb (a + d) (a + d) refl, to) refl
grown-extended a d (s ∷ []) = grown-joined a d s (eqb (end s) a) refl
grown-extended a d (s ∷ t ∷ ss) =
    grown-behind (a + d) s (extended a d (t ∷ ss)) (extended_some a d (t ∷ ss))
    ∙ ap {B = List Stretch} (λ l. s ∷ l) (grown-extended a d (t ∷ ss))

grown_is : (n : ℕ) (ss : List Stretch) → grown n ss ≡ extended n 1 ss
unfolding grown extended
grown_is n [] = refl
grown_is n (s ∷ []) = refl
grown_is n (s ∷ t ∷ ss) = ap {B = List Stretch} (λ l. s ∷ l) (grown_is n (t ∷ ss))

-- a piece on which all pass
stretches_true : (p : ℕ → Bool) (a d : ℕ) → 1 ≤ d → ((m : ℕ) → a ≤ m → m < a + d → p m ≡ true)
    → stretches p (a + d) ≡ extended a d (stretches p a)
stretches_true p a zero l h = absurd (omega arith)
stretches_true p a (suc zero) l h =
    let to : a + 1 ≡ suc a = omega arith in
    ap (stretches p) to ∙ stretches-one p a true (h a (omega arith) (omega arith)) ∙ grown_is a (stretches p a)
stretches_true p a (suc (suc d)) l h =
    let to : a + suc (suc d) ≡ suc (a + suc d) = omega arith in
    let ih = stretches_true p a (suc d) (omega arith) (λ m l u. h m l (omega arith)) in
    ap (stretches p) to
    ∙ stretches-one p (a + suc d) true (h (a + suc d) (omega arith) (omega arith))
    ∙ ap (grown (a + suc d)) ih
    ∙ grown-extended a (suc d) (stretches p a)

-- ---- where the last one ends

ends-behind : (a : ℕ) (s : Stretch) (ss : List Stretch) → 1 ≤ length ss → ends_at a (s ∷ ss) ≡ ends_at a ss
unfolding ends_at
ends-behind a s [] l = absurd (omega arith)
ends-behind a s (t ∷ ss) l = refl

extended-ends : (a d : ℕ) (ss : List Stretch) → ends_at (a + d) (extended a d ss) ≡ true
unfolding extended ends_at
extended-ends a d [] = eq-eqb (a + d) (a + d) refl
extended-ends a d (s ∷ []) = go (eqb (end s) a) refl
  where
    go : (b : Bool) → eqb (end s) a ≡ b
        → ends_at (a + d) (if b then stretch s.offset (s.length + d) ∷ [] else s ∷ stretch a d ∷ []) ≡ true
    go true e = let k = eqb-true (end s) a e in eq-eqb (s.offset + (s.length + d)) (a + d) (omega arith)
    go false e = eq-eqb (a + d) (a + d) refl
extended-ends a d (s ∷ t ∷ ss) = ends-behind (a + d) s (extended a d (t ∷ ss)) (extended_some a d (t ∷ ss)) ∙ extended-ends a d (t ∷ ss)

inside-ends : (n : ℕ) (ss : List Stretch) → Inside n ss → ends_at (suc n) ss ≡ false
unfolding ends_at
inside-ends n [] i = refl
inside-ends n (s ∷ []) i = ne_eqb (end s) (suc n) (λ k. omega arith)
inside-ends n (s ∷ t ∷ ss) i = inside-ends n (t ∷ ss) i.1

-- at n exactly if the number right before n passes
pub stretches-ends : (p : ℕ → Bool) (n : ℕ) → ends_at n (stretches p n) ≡ before p n
unfolding stretches ends_at
stretches-ends p zero = refl
stretches-ends p (suc n) = go (p n)
  where
    go : (b : Bool) → ends_at (suc n) (grown_if b n (stretches p n)) ≡ b
    go true =
        let to : suc n ≡ n + 1 = omega arith in
        rw (to, grown_is n (stretches p n)) (extended-ends n 1 (stretches p n))
    go false = inside-ends n (stretches p n) (stretches-run p n).inside

-- the last one is lengthened, or one is put after it
extended_last : (a d : ℕ) (ss : List Stretch) (s : Stretch) → extended a d (ss ++ (s ∷ [])) ≡ ss ++ lengthened a d s
unfolding extended
extended_last a d [] s = refl
extended_last a d (x ∷ []) s = refl
extended_last a d (x ∷ y ∷ ss) s = ap {B = List Stretch} (λ l. x ∷ l) (extended_last a d (y ∷ ss) s)

extended-longer : (a d : ℕ) (ss : List Stretch) (s : Stretch) → end s ≡ a
    → extended a d (ss ++ (s ∷ [])) ≡ ss ++ (stretch s.offset (s.length + d) ∷ [])
extended-longer a d ss s e = rw (extended_last a d ss s, eq-eqb (end s) a e) refl

extended-new : (a d : ℕ) (ss : List Stretch) → ends_at a ss ≡ false → extended a d ss ≡ ss ++ (stretch a d ∷ [])
unfolding extended ends_at
extended-new a d [] e = refl
extended-new a d (s ∷ []) e = rw e refl
extended-new a d (s ∷ t ∷ ss) e = ap {B = List Stretch} (λ l. s ∷ l) (extended-new a d (t ∷ ss) e)

ends_split : (a : ℕ) (ss : List Stretch) → ends_at a ss ≡ true → (ts : List Stretch) × (s : Stretch) × (ss ≡ ts ++ (s ∷ [])) × (end s ≡ a)
unfolding ends_at
ends_split a [] e = absurd (false≢true e)
ends_split a (s ∷ []) e = ([], s, refl, eqb-true (end s) a e)
ends_split a (s ∷ t ∷ ss) e =
    let (ts, u, k, l) = ends_split a (t ∷ ss) e in
    (s ∷ ts, u, ap {B = List Stretch} (λ l. s ∷ l) k, l)

module _ (p : ℕ → Bool) (a d : ℕ) (l : 1 ≤ d) (h : (m : ℕ) → a ≤ m → m < a + d → p m ≡ true) where
  pub stretches-new : before p a ≡ false → stretches p (a + d) ≡ stretches p a ++ (stretch a d ∷ [])
  stretches-new e = stretches_true p a d l h ∙ extended-new a d (stretches p a) (stretches-ends p a ∙ e)

  pub stretches-longer : before p a ≡ true
      → (ss : List Stretch) × (s : Stretch) × (end s ≡ a) × (stretches p a ≡ ss ++ (s ∷ []))
      × (stretches p (a + d) ≡ ss ++ (stretch s.offset (s.length + d) ∷ []))
  stretches-longer e =
      let (ss, s, k, f) = ends_split a (stretches p a) (stretches-ends p a ∙ e) in
      (ss, s, f, k, stretches_true p a d l h ∙ ap (extended a d) k ∙ extended-longer a d ss s f)

-- ---- how many

-- each but the last takes two numbers at least
apart_few : (a n : ℕ) (ss : List Stretch) → a ≤ n + 1 → Apart a ss → Inside n ss → a + 2 * length ss ≤ n + 1
apart_few a n [] l h i = omega arith
apart_few a n (s ∷ ss) l h i = let ih = apart_few (end s + 1) n ss (omega arith) h.2 i.1 in omega arith

pub stretches_few : (p : ℕ → Bool) (n : ℕ) → 2 * length (stretches p n) ≤ n + 1
stretches_few p n =
    let r = stretches-run p n in
    let k = apart_few 0 n (stretches p n) (omega arith) r.apart r.inside in
    omega arith

-- ---- the pairs as words

pub pair_words-append : (ss ts : List Stretch) → pair_words (ss ++ ts) ≡ pair_words ss ++ pair_words ts
unfolding pair_words
pair_words-append [] ts = refl
pair_words-append (s ∷ ss) ts = ap {B = List ℕ} (λ l. s.offset ∷ s.length ∷ l) (pair_words-append ss ts)

pub pair_words-length : (ss : List Stretch) → length (pair_words ss) ≡ 2 * length ss
unfolding pair_words
pair_words-length [] = refl
pair_words-length (s ∷ ss) = let ih = pair_words-length ss in omega arith

-- ---- the kept ones

pub kept_run : (row : Row) (sp : SpreadRule) (events : List Event) → Runs (kept_at row sp events) row.length.0 (kept_stretches row sp events)
unfolding kept_stretches
kept_run row sp events = stretches-run (kept_at row sp events) row.length.0

-- their lengths add up to K "after close, below L"
pub kept-total : (row : Row) (sp : SpreadRule) (events : List Event)
    → sum (map length_of (kept_stretches row sp events)) ≡ kept_below row sp events row.length.0
unfolding kept_below
kept-total row sp events = (kept_run row sp events).total
