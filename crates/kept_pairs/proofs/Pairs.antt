-- The pairs so far, as time runs on: their number, where the last one starts, and their words in a buffer.
use Prim.Native.Nat.{ℕ, zero, suc, ◌+◌, ◌*◌, ◌-◌, ◌≤◌, ◌<◌}
use native.Mathlib.Omega.{arith}
use mathlib.Core.Path.{◌≡◌, refl, sym, ap, ◌∙◌, subst}
use mathlib.Core.List.{List, [], ◌∷◌, ◌++◌, append-nil}
use mathlib.Core.Bool.{Bool, true, false, false≢true}
use lib.ListN.{length, set, length-append}
use Rattle.rules.specs.Stretches.{Stretch, stretch, stretches, pair_words}
use Rattle.rules.specs.Runs.{before, ends_at, Inside}
use Rattle.rules.proofs.Stretches.{stretches_ext, stretches_false, stretches-new, stretches-longer, stretches_few, stretches-run, stretches-ends, pair_words-append, pair_words-length}
use Rattle.kept_pairs.specs.declared.Marks.{Marks}
use Rattle.record_runs.specs.Internal.{Front, put_words}
use Rattle.kept_pairs.specs.Internal.{last_offset, marks_at, Holds, put_pair, begun_at}
use Rattle.record_runs.proofs.Buffers.{put-fits as words_fit, put_not as words-not, put_front}

-- ---- the last one

last_snoc : (ss : List Stretch) (s : Stretch) → last_offset (ss ++ (s ∷ [])) ≡ s.offset
unfolding last_offset
last_snoc [] s = refl
last_snoc (x ∷ []) s = refl
last_snoc (x ∷ y ∷ ss) s = last_snoc (y ∷ ss) s

last_inside : (n : ℕ) (ss : List Stretch) → Inside n ss → last_offset ss ≤ n
unfolding last_offset
last_inside n [] i = omega arith
last_inside n (s ∷ []) i = omega arith
last_inside n (s ∷ t ∷ ss) i = last_inside n (t ∷ ss) i.1

pub length_snoc : (ss : List Stretch) (s : Stretch) → length (ss ++ (s ∷ [])) ≡ length ss + 1
length_snoc ss s = length-append ss (s ∷ [])

-- ---- the marks

pub before_in : (p : ℕ → Bool) (a b : ℕ) (c : Bool) → a < b → ((k : ℕ) → a ≤ k → k < b → p k ≡ c) → before p b ≡ c
before_in p a zero c l h = absurd (omega arith)
before_in p a (suc n) c l h = h n (omega arith) (omega arith)

pub before_ext : (p q : ℕ → Bool) (n : ℕ) → ((m : ℕ) → m < n → p m ≡ q m) → before p n ≡ before q n
before_ext p q zero h = refl
before_ext p q (suc n) h = h n (omega arith)

marks_path : {a b c d : ℕ} → a ≡ b → c ≡ d → ◌≡◌ {A = Marks} (record { pairs = a; start = c }) (record { pairs = b; start = d })
marks_path x y = λ i. record { pairs = x i; start = y i }

pub marks_ext : (p q : ℕ → Bool) (n : ℕ) → ((m : ℕ) → m < n → p m ≡ q m) → marks_at p n ≡ marks_at q n
unfolding marks_at
marks_ext p q n h =
    let same = stretches_ext p q n h in
    marks_path (ap length same) (ap last_offset same)

module _ (p : ℕ → Bool) (n : ℕ) (m : Marks) (is : m ≡ marks_at p n) where
  pub pairs_are : m.pairs ≡ length (stretches p n)
  unfolding marks_at
  pairs_are = ap (λ (x : Marks). x.pairs) is

  pub start_is : m.start ≡ last_offset (stretches p n)
  unfolding marks_at
  start_is = ap (λ (x : Marks). x.start) is

  pub pairs_few : m.pairs ≤ n + 1
  pairs_few = omega (arith, pairs_are, stretches_few p n)

  pub start_early : m.start ≤ n
  start_early = omega (arith, start_is, last_inside n (stretches p n) (stretches-run p n).inside)

  -- a pair that reaches n is one
  pub last_some : before p n ≡ true → 1 ≤ m.pairs
  unfolding ends_at
  last_some e = go (stretches p n) (pairs_are) (stretches-ends p n ∙ e)
    where
      go : (ss : List Stretch) → m.pairs ≡ length ss → ends_at n ss ≡ true → 1 ≤ m.pairs
      go [] k x = absurd (false≢true x)
      go (s ∷ ss) k x = omega arith

-- ---- the words

pub put-fits : (buffer : List ℕ) (n x y : ℕ) → 2 * n + 2 ≤ length buffer → set (set buffer (2 * n) x) (2 * n + 1) y ≡ put_pair buffer n x y
put-fits buffer n x y h =
    let to : 2 * n + 1 ≡ suc (2 * n) = omega arith in
    ap (λ (k : ℕ). set (set buffer (2 * n) x) k y) to ∙ words_fit buffer (2 * n) (x ∷ y ∷ []) h

pub put_not : (buffer : List ℕ) (n x y : ℕ) → length buffer < 2 * n + 2 → buffer ≡ put_pair buffer n x y
put_not buffer n x y h = words-not buffer (2 * n) (x ∷ y ∷ []) h

-- one more pair, or one in place of the last
holds-put : (base : List ℕ) (ss old : List Stretch) (x y : ℕ) (buffer : List ℕ) → length old ≤ 1 → Holds base (ss ++ old) buffer
    → Holds base (ss ++ (stretch x y ∷ [])) (put_pair buffer (length ss) x y)
unfolding pair_words
holds-put base ss old x y buffer few h =
    let new = x ∷ y ∷ [] in
    let long : length (pair_words old) ≤ 2 = omega (arith, pair_words-length old, few) in
    let put = put_front base (pair_words ss) (pair_words old) new buffer (subst (λ (l : List ℕ). Front base l buffer) (pair_words-append ss old) h) long in
    subst (λ (l : List ℕ). Front base l (put_pair buffer (length ss) x y)) (sym (pair_words-append ss (stretch x y ∷ [])))
    (subst (λ (n : ℕ). Front base (pair_words ss ++ new) (put_words buffer n new)) (pair_words-length ss) put)

-- ---- time runs on from a to b

module _ (p : ℕ → Bool) (a b : ℕ) (m : Marks) (is : m ≡ marks_at p a) (base entry : List ℕ) (h : Holds base (stretches p a) entry) where
  pub grows_still : a ≡ b → (m ≡ marks_at p b) × Holds base (stretches p b) entry
  grows_still e = (is ∙ ap (marks_at p) e, subst (λ (n : ℕ). Holds base (stretches p n) entry) e h)

  pub grows_none : a < b → ((k : ℕ) → a ≤ k → k < b → p k ≡ false)
      → (m ≡ marks_at p b) × Holds base (stretches p b) entry
  unfolding marks_at
  grows_none l f =
      let to : a + (b - a) ≡ b = omega arith in
      let same : stretches p b ≡ stretches p a =
      ap (stretches p) (sym to) ∙ stretches_false p a (b - a) (λ k x y. f k x (omega arith)) in (
        marks_path (pairs_are p a m is ∙ ap length (sym same)) (start_is p a m is ∙ ap last_offset (sym same)),
        subst (λ (ss : List Stretch). Holds base ss entry) (sym same) h,
      )

  -- what the marks and the words become, when all of it passes
  abbrev Goal : Bool → Type 0
  Goal reaches =
      (begun_at m a reaches ≡ marks_at p b)
      × Holds base (stretches p b) (put_pair entry ((begun_at m a reaches).pairs - 1) (begun_at m a reaches).start (b - (begun_at m a reaches).start))

  begins : a < b → ((k : ℕ) → a ≤ k → k < b → p k ≡ true) → before p a ≡ false → Goal false
  unfolding marks_at begun_at
  begins l f e =
      let to : a + (b - a) ≡ b = omega arith in
      let d : 1 ≤ b - a = omega arith in
      let more : stretches p b ≡ stretches p a ++ (stretch a (b - a) ∷ []) =
      ap (stretches p) (sym to) ∙ stretches-new p a (b - a) d (λ k x y. f k x (omega arith)) e in
      let n : m.pairs + 1 ≡ length (stretches p b) = ap (λ (k : ℕ). k + 1) (pairs_are p a m is) ∙ sym (length_snoc (stretches p a) (stretch a (b - a))) ∙ ap length (sym more) in
      let s : a ≡ last_offset (stretches p b) = sym (ap last_offset more ∙ last_snoc (stretches p a) (stretch a (b - a))) in
      let at : m.pairs + 1 - 1 ≡ length (stretches p a) = omega (arith, pairs_are p a m is) in
      let held = holds-put base (stretches p a) [] a (b - a) entry (omega arith) (subst (λ (l : List Stretch). Holds base l entry) (sym (append-nil (stretches p a))) h) in
      (marks_path n s, rw (more, at) held)

  goes_on : a < b → ((k : ℕ) → a ≤ k → k < b → p k ≡ true) → before p a ≡ true → Goal true
  unfolding marks_at begun_at
  goes_on l f e =
      let to : a + (b - a) ≡ b = omega arith in
      let d : 1 ≤ b - a = omega arith in
      let (ss, s, ends, old, new) = stretches-longer p a (b - a) d (λ k x y. f k x (omega arith)) e in
      let more : stretches p b ≡ ss ++ (stretch s.offset (s.length + (b - a)) ∷ []) = ap (stretches p) (sym to) ∙ new in
      let n : length (stretches p a) ≡ length (stretches p b) =
      ap length old ∙ length_snoc ss s ∙ sym (ap length more ∙ length_snoc ss (stretch s.offset (s.length + (b - a)))) in
      let o : last_offset (stretches p a) ≡ last_offset (stretches p b) =
      ap last_offset old ∙ last_snoc ss s ∙ sym (ap last_offset more ∙ last_snoc ss (stretch s.offset (s.length + (b - a)))) in
      let at : m.pairs - 1 ≡ length ss = omega (arith, pairs_are p a m is, ap length old, length_snoc ss s) in
      let from : m.start ≡ s.offset = start_is p a m is ∙ ap last_offset old ∙ last_snoc ss s in
      let long : b - s.offset ≡ s.length + (b - a) = omega arith in
      let held = holds-put base ss (s ∷ []) s.offset (s.length + (b - a)) entry (omega arith) (subst (λ (l : List Stretch). Holds base l entry) old h) in
      (marks_path (pairs_are p a m is ∙ n) (start_is p a m is ∙ o), rw (more, at, from, long) held)

  grows_some : a < b → ((k : ℕ) → a ≤ k → k < b → p k ≡ true) → (reaches : Bool) → before p a ≡ reaches → Goal reaches
  grows_some l f true e = goes_on l f e
  grows_some l f false e = begins l f e

  pub grows_by : a < b → ((k : ℕ) → a ≤ k → k < b → p k ≡ true) → (reaches : Bool) → reaches ≡ before p a → (next : Marks)
      → next ≡ begun_at m a reaches → (exit : List ℕ) → exit ≡ put_pair entry (next.pairs - 1) next.start (b - next.start) → (next ≡ marks_at p b) × Holds base (stretches p b) exit
  grows_by l f reaches r next e exit x =
      let g = grows_some l f reaches (sym r) in
      let same = x ∙ ap (λ (n : Marks). put_pair entry (n.pairs - 1) n.start (b - n.start)) e in
      (e ∙ g.0, subst (Holds base (stretches p b)) (sym same) g.1)

-- ---- the marks when what passes goes on

module _ (m : Marks) (a : ℕ) (reaches : Bool) where
  pub begun_last : reaches ≡ true → m ≡ begun_at m a reaches
  unfolding begun_at
  begun_last e = rw e refl

  pub begun_new : reaches ≡ false → ◌≡◌ {A = Marks} (record { pairs = m.pairs + 1; start = a }) (begun_at m a reaches)
  unfolding begun_at
  begun_new e = rw e refl

bounds : (m : Marks) (a : ℕ) (reaches : Bool) → m.start ≤ a → m.pairs ≤ a + 1 → (reaches ≡ true → 1 ≤ m.pairs)
    → (1 ≤ (begun_at m a reaches).pairs) × ((begun_at m a reaches).pairs ≤ a + 2) × ((begun_at m a reaches).start ≤ a)
unfolding begun_at
bounds m a true s f o = (o refl, omega arith, s)
bounds m a false s f o = (omega arith, omega arith, omega arith)

pub begun_bounds : (m : Marks) (a : ℕ) (reaches : Bool) (next : Marks) → next ≡ begun_at m a reaches → m.start ≤ a → m.pairs ≤ a + 1
    → (reaches ≡ true → 1 ≤ m.pairs) → (1 ≤ next.pairs) × (next.pairs ≤ a + 2) × (next.start ≤ a)
begun_bounds m a reaches next e s f o =
    let b = bounds m a reaches s f o in
    let n = ap (λ (x : Marks). x.pairs) e in
    let t = ap (λ (x : Marks). x.start) e in
    (omega (arith, b.0), omega (arith, b.1), omega (arith, b.2))
