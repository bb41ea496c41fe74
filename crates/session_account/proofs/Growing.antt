-- The stretches so far, as time runs on: their number, where the last one starts and its state, the milliseconds of each state, and the
-- stretches' words in a buffer.
use Rattle.std.specs.Prelude.{if◌then◌else◌}
use Prim.Native.Nat.{ℕ, suc, ◌+◌, ◌*◌, ◌-◌, ◌≤◌, ◌<◌}
use native.Mathlib.Omega.{arith}
use mathlib.Core.Path.{◌≡◌, refl, sym, ap, ◌∙◌, subst}
use mathlib.Core.List.{List, [], ◌∷◌, ◌++◌, append-nil}
use mathlib.Core.Bool.{Bool, true, false}
use lib.Dec.{eqb}
use lib.ListN.{length, set, length-append}
use borrow.Author.Tests.{eqb-true, eq-eqb, ne_eqb}
use Rattle.rules.specs.Units.{millis}
use Rattle.rules.specs.States.{State, kept, has_no_bid, has_no_ask, neither, crossed, wide, state_word}
use Rattle.rules.specs.Accounts.{Part, part, same_state, grown_by, parts, part_words, Tiles}
use Rattle.record_runs.specs.Internal.{Front, put_words}
use Rattle.record_runs.proofs.Buffers.{put-fits as words_fit, put_not as words-not, put_front}
use Rattle.session_account.specs.declared.Times.{Times}
use Rattle.session_account.specs.declared.Marks.{Marks}
use Rattle.session_account.specs.Internal.{last_start, last_word, times_at, marks_at, Holds, put_part, added_to, Addable, begun_at}
use Rattle.session_account.proofs.Parts.{word_most, parts-run, parts-account, tiles_few, time_run, time_most}

-- ---- the last one

start_snoc : (ps : List Part) (p : Part) → last_start (ps ++ (p ∷ [])) ≡ p.offset
unfolding last_start
start_snoc [] p = refl
start_snoc (x ∷ []) p = refl
start_snoc (x ∷ y ∷ ps) p = start_snoc (y ∷ ps) p

word-snoc : (ps : List Part) (p : Part) → last_word (ps ++ (p ∷ [])) ≡ state_word p.state
unfolding last_word
word-snoc [] p = refl
word-snoc (x ∷ []) p = refl
word-snoc (x ∷ y ∷ ps) p = word-snoc (y ∷ ps) p

length_snoc : (ps : List Part) (p : Part) → length (ps ++ (p ∷ [])) ≡ length ps + 1
length_snoc ps p = length-append ps (p ∷ [])

-- one whose state has a word is there
split : (w : ℕ) (ps : List Part) → last_word ps ≡ w → w ≤ 5 → (qs : List Part) × (p : Part) × (ps ≡ qs ++ (p ∷ [])) × (state_word p.state ≡ w)
unfolding last_word
split w [] e l = absurd (omega arith)
split w (p ∷ []) e l = ([], p, refl, e)
split w (p ∷ q ∷ ps) e l =
    let (qs, r, is, at) = split w (q ∷ ps) e l in
    (p ∷ qs, r, ap {B = List Part} (λ l. p ∷ l) is, at)

last_ends : (x n : ℕ) (ps : List Part) (p : Part) → Tiles x n (ps ++ (p ∷ [])) → p.offset + p.length ≡ n
last_ends x n [] p t = omega (arith, t.0, t.2)
last_ends x n (q ∷ ps) p t = last_ends (x + q.length) n ps p t.2

start_most : (x n : ℕ) (ps : List Part) → Tiles x n ps → last_start ps ≤ n
unfolding last_start
start_most x n [] t = omega arith
start_most x n (p ∷ []) t = omega (arith, t.0, t.2)
start_most x n (p ∷ q ∷ ps) t = start_most (x + p.length) n (q ∷ ps) t.2

-- a piece lengthens the last one, or is put after it
grown_last : (s : State) (a d : ℕ) (ps : List Part) (p : Part)
    → grown_by s a d (ps ++ (p ∷ [])) ≡ ps ++ (if same_state p.state s then part p.offset (p.length + d) s ∷ [] else p ∷ part a d s ∷ [])
unfolding grown_by
grown_last s a d [] p = refl
grown_last s a d (x ∷ []) p = refl
grown_last s a d (x ∷ y ∷ ps) p = ap {B = List Part} (λ l. x ∷ l) (grown_last s a d (y ∷ ps) p)

grown-longer : (s : State) (a d : ℕ) (ps : List Part) (p : Part) → state_word p.state ≡ state_word s
    → grown_by s a d (ps ++ (p ∷ [])) ≡ ps ++ (part p.offset (p.length + d) s ∷ [])
grown-longer s a d ps p e = rw (grown_last s a d ps p, eq-eqb (state_word p.state) (state_word s) e) refl

grown-new : (s : State) (a d : ℕ) (ps : List Part) → eqb (last_word ps) (state_word s) ≡ false → grown_by s a d ps ≡ ps ++ (part a d s ∷ [])
unfolding grown_by last_word
grown-new s a d [] e = refl
grown-new s a d (p ∷ []) e = rw e refl
grown-new s a d (p ∷ q ∷ ps) e = ap {B = List Part} (λ l. p ∷ l) (grown-new s a d (q ∷ ps) e)

-- ---- the milliseconds of each state

pub times_path : {a b c d e f a' b' c' d' e' f' : ℕ} → a ≡ a' → b ≡ b' → c ≡ c' → d ≡ d' → e ≡ e' → f ≡ f'
    → ◌≡◌ {A = Times} (record { kept = millis a; no_bid = millis b; no_ask = millis c; neither = millis d; crossed = millis e; wide = millis f })
    (record { kept = millis a'; no_bid = millis b'; no_ask = millis c'; neither = millis d'; crossed = millis e'; wide = millis f' })
times_path a b c d e f = λ i.
    record { kept = millis (a i); no_bid = millis (b i); no_ask = millis (c i); neither = millis (d i); crossed = millis (e i); wide = millis (f i) }

times_run : (f : ℕ → State) (a d : ℕ) (s : State) → ((m : ℕ) → a ≤ m → m < a + d → f m ≡ s) → added_to (times_at f a) (state_word s) d ≡ times_at f (a + d)
unfolding times_at
times_run f a d s h =
    let run = time_run f a d s h in
    times_path (sym (run kept)) (sym (run has_no_bid)) (sym (run has_no_ask)) (sym (run neither)) (sym (run crossed)) (sym (run wide))

-- what counts is the time or none
pub room : (b : Bool) (t d r : ℕ) → r ≡ (if b then d else 0) → t + d ≤ 86400000 → t + r ≤ 86400000
room true t d r e l = omega arith
room false t d r e l = omega arith

addable : (f : ℕ → State) (n d : ℕ) → n + d ≤ 86400000 → Addable (times_at f n) d
unfolding times_at
addable f n d l =
    let most = time_most f n in
    record {
      kept = omega (arith, most kept);
      no_bid = omega (arith, most has_no_bid);
      no_ask = omega (arith, most has_no_ask);
      neither = omega (arith, most neither);
      crossed = omega (arith, most crossed);
      wide = omega (arith, most wide);
    }

-- ---- the marks

marks_path : {a b c d e f : ℕ} {s t : Times} → a ≡ b → c ≡ d → e ≡ f → s ≡ t
    → ◌≡◌ {A = Marks} (record { stretches = a; start = c; state = e; times = s }) (record { stretches = b; start = d; state = f; times = t })
marks_path x y z w = λ i. record { stretches = x i; start = y i; state = z i; times = w i }

module _ (f : ℕ → State) (n : ℕ) (m : Marks) (is : m ≡ marks_at f n) where
  pub stretches_are : m.stretches ≡ length (parts f n)
  unfolding marks_at
  stretches_are = ap (λ (x : Marks). x.stretches) is

  start_is : m.start ≡ last_start (parts f n)
  unfolding marks_at
  start_is = ap (λ (x : Marks). x.start) is

  state_is : m.state ≡ last_word (parts f n)
  unfolding marks_at
  state_is = ap (λ (x : Marks). x.state) is

  pub times_are : m.times ≡ times_at f n
  unfolding marks_at
  times_are = ap (λ (x : Marks). x.times) is

  pub stretches_few : m.stretches ≤ n
  stretches_few = omega (arith, stretches_are, tiles_few 0 n (parts f n) (parts-account f n).whole)

  pub start_early : m.start ≤ n
  start_early = omega (arith, start_is, start_most 0 n (parts f n) (parts-account f n).whole)

  pub last_some : (s : ℕ) → s ≤ 5 → m.state ≡ s → 1 ≤ m.stretches
  last_some s l e =
      let (qs, p, k, at) = split s (parts f n) (sym state_is ∙ e) l in
      omega (arith, stretches_are, ap length k, length_snoc qs p)

  pub times_room : (d : ℕ) → n + d ≤ 86400000 → Addable m.times d
  times_room d l = subst (λ (t : Times). Addable t d) (sym times_are) (addable f n d l)

-- ---- the words

words_append : (ps qs : List Part) → part_words (ps ++ qs) ≡ part_words ps ++ part_words qs
unfolding part_words
words_append [] qs = refl
words_append (p ∷ ps) qs = ap {B = List ℕ} (λ l. p.offset ∷ p.length ∷ state_word p.state ∷ l) (words_append ps qs)

pub words_length : (ps : List Part) → length (part_words ps) ≡ 3 * length ps
unfolding part_words
words_length [] = refl
words_length (p ∷ ps) = let ih = words_length ps in omega arith

pub put-fits : (buffer : List ℕ) (n x y z : ℕ) → 3 * n + 3 ≤ length buffer → set (set (set buffer (3 * n) x) (3 * n + 1) y) (3 * n + 2) z ≡ put_part buffer n x y z
put-fits buffer n x y z h =
    let one : 3 * n + 1 ≡ suc (3 * n) = omega arith in
    let two : 3 * n + 2 ≡ suc (suc (3 * n)) = omega arith in
    (λ i. set (set (set buffer (3 * n) x) (one i) y) (two i) z) ∙ words_fit buffer (3 * n) (x ∷ y ∷ z ∷ []) h

pub put_not : (buffer : List ℕ) (n x y z : ℕ) → length buffer < 3 * n + 3 → buffer ≡ put_part buffer n x y z
put_not buffer n x y z h = words-not buffer (3 * n) (x ∷ y ∷ z ∷ []) h

-- one more stretch, or one in place of the last
holds-put : (base : List ℕ) (ps old : List Part) (x y : ℕ) (s : State) (buffer : List ℕ) → length old ≤ 1 → Holds base (ps ++ old) buffer
    → Holds base (ps ++ (part x y s ∷ [])) (put_part buffer (length ps) x y (state_word s))
unfolding part_words
holds-put base ps old x y s buffer few h =
    let new = x ∷ y ∷ state_word s ∷ [] in
    let long : length (part_words old) ≤ 3 = omega (arith, words_length old, few) in
    let put = put_front base (part_words ps) (part_words old) new buffer (subst (λ (l : List ℕ). Front base l buffer) (words_append ps old) h) long in
    subst (λ (l : List ℕ). Front base l (put_part buffer (length ps) x y (state_word s))) (sym (words_append ps (part x y s ∷ [])))
    (subst (λ (n : ℕ). Front base (part_words ps ++ new) (put_words buffer n new)) (words_length ps) put)

-- ---- time runs on from a to b

module _ (f : ℕ → State) (a b : ℕ) (m : Marks) (is : m ≡ marks_at f a) (base entry : List ℕ) (h : Holds base (parts f a) entry) where
  pub grows_still : a ≡ b → (m ≡ marks_at f b) × Holds base (parts f b) entry
  grows_still e = (is ∙ ap (marks_at f) e, subst (λ (n : ℕ). Holds base (parts f n) entry) e h)

  module _ (l : a < b) (s : State) (stays : (k : ℕ) → a ≤ k → k < b → f k ≡ s) where
    to : a + (b - a) ≡ b
    to = omega arith

    run : parts f b ≡ grown_by s a (b - a) (parts f a)
    run = ap (parts f) (sym to) ∙ parts-run f a (b - a) s (omega arith) (λ k x y. stays k x (omega arith))

    timed : added_to m.times (state_word s) (b - a) ≡ times_at f b
    timed =
        ap (λ (t : Times). added_to t (state_word s) (b - a)) (times_are f a m is)
        ∙ times_run f a (b - a) s (λ k x y. stays k x (omega arith))
        ∙ ap (times_at f) to

    -- what the marks and the words become
    abbrev Goal : Marks → Type 0
    Goal n =
        (◌≡◌ {A = Marks} (record { stretches = n.stretches; start = n.start; state = state_word s; times = added_to m.times (state_word s) (b - a) }) (marks_at f b))
        × Holds base (parts f b) (put_part entry (n.stretches - 1) n.start (b - n.start) (state_word s))

    begins : eqb m.state (state_word s) ≡ false → Goal (record { stretches = m.stretches + 1; start = a; state = state_word s; times = m.times })
    unfolding marks_at
    begins e =
        let p = part a (b - a) s in
        let new : parts f b ≡ parts f a ++ (p ∷ []) = run ∙ grown-new s a (b - a) (parts f a) (ap (λ (w : ℕ). eqb w (state_word s)) (sym (state_is f a m is)) ∙ e) in
        let n : m.stretches + 1 ≡ length (parts f b) = ap (λ (k : ℕ). k + 1) (stretches_are f a m is) ∙ sym (length_snoc (parts f a) p) ∙ ap length (sym new) in
        let at : m.stretches + 1 - 1 ≡ length (parts f a) = omega (arith, stretches_are f a m is) in
        let held = holds-put base (parts f a) [] a (b - a) s entry (omega arith) (subst (λ (l : List Part). Holds base l entry) (sym (append-nil (parts f a))) h) in (
          marks_path n (sym (ap last_start new ∙ start_snoc (parts f a) p)) (sym (ap last_word new ∙ word-snoc (parts f a) p)) timed,
          rw (new, at) held,
        )

    goes_on : eqb m.state (state_word s) ≡ true → Goal m
    unfolding marks_at
    goes_on e =
        let w = sym (state_is f a m is) ∙ eqb-true m.state (state_word s) e in
        let (ps, p, old, at) = split (state_word s) (parts f a) w (word_most s) in
        let q = part p.offset (p.length + (b - a)) s in
        let new : parts f b ≡ ps ++ (q ∷ []) = run ∙ ap (grown_by s a (b - a)) old ∙ grown-longer s a (b - a) ps p at in
        let n : m.stretches ≡ length (parts f b) = stretches_are f a m is ∙ ap length old ∙ length_snoc ps p ∙ sym (ap length new ∙ length_snoc ps q) in
        let from : m.start ≡ p.offset = start_is f a m is ∙ ap last_start old ∙ start_snoc ps p in
        let o : m.start ≡ last_start (parts f b) = from ∙ sym (ap last_start new ∙ start_snoc ps q) in
        let k : m.stretches - 1 ≡ length ps = omega (arith, stretches_are f a m is, ap length old, length_snoc ps p) in
        let ends = last_ends 0 a ps p (subst (Tiles 0 a) old (parts-account f a).whole) in
        let long : p.length + (b - a) ≡ b - m.start = omega arith in
        let held = holds-put base ps (p ∷ []) p.offset (p.length + (b - a)) s entry (omega arith) (subst (λ (l : List Part). Holds base l entry) old h) in
        let same : put_part entry (length ps) p.offset (p.length + (b - a)) (state_word s) ≡ put_part entry (m.stretches - 1) m.start (b - m.start) (state_word s) =
        λ i. put_part entry (sym k i) (sym from i) (long i) (state_word s) in (
          marks_path n o (sym (ap last_word new ∙ word-snoc ps q)) timed,
          subst (λ (l : List Part). Holds base l (put_part entry (m.stretches - 1) m.start (b - m.start) (state_word s))) (sym new) (subst (Holds base (ps ++ (q ∷ []))) same held),
        )

    grows_some : (same : Bool) → eqb m.state (state_word s) ≡ same
        → Goal (if same then m else record { stretches = m.stretches + 1; start = a; state = state_word s; times = m.times })
    grows_some true e = goes_on e
    grows_some false e = begins e

    grows_by : (next : Marks) → next ≡ begun_at m a (state_word s) → (times : Times) → times ≡ added_to m.times (state_word s) (b - a)
        → (exit : List ℕ) → exit ≡ put_part entry (next.stretches - 1) next.start (b - next.start) (state_word s)
        → (◌≡◌ {A = Marks} (record { stretches = next.stretches; start = next.start; state = state_word s; times = times }) (marks_at f b)) × Holds base (parts f b) exit
    unfolding begun_at
    grows_by next e times t exit x =
        let g = grows_some (eqb m.state (state_word s)) refl in
        let same = x ∙ ap (λ (n : Marks). put_part entry (n.stretches - 1) n.start (b - n.start) (state_word s)) e in
        (marks_path (ap (λ (n : Marks). n.stretches) e) (ap (λ (n : Marks). n.start) e) refl t ∙ g.0, subst (Holds base (parts f b)) (sym same) g.1)

    -- the same by the state's word
    pub grows_at : (w : ℕ) → w ≡ state_word s → (next : Marks) → next ≡ begun_at m a w → (times : Times) → times ≡ added_to m.times w (b - a)
        → (exit : List ℕ) → exit ≡ put_part entry (next.stretches - 1) next.start (b - next.start) w
        → (◌≡◌ {A = Marks} (record { stretches = next.stretches; start = next.start; state = w; times = times }) (marks_at f b)) × Holds base (parts f b) exit
    grows_at w e next n times t exit x =
        let g =
        grows_by next (n ∙ ap (begun_at m a) e) times (t ∙ ap (λ (k : ℕ). added_to m.times k (b - a)) e) exit
        (x ∙ ap (put_part entry (next.stretches - 1) next.start (b - next.start)) e) in
        (marks_path refl refl e refl ∙ g.0, g.1)

-- ---- the marks when a state holds

module _ (m : Marks) (a s : ℕ) where
  pub begun_last : m.state ≡ s → m ≡ begun_at m a s
  unfolding begun_at
  begun_last e = rw (eq-eqb m.state s e) refl

  pub begun_new : (m.state ≡ s → ⊥) → ◌≡◌ {A = Marks} (record { stretches = m.stretches + 1; start = a; state = s; times = m.times }) (begun_at m a s)
  unfolding begun_at
  begun_new e = rw (ne_eqb m.state s e) refl

  bounds : (b : Bool) → eqb m.state s ≡ b → m.start ≤ a → m.stretches ≤ a → (m.state ≡ s → 1 ≤ m.stretches) → (next : Marks)
      → next ≡ (if b then m else record { stretches = m.stretches + 1; start = a; state = s; times = m.times })
      → (1 ≤ next.stretches) × (next.stretches ≤ a + 1) × (next.start ≤ a)
  bounds true e st f o next is =
      let n = ap (λ (x : Marks). x.stretches) is in
      let t = ap (λ (x : Marks). x.start) is in
      let k = o (eqb-true m.state s e) in
      (omega arith, omega arith, omega arith)
  bounds false e st f o next is =
      let n = ap (λ (x : Marks). x.stretches) is in
      let t = ap (λ (x : Marks). x.start) is in
      (omega arith, omega arith, omega arith)

  pub begun_bounds : (next : Marks) → next ≡ begun_at m a s → m.start ≤ a → m.stretches ≤ a → (m.state ≡ s → 1 ≤ m.stretches)
      → (1 ≤ next.stretches) × (next.stretches ≤ a + 1) × (next.start ≤ a)
  unfolding begun_at
  begun_bounds next e st f o = bounds (eqb m.state s) refl st f o next e
