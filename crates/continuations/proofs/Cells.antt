-- Cells of milliseconds that are kept or not, whatever the reason: the best that may follow is that all is kept, and how many are needed.
use Rattle.std.specs.Prelude.{if◌then◌else◌}
use Prim.Native.Nat.{ℕ, zero, suc, ◌+◌, ◌-◌, ◌*◌, ◌≤◌, ◌<◌}
use native.Mathlib.Nat.{lt_irrefl, lt_of_lt_of_le, lt_of_not-le}
use native.Mathlib.Omega.{arith}
use mathlib.Core.Path.{◌≡◌, refl, sym, ap, ◌∙◌}
use mathlib.Core.Bool.{Bool, true, false, not, false≢true, ◌&&◌, ◌||◌}
use lib.Dec.{leb, eqb}
use lib.ListN.{length}
use borrow.Author.Tests.{leb-true, leb-false, le-leb, lt-leb, lt-ltb, le-ltb}
use Rattle.rules.specs.declared.Row.{Row}
use Rattle.rules.specs.declared.Opening.{Opening}
use Rattle.rules.specs.declared.LapsesLeft.TheVariants.{Unlimited, Over, Left}
use Rattle.lists.specs.Lists.{count_below}
use Rattle.rules.specs.Terms.{paper}
use Rattle.rules.specs.Units.{millis, kopecks}
use Rattle.rules.specs.Runs.{before}
use Rattle.rules.specs.Lapses.{missing, lapses, begins, lapse_starts, no_lapse_limit, within_lapse_limit}
use Rattle.rules.specs.Pay.{met, cell_met}
use Rattle.rules.specs.Outlook.{need_of, resting_till, cell_of, lapses_left}
use Rattle.continuations.specs.Continuations.{may_lapse}
use Rattle.lists.proofs.Counting.{count_ext, count_more, count_stretch}
use Rattle.rules.proofs.Stretches.{stretches_ext}
use Rattle.rules.proofs.Lapses.{lapses-counted}
use Rattle.lists.proofs.Lists.{both, and}

-- ---- the same milliseconds, the same cell

module _ (row : Row) (opening : Opening) where
  pub same_cell : (p q : ℕ → Bool) → ((m : ℕ) → m < row.length.0 → p m ≡ q m) → cell_of row opening p ≡ cell_of row opening q
  unfolding lapses
  same_cell p q h =
      let kept = count_ext p q row.length.0 h in
      let gone = ap length (stretches_ext (missing p) (missing q) row.length.0 (λ m l. ap not (h m l))) in
      λ i. record {
        filled = true;
        kept = millis (kept i);
        length = row.length;
        share = row.share;
        allowed = opening.allowed;
        lapses = gone i;
        active = kopecks 0;
        passive = kopecks 0;
      }

-- ---- resting and keeping

module _ (p : ℕ → Bool) (t s : ℕ) where
  pub resting_below : (m : ℕ) → m < t → resting_till p t s m ≡ p m
  resting_below m h = rw (lt-ltb m t h) refl

  pub resting_from : (m : ℕ) → t ≤ m → resting_till p t s m ≡ leb s m
  resting_from m h = rw (le-ltb m t h) refl

-- ---- nothing is better than keeping all that is left

before_same : (p q : ℕ → Bool) (t m : ℕ) → ((k : ℕ) → k < t → q k ≡ p k) → m ≤ t → before q m ≡ before p m
before_same p q t zero h l = refl
before_same p q t (suc m) h l = h m (omega arith)

-- no more lapses are within the limit where more are
pub within_fewer : (allowed a b : ℕ) → a ≤ b → within_lapse_limit allowed b ≡ true → within_lapse_limit allowed a ≡ true
unfolding within_lapse_limit
within_fewer allowed a b h w = go (eqb allowed no_lapse_limit) w
  where
    go : (t : Bool) → (t || leb b allowed) ≡ true → (t || leb a allowed) ≡ true
    go true w = refl
    go false w = let k = leb-true b allowed w in le-leb a allowed (omega arith)

met-more : (a b length share : ℕ) → a ≤ b → met paper a length share ≡ true → met paper b length share ≡ true
unfolding met
met-more a b length share h m = let k = leb-true (share * length) (1000 * a) m in le-leb (share * length) (1000 * b) (omega arith)

-- q is as p below t and keeps nothing from t to s: it is no better than keeping all from s on
module _ (row : Row) (opening : Opening) (p q : ℕ → Bool) (t s : ℕ) (onward : t ≤ s) (same : (m : ℕ) → m < t → q m ≡ p m)
    (rests : (m : ℕ) → t ≤ m → m < s → q m ≡ false) where
  agree : (m : ℕ) → m < s → q m ≡ resting_till p t s m
  agree m l = go (leb t m) refl
    where
      go : (b : Bool) → leb t m ≡ b → q m ≡ resting_till p t s m
      go true e = let late = leb-true t m e in rests m late l ∙ sym (resting_from p t s m late ∙ lt-leb s m l)
      go false e = let early = leb-false t m e in same m early ∙ sym (resting_below p t s m early)

  kept_from : (m : ℕ) → s ≤ m → resting_till p t s m ≡ true
  kept_from m l = resting_from p t s m (omega arith) ∙ le-leb s m l

  -- what is kept then is kept if all from s on is
  kept_then : (m : ℕ) → q m ≡ true → resting_till p t s m ≡ true
  kept_then m h = go (leb s m) refl
    where
      go : (b : Bool) → leb s m ≡ b → resting_till p t s m ≡ true
      go true e = kept_from m (leb-true s m e)
      go false e = sym (agree m (leb-false s m e)) ∙ h

  pub kept_more : (n : ℕ) → count_below q n ≤ count_below (resting_till p t s) n
  kept_more n = count_more q (resting_till p t s) n (λ m l. kept_then m)

  -- a lapse that begins there, begins then too
  begins-then : (m : ℕ) → lapse_starts (resting_till p t s) m ≡ true → lapse_starts q m ≡ true
  begins-then m h = go (leb s m) refl
    where
      go : (b : Bool) → leb s m ≡ b → lapse_starts q m ≡ true
      go true e =
          let first = (both (missing (resting_till p t s) m) (begins (resting_till p t s) m) h).0 in
          absurd (false≢true (sym (ap not (kept_from m (leb-true s m e))) ∙ first))
      go false e =
          let early = leb-false s m e in
          let (a, b) = both (missing (resting_till p t s) m) (begins (resting_till p t s) m) h in
          let there = before_same (resting_till p t s) q s m agree (omega arith) in
          and (ap not (agree m early) ∙ a) (ap (λ (x : Bool). eqb m 0 || x) there ∙ b)

  pub best_is_keeping : cell_met paper (cell_of row opening q) ≡ true → cell_met paper (cell_of row opening (resting_till p t s)) ≡ true
  best_is_keeping h =
      let n = row.length.0 in
      let (share, few) = both (met paper (count_below q n) n row.share) (within_lapse_limit opening.allowed (length (lapses q n))) h in
      let starts = count_more (lapse_starts (resting_till p t s)) (lapse_starts q) n (λ m l. begins-then m) in
      let a = lapses-counted (resting_till p t s) n in
      let b = lapses-counted q n in
      and (met-more (count_below q n) (count_below (resting_till p t s) n) n row.share (kept_more n) share)
      (within_fewer opening.allowed (length (lapses (resting_till p t s) n)) (length (lapses q n)) (omega arith) few)

-- the milliseconds from t on, counted apart
pub count_from_lem : (q : ℕ → Bool) (t d : ℕ) → count_below q (t + d) ≡ count_below q t + count_below (λ (i : ℕ). q (t + i)) d
unfolding count_below
count_from_lem q t zero = let e : t + 0 ≡ t = omega arith in ap (count_below q) e ∙ omega arith
count_from_lem q t (suc d) =
    let e : t + suc d ≡ suc (t + d) = omega arith in
    let ih = count_from_lem q t d in
    ap (count_below q) e ∙ omega (arith, ih)

-- all of them, where each passes
pub count_all : (q : ℕ → Bool) (n : ℕ) → ((m : ℕ) → m < n → q m ≡ true) → count_below q n ≡ n
unfolding count_below
count_all q zero h = refl
count_all q (suc n) h = rw (h n (omega arith)) (let ih = count_all q n (λ m l. h m (omega arith)) in omega arith)

-- tests of numbers that follow from each other
same_test : (a b c d : ℕ) → (a ≤ b → c ≤ d) → (c ≤ d → a ≤ b) → leb a b ≡ leb c d
same_test a b c d f g = go (leb c d) refl
  where
    go : (x : Bool) → leb c d ≡ x → leb a b ≡ x
    go true e = le-leb a b (g (leb-true c d e))
    go false e = lt-leb a b (lt_of_not-le (λ l. absurd (lt_irrefl d (lt_of_lt_of_le (leb-false c d e) (f l)))))

-- ---- lapses begun by t

module _ (p q : ℕ → Bool) (t : ℕ) (same : (m : ℕ) → m < t → q m ≡ p m) where
  starts-same : count_below (lapse_starts q) t ≡ count_below (lapse_starts p) t
  starts-same =
      count_ext (lapse_starts q) (lapse_starts p) t
      (λ m l i. not (same m l i) && (eqb m 0 || before_same p q t m same (omega arith) i))

  -- they stay, and those that begin later are added
  pub lapses_added : (d : ℕ) → length (lapses q (t + d)) ≡ length (lapses p t) + count_below (λ (i : ℕ). lapse_starts q (t + i)) d
  lapses_added d =
      lapses-counted q (t + d)
      ∙ count_from_lem (lapse_starts q) t d
      ∙ ap (λ (n : ℕ). n + count_below (λ (i : ℕ). lapse_starts q (t + i)) d) (starts-same ∙ sym (lapses-counted p t))

  -- and are all, where everything from t on is kept
  pub lapses-kept : (d : ℕ) → ((m : ℕ) → t ≤ m → m < t + d → q m ≡ true) → length (lapses q (t + d)) ≡ length (lapses p t)
  lapses-kept d h =
      lapses-counted q (t + d)
      ∙ count_stretch (lapse_starts q) t d false (λ m l u. ap (λ (b : Bool). not b && begins q m) (h m l u))
      ∙ (let e : count_below (lapse_starts q) t + 0 ≡ count_below (lapse_starts q) t = omega arith in e)
      ∙ starts-same
      ∙ sym (lapses-counted p t)

-- how many more may begin
pub may_lapse_lem : (allowed so_far more : ℕ) → within_lapse_limit allowed (so_far + more) ≡ may_lapse (lapses_left allowed so_far) more
unfolding within_lapse_limit
may_lapse_lem allowed so_far more = go (eqb allowed no_lapse_limit) (leb so_far allowed) refl
  where
    go : (none few : Bool) → leb so_far allowed ≡ few
        → (none || leb (so_far + more) allowed) ≡ may_lapse (if none then Unlimited else (if few then Left (allowed - so_far) else Over)) more
    go true few e = refl
    go false false e = let over = leb-false so_far allowed e in lt-leb (so_far + more) allowed (omega arith)
    go false true e = let fits = leb-true so_far allowed e in same_test (so_far + more) allowed more (allowed - so_far) (λ l. omega arith) (λ l. omega arith)

-- ---- how many are needed

-- enough is what rounding up says
pub enough-met : (kept more length share : ℕ) → need_of paper kept length share ≤ more → met paper (kept + more) length share ≡ true
unfolding met
enough-met kept more length share h = le-leb (share * length) (1000 * (kept + more)) (omega arith)

pub met-enough : (kept more length share : ℕ) → met paper (kept + more) length share ≡ true → need_of paper kept length share ≤ more
unfolding met
met-enough kept more length share h = let k = leb-true (share * length) (1000 * (kept + more)) h in omega arith
