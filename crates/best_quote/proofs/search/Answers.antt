-- `best_quote::search` meets its contract. The outer loop's invariant: the best key found, W3's number and the most of the sums that were
use Prim.Native.Nat.{ℕ, ◌+◌, ◌≤◌, ◌<◌, max}
use native.Mathlib.Omega.{arith}
use mathlib.Core.Path.{◌≡◌, refl, sym, ap, ◌∙◌}
use mathlib.Core.List.{List}
use mathlib.Core.Bool.{Bool, true, false}
use borrow.Author.Tests.{le-leb, lt-leb, le-ltb, lt-ltb}
use lib.Dec.{leb}
use lib.ListN.{length, get_or, take}
use lib.Seq.{take-length}
use Rattle.lists.specs.Lists.{filter}
use Rattle.price_keys.specs.Keys.{quote_at}
use Rattle.best_quote.specs.Levels.{enough, greatest, found_by, short_by, depth_from}
use Rattle.best_quote.specs.Levels as L
use Rattle.best_quote.specs.Sums.{key_sums}
use Rattle.best_quote.proofs.Loops.{held_next, held_fits, held_all, found-better, found_few, found_worse, sums_better, sums_worse}
use Rattle.best_quote.proofs.Short.{short_enough, short_few, short_worse, short_next}
use Rattle.best_quote.proofs.Finding.{finds}
use Rattle.best_quote.proofs.search.Goals as goal

-- where the inner loop is left, the contracts at the candidate's key or better
whole : (ks vs : List ℕ) (key held j : ℕ) → j ≤ length ks → length ks ≤ j → length ks ≡ length vs → held ≡ L.held (leb key) (take j ks) (take j vs)
    → held ≡ L.held (leb key) ks vs
whole ks vs key held j most least even so_far =
    let end : j ≡ length ks = omega arith in
    held_all (leb key) j ks vs held end even so_far

-- where the inner loop is left, whether there are enough at the candidate's key or better
judged : (ks vs : List ℕ) (key held m : ℕ) (b : Bool) → held ≡ L.held (leb key) ks vs → leb m held ≡ b → enough m ks vs key ≡ b
unfolding enough
judged ks vs key held m b all h = ap (leb m) (sym all) ∙ h

-- the contracts at the found key or better: none yet at the start, else its depth
depth_start : (start : ℕ) (ks vs : List ℕ) → depth_from start start ks vs ≡ 0
depth_start start ks vs = rw (le-ltb start start (omega arith)) refl

depth_found : (start found : ℕ) (ks vs : List ℕ) → start < found → depth_from start found ks vs ≡ L.held (leb found) ks vs
depth_found start found ks vs h = rw (lt-ltb start found h) refl

module _ (ks vs : List ℕ) (start m i found sums short : ℕ) (more : i < length ks) where
  -- what the search has come to after a turn
  abbrev After : ℕ → ℕ → ℕ → Type 0
  After f n s =
      (f ≡ found_by start m ks vs (i + 1)) × (n ≡ key_sums (enough m ks vs) start (take (i + 1) ks)) × (s ≡ short_by start m ks vs (i + 1))

  abbrev Before : Type 0
  Before = (found ≡ found_by start m ks vs i) × (sums ≡ key_sums (enough m ks vs) start (take i ks)) × (short ≡ short_by start m ks vs i)

  abbrev key : ℕ
  key = get_or ks i 0

  better : Before → found < key → enough m ks vs key ≡ true → After key (sums + 1) short
  better n h e =
      let s = short_next start m ks vs i more in
      let z = short_enough start m ks vs key e in
      (found-better start m ks vs i found more n.0 h e, sums_better start m ks vs i found sums more n.0 n.1 h, omega (arith, n.2, s, z))

  few : Before → found < key → enough m ks vs key ≡ false → (d t : ℕ) → d ≡ L.held (leb key) ks vs → t ≡ max short d → After found (sums + 1) t
  few n h e d t q r =
      let s = short_next start m ks vs i more in
      let z = short_few start m ks vs key (omega (arith, n.0, h)) e in
      (found_few start m ks vs i found more n.0 e, sums_better start m ks vs i found sums more n.0 n.1 h, omega (arith, n.2, s, z, q, r))

  worse : Before → key ≤ found → After found sums short
  worse n h =
      let s = short_next start m ks vs i more in
      let z = short_worse start m ks vs i key (omega (arith, n.0, h)) in
      (found_worse start m ks vs i found more n.0 h, sums_worse start m ks vs i found sums more n.0 n.1 h, omega (arith, n.2, s, z))

pub candidates-init : goal.candidates-init
unfolding greatest filter key_sums
candidates-init c = (omega arith, omega (arith, c.requires.start_most), omega arith, omega arith, refl, refl, sym (depth_start c.args.start c.args.keys.now c.args.volumes.now))

pub volumes-init : goal.volumes-init
unfolding L.held
volumes-init c = (omega arith, refl)

pub bounds-volumes-j : goal.bounds-volumes-j
bounds-volumes-j c = omega (arith, c.requires.columns.even)

pub sum-held-requires : goal.sum-held-requires
sum-held-requires c =
    let n = c.volumes in
    let a = c.args in
    omega (
      arith,
      held_fits (leb (get_or a.keys.now c.candidates.i 0)) n.j a.keys.now a.volumes.now n.held c.volume_where.result (omega arith) c.requires.columns.even n.invariant.1 c.volume_where.ensures,
      c.requires.columns.small,
    )

pub volumes-preserved : goal.volumes-preserved
volumes-preserved c =
    let n = c.volumes in
    let a = c.args in (
      omega arith,
      c.sum-held.ensures
          ∙ held_next (leb (get_or a.keys.now c.candidates.i 0)) n.j a.keys.now a.volumes.now n.held c.volume_where.result (omega arith) c.requires.columns.even n.invariant.1 c.volume_where.ensures,
    )

pub overflow_add-sums : goal.overflow_add-sums
overflow_add-sums c = omega (arith, c.requires.few)

pub candidates-preserved-then-m-depth : goal.candidates-preserved-then-m-depth
candidates-preserved-then-m-depth c =
    let u = c.candidates in
    let a = c.args in
    let m = a.minimum.0 in
    let key = get_or a.keys.now u.i 0 in
    let all = whole a.keys.now a.volumes.now key c.volumes.held c.volumes.j (omega arith) (omega arith) c.requires.columns.even c.volumes.invariant.1 in
    let e = judged a.keys.now a.volumes.now key c.volumes.held m true all (le-leb m c.volumes.held (omega arith)) in
    let next = better a.keys.now a.volumes.now a.start m u.i u.found u.sums u.short (omega arith) (u.invariant.3, u.invariant.4, u.invariant.5) (omega arith) e in (
      omega arith,
      c.requires.keys u.i,
      omega arith,
      next.0,
      next.1,
      next.2,
      all ∙ sym (depth_found a.start key a.keys.now a.volumes.now (omega (arith, u.invariant.3))),
    )

pub candidates-preserved-else-m-depth : goal.candidates-preserved-else-m-depth
candidates-preserved-else-m-depth c =
    let u = c.candidates in
    let a = c.args in
    let m = a.minimum.0 in
    let key = get_or a.keys.now u.i 0 in
    let all = whole a.keys.now a.volumes.now key c.volumes.held c.volumes.j (omega arith) (omega arith) c.requires.columns.even c.volumes.invariant.1 in
    let e = judged a.keys.now a.volumes.now key c.volumes.held m false all (lt-leb m c.volumes.held (omega arith)) in
    let next =
    few a.keys.now a.volumes.now a.start m u.i u.found u.sums u.short (omega arith) (u.invariant.3, u.invariant.4, u.invariant.5) (omega arith) e c.volumes.held c.max-short.result all c.max-short.ensures in
    (omega arith, omega arith, omega arith, next.0, next.1, next.2, u.invariant.6)

pub candidates-preserved : goal.candidates-preserved
candidates-preserved c =
    let u = c.candidates in
    let a = c.args in
    let next = worse a.keys.now a.volumes.now a.start a.minimum.0 u.i u.found u.sums u.short (omega arith) (u.invariant.3, u.invariant.4, u.invariant.5) (omega arith) in
    (omega arith, omega arith, omega arith, next.0, next.1, next.2, u.invariant.6)

pub returns : goal.returns
returns c =
    let n = c.candidates in
    let a = c.args in
    let ks = a.keys.now in
    let vs = a.volumes.now in
    let m = a.minimum.0 in
    let end : n.i ≡ length ks = omega arith in
    let last = n.invariant.3 ∙ ap (found_by a.start m ks vs) end in
    finds a.side ks vs a.start m
    (record { quote = c.quote_at-quote.result; before = n.short; depth = n.enough; sums = n.sums })
    c.requires.start_most
    (c.quote_at-quote.ensures ∙ ap (quote_at a.side) last) (n.invariant.4 ∙ ap (λ (l : List ℕ). key_sums (enough m ks vs) a.start l) (ap (λ (j : ℕ). take j ks) end ∙ take-length ks))
    (n.invariant.5 ∙ ap (short_by a.start m ks vs) end)
    (n.invariant.6 ∙ ap (λ (k : ℕ). depth_from a.start k ks vs) last)
