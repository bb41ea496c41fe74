-- The orders from the place on and before i are noted.
use Prim.Native.Nat.{ℕ, suc, ◌+◌, ◌-◌, ◌*◌, ◌≤◌}
use native.Mathlib.Omega.{arith}
use mathlib.Core.Path.{◌≡◌, refl, sym, ap, ◌∙◌}
use mathlib.Core.List.{List}
use lib.ListN.{length, get_or}
use Rattle.order_table.specs.Internal.{noted, rehinted}
use Rattle.order_table.proofs.rehint.Goals as goal

module _ (table : List ℕ) (s place : ℕ) (before : List ℕ) where
  none_noted : before ≡ rehinted table s place (place - place) before
  unfolding rehinted
  none_noted = let e : 0 ≡ place - place = omega arith in ap (λ (n : ℕ). rehinted table s place n before) e

  one_more : (i : ℕ) (hints : List ℕ) → place ≤ i → hints ≡ rehinted table s place (i - place) before
      → noted hints (get_or table (256 * s + i) 0) (64 * s + i) ≡ rehinted table s place (i + 1 - place) before
  unfolding rehinted
  one_more i hints h is =
      let at : i ≡ place + (i - place) = omega arith in
      let e : suc (i - place) ≡ i + 1 - place = omega arith in
      ap (λ (l : List ℕ). noted l (get_or table (256 * s + i) 0) (64 * s + i)) is
      ∙ ap (λ (n : ℕ). noted (rehinted table s place (i - place) before) (get_or table (256 * s + n) 0) (64 * s + n)) at
      ∙ ap (λ (n : ℕ). rehinted table s place n before) e

pub loop-i-init : goal.loop-i-init
loop-i-init c = (omega arith, omega arith, none_noted c.args.table.now c.args.s c.args.place c.args.hints.now)

pub loop-i-preserved : goal.loop-i-preserved
loop-i-preserved c =
    let a = c.args in
    let n = c.loop-i in
    (omega arith, omega arith, c.note.ensures ∙ one_more a.table.now a.s a.place a.hints.now n.i n.hints n.auto.i n.invariant.2)

pub returns : goal.returns
returns c =
    let a = c.args in
    let all : c.loop-i.i - a.place ≡ get_or a.table.now (256 * a.s + 192) 0 - a.place = omega arith in
    c.loop-i.invariant.2 ∙ ap (λ (n : ℕ). rehinted a.table.now a.s a.place n a.hints.now) all
