-- `call_blocks::measure` meets its contract, by what is known after so many calls and words (`Passed`).
use Prim.Native.Nat.{ℕ, ◌+◌}
use native.Mathlib.Omega.{arith}
use mathlib.Core.Path.{refl, sym, subst}
use lib.ListN.{drop}
use Rattle.words.specs.Bytes.{words_in}
use Rattle.words.proofs.Bytes.{words_length}
use Rattle.call_blocks.specs.Kinds.{block_size}
use Rattle.call_blocks.proofs.Loops.{Passed, at_start, one_more, measured}
use Rattle.call_blocks.proofs.measure.Goals as goal

pub loop-size-init : goal.loop-size-init
loop-size-init c = at_start (words_in c.args.bytes.now) (block_size (words_in c.args.bytes.now)) refl

pub size_at-requires : goal.size_at-requires
size_at-requires c = omega (arith, words_length c.args.bytes.now, c.loop-size.invariant.fits)

pub overflow_add-calls : goal.overflow_add-calls
overflow_add-calls c =
    let p = c.loop-size.invariant in
    omega (arith, words_length c.args.bytes.now, p.few, p.fits, c.in-Some.ensures.0, c.in-Some.ensures.1)

pub overflow_add-at : goal.overflow_add-at
overflow_add-at c =
    omega (arith, words_length c.args.bytes.now, c.loop-size.invariant.fits, c.in-Some.ensures.0)

pub loop-size-preserved : goal.loop-size-preserved
loop-size-preserved c =
    let ws = words_in c.args.bytes.now in
    let l = c.loop-size in
    let found = c.in-Some in
    one_more ws l.calls l.at found.size (subst (λ (n : ℕ). Passed ws l.calls l.at n) (sym found.ensures.0) l.invariant) found.ensures.1
    (block_size (drop (l.at + found.size) ws)) refl

pub returns : goal.returns
returns c =
    let l = c.loop-size in
    measured (words_in c.args.bytes.now) l.calls l.at _ l.invariant (omega (arith, c.in_default.ensures))
