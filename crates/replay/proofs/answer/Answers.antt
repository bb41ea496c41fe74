-- The words that `play` read are left out.
use Prim.Native.Nat.{ℕ, ◌+◌, ◌-◌, ◌*◌, ◌≤◌}
use native.Mathlib.Omega.{arith}
use mathlib.Core.Path.{◌≡◌, sym, ap, ◌∙◌}
use mathlib.Core.List.{List}
use lib.ListN.{length, take, drop}
use lib.Seq.{length-take-le}
use Rattle.std.proofs.lemmas.List.{drop-take}
use Rattle.replay.proofs.answer.Goals as goal

pub slice_bounds-play-end-2 : goal.slice_bounds-play-end-2
slice_bounds-play-end-2 g c =
    let a = c.args in
    sym (length-take-le a.end a.bytes.now c.requires.end)

-- the words that were read stand before the end
read-inside : (bytes : List ℕ) (end words : ℕ) → 4 * words ≤ length (take end bytes) → end ≤ length bytes → 4 * words ≤ end
read-inside bytes end words h k = omega (arith, length-take-le end bytes k)

-- from a place on, of the front up to an end
part : (bytes : List ℕ) (from end : ℕ) → from ≤ end → take (end - from) (drop from bytes) ≡ drop from (take end bytes)
part bytes from end h =
    let whole : from + (end - from) ≡ end = omega arith in
    sym (drop-take from (end - from) bytes) ∙ ap (λ (n : ℕ). drop from (take n bytes)) whole

pub overflow_mul-read : goal.overflow_mul-read
overflow_mul-read g c =
    let a = c.args in
    omega (arith, read-inside a.bytes.now a.end c.play-done.result.words c.play-done.ensures.1 c.requires.end)

pub to_front-requires : goal.to_front-requires
to_front-requires g c =
    let a = c.args in
    (read-inside a.bytes.now a.end c.play-done.result.words c.play-done.ensures.1 c.requires.end, c.requires.end)

pub returns : goal.returns
returns g c =
    let a = c.args in
    let k = 4 * c.play-done.result.words in
    let inside = read-inside a.bytes.now a.end c.play-done.result.words c.play-done.ensures.1 c.requires.end in
    record {
      plays = c.play-done.ensures.0;
      inside = inside;
      left = c.to_front.ensures ∙ part a.bytes.now k a.end inside;
    }
