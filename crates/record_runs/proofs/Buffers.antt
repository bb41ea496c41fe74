-- Words in a lent buffer: new ones written after others, or over the last of them.
use Rattle.std.specs.Prelude.{if◌then◌else◌}
use Prim.Native.Nat.{ℕ, ◌+◌, ◌-◌, ◌≤◌, ◌<◌}
use native.Mathlib.Omega.{arith}
use mathlib.Core.Path.{◌≡◌, refl, sym, ap, ◌∙◌}
use mathlib.Core.List.{List, ◌++◌, append_assoc}
use mathlib.Core.Bool.{Bool, true, false}
use lib.Dec.{leb}
use lib.ListN.{length, take, drop, length-append}
use lib.Seq.{sets, sets-eq, length-sets, take_at, drop-drop, drop-append-add}
use borrow.Author.Tests.{le-leb, lt-leb, leb-true, leb-false}
use Rattle.record_runs.specs.Internal.{Front, put_words}

pub put-fits : (buffer : List ℕ) (at : ℕ) (new : List ℕ) → at + length new ≤ length buffer → sets buffer at new ≡ put_words buffer at new
unfolding put_words
put-fits buffer at new h = ap (λ (b : Bool). if b then sets buffer at new else buffer) (sym (le-leb (at + length new) (length buffer) h))

pub put_not : (buffer : List ℕ) (at : ℕ) (new : List ℕ) → length buffer < at + length new → buffer ≡ put_words buffer at new
unfolding put_words
put_not buffer at new h = ap (λ (b : Bool). if b then sets buffer at new else buffer) (sym (lt-leb (at + length new) (length buffer) h))

module _ (base init old new buffer : List ℕ) (h : Front base (init ++ old) buffer) (few : length old ≤ length new) where
  abbrev end : ℕ
  end = length init + length new

  module _ (l : end ≤ length base) where
    first : buffer ≡ (init ++ old) ++ drop (length (init ++ old)) base
    first = h.words (omega (arith, length-append init old))

    before : take (length init) buffer ≡ init
    before =
        ap (take (length init)) (first ∙ append_assoc init old (drop (length (init ++ old)) base))
        ∙ take_at init (old ++ drop (length (init ++ old)) base) (length init) refl

    behind : drop end buffer ≡ drop end base
    behind =
        let m = length (init ++ old) in
        let to : m + (end - m) ≡ end = omega (arith, length-append init old) in
        ap (drop end) first
        ∙ ap (λ (n : ℕ). drop n ((init ++ old) ++ drop m base)) (sym to)
        ∙ drop-append-add (init ++ old) (drop m base) (end - m)
        ∙ drop-drop (end - m) m base
        ∙ ap (λ (n : ℕ). drop n base) to

  pub put_front : Front base (init ++ new) (put_words buffer (length init) new)
  unfolding put_words
  put_front = go (leb end (length buffer)) refl
    where
      go : (b : Bool) → leb end (length buffer) ≡ b → Front base (init ++ new) (if b then sets buffer (length init) new else buffer)
      go true e =
          let fits = leb-true end (length buffer) e in
          let l : end ≤ length base = omega (arith, fits, h.size) in
          record {
            size = length-sets buffer (length init) new ∙ h.size;
            words = λ k.
                sets-eq new buffer (length init) fits
                ∙ (λ i. (before l i ++ new) ++ behind l i)
                ∙ ap (λ (n : ℕ). (init ++ new) ++ drop n base) (sym (length-append init new));
          }
      go false e =
          let short = leb-false end (length buffer) e in
          record { size = h.size; words = λ k. absurd (omega (arith, short, h.size, k, length-append init new)) }
