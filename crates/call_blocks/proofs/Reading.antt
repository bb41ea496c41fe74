-- Laws of reading a list of words, block by block.
use Rattle.std.specs.Prelude.{if◌then◌else◌}
use Prim.Native.Nat.{ℕ, zero, suc, ◌+◌, ◌-◌, ◌≤◌, ◌<◌}
use native.Mathlib.Omega.{arith}
use mathlib.Core.Path.{◌≡◌, refl, sym, ap, ◌∙◌}
use mathlib.Core.List.{List, [], ◌∷◌}
use mathlib.Core.Bool.{Bool, true, false}
use borrow.Author.Tests.{le-leb, lt-leb, leb-true, eq-eqb, ne_eqb, eqb-true, eqb-false}
use lib.Dec.{leb, eqb}
use lib.ListN.{length, drop, length-drop}
use Rattle.call_blocks.specs.Kinds.{due_at, block_size, call_of}
use Rattle.call_blocks.specs.Reading.{calls_from, words_from, calls_of, words_read}

-- ---- a block's size

-- the words that are due, where they are there
pub whole : (ws : List ℕ) (n : ℕ) → due_at ws ≡ n → n ≤ length ws → block_size ws ≡ n
unfolding block_size
whole ws n e h = rw (e, le-leb n (length ws) h) refl

-- a block that is cut short
pub cut : (ws : List ℕ) (n : ℕ) → due_at ws ≡ n → length ws < n → block_size ws ≡ 0
unfolding block_size
cut ws n e h = rw (e, lt-leb n (length ws) h) refl

size_by_lem : (n l : ℕ) (b : Bool) → leb n l ≡ b → (if b then n else 0) ≤ l
size_by_lem n l true e = leb-true n l e
size_by_lem n l false e = omega arith

pub size_fits : (ws : List ℕ) → block_size ws ≤ length ws
unfolding block_size
size_fits ws = size_by_lem (due_at ws) (length ws) (leb (due_at ws) (length ws)) refl

-- past the end of the words there is no block
pub none_past : (ws : List ℕ) (at : ℕ) → length ws < at → 0 ≡ block_size (drop at ws)
none_past ws at h =
    let s : block_size (drop at ws) ≤ length ws - at = rw (length-drop at ws) at (size_fits (drop at ws)) in
    omega arith

-- ---- fuel

-- no words are no block
pub short : (ws : List ℕ) → length ws ≤ 0 → block_size ws ≡ 0
short ws h = let s = size_fits ws in omega arith

-- fewer words remain after a block
pub fewer : (ws : List ℕ) (n : ℕ) → (block_size ws ≡ 0 → ⊥) → length ws ≤ suc n → length (drop (block_size ws) ws) ≤ n
fewer ws n s h = rw (length-drop (block_size ws) ws) (omega arith)

-- at the end of the list, or with a block at the front, whatever the fuel
pub from_none : (most : ℕ) (ws : List ℕ) → block_size ws ≡ 0 → calls_from most ws ≡ []
unfolding calls_from
from_none zero ws e = refl
from_none (suc most) ws e = rw (eq-eqb (block_size ws) 0 e) refl

pub from_more : (most : ℕ) (ws : List ℕ) → (block_size ws ≡ 0 → ⊥)
    → calls_from (suc most) ws ≡ call_of ws ∷ calls_from most (drop (block_size ws) ws)
unfolding calls_from
from_more most ws s = rw (ne_eqb (block_size ws) 0 s) refl

pub words_from-none : (most : ℕ) (ws : List ℕ) → block_size ws ≡ 0 → words_from most ws ≡ 0
unfolding words_from
words_from-none zero ws e = refl
words_from-none (suc most) ws e = rw (eq-eqb (block_size ws) 0 e) refl

pub words_from-more : (most : ℕ) (ws : List ℕ) → (block_size ws ≡ 0 → ⊥)
    → words_from (suc most) ws ≡ block_size ws + words_from most (drop (block_size ws) ws)
unfolding words_from
words_from-more most ws s = rw (ne_eqb (block_size ws) 0 s) refl

-- fuel for each word is enough, and more alters nothing
abbrev Same : ℕ → ℕ → List ℕ → Type 0
Same m n ws = (calls_from m ws ≡ calls_from n ws) × (words_from m ws ≡ words_from n ws)

same_none : (m n : ℕ) (ws : List ℕ) → block_size ws ≡ 0 → Same m n ws
same_none m n ws e =
    (from_none m ws e ∙ sym (from_none n ws e), words_from-none m ws e ∙ sym (words_from-none n ws e))

same_more : (m n : ℕ) (ws : List ℕ) → (block_size ws ≡ 0 → ⊥) → Same m n (drop (block_size ws) ws) → Same (suc m) (suc n) ws
same_more m n ws s h = (
  from_more m ws s ∙ ap (λ cs. call_of ws ∷ cs) h.0 ∙ sym (from_more n ws s),
  words_from-more m ws s ∙ ap (λ k. block_size ws + k) h.1 ∙ sym (words_from-more n ws s),
)

same : (m n : ℕ) (ws : List ℕ) → length ws ≤ m → length ws ≤ n → Same m n ws
same zero n ws h k = same_none zero n ws (short ws h)
same (suc m) zero ws h k = same_none (suc m) zero ws (short ws k)
same (suc m) (suc n) ws h k = go (eqb (block_size ws) 0) refl (λ vs f g. same m n vs f g)
  where
    go : (b : Bool) → eqb (block_size ws) 0 ≡ b → ((vs : List ℕ) → length vs ≤ m → length vs ≤ n → Same m n vs) → Same (suc m) (suc n) ws
    go true e r = same_none (suc m) (suc n) ws (eqb-true (block_size ws) 0 e)
    go false e r =
        let s = eqb-false (block_size ws) 0 e in
        same_more m n ws s (r (drop (block_size ws) ws) (fewer ws m s h) (fewer ws n s k))

-- ---- the calls and words of a list of words, by the block at its front

pub calls-none : (ws : List ℕ) → block_size ws ≡ 0 → calls_of ws ≡ []
unfolding calls_of
calls-none ws e = from_none (length ws) ws e

pub words_none : (ws : List ℕ) → block_size ws ≡ 0 → words_read ws ≡ 0
unfolding words_read
words_none ws e = words_from-none (length ws) ws e

-- with fuel for one more word than there are
abbrev rest : List ℕ → List ℕ
rest ws = drop (block_size ws) ws

module _ (ws : List ℕ) (s : block_size ws ≡ 0 → ⊥) where
  rest-same : Same (length ws) (length (rest ws)) (rest ws)
  rest-same = same (length ws) (length (rest ws)) (rest ws) (fewer ws (length ws) s (omega arith)) (omega arith)

  whole_same : Same (length ws) (suc (length ws)) ws
  whole_same = same (length ws) (suc (length ws)) ws (omega arith) (omega arith)

  pub calls-more : calls_of ws ≡ call_of ws ∷ calls_of (drop (block_size ws) ws)
  unfolding calls_of
  calls-more = whole_same.0 ∙ from_more (length ws) ws s ∙ ap (λ cs. call_of ws ∷ cs) rest-same.0

  pub words_more : words_read ws ≡ block_size ws + words_read (drop (block_size ws) ws)
  unfolding words_read
  words_more = whole_same.1 ∙ words_from-more (length ws) ws s ∙ ap (λ k. block_size ws + k) rest-same.1
