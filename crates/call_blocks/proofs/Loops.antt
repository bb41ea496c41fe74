-- A loop over the blocks of a list of words: what is known after so many calls and words.
use Prim.Native.Nat.{ℕ, suc, ◌+◌, ◌-◌, ◌≤◌, ◌<◌}
use native.Mathlib.Omega.{arith}
use mathlib.Core.Path.{◌≡◌, refl, sym, ap, ◌∙◌}
use mathlib.Core.List.{List, [], ◌∷◌}
use lib.ListN.{length, drop, length-drop}
use lib.Seq.{drop-drop}
use Rattle.rules.specs.Calls.{Call}
use Rattle.call_blocks.specs.Kinds.{block_size, call_of}
use Rattle.call_blocks.specs.Reading.{calls_of, words_read}
use Rattle.call_blocks.specs.Measures.{Measures}
use Rattle.call_blocks.proofs.Reading.{size_fits, calls-none, calls-more, words_none, words_more}

-- After so many calls, with so many words read, and the size of the next block: the calls of the words from there on are those that are
-- left, and each call took a word at least.
pub record Passed (ws : List ℕ) (calls at size : ℕ) : Type 0 where
  pub few : calls ≤ at
  pub fits : at + size ≤ length ws
  pub size_is : size ≡ block_size (drop at ws)
  pub some : calls ≤ length (calls_of ws)
  pub left : drop calls (calls_of ws) ≡ calls_of (drop at ws)
  pub words : words_read ws ≡ at + words_read (drop at ws)

-- the next block ends within the words
pub next_fits : (ws : List ℕ) (at size : ℕ) → at ≤ length ws → size ≡ block_size (drop at ws) → at + size ≤ length ws
next_fits ws at size h e =
    let s : block_size (drop at ws) ≤ length ws - at = rw (length-drop at ws) at (size_fits (drop at ws)) in
    omega arith

pub at_start : (ws : List ℕ) (size : ℕ) → size ≡ block_size (drop 0 ws) → Passed ws 0 0 size
at_start ws size e =
    record {
      few = omega arith;
      fits = next_fits ws 0 size (omega arith) e;
      size_is = e;
      some = omega arith;
      left = refl;
      words = omega arith;
    }

-- a list from a place on, with an element there
cons_some : (cs : List Call) (k : ℕ) (c : Call) (rest : List Call) → drop k cs ≡ c ∷ rest → k < length cs
cons_some cs k c rest e =
    let n : length cs - k ≡ suc (length rest) = sym (length-drop k cs) ∙ ap length e in
    omega arith

cons_left : (cs : List Call) (k : ℕ) (c : Call) (rest : List Call) → drop k cs ≡ c ∷ rest → drop (k + 1) cs ≡ rest
cons_left cs k c rest e = sym (drop-drop 1 k cs) ∙ ap (drop 1) e

module _ (ws : List ℕ) (calls at size : ℕ) (p : Passed ws calls at size) (h : 0 < size) where
  is_block : block_size (drop at ws) ≡ 0 → ⊥
  is_block e = let s = p.size_is in omega arith

  behind : drop (block_size (drop at ws)) (drop at ws) ≡ drop (at + size) ws
  behind = rw (← p.size_is) (drop-drop size at ws)

  -- the next call is the one that the block says
  pub next-call : drop calls (calls_of ws) ≡ call_of (drop at ws) ∷ calls_of (drop (at + size) ws)
  next-call = p.left ∙ calls-more (drop at ws) is_block ∙ ap (λ (l : List ℕ). call_of (drop at ws) ∷ calls_of l) behind

  next_words : words_read ws ≡ (at + size) + words_read (drop (at + size) ws)
  next_words =
      let w : words_read (drop at ws) ≡ block_size (drop at ws) + words_read (drop (at + size) ws) =
      words_more (drop at ws) is_block ∙ ap (λ (l : List ℕ). block_size (drop at ws) + words_read l) behind
      in
      omega (arith, p.words, p.size_is)

  pub one_more : (next : ℕ) → next ≡ block_size (drop (at + size) ws) → Passed ws (calls + 1) (at + size) next
  one_more next e =
      record {
        few = omega (arith, p.few);
        fits = next_fits ws (at + size) next p.fits e;
        size_is = e;
        some = omega (arith, cons_some (calls_of ws) calls (call_of (drop at ws)) (calls_of (drop (at + size) ws)) next-call);
        left = cons_left (calls_of ws) calls (call_of (drop at ws)) (calls_of (drop (at + size) ws)) next-call;
        words = next_words;
      }

-- at the end of the list
module _ (ws : List ℕ) (calls at size : ℕ) (p : Passed ws calls at size) (h : size ≤ 0) where
  at-end : block_size (drop at ws) ≡ 0
  at-end = omega (arith, p.size_is)

  pub none_left : drop calls (calls_of ws) ≡ []
  none_left = p.left ∙ calls-none (drop at ws) at-end

  pub all-calls : calls ≡ length (calls_of ws)
  all-calls =
      let n : length (calls_of ws) - calls ≡ 0 = sym (length-drop calls (calls_of ws)) ∙ ap length none_left in
      omega (arith, p.some)

  pub all_words : at ≡ words_read ws
  all_words = omega (arith, p.words, words_none (drop at ws) at-end)

  pub measured : Measures ws (record { calls = calls; words = at })
  measured = record { calls = all-calls; words = all_words }
