-- The calls and words that are read from a list of words, block by block.
use Rattle.std.specs.Prelude.{ℕ, zero, suc, ◌+◌, List, [], ◌∷◌, eqb, length, drop, if◌then◌else◌}
use Rattle.rules.specs.Calls.{Call}
use Rattle.call_blocks.specs.Kinds.{block_size, call_of}

-- The calls of at most so many blocks: the one at the front, where there is one, and then those of the words after it.
unfoldable pub calls_from : ℕ → List ℕ → List Call
calls_from zero ws = []
calls_from (suc most) ws =
    let rest = calls_from most (drop (block_size ws) ws) in
    if eqb (block_size ws) 0 then [] else call_of ws ∷ rest

-- how many words those blocks have
unfoldable pub words_from : ℕ → List ℕ → ℕ
words_from zero ws = 0
words_from (suc most) ws =
    let rest = words_from most (drop (block_size ws) ws) in
    if eqb (block_size ws) 0 then 0 else block_size ws + rest

-- The calls of a list of words, and how many words were read. A block has a word at least, so there are no more blocks than words.
unfoldable pub calls_of : List ℕ → List Call
calls_of ws = calls_from (length ws) ws

unfoldable pub words_read : List ℕ → ℕ
words_read ws = words_from (length ws) ws
