-- Words that can be a month's, by those that every call rests on: the numbers of buys and of sells are at most 64 together, the place of the
-- open cell is below 186, and L, which is divided by, is not 0. A month's words always pass (proofs/Entry). Others that a C caller lends may
-- pass too, and of these nothing is proved.
use Rattle.std.specs.Prelude.{ℕ, ◌+◌, Bool, not, ◌&&◌, List, ltb, leb, get_or}

unfoldable pub may_be_month : List ℕ → Bool
may_be_month words = not (ltb 64 (get_or words 208 0 + get_or words 464 0)) && (not (leb 186 (get_or words 1 0)) && ltb 0 (get_or words 6 0))
