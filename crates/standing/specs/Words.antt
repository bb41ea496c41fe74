-- A list of calls as 32-bit words, three a call: 1 join, 2 change or 3 leave, the maker's number, the rating; a leave's rating is 0.
use Rattle.std.specs.Prelude.{ℕ, List, [], ◌∷◌, ◌++◌, Bool, true, false, ◌&&◌, ◌||◌, eqb, if◌then◌else◌}
use Rattle.standing_rules.specs.declared.Call.{Call}
use Rattle.standing_rules.specs.declared.Call.TheVariants.{Join, Change, Leave}
use Rattle.standing_rules.specs.Calls.{call_of}

-- three words that say a call: the kind and the rating decide
unfoldable pub is_call : ℕ → ℕ → Bool
is_call kind rating = (eqb kind 1 || eqb kind 2) || (eqb kind 3 && eqb rating 0)

-- whether the words are a list of calls, none cut short
unfoldable pub readable : List ℕ → Bool
readable [] = true
readable (kind ∷ []) = false
readable (kind ∷ number ∷ []) = false
readable (kind ∷ number ∷ rating ∷ rest) = let later = readable rest in is_call kind rating && later

-- the calls of a list of words, as far as they are calls
unfoldable pub calls_of : List ℕ → List Call
calls_of [] = []
calls_of (kind ∷ []) = []
calls_of (kind ∷ number ∷ []) = []
calls_of (kind ∷ number ∷ rating ∷ rest) =
    let later = calls_of rest in
    if is_call kind rating then call_of kind number rating ∷ later else []

-- ---- the words of a list of calls

unfoldable pub words_of : Call → List ℕ
words_of (Join m) = 1 ∷ m.number ∷ m.rating ∷ []
words_of (Change m) = 2 ∷ m.number ∷ m.rating ∷ []
words_of (Leave n) = 3 ∷ n ∷ 0 ∷ []

unfoldable pub script_of : List Call → List ℕ
script_of [] = []
script_of (call ∷ calls) = words_of call ++ script_of calls
