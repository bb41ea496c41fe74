-- Outlook is no call of the papers. proofs/Outlooks shows that a list of calls without its outlooks leaves the same book, and that every other
-- call of it is answered as it was: so the papers' calls mean what they mean without ours.
use Rattle.std.specs.Prelude.{◌≡◌, List, [], ◌∷◌, Bool, true, false, not, if◌then◌else◌}
use Rattle.lists.specs.Lists.{filter}
use Rattle.rules.specs.Terms.{Terms}
use Rattle.rules.specs.Calls.{Call, Open, Send, Message, Ask, Commit, Close, Drop, Charge, Withdraw, Look, Report, Outlook, fresh_book}
use Rattle.rules.specs.Book.{answer_of, after}
use Rattle.rules.specs.Histories.{refusals_from, answers_from}

abbrev pub is_outlook : Call → Bool
is_outlook (Open words day opening) = false
is_outlook (Send e) = false
is_outlook (Message start bytes) = false
is_outlook (Ask a) = false
is_outlook (Commit a ticket) = false
is_outlook (Close active passive) = false
is_outlook Drop = false
is_outlook (Charge day expiry quantum active passive) = false
is_outlook (Withdraw day expiry quantum) = false
is_outlook (Look day expiry quantum) = false
is_outlook Report = false
is_outlook Outlook = true

-- the calls that are no outlooks, in their order
abbrev pub without_outlooks : List Call → List Call
without_outlooks calls = filter (λ (c : Call). not (is_outlook c)) calls

-- of a list with one element for each call, those of the calls that are no outlooks
unfoldable pub of_others : {A : Type 0} → List Call → List A → List A
of_others [] xs = []
of_others (c ∷ cs) [] = []
of_others (c ∷ cs) (x ∷ xs) = let rest = of_others cs xs in if is_outlook c then rest else x ∷ rest

pub record SameWithoutOutlooks (terms : Terms) (calls : List Call) : Type 0 where
  -- the same quantum, cells and count
  pub book : after terms (without_outlooks calls) ≡ after terms calls
  -- the other calls' refusals and whole answers, one by one in their order
  pub refusals : refusals_from terms fresh_book (without_outlooks calls) ≡ of_others calls (refusals_from terms fresh_book calls)
  pub answers : answers_from terms fresh_book (without_outlooks calls) ≡ of_others calls (answers_from terms fresh_book calls)
  -- whatever call comes next is answered likewise
  pub next : (c : Call) → answer_of terms (after terms (without_outlooks calls)) c ≡ answer_of terms (after terms calls) c

abbrev pub OutlooksChangeNothing : Type 0
OutlooksChangeNothing = (terms : Terms) (calls : List Call) → SameWithoutOutlooks terms calls
