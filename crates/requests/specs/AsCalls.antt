-- Document 02, W11: "An accepted one stands there as those calls, a refused one as none." proofs/AsCalls shows that a list in which every
-- message is so replaced leaves the same book, and that every other call of it is answered as it was.
use Rattle.std.specs.Prelude.{ℕ, zero, suc, ◌≡◌, List, [], ◌∷◌, ◌++◌, map}
use Rattle.rules.specs.Terms.{Terms}
use Rattle.rules.specs.MessageCalls.{events_of}
use Rattle.rules.specs.Calls.{Call, Open, Send, Message, Ask, Commit, Close, Drop, Charge, Withdraw, Look, Report, Outlook, Book, fresh_book}
use Rattle.rules.specs.Causes.{refusal_of}
use Rattle.rules.specs.Book.{answer_of, step, after}
use Rattle.rules.specs.Histories.{NoneRefused}

-- what replaces a call, by the number that refuses it, 0 where it is accepted: a call that is no message stays
abbrev pub in_place : Call → ℕ → List Call
in_place (Open words day opening) n = Open words day opening ∷ []
in_place (Send e) n = Send e ∷ []
in_place (Message start bytes) zero = map Send (events_of start bytes)
in_place (Message start bytes) (suc n) = []
in_place (Ask a) n = Ask a ∷ []
in_place (Commit a ticket) n = Commit a ticket ∷ []
in_place (Close active passive) n = Close active passive ∷ []
in_place Drop n = Drop ∷ []
in_place (Charge day expiry quantum active passive) n = Charge day expiry quantum active passive ∷ []
in_place (Withdraw day expiry quantum) n = Withdraw day expiry quantum ∷ []
in_place (Look day expiry quantum) n = Look day expiry quantum ∷ []
in_place Report n = Report ∷ []
in_place Outlook n = Outlook ∷ []

-- the list with every message so replaced, each by what the book then holds
unfoldable pub as_calls : Terms → Book → List Call → List Call
as_calls terms b [] = []
as_calls terms b (c ∷ cs) = in_place c (refusal_of terms b c) ++ as_calls terms (step terms b c) cs

pub record SameAsCalls (terms : Terms) (calls : List Call) : Type 0 where
  -- the same quantum, cells and count
  pub book : after terms (as_calls terms fresh_book calls) ≡ after terms calls
  -- whatever call comes next, where it is in the longer list, and its answer there
  pub next : (c : Call) → as_calls terms fresh_book (calls ++ (c ∷ [])) ≡ as_calls terms fresh_book calls ++ in_place c (refusal_of terms (after terms calls) c)
  pub answer : (c : Call) → answer_of terms (after terms (as_calls terms fresh_book calls)) c ≡ answer_of terms (after terms calls) c
  -- the calls of an accepted message are accepted
  pub accepted : (start bytes : List ℕ) → refusal_of terms (after terms calls) (Message start bytes) ≡ 0
      → NoneRefused terms (after terms calls) (map Send (events_of start bytes))

abbrev pub MessagesAsCalls : Terms → Type 0
MessagesAsCalls terms = (calls : List Call) → SameAsCalls terms calls
