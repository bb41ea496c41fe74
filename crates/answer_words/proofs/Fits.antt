-- Every answer of the plain book fits its words: after any list of calls its prices are within their type, and it has six failure counts.
-- So no two answers that the book ever gives have the same words.
use Rattle.std.proofs.Common.{None, Option, Some}
use Prim.Native.Nat.{ℕ, zero, suc}
use native.Mathlib.Omega.{arith}
use mathlib.Core.Path.{◌≡◌, refl, subst}
use mathlib.Core.Bool.{true}
use mathlib.Core.List.{List, [], ◌∷◌, ◌++◌, Memᴰ}
use lib.IntN.{ℤ, pos, negsuc, neg_ℤ}
use lib.Signed.{le_z}
use lib.ListN.{length}
use borrow.Author.Tests.{leb-true}
use Rattle.rules.specs.declared.Side.{Side}
use Rattle.rules.specs.declared.Side.TheVariants.{Buy, Sell}
use Rattle.rules.specs.declared.Order.{Order}
use Rattle.rules.specs.declared.Steps.{Steps}
use Rattle.rules.specs.declared.Row.{Row}
use Rattle.rules.specs.declared.Event.{Event}
use Rattle.rules.specs.declared.Amendment.{Amendment}
use Rattle.rules.specs.Terms.{paper}
use Rattle.rules.specs.Widths.{SignedWord}
use Rattle.rules.specs.Units.{good_price}
use Rattle.rules.specs.Orders.{live}
use Rattle.rules.specs.Quotes.{best, Means}
use Rattle.rules.specs.Pay.{all_failures}
use Rattle.rules.specs.Answers.{outcome_by}
use Rattle.rules.specs.Calls.{Call, Open, Send, Message, Ask, Commit, Close, Drop, Charge, Withdraw, Look, Report, Outlook, Running, Idle, Quoting, Book, amend_of}
use Rattle.rules.specs.Causes.{send_causes, first_number, event_refusal, causes, refusal_of}
use Rattle.rules.specs.Changes.{noted}
use Rattle.rules.specs.Replies.{bid_in, ask_in, preview_of, report_of, reply_of}
use Rattle.rules.specs.Book.{answer_of, after}
use Rattle.rules.specs.Bounds.{RunningBounds, EventBounds}
use Rattle.lists.proofs.Lists.{both}
use Rattle.rules.proofs.Best.{means}
use Rattle.rules.proofs.Refusals.{SendPasses, call_passes}
use Rattle.rules.proofs.Bounds.{event_bounds_more, bounds}
use Rattle.answer_words.specs.Words.{answer_words, QuoteFits, AnswerFits}
use Rattle.answer_words.proofs.Back.{answers_apart}

-- a price in its range fits a signed word
price_fits : (z : ℤ) → good_price z ≡ true → SignedWord z
unfolding good_price
price_fits (pos n) h =
    let most = leb-true n 1000000000 (both (le_z (neg_ℤ (pos 1000000000)) (pos n)) (le_z (pos n) (pos 1000000000)) h).1 in
    omega (arith, most)
price_fits (negsuc n) h =
    let least = leb-true n 999999999 (both (le_z (neg_ℤ (pos 1000000000)) (negsuc n)) (le_z (negsuc n) (pos 1000000000)) h).0 in
    omega (arith, least)

-- a best quote is the price of a live order
quote-fits : (s : Side) (m : ℕ) (orders : List Order) → ((o : Order) → Memᴰ o orders → good_price o.price.0 ≡ true)
    → (q : Option Steps) → Means s m orders q → QuoteFits q
quote-fits s m orders good None h = tt
quote-fits s m orders good (Some p) h =
    subst (λ (x : Steps). SignedWord x.0) h.0.3 (price_fits h.0.0.price.0 (good h.0.0 h.0.1))

best-fits : (s : Side) (row : Row) (events : List Event) → EventBounds row events → QuoteFits (best s row.minimum.0 (live events))
best-fits s row events g = quote-fits s row.minimum.0 (live events) g.prices (best s row.minimum.0 (live events)) (means s row.minimum.0 (live events))

-- ---- of the open quantum, or none

quotes_fit : (r : Running) → RunningBounds paper r → QuoteFits (bid_in r) × QuoteFits (ask_in r)
quotes_fit Idle g = (tt, tt)
quotes_fit (Quoting place row opening events) g = (best-fits Buy row events g.events_good, best-fits Sell row events g.events_good)

-- with the amend taken that is asked about
asked_fit : (r : Running) (a : Amendment) → RunningBounds paper r → first_number (send_causes r (amend_of a)) ≡ 0 → SendPasses r (amend_of a)
    → QuoteFits (bid_in (noted r (amend_of a))) × QuoteFits (ask_in (noted r (amend_of a))) × SignedWord a.price.0
unfolding event_refusal
asked_fit Idle a g h p = absurd p
asked_fit (Quoting place row opening events) a g h p =
    let more = event_bounds_more row events (amend_of a) g.events_good h in (
      best-fits Buy row (events ++ (amend_of a ∷ [])) more,
      best-fits Sell row (events ++ (amend_of a ∷ [])) more,
      price_fits a.price.0 p.trader.price_good,
    )

-- ---- of any call

ask_fits : (b : Book) (a : Amendment) → RunningBounds paper b.running → refusal_of paper b (Ask a) ≡ 0
    → QuoteFits (preview_of b a).bid × QuoteFits (preview_of b a).ask × SignedWord (preview_of b a).ticket.amendment.price.0
unfolding refusal_of causes preview_of
ask_fits b a g h = asked_fit b.running a g h (call_passes paper b (Ask a) h)

report_fits : (b : Book) → RunningBounds paper b.running
    → QuoteFits (report_of paper b).bid × QuoteFits (report_of paper b).ask × (length (report_of paper b).failures ≡ 6)
unfolding report_of all_failures
report_fits b g = let q = quotes_fit b.running g in (q.0, q.1, refl)

by_number : (b : Book) (c : Call) (n : ℕ) → refusal_of paper b c ≡ n → RunningBounds paper b.running → AnswerFits (outcome_by n (reply_of paper b c))
by_number b c (suc n) e g = tt
by_number b (Open words day opening) zero e g = tt
by_number b (Send event) zero e g = tt
by_number b (Message start bytes) zero e g = tt
by_number b (Ask a) zero e g = ask_fits b a g e
by_number b (Commit a ticket) zero e g = tt
by_number b (Close active passive) zero e g = tt
by_number b Drop zero e g = tt
by_number b (Charge day expiry quantum active passive) zero e g = tt
by_number b (Withdraw day expiry quantum) zero e g = tt
by_number b (Look day expiry quantum) zero e g = tt
by_number b Report zero e g = report_fits b g
by_number b Outlook zero e g = tt

-- the answer to any call after any list of calls
pub answer_fits : (calls : List Call) (c : Call) → AnswerFits (answer_of paper (after paper calls) c)
unfolding answer_of
answer_fits calls c = by_number (after paper calls) c (refusal_of paper (after paper calls) c) refl (bounds paper calls).running

-- no two answers of the book have the same words
pub book_answers_apart : (xs ys : List Call) (c d : Call)
    → answer_words (answer_of paper (after paper xs) c) ≡ answer_words (answer_of paper (after paper ys) d)
    → answer_of paper (after paper xs) c ≡ answer_of paper (after paper ys) d
book_answers_apart xs ys c d e =
    answers_apart (answer_of paper (after paper xs) c) (answer_of paper (after paper ys) d) (answer_fits xs c) (answer_fits ys d) e
