-- A session's account in a lent buffer.
use Rattle.std.specs.Prelude.{ℕ, ◌+◌, ◌*◌, ◌≡◌, List, ◌∷◌, ◌++◌, Bool, eqb, ltb, length, drop, set, if◌then◌else◌, Result, Ok, Err}
use Rattle.rules.specs.declared.Steps.{Steps}
use Rattle.rules.specs.declared.Strike.{Strike}
use Rattle.rules.specs.declared.SpreadRule.{SpreadRule}
use Rattle.rules.specs.declared.SpreadRule.TheVariants.{Settled, OfStrike}
use Rattle.rules.specs.Accounts.{Part, part_words, Account, AccountRan}
use Rattle.session_account.specs.declared.Times.{Times}
use Rattle.rules.specs.declared.Stopped.{Stopped}
use Rattle.session_account.specs.declared.Accounted.{Accounted}
use Rattle.c_answers.specs.Answers.{refused_number}

abbrev pub strike_of : ℕ → ℕ → ℕ → ℕ → Strike
strike_of a difference days b = record { a = a; difference = difference; days = days; b = b }

-- what the spread limit depends on: 0 for SP, any other number for a strike's four
abbrev pub rule_of : ℕ → Steps → Strike → SpreadRule
rule_of strike sp s = if eqb strike 0 then Settled sp else OfStrike s

-- the milliseconds of each state, the number of stretches, and three words a stretch
abbrev pub account_words : List ℕ → List Part → List ℕ
account_words times ps = times ++ (length ps ∷ part_words ps)

abbrev pub no_room : ℕ → List Part → Bool
no_room n ps = ltb n (7 + 3 * length ps)

-- how many words are written, or 4,294,967,296 × the refusal + its place; 16 comes after all records
unfoldable pub account_number : ℕ → Account → ℕ
account_number n (Account.accepted times ps) = if no_room n ps then refused_number 16 else 7 + 3 * length ps
account_number n (Account.refused number place) = refused_number number + place

unfoldable pub account_filled : List ℕ → Account → List ℕ
account_filled before (Account.accepted times ps) = if no_room (length before) ps then before else account_words times ps ++ drop (7 + 3 * length ps) before
account_filled before (Account.refused number place) = before

pub record FillsAccount (a : Account) (before behind : List ℕ) (r : ℕ) : Type 0 where
  pub number : r ≡ account_number (length before) a
  pub buffer : behind ≡ account_filled before a

-- ---- what the private functions promise each other

-- where there is no room for the times and the number of stretches
abbrev pub short_account : AccountRan → ℕ
short_account (AccountRan.accepted times n) = refused_number 16
short_account (AccountRan.refused number place) = refused_number number + place

-- where there is
abbrev pub ran_account : AccountRan → ℕ
ran_account (AccountRan.accepted times n) = 7 + 3 * n
ran_account (AccountRan.refused number place) = refused_number number + place

abbrev pub headed_by : List ℕ → Times → ℕ → List ℕ
headed_by b t n =
    set (set (set (set (set (set (set b 0 t.kept.0) 1 t.no_bid.0) 2 t.no_ask.0) 3 t.neither.0) 4 t.crossed.0) 5 t.wide.0) 6 n

abbrev pub headed_account : List ℕ → Result Accounted Stopped → List ℕ
headed_account b (Ok run) = headed_by b run.times run.stretches
headed_account b (Err stop) = b
