-- The theorem: the causes of every call ascend, so the first that applies has the lowest number.
use Prim.Native.Nat.{ℕ, ◌<◌, ◌≤◌}
use native.Mathlib.Omega.{arith}
use mathlib.Core.Path.{◌≡◌, refl, ap}
use mathlib.Core.List.{List, [], ◌∷◌, ◌++◌}
use mathlib.Core.Bool.{Bool, true, false, true≢false, false≢true, ◌&&◌, ◌||◌}
use lib.Dec.{eqb}
use borrow.Author.Tests.{eq-eqb}
use Rattle.rules.specs.declared.Order.{Order}
use Rattle.rules.specs.declared.Row.{Row}
use Rattle.rules.specs.declared.Event.{Event}
use Rattle.rules.specs.declared.Event.TheVariants.{Add, Amend, Cancel, Deal, Tick}
use Rattle.rules.specs.declared.Amendment.{Amendment}
use Rattle.lists.specs.Lists.{any, All}
use Rattle.rules.specs.Orders.{live}
use Rattle.rules.specs.Terms.{Terms}
use Rattle.rules.specs.Calls.{Call, Book, Running, Idle, Quoting, amend_of, Open, Send, Message, Ask, Commit, Close, Drop, Charge, Withdraw, Look, Report, Outlook}
use Rattle.rules.specs.Causes.{Cause, cause, first_number, trader_causes, event_causes, event_refusal, send_causes, row_causes, causes, refusal_of}
use Rattle.rules.specs.Lowest.{Ascend, Lowest, is_message, FirstIsLowest, LowestNumbers}

-- ---- a list that ascends

-- no number of it is n or less
above : (n : ℕ) (cs : List Cause) → Ascend n cs → All (λ (c : Cause). c.applies ≡ true → n ≤ c.number) cs
above n [] a = tt
above n (c ∷ cs) a = (λ e. omega (arith, a.0), weaker n c.number cs (omega (arith, a.0)) (above c.number cs a.1))
  where
    weaker : (m n : ℕ) (cs : List Cause) → m ≤ n → All (λ (c : Cause). c.applies ≡ true → n ≤ c.number) cs → All (λ (c : Cause). c.applies ≡ true → m ≤ c.number) cs
    weaker m n [] h p = tt
    weaker m n (c ∷ cs) h p = (λ e. omega (arith, h, p.0 e), weaker m n cs h p.1)

-- one more in front, with a number that none after it is below
in_front_lem : (k : ℕ) (b : Bool) (cs : List Cause) → 0 < k → All (λ (c : Cause). c.applies ≡ true → k ≤ c.number) cs → Lowest cs (first_number cs)
    → Lowest (cause k b ∷ cs) (first_number (cause k b ∷ cs))
unfolding first_number any
in_front_lem k true cs h above rest =
    record {
      none = λ e. absurd (true≢false e);
      zero = λ e. absurd (omega (arith, h, e));
      one = λ e. ap (λ (t : Bool). t || any (λ (c : Cause). c.applies && eqb c.number k) cs) (eq-eqb k k refl);
      least = (λ e. omega arith, above);
    }
in_front_lem k false cs h above rest =
    record { none = rest.none; zero = rest.zero; one = rest.one; least = (λ e. absurd (false≢true e), rest.least) }

lowest : (n : ℕ) (cs : List Cause) → Ascend n cs → Lowest cs (first_number cs)
unfolding first_number any
lowest n [] a = record { none = λ e. refl; zero = λ e. refl; one = λ e. absurd (false≢true e); least = tt }
lowest n (c ∷ cs) a =
    in_front_lem c.number c.applies cs (omega (arith, a.0)) (above c.number cs a.1) (lowest c.number cs a.1)

pub first_is_lowest : (n : ℕ) (cs : List Cause) → Ascend n cs → FirstIsLowest n cs (first_number cs)
first_is_lowest n cs a = record { ascend = a; lowest = lowest n cs a }

-- ---- the lists

trader_ascends : (orders : List Order) (e : Event) → Ascend 9 (trader_causes orders e)
trader_ascends orders (Add t id side price volume) = (omega arith, (omega arith, (omega arith, tt)))
trader_ascends orders (Amend t id price volume) = (omega arith, (omega arith, tt))
trader_ascends orders (Cancel t id) = (omega arith, tt)
trader_ascends orders (Deal t id volume) = (omega arith, (omega arith, (omega arith, tt)))
trader_ascends orders (Tick t) = tt

pub event_ascends : (row : Row) (events : List Event) (e : Event) → Ascend 7 (event_causes row events e)
unfolding event_causes
event_ascends row events e = (omega arith, (omega arith, trader_ascends (live events) e))

-- a call's from above 0: 7 alone with none open
pub send_ascends : (r : Running) (e : Event) → Ascend 0 (send_causes r e)
unfolding event_causes
send_ascends Idle e = (omega arith, tt)
send_ascends (Quoting place row opening events) e = (omega arith, (omega arith, trader_ascends (live events) e))

-- a commit's: amend's own, then 19
commit_ascends : (r : Running) (a : Amendment) (b : Bool) → Ascend 0 (send_causes r (amend_of a) ++ (cause 19 b ∷ []))
unfolding event_causes
commit_ascends Idle a b = (omega arith, (omega arith, tt))
commit_ascends (Quoting place row opening events) a b = (omega arith, (omega arith, (omega arith, (omega arith, (omega arith, tt)))))

module _ (terms : Terms) where
  causes_ascend : (b : Book) (c : Call) → is_message c ≡ false → Ascend 0 (causes terms b c)
  unfolding causes
  causes_ascend b (Open words day opening) h =
      (omega arith, (omega arith, (omega arith, (omega arith, (omega arith, (omega arith, (omega arith, tt)))))))
  causes_ascend b (Send e) h = send_ascends b.running e
  causes_ascend b (Message start bytes) h = absurd (true≢false h)
  causes_ascend b (Ask a) h = send_ascends b.running (amend_of a)
  causes_ascend b (Commit a ticket) h = commit_ascends b.running a _
  causes_ascend b (Close active passive) h = (omega arith, (omega arith, tt))
  causes_ascend b Drop h = (omega arith, tt)
  causes_ascend b (Charge day expiry quantum active passive) h = (omega arith, (omega arith, tt))
  causes_ascend b (Withdraw day expiry quantum) h = (omega arith, (omega arith, tt))
  causes_ascend b (Look day expiry quantum) h = (omega arith, (omega arith, tt))
  causes_ascend b Report h = tt
  causes_ascend b Outlook h = (omega arith, tt)

  pub lowest_numbers : LowestNumbers terms
  unfolding refusal_of event_refusal
  lowest_numbers =
      record {
        calls = λ b c h. first_is_lowest 0 (causes terms b c) (causes_ascend b c h);
        rows = λ spread words. first_is_lowest 0 (row_causes terms spread words) (omega arith, (omega arith, tt));
        events = λ row events e. first_is_lowest 7 (event_causes row events e) (event_ascends row events e);
        traders = λ orders e. first_is_lowest 9 (trader_causes orders e) (trader_ascends orders e);
      }
