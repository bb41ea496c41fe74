-- What a list of calls leaves of the standing, as one number, the records and the outcomes.
use Rattle.std.specs.Prelude.{if◌then◌else◌}
use Prim.Native.Nat.{ℕ, ◌≤◌, ◌<◌}
use mathlib.Core.Path.{◌≡◌, refl, ap, ◌∙◌}
use mathlib.Core.Bool.{Bool, true, false, ◌&&◌}
use mathlib.Core.List.{List, [], ◌++◌}
use lib.Dec.{leb}
use lib.ListN.{length, drop}
use borrow.Author.Tests.{lt-ltb, le-ltb}
use Rattle.rules.specs.Answers.{accepted, refused}
use Rattle.standing_rules.specs.declared.Maker.{Maker}
use Rattle.standing_rules.specs.declared.Call.{Call}
use Rattle.standing_rules.specs.Calls.{Standing, after, outcomes_from}
use Rattle.standing.specs.declared.Ran.{Ran}
use Rattle.standing.specs.Words.{readable, calls_of}
use Rattle.standing.specs.Claim.{ListAnswers}
use Rattle.c_standing.specs.Standings.{count_number, made_number, made_records, made_outcomes, AnswersStanding, standing_number}

-- ---- the number

pub count_great : (n : ℕ) → 4294967295 < n → 4294967295 ≡ count_number n
count_great n h = rw (lt-ltb 4294967295 n h) refl

pub count_whole : (n : ℕ) → n ≤ 4294967295 → n ≡ count_number n
count_whole n h = rw (le-ltb 4294967295 n h) refl

-- ---- the calls that are made, by whether the words are a list and whether its outcomes fit

module _ (s : Standing) (calls : List Call) (before : List ℕ) where
  abbrev ran : Bool → List Call
  ran f = if f then calls else []

  number_is : (b c f : Bool) (n : ℕ) → f ≡ b && c → n ≡ (after s (ran f)).count
      → standing_number b f n ≡ made_number s (if b then (if c then accepted calls else refused 16) else refused 3)
  number_is true true f n e h =
      ap (λ (x : Bool). standing_number true x n) e ∙ ap count_number (h ∙ ap (λ (x : Bool). (after s (ran x)).count) e)
  number_is true false f n e h = ap (λ (x : Bool). standing_number true x n) e
  number_is false true f n e h = ap (λ (x : Bool). standing_number false x n) e
  number_is false false f n e h = ap (λ (x : Bool). standing_number false x n) e

  records_are : (b c f : Bool) (l : List Maker) → f ≡ b && c → l ≡ (after s (ran f)).records
      → l ≡ made_records s (if b then (if c then accepted calls else refused 16) else refused 3)
  unfolding after
  records_are true true f l e h = h ∙ ap (λ (x : Bool). (after s (ran x)).records) e
  records_are true false f l e h = h ∙ ap (λ (x : Bool). (after s (ran x)).records) e
  records_are false true f l e h = h ∙ ap (λ (x : Bool). (after s (ran x)).records) e
  records_are false false f l e h = h ∙ ap (λ (x : Bool). (after s (ran x)).records) e

  abbrev noted : Bool → List ℕ
  noted f = if f then outcomes_from s calls ++ drop (length calls) before else before

  outcomes_are : (b c f : Bool) (o : List ℕ) → f ≡ b && c → o ≡ noted f
      → o ≡ made_outcomes s before (if b then (if c then accepted calls else refused 16) else refused 3)
  outcomes_are true true f o e h = h ∙ ap noted e
  outcomes_are true false f o e h = h ∙ ap noted e
  outcomes_are false true f o e h = h ∙ ap noted e
  outcomes_are false false f o e h = h ∙ ap noted e

pub standing_answered : (ws : List ℕ) (s : Standing) (before : List ℕ) (l : List Maker) (behind : List ℕ) (r : Ran) (t : ℕ)
    → ListAnswers ws s before l behind r → t ≡ standing_number (readable ws) r.fits r.count → AnswersStanding ws s before l behind t
standing_answered ws s before l behind r t g e =
    let c = leb (length (calls_of ws)) (length before) in
    record {
      number = e ∙ number_is s (calls_of ws) before (readable ws) c r.fits r.count g.fits g.count;
      records = records_are s (calls_of ws) before (readable ws) c r.fits l g.fits g.records;
      outcomes = outcomes_are s (calls_of ws) before (readable ws) c r.fits behind g.fits g.outcomes;
    }
