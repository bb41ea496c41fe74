-- The claim about lists, of running code: what `run` promises from count 0 is what is worked out afresh from the calls alone; and every
-- list of calls can be written as words and is read back as it was.
--     afresh       the theorem: a list that ran from count 0 left `Afresh`
--     read-back    the words of a list of calls are a list of calls, and say those
use Rattle.std.specs.Prelude.{if◌then◌else◌}
use Prim.Native.Nat.{ℕ}
use mathlib.Core.Path.{◌≡◌, refl, sym, ap, subst, ◌∙◌}
use mathlib.Core.List.{List, [], ◌∷◌, ◌++◌}
use mathlib.Core.Bool.{true}
use lib.ListN.{length, drop}
use Rattle.standing_rules.specs.declared.Maker.{Maker}
use Rattle.standing_rules.specs.declared.Call.{Call}
use Rattle.standing_rules.specs.declared.Call.TheVariants.{Join, Change, Leave}
use Rattle.standing_rules.specs.Calls.{Standing, standing, used, call_of, after, outcomes_from}
use Rattle.standing_rules.specs.Roll.{roll_after, Stands}
use Rattle.standing_rules.proofs.Claim.{claim}
use Rattle.standing.specs.declared.Ran.{Ran}
use Rattle.standing.specs.Words.{is_call, readable, calls_of, words_of, script_of}
use Rattle.standing.specs.Claim.{ListAnswers, Afresh}

pub afresh : (ws : List ℕ) (lent : List Maker) (before : List ℕ) (l : List Maker) (behind : List ℕ) (r : Ran)
    → ListAnswers ws (standing lent 0) before l behind r → r.fits ≡ true → Afresh ws lent before l behind r.count
afresh ws lent before l behind r h fits =
    let c = claim lent (calls_of ws) in
    let calls : (if r.fits then calls_of ws else []) ≡ calls_of ws = rw fits refl in
    let e : l ≡ (after (standing lent 0) (calls_of ws)).records = h.records ∙ ap (λ (cs : List Call). (after (standing lent 0) cs).records) calls in
    let k : r.count ≡ (after (standing lent 0) (calls_of ws)).count = h.count ∙ ap (λ (cs : List Call). (after (standing lent 0) cs).count) calls in
    let s : standing l r.count ≡ after (standing lent 0) (calls_of ws) = λ i. record { records = e i; count = k i } in
    let o : behind ≡ outcomes_from (standing lent 0) (calls_of ws) ++ drop (length (calls_of ws)) before = h.outcomes ∙ rw fits refl in
    record {
      stands = subst (λ (t : Standing). Stands t (roll_after (length lent) (calls_of ws))) (sym s) c.stands;
      one = λ other only all order. c.one other only all order ∙ ap used (sym s);
      outcomes = o ∙ ap (λ (os : List ℕ). os ++ drop (length (calls_of ws)) before) c.outcomes;
      size = ap length e ∙ c.lent;
    }

-- ---- any list of calls is words

front-readable : (call : Call) (ws : List ℕ) → readable (words_of call ++ ws) ≡ readable ws
unfolding readable words_of is_call
front-readable (Join m) ws = refl
front-readable (Change m) ws = refl
front-readable (Leave n) ws = refl

front-call : (call : Call) (ws : List ℕ) → calls_of (words_of call ++ ws) ≡ call ∷ calls_of ws
unfolding calls_of words_of is_call call_of
front-call (Join m) ws = refl
front-call (Change m) ws = refl
front-call (Leave n) ws = refl

pub read_back : (calls : List Call) → (readable (script_of calls) ≡ true) × (calls_of (script_of calls) ≡ calls)
unfolding script_of readable calls_of
read_back [] = (refl, refl)
read_back (call ∷ calls) =
    let r = read_back calls in
    (front-readable call (script_of calls) ∙ r.0, front-call call (script_of calls) ∙ ap (λ (cs : List Call). call ∷ cs) r.1)
