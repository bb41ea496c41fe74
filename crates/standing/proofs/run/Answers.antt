-- One call more runs (`Running.antt`): `work` on what the calls before left, its outcome noted.
use Rattle.std.proofs.Common.{◌≡◌, ◌+◌, ◌<◌, ℕ, Bool, true, Option, Some, Result, refl, List, length, set, sym, ap, subst, ◌∙◌, arith, rules}
use Rattle.standing_rules.specs.declared.Maker.{Maker}
use Rattle.standing_rules.specs.declared.CallError.{CallError}
use Rattle.standing_rules.specs.declared.Call.{Call}
use Rattle.standing_rules.specs.Calls.{Standing, standing, wrong, step, Answer, answer_by, answer_of}
use Rattle.standing.specs.Internal.{call_at, can_run, ready_of}
use Rattle.standing.specs.Claim.{ListAnswers}
use Rattle.standing.proofs.Running.{running, at as at_call, noted, ready_is, judged-once, at_start, noted_start, few, inside, at_next, noted-next, noted_long, finished, not_run, none_ready}
use Rattle.standing.proofs.run.Goals as goal
use Rattle.standing.proofs.run.Goals.{in-Ok, in-Err}

module _ (ws : List ℕ) (s : Standing) (os : List ℕ) (k : ℕ) (l : List Maker) (n : ℕ) (o : List ℕ)
    (records : l ≡ (at_call ws s os k).records) (count : n ≡ (at_call ws s os k).count) (outcomes : o ≡ noted ws s os k) where
  stands : standing l n ≡ at_call ws s os k
  stands = λ i. record { records = records i; count = count i }

  still_judged : (bad : Bool) → bad ≡ wrong s → bad ≡ wrong (standing l n)
  still_judged bad e = e ∙ sym (judged-once ws s os k) ∙ ap wrong (sym stands)

  module _ (h : k < length (running ws s os)) where
    note_there : k < length o
    note_there =
        let f = few ws s os in
        let e : length o ≡ length os = ap length outcomes ∙ noted_long ws s os k (omega arith) in
        omega (arith, f, e)

    module _ (a : Call) (asked : a ≡ call_at ws k) (r : Answer) (answer : r ≡ answer_of (standing l n) a) where
      records_next : (zs : List Maker) → zs ≡ (step (standing l n) a).records → zs ≡ (at_call ws s os (k + 1)).records
      records_next zs e = e ∙ (λ i. (step (stands i) (asked i)).records) ∙ ap (λ (t : Standing). t.records) (at_next ws s os k h)

      answered : r ≡ answer_of (at_call ws s os k) (call_at ws k)
      answered = answer ∙ (λ i. answer_of (stands i) (asked i))

      count_next : r.count ≡ (at_call ws s os (k + 1)).count
      unfolding answer_of
      count_next = ap (λ (t : Answer). t.count) answered ∙ ap (λ (t : Standing). t.count) (at_next ws s os k h)

      outcomes_next : (vs : List ℕ) → vs ≡ set o k r.refusal → vs ≡ noted ws s os (k + 1)
      unfolding answer_of
      outcomes_next vs e = e ∙ (λ i. set (outcomes i) k (answered i).refusal) ∙ noted-next ws s os k h

  all_ran : k ≡ length (running ws s os) → can_run ws (length os) ≡ true → ListAnswers ws s os l o (record { count = n; fits = true })
  all_ran end fits =
      subst (λ (b : Bool). ListAnswers ws s os l o (record { count = n; fits = b })) fits (rw (records, count, outcomes, end) (finished ws s os))

pub returns-in_default : goal.returns-in_default
returns-in_default c =
    let ws = c.args.words.now in
    let s = standing c.args.list.now c.args.count in
    let os = c.args.outcomes.now in
    not_run ws s os (none_ready ws s os (sym c.in_default.is ∙ c.count_ready.ensures)) c.args.list.now c.args.count refl

pub loop-k-init : goal.loop-k-init
loop-k-init c =
    let start = at_start c.args.words.now (standing c.args.list.now c.args.count) c.args.outcomes.now in
    record {
      records = ap (λ (t : Standing). t.records) (sym start);
      count = ap (λ (t : Standing). t.count) (sym start);
      outcomes = sym (noted_start c.args.words.now (standing c.args.list.now c.args.count) c.args.outcomes.now);
    }

-- the calls that run
calls_are : (ws : List ℕ) (s : Standing) (os : List ℕ) (o : Option ℕ) (n : ℕ) → o ≡ ready_of ws (length os) → o ≡ Some n → n ≡ length (running ws s os)
calls_are ws s os o n e f = (ready_is ws s os n (sym f ∙ e)).0

pub call_at-requires : goal.call_at-requires
call_at-requires c =
    let ws = c.args.words.now in
    let s = standing c.args.list.now c.args.count in
    let os = c.args.outcomes.now in
    inside ws s os c.loop-k.k (omega (arith, calls_are ws s os _ _ c.count_ready.ensures c.in-Some.is))

pub work-requires : goal.work-requires
work-requires c =
    let i = c.loop-k.invariant in
    still_judged c.args.words.now (standing c.args.list.now c.args.count) c.args.outcomes.now c.loop-k.k c.loop-k.list c.loop-k.c c.loop-k.outcomes i.records i.count i.outcomes c.judge-bad.result c.judge-bad.ensures

pub bounds-outcomes-k : goal.bounds-outcomes-k
bounds-outcomes-k c =
    let ws = c.args.words.now in
    let s = standing c.args.list.now c.args.count in
    let os = c.args.outcomes.now in
    let i = c.loop-k.invariant in
    note_there ws s os c.loop-k.k c.loop-k.list c.loop-k.c c.loop-k.outcomes i.records i.count i.outcomes (omega (arith, calls_are ws s os _ _ c.count_ready.ensures c.in-Some.is))

pub offset_bounds-outcomes-k : goal.offset_bounds-outcomes-k
offset_bounds-outcomes-k c =
    let ws = c.args.words.now in
    let s = standing c.args.list.now c.args.count in
    let os = c.args.outcomes.now in
    let i = c.loop-k.invariant in
    let h : c.loop-k.k < length c.loop-k.outcomes =
    note_there ws s os c.loop-k.k c.loop-k.list c.loop-k.c c.loop-k.outcomes i.records i.count i.outcomes (omega (arith, calls_are ws s os _ _ c.count_ready.ensures c.in-Some.is)) in
    search rules

pub loop-k-preserved : goal.loop-k-preserved
loop-k-preserved c =
    let ws = c.args.words.now in
    let s = standing c.args.list.now c.args.count in
    let os = c.args.outcomes.now in
    let h : c.loop-k.k < length (running ws s os) = omega (arith, calls_are ws s os _ _ c.count_ready.ensures c.in-Some.is) in
    let i = c.loop-k.invariant in
    let l = c.loop-k in
    let a = c.call_at in
    let w = c.work in
    let r = answer_by l.c w.result in
    let counted : c.match-work.c ≡ r.count =
    elim c.match-work.branch [
      | in-Ok b ↦ b.c-is ∙ ap (λ (x : Result ℕ CallError). (answer_by l.c x).count) (sym b.in-Ok.is)
      | in-Err b ↦ b.c-is ∙ ap (λ (x : Result ℕ CallError). (answer_by l.c x).count) (sym b.in-Err.is)
    ]
    in
    let told : c.match-work.outcomes ≡ r.refusal =
    elim c.match-work.branch [
      | in-Ok b ↦ b.outcomes-is ∙ ap (λ (x : Result ℕ CallError). (answer_by l.c x).refusal) (sym b.in-Ok.is)
      | in-Err b ↦ b.outcomes-is ∙ b.from.ensures ∙ ap (λ (x : Result ℕ CallError). (answer_by l.c x).refusal) (sym b.in-Err.is)
    ]
    in
    record {
      records = records_next ws s os l.k l.list l.c l.outcomes i.records i.count i.outcomes h a.result a.ensures r w.ensures.0 w.new.list w.ensures.1;
      count = counted ∙ count_next ws s os l.k l.list l.c l.outcomes i.records i.count i.outcomes h a.result a.ensures r w.ensures.0;
      outcomes = outcomes_next ws s os l.k l.list l.c l.outcomes i.records i.count i.outcomes h a.result a.ensures r w.ensures.0 _ (ap (set l.outcomes l.k) told);
    }

pub returns : goal.returns
returns c =
    let ws = c.args.words.now in
    let s = standing c.args.list.now c.args.count in
    let os = c.args.outcomes.now in
    let i = c.loop-k.invariant in
    let l = c.loop-k in
    let e = sym c.in-Some.is ∙ c.count_ready.ensures in
    let n = calls_are ws s os _ _ c.count_ready.ensures c.in-Some.is in
    all_ran ws s os l.k l.list l.c l.outcomes i.records i.count i.outcomes (omega (arith, n)) (ready_is ws s os _ e).1
