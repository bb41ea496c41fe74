-- The plan does what the call is to do (`works` of `standing_rules`), and `shift` does what the plan says.
use Rattle.std.proofs.Common.{rules, ◌≡◌, ◌≤◌, ◌<◌, Option, Some, None, IfSome, is_some, refl, sym, ap, subst, ◌∙◌, ℕ, Bool, Ok, Err, List, length, arith, min, leb}
use Rattle.standing_rules.specs.declared.Maker.{Maker}
use Rattle.standing_rules.specs.declared.Seen.{Seen}
use Rattle.standing_rules.specs.declared.Call.{Call}
use Rattle.standing_rules.specs.declared.CallError.{CallError}
use Rattle.standing_rules.specs.declared.CallError.TheVariants.{WrongRecords, WrongMaker, EveryRecordUsed}
use Rattle.standing_rules.specs.Calls.{standing, wrong, answer_by, number_of}
use Rattle.standing_rules.specs.Internal.{seen_in, record_of, judged, Plan, plan_by, planned, shifted}
use Rattle.standing_rules.proofs.Seeing.{place_seen}
use Rattle.standing_rules.proofs.Working.{PlanDoesCall, works, answered}
use Rattle.standing.proofs.work.Goals as goal

does_call : (l : List Maker) (count n : ℕ) (call : Call) (bad : Bool) (m : Maker) (s : Seen) (p : Plan)
    → n ≡ min count (length l) → m ≡ record_of call → s ≡ seen_in l m n → bad ≡ wrong (standing l count)
    → p ≡ planned call (judged call bad (is_some s.place) (leb (length l) count)) count s
    → PlanDoesCall l count call p
does_call l count n call bad m s p n_is m_is s_is bad_is p_is =
    let q : s ≡ seen_in l (record_of call) (min count (length l)) = s_is ∙ (λ i. seen_in l (m_is i) (n_is i)) in
    let e : p ≡ planned call (judged call (wrong (standing l count)) (is_some (seen_in l (record_of call) (min count (length l))).place) (leb (length l) count)) count (seen_in l (record_of call) (min count (length l))) =
    p_is ∙ (λ i. planned call (judged call (bad_is i) (is_some (q i).place) (leb (length l) count)) count (q i))
    in
    subst (λ (r : Plan). PlanDoesCall l count call r) (sym e) (works l count call)

-- no refusal's number is 0
refused : (error : CallError) → number_of error ≡ 0 → ⊥
refused WrongRecords e = omega (arith, e)
refused WrongMaker e = omega (arith, e)
refused EveryRecordUsed e = omega (arith, e)

within : (o : Option ℕ) (n k : ℕ) → n ≤ k → IfSome o (λ at. at < n) → IfSome o (λ at. 0 < k)
within None n k le h = tt
within (Some at) n k le h = omega (arith, le, h)

pub decide-requires : goal.decide-requires
decide-requires c =
    let l = c.args.list.now in
    let k = place_seen l c.record_of-m.result c.min.result in
    within c.scan-seen.result.place c.min.result c.args.count (omega (arith, c.min.ensures)) (subst (λ (s : Seen). IfSome s.place (λ at. at < c.min.result)) (sym c.scan-seen.ensures) k)

pub returns-in_err-p : goal.returns-in_err-p
returns-in_err-p c =
    let l = c.args.list.now in
    let a = c.args in
    let error = c.in_err-p.field-0.0 in
    let same : c.from_residual.result ≡ Err error = search rules in
    let w = does_call l a.count c.min.result a.call a.bad c.record_of-m.result c.scan-seen.result (plan_by a.count (Err error)) c.min.ensures c.record_of-m.ensures c.scan-seen.ensures c.requires c.in_err-p.ensures in
    (ap (answer_by a.count) same ∙ answered l a.count a.call (plan_by a.count (Err error)) w, w.kept (refused error))

pub shift-requires : goal.shift-requires
shift-requires c =
    let a = c.args in
    let p = c.in_ok-p.p in
    let w = does_call a.list.now a.count c.min.result a.call a.bad c.record_of-m.result c.scan-seen.result (plan_by a.count (Ok p)) c.min.ensures c.record_of-m.ensures c.scan-seen.ensures c.requires c.in_ok-p.ensures in
    let o = w.moved refl in
    (o.from_there, o.to_there)

pub returns : goal.returns
returns c =
    let a = c.args in
    let l = a.list.now in
    let p = c.in_ok-p.p in
    let w = does_call l a.count c.min.result a.call a.bad c.record_of-m.result c.scan-seen.result (plan_by a.count (Ok p)) c.min.ensures c.record_of-m.ensures c.scan-seen.ensures c.requires c.in_ok-p.ensures in
    let e : c.shift.new.list ≡ shifted l p.from p.to (record_of a.call) = c.shift.ensures ∙ ap (shifted l p.from p.to) c.record_of-m.ensures in
    (answered l a.count a.call (plan_by a.count (Ok p)) w, e ∙ (w.moved refl).moves)
