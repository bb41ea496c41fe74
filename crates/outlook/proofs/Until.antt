-- Until when the maker may rest, by numbers: `by_of` is the latest time whose rest leaves a met cell.
use Rattle.std.specs.Prelude.{if◌then◌else◌, None, Some}
use Prim.Native.Nat.{ℕ, ◌+◌, ◌-◌, ◌≤◌, ◌<◌}
use native.Mathlib.Omega.{arith}
use mathlib.Core.Path.{◌≡◌, refl, sym, ap, ◌∙◌}
use mathlib.Core.Bool.{Bool, true, false, true≢false, not, ◌&&◌, ◌||◌, and-false, or-true}
use lib.Dec.{leb, ltb, eqb}
use borrow.Author.Tests.{leb-true, leb-false, le-leb, lt-leb, lt-ltb, le-ltb, ltb-true, eqb-true, eq-eqb}
use Rattle.rules.specs.declared.Millis.{Millis}
use Rattle.rules.specs.Terms.{paper}
use Rattle.rules.specs.Units.{millis}
use Rattle.rules.specs.Lapses.{within_lapse_limit}
use Rattle.rules.specs.Pay.{met}
use Rattle.rules.specs.Outlook.{need_of, latest, is_never}
use Rattle.lists.proofs.Lists.{both, and}
use Rattle.outlook.specs.Internal.{by_of}
use Rattle.continuations.proofs.Latest.{latest-none, latest-at}
use Rattle.continuations.proofs.Cells.{within_fewer}
use Rattle.outlook.proofs.Needs.{needed_enough}
use Rattle.outlook.proofs.Resting.{one_if}

-- what would make another false is false
pub not_so : (b c : Bool) → (b ≡ true → c ≡ true) → c ≡ false → b ≡ false
not_so true c h e = absurd (true≢false (sym (h refl) ∙ e))
not_so false c h e = refl

module _ (kept lapses length share allowed t : ℕ) (can begins : Bool) where
  -- the lapse of resting until s
  abbrev pub more_till : ℕ → ℕ
  more_till s = if ltb t s then one_if begins else 0

  -- the verdict on resting until s and keeping everything from then on
  abbrev pub verdict_till : ℕ → Bool
  verdict_till s = met paper (kept + (length - s)) length share && within_lapse_limit allowed (lapses + more_till s)

  abbrev pub test_till : ℕ → Bool
  test_till s = (eqb s length || can) && verdict_till s

  -- ---- the lapse of resting

  more-now : more_till t ≡ 0
  more-now = rw (le-ltb t t (omega arith)) refl

  more_later : (s : ℕ) → t < s → more_till s ≡ one_if begins
  more_later s h = rw (lt-ltb t s h) refl

  more_most : (s r : ℕ) → s ≤ r → more_till s ≤ more_till r
  more_most s r h = go (ltb t s) refl
    where
      go : (b : Bool) → ltb t s ≡ b → (if b then one_if begins else 0) ≤ more_till r
      go true e = let l = ltb-true t s e in omega (arith, more_later r (omega arith))
      go false e = omega arith

  -- ---- the verdict

  met_till : (s : ℕ) → met paper (kept + (length - s)) length share ≡ leb (need_of paper kept length share) (length - s)
  met_till s = needed_enough kept length share (length - s)

  -- an earlier end of the rest does no harm
  pub verdict_earlier : (s r : ℕ) → s ≤ r → verdict_till r ≡ true → verdict_till s ≡ true
  verdict_earlier s r h e =
      let v = both (met paper (kept + (length - r)) length share) (within_lapse_limit allowed (lapses + more_till r)) e in
      let enough = leb-true (need_of paper kept length share) (length - r) (sym (met_till r) ∙ v.0) in
      and (met_till s ∙ le-leb (need_of paper kept length share) (length - s) (omega arith))
      (within_fewer allowed (lapses + more_till s) (lapses + more_till r) (omega (arith, more_most s r h)) v.1)

  -- ---- the cases

  module _ (inside : t ≤ length) where
    to_end : t + (length - t) ≡ length
    to_end = omega arith

    by_end : verdict_till length ≡ true → latest test_till t (length - t) ≡ Some (millis length)
    by_end v =
        latest-at test_till t (length - t) length inside (omega arith) (and (ap (λ (b : Bool). b || can) (eq-eqb length length refl)) v)
        (λ m l u. absurd (omega arith))

    by_none : verdict_till length ≡ false → can ≡ false → latest test_till t (length - t) ≡ None
    by_none v e = latest-none test_till t (length - t) (λ s l u. go s (eqb s length) refl)
      where
        go : (s : ℕ) (b : Bool) → eqb s length ≡ b → (b || can) && verdict_till s ≡ false
        go s true f = ap verdict_till (eqb-true s length f) ∙ v
        go s false f = ap (λ (c : Bool). c && verdict_till s) e

    by_lost : verdict_till t ≡ false → latest test_till t (length - t) ≡ None
    by_lost v =
        latest-none test_till t (length - t)
        (λ s l u. ap (λ (b : Bool). (eqb s length || can) && b) (not_so (verdict_till s) (verdict_till t) (verdict_earlier t s l) v)
        ∙ and-false (eqb s length || can))

    passes : can ≡ true → (s : ℕ) → verdict_till s ≡ true → test_till s ≡ true
    passes e s v = and (ap (λ (b : Bool). eqb s length || b) e ∙ or-true (eqb s length)) v

    fails : (s : ℕ) → verdict_till s ≡ false → test_till s ≡ false
    fails s v = ap (λ (b : Bool). (eqb s length || can) && b) v ∙ and-false (eqb s length || can)

    -- no more than what is left is needed, and the lapse is none too many
    by_needed : can ≡ true → verdict_till t ≡ true → within_lapse_limit allowed (lapses + more_till length) ≡ true
        → latest test_till t (length - t) ≡ Some (millis (length - need_of paper kept length share))
    by_needed e v w =
        let need = need_of paper kept length share in
        let enough = leb-true need (length - t) (sym (met_till t) ∙ (both _ (within_lapse_limit allowed (lapses + more_till t)) v).0) in
        latest-at test_till t (length - t) (length - need) (omega arith) (omega arith)
        (passes e (length - need)
        (and (met_till (length - need) ∙ le-leb need (length - (length - need)) (omega arith))
        (within_fewer allowed (lapses + more_till (length - need)) (lapses + more_till length)
        (omega (arith, more_most (length - need) length (omega arith))) w)))
        (λ m l u. fails m
        (ap (λ (b : Bool). b && within_lapse_limit allowed (lapses + more_till m)) (met_till m ∙ lt-leb need (length - m) (omega arith))))

    -- the lapse is one too many
    by_now : can ≡ true → verdict_till t ≡ true → within_lapse_limit allowed (lapses + more_till length) ≡ false
        → latest test_till t (length - t) ≡ Some (millis t)
    by_now e v w =
        latest-at test_till t (length - t) t (omega arith) (omega arith) (passes e t v)
        (λ m l u. fails m
        (ap (λ (n : ℕ). met paper (kept + (length - m)) length share && within_lapse_limit allowed (lapses + n))
        (more_later m l ∙ sym (more_later length (omega arith)))
        ∙ ap (λ (b : Bool). met paper (kept + (length - m)) length share && b) w
        ∙ and-false (met paper (kept + (length - m)) length share)))

    pub by_law : by_of (verdict_till length) (can && verdict_till t) (within_lapse_limit allowed (lapses + more_till length)) (millis t) (millis length)
        (need_of paper kept length share)
        ≡ latest test_till t (length - t)
    by_law = go (verdict_till length) can (verdict_till t) (within_lapse_limit allowed (lapses + more_till length)) refl refl refl refl
      where
        go : (rest able keep waits : Bool) → verdict_till length ≡ rest → can ≡ able → verdict_till t ≡ keep
            → within_lapse_limit allowed (lapses + more_till length) ≡ waits
            → by_of rest (able && keep) waits (millis t) (millis length) (need_of paper kept length share) ≡ latest test_till t (length - t)
        go true able keep waits r a k w = sym (by_end r)
        go false false keep waits r a k w = sym (by_none r a)
        go false true false waits r a k w = sym (by_lost k)
        go false true true true r a k w = sym (by_needed a k w)
        go false true true false r a k w = sym (by_now a k w)

    -- ---- never: keeping everything that is left does not help, nor does resting

    never_is : (rest possible waits : Bool) (now end : Millis) (need : ℕ) → is_never (by_of rest possible waits now end need) ≡ not rest && not possible
    never_is true possible waits now end need = refl
    never_is false true true now end need = refl
    never_is false true false now end need = refl
    never_is false false waits now end need = refl

    -- more is needed than is left, or lapses are over
    abbrev over : Bool
    over = ltb (length - t) (need_of paper kept length share) || not (within_lapse_limit allowed lapses)

    over_is : not (verdict_till t) ≡ over
    over_is =
        ap (λ (b : Bool). not (b && within_lapse_limit allowed (lapses + more_till t))) (met_till t)
        ∙ ap (λ (n : ℕ). not (leb (need_of paper kept length share) (length - t) && within_lapse_limit allowed (lapses + n))) more-now
        ∙ (λ i. not (leb (need_of paper kept length share) (length - t) && within_lapse_limit allowed (same i)))
        ∙ either (leb (need_of paper kept length share) (length - t)) (within_lapse_limit allowed lapses) refl
      where
        same : lapses + 0 ≡ lapses
        same = omega arith

        either : (b c : Bool) → leb (need_of paper kept length share) (length - t) ≡ b
            → not (b && c) ≡ ltb (length - t) (need_of paper kept length share) || not c
        either true c e = ap (λ (x : Bool). x || not c) (sym (le-ltb (length - t) (need_of paper kept length share) (leb-true _ _ e)))
        either false c e = ap (λ (x : Bool). x || not c) (sym (lt-ltb (length - t) (need_of paper kept length share) (leb-false _ _ e)))

    -- or something is needed where nothing can be kept
    pub never_law : (can ≡ false → 1 ≤ need_of paper kept length share)
        → is_never (by_of (verdict_till length) (can && verdict_till t) (within_lapse_limit allowed (lapses + more_till length)) (millis t) (millis length)
        (need_of paper kept length share))
        ≡ over || (ltb 0 (need_of paper kept length share) && not can)
    never_law some =
        never_is (verdict_till length) (can && verdict_till t) (within_lapse_limit allowed (lapses + more_till length)) (millis t) (millis length)
        (need_of paper kept length share)
        ∙ go can (verdict_till t) refl refl
        ∙ ap (λ (b : Bool). b || (ltb 0 (need_of paper kept length share) && not can)) over_is
      where
        go : (able keep : Bool) → can ≡ able → verdict_till t ≡ keep
            → not (verdict_till length) && not (able && keep) ≡ not keep || (ltb 0 (need_of paper kept length share) && not able)
        go true true a k = and-false (not (verdict_till length)) ∙ sym (and-false (ltb 0 (need_of paper kept length share)))
        go true false a k =
            ap (λ (b : Bool). not b && true) (not_so (verdict_till length) (verdict_till t) (verdict_earlier t length inside) k)
        go false keep a k =
            let needed = some a in
            let failed : met paper (kept + (length - length)) length share ≡ false =
            met_till length ∙ lt-leb (need_of paper kept length share) (length - length) (omega arith) in
            ap (λ (b : Bool). not (b && within_lapse_limit allowed (lapses + more_till length)) && true) failed
            ∙ sym (or-true (not keep))
            ∙ ap (λ (b : Bool). not keep || (b && true)) (sym (lt-ltb 0 (need_of paper kept length share) needed))
