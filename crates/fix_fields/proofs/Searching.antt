-- The search for fields, turn by turn.
use Rattle.std.proofs.Common.{None, Some}
use Prim.Native.Nat.{ℕ, suc, ◌+◌, ◌-◌, ◌≤◌, ◌<◌}
use native.Mathlib.Omega.{arith}
use mathlib.Core.Path.{◌≡◌, refl, sym, ap, subst, ◌∙◌}
use mathlib.Core.Bool.{Bool, true, false}
use mathlib.Core.List.{List, [], ◌∷◌, ◌++◌, append-nil}
use borrow.Author.Tests.{eqb-true, eqb-false, leb-true, leb-false}
use lib.Dec.{eqb, leb}
use lib.ListN.{length, get_or, take, drop, replicate, length-drop, length-append, drop_of_length-le}
use lib.Seq.{drop-cons}
use Rattle.rules.specs.Fields.{Field}
use Rattle.fix_fields.specs.Ends.{EndOf}
use Rattle.fix_fields.specs.Tags.{TagAt, tag, bad}
use Rattle.fix_fields.specs.Spans.{closed, Spanned, noted, EndsAt, SpansFound, found, wrong}
use Rattle.fix_fields.proofs.Pieces.{clear}
use Rattle.fix_fields.proofs.Spanning.{value-length, value-clear, split_value, widen, turn_body, turn_empty, framed_tag}
use Rattle.fix_fields.proofs.Closing.{all_in_front, front-snoc, front-none, front_some, closed_bad, closed-end}
use Rattle.fix_fields.proofs.Holding.{slot-below, nothing_yet, spanned_more}

-- the fields read so far, in front of those that are left
pub record Progress (b : List ℕ) (start : ℕ) (spans : List ℕ) (place : ℕ) : Type 0 where
  pub fs : List Field
  pub so_far : closed (drop start b) ≡ all_in_front fs (closed (drop place b))
  pub spanned : Spanned b spans fs
  pub from_two : 2 ≤ place
  pub inside : place ≤ length b
  pub before : get_or b (place - 1) 0 ≡ 1

-- a tag ends behind its begin
tag_length : (b t : List ℕ) (place next : ℕ) → drop place b ≡ t ++ (61 ∷ drop next b) → next < length b → place < next
tag_length b t place next q h =
    omega (arith, sym (length-drop place b) ∙ ap length q ∙ length-append t (61 ∷ drop next b), length-drop next b)

-- a byte that is not 1 is not the last
pub not_last : (b : List ℕ) (i : ℕ) → get_or b (length b - 1) 0 ≡ 1 → i < length b → (get_or b i 0 ≡ 1 → ⊥) → i + 1 < length b
not_last b i last h n = by (eqb i (length b - 1)) refl
  where
    by : (t : Bool) → eqb i (length b - 1) ≡ t → i + 1 < length b
    by true e = absurd (n (ap (λ (k : ℕ). get_or b k 0) (eqb-true i (length b - 1) e) ∙ last))
    by false e = let z = eqb-false i (length b - 1) e in omega arith

module _ (b : List ℕ) (start end : ℕ) (E : EndsAt b start end) where
  pub begins : (spans : List ℕ) → spans ≡ replicate 16 0 → Progress b start spans start
  unfolding all_in_front
  begins spans e =
      record {
        fs = [];
        so_far = refl;
        spanned = subst (λ (l : List ℕ). Spanned b l []) (sym e) (nothing_yet b);
        from_two = E.from_two;
        inside = omega (arith, E.seven, E.order);
        before = E.before;
      }

  module _ (spans : List ℕ) (place : ℕ) (P : Progress b start spans place) where
    -- nothing good comes behind
    pub stops : (r : Bool) → r ≡ false → closed (drop place b) ≡ None → SpansFound b start spans r
    stops r e h = wrong e (P.so_far ∙ ap (all_in_front P.fs) h ∙ front-none P.fs)

    -- the end
    at-end : place ≡ end → SpansFound b start spans true
    at-end e =
        found P.fs refl
        (P.so_far ∙ ap (λ (n : ℕ). all_in_front P.fs (closed (drop n b))) e ∙ ap (all_in_front P.fs) E.ten ∙ front_some P.fs [] ∙ ap Some (append-nil P.fs))
        P.spanned

    past_end : end < place → closed (drop place b) ≡ None
    past_end h = ap closed (drop_of_length-le b (by (leb (length b) place) refl)) ∙ closed-end
      where
        by : (t : Bool) → leb (length b) place ≡ t → length b ≤ place
        by true e = leb-true (length b) place e
        by false e =
            let l = leb-false (length b) place e in
            absurd (E.inner (place - 1) (omega arith) (omega arith) P.before)

    pub finishes : end ≤ place → SpansFound b start spans (eqb place end)
    finishes h = by (eqb place end) refl
      where
        by : (t : Bool) → eqb place end ≡ t → SpansFound b start spans t
        by true e = at-end (eqb-true place end e)
        by false e = let n = eqb-false place end e in stops false refl (past_end (omega arith))

    -- a turn
    module _ (low : place < end) (slot next : ℕ) (T : TagAt b place slot next) where
      long : 7 < length (drop place b)
      long = rw (length-drop place b) (omega (arith, E.seven))

      pub seventh : slot ≡ 7 → closed (drop place b) ≡ None
      seventh e = by T
        where
          by : TagAt b place slot next → closed (drop place b) ≡ None
          by (tag t g q h is) = framed_tag (drop place b) t (drop next b) g q (sym is ∙ e) long
          by (bad s h) = closed_bad (drop place b) (λ z. omega (arith, long)) h

      module _ (n : slot ≡ 7 → ⊥) where
        pub next-inside : next < length b
        next-inside = by T
          where
            by : TagAt b place slot next → next < length b
            by (tag t g q h is) = h
            by (bad s h) = absurd (n s)

        pub slot_small : slot < 8
        slot_small = by T
          where
            by : TagAt b place slot next → slot < 8
            by (tag t g q h is) = rw is (slot-below t)
            by (bad s h) = absurd (n s)

        pub emptied : get_or b next 0 ≡ 1 → closed (drop place b) ≡ None
        unfolding clear
        emptied e = by T
          where
            by : TagAt b place slot next → closed (drop place b) ≡ None
            by (tag t g q h is) =
                turn_empty (drop place b) t [] (drop (suc next) b) g refl
                (q ∙ ap (λ (l : List ℕ). t ++ (61 ∷ l)) (drop-cons b next 0 h ∙ ap (λ (x : ℕ). x ∷ drop (suc next) b) e)) refl
            by (bad s h) = absurd (n s)

        module _ (m : get_or b next 0 ≡ 1 → ⊥) (to : ℕ) (r : EndOf b (next + 1) to) where
          pub onwards : (spans' : List ℕ) → spans' ≡ noted spans slot next to → Progress b start spans' (to + 1)
          onwards spans' e = subst (λ (l : List ℕ). Progress b start l (to + 1)) (sym e) (by T)
            where
              wide : EndOf b next to
              wide = widen b next to r m

              value : List ℕ
              value = take (to - next) (drop next b)

              by : TagAt b place slot next → Progress b start (noted spans slot next to) (to + 1)
              by (tag t g q h is) =
                  let far = tag_length b t place next q h in
                  let cut = q ∙ ap (λ (l : List ℕ). t ++ (61 ∷ l)) (split_value b next to wide) in
                  let filled : 0 < length value = omega (arith, value-length b next to wide, r.first) in
                  let body = turn_body (drop place b) t value (drop (to + 1) b) g (value-clear b next to wide) cut filled (λ s. n (is ∙ s)) in
                  record {
                    fs = P.fs ++ (record { tag = t; value = value } ∷ []);
                    so_far = P.so_far ∙ ap (all_in_front P.fs) body ∙ sym (front-snoc P.fs (record { tag = t; value = value }) (closed (drop (to + 1) b)));
                    spanned = spanned_more b spans P.fs t value slot next to P.spanned g is (omega (arith, P.from_two)) wide.first (omega (arith, r.inside)) refl;
                    from_two = omega (arith, P.from_two, r.first);
                    inside = omega (arith, r.inside);
                    before = ap (λ (k : ℕ). get_or b k 0) (let z : to + 1 - 1 ≡ to = omega arith in z) ∙ r.ends;
                  }
              by (bad s h) = absurd (n s)

          pub farther : place < to + 1
          farther = by T
            where
              by : TagAt b place slot next → place < to + 1
              by (tag t g q h is) = omega (arith, tag_length b t place next q h, r.first)
              by (bad s h) = absurd (n s)
