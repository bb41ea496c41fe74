-- The search for wanted tags, turn by turn.
use Rattle.std.proofs.Common.{None, Some}
use Prim.Native.Nat.{ℕ, suc, ◌+◌, ◌*◌, ◌-◌, ◌≤◌, ◌<◌}
use native.Mathlib.Omega.{arith}
use mathlib.Core.Path.{◌≡◌, refl, sym, ap, subst, ◌∙◌}
use mathlib.Core.Bool.{Bool, true, false}
use mathlib.Core.List.{List, [], ◌∷◌, ◌++◌, append-nil}
use borrow.Author.Tests.{eqb-true, eqb-false, leb-true, leb-false, eq-eqb, ne_eqb}
use lib.Dec.{eqb, leb}
use lib.ListN.{length, get_or, take, drop, length-drop, length-append, drop_of_length-le, length-replicate}
use lib.Seq.{drop-cons}
use Rattle.rules.specs.Digits.{decimal_of}
use Rattle.rules.specs.Fields.{Field, fields_bytes, good_tag, has_tag}
use Rattle.fix_fields.specs.Ends.{EndOf}
use Rattle.fix_fields.specs.Spans.{closed, EndsAt}
use Rattle.fix_tag_spans.specs.Slots.{SpansAsked, AnySpans, found, wrong}
use Rattle.fix_tag_spans.specs.Internal.{tag_slot, AnyTag, tag, bad, noted_at}
use Rattle.fix_fields.proofs.Pieces.{clear}
use Rattle.fix_fields.proofs.Spanning.{value-length, value-clear, split_value, widen, turn_body, turn_empty, framed_tag}
use Rattle.fix_fields.proofs.Closing.{all_in_front, front-snoc, front-none, front_some, closed_bad, closed-end}
use Rattle.fix_tag_spans.proofs.Wanting.{few}
use Rattle.fix_tag_spans.proofs.TagSlots.{frame_slot, slot_frame, has_slot, slot-place}
use Rattle.fix_tag_spans.proofs.Noting.{snoc_length, Words, no_words, all_words, words_skip, words_noted}

-- the fields read so far, in front of those that are left
pub record Progress (b : List ℕ) (start : ℕ) (tags spans : List ℕ) (place : ℕ) : Type 0 where
  pub fs : List Field
  pub so_far : closed (drop start b) ≡ all_in_front fs (closed (drop place b))
  pub words : Words start tags spans fs
  pub is : place ≡ start + length (fields_bytes fs)
  pub from_two : 2 ≤ place
  pub inside : place ≤ length b
  pub before : get_or b (place - 1) 0 ≡ 1

-- a tag ends before its value
tag_length : (b t : List ℕ) (place next : ℕ) → drop place b ≡ t ++ (61 ∷ drop next b) → next < length b → next ≡ place + length t + 1
tag_length b t place next q h =
    omega (arith, sym (length-drop place b) ∙ ap length q ∙ length-append t (61 ∷ drop next b), length-drop next b)

module _ (b : List ℕ) (start end : ℕ) (tags slots spans₀ : List ℕ) (A : SpansAsked b start end tags slots spans₀) where
  E : EndsAt b start end
  E = A.ends

  pub begins : Progress b start tags spans₀ start
  unfolding all_in_front fields_bytes E
  begins =
      record {
        fs = [];
        so_far = refl;
        words = no_words start (2 * length tags) tags spans₀ refl A.zeros;
        is = omega arith;
        from_two = E.from_two;
        inside = omega (arith, E.seven, E.order);
        before = E.before;
      }

  module _ (spans : List ℕ) (place : ℕ) (P : Progress b start tags spans place) where
    pub same_size : length spans ≡ length spans₀
    same_size = P.words.size ∙ sym (ap length A.zeros ∙ length-replicate (2 * length tags) 0)

    -- nothing good comes after
    pub stops : closed (drop place b) ≡ None → AnySpans b start end tags spans false
    stops h = wrong refl (P.so_far ∙ ap (all_in_front P.fs) h ∙ front-none P.fs)

    -- the end
    at-end : place ≡ end → AnySpans b start end tags spans true
    unfolding E
    at-end e =
        found P.fs refl
        (P.so_far ∙ ap (λ (n : ℕ). all_in_front P.fs (closed (drop n b))) e ∙ ap (all_in_front P.fs) E.ten ∙ front_some P.fs [] ∙ ap Some (append-nil P.fs))
        (sym e ∙ P.is) (all_words start tags spans P.fs P.words)

    past_end : end < place → closed (drop place b) ≡ None
    unfolding E
    past_end h = ap closed (drop_of_length-le b (by (leb (length b) place) refl)) ∙ closed-end
      where
        by : (t : Bool) → leb (length b) place ≡ t → length b ≤ place
        by true e = leb-true (length b) place e
        by false e =
            let l = leb-false (length b) place e in
            absurd (E.inner (place - 1) (omega arith) (omega arith) P.before)

    pub finishes : end ≤ place → AnySpans b start end tags spans (eqb place end)
    finishes h = by (eqb place end) refl
      where
        by : (t : Bool) → eqb place end ≡ t → AnySpans b start end tags spans t
        by true e = at-end (eqb-true place end e)
        by false e = let n = eqb-false place end e in stops (past_end (omega arith))

    -- a turn
    module _ (low : place < end) (slot next : ℕ) (T : AnyTag b slots place slot next) where
      long : 7 < length (drop place b)
      unfolding E
      long = rw (length-drop place b) (omega (arith, E.seven))

      pub framed : slot ≡ 255 → closed (drop place b) ≡ None
      framed e = by T
        where
          by : AnyTag b slots place slot next → closed (drop place b) ≡ None
          by (tag t g q h is) = framed_tag (drop place b) t (drop next b) g q (frame_slot tags slots A.wanted A.table t g (sym is ∙ e)) long
          by (bad s h) = closed_bad (drop place b) (λ z. omega (arith, long)) h

      module _ (n : slot ≡ 255 → ⊥) where
        pub next-inside : next < length b
        next-inside = by T
          where
            by : AnyTag b slots place slot next → next < length b
            by (tag t g q h is) = h
            by (bad s h) = absurd (n s)

        pub slot_room : (slot ≡ 0 → ⊥) → (1 ≤ slot) × (slot ≤ length tags)
        slot_room z = by T
          where
            by : AnyTag b slots place slot next → (1 ≤ slot) × (slot ≤ length tags)
            by (tag t g q h is) = rw is (slot-place tags slots A.wanted A.table t g (λ e. z (is ∙ e)) (λ e. n (is ∙ e)))
            by (bad s h) = absurd (n s)

        pub words_room : (slot ≡ 0 → ⊥) → 2 * (slot - 1) + 1 < length spans
        words_room z = let r = slot_room z in omega (arith, r.0, r.1, P.words.size)

        pub slot_small : (slot ≡ 0 → ⊥) → slot ≤ 254
        slot_small z = let r = slot_room z in omega (arith, r.1, few tags A.wanted)

        pub emptied : get_or b next 0 ≡ 1 → closed (drop place b) ≡ None
        unfolding clear
        emptied e = by T
          where
            by : AnyTag b slots place slot next → closed (drop place b) ≡ None
            by (tag t g q h is) =
                turn_empty (drop place b) t [] (drop (suc next) b) g refl
                (q ∙ ap (λ (l : List ℕ). t ++ (61 ∷ l)) (drop-cons b next 0 h ∙ ap (λ (x : ℕ). x ∷ drop (suc next) b) e)) refl
            by (bad s h) = absurd (n s)

        module _ (m : get_or b next 0 ≡ 1 → ⊥) (to : ℕ) (r : EndOf b (next + 1) to) where
          wide : EndOf b next to
          wide = widen b next to r m

          value : List ℕ
          value = take (to - next) (drop next b)

          value_long : length value ≡ to - next
          unfolding value
          value_long = value-length b next to wide

          -- the words that the next field asks for
          further : (spans' : List ℕ) (t : List ℕ) → good_tag t ≡ true → drop place b ≡ t ++ (61 ∷ drop next b) → next < length b → slot ≡ tag_slot slots t
              → Words start tags spans' (P.fs ++ (record { tag = t; value = value } ∷ [])) → Progress b start tags spans' (to + 1)
          unfolding value
          further spans' t g q h is w =
              let far = tag_length b t place next q h in
              let cut = q ∙ ap (λ (l : List ℕ). t ++ (61 ∷ l)) (split_value b next to wide) in
              let filled : 0 < length value = omega (arith, value_long, r.first) in
              let body = turn_body (drop place b) t value (drop (to + 1) b) g (value-clear b next to wide) cut filled
              (λ s. n (is ∙ slot_frame tags slots A.wanted A.table t g s)) in
              record {
                fs = P.fs ++ (record { tag = t; value = value } ∷ []);
                so_far = P.so_far ∙ ap (all_in_front P.fs) body ∙ sym (front-snoc P.fs (record { tag = t; value = value }) (closed (drop (to + 1) b)));
                words = w;
                is = omega (arith, P.is, far, value_long, r.first, snoc_length P.fs (record { tag = t; value = value }));
                from_two = omega (arith, P.from_two, r.first);
                inside = omega (arith, r.inside);
                before = ap (λ (k : ℕ). get_or b k 0) (let z : to + 1 - 1 ≡ to = omega arith in z) ∙ r.ends;
              }

          pub onwards_skip : slot ≡ 0 → Progress b start tags spans (to + 1)
          onwards_skip z = by T
            where
              by : AnyTag b slots place slot next → Progress b start tags spans (to + 1)
              by (tag t g q h is) =
                  further spans t g q h is
                  (words_skip start tags spans P.fs (record { tag = t; value = value }) P.words
                  (λ j l. has_slot tags slots A.wanted A.table t g j l ∙ ne_eqb (tag_slot slots t) (1 + j) (λ e. omega (arith, z, is, e))))
              by (bad s h) = absurd (n s)

          pub onwards_noted : (slot ≡ 0 → ⊥) → (at : ℕ) → at ≡ 2 * (slot - 1) → (spans' : List ℕ) → spans' ≡ noted_at spans at next to
              → Progress b start tags spans' (to + 1)
          onwards_noted z at p spans' e =
              subst (λ (l : List ℕ). Progress b start tags l (to + 1)) (sym (e ∙ ap (λ (k : ℕ). noted_at spans k next to) p)) (by T)
            where
              by : AnyTag b slots place slot next → Progress b start tags (noted_at spans (2 * (slot - 1)) next to) (to + 1)
              by (tag t g q h is) =
                  let room = slot_room z in
                  let has : (j : ℕ) (l : j < length tags) → has_tag (decimal_of (get_or tags j 0)) (record { tag = t; value = value }) ≡ eqb (tag_slot slots t) (1 + j) =
                  λ j l. has_slot tags slots A.wanted A.table t g j l in
                  further (noted_at spans (2 * (slot - 1)) next to) t g q h is
                  (words_noted start tags spans P.fs (record { tag = t; value = value }) P.words
                  (omega (arith, A.small, P.is, P.inside)) (slot - 1) (omega (arith, room.0, room.1))
                  (has (slot - 1) (omega (arith, room.0, room.1)) ∙ eq-eqb (tag_slot slots t) (1 + (slot - 1)) (omega (arith, is, room.0)))
                  (λ j l o. has j l ∙ ne_eqb (tag_slot slots t) (1 + j) (λ e. o (omega (arith, is, e))))
                  next to (omega (arith, tag_length b t place next q h, P.is)) (sym value_long))
              by (bad s h) = absurd (n s)

          pub farther : place < to + 1
          farther = by T
            where
              by : AnyTag b slots place slot next → place < to + 1
              by (tag t g q h is) = omega (arith, tag_length b t place next q h, r.first)
              by (bad s h) = absurd (n s)

          pub to_small : to < 2147483648
          to_small = omega (arith, r.inside, A.small)
