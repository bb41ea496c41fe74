-- What fields say, and what they do to the words of an open quantum: those of an event, and any.
use Rattle.std.specs.Prelude.{if◌then◌else◌}
use Prim.Native.Nat.{ℕ, zero, suc, ◌≤◌, ◌<◌}
use native.Mathlib.Omega.{arith}
use mathlib.Core.Path.{◌≡◌, refl, sym, ap, ◌∙◌, subst}
use mathlib.Core.Bool.{Bool, true, false, ◌&&◌}
use mathlib.Core.List.{List, ◌++◌}
use lib.Dec.{eqb, leb}
use lib.ListN.{take, drop, take-append-drop}
use borrow.Author.Tests.{eqb-true, eqb-false, leb-true}
use Rattle.lists.specs.Lists.{within}
use Rattle.lists.proofs.Lists.{both}
use Rattle.rules.specs.declared.Side.TheVariants.{Buy, Sell}
use Rattle.rules.specs.declared.Event.{Event}
use Rattle.rules.specs.declared.Event.TheVariants.{Add, Amend, Cancel, Deal, Tick}
use Rattle.rules.specs.Answers.{Outcome, accepted, refused}
use Rattle.rules.specs.Records.{unsigned_of, unused_zero}
use Rattle.record.specs.declared.Fields.{Fields}
use Rattle.record.specs.Fields.{fields_for, good_fields, event_by, read_fields, numbers}
use Rattle.record.proofs.Reading.{good_tick, says, says_not, only_fifteen, tick_by, fields_say}
use Rattle.quantum_in_place.specs.Events.{StepsFront, StepsWords, StepsFrontRead, StepsRead}
use Rattle.quantum_in_place.proofs.Whole.{number_is, refused_words}

-- ---- the id that good fields have is their event's

four : (k : ℕ) → 1 ≤ k → (k ≡ 1 → ⊥) → (k ≡ 2 → ⊥) → (k ≡ 3 → ⊥) → 4 ≤ k
four k l a b c = omega arith

last : (k : ℕ) → 4 ≤ k → k ≤ 6 → (k ≡ 4 → ⊥) → (k ≡ 5 → ⊥) → k ≡ 6
last k l u a b = omega arith

module _ (f : Fields) (good : good_fields f ≡ true) where
  tick_id : f.kind ≡ 6 → 0 ≡ f.id
  tick_id k =
      let a = eqb f.id 0 in
      let b = eqb (unsigned_of f.price.0) 0 in
      let c = eqb f.volume.0 0 in
      let all : a && b && c ≡ true = good_tick f k refl refl refl ∙ good in
      sym (eqb-true f.id 0 (both a b (both (a && b) c all).0).0)

  known : (1 ≤ f.kind) × (f.kind ≤ 6)
  unfolding good_fields
  known =
      let k = both (leb 1 f.kind) (leb f.kind 6) (both (within 1 6 f.kind) (unused_zero (numbers f)) good).0 in
      (leb-true 1 f.kind k.0, leb-true f.kind 6 k.1)

  id_by : (fields_for (event_by f)).id ≡ f.id
  unfolding event_by
  id_by = go (eqb f.kind 1) (eqb f.kind 2) (eqb f.kind 3) (eqb f.kind 4) (eqb f.kind 5) refl refl refl refl refl
    where
      go : (a b c d e : Bool) → eqb f.kind 1 ≡ a → eqb f.kind 2 ≡ b → eqb f.kind 3 ≡ c → eqb f.kind 4 ≡ d → eqb f.kind 5 ≡ e
          → (fields_for
          (if a then Add f.t f.id Buy f.price f.volume else if b then Add f.t f.id Sell f.price f.volume
          else if c then Amend f.t f.id f.price f.volume else if d then Cancel f.t f.id
          else if e then Deal f.t f.id f.volume else Tick f.t)).id ≡ f.id
      go true b c d e p q r s t = refl
      go false true c d e p q r s t = refl
      go false false true d e p q r s t = refl
      go false false false true e p q r s t = refl
      go false false false false true p q r s t = refl
      go false false false false false p q r s t =
          tick_id
          (last f.kind (four f.kind known.0 (eqb-false f.kind 1 p) (eqb-false f.kind 2 q) (eqb-false f.kind 3 r)) known.1 (eqb-false f.kind 4 s)
          (eqb-false f.kind 5 t))

said_id : (f : Fields) (e : Event) → read_fields f ≡ accepted e → (fields_for e).id ≡ f.id
unfolding read_fields
said_id f e = go (good_fields f) refl
  where
    go : (b : Bool) → good_fields f ≡ b → (if b then accepted (event_by f) else refused 15) ≡ accepted e → (fields_for e).id ≡ f.id
    go true g h = let same : event_by f ≡ e = cc in ap (λ (x : Event). (fields_for x).id) (sym same) ∙ id_by f g
    go false g h = let z : ◌≡◌ {A = ℕ} 0 1 = cc in absurd (omega arith)

-- ---- an event by its fields, and back

module _ (ws ws' : List ℕ) (f : Fields) (n : ℕ) where
  said_is : (e : Event) → f ≡ fields_for e → read_fields f ≡ accepted e
  said_is e h = ap read_fields h ∙ fields_say e

  pub front-said : (e : Event) → f ≡ fields_for e → StepsFrontRead ws (read_fields f) ws' n → StepsFront ws e ws' n
  front-said e h s = subst (λ (o : Outcome Event). StepsFrontRead ws o ws' n) (said_is e h) s

  pub steps-said : (e : Event) → f ≡ fields_for e → StepsRead ws (read_fields f) ws' n → StepsWords ws e ws' n
  steps-said e h s = subst (λ (o : Outcome Event). StepsRead ws o ws' n) (said_is e h) s

  pub steps_read : (e : Event) → read_fields f ≡ accepted e → StepsWords ws e ws' n → StepsRead ws (read_fields f) ws' n
  steps_read e h s = subst (λ (o : Outcome Event). StepsRead ws o ws' n) (sym h) s

  pub tick_read : f.kind ≡ 6 → good_fields f ≡ true → StepsWords ws (Tick f.t) ws' n → StepsRead ws (read_fields f) ws' n
  tick_read k g s = steps_read (Tick f.t) (sym (says f g (tick_by f k))) s

-- fields that say none
pub none_read : (ws : List ℕ) (f : Fields) → good_fields f ≡ false → StepsRead ws (read_fields f) ws 15
none_read ws f g = subst (λ (o : Outcome Event). StepsRead ws o ws 15) (says_not f g) (refl, refl)

-- ---- any fields, by what they do to the words before the notes

-- refused: the notes stay
pub stopped_read : (ws front : List ℕ) (n : ℕ) (o : Outcome Event) → 0 < n → StepsFrontRead (take 522 ws) o front n → StepsRead ws o (front ++ drop 522 ws) n
stopped_read ws front n (accepted e) l s =
    record {
      number = λ row sp es g is. number_is ws front e n s row sp es g is;
      words_after = λ row sp es g is. refused_words ws front e n s row sp es g is l;
    }
stopped_read ws front n (refused k) l s = (s.0, ap (λ (x : List ℕ). x ++ drop 522 ws) s.1 ∙ take-append-drop 522 ws)

-- taken: they say an event
pub record Took (ws front : List ℕ) (f : Fields) (n : ℕ) : Type 0 where
  pub event : Event
  pub is : read_fields f ≡ accepted event
  pub steps : StepsFront (take 522 ws) event front n
  pub id : (fields_for event).id ≡ f.id

pub took : (ws front : List ℕ) (f : Fields) (n : ℕ) → n ≤ 0 → StepsFrontRead (take 522 ws) (read_fields f) front n → Took ws front f n
took ws front f n l s = go (read_fields f) refl s
  where
    go : (o : Outcome Event) → read_fields f ≡ o → StepsFrontRead (take 522 ws) o front n → Took ws front f n
    go (accepted e) h t = record { event = e; is = h; steps = t; id = said_id f e h }
    go (refused k) h t = absurd (omega (arith, l, t.0, only_fifteen f k h))
