-- Each level tried is a guess whose sums, with those for the candidates that are left, are W3's number (`first_counted`, `second-counted`,
use Prim.Native.Nat.{ℕ, ◌≤◌}
use native.Mathlib.Omega.{arith}
use mathlib.Core.Path.{◌≡◌, sym, ap, ◌∙◌, subst}
use mathlib.Core.Bool.{false}
use mathlib.Core.List.{List}
use borrow.Author.Rules.{rules}
use Rattle.best_quote.specs.declared.Level.{Level}
use Rattle.best_quote.specs.Levels.{Searchable, is_best, level_at}
use Rattle.best_level.specs.declared.Guess.{Guess}
use Rattle.best_level.specs.Internal.{Open, next_level, with_level}
use Rattle.best_level.proofs.Depths.{own_level, level_small}
use Rattle.best_level.proofs.Starts as S
use Rattle.best_level.proofs.Starts.{Near, counted, known, first_keys, second_keys, last_keys, all_sums}
use Rattle.best_level.proofs.sought.Goals as goal

-- Each level tried is a guess whose sums, with those for the candidates that are left, are W3's number (`first_counted`, `second-counted`,
-- `change-counted`); the best one is taken, or searched for from what they found.
-- columns that can be searched from one key can be from another
from_key : (ks vs : List ℕ) (start : ℕ) → Searchable ks vs start → (n : ℕ) → n ≤ 2000000001 → Searchable ks vs n
from_key ks vs start s n h = record { columns = s.columns; few = s.few; keys = s.keys; start_most = h }

pub tried-first-requires : goal.tried-first-requires
tried-first-requires c =
    let a = c.args in (
      level_small a.keys.now a.volumes.now c.stepped.result c.requires.0.columns
          (own_level a.keys.now a.volumes.now _ c.stepped.result c.stepped.ensures),
      omega arith,
    )

pub is_best-requires : goal.is_best-requires
is_best-requires c =
    let near_first : let a = c.args in Near a.minimum.0 a.keys.now a.volumes.now c.tried-first.result =
    let first-is : let a = c.args in c.tried-first.result ≡ with_level (known a.minimum.0 a.keys.now a.volumes.now a.old) (next_level a.minimum.0 a.keys.now a.volumes.now a.old) a.minimum.0 = let a = c.args in
    c.tried-first.ensures ∙ ap (λ (l : Level). with_level (known a.minimum.0 a.keys.now a.volumes.now a.old) l a.minimum.0) c.stepped.ensures in
    let a = c.args in
    subst (Near a.minimum.0 a.keys.now a.volumes.now) (sym (first-is))
    (S.near_stepped a.minimum.0 a.keys.now a.volumes.now (λ l h. from_key a.keys.now a.volumes.now a.old.key c.requires.0 l.key h) c.requires.3 c.requires.4.none
    (known a.minimum.0 a.keys.now a.volumes.now a.old) (S.near_known a.minimum.0 a.keys.now a.volumes.now a.old c.requires.1 c.requires.0.start_most) c.requires.2) in
    let a = c.args in
    level_small a.keys.now a.volumes.now c.tried-first.result.level c.requires.0.columns (near_first).is

pub returns-then-is_best : goal.returns-then-is_best
returns-then-is_best c =
    let near_first : let a = c.args in Near a.minimum.0 a.keys.now a.volumes.now c.tried-first.result =
    let first-is : let a = c.args in c.tried-first.result ≡ with_level (known a.minimum.0 a.keys.now a.volumes.now a.old) (next_level a.minimum.0 a.keys.now a.volumes.now a.old) a.minimum.0 = let a = c.args in
    c.tried-first.ensures ∙ ap (λ (l : Level). with_level (known a.minimum.0 a.keys.now a.volumes.now a.old) l a.minimum.0) c.stepped.ensures in
    let a = c.args in
    subst (Near a.minimum.0 a.keys.now a.volumes.now) (sym (first-is))
    (S.near_stepped a.minimum.0 a.keys.now a.volumes.now (λ l h. from_key a.keys.now a.volumes.now a.old.key c.requires.0 l.key h) c.requires.3 c.requires.4.none
    (known a.minimum.0 a.keys.now a.volumes.now a.old) (S.near_known a.minimum.0 a.keys.now a.volumes.now a.old c.requires.1 c.requires.0.start_most) c.requires.2) in
    let count-first : let a = c.args in all_sums a.minimum.0 a.keys.now a.volumes.now a.old a.key ≡ counted a.minimum.0 a.keys.now a.volumes.now c.tried-first.result (first_keys a.minimum.0 a.keys.now a.volumes.now a.key c.tried-first.result.level) =
    let first-is : let a = c.args in c.tried-first.result ≡ with_level (known a.minimum.0 a.keys.now a.volumes.now a.old) (next_level a.minimum.0 a.keys.now a.volumes.now a.old) a.minimum.0 = let a = c.args in
    c.tried-first.ensures ∙ ap (λ (l : Level). with_level (known a.minimum.0 a.keys.now a.volumes.now a.old) l a.minimum.0) c.stepped.ensures in
    let a = c.args in
    subst (λ (g : Guess). all_sums a.minimum.0 a.keys.now a.volumes.now a.old a.key ≡ counted a.minimum.0 a.keys.now a.volumes.now g (first_keys a.minimum.0 a.keys.now a.volumes.now a.key g.level)) (sym (first-is))
    (S.first_counted a.minimum.0 a.keys.now a.volumes.now (λ l h. from_key a.keys.now a.volumes.now a.old.key c.requires.0 l.key h) c.requires.3 c.requires.4.none
    a.old a.key (S.near_known a.minimum.0 a.keys.now a.volumes.now a.old c.requires.1 c.requires.0.start_most) c.requires.2) in
    let a = c.args in
    let best = sym c.is_best.ensures ∙ c.if-is_best.true in
    S.sought_guess a.minimum.0 a.keys.now a.volumes.now a.old a.key c.tried-first.result c.taken.result (near_first).is best
    (count-first ∙ S.first_ends a.minimum.0 a.keys.now a.volumes.now c.tried-first.result a.key best) c.taken.ensures

pub farther-second-requires : goal.farther-second-requires
farther-second-requires c =
    let near_first : let a = c.args in Near a.minimum.0 a.keys.now a.volumes.now c.tried-first.result =
    let first-is : let a = c.args in c.tried-first.result ≡ with_level (known a.minimum.0 a.keys.now a.volumes.now a.old) (next_level a.minimum.0 a.keys.now a.volumes.now a.old) a.minimum.0 = let a = c.args in
    c.tried-first.ensures ∙ ap (λ (l : Level). with_level (known a.minimum.0 a.keys.now a.volumes.now a.old) l a.minimum.0) c.stepped.ensures in
    let a = c.args in
    subst (Near a.minimum.0 a.keys.now a.volumes.now) (sym (first-is))
    (S.near_stepped a.minimum.0 a.keys.now a.volumes.now (λ l h. from_key a.keys.now a.volumes.now a.old.key c.requires.0 l.key h) c.requires.3 c.requires.4.none
    (known a.minimum.0 a.keys.now a.volumes.now a.old) (S.near_known a.minimum.0 a.keys.now a.volumes.now a.old c.requires.1 c.requires.0.start_most) c.requires.2) in
    let one : c.tried-first.result.sums ≤ 1 =
    let first-is : let a = c.args in c.tried-first.result ≡ with_level (known a.minimum.0 a.keys.now a.volumes.now a.old) (next_level a.minimum.0 a.keys.now a.volumes.now a.old) a.minimum.0 = let a = c.args in
    c.tried-first.ensures ∙ ap (λ (l : Level). with_level (known a.minimum.0 a.keys.now a.volumes.now a.old) l a.minimum.0) c.stepped.ensures in
    let a = c.args in
    let is = ap (λ (g : Guess). g.sums) (first-is) in
    omega (arith, is, S.with_sums a.minimum.0 a.keys.now a.volumes.now (known a.minimum.0 a.keys.now a.volumes.now a.old) (next_level a.minimum.0 a.keys.now a.volumes.now a.old)) in
    let not_first : is_best c.tried-first.result.level c.args.minimum.0 ≡ false = sym c.is_best.ensures ∙ c.if-is_best.false in
    let a = c.args in
    let h = near_first in (
      from_key a.keys.now a.volumes.now a.old.key c.requires.0 c.tried-first.result.level.key h.most,
      h.is,
      not_first,
      c.requires.3,
      c.requires.4,
      omega (arith, one),
    )

pub is_best-requires-2 : goal.is_best-requires-2
is_best-requires-2 c =
    let near-second : let a = c.args in Near a.minimum.0 a.keys.now a.volumes.now c.farther-second.result =
    let near_first : let a = c.args in Near a.minimum.0 a.keys.now a.volumes.now c.tried-first.result =
    let first-is : let a = c.args in c.tried-first.result ≡ with_level (known a.minimum.0 a.keys.now a.volumes.now a.old) (next_level a.minimum.0 a.keys.now a.volumes.now a.old) a.minimum.0 = let a = c.args in
    c.tried-first.ensures ∙ ap (λ (l : Level). with_level (known a.minimum.0 a.keys.now a.volumes.now a.old) l a.minimum.0) c.stepped.ensures in
    let a = c.args in
    subst (Near a.minimum.0 a.keys.now a.volumes.now) (sym (first-is))
    (S.near_stepped a.minimum.0 a.keys.now a.volumes.now (λ l h. from_key a.keys.now a.volumes.now a.old.key c.requires.0 l.key h) c.requires.3 c.requires.4.none
    (known a.minimum.0 a.keys.now a.volumes.now a.old) (S.near_known a.minimum.0 a.keys.now a.volumes.now a.old c.requires.1 c.requires.0.start_most) c.requires.2) in
    let not_first : is_best c.tried-first.result.level c.args.minimum.0 ≡ false = sym c.is_best.ensures ∙ c.if-is_best.false in
    let a = c.args in
    subst (Near a.minimum.0 a.keys.now a.volumes.now) (sym c.farther-second.ensures)
    (S.near_farther a.minimum.0 a.keys.now a.volumes.now (λ l h. from_key a.keys.now a.volumes.now a.old.key c.requires.0 l.key h) c.requires.3 c.requires.4.none
    c.tried-first.result (near_first) (not_first)) in
    let a = c.args in
    level_small a.keys.now a.volumes.now c.farther-second.result.level c.requires.0.columns (near-second).is

pub returns-then-is_best-2 : goal.returns-then-is_best-2
returns-then-is_best-2 c =
    let near-second : let a = c.args in Near a.minimum.0 a.keys.now a.volumes.now c.farther-second.result =
    let near_first : let a = c.args in Near a.minimum.0 a.keys.now a.volumes.now c.tried-first.result =
    let first-is : let a = c.args in c.tried-first.result ≡ with_level (known a.minimum.0 a.keys.now a.volumes.now a.old) (next_level a.minimum.0 a.keys.now a.volumes.now a.old) a.minimum.0 = let a = c.args in
    c.tried-first.ensures ∙ ap (λ (l : Level). with_level (known a.minimum.0 a.keys.now a.volumes.now a.old) l a.minimum.0) c.stepped.ensures in
    let a = c.args in
    subst (Near a.minimum.0 a.keys.now a.volumes.now) (sym (first-is))
    (S.near_stepped a.minimum.0 a.keys.now a.volumes.now (λ l h. from_key a.keys.now a.volumes.now a.old.key c.requires.0 l.key h) c.requires.3 c.requires.4.none
    (known a.minimum.0 a.keys.now a.volumes.now a.old) (S.near_known a.minimum.0 a.keys.now a.volumes.now a.old c.requires.1 c.requires.0.start_most) c.requires.2) in
    let not_first : is_best c.tried-first.result.level c.args.minimum.0 ≡ false = sym c.is_best.ensures ∙ c.if-is_best.false in
    let a = c.args in
    subst (Near a.minimum.0 a.keys.now a.volumes.now) (sym c.farther-second.ensures)
    (S.near_farther a.minimum.0 a.keys.now a.volumes.now (λ l h. from_key a.keys.now a.volumes.now a.old.key c.requires.0 l.key h) c.requires.3 c.requires.4.none
    c.tried-first.result (near_first) (not_first)) in
    let count-second : let a = c.args in all_sums a.minimum.0 a.keys.now a.volumes.now a.old a.key ≡ counted a.minimum.0 a.keys.now a.volumes.now c.farther-second.result (second_keys a.minimum.0 a.keys.now a.volumes.now a.key c.farther-second.result.level) =
    let near_first : let a = c.args in Near a.minimum.0 a.keys.now a.volumes.now c.tried-first.result =
    let first-is : let a = c.args in c.tried-first.result ≡ with_level (known a.minimum.0 a.keys.now a.volumes.now a.old) (next_level a.minimum.0 a.keys.now a.volumes.now a.old) a.minimum.0 = let a = c.args in
    c.tried-first.ensures ∙ ap (λ (l : Level). with_level (known a.minimum.0 a.keys.now a.volumes.now a.old) l a.minimum.0) c.stepped.ensures in
    let a = c.args in
    subst (Near a.minimum.0 a.keys.now a.volumes.now) (sym (first-is))
    (S.near_stepped a.minimum.0 a.keys.now a.volumes.now (λ l h. from_key a.keys.now a.volumes.now a.old.key c.requires.0 l.key h) c.requires.3 c.requires.4.none
    (known a.minimum.0 a.keys.now a.volumes.now a.old) (S.near_known a.minimum.0 a.keys.now a.volumes.now a.old c.requires.1 c.requires.0.start_most) c.requires.2) in
    let count-first : let a = c.args in all_sums a.minimum.0 a.keys.now a.volumes.now a.old a.key ≡ counted a.minimum.0 a.keys.now a.volumes.now c.tried-first.result (first_keys a.minimum.0 a.keys.now a.volumes.now a.key c.tried-first.result.level) =
    let first-is : let a = c.args in c.tried-first.result ≡ with_level (known a.minimum.0 a.keys.now a.volumes.now a.old) (next_level a.minimum.0 a.keys.now a.volumes.now a.old) a.minimum.0 = let a = c.args in
    c.tried-first.ensures ∙ ap (λ (l : Level). with_level (known a.minimum.0 a.keys.now a.volumes.now a.old) l a.minimum.0) c.stepped.ensures in
    let a = c.args in
    subst (λ (g : Guess). all_sums a.minimum.0 a.keys.now a.volumes.now a.old a.key ≡ counted a.minimum.0 a.keys.now a.volumes.now g (first_keys a.minimum.0 a.keys.now a.volumes.now a.key g.level)) (sym (first-is))
    (S.first_counted a.minimum.0 a.keys.now a.volumes.now (λ l h. from_key a.keys.now a.volumes.now a.old.key c.requires.0 l.key h) c.requires.3 c.requires.4.none
    a.old a.key (S.near_known a.minimum.0 a.keys.now a.volumes.now a.old c.requires.1 c.requires.0.start_most) c.requires.2) in
    let not_first : is_best c.tried-first.result.level c.args.minimum.0 ≡ false = sym c.is_best.ensures ∙ c.if-is_best.false in
    let a = c.args in
    subst (λ (g : Guess). all_sums a.minimum.0 a.keys.now a.volumes.now a.old a.key ≡ counted a.minimum.0 a.keys.now a.volumes.now g (second_keys a.minimum.0 a.keys.now a.volumes.now a.key g.level)) (sym c.farther-second.ensures)
    (count-first
    ∙ S.second-counted a.minimum.0 a.keys.now a.volumes.now (λ l h. from_key a.keys.now a.volumes.now a.old.key c.requires.0 l.key h) c.requires.3 c.requires.4.none
    c.tried-first.result a.key (near_first) (not_first)) in
    let a = c.args in
    let best = sym c.is_best-2.ensures ∙ c.if-is_best-2.true in
    S.sought_guess a.minimum.0 a.keys.now a.volumes.now a.old a.key c.farther-second.result c.taken-then-is_best-2.result (near-second).is best
    (count-second ∙ S.second-ends a.minimum.0 a.keys.now a.volumes.now c.farther-second.result a.key best) c.taken-then-is_best-2.ensures

pub at_change-last-requires : goal.at_change-last-requires
at_change-last-requires c =
    let two : c.farther-second.result.sums ≤ 2 =
    let one : c.tried-first.result.sums ≤ 1 =
    let first-is : let a = c.args in c.tried-first.result ≡ with_level (known a.minimum.0 a.keys.now a.volumes.now a.old) (next_level a.minimum.0 a.keys.now a.volumes.now a.old) a.minimum.0 = let a = c.args in
    c.tried-first.ensures ∙ ap (λ (l : Level). with_level (known a.minimum.0 a.keys.now a.volumes.now a.old) l a.minimum.0) c.stepped.ensures in
    let a = c.args in
    let is = ap (λ (g : Guess). g.sums) (first-is) in
    omega (arith, is, S.with_sums a.minimum.0 a.keys.now a.volumes.now (known a.minimum.0 a.keys.now a.volumes.now a.old) (next_level a.minimum.0 a.keys.now a.volumes.now a.old)) in
    let a = c.args in
    let is = ap (λ (g : Guess). g.sums) c.farther-second.ensures in
    omega (arith, is, one, S.farther_sums a.minimum.0 a.keys.now a.volumes.now c.tried-first.result) in
    (c.requires.0.columns, omega (arith, two))

pub is_best-requires-3 : goal.is_best-requires-3
is_best-requires-3 c =
    let last-level : let a = c.args in c.at_change-last.result.level ≡ level_at a.keys.now a.volumes.now c.at_change-last.result.level.key =
    let near-second : let a = c.args in Near a.minimum.0 a.keys.now a.volumes.now c.farther-second.result =
    let near_first : let a = c.args in Near a.minimum.0 a.keys.now a.volumes.now c.tried-first.result =
    let first-is : let a = c.args in c.tried-first.result ≡ with_level (known a.minimum.0 a.keys.now a.volumes.now a.old) (next_level a.minimum.0 a.keys.now a.volumes.now a.old) a.minimum.0 = let a = c.args in
    c.tried-first.ensures ∙ ap (λ (l : Level). with_level (known a.minimum.0 a.keys.now a.volumes.now a.old) l a.minimum.0) c.stepped.ensures in
    let a = c.args in
    subst (Near a.minimum.0 a.keys.now a.volumes.now) (sym (first-is))
    (S.near_stepped a.minimum.0 a.keys.now a.volumes.now (λ l h. from_key a.keys.now a.volumes.now a.old.key c.requires.0 l.key h) c.requires.3 c.requires.4.none
    (known a.minimum.0 a.keys.now a.volumes.now a.old) (S.near_known a.minimum.0 a.keys.now a.volumes.now a.old c.requires.1 c.requires.0.start_most) c.requires.2) in
    let not_first : is_best c.tried-first.result.level c.args.minimum.0 ≡ false = sym c.is_best.ensures ∙ c.if-is_best.false in
    let a = c.args in
    subst (Near a.minimum.0 a.keys.now a.volumes.now) (sym c.farther-second.ensures)
    (S.near_farther a.minimum.0 a.keys.now a.volumes.now (λ l h. from_key a.keys.now a.volumes.now a.old.key c.requires.0 l.key h) c.requires.3 c.requires.4.none
    c.tried-first.result (near_first) (not_first)) in
    let a = c.args in
    subst (λ (g : Guess). g.level ≡ level_at a.keys.now a.volumes.now g.level.key) (sym c.at_change-last.ensures)
    (S.change_is a.minimum.0 a.keys.now a.volumes.now c.farther-second.result a.key (near-second)) in
    let a = c.args in
    level_small a.keys.now a.volumes.now c.at_change-last.result.level c.requires.0.columns (last-level)

pub returns-then-is_best-3 : goal.returns-then-is_best-3
returns-then-is_best-3 c =
    let last-level : let a = c.args in c.at_change-last.result.level ≡ level_at a.keys.now a.volumes.now c.at_change-last.result.level.key =
    let near-second : let a = c.args in Near a.minimum.0 a.keys.now a.volumes.now c.farther-second.result =
    let near_first : let a = c.args in Near a.minimum.0 a.keys.now a.volumes.now c.tried-first.result =
    let first-is : let a = c.args in c.tried-first.result ≡ with_level (known a.minimum.0 a.keys.now a.volumes.now a.old) (next_level a.minimum.0 a.keys.now a.volumes.now a.old) a.minimum.0 = let a = c.args in
    c.tried-first.ensures ∙ ap (λ (l : Level). with_level (known a.minimum.0 a.keys.now a.volumes.now a.old) l a.minimum.0) c.stepped.ensures in
    let a = c.args in
    subst (Near a.minimum.0 a.keys.now a.volumes.now) (sym (first-is))
    (S.near_stepped a.minimum.0 a.keys.now a.volumes.now (λ l h. from_key a.keys.now a.volumes.now a.old.key c.requires.0 l.key h) c.requires.3 c.requires.4.none
    (known a.minimum.0 a.keys.now a.volumes.now a.old) (S.near_known a.minimum.0 a.keys.now a.volumes.now a.old c.requires.1 c.requires.0.start_most) c.requires.2) in
    let not_first : is_best c.tried-first.result.level c.args.minimum.0 ≡ false = sym c.is_best.ensures ∙ c.if-is_best.false in
    let a = c.args in
    subst (Near a.minimum.0 a.keys.now a.volumes.now) (sym c.farther-second.ensures)
    (S.near_farther a.minimum.0 a.keys.now a.volumes.now (λ l h. from_key a.keys.now a.volumes.now a.old.key c.requires.0 l.key h) c.requires.3 c.requires.4.none
    c.tried-first.result (near_first) (not_first)) in
    let a = c.args in
    subst (λ (g : Guess). g.level ≡ level_at a.keys.now a.volumes.now g.level.key) (sym c.at_change-last.ensures)
    (S.change_is a.minimum.0 a.keys.now a.volumes.now c.farther-second.result a.key (near-second)) in
    let count-last : let a = c.args in all_sums a.minimum.0 a.keys.now a.volumes.now a.old a.key ≡ counted a.minimum.0 a.keys.now a.volumes.now c.at_change-last.result (last_keys a.minimum.0 a.keys.now a.volumes.now c.at_change-last.result.level) =
    let near-second : let a = c.args in Near a.minimum.0 a.keys.now a.volumes.now c.farther-second.result =
    let near_first : let a = c.args in Near a.minimum.0 a.keys.now a.volumes.now c.tried-first.result =
    let first-is : let a = c.args in c.tried-first.result ≡ with_level (known a.minimum.0 a.keys.now a.volumes.now a.old) (next_level a.minimum.0 a.keys.now a.volumes.now a.old) a.minimum.0 = let a = c.args in
    c.tried-first.ensures ∙ ap (λ (l : Level). with_level (known a.minimum.0 a.keys.now a.volumes.now a.old) l a.minimum.0) c.stepped.ensures in
    let a = c.args in
    subst (Near a.minimum.0 a.keys.now a.volumes.now) (sym (first-is))
    (S.near_stepped a.minimum.0 a.keys.now a.volumes.now (λ l h. from_key a.keys.now a.volumes.now a.old.key c.requires.0 l.key h) c.requires.3 c.requires.4.none
    (known a.minimum.0 a.keys.now a.volumes.now a.old) (S.near_known a.minimum.0 a.keys.now a.volumes.now a.old c.requires.1 c.requires.0.start_most) c.requires.2) in
    let not_first : is_best c.tried-first.result.level c.args.minimum.0 ≡ false = sym c.is_best.ensures ∙ c.if-is_best.false in
    let a = c.args in
    subst (Near a.minimum.0 a.keys.now a.volumes.now) (sym c.farther-second.ensures)
    (S.near_farther a.minimum.0 a.keys.now a.volumes.now (λ l h. from_key a.keys.now a.volumes.now a.old.key c.requires.0 l.key h) c.requires.3 c.requires.4.none
    c.tried-first.result (near_first) (not_first)) in
    let count-second : let a = c.args in all_sums a.minimum.0 a.keys.now a.volumes.now a.old a.key ≡ counted a.minimum.0 a.keys.now a.volumes.now c.farther-second.result (second_keys a.minimum.0 a.keys.now a.volumes.now a.key c.farther-second.result.level) =
    let near_first : let a = c.args in Near a.minimum.0 a.keys.now a.volumes.now c.tried-first.result =
    let first-is : let a = c.args in c.tried-first.result ≡ with_level (known a.minimum.0 a.keys.now a.volumes.now a.old) (next_level a.minimum.0 a.keys.now a.volumes.now a.old) a.minimum.0 = let a = c.args in
    c.tried-first.ensures ∙ ap (λ (l : Level). with_level (known a.minimum.0 a.keys.now a.volumes.now a.old) l a.minimum.0) c.stepped.ensures in
    let a = c.args in
    subst (Near a.minimum.0 a.keys.now a.volumes.now) (sym (first-is))
    (S.near_stepped a.minimum.0 a.keys.now a.volumes.now (λ l h. from_key a.keys.now a.volumes.now a.old.key c.requires.0 l.key h) c.requires.3 c.requires.4.none
    (known a.minimum.0 a.keys.now a.volumes.now a.old) (S.near_known a.minimum.0 a.keys.now a.volumes.now a.old c.requires.1 c.requires.0.start_most) c.requires.2) in
    let count-first : let a = c.args in all_sums a.minimum.0 a.keys.now a.volumes.now a.old a.key ≡ counted a.minimum.0 a.keys.now a.volumes.now c.tried-first.result (first_keys a.minimum.0 a.keys.now a.volumes.now a.key c.tried-first.result.level) =
    let first-is : let a = c.args in c.tried-first.result ≡ with_level (known a.minimum.0 a.keys.now a.volumes.now a.old) (next_level a.minimum.0 a.keys.now a.volumes.now a.old) a.minimum.0 = let a = c.args in
    c.tried-first.ensures ∙ ap (λ (l : Level). with_level (known a.minimum.0 a.keys.now a.volumes.now a.old) l a.minimum.0) c.stepped.ensures in
    let a = c.args in
    subst (λ (g : Guess). all_sums a.minimum.0 a.keys.now a.volumes.now a.old a.key ≡ counted a.minimum.0 a.keys.now a.volumes.now g (first_keys a.minimum.0 a.keys.now a.volumes.now a.key g.level)) (sym (first-is))
    (S.first_counted a.minimum.0 a.keys.now a.volumes.now (λ l h. from_key a.keys.now a.volumes.now a.old.key c.requires.0 l.key h) c.requires.3 c.requires.4.none
    a.old a.key (S.near_known a.minimum.0 a.keys.now a.volumes.now a.old c.requires.1 c.requires.0.start_most) c.requires.2) in
    let not_first : is_best c.tried-first.result.level c.args.minimum.0 ≡ false = sym c.is_best.ensures ∙ c.if-is_best.false in
    let a = c.args in
    subst (λ (g : Guess). all_sums a.minimum.0 a.keys.now a.volumes.now a.old a.key ≡ counted a.minimum.0 a.keys.now a.volumes.now g (second_keys a.minimum.0 a.keys.now a.volumes.now a.key g.level)) (sym c.farther-second.ensures)
    (count-first
    ∙ S.second-counted a.minimum.0 a.keys.now a.volumes.now (λ l h. from_key a.keys.now a.volumes.now a.old.key c.requires.0 l.key h) c.requires.3 c.requires.4.none
    c.tried-first.result a.key (near_first) (not_first)) in
    let not-second : is_best c.farther-second.result.level c.args.minimum.0 ≡ false = sym c.is_best-2.ensures ∙ c.if-is_best-2.false in
    let a = c.args in
    subst (λ (g : Guess). all_sums a.minimum.0 a.keys.now a.volumes.now a.old a.key ≡ counted a.minimum.0 a.keys.now a.volumes.now g (last_keys a.minimum.0 a.keys.now a.volumes.now g.level)) (sym c.at_change-last.ensures)
    (count-second
    ∙ S.change-counted a.minimum.0 a.keys.now a.volumes.now c.farther-second.result a.key (near-second) (not-second)) in
    let a = c.args in
    let best = sym c.is_best-3.ensures ∙ c.if-is_best-3.true in
    S.sought_guess a.minimum.0 a.keys.now a.volumes.now a.old a.key c.at_change-last.result c.taken-then-is_best-3.result (last-level) best
    (count-last ∙ S.last_ends a.minimum.0 a.keys.now a.volumes.now c.at_change-last.result best) c.taken-then-is_best-3.ensures

pub by_search-requires : goal.by_search-requires
by_search-requires c =
    let near-second : let a = c.args in Near a.minimum.0 a.keys.now a.volumes.now c.farther-second.result =
    let near_first : let a = c.args in Near a.minimum.0 a.keys.now a.volumes.now c.tried-first.result =
    let first-is : let a = c.args in c.tried-first.result ≡ with_level (known a.minimum.0 a.keys.now a.volumes.now a.old) (next_level a.minimum.0 a.keys.now a.volumes.now a.old) a.minimum.0 = let a = c.args in
    c.tried-first.ensures ∙ ap (λ (l : Level). with_level (known a.minimum.0 a.keys.now a.volumes.now a.old) l a.minimum.0) c.stepped.ensures in
    let a = c.args in
    subst (Near a.minimum.0 a.keys.now a.volumes.now) (sym (first-is))
    (S.near_stepped a.minimum.0 a.keys.now a.volumes.now (λ l h. from_key a.keys.now a.volumes.now a.old.key c.requires.0 l.key h) c.requires.3 c.requires.4.none
    (known a.minimum.0 a.keys.now a.volumes.now a.old) (S.near_known a.minimum.0 a.keys.now a.volumes.now a.old c.requires.1 c.requires.0.start_most) c.requires.2) in
    let not_first : is_best c.tried-first.result.level c.args.minimum.0 ≡ false = sym c.is_best.ensures ∙ c.if-is_best.false in
    let a = c.args in
    subst (Near a.minimum.0 a.keys.now a.volumes.now) (sym c.farther-second.ensures)
    (S.near_farther a.minimum.0 a.keys.now a.volumes.now (λ l h. from_key a.keys.now a.volumes.now a.old.key c.requires.0 l.key h) c.requires.3 c.requires.4.none
    c.tried-first.result (near_first) (not_first)) in
    let not-second : is_best c.farther-second.result.level c.args.minimum.0 ≡ false = sym c.is_best-2.ensures ∙ c.if-is_best-2.false in
    let three : c.at_change-last.result.sums ≤ 3 =
    let two : c.farther-second.result.sums ≤ 2 =
    let one : c.tried-first.result.sums ≤ 1 =
    let first-is : let a = c.args in c.tried-first.result ≡ with_level (known a.minimum.0 a.keys.now a.volumes.now a.old) (next_level a.minimum.0 a.keys.now a.volumes.now a.old) a.minimum.0 = let a = c.args in
    c.tried-first.ensures ∙ ap (λ (l : Level). with_level (known a.minimum.0 a.keys.now a.volumes.now a.old) l a.minimum.0) c.stepped.ensures in
    let a = c.args in
    let is = ap (λ (g : Guess). g.sums) (first-is) in
    omega (arith, is, S.with_sums a.minimum.0 a.keys.now a.volumes.now (known a.minimum.0 a.keys.now a.volumes.now a.old) (next_level a.minimum.0 a.keys.now a.volumes.now a.old)) in
    let a = c.args in
    let is = ap (λ (g : Guess). g.sums) c.farther-second.ensures in
    omega (arith, is, one, S.farther_sums a.minimum.0 a.keys.now a.volumes.now c.tried-first.result) in
    let a = c.args in
    let is = ap (λ (g : Guess). g.sums) c.at_change-last.ensures in
    omega (arith, is, two, S.change_sums a.minimum.0 a.keys.now a.volumes.now c.farther-second.result a.key) in
    let not_last : is_best c.at_change-last.result.level c.args.minimum.0 ≡ false = sym c.is_best-3.ensures ∙ c.if-is_best-3.false in
    let a = c.args in
    let last = S.change_opens a.minimum.0 a.keys.now a.volumes.now c.farther-second.result a.key (near-second) (not-second)
    (subst (λ (g : Guess). is_best g.level a.minimum.0 ≡ false) c.at_change-last.ensures (not_last)) c.requires.3 c.requires.4.none c.requires.0.keys in
    let opens = subst (λ (g : Guess). Open a.minimum.0 a.keys.now a.volumes.now g.start × (g.start ≤ 2000000001)) (sym c.at_change-last.ensures) last in (
      from_key a.keys.now a.volumes.now a.old.key c.requires.0 c.at_change-last.result.start opens.1,
      opens.0,
      c.requires.3,
      omega (arith, three),
    )

pub returns : goal.returns
returns c =
    let count-last : let a = c.args in all_sums a.minimum.0 a.keys.now a.volumes.now a.old a.key ≡ counted a.minimum.0 a.keys.now a.volumes.now c.at_change-last.result (last_keys a.minimum.0 a.keys.now a.volumes.now c.at_change-last.result.level) =
    let near-second : let a = c.args in Near a.minimum.0 a.keys.now a.volumes.now c.farther-second.result =
    let near_first : let a = c.args in Near a.minimum.0 a.keys.now a.volumes.now c.tried-first.result =
    let first-is : let a = c.args in c.tried-first.result ≡ with_level (known a.minimum.0 a.keys.now a.volumes.now a.old) (next_level a.minimum.0 a.keys.now a.volumes.now a.old) a.minimum.0 = let a = c.args in
    c.tried-first.ensures ∙ ap (λ (l : Level). with_level (known a.minimum.0 a.keys.now a.volumes.now a.old) l a.minimum.0) c.stepped.ensures in
    let a = c.args in
    subst (Near a.minimum.0 a.keys.now a.volumes.now) (sym (first-is))
    (S.near_stepped a.minimum.0 a.keys.now a.volumes.now (λ l h. from_key a.keys.now a.volumes.now a.old.key c.requires.0 l.key h) c.requires.3 c.requires.4.none
    (known a.minimum.0 a.keys.now a.volumes.now a.old) (S.near_known a.minimum.0 a.keys.now a.volumes.now a.old c.requires.1 c.requires.0.start_most) c.requires.2) in
    let not_first : is_best c.tried-first.result.level c.args.minimum.0 ≡ false = sym c.is_best.ensures ∙ c.if-is_best.false in
    let a = c.args in
    subst (Near a.minimum.0 a.keys.now a.volumes.now) (sym c.farther-second.ensures)
    (S.near_farther a.minimum.0 a.keys.now a.volumes.now (λ l h. from_key a.keys.now a.volumes.now a.old.key c.requires.0 l.key h) c.requires.3 c.requires.4.none
    c.tried-first.result (near_first) (not_first)) in
    let count-second : let a = c.args in all_sums a.minimum.0 a.keys.now a.volumes.now a.old a.key ≡ counted a.minimum.0 a.keys.now a.volumes.now c.farther-second.result (second_keys a.minimum.0 a.keys.now a.volumes.now a.key c.farther-second.result.level) =
    let near_first : let a = c.args in Near a.minimum.0 a.keys.now a.volumes.now c.tried-first.result =
    let first-is : let a = c.args in c.tried-first.result ≡ with_level (known a.minimum.0 a.keys.now a.volumes.now a.old) (next_level a.minimum.0 a.keys.now a.volumes.now a.old) a.minimum.0 = let a = c.args in
    c.tried-first.ensures ∙ ap (λ (l : Level). with_level (known a.minimum.0 a.keys.now a.volumes.now a.old) l a.minimum.0) c.stepped.ensures in
    let a = c.args in
    subst (Near a.minimum.0 a.keys.now a.volumes.now) (sym (first-is))
    (S.near_stepped a.minimum.0 a.keys.now a.volumes.now (λ l h. from_key a.keys.now a.volumes.now a.old.key c.requires.0 l.key h) c.requires.3 c.requires.4.none
    (known a.minimum.0 a.keys.now a.volumes.now a.old) (S.near_known a.minimum.0 a.keys.now a.volumes.now a.old c.requires.1 c.requires.0.start_most) c.requires.2) in
    let count-first : let a = c.args in all_sums a.minimum.0 a.keys.now a.volumes.now a.old a.key ≡ counted a.minimum.0 a.keys.now a.volumes.now c.tried-first.result (first_keys a.minimum.0 a.keys.now a.volumes.now a.key c.tried-first.result.level) =
    let first-is : let a = c.args in c.tried-first.result ≡ with_level (known a.minimum.0 a.keys.now a.volumes.now a.old) (next_level a.minimum.0 a.keys.now a.volumes.now a.old) a.minimum.0 = let a = c.args in
    c.tried-first.ensures ∙ ap (λ (l : Level). with_level (known a.minimum.0 a.keys.now a.volumes.now a.old) l a.minimum.0) c.stepped.ensures in
    let a = c.args in
    subst (λ (g : Guess). all_sums a.minimum.0 a.keys.now a.volumes.now a.old a.key ≡ counted a.minimum.0 a.keys.now a.volumes.now g (first_keys a.minimum.0 a.keys.now a.volumes.now a.key g.level)) (sym (first-is))
    (S.first_counted a.minimum.0 a.keys.now a.volumes.now (λ l h. from_key a.keys.now a.volumes.now a.old.key c.requires.0 l.key h) c.requires.3 c.requires.4.none
    a.old a.key (S.near_known a.minimum.0 a.keys.now a.volumes.now a.old c.requires.1 c.requires.0.start_most) c.requires.2) in
    let not_first : is_best c.tried-first.result.level c.args.minimum.0 ≡ false = sym c.is_best.ensures ∙ c.if-is_best.false in
    let a = c.args in
    subst (λ (g : Guess). all_sums a.minimum.0 a.keys.now a.volumes.now a.old a.key ≡ counted a.minimum.0 a.keys.now a.volumes.now g (second_keys a.minimum.0 a.keys.now a.volumes.now a.key g.level)) (sym c.farther-second.ensures)
    (count-first
    ∙ S.second-counted a.minimum.0 a.keys.now a.volumes.now (λ l h. from_key a.keys.now a.volumes.now a.old.key c.requires.0 l.key h) c.requires.3 c.requires.4.none
    c.tried-first.result a.key (near_first) (not_first)) in
    let not-second : is_best c.farther-second.result.level c.args.minimum.0 ≡ false = sym c.is_best-2.ensures ∙ c.if-is_best-2.false in
    let a = c.args in
    subst (λ (g : Guess). all_sums a.minimum.0 a.keys.now a.volumes.now a.old a.key ≡ counted a.minimum.0 a.keys.now a.volumes.now g (last_keys a.minimum.0 a.keys.now a.volumes.now g.level)) (sym c.at_change-last.ensures)
    (count-second
    ∙ S.change-counted a.minimum.0 a.keys.now a.volumes.now c.farther-second.result a.key (near-second) (not-second)) in
    let not_last : is_best c.at_change-last.result.level c.args.minimum.0 ≡ false = sym c.is_best-3.ensures ∙ c.if-is_best-3.false in
    let a = c.args in
    S.sought_search a.minimum.0 a.keys.now a.volumes.now a.old a.key c.at_change-last.result c.by_search.result
    (count-last ∙ S.last_searches a.minimum.0 a.keys.now a.volumes.now c.at_change-last.result (not_last)) c.by_search.ensures
