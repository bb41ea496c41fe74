-- A small side by its search, a side that got its fifth order by the search from none, a larger one by its old best key's level, which stays
use Prim.Native.Nat.{ℕ, ◌+◌, ◌-◌, ◌≤◌}
use native.Mathlib.Omega.{arith}
use mathlib.Core.Path.{◌≡◌, refl, sym, ap, ◌∙◌, subst}
use mathlib.Core.Bool.{Bool, true, false, ◌&&◌}
use mathlib.Core.List.{List}
use mathlib.Core.Logic.{inl}
use lib.Dec.{leb, eqb}
use lib.ListN.{length, get_or}
use borrow.Author.Rules.{rules}
use borrow.Author.Tests.{eqb-true}
use Rattle.lists.proofs.Lists.{both}
use Rattle.best_quote.specs.declared.Level.{Level}
use Rattle.order_side.specs.declared.Change.{Change}
use Rattle.order_side.specs.Slots.{keys_of, volumes_of, level_in, best_key_in}
use Rattle.order_side.specs.Internal.{StaleLevel, brings}
use Rattle.order_side.proofs.Words.{room_over, room_most}
use Rattle.best_level.specs.Requotes.{Requotes}
use Rattle.best_level.specs.Internal.{IsLevel, level_read}
use Rattle.best_level.proofs.Depths.{own_level, level_small, slots_columns}
use Rattle.best_level.proofs.Parts.{moving_length, moving_count, moving_few, carried, carried_key, part_searchable, part_level, part_none}
use Rattle.best_level.proofs.Starts.{best-key_most}
use Rattle.best_level.proofs.Requotes.{fifth_requotes, same_requotes, sought_requotes}
use Rattle.best_level.proofs.requote.Goals as goal

-- A small side by its search, a side that got its fifth order by the search from none, a larger one by its old best key's level, which stays
-- or gives way to another (Requotes).
module _ (words : List ℕ) (c : Change) (minimum : ℕ) (m : StaleLevel words c minimum) where
  more : 5 ≤ get_or words 192 0 → 5 ≤ length m.after
  more h = omega (arith, h, moving_count words c minimum m)

  five : (b : Bool) → b ≡ (eqb (get_or words 192 0) 5 && brings c) → b ≡ true → get_or words 192 0 ≡ 5
  five b e t = eqb-true (get_or words 192 0) 5 (both (eqb (get_or words 192 0) 5) (brings c) (sym e ∙ t)).0

  -- the side was a small one just where the change brought the fifth order
  was-small : 5 ≤ get_or words 192 0 → (b d : Bool) → b ≡ (eqb (get_or words 192 0) 5 && brings c) → b ≡ d → leb (length m.before) 4 ≡ d
  was-small h b d e f =
      m.grown (more h) ∙ ap (λ (n : ℕ). eqb n 5 && brings c) (sym (moving_count words c minimum m)) ∙ sym e ∙ f

  -- else its words have the level of the old best key
  old-level : leb (length m.before) 4 ≡ false → (l : Level) → l ≡ level_read words → IsLevel m.before l
  old-level large l e = carried words c minimum m large l e

  old-key : (l : Level) → l ≡ level_read words → l.key ≡ best_key_in minimum m.before
  old-key l e = ap (λ (x : Level). x.key) e ∙ carried_key words c minimum m

pub bounds-words-192 : goal.bounds-words-192
bounds-words-192 c =
    let long : length c.args.words.now ≡ 256 = moving_length c.args.words.now c.args.change c.args.minimum.0 c.requires.0 in
    search rules

pub by_small-requires : goal.by_small-requires
by_small-requires c =
    record { change = c.args.change; stale = c.requires.0; few = c.if-count-le4.true; some = c.requires.1 }

pub returns-then-count-le4 : goal.returns-then-count-le4
returns-then-count-le4 c m = c.by_small.ensures _ m

pub by_fifth-fifth-requires : goal.by_fifth-fifth-requires
by_fifth-fifth-requires c =
    record {
      change = c.args.change;
      stale = c.requires.0;
      five = five c.args.words.now c.args.change c.args.minimum.0 c.requires.0 c.is_fifth.result c.is_fifth.ensures c.if-is_fifth.true;
      some = c.requires.1;
    }

pub settled-requires : goal.settled-requires
settled-requires c =
    moving_length c.args.words.now c.args.change c.args.minimum.0 c.requires.0

pub returns-then-is_fifth : goal.returns-then-is_fifth
returns-then-is_fifth c m =
    let n = five c.args.words.now c.args.change c.args.minimum.0 m c.is_fifth.result c.is_fifth.ensures c.if-is_fifth.true in
    subst (Requotes c.args.minimum.0 m.before m.after c.args.change c.settled.new.words) (sym c.settled.ensures.1)
    (fifth_requotes c.args.words.now c.args.change c.args.minimum.0 m (more c.args.words.now c.args.change c.args.minimum.0 m (omega (arith, n)))
    (was-small c.args.words.now c.args.change c.args.minimum.0 m (omega (arith, n)) c.is_fifth.result true c.is_fifth.ensures c.if-is_fifth.true)
    (omega (arith, n)) c.by_fifth-fifth.result c.by_fifth-fifth.ensures c.settled.new.words c.settled.ensures.0)

pub level_of-requires : goal.level_of-requires
level_of-requires c =
    moving_length c.args.words.now c.args.change c.args.minimum.0 c.requires.0

pub moved-old-requires : goal.moved-old-requires
moved-old-requires c =
    let large : (m : StaleLevel c.args.words.now c.args.change c.args.minimum.0) → leb (length m.before) 4 ≡ false = λ m. was-small c.args.words.now c.args.change c.args.minimum.0 m (omega (arith, c.if-count-le4.false)) c.is_fifth.result false c.is_fifth.ensures c.if-is_fifth.false in
    let m = c.requires.0 in
    record {
      before = m.before;
      after = m.after;
      good_before = m.good_before;
      good = m.good;
      changed = m.changed;
      is = old-level c.args.words.now c.args.change c.args.minimum.0 m (large m) c.level_of.result c.level_of.ensures;
    }

pub is_best-requires : goal.is_best-requires
is_best-requires c =
    let old-is : (m : StaleLevel c.args.words.now c.args.change c.args.minimum.0) → c.moved-old.result ≡ level_in m.after (best_key_in c.args.minimum.0 m.before) = λ m.
    let large : (m : StaleLevel c.args.words.now c.args.change c.args.minimum.0) → leb (length m.before) 4 ≡ false = λ m. was-small c.args.words.now c.args.change c.args.minimum.0 m (omega (arith, c.if-count-le4.false)) c.is_fifth.result false c.is_fifth.ensures c.if-is_fifth.false in
    c.moved-old.ensures m.before m.after m.good_before m.good (old-level c.args.words.now c.args.change c.args.minimum.0 m (large m) c.level_of.result c.level_of.ensures) m.changed
    ∙ ap (level_in m.after) (old-key c.args.words.now c.args.change c.args.minimum.0 m c.level_of.result c.level_of.ensures) in
    let m = c.requires.0 in
    level_small (keys_of m.after) (volumes_of m.after) c.moved-old.result (slots_columns m.after m.good)
    (own_level (keys_of m.after) (volumes_of m.after) (best_key_in c.args.minimum.0 m.before) c.moved-old.result (old-is m))

pub put_level-requires : goal.put_level-requires
put_level-requires c =
    moving_length c.args.words.now c.args.change c.args.minimum.0 c.requires.0

pub returns-then-is_best : goal.returns-then-is_best
returns-then-is_best c m =
    let large : (m : StaleLevel c.args.words.now c.args.change c.args.minimum.0) → leb (length m.before) 4 ≡ false = λ m. was-small c.args.words.now c.args.change c.args.minimum.0 m (omega (arith, c.if-count-le4.false)) c.is_fifth.result false c.is_fifth.ensures c.if-is_fifth.false in
    let old-is : (m : StaleLevel c.args.words.now c.args.change c.args.minimum.0) → c.moved-old.result ≡ level_in m.after (best_key_in c.args.minimum.0 m.before) = λ m.
    let large : (m : StaleLevel c.args.words.now c.args.change c.args.minimum.0) → leb (length m.before) 4 ≡ false = λ m. was-small c.args.words.now c.args.change c.args.minimum.0 m (omega (arith, c.if-count-le4.false)) c.is_fifth.result false c.is_fifth.ensures c.if-is_fifth.false in
    c.moved-old.ensures m.before m.after m.good_before m.good (old-level c.args.words.now c.args.change c.args.minimum.0 m (large m) c.level_of.result c.level_of.ensures) m.changed
    ∙ ap (level_in m.after) (old-key c.args.words.now c.args.change c.args.minimum.0 m c.level_of.result c.level_of.ensures) in
    same_requotes c.args.words.now c.args.change c.args.minimum.0 m (more c.args.words.now c.args.change c.args.minimum.0 m (omega (arith, c.if-count-le4.false))) (large m) c.moved-old.result (old-is m)
    (sym c.is_best.ensures ∙ c.if-is_best.true) c.put_level.new.words c.put_level.ensures

pub room-to-requires : goal.room-to-requires
room-to-requires c =
    moving_few c.args.words.now c.args.change c.args.minimum.0 c.requires.0

pub overflow_add-to : goal.overflow_add-to
overflow_add-to c =
    let few = moving_few c.args.words.now c.args.change c.args.minimum.0 c.requires.0 in
    let over = room_over (get_or c.args.words.now 192 0) c.room-to.result c.room-to.ensures in
    let most = room_most (get_or c.args.words.now 192 0) c.room-to.result few c.room-to.ensures in
    record { fits = omega (arith, most) }

pub slice_bounds-sought-end : goal.slice_bounds-sought-end
slice_bounds-sought-end c =
    let few = moving_few c.args.words.now c.args.change c.args.minimum.0 c.requires.0 in
    let over = room_over (get_or c.args.words.now 192 0) c.room-to.result c.room-to.ensures in
    let most = room_most (get_or c.args.words.now 192 0) c.room-to.result few c.room-to.ensures in
    let long : length c.args.words.now ≡ 256 = moving_length c.args.words.now c.args.change c.args.minimum.0 c.requires.0 in
    search rules

pub overflow_add-to-2 : goal.overflow_add-to-2
overflow_add-to-2 c =
    let few = moving_few c.args.words.now c.args.change c.args.minimum.0 c.requires.0 in
    let over = room_over (get_or c.args.words.now 192 0) c.room-to.result c.room-to.ensures in
    let most = room_most (get_or c.args.words.now 192 0) c.room-to.result few c.room-to.ensures in
    record { fits = omega (arith, most) }

pub slice_bounds-sought-end-2 : goal.slice_bounds-sought-end-2
slice_bounds-sought-end-2 c =
    let few = moving_few c.args.words.now c.args.change c.args.minimum.0 c.requires.0 in
    let over = room_over (get_or c.args.words.now 192 0) c.room-to.result c.room-to.ensures in
    let most = room_most (get_or c.args.words.now 192 0) c.room-to.result few c.room-to.ensures in
    let long : length c.args.words.now ≡ 256 = moving_length c.args.words.now c.args.change c.args.minimum.0 c.requires.0 in
    search rules

pub sought-best-requires : goal.sought-best-requires
sought-best-requires c =
    let old-is : (m : StaleLevel c.args.words.now c.args.change c.args.minimum.0) → c.moved-old.result ≡ level_in m.after (best_key_in c.args.minimum.0 m.before) = λ m.
    let large : (m : StaleLevel c.args.words.now c.args.change c.args.minimum.0) → leb (length m.before) 4 ≡ false = λ m. was-small c.args.words.now c.args.change c.args.minimum.0 m (omega (arith, c.if-count-le4.false)) c.is_fifth.result false c.is_fifth.ensures c.if-is_fifth.false in
    c.moved-old.ensures m.before m.after m.good_before m.good (old-level c.args.words.now c.args.change c.args.minimum.0 m (large m) c.level_of.result c.level_of.ensures) m.changed
    ∙ ap (level_in m.after) (old-key c.args.words.now c.args.change c.args.minimum.0 m c.level_of.result c.level_of.ensures) in
    let few = moving_few c.args.words.now c.args.change c.args.minimum.0 c.requires.0 in
    let over = room_over (get_or c.args.words.now 192 0) c.room-to.result c.room-to.ensures in
    let most = room_most (get_or c.args.words.now 192 0) c.room-to.result few c.room-to.ensures in
    let a = c.args in
    let m = c.requires.0 in
    let en : 64 + c.room-to.result - 64 ≡ c.room-to.result = omega arith in
    let ek : 128 + c.room-to.result - 128 ≡ c.room-to.result = omega arith in
    let key : c.moved-old.result.key ≤ 2000000001 = best-key_most a.minimum.0 m.before m.good_before m.after c.moved-old.result (old-is m) in (
      part_searchable c.args.words.now c.args.change c.args.minimum.0 m c.room-to.result (64 + c.room-to.result - 64) (128 + c.room-to.result - 128) en ek over most c.moved-old.result.key key,
      own_level (keys_of m.after) (volumes_of m.after) (best_key_in a.minimum.0 m.before) c.moved-old.result (old-is m)
          ∙ sym (part_level c.args.words.now c.args.change c.args.minimum.0 m c.room-to.result (64 + c.room-to.result - 64) (128 + c.room-to.result - 128) en ek over most c.moved-old.result.key),
      sym c.is_best.ensures ∙ c.if-is_best.false,
      c.requires.1,
      record { none = part_none c.args.words.now c.args.change c.args.minimum.0 m c.room-to.result (64 + c.room-to.result - 64) (128 + c.room-to.result - 128) en ek over most; below = inl refl },
    )

pub settled-requires-2 : goal.settled-requires-2
settled-requires-2 c =
    moving_length c.args.words.now c.args.change c.args.minimum.0 c.requires.0

pub returns : goal.returns
returns c m =
    let large : (m : StaleLevel c.args.words.now c.args.change c.args.minimum.0) → leb (length m.before) 4 ≡ false = λ m. was-small c.args.words.now c.args.change c.args.minimum.0 m (omega (arith, c.if-count-le4.false)) c.is_fifth.result false c.is_fifth.ensures c.if-is_fifth.false in
    let old-is : (m : StaleLevel c.args.words.now c.args.change c.args.minimum.0) → c.moved-old.result ≡ level_in m.after (best_key_in c.args.minimum.0 m.before) = λ m.
    let large : (m : StaleLevel c.args.words.now c.args.change c.args.minimum.0) → leb (length m.before) 4 ≡ false = λ m. was-small c.args.words.now c.args.change c.args.minimum.0 m (omega (arith, c.if-count-le4.false)) c.is_fifth.result false c.is_fifth.ensures c.if-is_fifth.false in
    c.moved-old.ensures m.before m.after m.good_before m.good (old-level c.args.words.now c.args.change c.args.minimum.0 m (large m) c.level_of.result c.level_of.ensures) m.changed
    ∙ ap (level_in m.after) (old-key c.args.words.now c.args.change c.args.minimum.0 m c.level_of.result c.level_of.ensures) in
    let few = moving_few c.args.words.now c.args.change c.args.minimum.0 c.requires.0 in
    let over = room_over (get_or c.args.words.now 192 0) c.room-to.result c.room-to.ensures in
    let most = room_most (get_or c.args.words.now 192 0) c.room-to.result few c.room-to.ensures in
    let en : 64 + c.room-to.result - 64 ≡ c.room-to.result = omega arith in
    let ek : 128 + c.room-to.result - 128 ≡ c.room-to.result = omega arith in
    subst (Requotes c.args.minimum.0 m.before m.after c.args.change c.settled-2.new.words) (sym c.settled-2.ensures.1)
    (sought_requotes c.args.words.now c.args.change c.args.minimum.0 m (more c.args.words.now c.args.change c.args.minimum.0 m (omega (arith, c.if-count-le4.false))) (large m) c.moved-old.result (old-is m)
    c.room-to.result (64 + c.room-to.result - 64) (128 + c.room-to.result - 128) en ek over most c.sought-best.result c.sought-best.ensures c.settled-2.new.words c.settled-2.ensures.0)
