-- `fix_scan::put_row` meets its contract: the frame and the fields decide, and the row is that of `turn_by`.
use Rattle.std.proofs.Common.{Option}
use Prim.Native.Nat.{ℕ, ◌*◌}
use mathlib.Core.Path.{ap, subst, ◌∙◌}
use native.Mathlib.Omega.{arith}
use lib.ListN.{length, length-replicate, length-set}
use Rattle.fix_any_frame.specs.declared.AnyFrame.{AnyFrame}
use Rattle.fix_any_frame.specs.AnyFrames.{AnyFrameFound}
use Rattle.fix_scan.proofs.Rowing.{wrong_turn, no_row, zeros_part, nothing_behind, not_spanned, is_spanned, message_turn}
use Rattle.fix_scan.proofs.put_row.Goals as goal

pub put_wrong-requires : goal.put_wrong-requires
put_wrong-requires c = (omega (arith, c.requires.0.wide), c.requires.0.small)

pub returns-in_default : goal.returns-in_default
returns-in_default c =
    wrong_turn c.args.tags.now c.args.m.now c.args.at (length c.args.m.now) (length c.args.words.now) c.put_wrong.new.row c.requires.0.wide c.put_wrong.ensures
    (no_row c.args.tags.now c.args.m.now (subst (λ (r : Option AnyFrame). AnyFrameFound c.args.m.now r) c.in_default.is c.frame_any.ensures))

pub slice_bounds-spans_any-count : goal.slice_bounds-spans_any-count
slice_bounds-spans_any-count c = omega (arith, c.requires.0.wide, ap length c.clear.ensures ∙ length-replicate {A = ℕ} (length c.args.words.now) 0)

pub slice_bounds-spans_any-start : goal.slice_bounds-spans_any-start
slice_bounds-spans_any-start c = omega (arith, c.requires.0.wide, ap length c.clear.ensures ∙ length-replicate {A = ℕ} (length c.args.words.now) 0)

pub spans_any-requires : goal.spans_any-requires
spans_any-requires c =
    let F = subst (λ (r : Option AnyFrame). AnyFrameFound c.args.m.now r) c.in-Some.is c.frame_any.ensures in
    record {
      ends = F.ends;
      small = c.requires.1;
      wanted = c.requires.0.wanted;
      table = c.requires.0.table;
      zeros = zeros_part c.clear.new.words (length c.args.words.now) (2 * length c.args.tags.now) c.clear.ensures c.requires.0.wide;
    }

pub put_wrong-requires-then-not-spans_any : goal.put_wrong-requires-then-not-spans_any
put_wrong-requires-then-not-spans_any c = (omega (arith, c.requires.0.wide, c.words-3-1.given.1, ap length c.clear.ensures ∙ length-replicate {A = ℕ} (length c.args.words.now) 0), c.requires.0.small)

pub returns-then-not-spans_any : goal.returns-then-not-spans_any
returns-then-not-spans_any c =
    let F = subst (λ (r : Option AnyFrame). AnyFrameFound c.args.m.now r) c.in-Some.is c.frame_any.ensures in
    wrong_turn c.args.tags.now c.args.m.now c.args.at (length c.args.m.now) _ c.put_wrong-then-not-spans_any.new.row
    (c.words-3-1.given.1 ∙ ap length c.clear.ensures ∙ length-replicate {A = ℕ} (length c.args.words.now) 0 ∙ c.requires.0.wide) c.put_wrong-then-not-spans_any.ensures
    (not_spanned c.args.tags.now c.args.m.now c.in-Some.frame.kind c.in-Some.frame.start c.in-Some.frame.end F
    c.spans_any.new.spans c.spans_any.result c.spans_any.ensures (c.if-not-spans_any.true))

pub word-requires : goal.word-requires
word-requires c = c.requires.0.small

pub bounds-words-0 : goal.bounds-words-0
bounds-words-0 c = omega (arith, c.requires.0.wide, c.words-3-1.given.1, ap length c.clear.ensures ∙ length-replicate {A = ℕ} (length c.args.words.now) 0)

pub word-requires-2 : goal.word-requires-2
word-requires-2 c = omega (arith, c.requires.1)

pub bounds-words-1 : goal.bounds-words-1
bounds-words-1 c = simp length-set (omega (arith, c.requires.0.wide, c.words-3-1.given.1, ap length c.clear.ensures ∙ length-replicate {A = ℕ} (length c.args.words.now) 0))

pub bounds-words-3 : goal.bounds-words-3
bounds-words-3 c = simp length-set (omega (arith, c.requires.0.wide, c.words-3-1.given.1, ap length c.clear.ensures ∙ length-replicate {A = ℕ} (length c.args.words.now) 0))

pub returns : goal.returns
returns c =
    let F = subst (λ (r : Option AnyFrame). AnyFrameFound c.args.m.now r) c.in-Some.is c.frame_any.ensures in
    message_turn c.args.tags.now c.args.m.now c.args.at (length c.args.words.now) c.in-Some.frame.kind c.word.result c.word-2.result
    c.clear.new.words c.spans_any.new.spans _ (omega (arith, c.requires.0.wide)) c.clear.ensures
    (nothing_behind c.clear.new.words c.spans_any.new.spans) c.word.ensures c.word-2.ensures
    (is_spanned c.args.tags.now c.args.m.now c.in-Some.frame.kind c.in-Some.frame.start c.in-Some.frame.end F
    c.spans_any.new.spans c.spans_any.result c.spans_any.ensures (c.if-not-spans_any.false))
